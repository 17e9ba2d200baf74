use Rattle.std.proofs.Common.{rules, ◌≡◌, ◌≤◌, ap, ◌∙◌, subst, length, ℕ, List, None}
use Rattle.lk_model.specs.Inputs.{input_words, words_from}
use Rattle.lk_inputs.specs.declared.input_words.InputWord.{InputWord}
use Rattle.lk_inputs.specs.Asked.{FrontAsked, look_ups_of, known_stats}
use Rattle.lk_inputs.specs.LookUps.{inputs_limit}
use Rattle.lk_inputs.specs.Named.{words_seen}
use Rattle.lk_inputs.specs.FileAnswers.{reads_with}
use Rattle.lk_inputs.proofs.PlacesAsked.{look_ups_are, sought_asked, sought_placed, unread_asked}
use Rattle.lk_inputs.proofs.PassesReported.{few_rows, looked_up, unread_gives}
use Rattle.lk_inputs.proofs.word_look_ups.look_up_inputs.Goals as goal

pub returns-in-Ok-look_up_words : goal.returns-in-Ok-look_up_words
returns-in-Ok-look_up_words g c =
    let rows : words_seen c.in-Ok.rows ≡ input_words c.args.command.now = c.in-Ok.ensures ∙ ap (words_from 1) c.as_slice.ensures in
    let looked : words_seen c.as_slice-2.result.now ≡ input_words c.args.command.now = ap words_seen c.as_slice-2.ensures ∙ rows in
    let P : List InputWord → Type 0 = λ l. length l ≤ 4096 in
    let few : inputs_limit c.args.command.now ≡ None = few_rows c.args.command.now c.in-Ok.rows rows (subst P c.as_slice-count.ensures c.if-count-gt-MOST_INPUTS.false) in
    record {
      kept = search rules;
      unread = search rules;
      reported = λ there e.
          looked_up c.args.command.now there (words_seen c.as_slice-2.result.now) c.in-Ok-look_up_words.sought c.all_found.result looked few
          (c.in-Ok-look_up_words.ensures.reported there e) c.all_found.ensures;
      first = search (rules, few);
      limit = search (rules, few);
      few = search (rules, few);
      kinds = search rules;
      faults = search rules;
      named = search rules;
      last = search rules;
      misses = search rules;
      asked = λ there e.
          sought_asked (known_stats (g.F.Files.state c.args.files.now)) (known_stats (g.F.Files.state c.look_up_words.new.files)) (look_ups_of c.args.command.now there) c.in-Ok-look_up_words.sought c.all_found.result c.all_found.ensures
          (c.in-Ok-look_up_words.ensures.asked there e ∙ ap (λ (l : List (List ℕ)). reads_with l (known_stats (g.F.Files.state c.args.files.now))) (look_ups_are c.args.command.now there (words_seen c.as_slice-2.result.now) looked));
      placed = sought_placed c.args.command.now (words_seen c.as_slice-2.result.now) c.in-Ok-look_up_words.sought c.all_found.result looked c.all_found.ensures c.in-Ok-look_up_words.ensures.placed;
      within = search rules;
    }

pub returns : goal.returns
returns g c =
    let rows : words_seen c.in-Ok.rows ≡ input_words c.args.command.now = c.in-Ok.ensures ∙ ap (words_from 1) c.as_slice.ensures in
    let looked : words_seen c.as_slice-2.result.now ≡ input_words c.args.command.now = ap words_seen c.as_slice-2.ensures ∙ rows in
    let P : List InputWord → Type 0 = λ l. length l ≤ 4096 in
    let few : inputs_limit c.args.command.now ≡ None = few_rows c.args.command.now c.in-Ok.rows rows (subst P c.as_slice-count.ensures c.if-count-gt-MOST_INPUTS.false) in
    let F : List (List ℕ) → Type 0 = λ l. FrontAsked (known_stats (g.F.Files.state c.args.files.now)) l (known_stats (g.F.Files.state c.look_up_words.new.files)) in
    record {
      kept = search rules;
      unread = search rules;
      reported = λ there e. unread_gives c.args.command.now there c.in-Err.unread c.status_of.result c.status_of.ensures few;
      first = search (rules, few);
      limit = search (rules, few);
      few = search rules;
      kinds = search rules;
      faults = search rules;
      named = search rules;
      last = search rules;
      misses = search rules;
      asked = λ there e.
          unread_asked (known_stats (g.F.Files.state c.args.files.now)) (known_stats (g.F.Files.state c.look_up_words.new.files)) (look_ups_of c.args.command.now there) c.in-Err.unread c.status_of.result c.status_of.ensures
          (subst F (look_ups_are c.args.command.now there (words_seen c.as_slice-2.result.now) looked) (c.in-Err.ensures.asked there e));
      placed = search rules;
      within = search rules;
    }
