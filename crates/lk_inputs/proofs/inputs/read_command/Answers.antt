use Rattle.std.proofs.Common.{rules, ◌≡◌, ap, subst, ◌∙◌, map, Err}
use Rattle.std.specs.Prelude.{IfOk}
use Rattle.std.proofs.lemmas.Result.{err_from_is_err_and}
use Rattle.lk_inputs.specs.Asked.{Paths, all_places}
use Rattle.lk_inputs.specs.FileAnswers.{known_reads, reads_with}
use Rattle.lk_inputs.specs.Named.{file_path}
use Rattle.lk_inputs.proofs.CommandsAsked.{command_read, command_refused, few_inputs, inputs_placed, named_in_places}
use Rattle.lk_inputs.proofs.PassesReported.{command_reported, look_up_refused}
use Rattle.lk_inputs.proofs.inputs.read_command.Goals as goal

-- the look-ups answer in the inputs' place
pub returns-in_err-names : goal.returns-in_err-names
returns-in_err-names g c =
    let p = err_from_is_err_and c.from_residual.result c.from_residual.ensures.1 in
    let old = g.F.Files.state c.args.files.now in
    let new = g.F.Files.state c.look_up_inputs.new.files in
    let is = p.1 ∙ ap (λ s. Err s) p.2 in
    record {
      kept = c.in_err-names.ensures.kept;
      reported = λ there e. look_up_refused c.args.command.now there _ c.from_residual.result (c.in_err-names.ensures.reported there e) is;
      first = search rules;
      limit = c.in_err-names.ensures.limit;
      kinds = search rules;
      faults = search rules;
      named = search rules;
      last = search rules;
      misses = search rules;
      asked = λ there e.
          command_refused c.args.command.now there old new _ c.from_residual.result is (c.in_err-names.ensures.reported there e) (c.in_err-names.ensures.asked there e) c.in_err-names.ensures.unread;
      reads = search rules;
      sound = search rules;
      alike = search rules;
      placed = search rules;
      few = search rules;
      short = search rules;
      fit = search rules;
    }

-- the reads answer
pub returns : goal.returns
returns g c =
    let old = g.F.Files.state c.args.files.now in
    let mid = g.F.Files.state c.look_up_inputs.new.files in
    let new = g.F.Files.state c.read_named.new.files in
    let places = all_places c.args.command.now in
    record {
      kept = c.read_named.ensures.kept ∙ c.in_ok-names.ensures.kept;
      reported = λ there e. command_reported c.args.command.now there c.in_ok-names.names c.read_named.result (c.in_ok-names.ensures.reported there e) (c.read_named.ensures.reported there (c.in_ok-names.ensures.kept ∙ e));
      first = search rules;
      limit = search rules;
      kinds = search rules;
      faults = search rules;
      named = named_in_places places c.in_ok-names.names c.read_named.result c.in_ok-names.ensures.placed c.read_named.ensures.named;
      last = search rules;
      misses = search rules;
      asked = λ there e.
          command_read c.args.command.now there old mid new c.in_ok-names.names c.read_named.result (c.in_ok-names.ensures.reported there e)
          (c.in_ok-names.ensures.asked there e) c.in_ok-names.ensures.unread c.read_named.ensures.unlooked (c.read_named.ensures.reported there (c.in_ok-names.ensures.kept ∙ e)) c.read_named.ensures.asked;
      reads = subst (λ (before : Paths). IfOk c.read_named.result (λ inputs. known_reads new ≡ reads_with (map file_path inputs.files) before)) c.in_ok-names.ensures.unread c.read_named.ensures.reads;
      sound = c.read_named.ensures.sound;
      alike = c.read_named.ensures.alike;
      placed = inputs_placed places c.in_ok-names.names c.read_named.result c.in_ok-names.ensures.placed c.read_named.ensures.files;
      few = few_inputs c.in_ok-names.names c.read_named.result c.in_ok-names.ensures.within c.read_named.ensures.files;
      short = c.read_named.ensures.short;
      fit = c.read_named.ensures.fit;
    }
