use Rattle.std.proofs.Common.{refl, sym, ap, ◌∙◌, ℕ}
use Rattle.lk_inputs.specs.declared.input_files.InputFile.{InputFile}
use Rattle.lk_inputs.specs.Adding.{lib_length}
use Rattle.lk_inputs.proofs.ItemsAdded.{group_added}
use Rattle.lk_inputs.proofs.adding.add_item.Goals as goal

pub returns-clause-added : goal.returns-clause-added
returns-clause-added c = λ entry paths added e.
    let same = ap (λ (f : InputFile). f.name.lib) (sym c.index-files-0.is) in
    group_added entry paths added c.index-files-0.result.name.lib c.args.first c.lib_length-count.result c.args.files.now c.args.summaries.now c.split_at.result.0.now c.index-files-0.result c.add_members.new.self c.requires.some c.requires.alike c.index-files-0.is refl
    (λ none. c.if-lib-eq0.false (same ∙ none))
    (c.lib_length-count.ensures.counted ∙ ap (λ (lib : ℕ). lib_length lib c.args.files.now) same)
    c.split_at.ensures.front
    (c.in_ok-add_members.ensures.added entry paths added e)
