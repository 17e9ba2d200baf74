-- A group's head is read, and its members behind it.
use Rattle.std.specs.Prelude.{◌≡◌, not, true, length, Some, drop, Err}
use Rattle.std.proofs.Common.{ap, rules, subst, sym, ◌∙◌}
use Rattle.std.proofs.lemmas.Result.{err_from_is_err_and}
use Rattle.lk_elf.specs.Fields.{num}
use Rattle.lk_model.specs.InputsCounts.{after_group}
use Rattle.lk_model.specs.RecordForms.{read_many}
use Rattle.lk_model.specs.RecordReaders.{is_fault_at}
use Rattle.lk_model.specs.Texts.{text_at}
use Rattle.lk_records_read.specs.InputParts.{read_group, read_member}
use Rattle.lk_records_read.specs.ReadAnswers.{ReadGives}
use Rattle.lk_records_read.proofs.InputParts.{group_stops, group_there}
use Rattle.lk_records_read.proofs.groups.read_group.Goals as goal

pub returns-in_err-members : goal.returns-in_err-members
returns-in_err-members c =
    let p = err_from_is_err_and c.from_residual-in_err-members.result c.from_residual-in_err-members.ensures.1 in
    let fit : true ≡ not (is_fault_at (length c.args.cursor.now) (after_group c.args.cursor.now)) = search rules in
    let there : Some c.in-Some.signature ≡ text_at c.args.strtab.now (num c.args.cursor.now 0 4) = search rules in
    let behind : ReadGives (read_many (read_member c.args.strtab.now) (num c.args.cursor.now 4 4) (drop 8 c.args.cursor.now)) (Err c.in_err-members.field-0.0) c.members_of.new.cursor = search rules in
    subst (λ r. ReadGives (read_group c.args.strtab.now c.args.cursor.now) r c.members_of.new.cursor) (sym (p.1 ∙ ap (λ s. Err s) p.2))
    (group_stops c.args.strtab.now c.args.cursor.now c.in-Some.signature c.members_of.new.cursor c.members_of.new.cursor _ c.in_ok-bytes.ensures.taken.0 fit there behind)

pub returns : goal.returns
returns c =
    let fit : true ≡ not (is_fault_at (length c.args.cursor.now) (after_group c.args.cursor.now)) = search rules in
    let there : Some c.in-Some.signature ≡ text_at c.args.strtab.now (num c.args.cursor.now 0 4) = search rules in
    group_there c.args.strtab.now c.args.cursor.now c.in-Some.signature c.in_ok-members.members c.members_of.new.cursor c.in_ok-bytes.ensures.taken.0 fit there (search rules)
