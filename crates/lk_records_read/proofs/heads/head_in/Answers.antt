use Rattle.std.specs.Prelude.{◌≡◌, None, Some}
use Rattle.std.proofs.Common.{rules, sym}
use Rattle.lk_elf.specs.Fields.{num}
use Rattle.lk_model.specs.Texts.{text_at}
use Rattle.lk_records_read.proofs.HeadsRead.{head_interpless, head_runpathless}
use Rattle.lk_records_read.proofs.heads.head_in.Goals as goal

pub returns-in_default-2 : goal.returns-in_default-2
returns-in_default-2 c =
    let there : Some c.in-Some.entry ≡ text_at c.args.strtab.now (num c.args.bytes.now 8 4) = search rules in
    let none : None ≡ text_at c.args.strtab.now (num c.args.bytes.now 12 4) = search rules in
    sym (head_interpless c.args.strtab.now c.args.bytes.now c.in-Some.entry there none)

pub returns-in_default-3 : goal.returns-in_default-3
returns-in_default-3 c =
    let there : Some c.in-Some.entry ≡ text_at c.args.strtab.now (num c.args.bytes.now 8 4) = search rules in
    let again : Some c.in-Some-2.interp ≡ text_at c.args.strtab.now (num c.args.bytes.now 12 4) = search rules in
    let none : None ≡ text_at c.args.strtab.now (num c.args.bytes.now 16 4) = search rules in
    sym (head_runpathless c.args.strtab.now c.args.bytes.now c.in-Some.entry c.in-Some-2.interp there again none)
