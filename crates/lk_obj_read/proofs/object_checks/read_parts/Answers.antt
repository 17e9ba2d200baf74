use Rattle.std.proofs.Common.{ap, rules, ◌∙◌}
use Rattle.lk_elf.specs.Numbers.{sht_symtab}
use Rattle.lk_model.specs.Elf.{first_of_type, symbols_of}
use Rattle.lk_obj_read.proofs.ObjectFaults.{elf_is}
use Rattle.lk_obj_read.proofs.object_checks.read_parts.Goals as goal

pub returns : goal.returns
returns c = record {
  elf =
      elf_is c.args.bytes.now c.args.header c.in_ok-sections.sections.items c.in_ok-symbols.symbols.items c.requires.its_own
      c.in_ok-sections.ensures.items
      (c.in_ok-symbols.ensures.items ∙ ap (λ s. symbols_of c.args.bytes.now (first_of_type sht_symtab s)) c.deref.ensures.value);
  few_sections = search rules;
  few_symbols = search rules;
}
