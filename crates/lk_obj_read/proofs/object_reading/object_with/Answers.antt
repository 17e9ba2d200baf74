use Rattle.std.proofs.Common.{◌<◌, ap, length, rules, subst, sym, ◌∙◌}
use Rattle.lk_model.specs.Elf.{elf_of}
use Rattle.lk_obj_read.specs.ReadObjects.{AreAt}
use Rattle.lk_obj_read.proofs.LocalsRead.{symbols_are_at}
use Rattle.lk_obj_read.proofs.ObjectsStored.{bytes_of}
use Rattle.lk_obj_read.proofs.object_reading.object_with.Goals as goal

pub invariant_of-result : goal.invariant_of-result
invariant_of-result c =
    let sections = c.deref.ensures.value ∙ c.requires.sections in
    record {
      sound = search rules;
      sections = search rules;
      symbols =
          subst (λ bytes. AreAt bytes (elf_of bytes).symbols c.place_of_symbols-symbols.result) c.as_slice-file.ensures
          (symbols_are_at c.as_slice-file.result.now c.deref-2.result.now c.place_of_symbols-symbols.result
          (c.deref-2.ensures.value ∙ c.requires.sections ∙ ap (λ bytes. (elf_of bytes).sections) (sym c.as_slice-file.ensures)) c.place_of_symbols-symbols.ensures);
      summary = search rules;
      count = search rules;
      relocations = λ n within.
          c.in_ok-relocations.ensures.lists (elf_of c.args.bytes) (bytes_of c.args.bytes) (sym sections) n
          (subst (λ headers. n < length headers) (sym sections) within);
    }
