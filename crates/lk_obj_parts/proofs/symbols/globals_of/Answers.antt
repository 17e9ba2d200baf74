-- The next symbol is put after those before it, where it is not LOCAL and has a name.
use Rattle.std.proofs.Common.{◌+◌, ◌<◌, arith, drop, length, option_to_list}
use Rattle.std.proofs.lemmas.List.{append_assoc}
use Rattle.lk_obj_parts.specs.ElfViews.{elf_from}
use Rattle.lk_obj_parts.specs.SymbolParts.{globals_from}
use Rattle.lk_obj_parts.proofs.SymbolRows.{next_global}
use Rattle.lk_obj_parts.proofs.symbols.globals_of.Goals as goal

pub loop-k-preserved : goal.loop-k-preserved
loop-k-preserved c = λ header.
    let within : c.loop-k.k < length c.args.symbols.now = omega arith in
    let next = next_global c.args.file.now header c.args.sections.now c.args.symbols.now c.loop-k.k record { st_name = 0; st_info = 0; st_other = 0; st_shndx = 0; st_value = 0; st_size = 0 } within in
    let joined = append_assoc c.loop-k.globals.items (option_to_list c.in_ok-global.global) (globals_from (elf_from c.args.file.now header c.args.sections.now c.args.symbols.now) (c.loop-k.k + 1) (drop (c.loop-k.k + 1) c.args.symbols.now)) in
    cc (c.loop-k.invariant header, c.in_ok-keep.ensures, c.in_ok-global.ensures)
