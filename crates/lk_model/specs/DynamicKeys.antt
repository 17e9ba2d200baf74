-- The tables that a dynamic link makes, as output sections (gABI "Special Sections"; psABI x86-64
-- "Special Sections").
use Rattle.std.specs.Prelude.{codes}
use Rattle.lk_model.specs.SectionKeys.{named}
use Rattle.lk_model.specs.declared.layouts.Class.TheVariants.{R, X, W}
use Rattle.lk_model.specs.declared.layouts.SectionKey.{SectionKey}

-- the path of the dynamic linker
abbrev pub interp_key : SectionKey
interp_key = named (codes ".interp") R

-- the hash table of the dynamic symbols
abbrev pub hash_key : SectionKey
hash_key = named (codes ".hash") R

-- the dynamic symbols
abbrev pub dynsym_key : SectionKey
dynsym_key = named (codes ".dynsym") R

-- their names, and the other texts that the dynamic section names
abbrev pub dynstr_key : SectionKey
dynstr_key = named (codes ".dynstr") R

-- the relocations that are done before the program begins
abbrev pub rela_dyn_key : SectionKey
rela_dyn_key = named (codes ".rela.dyn") R

-- the relocations of the procedure linkage table, which may wait
abbrev pub rela_plt_key : SectionKey
rela_plt_key = named (codes ".rela.plt") R

-- the procedure linkage table
abbrev pub plt_key : SectionKey
plt_key = named (codes ".plt") X

-- the dynamic section
abbrev pub dynamic_key : SectionKey
dynamic_key = named (codes ".dynamic") W
