-- The tail of an image in its whole form (gABI "Sections", "Symbol Table", "String Table"; the record
-- sections are this project's own): the table of symbols with its names, the five record sections, and
-- the names of the sections. `tail_parts` is the form that links have so far.
use Rattle.std.specs.Prelude.{ℕ, List, [], ◌∷◌, ◌++◌, codes}
use Rattle.lk_model.specs.RecordSections.{spelling}
use Rattle.lk_model.specs.RecordsOf.{records_of}
use Rattle.lk_model.specs.SymbolTable.{symbol_names_bytes, symbol_table_bytes}
use Rattle.lk_model.specs.Tail.{Part, header_names}
use Rattle.lk_model.specs.Texts.{table_bytes, table_of}
use Rattle.lk_model.specs.Views.{Resolved}
use Rattle.lk_model.specs.declared.layouts.Placement.{Placement}
use Rattle.lk_model.specs.declared.records.Five.{Five}

-- a part of the tail
abbrev pub part : List ℕ → List ℕ → Part
part name bytes = record { name = name; bytes = bytes }

-- the five record sections as parts
abbrev pub five_parts : Five → List Part
five_parts five =
    part (codes ".gnu_incremental_inputs") five.inputs
    ∷ part (codes ".gnu_incremental_symtab") five.symtab
    ∷ part (codes ".gnu_incremental_relocs") five.relocs
    ∷ part (codes ".gnu_incremental_got_plt") five.got_plt
    ∷ part (codes ".gnu_incremental_strtab") five.strtab
    ∷ []

-- the parts whose names the last part holds
abbrev pub named_parts : Resolved → Placement → List Part
named_parts r place =
    part (codes ".symtab") (symbol_table_bytes r place)
    ∷ part (codes ".strtab") (symbol_names_bytes r)
    ∷ five_parts (spelling (records_of r place))

-- the table of section names
abbrev pub names_part : Placement → List Part → Part
names_part place parts = part (codes ".shstrtab") (table_bytes (table_of (header_names place parts)))

-- the parts of the tail
unfoldable pub whole_parts : Resolved → Placement → List Part
whole_parts r place = let parts = named_parts r place in parts ++ names_part place parts ∷ []
