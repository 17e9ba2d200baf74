-- The parts of a tail by their bytes (this project's own).
use Rattle.std.specs.Prelude.{ℕ, List, [], ◌∷◌, ◌++◌, codes}
use Rattle.lk_model.specs.Tail.{Part, header_names, record_parts}
use Rattle.lk_model.specs.Texts.{table_bytes, table_of}
use Rattle.lk_model.specs.declared.records.Records.{Records}

abbrev pub part_with : List ℕ → List ℕ → Part
part_with name bytes = record { name = name; bytes = bytes }

-- the record sections with these bytes
abbrev pub records_with : List ℕ → List ℕ → List Part
records_with inputs texts = part_with (codes ".gnu_incremental_inputs") inputs ∷ part_with (codes ".gnu_incremental_strtab") texts ∷ []

-- the record sections and the section of section names
abbrev pub tail_with : List ℕ → List ℕ → List ℕ → List Part
tail_with inputs texts names =
    part_with (codes ".gnu_incremental_inputs") inputs
    ∷ part_with (codes ".gnu_incremental_strtab") texts
    ∷ part_with (codes ".shstrtab") names
    ∷ []

-- the parts of the tail of an image with these records: the record sections, and the names of all sections
unfoldable pub tail_of : Records → List Part
tail_of records =
    record_parts records
    ++ part_with (codes ".shstrtab") (table_bytes (table_of (header_names records.placement (record_parts records)))) ∷ []
