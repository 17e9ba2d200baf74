-- This project's own: the names that the linker makes, once all inputs are added, where loaded output
-- sections of these names, each once, have kept sections.
use Rattle.std.specs.Prelude.{ℕ, zero, suc, Bool, cond, ◌&&◌, ◌||◌, nat_eq, List, [], ◌∷◌, codes, drop, length, map}
use Rattle.std.specs.List.{list_any, starts_with}
use Rattle.std.specs.Str.{bytes_eq}
use Rattle.lk_model.specs.MadeNames.{always_made, dynamic_name, is_c_identifier}
use Rattle.lk_model.specs.Numbered.{is_text_in}
use Rattle.lk_symtab.specs.NameRows.{NameRow, made_row, row_referred}

-- the names that every link makes, in three parts: of tables and the file, of arrays, and of ends
abbrev pub table_names : List (List ℕ)
table_names = codes "_GLOBAL_OFFSET_TABLE_" ∷ codes "__ehdr_start" ∷ codes "__executable_start" ∷ []

abbrev pub array_names : List (List ℕ)
array_names =
    codes "__preinit_array_start" ∷ codes "__preinit_array_end"
    ∷ codes "__init_array_start" ∷ codes "__init_array_end"
    ∷ codes "__fini_array_start" ∷ codes "__fini_array_end" ∷ []

abbrev pub end_names : List (List ℕ)
end_names =
    codes "etext" ∷ codes "_etext" ∷ codes "__etext"
    ∷ codes "edata" ∷ codes "_edata" ∷ codes "__bss_start"
    ∷ codes "end" ∷ codes "_end" ∷ []

-- whether a name is a prefix and then a C identifier that is one of these sections
abbrev pub is_bound_in : List ℕ → List (List ℕ) → List ℕ → Bool
is_bound_in prefix sections name = starts_with nat_eq name prefix && (is_c_identifier (drop (length prefix) name) && list_any (bytes_eq (drop (length prefix) name)) sections)

-- whether the linker has a name to make
abbrev pub is_made_name_in : Bool → List (List ℕ) → List ℕ → Bool
is_made_name_in dynamic sections name =
    is_text_in always_made name
    || ((dynamic && bytes_eq name dynamic_name)
    || (is_bound_in (codes "__start_") sections name || is_bound_in (codes "__stop_") sections name))

-- whether the linker makes the name of a row, and the row then
abbrev pub is_row_made : Bool → List (List ℕ) → NameRow → Bool
is_row_made dynamic sections row = row_referred row && is_made_name_in dynamic sections row.contributions.name

abbrev pub with_making : Bool → List (List ℕ) → NameRow → NameRow
with_making dynamic sections row = cond (is_row_made dynamic sections row) (made_row row) row

-- the rows once the first ones were looked at, and once all were
abbrev pub made_before : (NameRow → NameRow) → ℕ → List NameRow → List NameRow
made_before change zero rows = rows
made_before change (suc n) [] = []
made_before change (suc n) (row ∷ rows) = change row ∷ made_before change n rows

abbrev pub rows_made : Bool → List (List ℕ) → List NameRow → List NameRow
rows_made dynamic sections rows = map (with_making dynamic sections) rows
