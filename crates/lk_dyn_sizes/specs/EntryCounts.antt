-- How many entries the dynamic section has (gABI "Dynamic Section"), by the rows of the table of names.
use Rattle.std.specs.Prelude.{ℕ, ◌+◌, ◌*◌, Bool, true, false, List, slice_get, option_and_then}
use Rattle.lk_model.specs.declared.layouts.SectionKey.{SectionKey}
use Rattle.lk_model.specs.DynamicSizes.{array_count, count_of_text, fini_name, init_name, usual_entries}
use Rattle.lk_resolve.specs.RowFaults.{is_some_in_object}
use Rattle.lk_symtab.specs.NameRows.{NameRow, number_of}

-- whether an object defines a name
abbrev pub is_defined_in : List NameRow → List ℕ → Bool
is_defined_in rows name = is_some_in_object (option_and_then (slice_get rows) (number_of rows name))

-- 1 where a test is true, else 0
abbrev pub count_where : Bool → ℕ
count_where true = 1
count_where false = 0

-- the entries, where the image needs so many names and has this run path
abbrev pub entry_count_in : ℕ → List ℕ → List NameRow → List SectionKey → ℕ
entry_count_in needed runpath rows keys =
    needed + count_of_text runpath
    + count_where (is_defined_in rows init_name) + count_where (is_defined_in rows fini_name)
    + 2 * array_count keys + usual_entries
