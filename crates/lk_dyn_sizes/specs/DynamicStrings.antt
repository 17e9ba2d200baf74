-- The texts of a dynamic link (gABI "String Table", "Dynamic Section": DT_NEEDED, DT_RUNPATH), by the rows
-- of the table of names and the summaries of the inputs.
use Rattle.std.specs.Prelude.{ℕ, List, [], ◌∷◌, ◌++◌, flat_map, fold, Option, Some, None, slice_get}
use Rattle.lk_report.specs.declared.causes.OptionRecord.{OptionRecord}
use Rattle.lk_model.specs.declared.layouts.Needs.{Needs}
use Rattle.lk_model.specs.declared.summaries.InputSummary.{InputSummary}
use Rattle.lk_model.specs.declared.summaries.Kind.TheVariants as kind
use Rattle.lk_model.specs.Texts.{table_of, with_text}
use Rattle.lk_resolve.specs.Settling.{ResolutionValue}
use Rattle.lk_symtab.specs.NameRows.{NameRow}
use Rattle.lk_dyn_sizes.specs.DynamicRows.{dynamic_in}

-- the name of a row, where there is one
abbrev pub row_texts : Option NameRow → List (List ℕ)
row_texts None = []
row_texts (Some row) = row.contributions.name ∷ []

-- the names with these numbers
abbrev pub number_texts : List NameRow → ℕ → List (List ℕ)
number_texts rows n = row_texts (slice_get rows n)

abbrev pub texts_at : List NameRow → List ℕ → List (List ℕ)
texts_at rows numbers = flat_map (number_texts rows) numbers

-- the name by which an image needs an input, where it is a shared one
abbrev pub summary_sonames : InputSummary → List (List ℕ)
summary_sonames x = elim x.kind [ kind.Object ↦ [] | kind.Shared ↦ x.soname ∷ [] ]

-- that of an input, where there is one
abbrev pub some_sonames : Option InputSummary → List (List ℕ)
some_sonames None = []
some_sonames (Some x) = summary_sonames x

-- those of the inputs with these numbers
abbrev pub number_sonames : List InputSummary → ℕ → List (List ℕ)
number_sonames summaries n = some_sonames (slice_get summaries n)

abbrev pub sonames_at : List InputSummary → List ℕ → List (List ℕ)
sonames_at summaries numbers = flat_map (number_sonames summaries) numbers

-- the names that the image needs, each once
abbrev pub needed_in : ResolutionValue → List InputSummary → List (List ℕ)
needed_in resolution summaries = fold with_text [] (sonames_at summaries resolution.added)

-- the table of the names with these numbers, the needed names and the run path
abbrev pub strings_of : List NameRow → List ℕ → List (List ℕ) → List ℕ → List (List ℕ)
strings_of rows numbers needed runpath = table_of (texts_at rows numbers ++ needed ++ runpath ∷ [])

-- the table of the texts of a link
abbrev pub strings_in : ResolutionValue → List InputSummary → Needs → OptionRecord → List (List ℕ)
strings_in resolution summaries needs options = strings_of resolution.rows (dynamic_in resolution needs options) (needed_in resolution summaries) options.runpath
