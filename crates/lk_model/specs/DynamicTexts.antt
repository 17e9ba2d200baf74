-- The texts of a dynamic link (gABI "String Table", "Dynamic Section": DT_NEEDED, DT_RUNPATH;
-- "Program Interpreter"): the table `.dynstr`, and the path in `.interp`.
use Rattle.std.specs.Prelude.{ℕ, List, [], ◌∷◌, ◌++◌, flat_map, filter_map, slice_get, codes}
use Rattle.std.specs.Str.{bytes_eq}
use Rattle.lk_model.specs.declared.summaries.Kind.TheVariants as kind
use Rattle.lk_model.specs.DynamicNames.{dynamic_name_texts}
use Rattle.lk_model.specs.Numbered.{distinct}
use Rattle.lk_model.specs.Texts.{table_of}
use Rattle.lk_model.specs.Views.{Input, Resolved}

-- the name by which an image needs an input, where it is a shared one
abbrev pub sonames_of : Input → List (List ℕ)
sonames_of x = elim x.summary.kind [ kind.Object ↦ [] | kind.Shared ↦ x.summary.soname ∷ [] ]

-- the names that the image needs: those of the added shared inputs, each once in adding order
unfoldable pub needed_names : Resolved → List (List ℕ)
needed_names r = distinct bytes_eq (flat_map sonames_of (filter_map (slice_get r.inputs) r.added))

-- `.dynstr`: an empty text, then each once the dynamic names, the names that are needed and the run
-- path; an empty run path is the text that is there
unfoldable pub dynamic_texts : Resolved → List (List ℕ)
dynamic_texts r = table_of (dynamic_name_texts r ++ needed_names r ++ r.options.runpath ∷ [])

-- the path of the dynamic linker, which is the usual one where none is given
abbrev pub interpreter_path : List ℕ → List ℕ
interpreter_path [] = codes "/lib64/ld-linux-x86-64.so.2"
interpreter_path (b ∷ bs) = b ∷ bs

-- `.interp`: that path and a zero
unfoldable pub interp_bytes : Resolved → List ℕ
interp_bytes r = interpreter_path r.options.interp ++ 0 ∷ []
