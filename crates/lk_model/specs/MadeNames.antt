-- This project's own, after the names that linkers make: which symbols the linker makes where an
-- object refers to them.
use Rattle.std.specs.Prelude.{ℕ, Bool, false, ◌&&◌, ◌||◌, nat_eq, nat_le, ◌==◌, List, [], ◌∷◌, drop, length, codes}
use Rattle.std.specs.List.{list_any, list_all, starts_with}
use Rattle.std.specs.Str.{bytes_eq}
use Rattle.lk_model.specs.declared.summaries.Contributions.{Contributions}
use Rattle.lk_model.specs.Numbered.{is_text_in}
use Rattle.lk_model.specs.Symbols.{is_object_reference}

-- the names that every link makes
abbrev pub always_made : List (List ℕ)
always_made =
    codes "_GLOBAL_OFFSET_TABLE_" ∷ codes "__ehdr_start" ∷ codes "__executable_start"
    ∷ codes "__preinit_array_start" ∷ codes "__preinit_array_end"
    ∷ codes "__init_array_start" ∷ codes "__init_array_end"
    ∷ codes "__fini_array_start" ∷ codes "__fini_array_end"
    ∷ codes "etext" ∷ codes "_etext" ∷ codes "__etext"
    ∷ codes "edata" ∷ codes "_edata" ∷ codes "__bss_start"
    ∷ codes "end" ∷ codes "_end" ∷ []

-- the name that dynamic links alone make
abbrev pub dynamic_name : List ℕ
dynamic_name = codes "_DYNAMIC"

-- whether a byte is a letter or `_`
abbrev pub is_letter : ℕ → Bool
is_letter c = (nat_le 65 c && nat_le c 90) || ((nat_le 97 c && nat_le c 122) || (c == 95))

-- whether a byte is a decimal digit
abbrev pub is_digit : ℕ → Bool
is_digit c = nat_le 48 c && nat_le c 57

-- whether a text is an identifier of C: a letter or `_`, then letters, digits and `_`
abbrev pub is_c_identifier : List ℕ → Bool
is_c_identifier [] = false
is_c_identifier (c ∷ cs) = is_letter c && list_all (λ d. is_letter d || is_digit d) cs

-- whether a name is a prefix followed by the name of one of these sections, a C identifier
abbrev pub is_bound : List ℕ → List (List ℕ) → List ℕ → Bool
is_bound prefix sections name = starts_with nat_eq name prefix && (is_c_identifier (drop (length prefix) name) && is_text_in sections (drop (length prefix) name))

-- whether the linker has this name to make, where the link is dynamic or not and kept sections go to
-- allocated output sections of these names
abbrev pub is_made_name : Bool → List (List ℕ) → List ℕ → Bool
is_made_name dynamic sections name =
    is_text_in always_made name
    || ((dynamic && bytes_eq name dynamic_name)
    || (is_bound (codes "__start_") sections name || is_bound (codes "__stop_") sections name))

-- whether the linker makes the symbol of a name: it has the name to make, and an object refers to it
abbrev pub is_made : Bool → List (List ℕ) → Contributions → Bool
is_made dynamic sections cs = is_made_name dynamic sections cs.name && list_any is_object_reference cs.list
