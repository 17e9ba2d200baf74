-- The texts of a section one after another, each noted (this project's own; gABI "String Table").
use Rattle.std.specs.Prelude.{◌≡◌, ℕ, Bool, not, List, [], ◌∷◌, ◌++◌, bytes_eq, map, Result, Ok, Err}
use Rattle.std.specs.Borrow.{Bor}
use Rattle.std.specs.List.{before_first, list_any}
use Rattle.lk_model.specs.Texts.{with_text}
use Rattle.lk_model.specs.TextsReading.{checked_text, is_end}
use Rattle.lk_records_read.specs.declared.refusals.Refusal.{Refusal}
use Rattle.lk_records_read.specs.declared.refusals.Refusal.TheVariants as refusal

-- references to texts by their bytes
abbrev pub texts_in : List (Bor (List ℕ)) → List (List ℕ)
texts_in texts = map (λ (text : Bor (List ℕ)). text.now) texts

-- a text is noted among others, for the first time or again
abbrev pub IsNoted : List (List ℕ) → List ℕ → Bool → List (List ℕ) → Type 0
IsNoted old text is_first new = (is_first ≡ not (list_any (bytes_eq text) old)) × (new ≡ with_text old text)

-- the next text is read behind these and noted, or is refused
abbrev pub TextNoted : List (List ℕ) → List ℕ → Result (Unit {0}) Refusal → List (List ℕ) → List ℕ → Type 0
TextNoted before bytes (Ok u) after rest =
    (checked_text before bytes ≡ Ok (before_first is_end bytes, rest)) × (after ≡ before ++ before_first is_end bytes ∷ [])
TextNoted before bytes (Err (refusal.Bad left)) after rest = checked_text before bytes ≡ Err left
TextNoted before bytes (Err refusal.NoMemory) after rest = Unit {0}
