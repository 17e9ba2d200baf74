-- The words of a record, one after another, are the bytes of its fields.
use Rattle.std.proofs.Common.{◌≡◌, ℕ, List, [], ◌∷◌, ◌++◌, refl, ap, ◌∙◌, append_assoc}
use Rattle.std.specs.List.{flat_map}
use Rattle.std.specs.Prelude.{Option, Some, None}
use Rattle.lk_elf.specs.Fields.{bytes_of}
use Rattle.lk_model.specs.RecordFields.{Field, field_bytes, spelled}
use Rattle.lk_model.specs.RecordFields.Field.{Short, Long, Text}
use Rattle.lk_incr.specs.Words.{words_from, words_of}

-- the bytes of the first half of a word, where one is pending
abbrev half_bytes : Option (List ℕ) → List ℕ
half_bytes None = []
half_bytes (Some half) = half

words_spelled : (off : List ℕ → ℕ) (half : Option (List ℕ)) (fs : List Field) → flat_map (λ w. w) (words_from off half fs) ≡ half_bytes half ++ spelled off fs
unfolding spelled
words_spelled off None [] = refl
words_spelled off (Some half) [] = refl
words_spelled off None (Short n ∷ fs) = words_spelled off (Some (bytes_of 4 n)) fs
words_spelled off None (Long n ∷ fs) = ap (λ l. bytes_of 8 n ++ l) (words_spelled off None fs)
words_spelled off None (Text t ∷ fs) = words_spelled off (Some (bytes_of 4 (off t))) fs
words_spelled off (Some half) (f ∷ fs) =
    ap (λ l. (half ++ field_bytes off f) ++ l) (words_spelled off None fs) ∙ append_assoc half (field_bytes off f) (spelled off fs)

pub words_put : (off : List ℕ → ℕ) (fs : List Field) (ws : List (List ℕ)) (a b : List ℕ) → ws ≡ words_of off fs → b ≡ a ++ flat_map (λ w. w) ws
    → b ≡ a ++ spelled off fs
words_put off fs ws a b reported put = put ∙ ap (λ l. a ++ flat_map (λ w. w) l) reported ∙ ap (λ l. a ++ l) (words_spelled off None fs)
