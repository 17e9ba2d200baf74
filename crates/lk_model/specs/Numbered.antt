-- This project's own: what resolution looks at: inputs with their numbers, and names and texts
-- compared by their bytes.
use Rattle.std.specs.Prelude.{ℕ, nat_eq, ◌+◌, Bool, cond, List, [], ◌∷◌, ◌++◌, fold}
use Rattle.std.specs.List.{list_any}
use Rattle.std.specs.Str.{bytes_eq}
use Rattle.lk_model.specs.declared.summaries.InputSummary.{InputSummary}
use Rattle.lk_model.specs.Views.{Input}

-- an input's summary with the input's number
pub record Numbered : Type 0 where
  pub number : ℕ
  pub summary : InputSummary

-- whether a text is one of the list
abbrev pub is_text_in : List (List ℕ) → List ℕ → Bool
is_text_in texts text = list_any (λ t. bytes_eq t text) texts

-- whether a number is one of the list
abbrev pub is_number_in : List ℕ → ℕ → Bool
is_number_in numbers n = list_any (nat_eq n) numbers

-- the list with one more item, where it does not have it yet
abbrev pub with_new : {A : Type 0} → (A → A → Bool) → List A → A → List A
with_new same seen x = cond (list_any (same x) seen) seen (seen ++ x ∷ [])

-- the items in order of their first place, each once
abbrev pub distinct : {A : Type 0} → (A → A → Bool) → List A → List A
distinct same xs = fold (with_new same) [] xs

-- the inputs of a command with their numbers and lib groups
abbrev pub numbered_from : ℕ → List Input → List (ℕ × Numbered)
numbered_from n [] = []
numbered_from n (x ∷ xs) = (x.lib, record { number = n; summary = x.summary }) ∷ numbered_from (n + 1) xs
