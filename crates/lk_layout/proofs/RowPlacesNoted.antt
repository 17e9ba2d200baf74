-- The first row of each key, noted row by row.
use Rattle.std.specs.Prelude.{◌≡◌, refl, ℕ, ◌+◌, ◌<◌, Bool, true, false, cond, List, ◌∷◌, drop, find, length, Option, Some, None, option_map}
use Rattle.std.specs.List.{enumerate_from}
use Rattle.std.specs.Option.{option_or}
use Rattle.std.proofs.Common.{sym, ap, ◌∙◌, get_or}
use Rattle.lk_model.specs.declared.layouts.SectionKey.{SectionKey}
use Rattle.lk_model.specs.declared.layouts.SectionRow.{SectionRow}
use Rattle.lk_model.specs.SectionKeys.{same_key}
use Rattle.lk_layout.specs.Equal.{same_key_equiv}
use Rattle.lk_layout.specs.PieceRows.{row_place_after}
use Rattle.lk_layout.specs.RowNumbers.{row_place_from, row_place_noted}
use Rattle.lk_layout.specs.declared.row_places.RowPlace.{RowPlace}
use Rattle.lk_layout.proofs.ListSteps.{at_entry, read_at}

noted : (row : SectionRow) (rest : List SectionRow) (n : ℕ) (o : Option RowPlace) (k : SectionKey) → option_or (row_place_noted o row.key (row_place_after (n, row)) k) (row_place_from (n + 1) rest k) ≡ option_or o (row_place_from n (row ∷ rest) k)
noted row rest n (Some h) k = refl
noted row rest n None k = go (same_key k row.key) ∙ ap (λ b. option_map row_place_after (cond b (Some (n, row)) (find (λ (entry : ℕ × SectionRow). same_key entry.1.key k) (enumerate_from (n + 1) rest)))) (same_key_equiv.symm k row.key)
  where
    go : (b : Bool) → option_or (cond b (Some (row_place_after (n, row))) None) (row_place_from (n + 1) rest k) ≡ option_map row_place_after (cond b (Some (n, row)) (find (λ (entry : ℕ × SectionRow). same_key entry.1.key k) (enumerate_from (n + 1) rest)))
    go true = refl
    go false = refl

-- one more row may be the first of its key
pub row_places_go_on : (rows : List SectionRow) (n : ℕ) (row : SectionRow) (row_place : RowPlace) (old new : SectionKey → Option RowPlace)
    → n < length rows
    → row ≡ get_or rows n row
    → row_place ≡ row_place_after (n, row)
    → ((k : SectionKey) → new k ≡ row_place_noted (old k) row.key row_place k)
    → (k : SectionKey) → option_or (new k) (row_place_from (n + 1) (drop (n + 1) rows) k) ≡ option_or (old k) (row_place_from n (drop n rows) k)
row_places_go_on rows n row row_place old new within is made notes k =
    let rest = drop (n + 1) rows in
    ap (λ (o : Option RowPlace). option_or o (row_place_from (n + 1) rest k)) (notes k ∙ ap (λ h. row_place_noted (old k) row.key h k) made)
    ∙ noted row rest n (old k) k
    ∙ ap (λ (rs : List SectionRow). option_or (old k) (row_place_from n rs k)) (sym (at_entry rows n row (read_at rows n row within is)))
