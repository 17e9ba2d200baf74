-- The last row of a tail ends it.
use Rattle.std.proofs.Common.{◌≡◌, ℕ, suc, ◌+◌, ◌-◌, List, [], ◌∷◌, None, Some, refl, sym, ap, ◌∙◌, arith, length}
use Rattle.std.specs.List.{slice_get}
use Rattle.std.proofs.lemmas.Option.{slice_get-get_or}
use Rattle.lk_model.specs.declared.layouts.SectionRow.{SectionRow}
use Rattle.lk_headers.specs.TailRows.{last_end}

pub at_last : (begin : ℕ) (rows : List SectionRow) (row : SectionRow) → slice_get rows (length rows - 1) ≡ Some row → last_end begin rows ≡ row.offset + row.size
at_last begin [] row is = absurd (cc)
at_last begin (x ∷ []) row is = let e : x ≡ row = cc in ap (λ (r : SectionRow). r.offset + r.size) e
at_last begin (x ∷ (y ∷ ys)) row is =
    let more : length (x ∷ (y ∷ ys)) - 1 ≡ suc (length ys) = omega arith in
    let less : length (y ∷ ys) - 1 ≡ length ys = omega arith in
    at_last (x.offset + x.size) (y ∷ ys) row (ap (slice_get (y ∷ ys)) less ∙ sym (ap (slice_get (x ∷ (y ∷ ys))) more) ∙ is)

pub at_none : (begin : ℕ) (rows : List SectionRow) → slice_get rows (length rows - 1) ≡ None → last_end begin rows ≡ begin
at_none begin [] is = refl
at_none begin (x ∷ xs) is =
    let e = slice_get-get_or (x ∷ xs) (length (x ∷ xs) - 1) x (omega arith) in absurd (cc (e, is))
