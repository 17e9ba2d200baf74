-- Rows of a placement that have one key are one row, where no two have.
use Rattle.std.specs.Prelude.{◌≡◌, ℕ, zero, suc, true, false, List, [], ◌∷◌, Some, map, refl}
use Rattle.std.specs.List.{AllByRecursion, IsDistinct, slice_get}
use Rattle.std.proofs.Common.{sym, ap, subst}
use Rattle.std.proofs.lemmas.Bool.{both_ways}
use Rattle.lk_model.specs.SectionKeys.{same_key}
use Rattle.lk_model.specs.declared.layouts.SectionKey.{SectionKey}
use Rattle.lk_model.specs.declared.layouts.SectionRow.{SectionRow}
use Rattle.lk_model.proofs.KeysFound.{same_key_self, same_key_reports}

-- the keys of rows
abbrev keys_of : List SectionRow → List SectionKey
keys_of rows = map (λ (row : SectionRow). row.key) rows

-- no two rows have one key
abbrev pub AreDistinct : List SectionRow → Type 0
AreDistinct rows = IsDistinct same_key (keys_of rows)

-- a key that none of the rows has is not that of any of them
key_elsewhere : (key : SectionKey) (rows : List SectionRow) (n : ℕ) (row : SectionRow) → AllByRecursion (λ other. same_key key other ≡ false) (keys_of rows) → slice_get rows n ≡ Some row → same_key key row.key ≡ false
key_elsewhere key [] n row none there = absurd (cc)
key_elsewhere key (first ∷ rows) zero row none there = let same : first ≡ row = cc in subst (λ (w : SectionRow). same_key key w.key ≡ false) same none.0
key_elsewhere key (first ∷ rows) (suc n) row none there = key_elsewhere key rows n row none.1 there

same_back : (a b : SectionKey) → same_key a b ≡ true → same_key b a ≡ true
same_back a b same = rw (same_key_reports a b same) (same_key_self b)

-- rows of one key have one number
pub one_number : (rows : List SectionRow) (m n : ℕ) (a b : SectionRow) → AreDistinct rows → slice_get rows m ≡ Some a → slice_get rows n ≡ Some b → same_key a.key b.key ≡ true → m ≡ n
unfolding IsDistinct
one_number [] m n a b distinct first second same = absurd (cc)
one_number (row ∷ rows) zero zero a b distinct first second same = refl
one_number (row ∷ rows) zero (suc n) a b distinct first second same =
    let here : row ≡ a = cc in
    let differ = key_elsewhere row.key rows n b distinct.0 second in
    absurd (both_ways (same_key row.key b.key) differ (subst (λ (w : SectionRow). same_key w.key b.key ≡ true) (sym here) same))
one_number (row ∷ rows) (suc m) zero a b distinct first second same =
    let here : row ≡ b = cc in
    let differ = key_elsewhere row.key rows m a distinct.0 first in
    absurd (both_ways (same_key row.key a.key) differ (subst (λ (w : SectionRow). same_key w.key a.key ≡ true) (sym here) (same_back a.key b.key same)))
one_number (row ∷ rows) (suc m) (suc n) a b distinct first second same = ap (λ k. suc k) (one_number rows m n a b distinct.1 first second same)
