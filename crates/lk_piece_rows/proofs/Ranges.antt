-- Ranges that are one after another share no index.
use Rattle.std.proofs.Common.{◌≡◌, refl, sym, ap, subst, ◌∙◌, arith, ℕ, zero, suc, ◌+◌, ◌<◌, ◌≤◌, ◌^◌, ◌==◌, ◌&&◌, nat_lt, cond, Bool, true, false, List, [], ◌∷◌, get_or, slice_get, Some, None}
use Rattle.std.proofs.lemmas.Bool.Decides.{nat_tests}
use Rattle.lk_piece_rows.specs.RowNumbers.{AreConsecutive, Fit, count_in, index_in, ranges_end, ranges_from}
use Rattle.lk_piece_rows.specs.declared.section_ranges.SectionRange.{SectionRange}

laid : (at : ℕ) (cs : List ℕ) → AreConsecutive at (ranges_from at cs) (ranges_end at cs)
laid at [] = refl
laid at (c ∷ cs) = (refl, laid (at + c) cs)

counted : (at : ℕ) (cs : List ℕ) (n : ℕ) → count_in (ranges_from at cs) n ≡ get_or cs n 0
counted at [] n = refl
counted at (c ∷ cs) zero = refl
counted at (c ∷ cs) (suc n) = counted (at + c) cs n

rises : (at : ℕ) (rs : List SectionRange) (end : ℕ) → AreConsecutive at rs end → at ≤ end
rises at [] end is = omega (arith, is)
rises at (r ∷ rs) end is = let later = rises (at + r.count) rs end is.1 in omega (arith, later)

fits : (at : ℕ) (rs : List SectionRange) (end : ℕ) → AreConsecutive at rs end → end < 2 ^ 64 → (n : ℕ) (r : SectionRange) → slice_get rs n ≡ Some r
    → r.start + r.count < 2 ^ 64
fits at [] end is low n r found = absurd cc
fits at (q ∷ rs) end is low zero r found =
    let same : q ≡ r = cc in
    let begins = is.0 in
    let later = rises (at + q.count) rs end is.1 in
    let start = ap (λ (x : SectionRange). x.start) same in
    let count = ap (λ (x : SectionRange). x.count) same in
    omega (arith, begins, later, start, count, low)
fits at (q ∷ rs) end is low (suc n) r found = fits (at + q.count) rs end is.1 low n r found

-- the ranges of counts
pub made_laid : (rs : List SectionRange) (cs : List ℕ) (end : ℕ) → rs ≡ ranges_from 0 cs → end ≡ ranges_end 0 cs → AreConsecutive 0 rs end
made_laid rs cs end is ends =
    subst (λ (l : List SectionRange). AreConsecutive 0 l end) (sym is) (subst (λ (e : ℕ). AreConsecutive 0 (ranges_from 0 cs) e) (sym ends) (laid 0 cs))

pub made_fit : (rs : List SectionRange) (cs : List ℕ) (end : ℕ) → rs ≡ ranges_from 0 cs → end ≡ ranges_end 0 cs → end < 2 ^ 64 → Fit rs
made_fit rs cs end is ends low = fits 0 rs end (made_laid rs cs end is ends) low

pub made_counted : (rs : List SectionRange) (cs : List ℕ) → rs ≡ ranges_from 0 cs → (n : ℕ) → count_in rs n ≡ get_or cs n 0
made_counted rs cs is n = ap (λ (l : List SectionRange). count_in l n) is ∙ counted 0 cs n

-- the index of a section of an input that has it
below_count : (b : Bool) (s c x p : ℕ) → nat_lt s c ≡ b → cond b (Some x) None ≡ Some p → (s < c) × (x ≡ p)
below_count true s c x p test is = (grind (arith, nat_tests), cc)
below_count false s c x p test is = absurd cc

pub within : (at : ℕ) (rs : List SectionRange) (end n s p : ℕ) → AreConsecutive at rs end → index_in rs n s ≡ Some p → (at ≤ p) × (p < end)
within at [] end n s p laid is = absurd cc
within at (r ∷ rs) end zero s p laid is =
    let (low, same) = below_count (nat_lt s r.count) s r.count (r.start + s) p refl is in
    let begins = laid.0 in
    let later = rises (at + r.count) rs end laid.1 in
    (omega (arith, low, same, begins), omega (arith, low, same, begins, later))
within at (r ∷ rs) end (suc n) s p laid is =
    let (least, less) = within (at + r.count) rs end n s p laid.1 is in
    (omega (arith, least), less)

same_offset : (start b s p q : ℕ) → start + b ≡ p → start + s ≡ q → (q == p) ≡ (b == s)
same_offset start b s p q first second = grind (arith, nat_tests)

apart : (p q a n : ℕ) (more : Bool) → (q == p) ≡ false → (a == n) ≡ false → (q == p) ≡ ((a == n) && more)
apart p q a n more first second = first ∙ ap (λ t. t && more) (sym second)

differ_below : (p q : ℕ) → p < q → (q == p) ≡ false
differ_below p q low = grind (arith, nat_tests)

differ_above : (p q : ℕ) → q < p → (q == p) ≡ false
differ_above p q high = grind (arith, nat_tests)

next_alike : (a n : ℕ) → (suc a == suc n) ≡ (a == n)
next_alike a n = grind (arith, nat_tests)

-- two indices are the same where inputs and sections are
pub same_index : (at : ℕ) (rs : List SectionRange) (end a b n s p q : ℕ) → AreConsecutive at rs end → index_in rs a b ≡ Some p → index_in rs n s ≡ Some q
    → (q == p) ≡ ((a == n) && (b == s))
same_index at [] end a b n s p q laid first second = absurd cc
same_index at (r ∷ rs) end zero b zero s p q laid first second =
    let (_, one) = below_count (nat_lt b r.count) b r.count (r.start + b) p refl first in
    let (_, other) = below_count (nat_lt s r.count) s r.count (r.start + s) q refl second in
    same_offset r.start b s p q one other
same_index at (r ∷ rs) end zero b (suc n) s p q laid first second =
    let (low, one) = below_count (nat_lt b r.count) b r.count (r.start + b) p refl first in
    let (least, _) = within (at + r.count) rs end n s q laid.1 second in
    let begins = laid.0 in
    apart p q zero (suc n) (b == s) (differ_below p q (omega (arith, low, one, least, begins))) (differ_above (suc n) zero (omega arith))
same_index at (r ∷ rs) end (suc a) b zero s p q laid first second =
    let (low, other) = below_count (nat_lt s r.count) s r.count (r.start + s) q refl second in
    let (least, _) = within (at + r.count) rs end a b p laid.1 first in
    let begins = laid.0 in
    apart p q (suc a) zero (b == s) (differ_above p q (omega (arith, low, other, least, begins))) (differ_below zero (suc a) (omega arith))
same_index at (r ∷ rs) end (suc a) b (suc n) s p q laid first second =
    same_index (at + r.count) rs end a b n s p q laid.1 first second ∙ ap (λ t. t && (b == s)) (sym (next_alike a n))
