-- The bytes of one hole, by what fills it.
use Rattle.std.proofs.Common.{◌≡◌, ℕ, true, false, IsTrue, ◌||◌, not, nat_le, ◌+◌, ◌-◌, ◌^◌, ◌<◌, ◌≤◌, min, max, List, ◌++◌, length, take, drop, replicate, sym, ap, ◌∙◌, arith, leb-true}
use Rattle.std.proofs.lemmas.List.{drop-replicate, length-append, length-replicate, length-take, take_all}
use Rattle.lk_model.specs.Holes.{fill_bytes, gap_byte, hole_bytes, hole_bytes_by_kind, past_byte, sequence_hole_bytes}
use Rattle.lk_model.specs.SectionKeys.{fill_kind, is_patched, least_of}
use Rattle.lk_model.specs.declared.layouts.FillKind.{FillKind}
use Rattle.lk_model.specs.declared.layouts.FillKind.TheVariants as fill
use Rattle.lk_model.specs.declared.layouts.Hole.{Hole}
use Rattle.lk_model.specs.declared.layouts.SectionRow.{SectionRow}
use Rattle.lk_freelist.specs.Filling.{frame_head, least_for, unit_head}
use Rattle.lk_freelist.proofs.HoleBytes.{frame_bytes, frame_length, trap_bytes, unit_bytes, unit_length, zero_bytes}
use Rattle.lk_freelist.proofs.ModelLaws.{least}

fill_length : (kind : FillKind) (n : ℕ) → least_for kind ≤ n → length (fill_bytes kind n) ≡ n
fill_length fill.Zero n enough = ap length (zero_bytes n) ∙ length-replicate {A = ℕ} n 0
fill_length fill.Trap n enough = ap length (trap_bytes n) ∙ length-replicate {A = ℕ} n 0xcc
fill_length fill.Frame n enough =
    let head = frame_length n in
    let rest = length-replicate {A = ℕ} (n - 13) 0 in
    ap length (frame_bytes n) ∙ length-append (frame_head n) (replicate (n - 13) 0) ∙ omega (arith, head, rest, enough)
fill_length fill.Unit n enough =
    let head = unit_length n in
    let rest = length-replicate {A = ℕ} (n - 11) 0 in
    ap length (unit_bytes n) ∙ length-append (unit_head n) (replicate (n - 11) 0) ∙ omega (arith, head, rest, enough)

-- the whole of a hole's bytes
pub fill_whole : (kind : FillKind) (n : ℕ) → least_for kind ≤ n → take n (drop 0 (fill_bytes kind n)) ≡ fill_bytes kind n
fill_whole kind n enough = take_all n (fill_bytes kind n) (let long = fill_length kind n enough in omega (arith, long))

-- in a patched section
pub patched_filled :
    (row : SectionRow) (kind : FillKind) (start n : ℕ) (bytes : List ℕ)
    → is_patched row.key ≡ true
    → kind ≡ fill_kind row.key
    → (least_for kind ≤ n → n < 2 ^ 32 → bytes ≡ fill_bytes kind n)
    → IsTrue (not (is_patched row.key) || nat_le (least_of row.key) n)
    → n < 2 ^ 32
    → bytes ≡ hole_bytes row (record { start = start; length = n })
unfolding hole_bytes
patched_filled row kind start n bytes patched kind_is filled enough short =
    let test : nat_le (least_of row.key) n ≡ true = sym (ap (λ p. not p || nat_le (least_of row.key) n) patched) ∙ enough in
    let long = leb-true (least_of row.key) n test in
    let same : least_for kind ≡ least_of row.key = ap least_for kind_is ∙ least row.key in
    filled (omega (arith, long, same)) short
    ∙ ap (λ k. fill_bytes k n) kind_is
    ∙ sym (ap (λ b. hole_bytes_by_kind b row (record { start = start; length = n })) patched)

-- in any other section
pub sequence_filled :
    (row : SectionRow) (hole : Hole) (bytes : List ℕ)
    → is_patched row.key ≡ false
    → bytes ≡ sequence_hole_bytes row hole
    → bytes ≡ hole_bytes row hole
unfolding hole_bytes
sequence_filled row hole bytes other filled = filled ∙ sym (ap (λ b. hole_bytes_by_kind b row hole) other)

-- the bytes before the section's end, and those past it
pub sequence_is :
    (row : SectionRow) (start n before gap past : ℕ) (front whole : List ℕ)
    → before ≡ min (row.size - start) n
    → gap ≡ gap_byte row.key
    → past ≡ past_byte row.key
    → whole ≡ replicate n past
    → front ≡ replicate (length (take before whole)) gap
    → front ++ drop before whole ≡ sequence_hole_bytes row (record { start = start; length = n })
sequence_is row start n before gap past front whole before_is gap_is past_is whole_is front_is =
    let long : length whole ≡ n = ap length whole_is ∙ length-replicate {A = ℕ} n past in
    let cut = length-take before whole in
    let first : length (take before whole) ≡ min (start + n) row.size - start = omega (arith, long, cut, before_is) in
    let rest : n - before ≡ start + n - max start row.size = omega (arith, before_is) in
    let back : drop before whole ≡ replicate (n - before) past = ap (drop before) whole_is ∙ drop-replicate before n past in
    ap (λ ys. ys ++ drop before whole) (front_is ∙ ap (λ k. replicate k gap) first ∙ ap (replicate (min (start + n) row.size - start)) gap_is)
    ∙ ap (λ ys. replicate (min (start + n) row.size - start) (gap_byte row.key) ++ ys) (back ∙ ap (λ k. replicate k past) rest ∙ ap (replicate (start + n - max start row.size)) past_is)
