-- The bytes of a hole from some place on: what is left of its start, and then one byte over and over.
use Rattle.std.proofs.Common.{◌≡◌, ℕ, zero, suc, ◌+◌, ◌-◌, ◌≤◌, ◌++◌, List, [], ◌∷◌, length, take, drop, replicate, refl, ap, ◌∙◌, arith}
use Rattle.std.proofs.lemmas.List.{take-replicate, drop-replicate}
use Rattle.std.proofs.lemmas.Grind.{common_steps}
use Rattle.lk_elf.specs.Fields.{bytes_of}
use Rattle.lk_model.specs.Holes.{fill_bytes}
use Rattle.lk_model.specs.declared.layouts.FillKind.TheVariants as fill
use Rattle.lk_freelist.specs.Filling.{frame_head, unit_head}

-- from the first byte on
from_first :
    (start : List ℕ) (rest total n : ℕ)
    → n ≤ length start + total
    → take n start ++ replicate (n - length start) rest ≡ take n (start ++ replicate total rest)
from_first [] rest total n within = grind (arith, common_steps, take-replicate)
from_first (x ∷ xs) rest total zero within = grind (arith, common_steps)
from_first (x ∷ xs) rest total (suc n) within =
    let later = from_first xs rest total n (omega arith) in
    let same : suc n - length (x ∷ xs) ≡ n - length xs = omega arith in
    ap (λ k. x ∷ (take n xs ++ replicate k rest)) same ∙ ap (λ bytes. x ∷ bytes) later

-- from any place on
pub from_place :
    (start : List ℕ) (rest total from n : ℕ)
    → from + n ≤ length start + total
    → take n (drop from start) ++ replicate (n - (length start - from)) rest ≡ take n (drop from (start ++ replicate total rest))
from_place [] rest total from n within =
    grind (arith, common_steps, take-replicate, drop-replicate)
from_place (x ∷ xs) rest total zero n within =
    let whole : length (x ∷ xs) - 0 ≡ length (x ∷ xs) = omega arith in
    ap (λ k. take n (x ∷ xs) ++ replicate (n - k) rest) whole ∙ from_first (x ∷ xs) rest total n (omega arith)
from_place (x ∷ xs) rest total (suc from) n within =
    let later = from_place xs rest total from n (omega arith) in
    let same : length (x ∷ xs) - suc from ≡ length xs - from = omega arith in
    ap (λ k. take n (drop from xs) ++ replicate (n - k) rest) same ∙ later

-- the bytes of a frame entry and of a debug unit, by their start
pub frame_bytes : (hole : ℕ) → fill_bytes fill.Frame hole ≡ frame_head hole ++ replicate (hole - 13) 0
unfolding fill_bytes bytes_of
frame_bytes hole = refl

pub unit_bytes : (hole : ℕ) → fill_bytes fill.Unit hole ≡ unit_head hole ++ replicate (hole - 11) 0
unfolding fill_bytes bytes_of
unit_bytes hole = refl

pub zero_bytes : (hole : ℕ) → fill_bytes fill.Zero hole ≡ replicate hole 0
unfolding fill_bytes
zero_bytes hole = refl

pub trap_bytes : (hole : ℕ) → fill_bytes fill.Trap hole ≡ replicate hole 0xcc
unfolding fill_bytes
trap_bytes hole = refl

pub frame_length : (hole : ℕ) → length (frame_head hole) ≡ 13
unfolding bytes_of
frame_length hole = refl

pub unit_length : (hole : ℕ) → length (unit_head hole) ≡ 11
unfolding bytes_of
unit_length hole = refl
