-- The fill of a hole is as long as the hole, where that can be filled.
use Rattle.std.specs.Prelude.{◌≡◌, ℕ, Bool, true, false, IsTrue, List, [], ◌∷◌, ◌+◌, ◌-◌, ◌≤◌, nat_le, length, max, min, replicate, refl}
use Rattle.std.specs.List.{AllByRecursion, list_all}
use Rattle.std.proofs.Common.{arith}
use Rattle.std.proofs.lemmas.Bool.{and_parts, both_ways, leb-true}
use Rattle.std.proofs.lemmas.List.{length-append, length-replicate}
use Rattle.lk_elf.specs.Fields.{bytes_of}
use Rattle.lk_model.specs.Holes.{fill_bytes, gap_byte, hole_bytes, holes_of, past_byte, sequence_hole_bytes}
use Rattle.lk_model.specs.Lawful.{holes_are_fillable}
use Rattle.lk_model.specs.SectionKeys.{debug_info, eh_frame, fill_kind, is_executable, is_patched, least_of, same_key}
use Rattle.lk_model.specs.declared.layouts.FillKind.{FillKind}
use Rattle.lk_model.specs.declared.layouts.FillKind.TheVariants as fill
use Rattle.lk_model.specs.declared.layouts.Hole.{Hole}
use Rattle.lk_model.specs.declared.layouts.Placement.{Placement}
use Rattle.lk_model.specs.declared.layouts.SectionKey.{SectionKey}
use Rattle.lk_model.specs.declared.layouts.SectionRow.{SectionRow}
use Rattle.lk_model.proofs.Rising.{all_map}
use Rattle.lk_law_placement.proofs.DistinctLists.{all_always}

-- the fewest bytes that a kind of fill has room in
abbrev needed_by : FillKind → ℕ
needed_by fill.Zero = 0
needed_by fill.Trap = 0
needed_by fill.Frame = 13
needed_by fill.Unit = 11

length_fill : (kind : FillKind) (n : ℕ) → needed_by kind ≤ n → length (fill_bytes kind n) ≡ n
unfolding fill_bytes bytes_of
length_fill fill.Zero n enough = length-replicate n 0
length_fill fill.Trap n enough = length-replicate n 0xcc
length_fill fill.Frame n enough = let rest = length-replicate {A = ℕ} (n - 13) 0 in omega (arith, rest, enough)
length_fill fill.Unit n enough = let rest = length-replicate {A = ℕ} (n - 11) 0 in omega (arith, rest, enough)

-- a hole that can be filled has as many
enough_for : (key : SectionKey) → needed_by (fill_kind key) ≤ least_of key
unfolding fill_kind
enough_for key = go (is_executable key.class) (same_key key eh_frame) (same_key key debug_info) refl refl refl
  where
    go : (a b c : Bool) → is_executable key.class ≡ a → same_key key eh_frame ≡ b → same_key key debug_info ≡ c → needed_by (fill_kind key) ≤ least_of key
    go true b c e f g = rw e (omega arith)
    go false true c e f g = rw e (rw f (omega arith))
    go false false true e f g = rw e (rw f (rw g (omega arith)))
    go false false false e f g = rw e (rw f (rw g (omega arith)))

length_in_sequence : (row : SectionRow) (h : Hole) → length (sequence_hole_bytes row h) ≡ h.length
length_in_sequence row h =
    let end : ℕ = h.start + h.length in
    let gap = length-replicate (min end row.size - h.start) (gap_byte row.key) in
    let past = length-replicate (end - max h.start row.size) (past_byte row.key) in
    let both = length-append (replicate (min end row.size - h.start) (gap_byte row.key)) (replicate (end - max h.start row.size) (past_byte row.key)) in
    omega (arith, gap, past, both)

length_hole : (row : SectionRow) (h : Hole) → (is_patched row.key ≡ true → least_of row.key ≤ h.length) → length (hole_bytes row h) ≡ h.length
unfolding hole_bytes
length_hole row h fillable = go (is_patched row.key) refl
  where
    go : (b : Bool) → is_patched row.key ≡ b → length (hole_bytes row h) ≡ h.length
    go true e = rw e (length_fill (fill_kind row.key) h.length (let enough = enough_for row.key in let most = fillable e in omega (arith, enough, most)))
    go false e = rw e (length_in_sequence row h)

-- what passes a test at all items passes it at each
each_passes : (p : Hole → Bool) (holes : List Hole) → list_all p holes ≡ true → AllByRecursion (λ h. p h ≡ true) holes
each_passes p [] all = tt
each_passes p (h ∷ hs) all = let parts = and_parts (p h) (list_all p hs) all in (parts.0, each_passes p hs parts.1)

-- all holes of a section are filled whole
pub fill_lengths : (place : Placement) (number : ℕ) (row : SectionRow) → IsTrue (holes_are_fillable place number row) → AllByRecursion (λ (h : Hole). length (hole_bytes row h) ≡ h.length) (holes_of place number)
fill_lengths place number row fillable = go (is_patched row.key) refl
  where
    go : (b : Bool) → is_patched row.key ≡ b → AllByRecursion (λ (h : Hole). length (hole_bytes row h) ≡ h.length) (holes_of place number)
    go true e =
        let all : list_all (λ (hole : Hole). nat_le (least_of row.key) hole.length) (holes_of place number) ≡ true = rw e at fillable in
        all_map {Q = λ h. length (hole_bytes row h) ≡ h.length}
        (λ h passes. length_hole row h (λ patched. leb-true (least_of row.key) h.length passes))
        (holes_of place number)
        (each_passes (λ (hole : Hole). nat_le (least_of row.key) hole.length) (holes_of place number) all)
    go false e = all_always (λ h. length_hole row h (λ patched. absurd (both_ways (is_patched row.key) e patched))) (holes_of place number)
