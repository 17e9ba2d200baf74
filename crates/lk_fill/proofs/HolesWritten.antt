-- A hole, written into an image.
use Rattle.std.proofs.Common.{◌≡◌, ℕ, IsTrue, ◌||◌, not, nat_le, ◌+◌, ◌-◌, ◌^◌, ◌<◌, ◌≤◌, List, ◌++◌, length, take, drop, sym, ap, ◌∙◌, subst, arith, append_assoc}
use Rattle.std.proofs.lemmas.List.{drop-drop}
use Rattle.lk_model.specs.Holes.{hole_bytes}
use Rattle.lk_model.specs.LinkedBytes.{patch}
use Rattle.lk_model.specs.SectionKeys.{is_patched, least_of}
use Rattle.lk_model.specs.declared.layouts.Hole.{Hole}
use Rattle.lk_model.specs.declared.layouts.SectionRow.{SectionRow}
use Rattle.lk_fill.specs.Filled.{IsWritable}
use borrow.Rule.Slice.PartMut.{mid_len, mid_of, put_mid}

-- what the part of an image that a hole takes holds afterwards
abbrev IsFilled : SectionRow → ℕ → ℕ → List ℕ → Type 0
IsFilled row start n bytes =
    IsTrue (not (is_patched row.key) || nat_le (least_of row.key) n)
    → n < 2 ^ 32
    → bytes ≡ hole_bytes row (record { start = start; length = n })

pub hole_written :
    (row : SectionRow) (hole : Hole) (image bytes : List ℕ) (start end : ℕ)
    → IsWritable row (length image) hole
    → start ≡ row.offset + hole.start
    → end ≡ start + hole.length
    → end ≤ length image
    → IsFilled row hole.start (length (mid_of start (end - start) image)) bytes
    → length bytes ≡ length (mid_of start (end - start) image)
    → put_mid start (end - start) image bytes ≡ patch image (row.offset + hole.start) (hole_bytes row hole)
hole_written row hole image bytes start end can start_is end_is inside filled long =
    let cut = mid_len start end image inside in
    let part : length (mid_of start (end - start) image) ≡ hole.length = omega (arith, cut, end_is) in
    let reported = subst (λ (n : ℕ). IsFilled row hole.start n bytes) part filled in
    let wrote : bytes ≡ hole_bytes row hole = reported can.enough can.short in
    let behind : start + (end - start) ≡ start + length bytes = omega (arith, part, long, end_is) in
    sym (append_assoc (take start image) bytes (drop (end - start) (drop start image)))
    ∙ ap (λ rest. take start image ++ bytes ++ rest) (drop-drop (end - start) start image)
    ∙ ap (λ n. take start image ++ bytes ++ drop n image) behind
    ∙ ap (λ at. patch image at bytes) start_is
    ∙ ap (λ ys. patch image (row.offset + hole.start) ys) wrote
