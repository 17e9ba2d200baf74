-- An image that is laid out has the seal at its place, and more than its headers.
use Rattle.std.proofs.Common.{◌≡◌, ◌≤◌, ◌<◌, ◌+◌, ◌⊎◌, ◌++◌, ◌∷◌, [], ℕ, List, length, take, drop, refl, ◌∙◌, ap, inl, inr, arith}
use Rattle.std.specs.Prelude.{map}
use Rattle.std.specs.List.{AllByRecursion, enumerate_from, flat_map}
use Rattle.std.specs.Str.{bytes_eq}
use Rattle.std.proofs.lemmas.Bool.Decides.{nat_tests}
use Rattle.std.proofs.lemmas.List.{length-drop, length-take}
use Rattle.std.proofs.lemmas.Slice.Eq.{bytes_eq-Decides}
use Rattle.lk_elf.specs.Records.{shdr_bytes}
use Rattle.lk_model.specs.FileHeader.{header_bytes}
use Rattle.lk_model.specs.FullPlace.{tail_start}
use Rattle.lk_model.specs.Images.{part_stretch, row_stretches, seal, seal_offset, stretch, stretches_with}
use Rattle.lk_model.specs.Stretches.{IsLaidOut, Stretch}
use Rattle.lk_model.specs.Tail.{Part, headers_offset, parts_from, section_headers}
use Rattle.lk_model.specs.Views.{Resolved}
use Rattle.lk_model.specs.declared.layouts.Placement.{Placement}
use Rattle.lk_law_records.proofs.SectionsBack.{end-last, length-shdrs}
use Rattle.lk_law_writes.specs.Layable.{Layable}
use Rattle.lk_law_writes.specs.WrittenLaws.{ShareNothing}
use Rattle.lk_law_writes.proofs.LinkApart.{stretches_are_laid}
use Rattle.lk_driver.specs.Committing.{IsSealedImage}

later : (P : Stretch → Type 0) (xs ys : List Stretch) → AllByRecursion P (xs ++ ys) → AllByRecursion P ys
later P [] ys all = all
later P (x ∷ xs) ys all = later P xs ys all.1

apart : (a b : Stretch) → ShareNothing a b → 0 < length a.bytes → 0 < length b.bytes → (a.at + length a.bytes ≤ b.at) ⊎ (b.at + length b.bytes ≤ a.at)
apart a b share some_a some_b = grind (arith, nat_tests)

-- the section headers have at least the first one
headers_long : (place : Placement) (parts : List Part) → 64 ≤ length (flat_map shdr_bytes (section_headers place parts))
unfolding section_headers
headers_long place parts = let long = length-shdrs (section_headers place parts) in omega (arith, long)

pub sealed_image : (r : Resolved) (place : Placement) (parts : List Part) (image : List ℕ) → Layable r place → IsLaidOut (stretches_with r place parts) image → IsSealedImage image
sealed_image r place parts image layable laid =
    let are = stretches_are_laid r place parts layable in
    let last = stretch (headers_offset place parts) (flat_map shdr_bytes (section_headers place parts)) in
    let between = flat_map (row_stretches r place) (enumerate_from 0 place.sections) ++ map part_stretch (parts_from (tail_start place) parts) in
    let share : ShareNothing (stretch seal_offset seal) last = (later (ShareNothing (stretch seal_offset seal)) between (last ∷ []) are.apart.1.0).0 in
    let long = headers_long place parts in
    let there : length (take 8 (drop 4088 image)) ≡ 8 = ap length laid.is_at.1.0 in
    let taken = length-take 8 (drop 4088 image) in
    let dropped = length-drop 4088 image in
    let within : 4096 ≤ length image = omega (arith, there, taken, dropped) in
    let ends : length image ≡ last.at + length last.bytes = laid.ends ∙ end-last (stretch 0 (header_bytes r place parts) ∷ stretch seal_offset seal ∷ between) last in
    let where_last = apart (stretch seal_offset seal) last share (omega arith) (omega (arith, long)) in (
      elim where_last [ inl behind ↦ omega (arith, behind, ends, long) | inr before ↦ absurd (omega (arith, before, ends, within)) ],
      ap (λ (l : List ℕ). bytes_eq l seal) laid.is_at.1.0 ∙ (bytes_eq-Decides seal seal).1 refl,
    )
