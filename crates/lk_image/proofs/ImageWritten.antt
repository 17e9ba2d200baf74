-- An image into which headers, seal, sections and tail of a link are written is laid out.
use Rattle.std.proofs.Common.{◌≡◌, refl, sym, ap, subst, ◌∙◌, arith}
use Rattle.std.proofs.lemmas.List.{length-append, length-replicate}
use Rattle.std.specs.Prelude.{ℕ, ◌+◌, ◌-◌, ◌≤◌, List, [], ◌∷◌, ◌++◌, length, map, replicate, Option}
use Rattle.std.specs.List.{AllByRecursion, enumerate_from, flat_map}
use Rattle.lk_elf.specs.Records.{shdr_bytes}
use Rattle.lk_model.specs.Answers.{length_with}
use Rattle.lk_model.specs.FileHeader.{header_bytes}
use Rattle.lk_model.specs.FullPlace.{tail_start}
use Rattle.lk_model.specs.Images.{part_stretch, row_stretches, seal, seal_offset, stretch, stretches_with}
use Rattle.lk_model.specs.Stretches.{IsLaidOut, Stretch}
use Rattle.lk_model.specs.Tail.{Part, headers_offset, parts_from, section_headers}
use Rattle.lk_model.specs.Views.{Resolved}
use Rattle.lk_model.specs.declared.layouts.Placement.{Placement}
use Rattle.lk_headers.specs.Front.{up_to_seal}
use Rattle.lk_law_writes.specs.LaidLaws.{AreLaid}
use Rattle.lk_law_writes.specs.Layable.{Layable}
use Rattle.lk_law_writes.specs.Written.{fill_stretches, piece_stretches, sealed_stretches, tail_stretches, written}
use Rattle.lk_law_writes.specs.WrittenLaws.{AllEndWithin, EndsWithin}
use Rattle.lk_law_writes.proofs.LinkApart.{headers_short, stretches_are_laid}
use Rattle.lk_law_writes.proofs.LinkWritten.{sealed_link_is_written}
use Rattle.lk_law_writes.proofs.WrittenBytes.{written_in_turn}
use Rattle.lk_law_placement.proofs.PiecesLists.{all_back}
use Rattle.lk_symbol_values.specs.SymbolNumbering.{ValueInputs}
use Rattle.lk_image.specs.declared.placed_tails.PlacedTail.{PlacedTail}
use Rattle.lk_image.specs.PlacedLinks.{IsFramed}
use Rattle.lk_image.specs.Tails.{placed_tail}
use Rattle.lk_image.specs.Writes.{front_writes, tail_writes}

-- all that is written, in turn
in_turn : (image : List ℕ) (front pieces fill tail : List Stretch)
    → written image (((front ++ pieces) ++ fill) ++ tail) ≡ written (written (written (written image front) pieces) fill) tail
in_turn image front pieces fill tail =
    written_in_turn image ((front ++ pieces) ++ fill) tail
    ∙ ap (λ (b : List ℕ). written b tail) (written_in_turn image (front ++ pieces) fill ∙ ap (λ (b : List ℕ). written b fill) (written_in_turn image front pieces))

regroup : {A : Type 0} (xs ys zs : List A) → (xs ++ ys) ++ zs ≡ xs ++ (ys ++ zs)
regroup [] ys zs = refl
regroup (x ∷ xs) ys zs = ap (λ l. x ∷ l) (regroup xs ys zs)

up_to : (b z l : ℕ) → l ≡ b + z → z ≡ 4088 - b → b ≤ 4088 → l ≤ 4088
up_to b z l all zeros short = omega (arith, all, zeros, short)

front_fits : (k n s : ℕ) → k ≤ 4088 → 4088 + s ≤ n → 0 + k ≤ n
front_fits k n s short seal_in = omega (arith, short, seal_in)

-- the headers with zeros behind them end at the seal
front_short : (r : Resolved) (place : Placement) (parts : List Part) → Layable r place → length (up_to_seal (header_bytes r place parts)) ≤ seal_offset
front_short r place parts layable =
    let bytes = header_bytes r place parts in
    let short : length bytes ≤ seal_offset = headers_short r place parts layable in
    let both = length-append bytes (replicate (seal_offset - length bytes) 0) in
    let zeros = length-replicate {A = ℕ} (seal_offset - length bytes) 0 in
    up_to (length bytes) (length (replicate (seal_offset - length bytes) 0)) (length (up_to_seal bytes)) both zeros short

pub image_written : (known : ValueInputs) (objects : List (Option (List ℕ))) (r : Resolved) (parts : List Part) (front : List ℕ) (tail : PlacedTail) (old a b new : List ℕ)
    → IsFramed known objects r parts front
    → tail ≡ placed_tail known.place parts
    → old ≡ replicate (length_with known.place parts) 0
    → (AllEndWithin (length old) (front_writes front) → a ≡ written old (front_writes front))
    → length b ≡ length old
    → b ≡ written (written a (piece_stretches r known.place)) (fill_stretches known.place)
    → (AllEndWithin (length b) (tail_writes tail) → new ≡ written b (tail_writes tail))
    → IsLaidOut (stretches_with r known.place parts) new
image_written known objects r parts front tail old a b new framed tail_is old_is front_put same b_is tail_put =
    let place : Placement = known.place in
    let n : ℕ = length_with place parts in
    let rows : List Stretch = flat_map (row_stretches r place) (enumerate_from 0 place.sections) in
    let last : List Stretch = stretch (headers_offset place parts) (flat_map shdr_bytes (section_headers place parts)) ∷ [] in
    let long : length old ≡ n = ap length old_is ∙ length-replicate {A = ℕ} n 0 in
    let laid : AreLaid (stretches_with r place parts) n = stretches_are_laid r place parts framed.layable in
    let seal_in : seal_offset + length seal ≤ n = laid.within.1.0 in
    let short : length front ≤ seal_offset = subst (λ (bytes : List ℕ). length bytes ≤ seal_offset) (sym framed.front_is) (front_short r place parts framed.layable) in
    let front_in : AllEndWithin (length old) (front_writes front) =
    subst (λ (k : ℕ). AllEndWithin k (front_writes front)) (sym long) (front_fits (length front) n (length seal) short seal_in, (seal_in, tt)) in
    let a_is : a ≡ written (replicate n 0) (sealed_stretches r place parts) = front_put front_in ∙ (λ i. written (old_is i) (front_writes (framed.front_is i))) in
    let put : AllEndWithin (length b) (tail_stretches place parts) → new ≡ written b (tail_stretches place parts) =
    subst (λ (t : PlacedTail). AllEndWithin (length b) (tail_writes t) → new ≡ written b (tail_writes t)) tail_is tail_put in
    let tail_in : AllEndWithin (length b) (tail_stretches place parts) =
    subst (λ (k : ℕ). AllEndWithin k (tail_stretches place parts)) (sym (same ∙ long))
    (all_back (EndsWithin n) rows (tail_stretches place parts)
    (subst (AllByRecursion (EndsWithin n)) (regroup rows (map part_stretch (parts_from (tail_start place) parts)) last) laid.within.1.1)) in
    let new_is : new ≡ written (replicate n 0) (sealed_stretches r place parts ++ piece_stretches r place ++ fill_stretches place ++ tail_stretches place parts) =
    put tail_in
    ∙ ap (λ (k : List ℕ). written k (tail_stretches place parts)) (b_is ∙ ap (λ (k : List ℕ). written (written k (piece_stretches r place)) (fill_stretches place)) a_is)
    ∙ sym (in_turn (replicate n 0) (sealed_stretches r place parts) (piece_stretches r place) (fill_stretches place) (tail_stretches place parts)) in
    subst (IsLaidOut (stretches_with r place parts)) (sym new_is) (sealed_link_is_written r place parts framed.layable framed.tables)
