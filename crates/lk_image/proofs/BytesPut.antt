-- Bytes that are put at their places, one after another, are writes.
use Rattle.std.proofs.Common.{◌≡◌, sym, ap, subst, ◌∙◌, arith}
use Rattle.std.proofs.lemmas.List.{append-nil, drop_all, take_all}
use Rattle.std.specs.Prelude.{ℕ, ◌+◌, ◌≤◌, List, [], ◌∷◌, ◌++◌, drop, length, take}
use Rattle.lk_model.specs.Amounts.{round_up}
use Rattle.lk_model.specs.Images.{seal, seal_offset, stretch}
use Rattle.lk_model.specs.LinkedBytes.{patch}
use Rattle.lk_model.specs.Tail.{Part}
use Rattle.lk_law_writes.specs.Written.{written}
use Rattle.lk_law_writes.specs.WrittenLaws.{AllEndWithin}
use Rattle.lk_law_writes.proofs.WrittenBytes.{written_in_turn}
use Rattle.lk_law_placement.proofs.PiecesLists.{all_back, all_front}
use Rattle.lk_law_writes.specs.WrittenLaws.{EndsWithin}
use Rattle.lk_image.specs.declared.placed_tails.PlacedTail.{PlacedTail}
use Rattle.lk_image.specs.Writes.{front_writes, part_writes, tail_writes}

pub front_put : (old mid new front : List ℕ)
    → (0 + length front ≤ length old → mid ≡ patch old 0 front)
    → length mid ≡ length old
    → (seal_offset + length seal ≤ length mid → new ≡ patch mid seal_offset seal)
    → AllEndWithin (length old) (front_writes front)
    → new ≡ written old (front_writes front)
front_put old mid new front first long second within =
    second (subst (λ (k : ℕ). seal_offset + length seal ≤ k) (sym long) within.1.0) ∙ ap (λ (b : List ℕ). patch b seal_offset seal) (first within.0)

-- one part more
pub parts_more : (size : ℕ) (image new : List ℕ) (end next : ℕ) (part : Part) (parts : List Part)
    → length image ≡ size
    → (round_up end 8 + length part.bytes ≤ length image → new ≡ patch image (round_up end 8) part.bytes)
    → (round_up end 8 + length part.bytes ≤ length image → next ≡ round_up end 8 + length part.bytes)
    → AllEndWithin size (part_writes end (part ∷ parts))
    → AllEndWithin size (part_writes next parts) × (written new (part_writes next parts) ≡ written image (part_writes end (part ∷ parts)))
parts_more size image new end next part parts long put ends within =
    let here : round_up end 8 + length part.bytes ≤ length image = subst (λ (k : ℕ). round_up end 8 + length part.bytes ≤ k) (sym long) within.0 in
    let next_is : next ≡ round_up end 8 + length part.bytes = ends here in
    (subst (λ (k : ℕ). AllEndWithin size (part_writes k parts)) (sym next_is) within.1, λ i. written (put here i) (part_writes (next_is i) parts))

pub tail_put : (tail : PlacedTail) (ps : List Part) (hs old mid new : List ℕ)
    → ps ≡ tail.parts
    → hs ≡ tail.headers
    → (AllEndWithin (length old) (part_writes tail.start ps) → mid ≡ written old (part_writes tail.start ps))
    → length mid ≡ length old
    → (tail.headers_at + length hs ≤ length mid → new ≡ patch mid tail.headers_at hs)
    → AllEndWithin (length old) (tail_writes tail)
    → new ≡ written old (tail_writes tail)
tail_put tail ps hs old mid new parts_are headers_are put_first long put_second within =
    let first : AllEndWithin (length old) (part_writes tail.start tail.parts) → mid ≡ written old (part_writes tail.start tail.parts) =
    subst (λ (l : List Part). AllEndWithin (length old) (part_writes tail.start l) → mid ≡ written old (part_writes tail.start l)) parts_are put_first in
    let second : tail.headers_at + length tail.headers ≤ length mid → new ≡ patch mid tail.headers_at tail.headers =
    subst (λ (l : List ℕ). tail.headers_at + length l ≤ length mid → new ≡ patch mid tail.headers_at l) headers_are put_second in
    let parts = part_writes tail.start tail.parts in
    let last = stretch tail.headers_at tail.headers ∷ [] in
    let back = all_back (EndsWithin (length old)) parts last within in
    second (subst (λ (k : ℕ). tail.headers_at + length tail.headers ≤ k) (sym long) back.0)
    ∙ ap (λ (b : List ℕ). patch b tail.headers_at tail.headers) (first (all_front (EndsWithin (length old)) parts last within))
    ∙ sym (written_in_turn old parts last)

-- bytes written over all bytes of a buffer
pub whole_put : (size : ℕ) (old new : List ℕ) → length old ≡ size → length new ≡ length old → take size (new ++ drop (length new) old) ≡ new
whole_put size old new sized same =
    ap (λ (rest : List ℕ). take size (new ++ rest)) (drop_all (length new) old (omega (arith, same)))
    ∙ ap (take size) (append-nil new)
    ∙ take_all size new (omega (arith, sized, same))
