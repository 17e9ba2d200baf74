-- The laws that tie the two readings of an image together: stretches laid one after another are at
-- their places, and a patch of one stretch keeps every stretch that is apart.
use Rattle.std.proofs.Common.{◌≡◌, ◌≤◌, ◌<◌, ◌+◌, ◌-◌, ℕ, zero, suc, Bool, true, false, ◌||◌, inl, inr, List, [], ◌∷◌, ◌++◌, length, take, drop, get_or, refl, sym, ◌∙◌, ap, arith, append_assoc, length-append, length-drop, subst}
use Rattle.std.specs.Prelude.{replicate, nat_le}
use Rattle.std.specs.List.{list_any}
use Rattle.std.proofs.Math.Seq.{drop-append_seam, take-append_seam}
use Rattle.std.proofs.lemmas.List.{take-append-le, drop-append-le, length-replicate, drop-take, take-take, get_or_append_left, get_or-append_right}
use Rattle.std.proofs.lemmas.Slice.{drop-append-drop}
use Rattle.std.proofs.lemmas.Bool.{leb-true}
use Rattle.std.proofs.lemmas.Bool.Decides.{leb_tells}
use Rattle.std.proofs.lemmas.Grind.{common_steps}
use Rattle.std.specs.Cmp.{first_so, second_so}
use Rattle.lk_model.specs.LinkedBytes.{patch}
use Rattle.lk_model.specs.Stretches.{Stretch, IsAt, AllAreAt, has_byte, end_of_all, IsLaidOut, laid_from, laid_out, rises_from, is_apart}

-- what follows a list is right after it
is_at-after : (pre bytes rest : List ℕ) (at : ℕ) → length pre ≡ at → take (length bytes) (drop at (pre ++ (bytes ++ rest))) ≡ bytes
is_at-after pre bytes rest at e =
    ap (λ n. take (length bytes) (drop n (pre ++ (bytes ++ rest)))) (sym e)
    ∙ (ap (λ l. take (length bytes) l) (drop-append_seam pre (bytes ++ rest)) ∙ take-append_seam bytes rest)

-- zeros between two places
zeros : ℕ → ℕ → List ℕ
zeros from upto = replicate (upto - from) 0

length-zeros : (from upto : ℕ) → length (zeros from upto) ≡ upto - from
unfolding zeros
length-zeros from upto = length-replicate (upto - from) 0

length-gap : (pre : List ℕ) (place at : ℕ) → length pre ≡ place → place ≤ at → length (pre ++ zeros place at) ≡ at
length-gap pre place at e h = let z = length-zeros place at in grind (arith, length-append, z)

shift : (pre zs bytes rest : List ℕ) → pre ++ ((zs ++ bytes) ++ rest) ≡ (pre ++ zs) ++ (bytes ++ rest)
shift pre zs bytes rest = grind (arith, common_steps)

shift-2 : (pre zs bytes rest : List ℕ) → pre ++ ((zs ++ bytes) ++ rest) ≡ ((pre ++ zs) ++ bytes) ++ rest
shift-2 pre zs bytes rest = grind (arith, common_steps)

-- stretches laid from a place on are at their places
are_at-from : (pre : List ℕ) (place : ℕ) (ss : List Stretch) → length pre ≡ place → rises_from place ss ≡ true
    → AllAreAt (pre ++ laid_from place ss) ss
unfolding zeros
are_at-from pre place [] e h = tt
are_at-from pre place (s ∷ ss) e h =
    let low : place ≤ s.at = leb-true place s.at (first_so (nat_le place s.at) (rises_from (s.at + length s.bytes) ss) h) in
    let more : rises_from (s.at + length s.bytes) ss ≡ true = second_so (nat_le place s.at) (rises_from (s.at + length s.bytes) ss) h in
    let zs = replicate (s.at - place) 0 in
    let rest = laid_from (s.at + length s.bytes) ss in
    let gap : length (pre ++ zs) ≡ s.at = length-gap pre place s.at e low in
    let here : IsAt ((pre ++ zs) ++ (s.bytes ++ rest)) s = is_at-after (pre ++ zs) s.bytes rest s.at gap in
    let long : length ((pre ++ zs) ++ s.bytes) ≡ s.at + length s.bytes = length-append (pre ++ zs) s.bytes ∙ ap (λ n. n + length s.bytes) gap in
    let there = are_at-from ((pre ++ zs) ++ s.bytes) (s.at + length s.bytes) ss long more in (
      subst (λ l. IsAt l s) (sym (shift pre zs s.bytes rest)) here,
      subst (λ l. AllAreAt l ss) (sym (shift-2 pre zs s.bytes rest)) there,
    )

-- the length of what is laid
length-from : (place : ℕ) (s : Stretch) (ss : List Stretch) → rises_from place (s ∷ ss) ≡ true
    → place + length (laid_from place (s ∷ ss)) ≡ end_of_all (s ∷ ss)
unfolding zeros
length-from place s [] h =
    let low : place ≤ s.at = leb-true place s.at (first_so (nat_le place s.at) true h) in
    let z = length-replicate {A = ℕ} (s.at - place) 0 in
    grind (arith, length-append, z)
length-from place s (t ∷ ss) h =
    let low : place ≤ s.at = leb-true place s.at (first_so (nat_le place s.at) (rises_from (s.at + length s.bytes) (t ∷ ss)) h) in
    let more : rises_from (s.at + length s.bytes) (t ∷ ss) ≡ true = second_so (nat_le place s.at) (rises_from (s.at + length s.bytes) (t ∷ ss)) h in
    let z = length-replicate {A = ℕ} (s.at - place) 0 in
    let tail = length-from (s.at + length s.bytes) t ss more in
    grind (arith, length-append, z, tail)

-- a place in a list after another one
get-after : (pre xs : List ℕ) (k : ℕ) → length pre ≤ k → get_or (pre ++ xs) k 0 ≡ get_or xs (k - length pre) 0
get-after pre xs k h = grind (arith, common_steps)

get-before : (pre xs : List ℕ) (k : ℕ) → k < length pre → get_or (pre ++ xs) k 0 ≡ get_or pre k 0
get-before pre xs k h = grind (arith, common_steps)

get-zeros : (n k : ℕ) → get_or {A = ℕ} (replicate n 0) k 0 ≡ 0
get-zeros zero k = refl
get-zeros (suc n) zero = refl
get-zeros (suc n) (suc k) = get-zeros n k

or-first : (a b : Bool) → (a || b) ≡ false → a ≡ false
or-first true b h = h
or-first false b h = refl

or-second : (a b : Bool) → (a || b) ≡ false → b ≡ false
or-second true b h = absurd (cc)
or-second false b h = h

-- a place from a stretch's start on that the stretch does not have is past its end
past-stretch : (s : Stretch) (k : ℕ) → s.at ≤ k → has_byte k s ≡ false → s.at + length s.bytes ≤ k
past-stretch s k from none = grind (arith, leb_tells)

-- a place in the zeros before a stretch
in-gap : (pre : List ℕ) (place at : ℕ) (rest : List ℕ) (k : ℕ) → length pre ≡ place → place ≤ at → place ≤ k → k < at
    → get_or ((pre ++ replicate (at - place) 0) ++ rest) k 0 ≡ 0
in-gap pre place at rest k e h from below =
    let z : length (pre ++ replicate (at - place) 0) ≡ at = length-append pre (replicate (at - place) 0) ∙ grind (arith, length-replicate {A = ℕ} (at - place) 0) in
    get_or_append_left (pre ++ replicate (at - place) 0) rest 0 k (omega (arith, z))
    ∙ (get_or-append_right pre (replicate (at - place) 0) place k 0 e from ∙ get-zeros (at - place) (k - place))

-- a number is at another one or past it, or before it
either-side : {P : Type 0} (a k : ℕ) → (a ≤ k → P) → (k < a → P) → P
either-side {P} a k f g = elim (leb_tells a k) as (λ _. P) [ inl t ↦ f t.1 | inr t ↦ g t.1 ]

-- a place that no stretch has holds 0
zero-from : (pre : List ℕ) (place : ℕ) (ss : List Stretch) → length pre ≡ place → rises_from place ss ≡ true
    → (k : ℕ) → place ≤ k → k < length (pre ++ laid_from place ss) → list_any (has_byte k) ss ≡ false
    → get_or (pre ++ laid_from place ss) k 0 ≡ 0
unfolding zeros
zero-from pre place [] e h k from upto none = absurd (let z = length-append {A = ℕ} pre [] in omega (arith, z))
zero-from pre place (s ∷ ss) e h k from upto none =
    let low : place ≤ s.at = leb-true place s.at (first_so (nat_le place s.at) (rises_from (s.at + length s.bytes) ss) h) in
    let more : rises_from (s.at + length s.bytes) ss ≡ true = second_so (nat_le place s.at) (rises_from (s.at + length s.bytes) ss) h in
    let zs = replicate (s.at - place) 0 in
    let rest = laid_from (s.at + length s.bytes) ss in
    let gap : length (pre ++ zs) ≡ s.at = length-gap pre place s.at e low in
    let long : length ((pre ++ zs) ++ s.bytes) ≡ s.at + length s.bytes = length-append (pre ++ zs) s.bytes ∙ ap (λ n. n + length s.bytes) gap in
    let apart : has_byte k s ≡ false = or-first (has_byte k s) (list_any (has_byte k) ss) none in
    let others : list_any (has_byte k) ss ≡ false = or-second (has_byte k s) (list_any (has_byte k) ss) none in
    let upto-2 : k < length (((pre ++ zs) ++ s.bytes) ++ rest) = subst (λ l. k < length l) (shift-2 pre zs s.bytes rest) upto in
    either-side s.at k
    (λ past. subst (λ l. get_or l k 0 ≡ 0) (sym (shift-2 pre zs s.bytes rest))
    (zero-from ((pre ++ zs) ++ s.bytes) (s.at + length s.bytes) ss long more k (past-stretch s k past apart) upto-2 others))
    (λ before. subst (λ l. get_or l k 0 ≡ 0) (sym (shift pre zs s.bytes rest)) (in-gap pre place s.at (s.bytes ++ rest) k e low from before))

-- stretches that rise, laid one after another, are at their places
pub laid-out-is_at : (ss : List Stretch) → rises_from 0 ss ≡ true → IsLaidOut ss (laid_out ss)
unfolding laid_out
laid-out-is_at ss h = record {
  is_at = are_at-from [] 0 ss refl h;
  zeros = λ k upto none. zero-from [] 0 ss refl h k (omega arith) upto none;
  ends = whole-length ss h;
}
  where
    whole-length : (ss : List Stretch) → rises_from 0 ss ≡ true → length (laid_from 0 ss) ≡ end_of_all ss
    whole-length [] h = refl
    whole-length (s ∷ ss) h = let e = length-from 0 s ss h in omega (arith, e)

length-front : (image bytes : List ℕ) (at : ℕ) → at + length bytes ≤ length image → length (take at image ++ bytes) ≡ at + length bytes
length-front image bytes at fits = grind (arith, common_steps)

length-part : (image : List ℕ) (at : ℕ) → at ≤ length image → length (take at image) ≡ at
length-part image at h = grind (arith, common_steps)

part-of-front : (image : List ℕ) (at from size : ℕ) → from + size ≤ at → take size (drop from (take at image)) ≡ take size (drop from image)
part-of-front image at from size h =
    sym (drop-take from size (take at image))
    ∙ (ap (drop from) (take-take (from + size) at image h) ∙ drop-take from size image)

-- what is behind a patch, and before it
behind : (image bytes : List ℕ) (at from size : ℕ) → at + length bytes ≤ length image → at + length bytes ≤ from
    → take size (drop from (patch image at bytes)) ≡ take size (drop from image)
behind image bytes at from size fits after =
    ap (take size) (drop-append-drop (at + length bytes) image (take at image ++ bytes) from after (length-front image bytes at fits))

before : (image bytes : List ℕ) (at from size : ℕ) → at + length bytes ≤ length image → from + size ≤ at
    → take size (drop from (patch image at bytes)) ≡ take size (drop from image)
before image bytes at from size fits close =
    let front = take at image in
    let back = bytes ++ drop (at + length bytes) image in
    let long : length front ≡ at = length-part image at (omega arith) in
    let joined : patch image at bytes ≡ front ++ back = append_assoc front bytes (drop (at + length bytes) image) in
    ap (λ l. take size (drop from l)) joined
    ∙ (ap (take size) (drop-append-le from front back (omega (arith, long)))
    ∙ (take-append-le size (drop from front) back (let d = length-drop from front in omega (arith, long, d))
    ∙ part-of-front image at from size close))

-- a stretch apart from a patch and not behind it ends before it
apart-before : (at : ℕ) (bytes : List ℕ) (t : Stretch) → is_apart (record { at = at; bytes = bytes }) t ≡ true
    → t.at < at + length bytes → t.at + length t.bytes ≤ at
apart-before at bytes t apart close = grind (arith, leb_tells)

-- a patch of the bytes of one stretch keeps every stretch that is apart from it
pub patch-keeps : (image bytes : List ℕ) (at : ℕ) (t : Stretch) → at + length bytes ≤ length image
    → is_apart (record { at = at; bytes = bytes }) t ≡ true → IsAt image t → IsAt (patch image at bytes) t
patch-keeps image bytes at t fits apart is_at =
    either-side (at + length bytes) t.at
    (λ after. behind image bytes at t.at (length t.bytes) fits after ∙ is_at)
    (λ close. before image bytes at t.at (length t.bytes) fits (apart-before at bytes t apart close) ∙ is_at)
