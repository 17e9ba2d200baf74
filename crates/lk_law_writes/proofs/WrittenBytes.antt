-- What bytes hold after stretches were written into them.
use Rattle.std.specs.Prelude.{◌≡◌, ℕ, zero, suc, Bool, true, false, List, [], ◌∷◌, ◌++◌, ◌+◌, ◌-◌, ◌<◌, ◌≤◌, ◌⊎◌, nat_le, nat_lt, drop, length, replicate, slice_index, take, refl}
use Rattle.std.specs.List.{AllByRecursion, Contains, list_any}
use Rattle.std.proofs.Common.{ap, arith, inl, inr, subst, sym, get_or, ◌∙◌}
use Rattle.std.proofs.lemmas.Bool.{and_parts, cases_lt, leb-true, ltb-true, or_from, or_parts}
use Rattle.std.proofs.lemmas.Bool.Decides.{nat_tests, leb_tells}
use Rattle.std.proofs.lemmas.Grind.{common_steps}
use Rattle.std.proofs.lemmas.List.{append_assoc, append-nil, drop-replicate, take-replicate, drop-drop, drop_at, take_at, take-take, take-append-drop, length-append, length-take-le, get_or-append_right, get_or-take, get_or-drop, get_or-replicate, get_or_past, length-replicate}
use Rattle.std.proofs.lemmas.List.Elements.{All-contains, All-from_recursion, recursion_from_All, All-contains_itself}
use Rattle.std.proofs.lemmas.List.Sums.{fold-append}
use Rattle.lk_model.specs.Images.{stretch}
use Rattle.lk_model.specs.LinkedBytes.{patch}
use Rattle.lk_model.specs.Stretches.{AllAreAt, IsAt, Stretch, end_of_all, has_byte, is_apart}
use Rattle.lk_model.proofs.Rising.{all_map}
use Rattle.lk_model.proofs.StretchLawProofs.{patch-keeps}
use Rattle.lk_law_placement.proofs.DistinctLists.{all_both, none_of_all, none_passes}
use Rattle.lk_law_writes.specs.Written.{written}
use Rattle.lk_law_writes.specs.WrittenLaws.{AllEndWithin, AreApart, EndsWithin, IsZeros, LengthStays, PaddingIsZeros, PartsAreWhole, ShareNothing, WrittenInTurn, WrittenIsLaidOut, WrittenIsAt}

-- ---- one write

-- bytes with a part replaced are as many
pub length_patch : (bytes new : List ℕ) (at : ℕ) → at + length new ≤ length bytes → length (patch bytes at new) ≡ length bytes
length_patch bytes new at fits = grind (arith, common_steps)

-- the part has the new bytes
patch_is_at : (bytes new : List ℕ) (at : ℕ) → at + length new ≤ length bytes → IsAt (patch bytes at new) (stretch at new)
patch_is_at bytes new at fits =
    let front : length (take at bytes) ≡ at = length-take-le at bytes (omega (arith, fits)) in
    ap (λ l. take (length new) (drop at l)) (append_assoc (take at bytes) new (drop (at + length new) bytes))
    ∙ (ap (take (length new)) (drop_at (take at bytes) (new ++ drop (at + length new) bytes) at front)
    ∙ take_at new (drop (at + length new) bytes) (length new) refl)

-- and every other byte stays
byte_before : (bytes new : List ℕ) (at k : ℕ) → at + length new ≤ length bytes → k < at → slice_index (patch bytes at new) k ≡ slice_index bytes k
byte_before bytes new at k fits less = grind (arith, common_steps)

byte_behind : (bytes new : List ℕ) (at k : ℕ) → at + length new ≤ length bytes → at + length new ≤ k → slice_index (patch bytes at new) k ≡ slice_index bytes k
byte_behind bytes new at k fits more = grind (arith, common_steps)

past_end : (s : Stretch) (k : ℕ) → s.at ≤ k → has_byte k s ≡ false → s.at + length s.bytes ≤ k
past_end s k from none = grind (arith, leb_tells)

byte_stays : (bytes : List ℕ) (s : Stretch) (k : ℕ) → EndsWithin (length bytes) s → has_byte k s ≡ false → slice_index (patch bytes s.at s.bytes) k ≡ slice_index bytes k
byte_stays bytes s k fits none =
    elim (cases_lt k s.at) [
      | inl less ↦ byte_before bytes s.bytes s.at k fits less
      | inr more ↦ byte_behind bytes s.bytes s.at k fits (past_end s k more none)
    ]

-- ---- stretches that share nothing, or are the same one

apart_cases : (a b : Stretch) → ShareNothing a b → (length a.bytes ≡ 0) ⊎ ((length b.bytes ≡ 0) ⊎ (is_apart a b ≡ true))
apart_cases a b apart = grind (arith, nat_tests)

turned : (a b : Stretch) → ShareNothing a b → ShareNothing b a
turned a b apart = grind (arith, nat_tests)

abbrev pub Agree : Stretch → Stretch → Type 0
Agree a b = ShareNothing a b ⊎ (a ≡ b)

-- a patch without bytes changes nothing
nothing_patched : (bytes new : List ℕ) (at : ℕ) → length new ≡ 0 → patch bytes at new ≡ bytes
nothing_patched bytes [] at none =
    let same : at + 0 ≡ at = omega arith in
    ap (λ l. l ++ drop (at + 0) bytes) (append-nil (take at bytes))
    ∙ (ap (λ n. take at bytes ++ drop n bytes) same ∙ take-append-drop at bytes)
nothing_patched bytes (b ∷ new) at none = absurd (omega (arith, none))

-- a stretch without bytes may be anywhere
nothing_is_at : (image : List ℕ) (s : Stretch) → length s.bytes ≡ 0 → IsAt image s
nothing_is_at image s none = grind (arith, common_steps)

-- a write keeps what agrees with it
write_keeps : (image : List ℕ) (s t : Stretch) → EndsWithin (length image) t → Agree t s → IsAt image s → IsAt (patch image t.at t.bytes) s
write_keeps image s t fits agree is_at =
    elim agree [
      | inl apart ↦
          elim (apart_cases t s apart) [
            | inl none ↦ subst (λ l. IsAt l s) (sym (nothing_patched image t.bytes t.at none)) is_at
            | inr other ↦
                elim other [
                  | inl none ↦ nothing_is_at (patch image t.at t.bytes) s none
                  | inr away ↦ patch-keeps image t.bytes t.at s fits away is_at
                ]
          ]
      | inr same ↦ subst (λ (x : Stretch). IsAt (patch image t.at t.bytes) x) same (patch_is_at image t.bytes t.at fits)
    ]

-- ---- writes one after another

pub length_stays : LengthStays
length_stays image [] within = refl
length_stays image (t ∷ ts) within =
    let here = length_patch image t.bytes t.at within.0 in
    length_stays (patch image t.at t.bytes) ts (subst (λ n. AllEndWithin n ts) (sym here) within.1) ∙ here

pub written_in_turn : WrittenInTurn
written_in_turn image ss ts = fold-append (λ (bytes : List ℕ) (s : Stretch). patch bytes s.at s.bytes) image ss ts

-- writes keep what agrees with all of them
pub writes_keep : (image : List ℕ) (s : Stretch) (ts : List Stretch) → AllEndWithin (length image) ts → AllByRecursion (λ t. Agree t s) ts → IsAt image s → IsAt (written image ts) s
writes_keep image s [] within agree is_at = is_at
writes_keep image s (t ∷ ts) within agree is_at =
    let here = length_patch image t.bytes t.at within.0 in
    writes_keep (patch image t.at t.bytes) s ts (subst (λ n. AllEndWithin n ts) (sym here) within.1) agree.1 (write_keeps image s t within.0 agree.0 is_at)

-- a stretch that is written is in the bytes
pub writes_are_at : (image : List ℕ) (s : Stretch) (ts : List Stretch) → AllEndWithin (length image) ts → AllByRecursion (λ t. Agree t s) ts → Contains ts s → IsAt (written image ts) s
writes_are_at image s [] within agree (k, below, there) = absurd (omega (arith, below))
writes_are_at image s (t ∷ ts) within agree (zero, below, there) =
    let here = length_patch image t.bytes t.at within.0 in
    let first : IsAt (patch image t.at t.bytes) s = subst (λ (x : Stretch). IsAt (patch image t.at t.bytes) x) there (patch_is_at image t.bytes t.at within.0) in
    writes_keep (patch image t.at t.bytes) s ts (subst (λ n. AllEndWithin n ts) (sym here) within.1) agree.1 first
writes_are_at image s (t ∷ ts) within agree (suc k, below, there) =
    let here = length_patch image t.bytes t.at within.0 in
    writes_are_at (patch image t.at t.bytes) s ts (subst (λ n. AllEndWithin n ts) (sym here) within.1) agree.1 (k, omega (arith, below), there)

-- a byte that no stretch has stays
pub bytes_stay : (image : List ℕ) (ts : List Stretch) (k : ℕ) → AllEndWithin (length image) ts → list_any (has_byte k) ts ≡ false → slice_index (written image ts) k ≡ slice_index image k
bytes_stay image [] k within none = refl
bytes_stay image (t ∷ ts) k within none =
    let here = length_patch image t.bytes t.at within.0 in
    let parts = or_parts (has_byte k t) (list_any (has_byte k) ts) none in
    bytes_stay (patch image t.at t.bytes) ts k (subst (λ n. AllEndWithin n ts) (sym here) within.1) parts.1 ∙ byte_stays image t k within.0 parts.0

-- ---- stretches of which no two share a byte

-- what holds of all holds of each
pub of_contained : {A : Type 0} (P : A → Type 0) (ss : List A) (s : A) → AllByRecursion P ss → Contains ss s → P s
of_contained P ss s all there = All-contains P ss s (All-from_recursion P ss all) there

-- each of a list with the ones behind it
agree_behind : (x s : Stretch) (ss : List Stretch) → AllByRecursion (ShareNothing x) ss → Contains ss s → Agree x s
agree_behind x s ss all there = inl (of_contained (ShareNothing x) ss s all there)

agree_turned : (a b : Stretch) → Agree a b → Agree b a
agree_turned a b (inl apart) = inl (turned a b apart)
agree_turned a b (inr same) = inr (sym same)

-- each two of them agree
pub all_agree : (ss : List Stretch) (a b : Stretch) → AreApart ss → Contains ss a → Contains ss b → Agree a b
all_agree [] a b apart (k, below, there) other = absurd (omega (arith, below))
all_agree (s ∷ ss) a b apart (zero, below, there) (zero, low, here) = inr (sym there ∙ here)
all_agree (s ∷ ss) a b apart (zero, below, there) (suc j, low, here) =
    subst (λ (x : Stretch). Agree x b) there (agree_behind s b ss apart.0 (j, omega (arith, low), here))
all_agree (s ∷ ss) a b apart (suc k, below, there) (zero, low, here) =
    subst (λ (x : Stretch). Agree a x) here (agree_turned s a (agree_behind s a ss apart.0 (k, omega (arith, below), there)))
all_agree (s ∷ ss) a b apart (suc k, below, there) (suc j, low, here) =
    all_agree ss a b apart.1 (k, omega (arith, below), there) (j, omega (arith, low), here)

-- ---- the laws

-- each of a list is among them
pub each_contained : (ss : List Stretch) → AllByRecursion (λ s. Contains ss s) ss
each_contained ss = recursion_from_All (λ s. Contains ss s) ss (All-contains_itself ss)

all_are_at : (image : List ℕ) (ss : List Stretch) → AllByRecursion (λ s. IsAt image s) ss → AllAreAt image ss
all_are_at image [] all = tt
all_are_at image (s ∷ ss) all = (all.0, all_are_at image ss all.1)

pub written_is_at : WrittenIsAt
written_is_at image ts apart within = record {
  is_at =
      all_are_at (written image ts) ts
      (all_map (λ s there. writes_are_at image s ts within (all_map (λ t here. all_agree ts t s apart here there) ts (each_contained ts)) there) ts (each_contained ts));
  others = λ k none. bytes_stay image ts k within none;
  length = length_stays image ts within;
}

-- zeros are in zeros
zeros_are_at : (n : ℕ) (s : Stretch) → EndsWithin n s → IsZeros s → IsAt (replicate n 0) s
zeros_are_at n s within zeros =
    ap (take (length s.bytes)) (drop-replicate s.at n 0)
    ∙ (take-replicate (length s.bytes) (n - s.at) 0 (omega (arith, within)) ∙ sym zeros)

-- a byte that none of the stretches has, none of those among them has
none_among : (k : ℕ) (ss ts : List Stretch) → AllByRecursion (λ t. Contains ss t) ts → list_any (has_byte k) ss ≡ false → list_any (has_byte k) ts ≡ false
none_among k ss ts only none =
    none_of_all (has_byte k) ts (all_map (λ t there. of_contained (λ s. has_byte k s ≡ false) ss t (none_passes (has_byte k) ss none) there) ts only)

-- what is written into zeros, of stretches that share nothing
puts_are_at : (n : ℕ) (ss ts : List Stretch) (s : Stretch) → AreApart ss → AllEndWithin n ss → AllEndWithin n ts → AllByRecursion (λ t. Contains ss t) ts → Contains ss s → IsZeros s ⊎ Contains ts s → IsAt (written (replicate n 0) ts) s
puts_are_at n ss ts s apart within fits only there put =
    let long : length (replicate n 0) ≡ n = length-replicate n 0 in
    let fit : AllEndWithin (length (replicate n 0)) ts = subst (λ k. AllEndWithin k ts) (sym long) fits in
    let agree : AllByRecursion (λ t. Agree t s) ts = all_map (λ t here. all_agree ss t s apart here there) ts only in
    elim put [
      | inl zeros ↦ writes_keep (replicate n 0) s ts fit agree (zeros_are_at n s (of_contained (EndsWithin n) ss s within there) zeros)
      | inr among ↦ writes_are_at (replicate n 0) s ts fit agree among
    ]

zero_at : (n k : ℕ) → get_or (replicate {A = ℕ} n 0) k 0 ≡ 0
zero_at n k =
    elim (cases_lt k n) [
      | inl less ↦ get_or-replicate n k 0 0 less
      | inr more ↦ get_or_past (replicate n 0) k 0 (let long = length-replicate {A = ℕ} n 0 in omega (arith, more, long))
    ]

pub written_is_laid_out : WrittenIsLaidOut
written_is_laid_out ss ts apart within puts =
    let n : ℕ = end_of_all ss in
    let only = puts.only in
    let long : length (replicate n 0) ≡ n = length-replicate n 0 in
    let fits : AllEndWithin n ts = all_map (λ t there. of_contained (EndsWithin n) ss t within there) ts only in
    let fit : AllEndWithin (length (replicate n 0)) ts = subst (λ k. AllEndWithin k ts) (sym long) fits in
    record {
      is_at =
          all_are_at (written (replicate n 0) ts) ss
          (all_both (λ s there put. puts_are_at n ss ts s apart within fits only there put) ss (each_contained ss) puts.each);
      zeros = λ k below none. bytes_stay (replicate n 0) ts k fit (none_among k ss ts only none) ∙ zero_at n k;
      ends = length_stays (replicate n 0) ts fit ∙ long;
    }

-- ---- a stretch in parts, and one with zeros behind it

pub parts_are_whole : PartsAreWhole
parts_are_whole image xs ys at fits =
    let front = take at image in
    let rest = drop (at + length xs) image in
    let short : length front ≡ at = length-take-le at image (omega (arith, fits)) in
    let long : length (front ++ xs) ≡ at + length xs = length-append front xs ∙ omega (arith, short) in
    let both : at + length (xs ++ ys) ≡ at + length xs + length ys = let sum = length-append xs ys in omega (arith, sum) in
    let first : take (at + length xs) ((front ++ xs) ++ rest) ≡ front ++ xs = take_at (front ++ xs) rest (at + length xs) long in
    let second : drop (at + length xs + length ys) ((front ++ xs) ++ rest) ≡ drop (at + length xs + length ys) image =
    sym (drop-drop (length ys) (at + length xs) ((front ++ xs) ++ rest))
    ∙ (ap (drop (length ys)) (drop_at (front ++ xs) rest (at + length xs) long)
    ∙ drop-drop (length ys) (at + length xs) image) in
    ap (λ l. (l ++ ys) ++ drop (at + length xs + length ys) ((front ++ xs) ++ rest)) first
    ∙ (ap (λ l. ((front ++ xs) ++ ys) ++ l) second
    ∙ (ap (λ l. l ++ drop (at + length xs + length ys) image) (append_assoc front xs ys)
    ∙ ap (λ n. (front ++ (xs ++ ys)) ++ drop n image) (sym both)))

padded_is_at : (image bytes : List ℕ) (at n : ℕ) → IsAt image (stretch at (bytes ++ replicate n 0)) → IsAt image (stretch at bytes)
padded_is_at image bytes at n is_at =
    let more : length bytes ≤ length (bytes ++ replicate n 0) = let sum = length-append bytes (replicate n 0) in omega (arith, sum) in
    sym (take-take (length bytes) (length (bytes ++ replicate n 0)) (drop at image) more)
    ∙ (ap (take (length bytes)) is_at ∙ take_at bytes (replicate n 0) (length bytes) refl)

-- a byte of the zeros
padding_is_zero : (image bytes : List ℕ) (at n k : ℕ) → IsAt image (stretch at (bytes ++ replicate n 0)) → has_byte k (stretch at (bytes ++ replicate n 0)) ≡ true → has_byte k (stretch at bytes) ≡ false → slice_index image k ≡ 0
padding_is_zero image bytes at n k is_at has none =
    let whole = bytes ++ replicate n 0 in
    let parts = and_parts (nat_le at k) (nat_lt k (at + length whole)) has in
    let from : at ≤ k = leb-true at k parts.0 in
    let to : k < at + length whole = ltb-true k (at + length whole) parts.1 in
    let behind : at + length bytes ≤ k = past_end (stretch at bytes) k from none in
    let back : at + (k - at) ≡ k = omega (arith, from) in
    sym (ap (λ j. get_or image j 0) back)
    ∙ (sym (get_or-drop at image (k - at) 0)
    ∙ (sym (get_or-take (length whole) (drop at image) (k - at) 0 (omega (arith, from, to)))
    ∙ (ap (λ l. get_or l (k - at) 0) is_at
    ∙ (get_or-append_right bytes (replicate n 0) (length bytes) (k - at) 0 refl (omega (arith, from, behind))
    ∙ zero_at n (k - at - length bytes)))))

pub padding_is_zeros : PaddingIsZeros
padding_is_zeros at n bytes s ss image laid = record {
  is_at = (padded_is_at image bytes at n laid.is_at.0, laid.is_at.1);
  zeros = λ k below none. go k below none (has_byte k (stretch at (bytes ++ replicate n 0))) refl;
  ends = laid.ends;
}
  where
    go : (k : ℕ) → k < length image → list_any (has_byte k) (stretch at bytes ∷ s ∷ ss) ≡ false → (b : Bool) → has_byte k (stretch at (bytes ++ replicate n 0)) ≡ b → slice_index image k ≡ 0
    go k below none true e = padding_is_zero image bytes at n k laid.is_at.0 e (or_parts (has_byte k (stretch at bytes)) (list_any (has_byte k) (s ∷ ss)) none).0
    go k below none false e =
        laid.zeros k below (or_from (has_byte k (stretch at (bytes ++ replicate n 0))) (list_any (has_byte k) (s ∷ ss)) e (or_parts (has_byte k (stretch at bytes)) (list_any (has_byte k) (s ∷ ss)) none).1)
