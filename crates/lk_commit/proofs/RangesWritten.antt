-- Ranges are written one after another beside the seal, and then the file is cut.
use Rattle.std.proofs.Common.{◌≡◌, ◌≤◌, ◌<◌, ◌+◌, ◌-◌, ◌⊎◌, ◌++◌, ◌∷◌, [], ℕ, List, length, take, drop, refl, sym, ◌∙◌, ap, subst, inl, inr, arith}
use Rattle.std.specs.Prelude.{max}
use Rattle.std.specs.List.{AllByRecursion}
use Rattle.std.proofs.Math.Seq.{take-append-add}
use Rattle.std.proofs.lemmas.List.{drop-append-le, drop-drop, drop-take, length-append, length-drop, length-take, length-take-le, take-take}
use Rattle.lk_ranges.specs.Stretches.{Stretch, with_stretches}
use Rattle.lk_outside.specs.Disk.{PartlyPatched, Stored, patched, stored_patched, stored_synced}
use Rattle.lk_model.specs.Images.{seal}
use Rattle.lk_commit.specs.CrashStates.{BeginInTurn, IsBesideSeal, sealed, updated}
use Rattle.lk_commit.specs.Stages.{AreWritten, IsCutTo, IsPartUpdated, IsUnsealed, IsUpdateWritten, SameBesideSeal, StaysOpen}
use Rattle.lk_commit.proofs.CrashesLeave.{stays_none, sync_bytes, sync_keeps}
use Rattle.lk_commit.proofs.ImageWritten.{failed_stays, stays_more, synced_stays, written_stays}
use Rattle.lk_commit.proofs.SealPlaces.{beside_patched, shape}

-- ---- one range

pub length_patched : (at : ℕ) (xs old : List ℕ) → at ≤ length old → length (patched at xs old) ≡ max (length old) (at + length xs)
length_patched at xs old fits =
    let rest = drop (at + length xs) old in
    let front : length (take at old) ≡ at = length-take-le at old fits in
    let long : length (patched at xs old) ≡ length (take at old) + (length xs + length rest) = ap length (shape at xs old) ∙ (length-append (take at old) (xs ++ rest) ∙ ap (λ n. length (take at old) + n) (length-append xs rest)) in
    let left : length rest ≡ length old - (at + length xs) = length-drop (at + length xs) old in
    omega (arith, long, left, front, fits)

-- two files that differ at the seal alone do so with the same range written
take_low : (at : ℕ) (xs l : List ℕ) → at + length xs ≤ 4088 → at ≤ length l
    → take 4088 (patched at xs l) ≡ take at (take 4088 l) ++ (xs ++ drop (at + length xs) (take 4088 l))
take_low at xs l low fits =
    let k = 4088 - (at + length xs) in
    let all : (at + length xs) + k ≡ 4088 = omega (arith, low) in
    let rest = drop (at + length xs) l in
    let front : length (take at l) ≡ at = length-take-le at l fits in
    let parts : length (take at l) + (length xs + k) ≡ 4088 = omega (arith, front, all) in
    let taken : take 4088 (take at l ++ (xs ++ rest)) ≡ take at l ++ (xs ++ take k rest) =
    ap (λ n. take n (take at l ++ (xs ++ rest))) (sym parts)
    ∙ (take-append-add (take at l) (xs ++ rest) (length xs + k) ∙ ap (λ m. take at l ++ m) (take-append-add xs rest k)) in
    let behind : take k rest ≡ drop (at + length xs) (take 4088 l) = sym (drop-take (at + length xs) k l) ∙ ap (λ n. drop (at + length xs) (take n l)) all in
    ap (take 4088) (shape at xs l)
    ∙ (taken
    ∙ (ap (λ m. m ++ (xs ++ take k rest)) (sym (take-take at 4088 l (omega (arith, low)))) ∙ ap (λ m. take at (take 4088 l) ++ (xs ++ m)) behind))

drop_high : (m : ℕ) (xs l : List ℕ) → 4096 + m ≤ length l
    → drop 4096 (patched (4096 + m) xs l) ≡ take m (drop 4096 l) ++ (xs ++ drop (m + length xs) (drop 4096 l))
drop_high m xs l fits =
    let at = 4096 + m in
    let front : length (take at l) ≡ at = length-take-le at l fits in
    let rest = drop (at + length xs) l in
    let behind : rest ≡ drop (m + length xs) (drop 4096 l) = sym (drop-drop (m + length xs) 4096 l ∙ ap (λ n. drop n l) (omega arith)) in
    ap (drop 4096) (shape at xs l)
    ∙ (drop-append-le 4096 (take at l) (xs ++ rest) (omega (arith, front))
    ∙ (ap (λ n. n ++ (xs ++ rest)) (drop-take 4096 m l) ∙ ap (λ n. take m (drop 4096 l) ++ (xs ++ n)) behind))

same_patched : (at : ℕ) (xs old new : List ℕ) → (at + length xs ≤ 4088) ⊎ (4096 ≤ at) → at ≤ length old → SameBesideSeal old new → SameBesideSeal (patched at xs old) (patched at xs new)
same_patched at xs old new apart fits same =
    let size = same.size in
    let fits_new : at ≤ length new = omega (arith, fits, size) in
    let longer_old = length_patched at xs old fits in
    let longer_new = length_patched at xs new fits_new in
    elim apart [
      | inl low ↦ record {
        size = omega (arith, size, longer_old, longer_new);
        before = take_low at xs new low fits_new ∙ (ap (λ l. take at l ++ (xs ++ drop (at + length xs) l)) same.before ∙ sym (take_low at xs old low fits));
        after = behind_low low;
      }
      | inr high ↦ record {
        size = omega (arith, size, longer_old, longer_new);
        before = before_high high fits_new;
        after = behind_high (at - 4096) (omega (arith, high));
      }
    ]
  where
    behind_low : at + length xs ≤ 4088 → drop 4096 (patched at xs new) ≡ drop 4096 (patched at xs old)
    behind_low low =
        let size = same.size in
        let k = 4096 - (at + length xs) in
        let all : (at + length xs) + k ≡ 4096 = omega (arith, low) in
        let of : (l : List ℕ) → at ≤ length l → drop 4096 (patched at xs l) ≡ drop 4096 l = λ l h.
        subst (λ n. drop n (patched at xs l) ≡ drop n l) all (sym (drop-drop k (at + length xs) (patched at xs l)) ∙ (ap (drop k) (beside_patched at xs l h).after ∙ drop-drop k (at + length xs) l)) in
        of new (omega (arith, fits, size)) ∙ (same.after ∙ sym (of old fits))

    before_high : 4096 ≤ at → at ≤ length new → take 4088 (patched at xs new) ≡ take 4088 (patched at xs old)
    before_high high fits_new =
        let of : (l : List ℕ) → at ≤ length l → take 4088 (patched at xs l) ≡ take 4088 l = λ l h.
        sym (take-take 4088 at (patched at xs l) (omega (arith, high))) ∙ (ap (take 4088) (beside_patched at xs l h).before ∙ take-take 4088 at l (omega (arith, high))) in
        of new fits_new ∙ (same.before ∙ sym (of old fits))

    behind_high : (m : ℕ) → 4096 + m ≡ at → drop 4096 (patched at xs new) ≡ drop 4096 (patched at xs old)
    behind_high m e =
        let size = same.size in
        subst (λ n. drop 4096 (patched n xs new) ≡ drop 4096 (patched n xs old)) e
        (drop_high m xs new (omega (arith, fits, size, e)) ∙ (ap (λ l. take m l ++ (xs ++ drop (m + length xs) l)) same.after ∙ sym (drop_high m xs old (omega (arith, fits, e)))))

-- ---- ranges one after another

written_same : (w : Stretch) (ws : List Stretch) (l : List ℕ) → with_stretches l (w ∷ ws) ≡ with_stretches (patched w.start w.bytes l) ws
written_same w ws l = ap (λ m. with_stretches m ws) (sym (shape w.start w.bytes l))

same_updated : (ws : List Stretch) (old new : List ℕ) → AllByRecursion IsBesideSeal ws → BeginInTurn (length old) ws → SameBesideSeal old new → SameBesideSeal (with_stretches old ws) (with_stretches new ws)
same_updated [] old new apart begins same = same
same_updated (w ∷ ws) old new apart begins same =
    let next = same_updated ws (patched w.start w.bytes old) (patched w.start w.bytes new) apart.1
    (subst (λ n. BeginInTurn n ws) (sym (length_patched w.start w.bytes old begins.0)) begins.1)
    (same_patched w.start w.bytes old new apart.0 begins.0 same) in
    subst (λ l. SameBesideSeal l (with_stretches new (w ∷ ws))) (sym (written_same w ws old))
    (subst (λ l. SameBesideSeal (with_stretches (patched w.start w.bytes old) ws) l) (sym (written_same w ws new)) next)

same_cut : (n : ℕ) (old new : List ℕ) → 4096 ≤ n → SameBesideSeal old new → SameBesideSeal (take n old) (take n new)
same_cut n old new high same =
    let size = same.size in
    let short_old = length-take n old in
    let short_new = length-take n new in
    let m = n - 4096 in
    let all : 4096 + m ≡ n = omega (arith, high) in
    let of : (l : List ℕ) → drop 4096 (take n l) ≡ take m (drop 4096 l) = λ l. ap (λ k. drop 4096 (take k l)) (sym all) ∙ drop-take 4096 m l in
    record {
      size = omega (arith, size, short_old, short_new);
      before = take-take 4088 n new (omega (arith, high)) ∙ (same.before ∙ sym (take-take 4088 n old (omega (arith, high))));
      after = of new ∙ (ap (take m) same.after ∙ sym (of old));
    }

pub sealed_like : (old new : List ℕ) → SameBesideSeal old new → sealed new ≡ sealed old
sealed_like old new same = ap (λ l. l ++ (seal ++ drop 4096 new)) same.before ∙ ap (λ l. take 4088 old ++ (seal ++ l)) same.after

pub updated_like : (ws : List Stretch) (n : ℕ) (old new : List ℕ) → 4096 < n → AllByRecursion IsBesideSeal ws → BeginInTurn (length old) ws → SameBesideSeal old new → sealed (updated ws n new) ≡ sealed (updated ws n old)
updated_like ws n old new high apart begins same =
    sealed_like (updated ws n old) (updated ws n new) (same_cut n (with_stretches old ws) (with_stretches new ws) (omega (arith, high)) (same_updated ws old new apart begins same))

-- ---- the loop

abbrev pub IsUpdateReady : List Stretch → Stored → Type 0
IsUpdateReady ws s = IsUnsealed s × BeginInTurn (length s.bytes) ws

pub none_written : (ws : List Stretch) (s : Stored) → AllByRecursion IsBesideSeal ws → IsUpdateReady ws s → IsPartUpdated ws ws s s
none_written ws s apart ready = record { stays = stays_none s ready.0; bytes = refl; apart = apart; in_turn = ready.1 }

pub one_written : (w : Stretch) (ws all : List Stretch) (s t u : Stored) → IsPartUpdated (w ∷ ws) all s t → u ≡ stored_patched w.start w.bytes t → IsPartUpdated ws all s u
one_written w ws all s t u part e = subst (IsPartUpdated ws all s) (sym e) (record {
  stays = stays_more s t (stored_patched w.start w.bytes t) part.stays (written_stays w.start w.bytes t part.apart.0 part.in_turn.0 part.stays.unsealed);
  bytes = sym (written_same w ws t.bytes) ∙ part.bytes;
  apart = part.apart.1;
  in_turn = subst (λ n. BeginInTurn n ws) (sym (length_patched w.start w.bytes t.bytes part.in_turn.0)) part.in_turn.1;
})

pub one_failed : (w : Stretch) (ws all : List Stretch) (s t u : Stored) → IsPartUpdated (w ∷ ws) all s t → (u ≡ t) ⊎ PartlyPatched w.start (length w.bytes) t u → StaysOpen s u
one_failed w ws all s t u part failed = stays_more s t u part.stays (failed_stays w.start (length w.bytes) t u part.apart.0 part.stays.unsealed failed)

pub all_written : (all : List Stretch) (s t : Stored) → IsPartUpdated [] all s t → AreWritten all s t
all_written all s t part = record { stays = part.stays; bytes = part.bytes }

-- ---- the length, and the sync

pub update_cut : (ws : List Stretch) (n : ℕ) (s t u : Stored) → AreWritten ws s t → IsCutTo n t u → StaysOpen s u × (u.bytes ≡ updated ws n s.bytes)
update_cut ws n s t u written cut = (stays_more s t u written.stays cut.stays, cut.bytes ∙ ap (take n) written.bytes)

pub update_synced : (ws : List Stretch) (n : ℕ) (s t u : Stored) → StaysOpen s t × (t.bytes ≡ updated ws n s.bytes) → u ≡ stored_synced t → IsUpdateWritten ws n s u
update_synced ws n s t u written e = record {
  stays = stays_more s t u written.0 (synced_stays t u written.0.unsealed e);
  kept = sync_keeps t u e;
  bytes = sync_bytes t u e ∙ written.1;
}
