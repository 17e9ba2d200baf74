-- What a crash leaves of a file that is kept, of one that has no seal, and of one while its seal is written.
use Rattle.std.proofs.Common.{◌≡◌, ◌≤◌, ◌+◌, ◌-◌, ◌⊎◌, ◌++◌, ◌∷◌, [], ℕ, List, length, take, drop, refl, sym, ◌∙◌, ap, subst, inl, inr, arith}
use Rattle.std.specs.Prelude.{max}
use Rattle.std.specs.List.{AllByRecursion}
use Rattle.std.proofs.Math.Seq.{take-length}
use Rattle.std.proofs.lemmas.Bool.{cases_lt}
use Rattle.std.proofs.lemmas.List.{take_rest}
use Rattle.lk_outside.specs.Crashes.{CrashLeaves, CrashState, IsApart, MayLeave, after_write, kept_whole}
use Rattle.lk_outside.specs.Disk.{PartlyPatched, Stored, stored_cut, stored_patched, stored_synced}
use Rattle.lk_commit.specs.CrashStates.{IsOpen}
use Rattle.lk_commit.specs.Stages.{HasNoSeal, IsKept, IsShort, IsUnsealed, SameBesideSeal, StaysOpen, Went}
use Rattle.lk_commit.proofs.Moments.{went_none, went_one}
use Rattle.lk_commit.proofs.SealPlaces.{IsBeside, beside_patched, no_seal_beside, no_seal_cut, sealed_by}

-- a file that is kept is left as it is
whole_same : (old new : List ℕ) → MayLeave (kept_whole old) new → new ≡ old
whole_same old new left =
    let least : length old ≤ length new = left.not_shorter in
    let most : length new ≤ length old = left.not_longer in
    let size : length new ≡ length old = omega (arith, least, most) in
    let same : take (length old) new ≡ take (length old) old = left.beside 0 (length old) (omega (arith, least)) (omega arith) tt in
    sym (take-length new) ∙ (ap (λ n. take n new) size ∙ (same ∙ take-length old))

pub kept_now : (P : List ℕ → Type 0) (s : Stored) → IsKept s → P s.bytes → CrashLeaves P s.now
kept_now P s kept h = subst (CrashLeaves P) (sym kept) (λ file left. subst P (sym (whole_same s.bytes file left)) h)

-- a sync keeps the file
pub went_sync : (P : List ℕ → Type 0) (s t : Stored) → t ≡ stored_synced s → CrashLeaves P s.now → P s.bytes → Went P s t
went_sync P s t e now h =
    let synced : Went P s (stored_synced s) = went_one s (stored_synced s) refl now (λ file left. subst P (sym (whole_same s.bytes file left)) h) in
    subst (Went P s) (sym e) synced

pub sync_keeps : (s t : Stored) → t ≡ stored_synced s → IsKept t
sync_keeps s t e = subst IsKept (sym e) refl

pub sync_bytes : (s t : Stored) → t ≡ stored_synced s → t.bytes ≡ s.bytes
sync_bytes s t e = ap (λ (u : Stored). u.bytes) e

-- ---- while the seal is written

-- of a kept file that has the headers a crash leaves all bytes beside the seal
pub seal_left : (old : List ℕ) → 4096 ≤ length old → CrashLeaves (SameBesideSeal old) (after_write 4088 8 (kept_whole old))
seal_left old long = λ new left.
    let least : length old ≤ length new = left.not_shorter in
    let most : length new ≤ max (length old) 4096 = left.not_longer in
    let size : length new ≡ length old = omega (arith, least, most, long) in
    let n = length old - 4096 in
    let first : take 4088 new ≡ take 4088 old = left.beside 0 4088 (omega (arith, least, long)) (omega (arith, long)) (inl (omega arith), tt) in
    let rest : take n (drop 4096 new) ≡ take n (drop 4096 old) = left.beside 4096 n (omega (arith, least, long)) (omega (arith, long)) (inr (omega arith), tt) in
    record {
      size = size;
      before = first;
      after = sym (take_rest new 4096) ∙ (ap (λ k. take (k - 4096) (drop 4096 new)) size ∙ (rest ∙ take_rest old 4096));
    }

-- and so does a write that failed
pub seal_partly : (s t : Stored) → 4096 ≤ length s.bytes → PartlyPatched 4088 8 s t → SameBesideSeal s.bytes t.bytes
seal_partly s t long partly =
    let least = partly.not_shorter in
    let most : length t.bytes ≤ max (length s.bytes) 4096 = partly.not_longer in
    record {
      size = omega (arith, least, most, long);
      before = partly.before;
      after = partly.after;
    }

-- ---- a file without a seal

pub unsealed_now : (s : Stored) → IsUnsealed s → CrashLeaves IsOpen s.now
unsealed_now s unsealed = λ file left. elim (cases_lt 4096 (length file)) [
  | inl long ↦ inr (sealed_by s.now.kept file (left.beside 4088 8 (omega (arith, long)) (omega (arith, unsealed.kept.0)) unsealed.apart) ∙ unsealed.kept.1)
  | inr short ↦ inl short
]

-- a write beside the place, done or failed, a cut behind it and a sync leave it so
pub unsealed_written : (at : ℕ) (xs : List ℕ) (s : Stored) → (at + length xs ≤ 4088) ⊎ (4096 ≤ at) → at ≤ length s.bytes → IsUnsealed s → IsUnsealed (stored_patched at xs s)
unsealed_written at xs s apart fits unsealed = record {
  file = no_seal_beside at (length xs) s.bytes (stored_patched at xs s).bytes apart (beside_patched at xs s.bytes fits) unsealed.file;
  kept = unsealed.kept;
  apart = (elim apart [ inl low ↦ inr low | inr high ↦ inl high ], unsealed.apart);
}

pub unsealed_partly : (at size : ℕ) (s t : Stored) → (at + size ≤ 4088) ⊎ (4096 ≤ at) → PartlyPatched at size s t → IsUnsealed s → IsUnsealed t
unsealed_partly at size s t apart partly unsealed =
    let same : IsBeside at size s.bytes t.bytes = record { before = partly.before; after = partly.after; not_shorter = partly.not_shorter } in
    record {
      file = no_seal_beside at size s.bytes t.bytes apart same unsealed.file;
      kept = subst (λ (c : CrashState). HasNoSeal c.kept) (sym partly.now) unsealed.kept;
      apart = subst (λ (c : CrashState). AllByRecursion (IsApart 4088 8) c.ranges) (sym partly.now) (elim apart [ inl low ↦ inr low | inr high ↦ inl high ], unsealed.apart);
    }

pub unsealed_cut : (n : ℕ) (s : Stored) → 4096 ≤ n → IsUnsealed s → IsUnsealed (stored_cut n s)
unsealed_cut n s high unsealed = record { file = no_seal_cut n s.bytes high unsealed.file; kept = unsealed.kept; apart = unsealed.apart }

pub unsealed_synced : (s : Stored) → IsUnsealed s → IsUnsealed (stored_synced s)
unsealed_synced s unsealed = record { file = unsealed.file; kept = unsealed.file; apart = tt }

pub unsealed_kept : (s : Stored) → IsKept s → HasNoSeal s.bytes → IsUnsealed s
unsealed_kept s kept none = record {
  file = none;
  kept = subst (λ (c : CrashState). HasNoSeal c.kept) (sym kept) none;
  apart = subst (λ (c : CrashState). AllByRecursion (IsApart 4088 8) c.ranges) (sym kept) tt;
}

-- ---- the file stays open

pub stays_none : (s : Stored) → IsUnsealed s → StaysOpen s s
stays_none s unsealed = record { moments = went_none s (unsealed_now s unsealed); unsealed = unsealed }

pub stays_one : (s t : Stored) → t.past ≡ s.past ++ s.now ∷ [] → IsUnsealed s → IsUnsealed t → StaysOpen s t
stays_one s t past before after = record { moments = went_one s t past (unsealed_now s before) (unsealed_now t after); unsealed = after }

-- a short file is open, and stays short
pub short_now : (s : Stored) → IsShort s → CrashLeaves IsOpen s.now
short_now s short = λ file left. let most = left.not_longer in let least = short.left in inl (omega (arith, most, least))
