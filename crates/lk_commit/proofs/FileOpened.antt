-- The first stage: the seal of the old file is broken, or a short file becomes zeros.
use Rattle.std.proofs.Common.{◌≡◌, ◌≤◌, ◌<◌, ◌⊎◌, [], ℕ, List, true, false, length, refl, sym, ◌∙◌, ap, subst, inl, inr, arith, append-nil}
use Rattle.std.specs.Prelude.{max}
use Rattle.std.proofs.lemmas.List.{length-replicate}
use Rattle.lk_model.specs.Bases.{is_sealed}
use Rattle.lk_outside.specs.Crashes.{CrashLeaves, CrashState, after_write}
use Rattle.lk_outside.specs.Disk.{PartlyPatched, Stored, patched, stored_cut, stored_patched, stored_synced}
use Rattle.lk_commit.specs.CrashStates.{IsOpen}
use Rattle.lk_commit.specs.Stages.{HasNoSeal, IsBroken, IsFileOpened, IsFileUnopened, IsKept, IsKeptOpened, IsKeptUnopened, IsLeftShort, IsMadeZeros, IsOldOrOpen, IsShort, IsUnbroken, LeftOldOrOpen, SameBesideSeal, Went}
use Rattle.lk_commit.proofs.Moments.{went_more, went_none, went_one, went_weaker}
use Rattle.lk_commit.proofs.CrashesLeave.{kept_now, seal_left, seal_partly, short_now, sync_bytes, sync_keeps, went_sync}
use Rattle.lk_commit.proofs.SealPlaces.{beside_patched, patched_size, same_beside, sealed_or_open, sealed_same, zeros, zeros_at_seal, zeros_no_seal}

-- ---- a short file

abbrev pub IsKeptShort : Stored → Type 0
IsKeptShort s = IsKept s × (length s.bytes < 4096)

-- a file that was short is short: its moments, and its bytes
pub record HasBytes (file : List ℕ) (before after : Stored) : Type 0 where
  pub moments : Went IsOpen before after
  pub short : IsShort after
  pub bytes : after.bytes ≡ file

kept_short : (s : Stored) → IsKeptShort s → IsShort s
kept_short s small =
    let fits = small.1 in
    let most : s.now.greatest ≡ length s.bytes = ap (λ (c : CrashState). c.greatest) small.0 in
    record { file = omega (arith, fits); left = omega (arith, fits, most) }

cut_short : (s : Stored) → IsShort s → IsShort (stored_cut 0 s)
cut_short s short = record { file = omega arith; left = short.left }

pub short_cut : (s : Stored) → IsKeptShort s → HasBytes [] s (stored_cut 0 s)
short_cut s small =
    let short = kept_short s small in
    record {
      moments = went_one s (stored_cut 0 s) refl (short_now s short) (short_now (stored_cut 0 s) (cut_short s short));
      short = cut_short s short;
      bytes = refl;
    }

left_short : (s t : Stored) → Went IsOpen s t → IsShort t → IsLeftShort s t
left_short s t moments short = record { moments = moments; file = inl short.file }

pub short_same : (s : Stored) → IsKeptShort s → IsLeftShort s s
short_same s small = let short = kept_short s small in left_short s s (went_none s (short_now s short)) short

pub short_late : (s : Stored) → IsKeptShort s → IsLeftShort s (stored_cut 0 s)
short_late s small = let done = short_cut s small in left_short s (stored_cut 0 s) done.moments done.short

-- the zeros are written where nothing is
zeros_short : (s : Stored) → s.bytes ≡ [] → IsShort s → IsShort (stored_patched 0 (zeros 4096) s)
zeros_short s none short =
    let size : length (zeros 4096) ≡ 4096 = length-replicate {A = ℕ} 4096 0 in
    let bytes : (stored_patched 0 (zeros 4096) s).bytes ≡ zeros 4096 = ap (patched 0 (zeros 4096)) none ∙ append-nil (zeros 4096) in
    let long : length (stored_patched 0 (zeros 4096) s).bytes ≡ length (zeros 4096) = ap length bytes in
    let left = short.left in
    let most : (stored_patched 0 (zeros 4096) s).now.greatest ≡ max s.now.greatest (length (zeros 4096)) = refl in
    record { file = omega (arith, long, size); left = omega (arith, most, size, left) }

pub zeros_written : (s t : Stored) → HasBytes [] s t → HasBytes (zeros 4096) s (stored_patched 0 (zeros 4096) t)
zeros_written s t empty =
    let short = zeros_short t empty.bytes empty.short in
    record {
      moments = went_more s t (stored_patched 0 (zeros 4096) t) empty.moments (went_one t (stored_patched 0 (zeros 4096) t) refl (short_now t empty.short) (short_now (stored_patched 0 (zeros 4096) t) short));
      short = short;
      bytes = ap (patched 0 (zeros 4096)) empty.bytes ∙ append-nil (zeros 4096);
    }

pub zeros_written_by : (s t u : Stored) → HasBytes [] s t → u ≡ stored_patched 0 (zeros 4096) t → HasBytes (zeros 4096) s u
zeros_written_by s t u empty e = subst (HasBytes (zeros 4096) s) (sym e) (zeros_written s t empty)

pub zeros_failed : (s t u : Stored) → HasBytes [] s t → (u ≡ t) ⊎ PartlyPatched 0 (length (zeros 4096)) t u → IsLeftShort s u
zeros_failed s t u empty (inl same) = subst (IsLeftShort s) (sym same) (left_short s t empty.moments empty.short)
zeros_failed s t u empty (inr partly) =
    let size : length (zeros 4096) ≡ 4096 = length-replicate {A = ℕ} 4096 0 in
    let file = empty.short.file in
    let left = empty.short.left in
    let longer : length u.bytes ≤ max (length t.bytes) (length (zeros 4096)) = partly.not_longer in
    let most : u.now.greatest ≡ max t.now.greatest (length (zeros 4096)) = ap (λ (c : CrashState). c.greatest) partly.now in
    let short : IsShort u = record { file = omega (arith, longer, size, file); left = omega (arith, most, size, left) } in
    left_short s u (went_more s t u empty.moments (went_one t u partly.past (short_now t empty.short) (short_now u short))) short

pub zeros_synced : (s t u : Stored) → HasBytes (zeros 4096) s t → u ≡ stored_synced t → IsMadeZeros s u
zeros_synced s t u written e = record {
  moments = went_more s t u written.moments (went_sync IsOpen t u e written.moments.now (inl written.short.file));
  kept = sync_keeps t u e;
  zeros = sync_bytes t u e ∙ written.bytes;
}

pub zeros_not_synced : (s t u : Stored) → HasBytes (zeros 4096) s t → u ≡ t → IsLeftShort s u
zeros_not_synced s t u written e = subst (IsLeftShort s) (sym e) (left_short s t written.moments written.short)

-- ---- a longer file

abbrev pub IsKeptLong : Stored → Type 0
IsKeptLong s = IsKept s × (4096 ≤ length s.bytes)

old_now : (s : Stored) → IsKept s → CrashLeaves (IsOldOrOpen s.bytes) s.now
old_now s kept = kept_now (IsOldOrOpen s.bytes) s kept (inl refl)

pub unbroken_same : (s : Stored) → IsKept s → IsUnbroken s s
unbroken_same s kept = record { moments = went_none s (old_now s kept); file = inl refl }

-- it has no seal already
pub broken_same : (s : Stored) → IsKeptLong s → is_sealed s.bytes ≡ false → IsBroken s s
broken_same s ready none = record {
  moments = went_none s (old_now s ready.0);
  kept = ready.0;
  file = (ready.1, none);
  beside = same_beside s.bytes;
}

abbrev pub IsKeptSealed : Stored → Type 0
IsKeptSealed s = IsKeptLong s × (is_sealed s.bytes ≡ true)

pub record IsCleared (before after : Stored) : Type 0 where
  pub moments : Went (IsOldOrOpen before.bytes) before after
  pub file : HasNoSeal after.bytes
  pub beside : SameBesideSeal before.bytes after.bytes

old_or_open : (old new : List ℕ) → is_sealed old ≡ true → SameBesideSeal old new → IsOldOrOpen old new
old_or_open old new has same = elim (sealed_or_open old new same) [
  | inl is ↦ inl (is ∙ sealed_same old has)
  | inr none ↦ inr none
]

left_cleared : (s : Stored) → IsKeptSealed s → CrashLeaves (IsOldOrOpen s.bytes) (after_write 4088 8 s.now)
left_cleared s ready =
    subst (λ (c : CrashState). CrashLeaves (IsOldOrOpen s.bytes) (after_write 4088 8 c)) (sym ready.0.0)
    (λ file left. old_or_open s.bytes file ready.1 (seal_left s.bytes ready.0.1 file left))

pub seal_cleared : (s : Stored) → IsKeptSealed s → IsCleared s (stored_patched 4088 (zeros 8) s)
seal_cleared s ready =
    let long = ready.0.1 in
    let beside = beside_patched 4088 (zeros 8) s.bytes (omega (arith, long)) in
    record {
      moments = went_one s (stored_patched 4088 (zeros 8) s) refl (old_now s ready.0.0) (left_cleared s ready);
      file = zeros_at_seal s.bytes long;
      beside = record { size = patched_size 4088 (zeros 8) s.bytes (omega (arith, long)); before = beside.before; after = beside.after };
    }

pub clear_failed : (s t : Stored) → IsKeptSealed s → (t ≡ s) ⊎ PartlyPatched 4088 8 s t → IsUnbroken s t
clear_failed s t ready (inl same) = subst (IsUnbroken s) (sym same) (unbroken_same s ready.0.0)
clear_failed s t ready (inr partly) = record {
  moments = went_one s t partly.past (old_now s ready.0.0) (subst (CrashLeaves (IsOldOrOpen s.bytes)) (sym partly.now) (left_cleared s ready));
  file = old_or_open s.bytes t.bytes ready.1 (seal_partly s t ready.0.1 partly);
}

pub clear_synced : (s t u : Stored) → IsCleared s t → u ≡ stored_synced t → IsBroken s u
clear_synced s t u cleared e = record {
  moments = went_more s t u cleared.moments (went_sync (IsOldOrOpen s.bytes) t u e cleared.moments.now (inr (inr cleared.file.1)));
  kept = sync_keeps t u e;
  file = subst HasNoSeal (sym (sync_bytes t u e)) cleared.file;
  beside = subst (SameBesideSeal s.bytes) (sym (sync_bytes t u e)) cleared.beside;
}

pub clear_not_synced : (s t u : Stored) → IsCleared s t → u ≡ t → IsUnbroken s u
clear_not_synced s t u cleared e = subst (IsUnbroken s) (sym e) (record { moments = cleared.moments; file = inr (inr cleared.file.1) })

-- ---- either

old_more : (old : List ℕ) → (file : List ℕ) → IsOpen file → IsOldOrOpen old file
old_more old file is_open = inr is_open

pub opened_zeros : (s t : Stored) → length s.bytes < 4096 → IsMadeZeros s t → IsKeptOpened s t
opened_zeros s t short made = record {
  moments = went_weaker s t (old_more s.bytes) made.moments;
  kept = made.kept;
  file = subst HasNoSeal (sym made.zeros) zeros_no_seal;
  beside = λ long. absurd (omega (arith, long, short));
}

pub unopened_zeros : (s t : Stored) → IsLeftShort s t → IsKeptUnopened s t
unopened_zeros s t left = record { moments = went_weaker s t (old_more s.bytes) left.moments; file = inr left.file }

-- the sync before: the file is the same, and a crash before leaves what it left
pub record IsFirstKept (before after : Stored) : Type 0 where
  pub moments : Went (LeftOldOrOpen before) before after
  pub kept : IsKept after
  pub bytes : after.bytes ≡ before.bytes

pub first_kept : (s : Stored) → IsFirstKept s (stored_synced s)
first_kept s = record {
  moments = went_sync (LeftOldOrOpen s) s (stored_synced s) refl (λ file left. inl left) (inr (inl refl));
  kept = refl;
  bytes = refl;
}

pub first_opened : (s t u : Stored) → IsFirstKept s t → IsKeptOpened t u → IsFileOpened s u
first_opened s t u first opened =
    let later : Went (LeftOldOrOpen s) t u = went_weaker t u (λ file (h : IsOldOrOpen t.bytes file). inr (subst (λ l. IsOldOrOpen l file) first.bytes h)) opened.moments in
    record {
      moments = went_more s t u first.moments later;
      kept = opened.kept;
      file = opened.file;
      beside = subst (λ (l : List ℕ). 4096 ≤ length l → SameBesideSeal l u.bytes) first.bytes opened.beside;
    }

pub first_unopened : (s t u : Stored) → IsFirstKept s t → IsKeptUnopened t u → IsFileUnopened s u
first_unopened s t u first left =
    let later : Went (LeftOldOrOpen s) t u = went_weaker t u (λ file (h : IsOldOrOpen t.bytes file). inr (subst (λ l. IsOldOrOpen l file) first.bytes h)) left.moments in
    record {
      moments = went_more s t u first.moments later;
      file = subst (λ (l : List ℕ). IsOldOrOpen l u.bytes) first.bytes left.file;
    }
