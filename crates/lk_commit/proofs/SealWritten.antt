-- The last stage: the seal is written in a file that is kept and has none.
use Rattle.std.proofs.Common.{◌≡◌, ◌⊎◌, take, drop, refl, sym, ◌∙◌, subst, inl, inr, append_assoc}
use Rattle.lk_model.specs.Images.{seal}
use Rattle.lk_outside.specs.Crashes.{CrashLeaves, CrashState, after_write}
use Rattle.lk_outside.specs.Disk.{PartlyPatched, Stored, stored_patched, stored_synced}
use Rattle.lk_commit.specs.CrashStates.{sealed}
use Rattle.lk_commit.specs.Stages.{HasNoSeal, IsKept, IsSealed, IsSealedOrOpen, IsUnfinished, Went}
use Rattle.lk_commit.proofs.Moments.{went_more, went_none, went_one}
use Rattle.lk_commit.proofs.CrashesLeave.{kept_now, seal_left, seal_partly, sync_bytes, sync_keeps, went_sync}
use Rattle.lk_commit.proofs.SealPlaces.{sealed_or_open}

-- the file before the stage
abbrev pub IsReady : Stored → Type 0
IsReady s = IsKept s × HasNoSeal s.bytes

-- and between the write and the sync
pub record IsSealPut (before after : Stored) : Type 0 where
  pub moments : Went (IsSealedOrOpen before.bytes) before after
  pub bytes : after.bytes ≡ sealed before.bytes

open_before : (s : Stored) → IsReady s → IsSealedOrOpen s.bytes s.bytes
open_before s ready = inr (inr ready.1.1)

left_before : (s : Stored) → IsReady s → CrashLeaves (IsSealedOrOpen s.bytes) s.now
left_before s ready = kept_now (IsSealedOrOpen s.bytes) s ready.0 (open_before s ready)

left_after : (s : Stored) → IsReady s → CrashLeaves (IsSealedOrOpen s.bytes) (after_write 4088 8 s.now)
left_after s ready =
    subst (λ (c : CrashState). CrashLeaves (IsSealedOrOpen s.bytes) (after_write 4088 8 c)) (sym ready.0)
    (λ file left. sealed_or_open s.bytes file (seal_left s.bytes ready.1.0 file left))

pub seal_put : (s : Stored) → IsReady s → IsSealPut s (stored_patched 4088 seal s)
seal_put s ready = record {
  moments = went_one s (stored_patched 4088 seal s) refl (left_before s ready) (left_after s ready);
  bytes = append_assoc (take 4088 s.bytes) seal (drop 4096 s.bytes);
}

pub seal_failed : (s t : Stored) → IsReady s → (t ≡ s) ⊎ PartlyPatched 4088 8 s t → IsUnfinished s t
seal_failed s t ready (inl same) = subst (IsUnfinished s) (sym same) (record { moments = went_none s (left_before s ready); file = open_before s ready })
seal_failed s t ready (inr partly) = record {
  moments = went_one s t partly.past (left_before s ready) (subst (CrashLeaves (IsSealedOrOpen s.bytes)) (sym partly.now) (left_after s ready));
  file = sealed_or_open s.bytes t.bytes (seal_partly s t ready.1.0 partly);
}

pub seal_synced : (s t u : Stored) → IsSealPut s t → u ≡ stored_synced t → IsSealed s u
seal_synced s t u put e = record {
  moments = went_more s t u put.moments (went_sync (IsSealedOrOpen s.bytes) t u e put.moments.now (inl put.bytes));
  kept = sync_keeps t u e;
  bytes = sync_bytes t u e ∙ put.bytes;
}

pub seal_not_synced : (s t u : Stored) → IsSealPut s t → u ≡ t → IsUnfinished s u
seal_not_synced s t u put e = subst (IsUnfinished s) (sym e) (record { moments = put.moments; file = inl put.bytes })
