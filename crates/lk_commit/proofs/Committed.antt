-- The stages together: a commit of a whole image.
use Rattle.std.proofs.Common.{◌≡◌, ◌<◌, ◌-◌, ℕ, List, length, drop, ◌∙◌, ap, inl, inr, arith}
use Rattle.std.proofs.lemmas.List.{length-drop, length-take-le}
use Rattle.std.specs.List.{AllByRecursion}
use Rattle.lk_ranges.specs.Stretches.{Stretch}
use Rattle.lk_outside.specs.Disk.{Stored}
use Rattle.lk_commit.specs.CrashStates.{BeginInTurn, IsBesideSeal, IsFinished, IsOpen, IsStopped, LeftBy, sealed, updated}
use Rattle.lk_commit.specs.Stages.{IsFileOpened, IsFileUnopened, IsImageWritten, IsSealed, IsSealedOrOpen, IsUnfinished, IsUpdateWritten, LeftOldOrOpen, StaysOpen, Went, at_seal}
use Rattle.lk_commit.proofs.Moments.{went_always, went_more, went_weaker}
use Rattle.lk_commit.proofs.CrashesLeave.{kept_now}
use Rattle.lk_commit.proofs.RangesWritten.{updated_like}
use Rattle.lk_commit.proofs.SealPlaces.{resealed}

left_opened : (new : List ℕ) (s : Stored) (file : List ℕ) → LeftOldOrOpen s file → LeftBy new s file
left_opened new s file (inl before) = inl before
left_opened new s file (inr (inl old)) = inr (inl old)
left_opened new s file (inr (inr is_open)) = inr (inr (inr is_open))

left_open : (new : List ℕ) (s : Stored) (file : List ℕ) → IsOpen file → LeftBy new s file
left_open new s file is_open = inr (inr (inr is_open))

left_sealed : (new contents : List ℕ) (s : Stored) → sealed contents ≡ new → (file : List ℕ) → IsSealedOrOpen contents file → LeftBy new s file
left_sealed new contents s e file (inl is) = inr (inr (inl (is ∙ e)))
left_sealed new contents s e file (inr is_open) = inr (inr (inr is_open))

-- the file was opened, and could not be
pub not_opened : (new : List ℕ) (s t : Stored) → IsFileUnopened s t → IsStopped new s t
not_opened new s t left = record {
  at_each_moment = went_always s t (went_weaker s t (left_opened new s) left.moments);
  file = elim left.file [ inl old ↦ inl old | inr is_open ↦ inr (inr is_open) ];
}

-- the contents were written, and could not be
pub not_put : (new : List ℕ) (s t u : Stored) → IsFileOpened s t → StaysOpen t u → IsStopped new s u
not_put new s t u opened stays = record {
  at_each_moment = went_always s u (went_more s t u (went_weaker s t (left_opened new s) opened.moments) (went_weaker t u (left_open new s) stays.moments));
  file = inr (inr (inr stays.unsealed.file.1));
}

-- what is known once they were: the file is one that the seal makes the new one
pub record IsPut (new : List ℕ) (before after : Stored) : Type 0 where
  pub moments : Went (LeftBy new before) before after
  pub is_new : sealed after.bytes ≡ new

put_by : (new : List ℕ) (s t u : Stored) → IsFileOpened s t → StaysOpen t u → sealed u.bytes ≡ new → IsPut new s u
put_by new s t u opened stays is_new = record {
  moments = went_more s t u (went_weaker s t (left_opened new s) opened.moments) (went_weaker t u (left_open new s) stays.moments);
  is_new = is_new;
}

pub is_put : (image : List ℕ) (s t u : Stored) → 4096 < length image → IsFileOpened s t → IsImageWritten image t u → IsPut (sealed image) s u
is_put image s t u long opened written =
    let size : length (drop 4088 t.bytes) ≡ length t.bytes - 4088 = length-drop 4088 t.bytes in
    let more = opened.file.0 in
    let eight : length (at_seal t.bytes) ≡ 8 = length-take-le 8 (drop 4088 t.bytes) (omega (arith, size, more)) in
    put_by (sealed image) s t u opened written.stays (ap sealed written.bytes ∙ resealed (at_seal t.bytes) image eight (omega (arith, long)))

-- of an update
abbrev pub IsUpdatePut : List Stretch → ℕ → Stored → Stored → Type 0
IsUpdatePut ws n s t = IsPut (sealed (updated ws n s.bytes)) s t

pub is_update_put : (ws : List Stretch) (n : ℕ) (s t u : Stored) → 4096 < n → AllByRecursion IsBesideSeal ws → 4096 < length s.bytes → BeginInTurn (length s.bytes) ws → IsFileOpened s t → IsUpdateWritten ws n t u → IsUpdatePut ws n s u
is_update_put ws n s t u high apart long begins opened written =
    put_by (sealed (updated ws n s.bytes)) s t u opened written.stays
    (ap sealed written.bytes ∙ updated_like ws n s.bytes t.bytes high apart begins (opened.beside (omega (arith, long))))

-- ---- the seal

pub finished : (new : List ℕ) (s t u : Stored) → IsPut new s t → IsSealed t u → IsFinished new s u
finished new s t u put done =
    let is_new = done.bytes ∙ put.is_new in
    record {
      at_each_moment = went_always s u (went_more s t u put.moments (went_weaker t u (left_sealed new t.bytes s put.is_new) done.moments));
      file = is_new;
      lasting = kept_now (λ file. file ≡ new) u done.kept is_new;
    }

pub unfinished : (new : List ℕ) (s t u : Stored) → IsPut new s t → IsUnfinished t u → IsStopped new s u
unfinished new s t u put left = record {
  at_each_moment = went_always s u (went_more s t u put.moments (went_weaker t u (left_sealed new t.bytes s put.is_new) left.moments));
  file = elim left.file [ inl is ↦ inr (inl (is ∙ put.is_new)) | inr is_open ↦ inr (inr is_open) ];
}

pub update_finished : (ws : List Stretch) (n : ℕ) (s t u : Stored) → IsUpdatePut ws n s t → IsSealed t u → IsFinished (sealed (updated ws n s.bytes)) s u
update_finished ws n s t u put done = finished (sealed (updated ws n s.bytes)) s t u put done

pub update_unfinished : (ws : List Stretch) (n : ℕ) (s t u : Stored) → IsUpdatePut ws n s t → IsUnfinished t u → IsStopped (sealed (updated ws n s.bytes)) s u
update_unfinished ws n s t u put left = unfinished (sealed (updated ws n s.bytes)) s t u put left
