-- The second stage: the contents are written, and the place of the seal keeps its bytes.
use Rattle.std.proofs.Common.{◌≡◌, ◌≤◌, ◌<◌, ◌+◌, ◌-◌, ◌⊎◌, ◌++◌, ℕ, List, length, take, drop, refl, sym, ◌∙◌, ap, subst, inl, inr, arith, append_assoc}
use Rattle.std.proofs.lemmas.List.{drop-drop, length-append, length-drop, length-take-le, take-append-drop, take_all, take_at}
use Rattle.lk_outside.specs.Disk.{PartlyPatched, Stored, patched, stored_cut, stored_patched, stored_synced}
use Rattle.lk_commit.specs.Stages.{IsCutTo, IsImageWritten, IsPartWritten, IsUnsealed, StaysOpen, at_seal, with_seal}
use Rattle.lk_commit.proofs.Moments.{went_more}
use Rattle.lk_commit.proofs.CrashesLeave.{stays_none, stays_one, sync_bytes, sync_keeps, unsealed_cut, unsealed_partly, unsealed_synced, unsealed_written}

pub stays_more : (s t u : Stored) → StaysOpen s t → StaysOpen t u → StaysOpen s u
stays_more s t u first second = record { moments = went_more s t u first.moments second.moments; unsealed = second.unsealed }

-- one call after what was done before
pub written_stays : (at : ℕ) (xs : List ℕ) (s : Stored) → (at + length xs ≤ 4088) ⊎ (4096 ≤ at) → at ≤ length s.bytes → IsUnsealed s → StaysOpen s (stored_patched at xs s)
written_stays at xs s apart fits unsealed = stays_one s (stored_patched at xs s) refl unsealed (unsealed_written at xs s apart fits unsealed)

pub failed_stays : (at size : ℕ) (s t : Stored) → (at + size ≤ 4088) ⊎ (4096 ≤ at) → IsUnsealed s → (t ≡ s) ⊎ PartlyPatched at size s t → StaysOpen s t
failed_stays at size s t apart unsealed (inl same) = subst (StaysOpen s) (sym same) (stays_none s unsealed)
failed_stays at size s t apart unsealed (inr partly) = stays_one s t partly.past unsealed (unsealed_partly at size s t apart partly unsealed)

pub cut_stays : (n : ℕ) (s : Stored) → 4096 ≤ n → IsUnsealed s → StaysOpen s (stored_cut n s)
cut_stays n s high unsealed = stays_one s (stored_cut n s) refl unsealed (unsealed_cut n s high unsealed)

pub synced_stays : (s t : Stored) → IsUnsealed s → t ≡ stored_synced s → StaysOpen s t
synced_stays s t unsealed e = subst (StaysOpen s) (sym e) (stays_one s (stored_synced s) refl unsealed (unsealed_synced s unsealed))

-- ---- the two parts of an image

-- the part before the seal is written: the file is it, and the old bytes from the seal on
pub record IsHeadWritten (head : List ℕ) (before after : Stored) : Type 0 where
  pub stays : StaysOpen before after
  pub bytes : after.bytes ≡ head ++ drop 4088 before.bytes
  pub long : 4096 ≤ length before.bytes

pub head_written : (head : List ℕ) (s : Stored) → length head ≡ 4088 → IsUnsealed s → IsHeadWritten head s (stored_patched 0 head s)
head_written head s size unsealed = let end : 0 + length head ≡ 4088 = omega (arith, size) in record {
  stays = written_stays 0 head s (inl (omega (arith, size))) (omega arith) unsealed;
  bytes = ap (λ (n : ℕ). head ++ drop n s.bytes) end;
  long = unsealed.file.0;
}

-- and the part behind it
with_rest : (head rest old : List ℕ) → length head ≡ 4088 → 4096 ≤ length old
    → take (4096 + length rest) (patched 4096 rest (head ++ drop 4088 old)) ≡ head ++ (at_seal old ++ rest)
with_rest head rest old size long =
    let tail : drop 4088 old ≡ at_seal old ++ drop 4096 old = sym (take-append-drop 8 (drop 4088 old)) ∙ ap (λ l. at_seal old ++ l) (drop-drop 8 4088 old) in
    let w = at_seal old in
    let left : length (drop 4088 old) ≡ length old - 4088 = length-drop 4088 old in
    let eight : length w ≡ 8 = length-take-le 8 (drop 4088 old) (omega (arith, left, long)) in
    let front : length (head ++ w) ≡ 4096 = length-append head w ∙ (ap (λ n. n + length w) size ∙ ap (λ n. 4088 + n) eight) in
    let all : head ++ drop 4088 old ≡ (head ++ w) ++ drop 4096 old = ap (λ l. head ++ l) tail ∙ sym (append_assoc head w (drop 4096 old)) in
    let first : take 4096 (head ++ drop 4088 old) ≡ head ++ w = ap (take 4096) all ∙ take_at (head ++ w) (drop 4096 old) 4096 front in
    let behind = drop (4096 + length rest) (head ++ drop 4088 old) in
    let whole : patched 4096 rest (head ++ drop 4088 old) ≡ ((head ++ w) ++ rest) ++ behind = ap (λ l. (l ++ rest) ++ behind) first in
    let size2 : length ((head ++ w) ++ rest) ≡ 4096 + length rest = length-append (head ++ w) rest ∙ ap (λ n. n + length rest) front in
    ap (take (4096 + length rest)) whole ∙ (take_at ((head ++ w) ++ rest) behind (4096 + length rest) size2 ∙ append_assoc head w rest)

pub part_written : (image head rest : List ℕ) (s t : Stored) → 4096 ≤ length image → head ≡ take 4088 image → rest ≡ drop 4096 image → IsHeadWritten head s t → IsPartWritten image s (stored_patched 4096 rest t)
part_written image head rest s t long is_head is_rest written =
    let size : length head ≡ 4088 = ap length is_head ∙ length-take-le 4088 image (omega (arith, long)) in
    let behind : length rest ≡ length image - 4096 = ap length is_rest ∙ length-drop 4096 image in
    let all : 4096 + length rest ≡ length image = omega (arith, behind, long) in
    let fits : 4096 ≤ length t.bytes = written.stays.unsealed.file.0 in
    record {
      stays = stays_more s t (stored_patched 4096 rest t) written.stays (written_stays 4096 rest t (inr (omega arith)) fits written.stays.unsealed);
      bytes =
          ap (λ n. take n (patched 4096 rest t.bytes)) (sym all)
          ∙ (ap (λ l. take (4096 + length rest) (patched 4096 rest l)) written.bytes
          ∙ (with_rest head rest s.bytes size written.long
          ∙ (ap (λ l. l ++ (at_seal s.bytes ++ rest)) is_head ∙ ap (λ l. take 4088 image ++ (at_seal s.bytes ++ l)) is_rest)));
    }

pub part_failed : (head rest : List ℕ) (s t u : Stored) → IsHeadWritten head s t → (u ≡ t) ⊎ PartlyPatched 4096 (length rest) t u → StaysOpen s u
part_failed head rest s t u written failed =
    stays_more s t u written.stays (failed_stays 4096 (length rest) t u (inr (omega arith)) written.stays.unsealed failed)

-- ---- the length, and the sync

pub cut_done : (n : ℕ) (s : Stored) → 4096 < n → IsUnsealed s → IsCutTo n s (stored_cut n s)
cut_done n s high unsealed = record { stays = cut_stays n s (omega (arith, high)) unsealed; bytes = refl }

pub not_longer : (n : ℕ) (s : Stored) → length s.bytes ≤ n → IsUnsealed s → IsCutTo n s s
not_longer n s short unsealed = record { stays = stays_none s unsealed; bytes = sym (take_all n s.bytes short) }

pub image_cut : (image : List ℕ) (s t u : Stored) → IsPartWritten image s t → IsCutTo (length image) t u → (StaysOpen s u) × (u.bytes ≡ with_seal (at_seal s.bytes) image)
image_cut image s t u written cut = (stays_more s t u written.stays cut.stays, cut.bytes ∙ written.bytes)

pub image_synced : (image : List ℕ) (s t u : Stored) → StaysOpen s t × (t.bytes ≡ with_seal (at_seal s.bytes) image) → u ≡ stored_synced t → IsImageWritten image s u
image_synced image s t u written e = record {
  stays = stays_more s t u written.0 (synced_stays t u written.0.unsealed e);
  kept = sync_keeps t u e;
  bytes = sync_bytes t u e ∙ written.1;
}
