-- The bytes at the place of the seal and beside it, as a file is patched and cut.
use Rattle.std.proofs.Common.{◌≡◌, ◌≤◌, ◌+◌, ◌-◌, ◌⊎◌, ◌++◌, ℕ, List, Bool, true, false, length, take, drop, refl, sym, ◌∙◌, ap, subst, inl, inr, arith, append_assoc, length-append, length-drop}
use Rattle.std.specs.Prelude.{replicate}
use Rattle.std.specs.Str.{bytes_eq}
use Rattle.std.proofs.lemmas.List.{drop-drop, drop-replicate, drop-take, drop_at, length-replicate, length-take, length-take-le, take-append-drop, take-replicate, take-take, take_at}
use Rattle.std.proofs.lemmas.Slice.Eq.{bytes_eq-Decides}
use Rattle.lk_model.specs.Bases.{is_sealed}
use Rattle.lk_model.specs.Images.{seal}
use Rattle.lk_outside.specs.Disk.{patched}
use Rattle.lk_commit.specs.CrashStates.{sealed}
use Rattle.lk_commit.specs.Stages.{HasNoSeal, IsSealedOrOpen, SameBesideSeal, at_seal, with_seal}

-- a file is what is before the place of the seal, what is there, and what is behind it
split_at_seal : (file : List ℕ) → file ≡ take 4088 file ++ (at_seal file ++ drop 4096 file)
split_at_seal file =
    let behind : drop 8 (drop 4088 file) ≡ drop 4096 file = drop-drop 8 4088 file in
    let rest : drop 4088 file ≡ at_seal file ++ drop 4096 file = sym (take-append-drop 8 (drop 4088 file)) ∙ ap (λ l. at_seal file ++ l) behind in
    sym (take-append-drop 4088 file) ∙ ap (λ l. take 4088 file ++ l) rest

-- a file that is another one but for the seal's place is that one sealed, or has no seal
sealed_if : (old new : List ℕ) (b : Bool) → SameBesideSeal old new → is_sealed new ≡ b → IsSealedOrOpen old new
sealed_if old new true same e =
    let there : at_seal new ≡ seal = (bytes_eq-Decides (at_seal new) seal).0 e in
    inl (split_at_seal new ∙ (ap (λ l. l ++ (at_seal new ++ drop 4096 new)) same.before ∙ (ap (λ l. take 4088 old ++ (l ++ drop 4096 new)) there ∙ ap (λ l. take 4088 old ++ (seal ++ l)) same.after)))
sealed_if old new false same e = inr (inr e)

pub sealed_or_open : (old new : List ℕ) → SameBesideSeal old new → IsSealedOrOpen old new
sealed_or_open old new same = sealed_if old new (is_sealed new) same refl

pub same_beside : (file : List ℕ) → SameBesideSeal file file
same_beside file = record { size = refl; before = refl; after = refl }

-- a file that has the seal is itself sealed
pub sealed_same : (file : List ℕ) → is_sealed file ≡ true → sealed file ≡ file
sealed_same file e =
    let there : at_seal file ≡ seal = (bytes_eq-Decides (at_seal file) seal).0 e in
    sym (split_at_seal file ∙ ap (λ l. take 4088 file ++ (l ++ drop 4096 file)) there)

-- whether a file is sealed is said by its bytes at the place
pub sealed_by : (old new : List ℕ) → at_seal new ≡ at_seal old → is_sealed new ≡ is_sealed old
sealed_by old new same = ap (λ l. bytes_eq l seal) same

-- ---- an image with other bytes at the place of the seal

module _ (w image : List ℕ) (eight : length w ≡ 8) (long : 4096 ≤ length image) where
  front : length (take 4088 image) ≡ 4088
  front = length-take-le 4088 image (omega (arith, long))

  pub before_seal : take 4088 (with_seal w image) ≡ take 4088 image
  before_seal = take_at (take 4088 image) (w ++ drop 4096 image) 4088 front

  pub behind_seal : drop 4096 (with_seal w image) ≡ drop 4096 image
  behind_seal = sym (drop-drop 8 4088 (with_seal w image)) ∙ (ap (drop 8) (drop_at (take 4088 image) (w ++ drop 4096 image) 4088 front) ∙ drop_at w (drop 4096 image) 8 eight)

  pub resealed : sealed (with_seal w image) ≡ sealed image
  resealed = ap (λ l. l ++ (seal ++ drop 4096 (with_seal w image))) before_seal ∙ ap (λ l. take 4088 image ++ (seal ++ l)) behind_seal

-- ---- patches

-- what a patch leaves: bytes before and behind it, and no shorter file
pub record IsBeside (at size : ℕ) (old new : List ℕ) : Type 0 where
  pub before : take at new ≡ take at old
  pub after : drop (at + size) new ≡ drop (at + size) old
  pub not_shorter : length old ≤ length new

pub shape : (at : ℕ) (xs old : List ℕ) → patched at xs old ≡ take at old ++ (xs ++ drop (at + length xs) old)
shape at xs old = append_assoc (take at old) xs (drop (at + length xs) old)

pub beside_patched : (at : ℕ) (xs old : List ℕ) → at ≤ length old → IsBeside at (length xs) old (patched at xs old)
beside_patched at xs old fits =
    let rest = drop (at + length xs) old in
    let front : length (take at old) ≡ at = length-take-le at old fits in
    let long : length (patched at xs old) ≡ length (take at old) + (length xs + length rest) = ap length (shape at xs old) ∙ (length-append (take at old) (xs ++ rest) ∙ ap (λ n. length (take at old) + n) (length-append xs rest)) in
    let left : length rest ≡ length old - (at + length xs) = length-drop (at + length xs) old in
    record {
      before = ap (take at) (shape at xs old) ∙ take_at (take at old) (xs ++ rest) at front;
      after = sym (drop-drop (length xs) at (patched at xs old)) ∙ (ap (drop (length xs)) (ap (drop at) (shape at xs old) ∙ drop_at (take at old) (xs ++ rest) at front) ∙ drop_at xs rest (length xs) refl);
      not_shorter = omega (arith, long, left, front, fits);
    }

-- a patch inside keeps the length
pub patched_size : (at : ℕ) (xs old : List ℕ) → at + length xs ≤ length old → length (patched at xs old) ≡ length old
patched_size at xs old fits =
    let rest = drop (at + length xs) old in
    let front : length (take at old) ≡ at = length-take-le at old (omega (arith, fits)) in
    let long : length (patched at xs old) ≡ length (take at old) + (length xs + length rest) = ap length (shape at xs old) ∙ (length-append (take at old) (xs ++ rest) ∙ ap (λ n. length (take at old) + n) (length-append xs rest)) in
    let left : length rest ≡ length old - (at + length xs) = length-drop (at + length xs) old in
    omega (arith, long, left, front, fits)

-- a patch beside the place of the seal leaves the bytes there
pub seal_beside : (at size : ℕ) (old new : List ℕ) → (at + size ≤ 4088) ⊎ (4096 ≤ at) → IsBeside at size old new → at_seal new ≡ at_seal old
seal_beside at size old new (inl low) same =
    let k = 4088 - (at + size) in
    let there : (at + size) + k ≡ 4088 = omega (arith, low) in
    let dropped : drop 4088 new ≡ drop 4088 old = subst (λ n. drop n new ≡ drop n old) there (sym (drop-drop k (at + size) new) ∙ (ap (drop k) same.after ∙ drop-drop k (at + size) old)) in
    ap (take 8) dropped
seal_beside at size old new (inr high) same =
    let first : take 4096 new ≡ take 4096 old = sym (take-take 4096 at new high) ∙ (ap (take 4096) same.before ∙ take-take 4096 at old high) in
    sym (drop-take 4088 8 new) ∙ (ap (drop 4088) first ∙ drop-take 4088 8 old)

-- a cut behind it does so too
pub seal_cut : (n : ℕ) (file : List ℕ) → 4096 ≤ n → at_seal (take n file) ≡ at_seal file
seal_cut n file high = sym (drop-take 4088 8 (take n file)) ∙ (ap (drop 4088) (take-take 4096 n file high) ∙ drop-take 4088 8 file)

-- ---- files without a seal

pub no_seal_beside : (at size : ℕ) (old new : List ℕ) → (at + size ≤ 4088) ⊎ (4096 ≤ at) → IsBeside at size old new → HasNoSeal old → HasNoSeal new
no_seal_beside at size old new apart same none = (
  omega (arith, same.not_shorter, none.0),
  sealed_by old new (seal_beside at size old new apart same) ∙ none.1,
)

pub no_seal_cut : (n : ℕ) (file : List ℕ) → 4096 ≤ n → HasNoSeal file → HasNoSeal (take n file)
no_seal_cut n file high none =
    let size = length-take n file in (
      omega (arith, size, high, none.0),
      sealed_by file (take n file) (seal_cut n file high) ∙ none.1,
    )

-- zeros have none
abbrev pub zeros : ℕ → List ℕ
zeros n = replicate n 0

pub zeros_no_seal : HasNoSeal (zeros 4096)
zeros_no_seal =
    let there : at_seal (zeros 4096) ≡ zeros 8 = ap (take 8) (drop-replicate 4088 4096 0) ∙ take-replicate 8 8 0 (omega arith) in
    let size : length (zeros 4096) ≡ 4096 = length-replicate {A = ℕ} 4096 0 in
    (omega (arith, size), ap (λ (l : List ℕ). bytes_eq l seal) there)

-- nor has a file with zeros at the place
pub zeros_at_seal : (file : List ℕ) → 4096 ≤ length file → HasNoSeal (patched 4088 (zeros 8) file)
zeros_at_seal file long =
    let beside = beside_patched 4088 (zeros 8) file (omega (arith, long)) in
    let front : length (take 4088 file) ≡ 4088 = length-take-le 4088 file (omega (arith, long)) in
    let there : at_seal (patched 4088 (zeros 8) file) ≡ zeros 8 =
    ap at_seal (shape 4088 (zeros 8) file) ∙ (ap (take 8) (drop_at (take 4088 file) (zeros 8 ++ drop 4096 file) 4088 front) ∙ take_at (zeros 8) (drop 4096 file) 8 refl) in
    let longer = beside.not_shorter in
    (omega (arith, longer, long), ap (λ (l : List ℕ). bytes_eq l seal) there)
