-- The objects of the added inputs of a link are those of its files.
use Rattle.std.proofs.Common.{◌≡◌, refl, sym, ap, ◌∙◌, subst, arith, ℕ, zero, suc, ◌+◌, nat_eq, Bool, true, false, ◌||◌, cond, List, [], ◌∷◌, ◌++◌, Option, Some, None, slice_get}
use Rattle.std.specs.List.{AllByRecursion}
use Rattle.std.proofs.lemmas.Bool.{eq-eqb}
use Rattle.std.proofs.lemmas.List.{append_assoc}
use Rattle.lk_report.specs.declared.causes.OptionRecord.{OptionRecord}
use Rattle.lk_model.specs.Adding.{added_inputs}
use Rattle.lk_model.specs.Finding.{found_of}
use Rattle.lk_model.specs.Numbered.{Numbered, is_number_in}
use Rattle.lk_model.specs.Resolving.{resolve}
use Rattle.lk_model.specs.Views.{Input}
use Rattle.lk_law_placement.proofs.DistinctLists.{all_mapped}
use Rattle.lk_scan_inputs.specs.Objects.{AreObjects, IsObject, objects_from, objects_of}
use Rattle.lk_relocate.specs.ObjectsOfInputs.{HoldsObject}
use Rattle.lk_model.proofs.AddedOnce.{added_have}
use Rattle.lk_inputs.specs.Named.{files_of}
use Rattle.lk_inputs.specs.declared.input_files.InputFile.{InputFile}

-- the number is that of an input
record IsThere (xs : List Input) (n : ℕ) : Type 0 where
  input : Input
  there : slice_get xs n ≡ Some input

-- every added input is one of those that are given
added_there : (options : OptionRecord) (xs : List Input) → AllByRecursion (IsThere xs) (resolve options xs).added
unfolding resolve found_of
added_there options xs =
    all_mapped (λ (x : Numbered). x.number) (IsThere xs) (added_inputs options.entry xs)
    (added_have (λ (x : Numbered). IsThere xs x.number) options.entry xs (λ n x there. subst (IsThere xs) (let e : n ≡ 0 + n = omega arith in e) (record { input = x; there = there })))

-- ---- the object of an added input

-- the numbers of a list are in it
is_in : (before : List ℕ) (n : ℕ) (after : List ℕ) → is_number_in (before ++ n ∷ after) n ≡ true
is_in [] n after = ap (λ b. b || is_number_in after n) (eq-eqb n n refl)
is_in (m ∷ before) n after = by (nat_eq n m) (is_in before n after)
  where
    by : (b : Bool) → is_number_in (before ++ n ∷ after) n ≡ true → (b || is_number_in (before ++ n ∷ after) n) ≡ true
    by true h = refl
    by false h = h

object_there : (k : ℕ) (added : List ℕ) (xs : List Input) (n : ℕ) (x : Input) → is_number_in added (k + n) ≡ true → slice_get xs n ≡ Some x → slice_get (objects_from k added (files_of xs)) n ≡ Some (Some x.elf.bytes)
object_there k added [] n x h there = absurd (cc)
object_there k added (y ∷ xs) zero x h there =
    let here : is_number_in added k ≡ true = subst (λ (m : ℕ). is_number_in added m ≡ true) (let e : k + 0 ≡ k = omega arith in e) h in
    let same : y ≡ x = cc in
    ap (λ (b : Bool). let o : Option (Option (List ℕ)) = Some (cond b (Some y.elf.bytes) None) in o) here ∙ ap (λ (z : Input). let o : Option (Option (List ℕ)) = Some (Some z.elf.bytes) in o) same
object_there k added (y ∷ xs) (suc n) x h there =
    object_there (k + 1) added xs n x (subst (λ (m : ℕ). is_number_in added m ≡ true) (let e : k + suc n ≡ k + 1 + n = omega arith in e) h) there

-- an input is an object
object_at : (xs : List Input) (n : ℕ) (x : Input) → slice_get xs n ≡ Some x → AreObjects xs → IsObject x
object_at [] n x e h = absurd (cc)
object_at (y ∷ xs) zero x e h = let same : y ≡ x = cc in subst IsObject same h.0
object_at (y ∷ xs) (suc n) x e h = object_at xs n x e h.1

object_stored : (added : List ℕ) (xs : List Input) (n : ℕ) → AreObjects xs → is_number_in added n ≡ true → IsThere xs n → HoldsObject (objects_of added (files_of xs)) xs n
object_stored added xs n sound in_added is =
    let x : Input = is.input in
    let object : IsObject x = object_at xs n x is.there sound in
    let here : is_number_in added (0 + n) ≡ true = subst (λ (m : ℕ). is_number_in added m ≡ true) (let e : n ≡ 0 + n = omega arith in e) in_added in
    let state : slice_get (objects_of added (files_of xs)) n ≡ Some (Some x.elf.bytes) = object_there 0 added xs n x here is.there in
    record {
      bytes = x.elf.bytes;
      in_object = ap (λ (o : Option (Option (List ℕ))). elim o as (λ _. Option (List ℕ)) [ None ↦ None | Some p ↦ p ]) state;
      object = record { input = x; there = is.there; file = object.file; summary = object.summary };
    }

stored_among : (added : List ℕ) (xs : List Input) (before numbers : List ℕ) → AreObjects xs → added ≡ before ++ numbers → AllByRecursion (IsThere xs) numbers → AllByRecursion (HoldsObject (objects_of added (files_of xs)) xs) numbers
stored_among added xs before [] sound e there = tt
stored_among added xs before (n ∷ ns) sound e there = (
  object_stored added xs n sound (ap (λ (l : List ℕ). is_number_in l n) e ∙ is_in before n ns) there.0,
  stored_among added xs (before ++ n ∷ []) ns sound (e ∙ sym (append_assoc before (n ∷ []) ns)) there.1,
)

same_inputs : (options : OptionRecord) (xs : List Input) → xs ≡ (resolve options xs).inputs
unfolding resolve
same_inputs options xs = refl

pub objects_stored : (options : OptionRecord) (xs : List Input) (files : List InputFile) (objects : List (Option (List ℕ))) → files ≡ files_of xs → AreObjects xs
    → objects ≡ objects_of (resolve options xs).added files
    → AllByRecursion (HoldsObject objects (resolve options xs).inputs) (resolve options xs).added
objects_stored options xs files objects are sound reported =
    let added : List ℕ = (resolve options xs).added in
    let all : AllByRecursion (HoldsObject (objects_of added (files_of xs)) xs) added = stored_among added xs [] added sound refl (added_there options xs) in
    let same : objects ≡ objects_of added (files_of xs) = reported ∙ ap (objects_of added) are in
    subst (λ (ys : List Input). AllByRecursion (HoldsObject objects ys) added) (same_inputs options xs)
    (subst (λ (os : List (Option (List ℕ))). AllByRecursion (HoldsObject os xs) added) (sym same) all)
