-- The row that is found for a class is a row of the placement, and of that class.
use Rattle.std.specs.Prelude.{◌≡◌, ℕ, suc, Bool, true, false, List, [], ◌∷◌, Some, find, refl}
use Rattle.std.specs.List.{AllByRecursion, slice_get}
use Rattle.std.proofs.Common.{subst}
use Rattle.std.proofs.lemmas.Bool.{eqb-true}
use Rattle.lk_model.specs.SectionKeys.{class_number, same_class, is_alloc}
use Rattle.lk_model.specs.Segments.{row_of_class}
use Rattle.lk_model.specs.declared.layouts.Class.{Class}
use Rattle.lk_model.specs.declared.layouts.Placement.{Placement}
use Rattle.lk_model.specs.declared.layouts.SectionRow.{SectionRow}
use Rattle.lk_law_loading.proofs.RowsOfPlace.{IsRow}

-- an item that was found is in the list at a number, and passes the test
pub record FoundThere {A : Type 0} (test : A → Bool) (xs : List A) (x : A) : Type 0 where
  pub number : ℕ
  pub there : slice_get xs number ≡ Some x
  pub passes : test x ≡ true

pub find_there : {A : Type 0} (test : A → Bool) (xs : List A) (x : A) → find test xs ≡ Some x → FoundThere test xs x
find_there test [] x found = absurd (cc)
find_there {A} test (y ∷ ys) x found = go (test y) refl (find_there test ys x)
  where
    go : (b : Bool) → test y ≡ b → (find test ys ≡ Some x → FoundThere test ys x) → FoundThere test (y ∷ ys) x
    go true e rest =
        let same : Some y ≡ Some x = rw e at found in
        let one : y ≡ x = cc in
        record { number = 0; there = same; passes = subst (λ z. test z ≡ true) one e }
    go false e rest = let f = rest (rw e at found) in record { number = suc f.number; there = f.there; passes = f.passes }

-- what holds of each item by its number holds of all
pub all_by_number : {A : Type 0} (P : A → Type 0) (xs : List A) → ((n : ℕ) (x : A) → slice_get xs n ≡ Some x → P x) → AllByRecursion P xs
all_by_number P [] h = tt
all_by_number P (x ∷ xs) h = (h 0 x refl, all_by_number P xs (λ n y there. h (suc n) y there))

-- what holds of each row of a placement holds of all
pub all_rows_of : (P : SectionRow → Type 0) (place : Placement) → ((row : SectionRow) → IsRow place row → P row) → AllByRecursion P place.sections
all_rows_of P place h = all_by_number P place.sections (λ n row there. h row (record { number = n; there = there }))

-- a row of a class
pub record ClassRow (place : Placement) (class : Class) (row : SectionRow) : Type 0 where
  pub is : IsRow place row
  pub same : same_class row.key.class class ≡ true

pub class_row : (place : Placement) (class : Class) (row : SectionRow) → row_of_class class place ≡ Some row → ClassRow place class row
class_row place class row found =
    let f = find_there (λ (w : SectionRow). same_class w.key.class class) place.sections row found in
    record { is = record { number = f.number; there = f.there }; same = f.passes }

-- a class that is the same as a loaded one is loaded
pub same_loaded : (a c : Class) → same_class a c ≡ true → is_alloc c ≡ true → is_alloc a ≡ true
same_loaded a c same loads = rw (eqb-true (class_number a) (class_number c) same) loads
