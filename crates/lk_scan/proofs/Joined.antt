-- Appending a list of distinct items to another list, each item once, gives the same as appending the items that the
-- list was made of. This holds of slots, of numbers, and of faults that are reported once per name.
use Rattle.std.proofs.Common.{◌≡◌, refl, sym, ap, ◌∙◌, ℕ, nat_eq, ◌==◌, ◌&&◌, ◌||◌, Bool, true, false, cond, List, [], ◌∷◌, ◌++◌, fold, Option, Some, None}
use Rattle.std.proofs.lemmas.List.Folds.{list_any-append}
use Rattle.std.proofs.lemmas.List.Sums.{fold-append}
use Rattle.std.specs.Bool.{beq}
use Rattle.std.specs.Cmp.{bool_eq_equiv, nat_eq_equiv}
use Rattle.std.specs.Cmp.Lexicographic.{nat_list_eq_equiv}
use Rattle.std.specs.List.{list_any}
use Rattle.std.specs.Str.{bytes_eq}
use Rattle.lk_report.specs.declared.faults.Fault.{Fault}
use Rattle.lk_report.specs.declared.faults.Fault.TheVariants as fault
use Rattle.lk_model.specs.declared.layouts.GotKey.{GotKey}
use Rattle.lk_model.specs.declared.layouts.GotOwner.TheVariants as owner
use Rattle.lk_model.specs.NeedsOf.{got_key_eq, owner_eq}
use Rattle.lk_model.specs.Numbered.{distinct, with_new}
use Rattle.lk_model.specs.ScanFaults.{is_empty_copy_of, is_reported, is_undefined_of, reported_once, with_fault}
use Rattle.lk_resolve.proofs.ListSets.{or_assoc, or_false, or_true}

-- two equal items are equal to the same items
abbrev Alike : {A : Type 0} → (A → A → Bool) → Type 0
Alike {A} same = (x y z : A) → same x y ≡ true → same x z ≡ same y z

module _ {A : Type 0} (same : A → A → Bool) (alike : Alike same) where
  same_any : (x y : A) (xs : List A) → same x y ≡ true → list_any (same x) xs ≡ list_any (same y) xs
  same_any x y [] h = refl
  same_any x y (z ∷ zs) h = λ i. alike x y z h i || same_any x y zs h i

  any-new : (x y : A) (seen : List A) → list_any (same x) (with_new same seen y) ≡ (list_any (same x) seen || same x y)
  any-new x y seen = by (list_any (same y) seen) (same x y) refl refl
    where
      by : (has is : Bool) → list_any (same y) seen ≡ has → same x y ≡ is → list_any (same x) (cond has seen (seen ++ y ∷ [])) ≡ (list_any (same x) seen || is)
      by true true h e = (same_any x y seen e ∙ h) ∙ sym (or_true (list_any (same x) seen))
      by true false h e = sym (or_false (list_any (same x) seen))
      by false is h e = list_any-append (same x) seen (y ∷ []) ∙ ap (λ b. list_any (same x) seen || b) (or_false (same x y) ∙ e)

  any-fold : (x : A) (seen ys : List A) → list_any (same x) (fold (with_new same) seen ys) ≡ (list_any (same x) seen || list_any (same x) ys)
  any-fold x seen [] = sym (or_false (list_any (same x) seen))
  any-fold x seen (y ∷ ys) =
      any-fold x (with_new same seen y) ys ∙ ap (λ b. b || list_any (same x) ys) (any-new x y seen) ∙ or_assoc (list_any (same x) seen) (same x y) (list_any (same x) ys)

  -- one more item is added before a list is appended to another, or after it
  new-again : (seen more : List A) (x : A) → fold (with_new same) seen (with_new same more x) ≡ with_new same (fold (with_new same) seen more) x
  new-again seen more x = by (list_any (same x) more) refl
    where
      by : (has : Bool) → list_any (same x) more ≡ has → fold (with_new same) seen (cond has more (more ++ x ∷ [])) ≡ cond (list_any (same x) (fold (with_new same) seen more)) (fold (with_new same) seen more) (fold (with_new same) seen more ++ x ∷ [])
      by true h =
          let there : list_any (same x) (fold (with_new same) seen more) ≡ true = any-fold x seen more ∙ ap (λ b. list_any (same x) seen || b) h ∙ or_true (list_any (same x) seen) in
          sym (ap (λ b. cond b (fold (with_new same) seen more) (fold (with_new same) seen more ++ x ∷ [])) there)
      by false h = fold-append (with_new same) seen more (x ∷ [])

  fold-again : (seen more xs : List A) → fold (with_new same) seen (fold (with_new same) more xs) ≡ fold (with_new same) (fold (with_new same) seen more) xs
  fold-again seen more [] = refl
  fold-again seen more (x ∷ xs) = fold-again seen (with_new same more x) xs ∙ ap (λ (l : List A). fold (with_new same) l xs) (new-again seen more x)

  pub once-again : (seen xs : List A) → fold (with_new same) seen (distinct same xs) ≡ fold (with_new same) seen xs
  once-again seen xs = fold-again seen [] xs

-- numbers
pub numbers-again : (seen xs : List ℕ) → fold (with_new nat_eq) seen (distinct nat_eq xs) ≡ fold (with_new nat_eq) seen xs
numbers-again seen xs = once-again nat_eq nat_eq_equiv.congr seen xs

-- slots
both : (a b : Bool) → (a && b) ≡ true → (a ≡ true) × (b ≡ true)
both true b e = (refl, e)
both false b e = absurd (cc)

owners_alike : Alike owner_eq
owners_alike (owner.Global n) (owner.Global m) (owner.Global k) e = nat_eq_equiv.congr n m k e
owners_alike (owner.Global n) (owner.Global m) (owner.Local j t) e = refl
owners_alike (owner.Local i s) (owner.Local j t) (owner.Local k u) e =
    let parts = both (i == j) (s == t) e in
    λ h. nat_eq_equiv.congr i j k parts.0 h && nat_eq_equiv.congr s t u parts.1 h
owners_alike (owner.Local i s) (owner.Local j t) (owner.Global k) e = refl
owners_alike (owner.Global n) (owner.Local j t) z e = absurd (cc)
owners_alike (owner.Local i s) (owner.Global m) z e = absurd (cc)

slots_alike : Alike got_key_eq
slots_alike x y z e =
    let parts = both (owner_eq x.owner y.owner) (beq x.thread y.thread) e in
    λ i. owners_alike x.owner y.owner z.owner parts.0 i && bool_eq_equiv.congr x.thread y.thread z.thread parts.1 i

pub slots-again : (seen xs : List GotKey) → fold (with_new got_key_eq) seen (distinct got_key_eq xs) ≡ fold (with_new got_key_eq) seen xs
slots-again seen xs = once-again got_key_eq slots_alike seen xs

-- the kind and name by which a fault is reported once; none for a fault that is reported each time
abbrev once_by : Fault → Option (Bool × List ℕ)
once_by (fault.Undefined name site) = Some (true, name)
once_by (fault.CopyOfZero name site) = Some (false, name)
once_by _ = None

abbrev same_key : Option (Bool × List ℕ) → Option (Bool × List ℕ) → Bool
same_key None b = false
same_key (Some a) None = false
same_key (Some a) (Some b) = beq a.0 b.0 && bytes_eq a.1 b.1

abbrev same_fault : Fault → Fault → Bool
same_fault f g = same_key (once_by f) (once_by g)

keys_alike : Alike same_key
keys_alike None b c e = absurd (cc)
keys_alike (Some a) None c e = absurd (cc)
keys_alike (Some a) (Some b) None e = refl
keys_alike (Some a) (Some b) (Some c) e =
    let parts = both (beq a.0 b.0) (bytes_eq a.1 b.1) e in
    λ i. bool_eq_equiv.congr a.0 b.0 c.0 parts.0 i && nat_list_eq_equiv.congr a.1 b.1 c.1 parts.1 i

faults_alike : Alike same_fault
faults_alike x y z e = keys_alike (once_by x) (once_by y) (once_by z) e

undefined_alike : (name : List ℕ) (g : Fault) → is_undefined_of name g ≡ same_key (Some (true, name)) (once_by g)
undefined_alike name (fault.Missing a) = refl
undefined_alike name (fault.Input a b) = refl
undefined_alike name (fault.MultipleDefinition a b c) = refl
undefined_alike name (fault.TlsMismatch a) = refl
undefined_alike name (fault.NoEntry a) = refl
undefined_alike name (fault.Undefined other site) = nat_list_eq_equiv.symm other name
undefined_alike name (fault.DroppedLocal a) = refl
undefined_alike name (fault.Unsupported a b) = refl
undefined_alike name (fault.CopyOfZero a b) = refl
undefined_alike name (fault.ImportedTlsDirect a b) = refl
undefined_alike name (fault.Overflow a b c d e) = refl

copied_alike : (name : List ℕ) (g : Fault) → is_empty_copy_of name g ≡ same_key (Some (false, name)) (once_by g)
copied_alike name (fault.Missing a) = refl
copied_alike name (fault.Input a b) = refl
copied_alike name (fault.MultipleDefinition a b c) = refl
copied_alike name (fault.TlsMismatch a) = refl
copied_alike name (fault.NoEntry a) = refl
copied_alike name (fault.Undefined a b) = refl
copied_alike name (fault.DroppedLocal a) = refl
copied_alike name (fault.Unsupported a b) = refl
copied_alike name (fault.CopyOfZero other site) = nat_list_eq_equiv.symm other name
copied_alike name (fault.ImportedTlsDirect a b) = refl
copied_alike name (fault.Overflow a b c d e) = refl

any_alike : (p q : Fault → Bool) → ((g : Fault) → p g ≡ q g) → (reported : List Fault) → list_any p reported ≡ list_any q reported
any_alike p q h [] = refl
any_alike p q h (g ∷ gs) = λ i. h g i || any_alike p q h gs i

none_alike : (reported : List Fault) → false ≡ list_any (λ (g : Fault). false) reported
none_alike [] = refl
none_alike (g ∷ gs) = none_alike gs

reported_alike : (reported : List Fault) (f : Fault) → is_reported reported f ≡ list_any (same_fault f) reported
reported_alike reported (fault.Missing a) = none_alike reported
reported_alike reported (fault.Input a b) = none_alike reported
reported_alike reported (fault.MultipleDefinition a b c) = none_alike reported
reported_alike reported (fault.TlsMismatch a) = none_alike reported
reported_alike reported (fault.NoEntry a) = none_alike reported
reported_alike reported (fault.Undefined name site) = any_alike (is_undefined_of name) (λ g. same_key (Some (true, name)) (once_by g)) (undefined_alike name) reported
reported_alike reported (fault.DroppedLocal a) = none_alike reported
reported_alike reported (fault.Unsupported a b) = none_alike reported
reported_alike reported (fault.CopyOfZero name site) = any_alike (is_empty_copy_of name) (λ g. same_key (Some (false, name)) (once_by g)) (copied_alike name) reported
reported_alike reported (fault.ImportedTlsDirect a b) = none_alike reported
reported_alike reported (fault.Overflow a b c d e) = none_alike reported

reported_new : (reported fs : List Fault) → fold with_fault reported fs ≡ fold (with_new same_fault) reported fs
reported_new reported [] = refl
reported_new reported (f ∷ fs) =
    ap (λ b. fold with_fault (cond b reported (reported ++ f ∷ [])) fs) (reported_alike reported f) ∙ reported_new (with_new same_fault reported f) fs

pub faults-again : (reported fs : List Fault) → fold with_fault reported (reported_once fs) ≡ fold with_fault reported fs
faults-again reported fs =
    reported_new reported (reported_once fs)
    ∙ ap (fold (with_new same_fault) reported) (reported_new [] fs)
    ∙ once-again same_fault faults_alike reported fs
    ∙ sym (reported_new reported fs)
