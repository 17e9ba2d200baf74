-- Slots in a set are their keys, each once.
use Rattle.std.proofs.Common.{◌≡◌, refl, sym, ap, ◌∙◌, Bool, true, false, cond, ◌||◌, if◌then◌else◌, List, [], ◌∷◌, ◌++◌, map, Result, Ok, Err}
use Rattle.std.proofs.lemmas.List.{map-append}
use Rattle.std.specs.List.{list_any}
use Rattle.std.specs.Result.{OnOk, is_err}
use Rattle.indexmap.specs.IndexSet.{insert_key}
use Rattle.lk_model.specs.NeedsOf.{got_key_eq}
use Rattle.lk_model.specs.Numbered.{with_new}
use Rattle.lk_scan.specs.declared.slots.Slot.{Slot}
use Rattle.lk_scan.specs.ReferralNeeds.{key_of}

any_keys : (eq : Slot → Slot → Bool) → ((a b : Slot) → eq a b ≡ got_key_eq (key_of a) (key_of b)) → (s : Slot) (ss : List Slot) → list_any (eq s) ss ≡ list_any (got_key_eq (key_of s)) (map key_of ss)
any_keys eq same s [] = refl
any_keys eq same s (t ∷ ts) = λ i. same s t i || any_keys eq same s ts i

-- a slot put into a set of slots
pub inserted : (eq : Slot → Slot → Bool) → ((a b : Slot) → eq a b ≡ got_key_eq (key_of a) (key_of b)) → (ss : List Slot) (s : Slot) → map key_of (insert_key eq ss s) ≡ with_new got_key_eq (map key_of ss) (key_of s)
inserted eq same ss s = by (list_any (eq s) ss) (sym (any_keys eq same s ss))
  where
    by : (b : Bool) → list_any (got_key_eq (key_of s)) (map key_of ss) ≡ b → map key_of (if b then ss else ss ++ s ∷ []) ≡ with_new got_key_eq (map key_of ss) (key_of s)
    by true e = sym (ap (λ b. cond b (map key_of ss) (map key_of ss ++ key_of s ∷ [])) e)
    by false e = map-append key_of ss (s ∷ []) ∙ sym (ap (λ b. cond b (map key_of ss) (map key_of ss ++ key_of s ∷ [])) e)

-- what holds where there was no error
pub where_ok : {T E P : Type 0} (r : Result T E) → is_err r ≡ false → OnOk r P → P
where_ok (Ok x) e h = h
where_ok (Err x) e h = absurd (cc)
