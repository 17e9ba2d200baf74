-- An open file is never taken as a base.
use Rattle.std.proofs.Common.{◌≡◌, ◌⊎◌, ℕ, List, Bool, true, false, Some, Err, length, refl, sym, ap, subst, inl, inr}
use Rattle.std.specs.Prelude.{nat_le, if◌then◌else◌, Result}
use Rattle.std.proofs.lemmas.Bool.{le-leb}
use Rattle.lk_report.specs.declared.causes.Cause.{Cause}
use Rattle.lk_report.specs.declared.causes.Cause.TheVariants.{BaseOpen, NoBase, NotIncremental}
use Rattle.lk_model.specs.Bases.{base_of, base_with, greatest_image, is_sealed, records_of_image}
use Rattle.lk_model.specs.declared.records.Records.{Records}
use Rattle.lk_commit.specs.CrashStates.{OpenIsNoBase}

-- by whether the file is short and whether it has the seal
abbrev cause_by : Bool → Bool → List ℕ → Result Records Cause
cause_by short has file = if short then Err NoBase else (if has then base_with file else Err BaseOpen)

abbrev IsNoBase : Result Records Cause → Type 0
IsNoBase r = (r ≡ Err NoBase) ⊎ (r ≡ Err BaseOpen)

by_length : (short has : Bool) (file : List ℕ) → short ≡ true → IsNoBase (cause_by short has file)
by_length true has file e = inl refl
by_length false has file e = absurd (cc)

by_seal : (short has : Bool) (file : List ℕ) → has ≡ false → IsNoBase (cause_by short has file)
by_seal true has file e = inl refl
by_seal false false file e = inr refl
by_seal false true file e = absurd (cc)

base_by : (has : Bool) (file : List ℕ) → is_sealed file ≡ has → (if has then base_with file else Err BaseOpen) ≡ base_with file
base_by true file e = refl
base_by false file e = sym (ap (λ b. if b then (if nat_le (length file) greatest_image then records_of_image file else Err NotIncremental) else Err BaseOpen) e)

causes : (file : List ℕ) → base_of (Some file) ≡ cause_by (nat_le (length file) 4096) (is_sealed file) file
unfolding base_of
causes file = ap (λ r. if nat_le (length file) 4096 then Err NoBase else r) (sym (base_by (is_sealed file) file refl))

pub open_is_no_base : OpenIsNoBase
open_is_no_base file (inl short) = subst IsNoBase (sym (causes file)) (by_length (nat_le (length file) 4096) (is_sealed file) file (le-leb (length file) 4096 short))
open_is_no_base file (inr none) = subst IsNoBase (sym (causes file)) (by_seal (nat_le (length file) 4096) (is_sealed file) file none)
