-- This project's own: the faults that a loader reports, as the refusals of an image.
use Rattle.std.specs.Prelude.{◌≡◌, Option, Some, None, Result, Ok, Err}
use Rattle.lk_model.specs.Loads.{LoadRefusal}
use Rattle.lk_loader.specs.declared.loads.LoadFault.{LoadFault}
use Rattle.lk_loader.specs.declared.loads.LoadFault.TheVariants as fault

-- a fault is reported exactly for its refusal; out of memory for any
abbrev pub IsFaultOf : Option LoadRefusal → LoadFault → Type 0
IsFaultOf refusal fault.NotElf = refusal ≡ Some LoadRefusal.NotElf
IsFaultOf refusal (fault.BadTable n) = refusal ≡ Some (LoadRefusal.BadTable n)
IsFaultOf refusal (fault.Overlap n) = refusal ≡ Some (LoadRefusal.Overlap n)
IsFaultOf refusal fault.BadDynamic = refusal ≡ Some LoadRefusal.BadDynamic
IsFaultOf refusal fault.NoMemory = Unit {0}

module _ {A : Type 0} where
  -- a value is returned exactly where there is no refusal, and it is this one; else the refusal's fault
  abbrev pub Gives : Option LoadRefusal → A → Result A LoadFault → Type 0
  Gives refusal value (Ok found) = (refusal ≡ None) × (found ≡ value)
  Gives refusal value (Err fault) = IsFaultOf refusal fault
