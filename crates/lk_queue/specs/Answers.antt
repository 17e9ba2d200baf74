-- What a job may answer.
use Rattle.std.specs.Prelude.{◌≡◌, Bool, true, false, List, Option, None, Some}
use Rattle.lk_queue.specs.declared.work.Share.{Share}
use Rattle.lk_queue.specs.declared.work.Share.TheVariants.{Same, Owned, NoMemory}
use Rattle.lk_queue.specs.declared.work.Parcel.{Parcel}
use Rattle.lk_queue.specs.declared.work.Finished.{Finished}
use Rattle.lk_queue.specs.declared.work.Finished.TheVariants as finished

-- a share of a value: an equal one, or Owned exactly where it is an owned range
abbrev pub Shares : {S : Type 0} → Bool → S → Share S → Type 0
Shares owned x (Same y) = (owned ≡ false) × (y ≡ x)
Shares owned x Owned = owned ≡ true
Shares owned x NoMemory = owned ≡ false

-- what is written of what was read; nothing is without it
abbrev pub WroteOf : {S : Type 0} → (List S → List S → List S) → Option (List S) → List S → List S → Type 0
WroteOf outcome None write slots = ⊥
WroteOf outcome (Some read) write slots = slots ≡ outcome read write

-- an answer to a parcel: what the job writes of it, or out of memory with the written slots as they were; without what
-- is read it is out of memory
abbrev pub Answers : {J S : Type 0} → (List S → List S → List S) → Parcel S → Finished J S → Type 0
Answers outcome parcel (finished.Wrote slots) = WroteOf outcome parcel.read parcel.write slots
Answers outcome parcel (finished.NoMemory slots) = slots ≡ parcel.write
