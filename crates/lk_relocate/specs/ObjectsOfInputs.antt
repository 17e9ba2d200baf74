-- This project's own: when objects are those of the inputs of a link.
use Rattle.std.specs.Prelude.{◌≡◌, ℕ, List, Option, Some, None}
use Rattle.std.specs.List.{slice_get}
use Rattle.lk_model.specs.Elf.{elf_of}
use Rattle.lk_model.specs.Objects.{summary_in}
use Rattle.lk_model.specs.Views.{Input}

-- the object of the input with a number, if it has one
abbrev pub object_in : List (Option (List ℕ)) → ℕ → Option (List ℕ)
object_in objects n = elim (slice_get objects n) [ None ↦ None | Some o ↦ o ]

-- the input with a number was read of these bytes as an object
pub record IsObjectOf (inputs : List Input) (n : ℕ) (bytes : List ℕ) : Type 0 where
  pub input : Input
  pub there : slice_get inputs n ≡ Some input
  pub file : input.elf ≡ elf_of bytes
  pub summary : input.summary ≡ summary_in input.elf

-- the input with a number has its object
pub record HoldsObject (objects : List (Option (List ℕ))) (inputs : List Input) (n : ℕ) : Type 0 where
  pub bytes : List ℕ
  pub in_object : object_in objects n ≡ Some bytes
  pub object : IsObjectOf inputs n bytes
