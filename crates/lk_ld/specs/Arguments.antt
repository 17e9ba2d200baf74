-- This project's own: the words that the program's arguments are.
use Rattle.std.specs.Prelude.{◌≡◌, ℕ, List}
use Rattle.std.specs.declared.io.ErrorKind.{ErrorKind}
use Rattle.std.specs.declared.io.ErrorKind.TheVariants as kind
use Rattle.lk_ld.specs.declared.arguments.Arguments.{Arguments}
use Rattle.lk_ld.specs.declared.arguments.Arguments.TheVariants as arguments

-- arguments that the system reported are these words, or out of memory for their list
abbrev pub AreWords : List (List ℕ) → Arguments → Type 0
AreWords words (arguments.Words list) = list ≡ words
AreWords words arguments.NoText = ⊥
AreWords words arguments.NoMemory = Unit {0}

-- an error of the system in place of the arguments
abbrev pub unknown : ErrorKind → Arguments
unknown kind.OutOfMemory = arguments.NoMemory
unknown _ = arguments.NoText
