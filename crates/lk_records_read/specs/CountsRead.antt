-- Whether the counts of a head fit (this project's own), as a walk over the heads answers it.
use Rattle.std.specs.Prelude.{◌≡◌, ℕ, List, Result, Ok, Err}
use Rattle.std.specs.Borrow.{Bor}
use Rattle.lk_model.specs.InputsCounts.{after_group, after_input}
use Rattle.lk_model.specs.RecordReaders.{After, after_many}

-- the bytes behind what is counted, or the number of bytes left at the head whose counts do not fit
abbrev pub AfterGives : After → Result (Bor (List ℕ)) ℕ → Type 0
AfterGives after (Ok rest) = after ≡ Ok rest.now
AfterGives after (Err left) = after ≡ Err left

-- behind so many groups
unfoldable pub after_groups : ℕ → ℕ → List ℕ → After
after_groups left n bytes = after_many left 8 after_group n bytes

-- behind so many inputs
unfoldable pub after_many_inputs : ℕ → ℕ → List ℕ → After
after_many_inputs left n bytes = after_many left 56 after_input n bytes
