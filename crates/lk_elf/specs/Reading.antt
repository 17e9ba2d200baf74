-- What a reader of a record answers: the record where all its bytes are there, and `Short` exactly where some are missing.
use Rattle.std.specs.Prelude.{◌≡◌, ℕ, ◌+◌, ◌≤◌, ◌<◌, List, length, Result, Ok, Err}
use Rattle.lk_elf.specs.declared.missing.Short.{Short}

-- the answer to a read of a record of `size` bytes at `at`, which is `whole` where it is there
abbrev pub Gives : {R : Type 0} → ℕ → List ℕ → ℕ → R → Result R Short → Type 0
Gives size bytes at whole (Ok found) = (at + size ≤ length bytes) × (found ≡ whole)
Gives size bytes at whole (Err short) = (length bytes < at + size) × (short ≡ record { at = at; need = size })
