-- From the changes that a file in memory keeps on record to the file: no change, and one change more.
use Rattle.std.proofs.Common.{◌≡◌, ◌++◌, ◌∷◌, [], ℕ, List, refl}
use Rattle.std.proofs.lemmas.List.Sums.{fold_push}
use Rattle.lk_outside.specs.declared.file_changes.FileChange.{FileChange}
use Rattle.lk_outside.specs.DeviceInMemory.{stored_after, stored_changed}
use Rattle.lk_outside.specs.Disk.{stored_whole}

pub after_none : (begun : List ℕ) → stored_after begun [] ≡ stored_whole begun
unfolding stored_after
after_none begun = refl

pub after_one_more : (begun : List ℕ) (changes : List FileChange) (change : FileChange) → stored_after begun (changes ++ change ∷ []) ≡ stored_changed (stored_after begun changes) change
unfolding stored_after
after_one_more begun changes change = fold_push stored_changed (stored_whole begun) changes change
