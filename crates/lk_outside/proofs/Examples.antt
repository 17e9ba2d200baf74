-- Worked examples of the definitions: what they say of small files.
use Rattle.std.proofs.Common.{◌≡◌, ◌-◌, ◌^◌, ◌∷◌, [], ℕ, List, Some, None, ap, codes, get_or, inl, refl, negsuc, pos, arith}
use Rattle.lk_report.specs.Spoken.{Rose}
use Rattle.lk_outside.specs.declared.file_entries.FileEntry.{FileEntry}
use Rattle.lk_outside.specs.Counts.{counted}
use Rattle.lk_outside.specs.Crashes.{CrashState, MayLeave}
use Rattle.lk_outside.specs.Disk.{patched, stored_cut, stored_patched, stored_synced, stored_whole}
use Rattle.lk_outside.specs.FilesInMemory.{map_of}
use Rattle.lk_outside.specs.Host.{nanoseconds}

-- a write inside, across the end, and at the end
write_inside : patched 1 (codes "XY") (codes "abcdef") ≡ codes "aXYdef"
write_inside = refl

write_across_the_end : patched 5 (codes "+--") (codes "aXYdef") ≡ codes "aXYde+--"
write_across_the_end = refl

write_at_the_end : patched 3 (codes "d") (codes "abc") ≡ codes "abcd"
write_at_the_end = refl

-- a file of three bytes, as it was kept; after a write inside it; after a cut of that; and kept as it is then
whole : CrashState
whole = record { kept = codes "abc"; ranges = []; least = 3; greatest = 3 }

written : CrashState
written = record { kept = codes "abc"; ranges = (1, 2) ∷ []; least = 3; greatest = 3 }

shortened : CrashState
shortened = record { kept = codes "abc"; ranges = (1, 2) ∷ []; least = 2; greatest = 3 }

file_whole : stored_whole (codes "abc") ≡ record { bytes = codes "abc"; written = []; past = []; now = whole }
unfolding whole
file_whole = refl

write_noted : stored_patched 1 (codes "XY") (stored_whole (codes "abc")) ≡ record { bytes = codes "aXY"; written = (1, 2) ∷ []; past = whole ∷ []; now = written }
unfolding whole written
write_noted = refl

cut_noted : stored_cut 2 (stored_patched 1 (codes "XY") (stored_whole (codes "abc"))) ≡ record { bytes = codes "aX"; written = (1, 2) ∷ []; past = whole ∷ written ∷ []; now = shortened }
unfolding whole written shortened
cut_noted = refl

sync_noted : stored_synced (record { bytes = codes "aX"; written = (1, 2) ∷ []; past = whole ∷ written ∷ []; now = shortened }) ≡ record { bytes = codes "aX"; written = (1, 2) ∷ []; past = whole ∷ written ∷ shortened ∷ []; now = record { kept = codes "aX"; ranges = []; least = 2; greatest = 2 } }
sync_noted = refl

-- no crash after the write leaves other bytes before its range
other_byte_not_left : MayLeave written (codes "bcd") → ⊥
unfolding written
other_byte_not_left left = let first : get_or (codes "b") 0 0 ≡ get_or (codes "a") 0 0 = ap (λ (xs : List ℕ). get_or xs 0 0) (left.beside 0 1 (omega arith) (omega arith) (inl (omega arith), tt)) in absurd (omega arith)

-- the counts stay at their last value, which counts as one that rose
counts_on : counted 7 ≡ 8
counts_on = refl

stays_at_the_last : counted (2 ^ 64 - 1) ≡ 2 ^ 64 - 1
stays_at_the_last = refl

rose_at_the_last : Rose (2 ^ 64 - 1) (2 ^ 64 - 1)
rose_at_the_last = omega arith

-- two files as a map
two_files : List FileEntry
two_files =
    record { path = codes "a.o"; bytes = codes "first"; stamp = Some (record { length = 5; modified = pos 9 }) }
    ∷ record { path = codes "b.o"; bytes = codes "second"; stamp = None } ∷ []

row_there : map_of two_files (codes "b.o") ≡ Some (record { bytes = codes "second"; stamp = None })
unfolding two_files
row_there = refl

row_absent : map_of two_files (codes "c.o") ≡ None
unfolding two_files
row_absent = refl

-- a nanosecond before 1970, and the last time that fits
before_1970 : nanoseconds (negsuc 0) (pos 999999999) ≡ negsuc 0
before_1970 = refl

last_time : nanoseconds (pos 9223372036) (pos 854775807) ≡ pos (2 ^ 63 - 1)
last_time = refl

-- the first time that fits, and one past the last
first_time : nanoseconds (negsuc 9223372036) (pos 145224192) ≡ negsuc (2 ^ 63 - 1)
first_time = refl

past_the_last_time : nanoseconds (pos 9223372036) (pos 854775808) ≡ pos (2 ^ 63)
past_the_last_time = refl
