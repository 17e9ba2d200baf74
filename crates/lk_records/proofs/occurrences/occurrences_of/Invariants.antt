use Rattle.std.proofs.Common.{◌≡◌, ◌++◌, drop, map}
use Rattle.lk_records.specs.Occurrences.{count_under, name_path, occurrences_by}
use Rattle.lk_records.proofs.occurrences.occurrences_of.Given as goal

-- the occurrences found so far, followed by those that the counts give for the paths that are left, are all occurrences
abbrev pub invariant-loop-name : goal.invariant-loop-name
invariant-loop-name l =
    l.occurrences ++ occurrences_by (count_under l.counts.entries) (map name_path (drop l.name-index l.names)) ≡ occurrences_by (λ path. 0) (map name_path l.names)
