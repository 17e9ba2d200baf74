-- This project's own: the bytes of a range of addresses gathered from runs, run by run.
use Rattle.std.specs.Prelude.{ℕ, ◌+◌, ◌-◌, List, [], ◌∷◌, ◌++◌, drop, length, nat_le, take, if◌then◌else◌}
use Rattle.lk_loader.specs.declared.loads.Run.{Run}

-- what a run has from an address on, at most so many bytes
abbrev pub part_of : Run → ℕ → ℕ → List ℕ
part_of run next left = if nat_le run.addr next then take left (drop (next - run.addr) run.bytes) else []

-- what the runs have from an address on without a gap, at most so many bytes
abbrev pub gathered : List Run → ℕ → ℕ → List ℕ
gathered [] next left = []
gathered (run ∷ runs) next left =
    part_of run next left ++ gathered runs (next + length (part_of run next left)) (left - length (part_of run next left))
