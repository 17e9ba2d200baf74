use Rattle.std.specs.Prelude.{◌≡◌, ◌++◌, drop}
use Rattle.std.specs.List.{flat_map}
use Rattle.lk_elf.specs.Records.{phdr_bytes}
use Rattle.lk_headers.specs.Shown.{shown_headers}
use Rattle.lk_headers.proofs.appending.put_shown.Given as goal

abbrev pub invariant-loop-row : goal.invariant-loop-row
invariant-loop-row l =
    l.out.items ++ flat_map phdr_bytes (shown_headers l.kind (drop l.row-index l.rows))
    ≡ l.initial.out.items ++ flat_map phdr_bytes (shown_headers l.kind l.rows)
