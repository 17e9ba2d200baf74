use Rattle.std.specs.Prelude.{◌≡◌, ◌==◌, ℕ, drop, find}
use Rattle.std.specs.List.{enumerate_from}
use Rattle.lk_elf.specs.declared.section_header.Shdr.{Shdr}
use Rattle.lk_so_read.proofs.section_tables.first_of_type.Given as goal

abbrev pub invariant-loop-n : goal.invariant-loop-n
invariant-loop-n l =
    find (λ (row : ℕ × Shdr). row.1.sh_type == l.code) (enumerate_from l.n (drop l.n l.sections))
    ≡ find (λ (row : ℕ × Shdr). row.1.sh_type == l.code) (enumerate_from 1 (drop 1 l.sections))
