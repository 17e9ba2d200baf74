use Rattle.std.specs.Prelude.{◌≡◌, ◌==◌, drop, find}
use Rattle.lk_elf.specs.declared.program_header.Phdr.{Phdr}
use Rattle.lk_loader.proofs.program_headers.find_header.Given as goal

abbrev pub invariant-loop-header : goal.invariant-loop-header
invariant-loop-header l =
    find (λ (h : Phdr). h.p_type == l.code) (drop l.header-index l.headers) ≡ find (λ (h : Phdr). h.p_type == l.code) l.headers
