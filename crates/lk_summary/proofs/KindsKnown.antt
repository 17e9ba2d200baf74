-- A file whose kind is reported has no fault of its first bytes, and a header.
use Rattle.std.specs.Prelude.{◌≡◌, ◌<◌, refl, ℕ, Bool, true, false, not, ◌&&◌, List, ◌∷◌, length, nat_lt, Option, Some, None, Result, Ok, Err}
use Rattle.std.proofs.Common.{ap, arith, subst, sym, ◌∙◌}
use Rattle.std.proofs.lemmas.Bool.Decides.{nat_tests}
use Rattle.lk_elf.specs.Numbers.{ehdr_size}
use Rattle.lk_elf.specs.Records.{ehdr_at}
use Rattle.lk_elf.specs.declared.file_header.Ehdr.{Ehdr}
use Rattle.lk_report.specs.declared.faults.InputFault.{InputFault}
use Rattle.lk_report.specs.declared.faults.InputFault.TheVariants.{Archive, Script, NotElf}
use Rattle.lk_model.specs.Checks.{first_fault}
use Rattle.lk_model.specs.Kinds.{has_magic, header_checks, is_archive, is_text, kind_checks, kind_of, kind_with}
use Rattle.lk_model.specs.declared.summaries.Kind.{Kind}

-- where a kind is known, there was no fault
pub after_kind : (o : Option InputFault) (h : Ehdr) (k : Kind) → kind_with o h ≡ Ok k → o ≡ None
after_kind None h k e = refl
after_kind (Some g) h k e = absurd (subst (λ t. t) (ap (λ (r : Result Kind InputFault). elim r [ Ok k ↦ ⊥ | Err x ↦ Unit {0} ]) e) tt)

-- where none is known, there was that fault
pub fault_of_kind : (o : Option InputFault) (h : Ehdr) (f : InputFault) → kind_with o h ≡ Err f → o ≡ Some f
fault_of_kind (Some g) h f e = ap (λ (r : Result Kind InputFault). elim r [ Ok k ↦ Some g | Err x ↦ Some x ]) e
fault_of_kind None h f e = absurd (subst (λ t. t) (ap (λ (r : Result Kind InputFault). elim r [ Ok k ↦ Unit {0} | Err x ↦ ⊥ ]) e) tt)

-- a file that is too short for a header has one of the faults before the header is looked at
short_stops : (a m t : Bool) (rest : List (Bool × InputFault)) → first_fault ((a, Archive) ∷ (not m && t, Script) ∷ (not m, NotElf) ∷ (true, NotElf) ∷ rest) ≡ None → ⊥
short_stops a m t rest e = some_none _ (fault_there a m t rest) e
  where
    some_none : (o : Option InputFault) → ((f : InputFault) × (o ≡ Some f)) → o ≡ None → ⊥
    some_none o (f, e) n = subst (λ t. t) (ap (λ (p : Option InputFault). elim p [ Some x ↦ Unit {0} | None ↦ ⊥ ]) (sym e ∙ n)) tt

    fault_there : (a m t : Bool) (rest : List (Bool × InputFault)) → (f : InputFault) × (first_fault ((a, Archive) ∷ (not m && t, Script) ∷ (not m, NotElf) ∷ (true, NotElf) ∷ rest) ≡ Some f)
    fault_there true m t rest = (Archive, refl)
    fault_there false true t rest = (NotElf, refl)
    fault_there false false true rest = (Script, refl)
    fault_there false false false rest = (NotElf, refl)

-- a file whose kind is reported has a header
pub no_header : (bytes : List ℕ) (k : Kind) → kind_of bytes ≡ Ok k → length bytes < 64 → ⊥
unfolding kind_of kind_checks
no_header bytes k e short =
    let none = after_kind (first_fault (kind_checks bytes)) (ehdr_at bytes 0) k e in
    let is_short : nat_lt (length bytes) ehdr_size ≡ true = grind (arith, nat_tests, short) in
    short_stops (is_archive bytes) (has_magic bytes) (is_text bytes) (header_checks (ehdr_at bytes 0))
    (ap (λ (b : Bool). first_fault ((is_archive bytes, Archive) ∷ (not (has_magic bytes) && is_text bytes, Script) ∷ (not (has_magic bytes), NotElf) ∷ (b, NotElf) ∷ header_checks (ehdr_at bytes 0))) (sym is_short) ∙ none)
