-- What a file is, by the faults of its first bytes and of its header.
use Rattle.std.specs.Prelude.{◌≡◌, refl, ℕ, Bool, true, false, List, [], ◌∷◌, ◌++◌, Option, Some, None, Ok, Err}
use Rattle.std.proofs.Common.{ap, sym, ◌∙◌}
use Rattle.lk_elf.specs.Records.{ehdr_at}
use Rattle.lk_elf.specs.declared.file_header.Ehdr.{Ehdr}
use Rattle.lk_report.specs.declared.faults.InputFault.{InputFault}
use Rattle.lk_model.specs.Checks.{first_fault}
use Rattle.lk_model.specs.Kinds.{kind_of, kind_with, kind_checks, header_checks}
use Rattle.lk_summary.specs.FrontChecks.{front_checks, header_with, header_of, kind_under}

-- the fault of two lists of checks is that of the first, or else that of the second
abbrev or_else : Option InputFault → Option InputFault → Option InputFault
or_else (Some f) other = Some f
or_else None other = other

fault_joined : (xs ys : List (Bool × InputFault)) → first_fault (xs ++ ys) ≡ or_else (first_fault xs) (first_fault ys)
fault_joined [] ys = refl
fault_joined ((true, g) ∷ xs) ys = refl
fault_joined ((false, g) ∷ xs) ys = fault_joined xs ys

-- what a file is, by the faults of its first bytes and of its header
kind_joined : (bytes : List ℕ) → kind_of bytes ≡ kind_with (or_else (first_fault (front_checks bytes)) (first_fault (header_checks (ehdr_at bytes 0)))) (ehdr_at bytes 0)
unfolding kind_of kind_checks
kind_joined bytes = ap (λ (o : Option InputFault). kind_with o (ehdr_at bytes 0)) (fault_joined (front_checks bytes) (header_checks (ehdr_at bytes 0)))

-- what a file is where its header was had, and where it was not
had : (o p : Option InputFault) (e h : Ehdr) → header_with o e ≡ Ok h → kind_with (or_else o p) e ≡ kind_with p e
had (Some f) p e h is = absurd (cc)
had None p e h is = refl

same_header : (o : Option InputFault) (e h : Ehdr) → header_with o e ≡ Ok h → e ≡ h
same_header (Some f) e h is = absurd (cc)
same_header None e h is = cc (is)

lacked : (o p : Option InputFault) (e : Ehdr) (f : InputFault) → header_with o e ≡ Err f → kind_with (or_else o p) e ≡ Err f
lacked (Some g) p e f is = cc (is)
lacked None p e f is = absurd (cc)

pub header_reported : (bytes : List ℕ) (h : Ehdr) → header_of bytes ≡ Ok h → kind_of bytes ≡ kind_under h
header_reported bytes h is =
    let front = first_fault (front_checks bytes) in
    let e = ehdr_at bytes 0 in
    kind_joined bytes ∙ had front (first_fault (header_checks e)) e h is ∙ ap kind_under (same_header front e h is)

pub front_reported : (bytes : List ℕ) (f : InputFault) → header_of bytes ≡ Err f → Err f ≡ kind_of bytes
front_reported bytes f is =
    sym (kind_joined bytes ∙ lacked (first_fault (front_checks bytes)) (first_fault (header_checks (ehdr_at bytes 0))) (ehdr_at bytes 0) f is)
