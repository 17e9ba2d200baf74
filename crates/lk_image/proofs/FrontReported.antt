-- The headers at the front are lk_model's, by the low bits of the entry's address.
use Rattle.std.proofs.Common.{◌≡◌, refl, sym, ap, subst, ◌∙◌}
use Rattle.std.specs.Prelude.{ℕ, ◌≤◌, ◌<◌, Bool, List, length, Some, Result, Ok, Err}
use Rattle.lk_elf.specs.Records.{ehdr_bytes}
use Rattle.lk_report.specs.declared.statuses.LimitFault.{LimitFault}
use Rattle.lk_report.specs.declared.statuses.LimitKind.TheVariants as limit
use Rattle.lk_report.specs.declared.statuses.Status.{Status}
use Rattle.lk_report.specs.declared.statuses.Status.TheVariants as status
use Rattle.lk_model.specs.FileHeader.{entry_value, exec_stack_of, header_bytes}
use Rattle.lk_model.specs.Segments.{program_headers}
use Rattle.lk_model.specs.Tail.{Part}
use Rattle.lk_model.specs.Views.{Resolved}
use Rattle.lk_model.specs.declared.layouts.LayoutFault.{LayoutFault}
use Rattle.lk_model.specs.declared.layouts.LayoutFault.TheVariants as layout
use Rattle.lk_model.specs.declared.layouts.Placement.{Placement}
use Rattle.lk_model.specs.declared.layouts.SectionRow.{SectionRow}
use Rattle.lk_model.proofs.LimitsExceeded.{above}
use Rattle.lk_headers.specs.Front.{FrontGives, front_bytes, front_header, up_to_seal}
use Rattle.lk_headers.specs.TailRows.{rows_of_parts}
use Rattle.lk_elf.proofs.LowBits.{low-long}
use Rattle.lk_headers.proofs.ModelRows.{front}
use Rattle.lk_symbol_values.specs.Sections.{low_64}
use Rattle.lk_model.specs.LayoutStatuses.{layout_status}
use Rattle.lk_image.specs.ImageAnswers.{FrontAnswers}

entry_low : (place : Placement) (tail : List SectionRow) (entry : ℕ) (stack : Bool) → front_bytes place tail (low_64 entry) stack ≡ front_bytes place tail entry stack
unfolding front_bytes front_header ehdr_bytes
entry_low place tail entry stack = rw (low-long entry) refl

-- the headers, or the fault of their placement as a status
abbrev pub front_status : Result (List ℕ) LayoutFault → Result (List ℕ) Status
front_status (Ok front) = Ok front
front_status (Err f) = Err (layout_status f)

pub front_reported : (r : Resolved) (place : Placement) (parts : List Part) (tail : List SectionRow) (entry : ℕ) (stack : Bool) (given : Result (List ℕ) LayoutFault)
    → FrontGives place tail entry stack given
    → tail ≡ rows_of_parts place parts
    → entry ≡ low_64 (entry_value r place)
    → stack ≡ exec_stack_of r
    → FrontAnswers r place parts (front_status given)
front_reported r place parts tail entry stack (Ok bytes) gives tail_is entry_is stack_is =
    let few : length (program_headers place (exec_stack_of r)) ≤ 64 = subst (λ (s : Bool). length (program_headers place s) ≤ 64) stack_is gives.0 in
    let same : front_bytes place tail entry stack ≡ header_bytes r place parts =
    (λ i. front_bytes place (tail_is i) (entry_is i) (stack_is i))
    ∙ entry_low place (rows_of_parts place parts) (entry_value r place) (exec_stack_of r)
    ∙ front r place parts in
    (few, gives.1 ∙ ap up_to_seal same)
front_reported r place parts tail entry stack (Err (layout.Limit f)) gives tail_is entry_is stack_is =
    let count : ℕ = length (program_headers place (exec_stack_of r)) in
    let many : 64 < count = subst (λ (s : Bool). 64 < length (program_headers place s)) stack_is gives.0 in
    let reported : f ≡ record { which = limit.Headers; number = count } =
    gives.1 ∙ ap (λ (s : Bool). let l : LimitFault = record { which = limit.Headers; number = length (program_headers place s) } in l) stack_is in
    above limit.Headers 64 count many ∙ ap (λ (l : LimitFault). Some (status.Limit l)) (sym reported)
front_reported r place parts tail entry stack (Err layout.NoMemory) gives tail_is entry_is stack_is = tt
