-- The answer of each pass of a link is lk_model's.
use Rattle.std.proofs.Common.{◌≡◌, ◌≤◌, ◌^◌, refl, sym, ap, ◌∙◌, ℕ, nat_lt, Bool, true, false, List, length, Option, Some, None, Ok, Err}
use Rattle.std.specs.Prelude.{if◌then◌else◌}
use Rattle.lk_report.specs.declared.causes.OptionRecord.{OptionRecord}
use Rattle.lk_report.specs.declared.faults.Fault.{Fault}
use Rattle.lk_report.specs.declared.statuses.LimitFault.{LimitFault}
use Rattle.lk_report.specs.declared.statuses.LimitKind.TheVariants as limit
use Rattle.lk_report.specs.declared.statuses.Status.{Status}
use Rattle.lk_report.specs.declared.statuses.Status.TheVariants as status
use Rattle.lk_report.specs.declared.statuses.Waiting.TheVariants as waiting
use Rattle.lk_model.specs.Answers.{fault_status, first_path, full_link, image_length, limit_fault, needs_nothing, placed_answer, resolved_answer}
use Rattle.lk_model.specs.FileHeader.{exec_stack_of}
use Rattle.lk_model.specs.FullPlace.{full_place, memory_of, section_count}
use Rattle.lk_model.specs.Overflows.{overflow_faults}
use Rattle.lk_model.specs.ResolveFaults.{name_count, resolve_faults}
use Rattle.lk_model.specs.Resolving.{resolve}
use Rattle.lk_model.specs.Segments.{program_headers}
use Rattle.lk_model.specs.Views.{Input, Resolved}
use Rattle.lk_model.specs.LayoutStatuses.{layout_status}
use Rattle.lk_model.specs.declared.layouts.LayoutFault.{LayoutFault}
use Rattle.lk_model.specs.declared.layouts.LayoutFault.TheVariants as layout
use Rattle.lk_model.specs.declared.layouts.Placement.{Placement}
use Rattle.lk_model.proofs.LimitsExceeded.{above}
use Rattle.lk_model.proofs.LimitsExceeded.{below}
use Rattle.lk_resolve.specs.Given.{found_in}
use Rattle.lk_inputs.specs.AnswerLaws.{answer_unless, scanned_answer}
use Rattle.lk_inputs.proofs.AnswersReported.{faults_reported_of, names_counted, some_faults}
use Rattle.lk_resolve.specs.Settling.{SettleGives, ResolutionValue, most_names}
use Rattle.lk_resolve.specs.SettleStatuses.{settle_status}
use Rattle.lk_resolve.specs.declared.settle_faults.SettleFault.{SettleFault}
use Rattle.lk_resolve.specs.declared.settle_faults.SettleFault.TheVariants as settle
use Rattle.lk_inputs.specs.declared.input_files.InputFile.{InputFile}
use Rattle.lk_layout.specs.Layouts.{LayoutGives}
use Rattle.lk_scan.specs.ScanStatuses.{scan_status}
use Rattle.lk_scan.specs.declared.scans.ScanFailure.{ScanFailure}
use Rattle.lk_scan.specs.declared.scans.ScanFailure.TheVariants as scan
use Rattle.lk_scan_inputs.specs.Scans.{InputsScanned}
use Rattle.lk_scan_inputs.specs.declared.link_scanning.ScannedInputs.{ScannedInputs}
use Rattle.lk_driver.specs.LinkPasses.{PlaceAnswers, ResolutionAnswers, ScanAnswers, needs_answer}

-- ---- names

answer_by :
    (r : Resolved) (too_many faults : Option Status)
    → limit_fault limit.Names (2 ^ 20) (name_count r) ≡ too_many
    → fault_status (resolve_faults r) ≡ faults
    → resolved_answer r ≡ answer_unless too_many (answer_unless faults (scanned_answer r))
answer_by r too_many faults many reported = λ i. answer_unless (many i) (answer_unless (reported i) (scanned_answer r))

few_names : (options : OptionRecord) (xs : List Input) → length (found_in options.entry xs).names ≤ most_names → limit_fault limit.Names (2 ^ 20) (name_count (resolve options xs)) ≡ None
few_names options xs few =
    ap (limit_fault limit.Names (2 ^ 20)) (names_counted options xs) ∙ below limit.Names (2 ^ 20) (length (found_in options.entry xs).names) few

resolution_goes_on : (options : OptionRecord) (xs : List Input) (resolution : ResolutionValue) → SettleGives (found_in options.entry xs) (Ok resolution) → resolved_answer (resolve options xs) ≡ scanned_answer (resolve options xs)
resolution_goes_on options xs resolution h = answer_by (resolve options xs) None None (few_names options xs h.0) (ap fault_status (faults_reported_of options xs ∙ h.1))

names_at_fault : (options : OptionRecord) (xs : List Input) (faults : List Fault) → SettleGives (found_in options.entry xs) (Err (settle.Faults faults)) → resolved_answer (resolve options xs) ≡ status.LinkError faults
names_at_fault options xs faults h =
    answer_by (resolve options xs) None (Some (status.LinkError faults)) (few_names options xs h.0)
    (ap fault_status (faults_reported_of options xs ∙ sym h.1) ∙ some_faults faults h.2)

too_many_names : (options : OptionRecord) (xs : List Input) (l : LimitFault) → SettleGives (found_in options.entry xs) (Err (settle.Limit l)) → resolved_answer (resolve options xs) ≡ status.Limit l
too_many_names options xs l h =
    let n : ℕ = length (found_in options.entry xs).names in
    answer_by (resolve options xs) (Some (status.Limit l)) (fault_status (resolve_faults (resolve options xs)))
    (ap (limit_fault limit.Names (2 ^ 20)) (names_counted options xs) ∙ above limit.Names (2 ^ 20) n h.0 ∙ ap (λ (m : LimitFault). Some (status.Limit m)) (sym h.1)) refl

pub resolution_answers : (options : OptionRecord) (xs : List Input) (resolution : ResolutionValue) → SettleGives (found_in options.entry xs) (Ok resolution) → ResolutionAnswers options xs (Ok resolution)
resolution_answers options xs resolution h = (resolution_goes_on options xs resolution h, h.2)

pub names_refused : (options : OptionRecord) (xs : List Input) (f : SettleFault) → SettleGives (found_in options.entry xs) (Err f) → ResolutionAnswers options xs (Err (settle_status f))
names_refused options xs (settle.Faults faults) h = names_at_fault options xs faults h
names_refused options xs (settle.Limit l) h = too_many_names options xs l h
names_refused options xs settle.NoMemory h = tt

-- ---- references

pub scan_goes_on : (r : Resolved) (files : List InputFile) (scanned : ScannedInputs) → InputsScanned r files (Ok scanned) → ScanAnswers r files (Ok scanned)
scan_goes_on r files scanned h = (ap (λ (o : Option Status). answer_unless o (needs_answer r)) (ap fault_status h.0), h)

pub scan_refused : (r : Resolved) (files : List InputFile) (f : ScanFailure) → InputsScanned r files (Err f) → ScanAnswers r files (Err (scan_status f))
scan_refused r files (scan.Faults faults) h = ap (λ (o : Option Status). answer_unless o (needs_answer r)) (ap fault_status (sym h.1) ∙ some_faults faults h.0)
scan_refused r files scan.NoMemory h = tt

-- ---- needs

waits_unless : (r : Resolved) (b : Bool) → needs_nothing r.needs ≡ b → needs_answer r ≡ answer_unless (if b then None else Some (status.NotYet (waiting.Form (first_path r.inputs)))) (placed_answer r (full_place r))
waits_unless r b e = ap (λ (c : Bool). answer_unless (if c then None else Some (status.NotYet (waiting.Form (first_path r.inputs)))) (placed_answer r (full_place r))) e

pub needs_go_on : (r : Resolved) → needs_nothing r.needs ≡ true → needs_answer r ≡ placed_answer r (full_place r)
needs_go_on r e = waits_unless r true e

pub needs_are_due : (r : Resolved) (path : List ℕ) → needs_nothing r.needs ≡ false → path ≡ first_path r.inputs → needs_answer r ≡ status.NotYet (waiting.Form path)
needs_are_due r path e same = waits_unless r false e ∙ ap (λ (p : List ℕ). status.NotYet (waiting.Form p)) (sym same)

-- ---- limits

-- the answer of a placement by its limits and its faults
abbrev pub placed_by : Option Status → Option Status → Option Status → Option Status → Option Status → Status
placed_by sections memory headers image faults =
    let later : Option Status = elim headers as (λ _. Option Status) [ Some s ↦ Some s | None ↦ image ] in
    let more : Option Status = elim memory as (λ _. Option Status) [ Some s ↦ Some s | None ↦ later ] in
    let first : Option Status = elim sections as (λ _. Option Status) [ Some s ↦ Some s | None ↦ more ] in
    answer_unless first (answer_unless faults full_link)

pub placed_is :
    (r : Resolved) (place : Placement)
    → placed_answer r place
    ≡ placed_by (limit_fault limit.Sections 60000 (section_count place)) (limit_fault limit.Memory (2 ^ 31) (memory_of place)) (limit_fault limit.Headers 64 (length (program_headers place (exec_stack_of r)))) (limit_fault limit.Image (2 ^ 29) (image_length r place)) (fault_status (overflow_faults r place))
placed_is r place = refl

limited :
    (a b : Bool) (x y l : LimitFault) (headers image faults : Option Status)
    → (let o : Option LimitFault = if a then Some x else (if b then Some y else None) in o) ≡ Some l
    → placed_by (if a then Some (status.Limit x) else None) (if b then Some (status.Limit y) else None) headers image faults ≡ status.Limit l
limited true b x y l headers image faults h = ap (λ (m : LimitFault). status.Limit m) (let e : x ≡ l = cc in e)
limited false true x y l headers image faults h = ap (λ (m : LimitFault). status.Limit m) (let e : y ≡ l = cc in e)
limited false false x y l headers image faults h = absurd (cc)

pub place_refused : (r : Resolved) (f : LayoutFault) → LayoutGives r (Err f) → PlaceAnswers r (Err (layout_status f))
place_refused r (layout.Limit l) h =
    let place : Placement = full_place r in
    placed_is r place
    ∙ limited (nat_lt 60000 (section_count place)) (nat_lt (2 ^ 31) (memory_of place)) (record { which = limit.Sections; number = section_count place }) (record { which = limit.Memory; number = memory_of place }) l
    (limit_fault limit.Headers 64 (length (program_headers place (exec_stack_of r)))) (limit_fault limit.Image (2 ^ 29) (image_length r place)) (fault_status (overflow_faults r place)) h
place_refused r layout.NoMemory h = tt

pub place_goes_on : (r : Resolved) (place : Placement) → LayoutGives r (Ok place) → PlaceAnswers r (Ok place)
place_goes_on r place h = (refl, record { full = h.2; sections = h.0; memory = h.1 })
