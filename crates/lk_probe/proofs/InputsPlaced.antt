-- What the resolution, the scan and the layout answer, one after another, is what is reported of where inputs go.
use Rattle.std.proofs.Common.{◌≡◌, ◌≤◌, ◌^◌, refl, sym, ap, ◌∙◌, subst, ℕ, nat_lt, Bool, true, false, List, length, map, Option, Some, None, Ok, Err}
use Rattle.std.specs.Prelude.{if◌then◌else◌, option_map}
use Rattle.lk_report.specs.declared.causes.OptionRecord.{OptionRecord}
use Rattle.lk_report.specs.declared.statuses.LimitFault.{LimitFault}
use Rattle.lk_report.specs.declared.statuses.LimitKind.TheVariants as limit
use Rattle.lk_report.specs.declared.statuses.Status.{Status}
use Rattle.lk_report.specs.declared.statuses.Status.TheVariants as status
use Rattle.lk_model.specs.declared.layouts.LayoutFault.{LayoutFault}
use Rattle.lk_model.specs.declared.layouts.LayoutFault.TheVariants as layout
use Rattle.lk_model.specs.declared.layouts.Placement.{Placement}
use Rattle.lk_model.specs.declared.summaries.InputSummary.{InputSummary}
use Rattle.lk_model.specs.Answers.{fault_status, limit_fault}
use Rattle.lk_model.specs.FullPlace.{full_place, memory_of, section_count}
use Rattle.lk_model.specs.ResolveFaults.{name_count, resolve_faults}
use Rattle.lk_model.specs.Resolving.{resolve}
use Rattle.lk_model.specs.ScanFaults.{scan_faults}
use Rattle.lk_model.specs.Views.{Input, Resolved}
use Rattle.lk_model.specs.InputNames.{input_summary}
use Rattle.lk_model.proofs.LimitsExceeded.{above}
use Rattle.lk_model.proofs.LimitsExceeded.{below}
use Rattle.lk_resolve.specs.Given.{found_in}
use Rattle.lk_resolve.specs.Given.{IsGiven}
use Rattle.lk_layout.specs.Layouts.{LayoutGives, layout_limit}
use Rattle.lk_scan_inputs.specs.Scans.{InputsScanned}
use Rattle.lk_scan_inputs.specs.declared.link_scanning.ScannedInputs.{ScannedInputs}
use Rattle.lk_inputs.specs.declared.input_files.InputFile.{InputFile}
use Rattle.lk_inputs.specs.Refusals.{IsRefusal}
use Rattle.lk_inputs.proofs.AnswersReported.{faults_reported_of, names_counted, some_faults}
use Rattle.lk_resolve.specs.SettleStatuses.{settle_status}
use Rattle.lk_resolve.specs.Settling.{SettleGives, ResolutionValue}
use Rattle.lk_resolve.specs.declared.settle_faults.SettleFault.{SettleFault}
use Rattle.lk_resolve.specs.declared.settle_faults.SettleFault.TheVariants as settle
use Rattle.lk_scan.specs.declared.scans.ScanFailure.{ScanFailure}
use Rattle.lk_scan.specs.declared.scans.ScanFailure.TheVariants as scan
use Rattle.lk_probe.specs.Laying.{InputsLaid, layout_refusal, names_refusal, placement_refusal, refusal_or}
use Rattle.lk_model.specs.LayoutStatuses.{layout_status}
use Rattle.lk_scan.specs.ScanStatuses.{scan_status}

-- ---- names

few_names : (options : OptionRecord) (xs : List Input) → length (found_in options.entry xs).names ≤ 2 ^ 20 → limit_fault limit.Names (2 ^ 20) (name_count (resolve options xs)) ≡ None
few_names options xs few = ap (limit_fault limit.Names (2 ^ 20)) (names_counted options xs) ∙ below limit.Names (2 ^ 20) (length (found_in options.entry xs).names) few

names_sound : (options : OptionRecord) (xs : List Input) (resolution : ResolutionValue) → SettleGives (found_in options.entry xs) (Ok resolution) → names_refusal (resolve options xs) ≡ None
names_sound options xs resolution h =
    λ i. refusal_or (few_names options xs h.0 i) (ap fault_status (faults_reported_of options xs ∙ h.1) i)

names_refused : (options : OptionRecord) (xs : List Input) (f : SettleFault) → SettleGives (found_in options.entry xs) (Err f) → IsRefusal (names_refusal (resolve options xs)) (settle_status f)
names_refused options xs (settle.Faults faults) h =
    λ i. refusal_or (few_names options xs h.0 i) ((ap fault_status (faults_reported_of options xs ∙ sym h.1) ∙ some_faults faults h.2) i)
names_refused options xs (settle.Limit l) h =
    let n : ℕ = length (found_in options.entry xs).names in
    let many : limit_fault limit.Names (2 ^ 20) (name_count (resolve options xs)) ≡ Some (status.Limit l) =
    ap (limit_fault limit.Names (2 ^ 20)) (names_counted options xs) ∙ above limit.Names (2 ^ 20) n h.0 ∙ ap (λ (m : LimitFault). Some (status.Limit m)) (sym h.1) in
    ap (λ (o : Option Status). refusal_or o (fault_status (resolve_faults (resolve options xs)))) many
names_refused options xs settle.NoMemory h = tt

-- a refusal that comes first is the one that is reported
pub first_reported : (s : Status) (first later : Option Status) → IsRefusal first s → IsRefusal (refusal_or first later) s
first_reported (status.Done how) first later h = ap (λ (o : Option Status). refusal_or o later) h
first_reported (status.LinkError f) first later h = ap (λ (o : Option Status). refusal_or o later) h
first_reported (status.Usage u) first later h = ap (λ (o : Option Status). refusal_or o later) h
first_reported (status.ReadFault p) first later h = tt
first_reported status.DeviceFault first later h = ap (λ (o : Option Status). refusal_or o later) h
first_reported status.NoMemory first later h = tt
first_reported (status.Limit l) first later h = ap (λ (o : Option Status). refusal_or o later) h
first_reported (status.NotUpdated c) first later h = ap (λ (o : Option Status). refusal_or o later) h
first_reported (status.NotYet w) first later h = ap (λ (o : Option Status). refusal_or o later) h

-- and where there is none the next one is
pub later_reported : (s : Status) (first later : Option Status) → first ≡ None → IsRefusal later s → IsRefusal (refusal_or first later) s
later_reported s first later none h = subst (λ (o : Option Status). IsRefusal (refusal_or o later) s) (sym none) h

-- ---- places

limit_reported : (place : Placement) → placement_refusal place ≡ option_map (λ (l : LimitFault). status.Limit l) (layout_limit place)
limit_reported place = by (nat_lt 60000 (section_count place)) (nat_lt (2 ^ 31) (memory_of place)) (record { which = limit.Sections; number = section_count place }) (record { which = limit.Memory; number = memory_of place })
  where
    by : (a b : Bool) (x y : LimitFault) → refusal_or (if a then Some (status.Limit x) else None) (if b then Some (status.Limit y) else None)
        ≡ option_map (λ (l : LimitFault). status.Limit l) (if a then Some x else if b then Some y else None)
    by true b x y = refl
    by false true x y = refl
    by false false x y = refl

place_refused : (r : Resolved) (f : LayoutFault) → LayoutGives r (Err f) → IsRefusal (placement_refusal (full_place r)) (layout_status f)
place_refused r (layout.Limit l) h = limit_reported (full_place r) ∙ ap (option_map (λ (l : LimitFault). status.Limit l)) h
place_refused r layout.NoMemory h = tt

place_sound : (r : Resolved) (place : Placement) → LayoutGives r (Ok place) → placement_refusal (full_place r) ≡ None
place_sound r place h = λ i. refusal_or (below limit.Sections 60000 (section_count (full_place r)) h.0 i) (below limit.Memory (2 ^ 31) (memory_of (full_place r)) h.1 i)

scan_refused : (r : Resolved) (files : List InputFile) (f : ScanFailure) → InputsScanned r files (Err f) → IsRefusal (fault_status (scan_faults r)) (scan_status f)
scan_refused r files (scan.Faults faults) h = ap fault_status (sym h.1) ∙ some_faults faults h.0
scan_refused r files scan.NoMemory h = tt

-- ---- one after another

pub unresolved_reported : (options : OptionRecord) (xs : List Input) (f : SettleFault) (s : Status) → SettleGives (found_in options.entry xs) (Err f) → s ≡ settle_status f → InputsLaid (resolve options xs) (Err s)
unfolding layout_refusal
unresolved_reported options xs f s h e =
    let r : Resolved = resolve options xs in
    subst (λ (t : Status). InputsLaid r (Err t)) (sym e)
    (first_reported (settle_status f) (names_refusal r) (refusal_or (fault_status (scan_faults r)) (placement_refusal (full_place r))) (names_refused options xs f h))

pub unscanned_reported : (options : OptionRecord) (xs : List Input) (resolution : ResolutionValue) (files : List InputFile) (f : ScanFailure) (s : Status)
    → SettleGives (found_in options.entry xs) (Ok resolution) → InputsScanned (resolve options xs) files (Err f) → s ≡ scan_status f → InputsLaid (resolve options xs) (Err s)
unfolding layout_refusal
unscanned_reported options xs resolution files f s found h e =
    let r : Resolved = resolve options xs in
    subst (λ (t : Status). InputsLaid r (Err t)) (sym e)
    (later_reported (scan_status f) (names_refusal r) (refusal_or (fault_status (scan_faults r)) (placement_refusal (full_place r))) (names_sound options xs resolution found)
    (first_reported (scan_status f) (fault_status (scan_faults r)) (placement_refusal (full_place r)) (scan_refused r files f h)))

pub unlaid_reported : (options : OptionRecord) (xs : List Input) (resolution : ResolutionValue) (files : List InputFile) (scanned : ScannedInputs) (f : LayoutFault) (s : Status)
    → SettleGives (found_in options.entry xs) (Ok resolution) → InputsScanned (resolve options xs) files (Ok scanned) → LayoutGives (resolve options xs) (Err f) → s ≡ layout_status f → InputsLaid (resolve options xs) (Err s)
unfolding layout_refusal
unlaid_reported options xs resolution files scanned f s found reported h e =
    let r : Resolved = resolve options xs in
    subst (λ (t : Status). InputsLaid r (Err t)) (sym e)
    (later_reported (layout_status f) (names_refusal r) (refusal_or (fault_status (scan_faults r)) (placement_refusal (full_place r))) (names_sound options xs resolution found)
    (later_reported (layout_status f) (fault_status (scan_faults r)) (placement_refusal (full_place r)) (ap fault_status reported.0) (place_refused r f h)))

pub laid_reported : (options : OptionRecord) (xs : List Input) (resolution : ResolutionValue) (files : List InputFile) (s : ScannedInputs) (place : Placement)
    → SettleGives (found_in options.entry xs) (Ok resolution) → InputsScanned (resolve options xs) files (Ok s) → LayoutGives (resolve options xs) (Ok place) → InputsLaid (resolve options xs) (Ok place)
unfolding layout_refusal
laid_reported options xs resolution files s place found scanned h = (
  (λ i. refusal_or (names_sound options xs resolution found i) (refusal_or (ap fault_status scanned.0 i) (place_sound (resolve options xs) place h i))),
  h.2,
)

-- the resolution, summaries and needs of a link are those of its inputs
pub inputs_given : (options : OptionRecord) (xs : List Input) (resolution : ResolutionValue) (files : List InputFile) (summaries : List InputSummary) (s : ScannedInputs)
    → summaries ≡ map input_summary xs → SettleGives (found_in options.entry xs) (Ok resolution) → InputsScanned (resolve options xs) files (Ok s) → IsGiven resolution summaries s.needs options xs
inputs_given options xs resolution files summaries s are found scanned = record { summarized = sym are; found = found.2; needed = sym scanned.1 }
