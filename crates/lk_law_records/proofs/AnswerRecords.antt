-- Where the answer of the words of a static link is a full link, no limit is exceeded and no input has a
-- fault; so its placement is recorded.
use Rattle.std.specs.Prelude.{◌≡◌, refl, ℕ, ◌+◌, ◌^◌, ◌≤◌, Bool, true, false, if◌then◌else◌, List, [], ◌∷◌, find, length, nat_lt, Option, Some, None, option_map, Result, Ok, Err}
use Rattle.std.specs.List.{AllByRecursion, cons_option}
use Rattle.std.proofs.Common.{arith, sym, ap, ◌∙◌}
use Rattle.lk_report.specs.FileMap.{FileMap}
use Rattle.lk_report.specs.declared.faults.Fault.{Fault}
use Rattle.lk_report.specs.declared.faults.Fault.TheVariants as fault
use Rattle.lk_report.specs.declared.faults.InputFault.{InputFault}
use Rattle.lk_report.specs.declared.faults.UsageFault.{UsageFault}
use Rattle.lk_report.specs.declared.statuses.LimitKind.{LimitKind}
use Rattle.lk_report.specs.declared.statuses.LimitKind.TheVariants as limit
use Rattle.lk_report.specs.declared.statuses.Status.{Status}
use Rattle.lk_report.specs.declared.statuses.Status.TheVariants as status
use Rattle.lk_report.specs.declared.statuses.Waiting.TheVariants as waiting
use Rattle.lk_model.specs.Answers.{command_answer, fault_status, first_path, full_link, image_length, input_faults, is_shared, limit_fault, needs_nothing, needs_wait, placed_answer, placement_limit, resolved_answer, shared_waits, size_limit, static_answer, waits_words, words_wait}
use Rattle.lk_model.specs.FileHeader.{exec_stack_of}
use Rattle.lk_model.specs.FullPlace.{full_place, memory_of, section_count}
use Rattle.lk_model.specs.Grammar.{grammar}
use Rattle.lk_model.specs.Inputs.{input_words, inputs_of, missing_of}
use Rattle.lk_model.specs.Links.{resolved_of}
use Rattle.lk_model.specs.ObjectChecks.{object_fault}
use Rattle.lk_model.specs.ResolveFaults.{name_count, resolve_faults}
use Rattle.lk_model.specs.ScanFaults.{scan_faults}
use Rattle.lk_model.specs.Segments.{program_headers}
use Rattle.lk_model.specs.Views.{Input, Resolved}
use Rattle.lk_model.specs.declared.commands.Command.{Command}
use Rattle.lk_law_records.specs.CommandFits.{IsSound}
use Rattle.lk_law_records.specs.RecordedLaws.{FullLinksAreRecorded}
use Rattle.lk_law_records.proofs.CommandInputs.{inputs-of-commands-fit}
use Rattle.lk_law_records.proofs.CommandItems.{commands-fit}
use Rattle.lk_law_records.proofs.Limits.{limit-reports, limits-make-recordable}
use Rattle.lk_law_records.proofs.Lists.{first-none}
use Rattle.lk_law_records.proofs.Recorded.{full-place-recorded}

-- ---- answers that are no full link

abbrev NotDone : Option Status → Type 0
NotDone None = Unit {0}
NotDone (Some s) = s ≡ full_link → ⊥

passed : (o : Option Status) (rest : Status) → NotDone o → elim o as (λ _. Status) [ Some s ↦ s | None ↦ rest ] ≡ full_link → (o ≡ None) × (rest ≡ full_link)
passed None rest not_done done = (refl, done)
passed (Some s) rest not_done done = absurd (not_done done)

limit-not : (which : LimitKind) (most number : ℕ) → NotDone (limit_fault which most number)
limit-not which most number = go (nat_lt most number)
  where
    go : (b : Bool) → NotDone (if b then Some (status.Limit (record { which = which; number = number })) else None)
    go true = λ e. absurd (cc)
    go false = tt

fault-not : (fs : List Fault) → NotDone (fault_status fs)
fault-not [] = tt
fault-not (f ∷ fs) = λ e. absurd (cc)

words-not : (c : Command) → NotDone (words_wait c)
words-not c = go (waits_words c)
  where
    go : (b : Bool) → NotDone (if b then Some (status.NotYet waiting.Words) else None)
    go true = λ e. absurd (cc)
    go false = tt

shared-not : (inputs : List Input) → NotDone (shared_waits inputs)
shared-not inputs = go (find is_shared inputs)
  where
    go : (o : Option Input) → NotDone (option_map (λ (i : Input). status.NotYet (waiting.Form i.path)) o)
    go None = tt
    go (Some i) = λ e. absurd (cc)

needs-not : (r : Resolved) → NotDone (needs_wait r)
needs-not r = go (needs_nothing r.needs)
  where
    go : (b : Bool) → NotDone (if b then None else Some (status.NotYet (waiting.Form (first_path r.inputs))))
    go true = tt
    go false = λ e. absurd (cc)

first-not : (first second : Option Status) → NotDone first → NotDone second → NotDone (elim first as (λ _. Option Status) [ Some s ↦ Some s | None ↦ second ])
first-not None second a b = b
first-not (Some s) second a b = a

size-not : (before : ℕ) (inputs : List Input) → NotDone (size_limit before inputs)
size-not before [] = tt
size-not before (i ∷ inputs) =
    let n = length i.elf.bytes in
    first-not (limit_fault limit.InputSize (2 ^ 26) n)
    (elim (limit_fault limit.InputTotal (2 ^ 30) (before + n)) as (λ _. Option Status) [ Some s ↦ Some s | None ↦ size_limit (before + n) inputs ])
    (limit-not limit.InputSize (2 ^ 26) n)
    (first-not (limit_fault limit.InputTotal (2 ^ 30) (before + n)) (size_limit (before + n) inputs) (limit-not limit.InputTotal (2 ^ 30) (before + n)) (size-not (before + n) inputs))

placement-not : (r : Resolved) → NotDone (placement_limit r (full_place r))
placement-not r =
    let place = full_place r in
    let image = limit_fault limit.Image (2 ^ 29) (image_length r place) in
    let headers = limit_fault limit.Headers 64 (length (program_headers place (exec_stack_of r))) in
    let memory = limit_fault limit.Memory (2 ^ 31) (memory_of place) in
    let later : Option Status = elim headers [ Some s ↦ Some s | None ↦ image ] in
    let more : Option Status = elim memory [ Some s ↦ Some s | None ↦ later ] in
    first-not (limit_fault limit.Sections 60000 (section_count place)) more (limit-not limit.Sections 60000 (section_count place))
    (first-not memory later (limit-not limit.Memory (2 ^ 31) (memory_of place))
    (first-not headers image (limit-not limit.Headers 64 (length (program_headers place (exec_stack_of r)))) (limit-not limit.Image (2 ^ 29) (image_length r place))))

-- ---- what follows of a full link

placed-reports : (r : Resolved) → placed_answer r (full_place r) ≡ full_link → placement_limit r (full_place r) ≡ None
placed-reports r done = (passed (placement_limit r (full_place r)) _ (placement-not r) done).0

resolved-reports : (r : Resolved) → resolved_answer r ≡ full_link → placement_limit r (full_place r) ≡ None
resolved-reports r done =
    let names = passed (limit_fault limit.Names (2 ^ 20) (name_count r)) _ (limit-not limit.Names (2 ^ 20) (name_count r)) done in
    let resolved = passed (fault_status (resolve_faults r)) _ (fault-not (resolve_faults r)) names.1 in
    let scanned = passed (fault_status (scan_faults r)) _ (fault-not (scan_faults r)) resolved.1 in
    let needs = passed (needs_wait r) _ (needs-not r) scanned.1 in
    placed-reports r needs.1

record AnswerFits (c : Command) (files : FileMap) : Type 0 where
  sizes : size_limit 0 (inputs_of c files) ≡ None
  faults : fault_status (input_faults (inputs_of c files)) ≡ None
  limits : placement_limit (resolved_of c files) (full_place (resolved_of c files)) ≡ None

command-reports : (c : Command) (files : FileMap) → command_answer c files ≡ full_link → AnswerFits c files
unfolding command_answer
command-reports c files done =
    let inputs = inputs_of c files in
    let words = passed (words_wait c) _ (words-not c) done in
    let count = passed (limit_fault limit.Inputs 4096 (length (input_words c))) _ (limit-not limit.Inputs 4096 (length (input_words c))) words.1 in
    let missing = passed (fault_status (missing_of c files)) _ (fault-not (missing_of c files)) count.1 in
    let sizes = passed (size_limit 0 inputs) _ (size-not 0 inputs) missing.1 in
    let shared = passed (shared_waits inputs) _ (shared-not inputs) sizes.1 in
    let faults = passed (fault_status (input_faults inputs)) _ (fault-not (input_faults inputs)) shared.1 in
    record { sizes = sizes.0; faults = faults.0; limits = resolved-reports (resolved_of c files) faults.1 }

answer-reports : (words : List (List ℕ)) (files : FileMap) (c : Command) → grammar words ≡ Ok c → static_answer words files ≡ full_link → command_answer c files ≡ full_link
unfolding static_answer
answer-reports words files c accepted done =
    let answer : Result Command UsageFault → Status = λ o. elim o [ Err u ↦ status.Usage u | Ok d ↦ command_answer d files ] in
    sym (ap answer accepted) ∙ done

-- ---- the inputs

no-faults : (fs : List Fault) → fault_status fs ≡ None → fs ≡ []
no-faults [] none = refl
no-faults (f ∷ fs) none = absurd (cc)

each-sound : (inputs : List Input) → input_faults inputs ≡ [] → AllByRecursion (λ (i : Input). object_fault i.elf.bytes ≡ None) inputs
each-sound [] none = tt
each-sound (i ∷ inputs) none = go (object_fault i.elf.bytes) refl none (each-sound inputs)
  where
    go : (o : Option InputFault) → object_fault i.elf.bytes ≡ o
        → cons_option (option_map (λ f. fault.Input i.path f) o) (input_faults inputs) ≡ []
        → (input_faults inputs ≡ [] → AllByRecursion (λ (x : Input). object_fault x.elf.bytes ≡ None) inputs)
        → (object_fault i.elf.bytes ≡ None) × AllByRecursion (λ (x : Input). object_fault x.elf.bytes ≡ None) inputs
    go None e h later = (e, later h)
    go (Some f) e h later = absurd (cc)

each-short : (before : ℕ) (inputs : List Input) → size_limit before inputs ≡ None → AllByRecursion (λ (i : Input). length i.elf.bytes ≤ 2 ^ 26) inputs
each-short before [] none = tt
each-short before (i ∷ inputs) none =
    let n = length i.elf.bytes in
    let total = limit_fault limit.InputTotal (2 ^ 30) (before + n) in
    let later : Option Status = elim total [ Some s ↦ Some s | None ↦ size_limit (before + n) inputs ] in
    let own = first-none (limit_fault limit.InputSize (2 ^ 26) n) later none in
    let more = first-none total (size_limit (before + n) inputs) own.1 in
    (limit-reports limit.InputSize (2 ^ 26) n own.0, each-short (before + n) inputs more.1)

sound-inputs : (inputs : List Input) → AllByRecursion (λ (i : Input). object_fault i.elf.bytes ≡ None) inputs → AllByRecursion (λ (i : Input). length i.elf.bytes ≤ 2 ^ 26) inputs → AllByRecursion IsSound inputs
sound-inputs [] faults sizes = tt
sound-inputs (i ∷ inputs) (none, more) (short, others) = (record { size = omega (arith, short); fault = λ e. none }, sound-inputs inputs more others)

-- ---- the whole

pub full-links-are-recorded : FullLinksAreRecorded
unfolding resolved_of
full-links-are-recorded words files c image accepted few fit done lawful laid =
    let inputs = inputs_of c files in
    let reported = command-reports c files (answer-reports words files c accepted done) in
    let sound = sound-inputs inputs (each-sound inputs (no-faults (input_faults inputs) reported.faults)) (each-short 0 inputs reported.sizes) in
    let fits = inputs-of-commands-fit c files (commands-fit words c accepted few) fit sound in
    full-place-recorded c.options inputs image (limits-make-recordable c.options inputs fits lawful reported.limits) laid
