-- The refusals of these passes are lk_model's answer of a static link.
use Rattle.std.proofs.Common.{◌≡◌, ◌<◌, ◌≤◌, ◌^◌, refl, sym, ap, ◌∙◌, arith, ℕ, List, [], ◌∷◌, length, Option, Some, None}
use Rattle.lk_report.specs.FileMap.{FileMap}
use Rattle.lk_report.specs.declared.faults.Fault.{Fault}
use Rattle.lk_report.specs.declared.statuses.LimitFault.{LimitFault}
use Rattle.lk_report.specs.declared.statuses.LimitKind.TheVariants as limit
use Rattle.lk_report.specs.declared.statuses.Status.{Status}
use Rattle.lk_report.specs.declared.statuses.Status.TheVariants as status
use Rattle.lk_report.specs.declared.causes.OptionRecord.{OptionRecord}
use Rattle.lk_model.specs.declared.commands.Command.{Command}
use Rattle.lk_model.specs.Answers.{command_answer, fault_status, input_faults, limit_fault, resolved_answer, shared_waits, size_limit, words_wait}
use Rattle.lk_model.specs.Inputs.{inputs_of, missing_of}
use Rattle.lk_model.specs.Finding.{found_of}
use Rattle.lk_model.specs.Links.{resolved_of}
use Rattle.lk_model.specs.ResolveFaults.{faults_of, name_count, resolve_faults}
use Rattle.lk_model.specs.Resolving.{resolve}
use Rattle.lk_model.specs.Views.{Input, Resolved}
use Rattle.lk_model.proofs.LimitsExceeded.{above, below}
use Rattle.lk_model.proofs.Finding.{found_in-resolve}
use Rattle.lk_resolve.specs.Given.{found_in}
use Rattle.lk_resolve.specs.Settling.{most_names}
use Rattle.lk_inputs.specs.AnswerLaws.{FaultsAreTheModels, LimitIsTheModels, RefusalsAreTheModels, ResolutionGoesOn, answer_unless, scanned_answer}
use Rattle.lk_inputs.specs.LookUps.{inputs_limit}
use Rattle.lk_inputs.specs.Refusals.{files_refusal, inputs_refusal}

-- one refusal after another
or_later : Option Status → Option Status → Option Status
or_later first second = elim first [ Some s ↦ Some s | None ↦ second ]

unless_both : (first second : Option Status) (later : Status) → answer_unless (or_later first second) later ≡ answer_unless first (answer_unless second later)
unfolding or_later
unless_both None second later = refl
unless_both (Some s) second later = refl

refusal_of_files : (xs : List Input) (later : Status) → answer_unless (files_refusal xs) later ≡ answer_unless (size_limit 0 xs) (answer_unless (shared_waits xs) (answer_unless (fault_status (input_faults xs)) later))
unfolding files_refusal or_later
refusal_of_files xs later =
    unless_both (size_limit 0 xs) (or_later (shared_waits xs) (fault_status (input_faults xs))) later
    ∙ ap (answer_unless (size_limit 0 xs)) (unless_both (shared_waits xs) (fault_status (input_faults xs)) later)

pub refusals_reported : RefusalsAreTheModels
unfolding command_answer inputs_refusal or_later
refusals_reported command there =
    let later : Status = resolved_answer (resolved_of command there) in
    let inputs : answer_unless (inputs_refusal command there) later ≡ answer_unless (fault_status (missing_of command there)) (answer_unless (size_limit 0 (inputs_of command there)) (answer_unless (shared_waits (inputs_of command there)) (answer_unless (fault_status (input_faults (inputs_of command there))) later))) =
    unless_both (fault_status (missing_of command there)) (files_refusal (inputs_of command there)) later
    ∙ ap (answer_unless (fault_status (missing_of command there))) (refusal_of_files (inputs_of command there) later) in
    ap (λ s. answer_unless (words_wait command) (answer_unless (inputs_limit command) s)) (sym inputs)

-- ---- what the names say

pub names_counted : (options : OptionRecord) (xs : List Input) → name_count (resolve options xs) ≡ length (found_in options.entry xs).names
unfolding resolve found_of
names_counted options xs = refl

pub faults_reported_of : (options : OptionRecord) (xs : List Input) → resolve_faults (resolve options xs) ≡ faults_of (found_in options.entry xs)
unfolding resolve_faults
faults_reported_of options xs = ap faults_of (found_in-resolve options xs)

pub some_faults : (faults : List Fault) → 0 < length faults → fault_status faults ≡ Some (status.LinkError faults)
some_faults [] h = absurd (omega arith)
some_faults (f ∷ fs) h = refl

answer_in : (r : Resolved) → resolved_answer r ≡ answer_unless (limit_fault limit.Names (2 ^ 20) (name_count r)) (answer_unless (fault_status (resolve_faults r)) (scanned_answer r))
answer_in r = refl

answer_by : (r : Resolved) (too_many faults : Option Status) → limit_fault limit.Names (2 ^ 20) (name_count r) ≡ too_many → fault_status (resolve_faults r) ≡ faults → resolved_answer r ≡ answer_unless too_many (answer_unless faults (scanned_answer r))
answer_by r too_many faults many reported = answer_in r ∙ (λ i. answer_unless (many i) (answer_unless (reported i) (scanned_answer r)))

few_names : (command : Command) (there : FileMap) → length (found_in command.options.entry (inputs_of command there)).names ≤ most_names → limit_fault limit.Names (2 ^ 20) (name_count (resolved_of command there)) ≡ None
unfolding resolved_of
few_names command there few =
    ap (limit_fault limit.Names (2 ^ 20)) (names_counted command.options (inputs_of command there)) ∙ below limit.Names (2 ^ 20) (length (found_in command.options.entry (inputs_of command there)).names) few

faults_in_found : (command : Command) (there : FileMap) → resolve_faults (resolved_of command there) ≡ faults_of (found_in command.options.entry (inputs_of command there))
unfolding resolved_of
faults_in_found command there = faults_reported_of command.options (inputs_of command there)

pub faults_reported : FaultsAreTheModels
faults_reported command there faults h =
    answer_by (resolved_of command there) None (Some (status.LinkError faults)) (few_names command there h.0)
    (ap fault_status (faults_in_found command there ∙ sym h.1) ∙ some_faults faults h.2)

pub limit_reported : LimitIsTheModels
unfolding resolved_of
limit_reported command there l h =
    let n : ℕ = length (found_in command.options.entry (inputs_of command there)).names in
    answer_by (resolved_of command there) (Some (status.Limit l)) (fault_status (resolve_faults (resolved_of command there)))
    (ap (limit_fault limit.Names (2 ^ 20)) (names_counted command.options (inputs_of command there)) ∙ above limit.Names (2 ^ 20) n h.0 ∙ ap (λ (m : LimitFault). Some (status.Limit m)) (sym h.1)) refl

pub goes_on : ResolutionGoesOn
goes_on command there resolution h =
    answer_by (resolved_of command there) None None (few_names command there h.0) (ap fault_status (faults_in_found command there ∙ h.1))
