-- The answer of a link through the whole order of work and of refusals (this project's own): the words,
-- the earlier image, the inputs, resolution, the references, the placement. Failures of the outside and
-- out of memory are no part of it.
use Rattle.std.specs.Prelude.{ℕ, ◌^◌, not, Bool, true, false, List, [], ◌++◌, length, map, filter, filter_map, Option, Some, None, option_map, Result, Ok, Err, slice_get}
use Rattle.std.specs.List.{range_with_len, sum_by}
use Rattle.lk_report.specs.FileMap.{FileMap, FileRow}
use Rattle.lk_report.specs.declared.causes.Cause.{Cause}
use Rattle.lk_report.specs.declared.statuses.LimitKind.TheVariants as limit
use Rattle.lk_report.specs.declared.statuses.Outcome.TheVariants as outcome
use Rattle.lk_report.specs.declared.statuses.Status.{Status}
use Rattle.lk_report.specs.declared.statuses.Status.TheVariants as status
use Rattle.lk_model.specs.Answers.{limit_fault, fault_status, length_with, placement_limit_with, size_limit, is_full}
use Rattle.lk_model.specs.Bases.{base_of}
use Rattle.lk_model.specs.Causes.{planned, update_overflow}
use Rattle.lk_model.specs.Changes.{changed_of, redone_of}
use Rattle.lk_model.specs.FullPlace.{full_place}
use Rattle.lk_model.specs.Grammar.{grammar}
use Rattle.lk_model.specs.Inputs.{inputs_of, input_faults_of, missing_of, input_words}
use Rattle.lk_model.specs.Numbered.{is_number_in}
use Rattle.lk_model.specs.Overflows.{overflow_faults}
use Rattle.lk_model.specs.ResolveFaults.{resolve_faults, name_count}
use Rattle.lk_model.specs.Resolving.{resolve}
use Rattle.lk_model.specs.ScanFaults.{scan_faults, reference_count}
use Rattle.lk_model.specs.UpdateInputs.{update_inputs, update_resolved, update_scan_faults}
use Rattle.lk_model.specs.Views.{Input, Resolved}
use Rattle.lk_model.specs.WholeTail.{whole_parts}
use Rattle.lk_model.specs.declared.commands.Command.{Command}
use Rattle.lk_model.specs.declared.commands.Mode.{Mode}
use Rattle.lk_model.specs.declared.commands.Mode.TheVariants as mode
use Rattle.lk_model.specs.declared.layouts.Placement.{Placement}
use Rattle.lk_model.specs.declared.records.Records.{Records}

-- ---- full links

-- the limits of a placement of an image with its whole tail
abbrev pub whole_limit : Resolved → Placement → Option Status
whole_limit r place = placement_limit_with (length_with place (whole_parts r place)) r place

-- the answer at a placement where everything was placed anew; it carries the cause why an update gave
-- way, where there was one
abbrev pub anew_answer : Option Cause → Resolved → Placement → Status
anew_answer cause r place =
    elim (whole_limit r place) [
      | Some s ↦ s
      | None ↦ elim (fault_status (overflow_faults r place)) [ Some s ↦ s | None ↦ status.Done (outcome.Full cause) ]
    ]

-- the answer from the references on
abbrev pub scanned_answer : Option Cause → Resolved → Status
scanned_answer cause r =
    elim (fault_status (scan_faults r)) [
      | Some s ↦ s
      | None ↦
          elim (limit_fault limit.References (2 ^ 22) (reference_count r)) [ Some s ↦ s | None ↦ anew_answer cause r (full_place r) ]
    ]

-- what resolution refuses
abbrev pub resolve_refusal : Resolved → Option Status
resolve_refusal r =
    elim (limit_fault limit.Names (2 ^ 20) (name_count r)) [ Some s ↦ Some s | None ↦ fault_status (resolve_faults r) ]

-- what reading these inputs refuses, where so many bytes were read before
abbrev pub reading_refusal : ℕ → List Input → Option Status
reading_refusal before inputs = elim (size_limit before inputs) [ Some s ↦ Some s | None ↦ fault_status (input_faults_of inputs) ]

-- the inputs of these numbers, in order of the numbers
abbrev pub inputs_at : List ℕ → List Input → List Input
inputs_at numbers inputs = filter_map (slice_get inputs) numbers

-- the numbers of the inputs that are not among these
abbrev pub others : List ℕ → List Input → List ℕ
others numbers inputs = filter (λ (n : ℕ). not (is_number_in numbers n)) (range_with_len 0 (length inputs))

-- how many bytes these inputs have
abbrev pub bytes_read : List Input → ℕ
bytes_read inputs = sum_by (λ (x : Input). length x.elf.bytes) inputs

-- the answer of a full link of inputs of which these are still to be read, where so many bytes were read
-- before: what is read is counted over the whole call
abbrev pub full_answer_of : Option Cause → ℕ → List Input → Command → List Input → Status
full_answer_of cause before unread command inputs =
    elim (reading_refusal before unread) [
      | Some s ↦ s
      | None ↦
          let r = resolve command.options inputs in
          elim (resolve_refusal r) [ Some s ↦ s | None ↦ scanned_answer cause r ]
    ]

-- the answer of a full link, with the cause why there is no update, where there is one
unfoldable pub full_answer : Option Cause → Command → FileMap → Status
full_answer cause command files = let inputs = inputs_of command files in full_answer_of cause 0 inputs command inputs

-- the answer of a full link after the inputs of these numbers were read for an update
abbrev pub full_answer_with : Cause → List ℕ → Command → List Input → Status
full_answer_with cause read command inputs =
    full_answer_of (Some cause) (bytes_read (inputs_at read inputs)) (inputs_at (others read inputs) inputs) command inputs

unfoldable pub full_answer_after : Cause → List ℕ → Command → FileMap → Status
full_answer_after cause read command files = full_answer_with cause read command (inputs_of command files)

-- ---- updates

-- a command that asks for an update, or for nothing
abbrev pub is_update : Mode → Bool
is_update mode.Update = true
is_update mode.Full = false
is_update mode.Either = false

-- the answer where an update cannot be made, after these inputs were read
abbrev pub gives_way : Cause → List ℕ → Command → FileMap → Status
gives_way cause read command files = elim (is_update command.mode) [
  | true ↦ status.NotUpdated cause
  | false ↦ full_answer_after cause read command files
]

-- the answer at the placement of an update
abbrev pub updated_answer : List ℕ → Command → FileMap → Resolved → Placement → Status
updated_answer redone command files r place =
    elim (whole_limit r place) [
      | Some s ↦ s
      | None ↦ elim (update_overflow r place) [
        | Some cause ↦ gives_way cause redone command files
        | None ↦ status.Done outcome.Updated
      ]
    ]

-- the answer of an update from the references on, where these inputs are redone and read
abbrev pub update_scanned : Records → List ℕ → Command → FileMap → Resolved → Status
update_scanned base redone command files r =
    elim (fault_status (update_scan_faults base redone r)) [
      | Some s ↦ s
      | None ↦ elim (limit_fault limit.References (2 ^ 22) (reference_count r)) [
        | Some s ↦ s
        | None ↦ elim (planned base redone r) [
          | Err cause ↦ gives_way cause redone command files
          | Ok place ↦ updated_answer redone command files r place
        ]
      ]
    ]

-- the answer of an update from resolution on, where these inputs changed and are read; the other redone
-- ones are read after it
abbrev pub update_resolved_answer : Records → List ℕ → Command → FileMap → List Input → Resolved → Status
update_resolved_answer base changed command files read r =
    elim (resolve_refusal r) [
      | Some s ↦ s
      | None ↦
          let redone = redone_of base r in
          let fresh = filter (λ (n : ℕ). not (is_number_in changed n)) redone in
          let inputs = update_inputs base redone command files in
          elim (reading_refusal (bytes_read read) (inputs_at fresh inputs)) [
            | Some s ↦ s
            | None ↦ update_scanned base redone command files (update_resolved base redone command.options inputs)
          ]
    ]

-- the answer of an update of an earlier image with these records, where no input is missing
unfoldable pub update_answer : Records → Command → FileMap → Status
update_answer base command files =
    let changed = changed_of base (update_inputs base [] command files) in
    let inputs = update_inputs base changed command files in
    let read = inputs_at changed inputs in
    elim (reading_refusal 0 read) [
      | Some s ↦ s
      | None ↦ update_resolved_answer base changed command files read (update_resolved base changed command.options inputs)
    ]

-- the paths that an update of an earlier image with these records reads, in the order in which it reads
-- them: the changed inputs, then the other redone ones, each in command order
unfoldable pub reads_of : Records → Command → FileMap → List (List ℕ)
reads_of base command files =
    let seen = update_inputs base [] command files in
    let changed = changed_of base seen in
    let redone = redone_of base (update_resolved base changed command.options (update_inputs base changed command files)) in
    map (λ (x : Input). x.path) (inputs_at (changed ++ filter (λ (n : ℕ). not (is_number_in changed n)) redone) seen)

-- ---- the whole

-- the bytes of the earlier image: those of a named file, or of the output
abbrev pub base_bytes : Command → FileMap → Option (List ℕ) → Option (List ℕ)
base_bytes command files out = elim command.base [
  | None ↦ out
  | Some path ↦ option_map (λ (row : FileRow). row.bytes) (files path)
]

-- an answer that missing inputs come before
abbrev pub unless_missing : Command → FileMap → (Command → FileMap → Status) → Status
unless_missing command files answer_then = elim (fault_status (missing_of command files)) [ Some s ↦ s | None ↦ answer_then command files ]

-- the answer where the earlier image is this or is refused for this cause
abbrev pub based_answer : Command → FileMap → Result Records Cause → Status
based_answer command files (Ok base) = unless_missing command files (update_answer base)
based_answer command files (Err cause) = elim (is_update command.mode) [
  | true ↦ status.NotUpdated cause
  | false ↦ unless_missing command files (full_answer (Some cause))
]

-- the answer of a command, where `base_of` reads an earlier image
abbrev pub answer_of_command : (Option (List ℕ) → Result Records Cause) → Command → FileMap → Option (List ℕ) → Status
answer_of_command base_of command files out = elim (limit_fault limit.Inputs 4096 (length (input_words command))) [
  | Some s ↦ s
  | None ↦ elim (is_full command.mode) [
    | true ↦ unless_missing command files (full_answer None)
    | false ↦ based_answer command files (base_of (base_bytes command files out))
  ]
]

-- the answer, where this reads an earlier image
unfoldable pub answer_by : (Option (List ℕ) → Result Records Cause) → List (List ℕ) → FileMap → Option (List ℕ) → Status
answer_by base_of words files out = elim (grammar words) [ Err u ↦ status.Usage u | Ok command ↦ answer_of_command base_of command files out ]

-- the answer of words, files and what the output's file holds, where there is one
unfoldable pub answer : List (List ℕ) → FileMap → Option (List ℕ) → Status
answer words files out = answer_by base_of words files out
