-- The answer of a link: the first refusal in the order of the work, or that it is done (this
-- project's own), of static links.
-- Failures of the outside and out of memory are no part of it.
use Rattle.std.specs.Prelude.{ℕ, ◌+◌, ◌==◌, ◌^◌, ◌*◌, Bool, true, false, List, [], ◌∷◌, length, filter_map, find, Option, Some, None, Result, Ok, Err, nat_lt, not, ◌&&◌, ◌||◌, if◌then◌else◌, option_map}
use Rattle.std.specs.List.{list_any, filter_map, flat_map}
use Rattle.lk_report.specs.FileMap.{FileMap}
use Rattle.lk_report.specs.declared.faults.Fault.{Fault}
use Rattle.lk_report.specs.declared.faults.Fault.TheVariants as fault
use Rattle.lk_report.specs.declared.faults.InputFault.{InputFault}
use Rattle.lk_report.specs.declared.statuses.LimitKind.{LimitKind}
use Rattle.lk_report.specs.declared.statuses.LimitKind.TheVariants as limit
use Rattle.lk_report.specs.declared.statuses.Outcome.TheVariants as outcome
use Rattle.lk_report.specs.declared.statuses.Status.{Status}
use Rattle.lk_report.specs.declared.statuses.Status.TheVariants as status
use Rattle.lk_report.specs.declared.statuses.Waiting.TheVariants as waiting
use Rattle.lk_model.specs.FileHeader.{exec_stack_of}
use Rattle.lk_model.specs.FullPlace.{full_place, memory_of, section_count}
use Rattle.lk_model.specs.Grammar.{grammar}
use Rattle.lk_model.specs.Inputs.{inputs_of, missing_of, input_words}
use Rattle.lk_model.specs.Kinds.{kind_of}
use Rattle.lk_model.specs.Links.{resolved_of}
use Rattle.lk_model.specs.ObjectChecks.{object_fault}
use Rattle.lk_model.specs.Overflows.{overflow_faults}
use Rattle.lk_model.specs.ResolveFaults.{resolve_faults, name_count}
use Rattle.lk_model.specs.ScanFaults.{scan_faults}
use Rattle.lk_model.specs.Segments.{program_headers}
use Rattle.lk_model.specs.Tail.{Part, tail_parts, headers_offset}
use Rattle.lk_model.specs.Views.{Resolved, Input}
use Rattle.lk_model.specs.declared.commands.Command.{Command}
use Rattle.lk_model.specs.declared.commands.Item.{Item}
use Rattle.lk_model.specs.declared.commands.Item.TheVariants as item
use Rattle.lk_model.specs.declared.commands.Mode.{Mode}
use Rattle.lk_model.specs.declared.commands.Mode.TheVariants as mode
use Rattle.lk_model.specs.declared.commands.Word.{Word}
use Rattle.lk_model.specs.declared.layouts.Needs.{Needs}
use Rattle.lk_model.specs.declared.layouts.Placement.{Placement}
use Rattle.lk_model.specs.declared.summaries.Kind.{Kind}
use Rattle.lk_model.specs.declared.summaries.Kind.TheVariants as kind

-- a link that succeeded, everything placed anew
abbrev pub full_link : Status
full_link = status.Done (outcome.Full None)

-- a limit that a number exceeds
abbrev pub limit_fault : LimitKind → ℕ → ℕ → Option Status
limit_fault which most number = if nat_lt most number then Some (status.Limit (record { which = which; number = number })) else None

-- faults that were found
abbrev pub fault_status : List Fault → Option Status
fault_status [] = None
fault_status (f ∷ fs) = Some (status.LinkError (f ∷ fs))

-- the length of an image whose tail has these parts: it ends with the section headers
abbrev pub length_with : Placement → List Part → ℕ
length_with place parts = headers_offset place parts + 64 * (length place.sections + length parts + 1)

abbrev pub image_length : Resolved → Placement → ℕ
image_length r place = length_with place (tail_parts r place)

-- the limits of a placement whose image is so long, in their order: output sections, memory, program
-- headers, the image
abbrev pub placement_limit_with : ℕ → Resolved → Placement → Option Status
placement_limit_with image_bytes r place =
    elim (limit_fault limit.Sections 60000 (section_count place)) [
      | Some s ↦ Some s
      | None ↦
          elim (limit_fault limit.Memory (2 ^ 31) (memory_of place)) [
            | Some s ↦ Some s
            | None ↦
                elim (limit_fault limit.Headers 64 (length (program_headers place (exec_stack_of r)))) [
                  | Some s ↦ Some s
                  | None ↦
                      limit_fault limit.Image (2 ^ 29) image_bytes
                ]
          ]
    ]

abbrev pub placement_limit : Resolved → Placement → Option Status
placement_limit r place = placement_limit_with (image_length r place) r place

-- the answer of a link whose inputs have no fault: names, resolution, scan, then the placement
abbrev pub placed_answer : Resolved → Placement → Status
placed_answer r place =
    elim (placement_limit r place) [
      | Some s ↦ s
      | None ↦
          elim (fault_status (overflow_faults r place)) [ Some s ↦ s | None ↦ full_link ]
    ]

-- whether a link needs slots, PLT entries or copies
abbrev pub is_empty : {X : Type 0} → List X → Bool
is_empty [] = true
is_empty (x ∷ xs) = false

abbrev pub needs_nothing : Needs → Bool
needs_nothing n = is_empty n.got && is_empty n.plt && is_empty n.address && is_empty n.copies

abbrev pub first_path : List Input → List ℕ
first_path [] = []
first_path (i ∷ is) = i.path

abbrev pub needs_wait : Resolved → Option Status
needs_wait r = if needs_nothing r.needs then None else Some (status.NotYet (waiting.Form (first_path r.inputs)))

abbrev pub resolved_answer : Resolved → Status
resolved_answer r =
    elim (limit_fault limit.Names (2 ^ 20) (name_count r)) [
      | Some s ↦ s
      | None ↦
          elim (fault_status (resolve_faults r)) [
            | Some s ↦ s
            | None ↦
                elim (fault_status (scan_faults r)) [
                  | Some s ↦ s
                  | None ↦
                      elim (needs_wait r) [ Some s ↦ s | None ↦ placed_answer r (full_place r) ]
                ]
          ]
    ]

-- the limits on the sizes of inputs, as soon as one is exceeded in command order
abbrev pub size_limit : ℕ → List Input → Option Status
size_limit before [] = None
size_limit before (i ∷ is) =
    let n = length i.elf.bytes in
    elim (limit_fault limit.InputSize (2 ^ 26) n) [
      | Some s ↦ Some s
      | None ↦
          elim (limit_fault limit.InputTotal (2 ^ 30) (before + n)) [ Some s ↦ Some s | None ↦ size_limit (before + n) is ]
    ]

-- an input outside a lib group that is a shared object
abbrev pub is_shared_kind : Result Kind InputFault → Bool
is_shared_kind (Ok kind.Shared) = true
is_shared_kind (Ok kind.Object) = false
is_shared_kind (Err f) = false

abbrev pub is_shared : Input → Bool
is_shared i = if i.lib == 0 then is_shared_kind (kind_of i.elf.bytes) else false

abbrev pub shared_waits : List Input → Option Status
shared_waits inputs = option_map (λ (i : Input). status.NotYet (waiting.Form i.path)) (find is_shared inputs)

-- the faults of the inputs, in command order
abbrev pub input_fault_of : Input → Option Fault
input_fault_of i = option_map (λ f. fault.Input i.path f) (object_fault i.elf.bytes)

abbrev pub input_faults : List Input → List Fault
input_faults inputs = filter_map input_fault_of inputs

-- the words that wait in static links: a mode other than Full, a library
abbrev pub is_full : Mode → Bool
is_full mode.Full = true
is_full mode.Update = false
is_full mode.Either = false

abbrev pub words_in : Item → List Word
words_in (item.One w) = w ∷ []
words_in (item.Lib ws) = ws

abbrev pub is_library : Word → Bool
is_library w = w.library

abbrev pub waits_words : Command → Bool
waits_words c = not (is_full c.mode) || list_any is_library (flat_map words_in c.items)

abbrev pub words_wait : Command → Option Status
words_wait c = if waits_words c then Some (status.NotYet waiting.Words) else None

-- the answer of a command of a static link
unfoldable pub command_answer : Command → FileMap → Status
command_answer c files =
    elim (words_wait c) [
      | Some s ↦ s
      | None ↦
          elim (limit_fault limit.Inputs 4096 (length (input_words c))) [
            | Some s ↦ s
            | None ↦
                elim (fault_status (missing_of c files)) [
                  | Some s ↦ s
                  | None ↦
                      let inputs = inputs_of c files in
                      elim (size_limit 0 inputs) [
                        | Some s ↦ s
                        | None ↦
                            elim (shared_waits inputs) [
                              | Some s ↦ s
                              | None ↦
                                  elim (fault_status (input_faults inputs)) [ Some s ↦ s | None ↦ resolved_answer (resolved_of c files) ]
                            ]
                      ]
                ]
          ]
    ]

-- the answer of the words of a static link
unfoldable pub static_answer : List (List ℕ) → FileMap → Status
static_answer words files =
    elim (grammar words) [ Err u ↦ status.Usage u | Ok c ↦ command_answer c files ]

-- the command that words are, where they are accepted
abbrev pub accepted_command : List (List ℕ) → Option Command
accepted_command words = elim (grammar words) [ Err u ↦ None | Ok c ↦ Some c ]
