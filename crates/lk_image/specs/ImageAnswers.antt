-- This project's own: what is answered of the image of a link at a placement.
use Rattle.std.specs.Prelude.{◌≡◌, ◌≤◌, ℕ, ◌^◌, length, List, Option, Some, None, Result, Ok, Err}
use Rattle.lk_report.specs.declared.statuses.LimitKind.TheVariants as limit
use Rattle.lk_report.specs.declared.statuses.Status.{Status}
use Rattle.lk_report.specs.declared.statuses.Status.TheVariants as status
use Rattle.lk_model.specs.Answers.{fault_status, image_length, limit_fault}
use Rattle.lk_model.specs.FileHeader.{exec_stack_of, header_bytes}
use Rattle.lk_model.specs.Images.{stretches_of, stretches_with}
use Rattle.lk_model.specs.Overflows.{overflow_faults}
use Rattle.lk_model.specs.Segments.{program_headers}
use Rattle.lk_model.specs.Stretches.{IsLaidOut}
use Rattle.lk_model.specs.Tail.{Part}
use Rattle.lk_model.specs.Views.{Resolved}
use Rattle.lk_model.specs.declared.layouts.Placement.{Placement}
use Rattle.lk_headers.specs.Front.{up_to_seal}

-- the limit on program headers, and that on the length of an image
abbrev pub headers_limit : Resolved → Placement → Option Status
headers_limit r place = limit_fault limit.Headers 64 (length (program_headers place (exec_stack_of r)))

abbrev pub length_limit : ℕ → Option Status
length_limit image_bytes = limit_fault limit.Image (2 ^ 29) image_bytes

-- the first of two refusals
abbrev pub first_of : Option Status → Option Status → Option Status
first_of (Some s) other = Some s
first_of None other = other

-- the last two of lk_model's limits on a placement (`placement_limit`), in their order
abbrev pub image_limit : Resolved → Placement → Option Status
image_limit r place = first_of (headers_limit r place) (length_limit (image_length r place))

-- why a link at a placement has no image: a limit, else the values that do not fit their fields
abbrev pub image_refusal : Resolved → Placement → Option Status
image_refusal r place = first_of (image_limit r place) (fault_status (overflow_faults r place))

-- a status is this refusal, or out of memory
abbrev pub IsRefusal : Option Status → Status → Type 0
IsRefusal due status.NoMemory = Unit {0}
IsRefusal due s = due ≡ Some s

-- what is answered of the image of a link: all its stretches laid out where nothing is refused, else the refusal.
-- Out of memory may come at any time.
abbrev pub ImageAnswers : Resolved → Placement → Result (List ℕ) Status → Type 0
ImageAnswers r place (Ok image) = (image_refusal r place ≡ None) × IsLaidOut (stretches_of r place) image
ImageAnswers r place (Err s) = IsRefusal (image_refusal r place) s

-- what is answered of the headers at its front, for a tail with these parts
abbrev pub FrontAnswers : Resolved → Placement → List Part → Result (List ℕ) Status → Type 0
FrontAnswers r place parts (Ok front) = (length (program_headers place (exec_stack_of r)) ≤ 64) × (front ≡ up_to_seal (header_bytes r place parts))
FrontAnswers r place parts (Err s) = IsRefusal (headers_limit r place) s

-- of its length
abbrev pub LengthAnswers : ℕ → Result (Unit {0}) Status → Type 0
LengthAnswers image_bytes (Ok done) = image_bytes ≤ 2 ^ 29
LengthAnswers image_bytes (Err s) = IsRefusal (length_limit image_bytes) s

-- of all its bytes in a file of zeros, for a tail with these parts
abbrev pub FillAnswers : Resolved → Placement → List Part → List ℕ → Result (Unit {0}) Status → Type 0
FillAnswers r place parts new (Ok done) = (fault_status (overflow_faults r place) ≡ None) × IsLaidOut (stretches_with r place parts) new
FillAnswers r place parts new (Err s) = IsRefusal (fault_status (overflow_faults r place)) s
