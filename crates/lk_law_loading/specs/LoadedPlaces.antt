-- This project's own: a loader finds every piece where the placement has it (gABI "Program Loading").
use Rattle.std.specs.Prelude.{◌≡◌, ℕ, List, []}
use Rattle.lk_report.specs.FileMap.{FileMap}
use Rattle.lk_report.specs.declared.causes.OptionRecord.{OptionRecord}
use Rattle.lk_model.specs.FileHeader.{exec_stack_of}
use Rattle.lk_model.specs.FullPlace.{full_place}
use Rattle.lk_model.specs.Images.{stretches_of, stretches_with}
use Rattle.lk_model.specs.Inputs.{input_faults_of, inputs_of}
use Rattle.lk_model.specs.Links.{AllLoaded, resolved_of}
use Rattle.lk_model.specs.Loading.{headers_in}
use Rattle.lk_model.specs.Resolving.{resolve}
use Rattle.lk_model.specs.Segments.{program_headers}
use Rattle.lk_model.specs.Stretches.{IsLaidOut}
use Rattle.lk_model.specs.Tail.{Part}
use Rattle.lk_model.specs.Views.{Input, Resolved}
use Rattle.lk_model.specs.WholeLinks.{whole_stretches_of}
use Rattle.lk_model.specs.declared.commands.Command.{Command}
use Rattle.lk_model.specs.declared.layouts.Placement.{Placement}
use Rattle.lk_law_placement.specs.SoundInputs.{SoundInputs}
use Rattle.lk_law_loading.specs.Loadable.{Loadable, WithinLimits}

-- the program headers of an image are those of its placement
abbrev pub HeadersAreRead : Type 0
HeadersAreRead =
    (r : Resolved) (place : Placement) (tail : List Part) (image : List ℕ)
    → Loadable r place
    → IsLaidOut (stretches_with r place tail) image
    → headers_in image ≡ program_headers place (exec_stack_of r)

-- a loader finds the pieces of an image that is laid out at a placement, made anew or kept up to date,
-- whatever its tail is
abbrev pub LoadableIsLoaded : Type 0
LoadableIsLoaded =
    (r : Resolved) (place : Placement) (tail : List Part) (image : List ℕ)
    → Loadable r place
    → IsLaidOut (stretches_with r place tail) image
    → AllLoaded image r place r.kept place.pieces

-- it finds those of every link made anew of inputs without a fault
abbrev pub InputsAreLoadable : Type 0
InputsAreLoadable =
    (options : OptionRecord) (inputs : List Input)
    → SoundInputs inputs
    → WithinLimits (resolve options inputs) (full_place (resolve options inputs))
    → Loadable (resolve options inputs) (full_place (resolve options inputs))

-- of a command and its files, in which no input has a fault: with the tail that links write
abbrev pub LinkIsLoaded : Type 0
LinkIsLoaded =
    (command : Command) (files : FileMap) (image : List ℕ)
    → input_faults_of (inputs_of command files) ≡ []
    → WithinLimits (resolved_of command files) (full_place (resolved_of command files))
    → IsLaidOut (stretches_of (resolved_of command files) (full_place (resolved_of command files))) image
    → AllLoaded image (resolved_of command files) (full_place (resolved_of command files)) (resolved_of command files).kept (full_place (resolved_of command files)).pieces

-- and with the whole tail
abbrev pub WholeLinkIsLoaded : Type 0
WholeLinkIsLoaded =
    (command : Command) (files : FileMap) (image : List ℕ)
    → input_faults_of (inputs_of command files) ≡ []
    → WithinLimits (resolved_of command files) (full_place (resolved_of command files))
    → IsLaidOut (whole_stretches_of (resolved_of command files) (full_place (resolved_of command files))) image
    → AllLoaded image (resolved_of command files) (full_place (resolved_of command files)) (resolved_of command files).kept (full_place (resolved_of command files)).pieces
