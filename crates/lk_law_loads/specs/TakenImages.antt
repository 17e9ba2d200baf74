-- This project's own: a loader takes what a link writes (gABI "Program Loading", "Dynamic Section").
use Rattle.std.specs.Prelude.{◌≡◌, ℕ, false, List, [], None}
use Rattle.std.specs.List.{AllByRecursion}
use Rattle.lk_report.specs.FileMap.{FileMap}
use Rattle.lk_model.specs.Checks.{first_fault}
use Rattle.lk_model.specs.FullPlace.{full_place}
use Rattle.lk_model.specs.Images.{stretches_of, stretches_with}
use Rattle.lk_model.specs.Inputs.{input_faults_of, inputs_of}
use Rattle.lk_model.specs.Links.{AllLoaded, resolved_of}
use Rattle.lk_model.specs.Loads.{load_checks, load_refusal}
use Rattle.lk_model.specs.SectionKeys.{is_table}
use Rattle.lk_model.specs.Stretches.{IsLaidOut}
use Rattle.lk_model.specs.Tail.{Part}
use Rattle.lk_model.specs.Views.{KeptPiece, Resolved}
use Rattle.lk_model.specs.WholeLinks.{whole_stretches_of}
use Rattle.lk_model.specs.declared.commands.Command.{Command}
use Rattle.lk_model.specs.declared.layouts.Placement.{Placement}
use Rattle.lk_law_loading.specs.Loadable.{Loadable, WithinLimits}

-- no kept piece is of a section that the link makes
abbrev pub KeepsNoTable : Resolved → Type 0
KeepsNoTable r = AllByRecursion (λ (piece : KeptPiece). is_table piece.key ≡ false) r.kept

-- the headers of an image that is laid out at a placement pass the checks that look at headers alone,
-- whatever the image's tail is
abbrev pub HeadersAreTaken : Type 0
HeadersAreTaken =
    (r : Resolved) (place : Placement) (tail : List Part) (image : List ℕ)
    → Loadable r place
    → IsLaidOut (stretches_with r place tail) image
    → first_fault (load_checks image) ≡ None

-- and the image is taken: without a dynamic section it names nothing, and in a dynamic link what DYNAMIC names
-- is loaded
abbrev pub PlacesAreTaken : Type 0
PlacesAreTaken =
    (r : Resolved) (place : Placement) (tail : List Part) (image : List ℕ)
    → Loadable r place
    → KeepsNoTable r
    → IsLaidOut (stretches_with r place tail) image
    → load_refusal image ≡ None

-- a loader takes an image, and puts every kept piece's linked bytes at its address, with the rights of its
-- segment
pub record IsTaken (r : Resolved) (place : Placement) (image : List ℕ) : Type 0 where
  pub taken : load_refusal image ≡ None
  pub loaded : AllLoaded image r place r.kept place.pieces

-- so is the image of a command in which no input has a fault, static or dynamic, with the tail that links
-- write
abbrev pub LinkIsTaken : Type 0
LinkIsTaken =
    (command : Command) (files : FileMap) (image : List ℕ)
    → input_faults_of (inputs_of command files) ≡ []
    → WithinLimits (resolved_of command files) (full_place (resolved_of command files))
    → IsLaidOut (stretches_of (resolved_of command files) (full_place (resolved_of command files))) image
    → IsTaken (resolved_of command files) (full_place (resolved_of command files)) image

-- and with the whole tail
abbrev pub WholeLinkIsTaken : Type 0
WholeLinkIsTaken =
    (command : Command) (files : FileMap) (image : List ℕ)
    → input_faults_of (inputs_of command files) ≡ []
    → WithinLimits (resolved_of command files) (full_place (resolved_of command files))
    → IsLaidOut (whole_stretches_of (resolved_of command files) (full_place (resolved_of command files))) image
    → IsTaken (resolved_of command files) (full_place (resolved_of command files)) image
