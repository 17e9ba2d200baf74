-- What it means that an image with its whole tail is a link of a command (this project's own, over gABI
-- "Program Loading" and psABI x86-64 "Relocation Types"): it has all tables and all records, so that a
-- later link finds its placement in it alone. `IsLink` says the same of the form that links have so far.
use Rattle.std.specs.Prelude.{◌≡◌, ℕ, List, Some, None, IsTrue}
use Rattle.std.specs.List.{list_all}
use Rattle.lk_report.specs.FileMap.{FileMap}
use Rattle.lk_model.specs.Bases.{placement_in}
use Rattle.lk_model.specs.FullPlace.{full_place}
use Rattle.lk_model.specs.Images.{file_of, stretches_with}
use Rattle.lk_model.specs.Lawful.{Lawful}
use Rattle.lk_model.specs.Links.{AllLoaded, resolved_of}
use Rattle.lk_model.specs.Loads.{load_refusal}
use Rattle.lk_model.specs.Stretches.{IsLaidOut, Stretch}
use Rattle.lk_model.specs.SymbolValues.{reference_fits}
use Rattle.lk_model.specs.Views.{Resolved}
use Rattle.lk_model.specs.WholeTail.{whole_parts}
use Rattle.lk_model.specs.declared.commands.Command.{Command}
use Rattle.lk_model.specs.declared.layouts.Placement.{Placement}

-- all stretches of the image of a link at a placement
unfoldable pub whole_stretches_of : Resolved → Placement → List Stretch
whole_stretches_of r place = stretches_with r place (whole_parts r place)

-- the image of a link at a placement
unfoldable pub whole_image_of : Resolved → Placement → List ℕ
whole_image_of r place = file_of (whole_stretches_of r place)

-- an image is a link at a placement: it records that placement, which is lawful; the value of every
-- reference of a kept piece fits; a loader takes it, and finds each piece's linked bytes; and its bytes are its
-- stretches (headers, seal, pieces, tables, fill, the whole tail, section headers), with zeros elsewhere
pub record IsWholeLinkAt (r : Resolved) (place : Placement) (image : List ℕ) : Type 0 where
  pub recorded : placement_in image ≡ Some place
  pub accepted : load_refusal image ≡ None
  pub lawful : Lawful r place
  pub fits : IsTrue (list_all (reference_fits r place) r.references)
  pub loaded : AllLoaded image r place r.kept place.pieces
  pub laid : IsLaidOut (whole_stretches_of r place) image

-- an image is a link of a command and its files
abbrev pub IsWholeLink : Command → FileMap → List ℕ → Type 0
IsWholeLink command files image = (place : Placement) × IsWholeLinkAt (resolved_of command files) place image

-- an image is a link of a command and its files in which everything was placed anew
abbrev pub IsWholeFullLink : Command → FileMap → List ℕ → Type 0
IsWholeFullLink command files image =
    IsWholeLinkAt (resolved_of command files) (full_place (resolved_of command files)) image
