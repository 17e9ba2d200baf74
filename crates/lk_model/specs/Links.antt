-- What it means that an image is a link of a command (this project's own, over gABI "Program Loading"
-- and psABI x86-64 "Relocation Types"): the statement that the linker's public calls are proved to meet.
use Rattle.std.specs.Prelude.{◌≡◌, ◌≤◌, ℕ, ◌+◌, Bool, List, [], ◌∷◌, Option, Some, None, IsTrue, if◌then◌else◌, ◌==◌}
use Rattle.std.specs.List.{list_any, list_all}
use Rattle.lk_elf.specs.declared.program_header.Phdr.{Phdr}
use Rattle.lk_report.specs.FileMap.{FileMap}
use Rattle.lk_model.specs.FullPlace.{full_place}
use Rattle.lk_model.specs.Images.{stretches_of}
use Rattle.lk_model.specs.Inputs.{inputs_of}
use Rattle.lk_model.specs.SectionKeys.{class_number}
use Rattle.lk_model.specs.Lawful.{Lawful}
use Rattle.lk_model.specs.LinkedBytes.{linked_bytes}
use Rattle.lk_model.specs.Loading.{IsLoaded, IsLoadedZero, tls_in}
use Rattle.lk_model.specs.RecordedPlace.{recorded_place}
use Rattle.lk_model.specs.Resolving.{resolve}
use Rattle.lk_model.specs.Stretches.{IsLaidOut}
use Rattle.lk_model.specs.SymbolValues.{reference_fits}
use Rattle.lk_model.specs.Views.{Resolved, KeptPiece}
use Rattle.lk_model.specs.declared.commands.Command.{Command}
use Rattle.lk_model.specs.declared.layouts.Class.{Class}
use Rattle.lk_model.specs.declared.layouts.Class.TheVariants.{R, X, W, WX, Tdata, Tbss, Bss, N}
use Rattle.lk_model.specs.declared.layouts.PieceRow.{PieceRow}
use Rattle.lk_model.specs.declared.layouts.Placement.{Placement}
use Rattle.lk_model.specs.declared.layouts.SectionRow.{SectionRow}

-- what resolution finds of a command and its files
unfoldable pub resolved_of : Command → FileMap → Resolved
resolved_of command files = resolve command.options (inputs_of command files)

-- whether an output section is writable and executable, which makes its segment so
abbrev pub is_wx_row : SectionRow → Bool
is_wx_row row = class_number row.key.class == 3

-- the rights of the segment of a class: readable 4, writable 2, executable 1
abbrev pub third_rights : Placement → ℕ
third_rights place = if list_any is_wx_row place.sections then 7 else 6

abbrev pub rights_of : Placement → Class → ℕ
rights_of place R = 4
rights_of place X = 5
rights_of place W = third_rights place
rights_of place WX = third_rights place
rights_of place Tdata = third_rights place
rights_of place Tbss = third_rights place
rights_of place Bss = third_rights place
rights_of place N = 0

-- a piece lies in the file part of the thread-local segment, or in the rest of it
abbrev pub LiesInTlsFile : Option Phdr → PieceRow → Type 0
LiesInTlsFile None row = ⊥
LiesInTlsFile (Some h) row = (h.p_vaddr ≤ row.addr) × (row.addr + row.size ≤ h.p_vaddr + h.p_filesz)

abbrev pub LiesInTlsRest : Option Phdr → PieceRow → Type 0
LiesInTlsRest None row = ⊥
LiesInTlsRest (Some h) row = (h.p_vaddr + h.p_filesz ≤ row.addr) × (row.addr + row.size ≤ h.p_vaddr + h.p_memsz)

-- a loader puts a piece's linked bytes at its address, with the rights of its segment. A piece that is
-- not loaded has its bytes in the file, as the stretches say.
abbrev pub PieceIsLoaded : List ℕ → Resolved → Placement → KeptPiece → PieceRow → Class → Type 0
PieceIsLoaded image r place kept row R = IsLoaded image 4 row.addr (linked_bytes r place kept)
PieceIsLoaded image r place kept row X = IsLoaded image 5 row.addr (linked_bytes r place kept)
PieceIsLoaded image r place kept row W = IsLoaded image (third_rights place) row.addr (linked_bytes r place kept)
PieceIsLoaded image r place kept row WX = IsLoaded image (third_rights place) row.addr (linked_bytes r place kept)
PieceIsLoaded image r place kept row Tdata =
    IsLoaded image (third_rights place) row.addr (linked_bytes r place kept) × LiesInTlsFile (tls_in image) row
PieceIsLoaded image r place kept row Tbss = LiesInTlsRest (tls_in image) row
PieceIsLoaded image r place kept row Bss = IsLoadedZero image (third_rights place) row.addr row.size
PieceIsLoaded image r place kept row N = Unit {0}

abbrev pub AllLoaded : List ℕ → Resolved → Placement → List KeptPiece → List PieceRow → Type 0
AllLoaded image r place [] rows = Unit {0}
AllLoaded image r place (k ∷ ks) [] = ⊥
AllLoaded image r place (k ∷ ks) (row ∷ rows) = PieceIsLoaded image r place k row k.key.class × AllLoaded image r place ks rows

-- an image is a link at a placement: it records that placement, which is lawful; the value of every
-- reference of a kept piece fits; a loader finds each piece's linked bytes; and its bytes are its
-- stretches (headers, seal, pieces, tables, fill, records, section headers), with zeros elsewhere
pub record IsLinkAt (r : Resolved) (place : Placement) (image : List ℕ) : Type 0 where
  pub recorded : recorded_place r image ≡ Some place
  pub lawful : Lawful r place
  pub fits : IsTrue (list_all (reference_fits r place) r.references)
  pub loaded : AllLoaded image r place r.kept place.pieces
  pub laid : IsLaidOut (stretches_of r place) image

-- an image is a link of a command and its files
abbrev pub IsLink : Command → FileMap → List ℕ → Type 0
IsLink command files image = (place : Placement) × IsLinkAt (resolved_of command files) place image

-- an image is a link of a command and its files in which everything was placed anew
abbrev pub IsFullLink : Command → FileMap → List ℕ → Type 0
IsFullLink command files image =
    IsLinkAt (resolved_of command files) (full_place (resolved_of command files)) image
