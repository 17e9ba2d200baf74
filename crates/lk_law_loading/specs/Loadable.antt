-- This project's own: what is known of a placement whose pieces a loader finds.
use Rattle.std.specs.Prelude.{◌≡◌, ◌≤◌, ◌^◌, true, length, codes}
use Rattle.std.specs.List.{AllByRecursion}
use Rattle.lk_model.specs.FileHeader.{exec_stack_of}
use Rattle.lk_model.specs.FullPlace.{memory_of}
use Rattle.lk_model.specs.Lawful.{Lawful}
use Rattle.lk_model.specs.LinkedBytes.{linked_bytes}
use Rattle.lk_model.specs.SectionKeys.{in_file, named}
use Rattle.lk_model.specs.Segments.{program_headers}
use Rattle.lk_model.specs.Views.{KeptPiece, Resolved}
use Rattle.lk_model.specs.declared.layouts.Class.TheVariants.{Tdata, Tbss}
use Rattle.lk_model.specs.declared.layouts.Placement.{Placement}
use Rattle.lk_model.specs.declared.layouts.SectionKey.{SectionKey}
use Rattle.lk_model.specs.declared.layouts.SectionRow.{SectionRow}

-- a thread-local section is the one that its class has (gABI "Special Sections": `.tdata`, `.tbss`)
pub record ThreadNamed (key : SectionKey) : Type 0 where
  pub bytes : key.class ≡ Tdata → key ≡ named (codes ".tdata") Tdata
  pub zeros : key.class ≡ Tbss → key ≡ named (codes ".tbss") Tbss

-- a kept piece that the file holds has as many linked bytes as its size
abbrev pub IsWhole : Resolved → Placement → KeptPiece → Type 0
IsWhole r place kept = in_file kept.key.class ≡ true → length (linked_bytes r place kept) ≡ kept.size

-- a placement within the limits of a link: its memory ends where every field of a program header can represent the
-- end, and its program headers end below the seal
pub record WithinLimits (r : Resolved) (place : Placement) : Type 0 where
  pub memory : memory_of place ≤ 2 ^ 31
  pub headers : length (program_headers place (exec_stack_of r)) ≤ 64

-- a placement whose pieces a loader finds
pub record Loadable (r : Resolved) (place : Placement) : Type 0 where
  -- it is lawful, and within the limits
  pub lawful : Lawful r place
  pub limits : WithinLimits r place
  -- its thread-local sections are one of each class
  pub threads : AllByRecursion (λ (row : SectionRow). ThreadNamed row.key) place.sections
  -- linked bytes are as many as the pieces' sizes
  pub whole : AllByRecursion (IsWhole r place) r.kept
