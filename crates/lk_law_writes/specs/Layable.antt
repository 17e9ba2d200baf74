-- This project's own: what is known of a placement whose image is laid out by writes.
use Rattle.std.specs.Prelude.{◌≡◌, ◌≤◌, false, true}
use Rattle.std.specs.List.{AllByRecursion}
use Rattle.lk_model.specs.Answers.{needs_nothing}
use Rattle.lk_model.specs.SectionKeys.{is_table, reserved_of}
use Rattle.lk_model.specs.Views.{KeptPiece, Resolved}
use Rattle.lk_model.specs.declared.layouts.Placement.{Placement}
use Rattle.lk_model.specs.declared.layouts.SectionRow.{SectionRow}
use Rattle.lk_law_loading.specs.Loadable.{Loadable}

-- a placement whose stretches share no byte
pub record Layable (r : Resolved) (place : Placement) : Type 0 where
  -- it is lawful, within the limits, and its pieces are whole
  pub loadable : Loadable r place
  -- no kept piece goes to a table
  pub no_tables : AllByRecursion (λ (kept : KeptPiece). is_table kept.key ≡ false) r.kept
  -- the bytes that end a room lie in it
  pub ends : AllByRecursion (λ (row : SectionRow). reserved_of row.key ≤ row.room) place.sections

-- a static link that needs no slot, no entry and no copy
pub record NeedsNoTables (r : Resolved) : Type 0 where
  pub static : r.options.dynamic ≡ false
  pub nothing : needs_nothing r.needs ≡ true
