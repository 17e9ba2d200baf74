-- This project's own: the resolution once all inputs are added, and what it has to do with what the added
-- inputs decide.
use Rattle.std.specs.Prelude.{◌≡◌, ℕ, ◌<◌, ◌≤◌, ◌^◌, Bool, List, [], length, map, Result, Ok, Err}
use Rattle.std.specs.List.{list_any}
use Rattle.lk_report.specs.declared.statuses.LimitFault.{LimitFault}
use Rattle.lk_report.specs.declared.statuses.LimitKind.TheVariants as limit
use Rattle.lk_model.specs.Finding.{Found, is_kept_in}
use Rattle.lk_model.specs.ResolveFaults.{faults_of}
use Rattle.lk_resolve.specs.declared.section_places.SectionPlace.{SectionPlace}
use Rattle.lk_resolve.specs.declared.settle_faults.SettleFault.{SettleFault}
use Rattle.lk_resolve.specs.declared.settle_faults.SettleFault.TheVariants as fault
use Rattle.lk_resolve.specs.LeftSections.{is_same_place}
use Rattle.lk_resolve.specs.MadeRows.{rows_made}
use Rattle.lk_resolve.specs.RowFaults.{faults_in}
use Rattle.lk_resolve.specs.States.{State}
use Rattle.lk_symtab.specs.NameRows.{NameRow, all_symbols, row_visibility, row_winner}

-- what a link has once it is resolved: the inputs' paths, the names with their symbols, made or not, the
-- numbers of the added inputs, whether one of them is shared, and the kept sections
pub record ResolutionValue : Type 0 where
  pub paths : List (List ℕ)
  pub rows : List NameRow
  pub added : List ℕ
  pub dynamic : Bool
  pub kept : List SectionPlace

-- whether a section of an input is kept
abbrev pub is_place_kept : List SectionPlace → ℕ → ℕ → Bool
is_place_kept kept input section = let place : SectionPlace = record { input = input; section = section } in list_any (is_same_place place) kept

-- the names that the linker makes are those that it has to make
abbrev pub rows_with_made : State → List NameRow
rows_with_made s = rows_made s.dynamic s.loaded s.rows

-- what stays of a state in a link, and of one whose names are made
abbrev pub resolved : State → ResolutionValue
resolved s = record { paths = s.paths; rows = s.rows; added = s.added; dynamic = s.dynamic; kept = s.kept }

abbrev pub resolution_of : State → ResolutionValue
resolution_of s = resolved (record s { rows = rows_with_made s })

-- a link may have so many names; the whole number where it has more
abbrev pub most_names : ℕ
most_names = 2 ^ 20

abbrev pub names_limit : ℕ → LimitFault
names_limit count = record { which = limit.Names; number = count }

-- what settling a state answers; out of memory is free
abbrev pub SettlesTo : State → Result ResolutionValue SettleFault → Type 0
SettlesTo s (Ok resolution) = (length s.rows ≤ most_names) × (faults_in s.paths s.entry (rows_with_made s) ≡ []) × (resolution ≡ resolution_of s)
SettlesTo s (Err (fault.Faults faults)) = (length s.rows ≤ most_names) × (faults ≡ faults_in s.paths s.entry (rows_with_made s)) × (0 < length faults)
SettlesTo s (Err (fault.Limit l)) = (most_names < length s.rows) × (l ≡ names_limit (length s.rows))
SettlesTo s (Err fault.NoMemory) = Unit {0}

-- what is resolved is what the added inputs decide
pub record IsFound (resolution : ResolutionValue) (found : Found) : Type 0 where
  pub paths : resolution.paths ≡ found.paths
  pub added : resolution.added ≡ found.added
  pub dynamic : resolution.dynamic ≡ found.dynamic
  pub names : all_symbols resolution.rows ≡ found.names
  pub winners : map row_winner resolution.rows ≡ found.winners
  pub visibilities : map row_visibility resolution.rows ≡ found.visibilities
  pub kept : (input section : ℕ) → is_place_kept resolution.kept input section ≡ is_kept_in found input section

-- what settling answers where this is what the added inputs decide
abbrev pub SettleGives : Found → Result ResolutionValue SettleFault → Type 0
SettleGives found (Ok resolution) = (length found.names ≤ most_names) × (faults_of found ≡ []) × IsFound resolution found
SettleGives found (Err (fault.Faults faults)) = (length found.names ≤ most_names) × (faults ≡ faults_of found) × (0 < length faults)
SettleGives found (Err (fault.Limit l)) = (most_names < length found.names) × (l ≡ names_limit (length found.names))
SettleGives found (Err fault.NoMemory) = Unit {0}
