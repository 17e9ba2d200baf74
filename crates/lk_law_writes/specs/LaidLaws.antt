-- The laws on the stretches of a link and on images that are written of them, as statements (this
-- project's own).
use Rattle.std.specs.Prelude.{◌≡◌, ◌≤◌, ◌+◌, ℕ, true, List, [], ◌∷◌, ◌++◌, flat_map, fold, length, map, replicate}
use Rattle.std.specs.List.{AllByRecursion, Contains}
use Rattle.lk_elf.specs.Records.{shdr_bytes}
use Rattle.lk_report.specs.FileMap.{FileMap}
use Rattle.lk_report.specs.declared.causes.OptionRecord.{OptionRecord}
use Rattle.lk_model.specs.Answers.{image_length, length_with}
use Rattle.lk_model.specs.FileHeader.{header_bytes}
use Rattle.lk_model.specs.FullPlace.{full_place, tail_start}
use Rattle.lk_model.specs.Images.{part_stretch, seal, seal_offset, stretch, stretches_of, stretches_with}
use Rattle.lk_model.specs.Inputs.{input_faults_of, inputs_of}
use Rattle.lk_model.specs.Links.{resolved_of}
use Rattle.lk_model.specs.Resolving.{resolve}
use Rattle.lk_model.specs.SectionKeys.{is_table}
use Rattle.lk_model.specs.Stretches.{IsLaidOut, Stretch, end_of_all}
use Rattle.lk_model.specs.Tables.{table_of_key}
use Rattle.lk_model.specs.Tail.{Part, headers_offset, parts_from, section_headers, tail_parts}
use Rattle.lk_model.specs.Views.{Input, Resolved}
use Rattle.lk_model.specs.declared.commands.Command.{Command}
use Rattle.lk_model.specs.declared.layouts.Placement.{Placement}
use Rattle.lk_model.specs.declared.layouts.SectionRow.{SectionRow}
use Rattle.lk_law_placement.specs.SoundInputs.{SoundInputs}
use Rattle.lk_law_loading.specs.Loadable.{WithinLimits}
use Rattle.lk_law_writes.specs.Layable.{Layable, NeedsNoTables}
use Rattle.lk_law_writes.specs.Written.{fill_stretches, front_stretches, front_with, piece_stretches, sealed_stretches, table_stretches_of, tail_stretches, written}
use Rattle.lk_law_writes.specs.WrittenLaws.{AllEndWithin, AreApart}

-- ---- the stretches of a link

-- stretches that share no byte and end within so many, with which the last one ends
pub record AreLaid (stretches : List Stretch) (n : ℕ) : Type 0 where
  pub apart : AreApart stretches
  pub within : AllEndWithin n stretches
  pub ends : end_of_all stretches ≡ n

-- the stretches of a link at a placement are such ones, whatever its tail is, static or dynamic
abbrev pub StretchesAreLaid : Type 0
StretchesAreLaid = (r : Resolved) (place : Placement) (parts : List Part) → Layable r place → AreLaid (stretches_with r place parts) (length_with place parts)

-- the headers end at or below the seal, and the output sections within the image
abbrev pub HeadersAreShort : Type 0
HeadersAreShort = (r : Resolved) (place : Placement) (parts : List Part) → Layable r place → length (header_bytes r place parts) ≤ seal_offset

abbrev pub SectionsEndWithin : Type 0
SectionsEndWithin = (place : Placement) (parts : List Part) → tail_start place ≤ length_with place parts

-- the tables of a static link that needs nothing hold zeros alone
abbrev pub TablesAreZeros : Type 0
TablesAreZeros =
    (r : Resolved) (place : Placement)
    → Layable r place
    → NeedsNoTables r
    → AllByRecursion (λ (row : SectionRow). is_table row.key ≡ true → table_of_key r place row.key ≡ replicate row.size 0) place.sections

-- a full placement of inputs without a fault has what its image needs
abbrev pub InputsAreLayable : Type 0
InputsAreLayable =
    (options : OptionRecord) (inputs : List Input)
    → SoundInputs inputs
    → WithinLimits (resolve options inputs) (full_place (resolve options inputs))
    → Layable (resolve options inputs) (full_place (resolve options inputs))

-- ---- what a link writes

-- all that it writes beside its tables, the headers with so many zeros behind them
abbrev pub link_writes : ℕ → Resolved → Placement → List Part → List Stretch
link_writes zeros r place parts = front_with zeros r place parts ++ piece_stretches r place ++ fill_stretches place ++ tail_stretches place parts

-- the same in groups, each of which is written at once
abbrev pub link_groups : ℕ → Resolved → Placement → List Part → List (List Stretch)
link_groups zeros r place parts =
    (stretch 0 (header_bytes r place parts ++ replicate zeros 0) ∷ [])
    ∷ (stretch seal_offset seal ∷ [])
    ∷ piece_stretches r place
    ∷ fill_stretches place
    ∷ map part_stretch (parts_from (tail_start place) parts)
    ∷ (stretch (headers_offset place parts) (flat_map shdr_bytes (section_headers place parts)) ∷ [])
    ∷ []

-- two lists that have the same items, in any order
abbrev pub HaveSame : {A : Type 0} → List A → List A → Type 0
HaveSame xs ys = AllByRecursion (λ y. Contains xs y) ys × AllByRecursion (λ x. Contains ys x) xs

-- zeros with the writes of a link in them, in any order, are its image, where its tables are zeros
abbrev pub LinkIsWritten : Type 0
LinkIsWritten =
    (r : Resolved) (place : Placement) (parts : List Part) (zeros : ℕ) (ts : List Stretch)
    → Layable r place
    → NeedsNoTables r
    → length (header_bytes r place parts) + zeros ≤ seal_offset
    → HaveSame (link_writes zeros r place parts) ts
    → IsLaidOut (stretches_with r place parts) (written (replicate (length_with place parts) 0) ts)

-- and so are zeros with one group after another
abbrev pub GroupsAreWritten : Type 0
GroupsAreWritten =
    (r : Resolved) (place : Placement) (parts : List Part) (zeros : ℕ) (groups : List (List Stretch))
    → Layable r place
    → NeedsNoTables r
    → length (header_bytes r place parts) + zeros ≤ seal_offset
    → HaveSame (link_groups zeros r place parts) groups
    → IsLaidOut (stretches_with r place parts) (fold written (replicate (length_with place parts) 0) groups)

-- so are the writes of any link with its tables written too
abbrev pub TablesAreWritten : Type 0
TablesAreWritten =
    (r : Resolved) (place : Placement) (parts : List Part) (zeros : ℕ) (ts : List Stretch)
    → Layable r place
    → length (header_bytes r place parts) + zeros ≤ seal_offset
    → HaveSame (link_writes zeros r place parts ++ table_stretches_of r place) ts
    → IsLaidOut (stretches_with r place parts) (written (replicate (length_with place parts) 0) ts)

-- group by group
abbrev pub LinkIsWrittenInOrder : Type 0
LinkIsWrittenInOrder =
    (r : Resolved) (place : Placement) (parts : List Part)
    → Layable r place
    → NeedsNoTables r
    → IsLaidOut (stretches_with r place parts)
    (written (replicate (length_with place parts) 0) (front_stretches r place parts ++ piece_stretches r place ++ fill_stretches place ++ tail_stretches place parts))

-- group by group, the headers with zeros up to the seal
abbrev pub SealedLinkIsWritten : Type 0
SealedLinkIsWritten =
    (r : Resolved) (place : Placement) (parts : List Part)
    → Layable r place
    → NeedsNoTables r
    → IsLaidOut (stretches_with r place parts)
    (written (replicate (length_with place parts) 0) (sealed_stretches r place parts ++ piece_stretches r place ++ fill_stretches place ++ tail_stretches place parts))

-- of a command and its files, in which no input has a fault: with the tail that links write
abbrev pub CommandIsWritten : Type 0
CommandIsWritten =
    (command : Command) (files : FileMap) (zeros : ℕ) (groups : List (List Stretch))
    → input_faults_of (inputs_of command files) ≡ []
    → let r = resolved_of command files in
    let place = full_place r in
    let parts = tail_parts r place in
    WithinLimits r place
    → NeedsNoTables r
    → length (header_bytes r place parts) + zeros ≤ seal_offset
    → HaveSame (link_groups zeros r place parts) groups
    → IsLaidOut (stretches_of r place) (fold written (replicate (image_length r place) 0) groups)
