-- An image records the placement that it was made at (this project's own): its record sections, found
-- through its section headers, read back to that placement.
use Rattle.std.specs.Prelude.{◌≡◌, ℕ, ◌^◌, ◌<◌, List, length, None, Ok, Some}
use Rattle.lk_report.specs.FileMap.{FileMap}
use Rattle.lk_report.specs.declared.causes.OptionRecord.{OptionRecord}
use Rattle.lk_model.specs.Answers.{full_link, placement_limit, static_answer}
use Rattle.lk_model.specs.FullPlace.{full_place}
use Rattle.lk_model.specs.Grammar.{grammar}
use Rattle.lk_model.specs.Images.{stretches_of}
use Rattle.lk_model.specs.Inputs.{inputs_of}
use Rattle.lk_model.specs.Lawful.{Lawful}
use Rattle.lk_model.specs.Links.{resolved_of}
use Rattle.lk_model.specs.RecordedPlace.{recorded_place}
use Rattle.lk_model.specs.Resolving.{resolve}
use Rattle.lk_model.specs.Stretches.{IsLaidOut}
use Rattle.lk_model.specs.Views.{Input}
use Rattle.lk_model.specs.declared.commands.Command.{Command}
use Rattle.lk_law_records.specs.CommandFits.{AreSound, CommandFits, FilesFit}
use Rattle.lk_law_records.specs.Recordable.{InputsFit, IsRecordable}

-- for any options and any inputs, static or dynamic, with any lib groups: an image that has the stretches
-- of the full placement of what resolution finds records that placement
abbrev pub FullPlaceIsRecorded : Type 0
FullPlaceIsRecorded = (options : OptionRecord) (inputs : List Input) (image : List ℕ) →
    let r = resolve options inputs in
    IsRecordable r (full_place r) → IsLaidOut (stretches_of r (full_place r)) image → recorded_place r image ≡ Some (full_place r)

-- and it can be recorded where options and inputs fit, the placement is lawful and no limit is exceeded
abbrev pub LimitsMakeRecordable : Type 0
LimitsMakeRecordable = (options : OptionRecord) (inputs : List Input) →
    let r = resolve options inputs in
    InputsFit options inputs → Lawful r (full_place r) → placement_limit r (full_place r) ≡ None → IsRecordable r (full_place r)

-- the inputs of a command fit, where its words and its files do and no input has a fault
abbrev pub InputsOfCommandsFit : Type 0
InputsOfCommandsFit = (c : Command) (files : FileMap) → CommandFits c → FilesFit files → AreSound c files → InputsFit c.options (inputs_of c files)

-- a command that words are fits: words with a zero byte are refused
abbrev pub CommandsFit : Type 0
CommandsFit = (words : List (List ℕ)) (c : Command) → grammar words ≡ Ok c → length words < 2 ^ 30 → CommandFits c

-- all of it of the words of a static link: where the answer is a full link, an image that has the stretches
-- of the full placement, which is lawful, records it
abbrev pub FullLinksAreRecorded : Type 0
FullLinksAreRecorded = (words : List (List ℕ)) (files : FileMap) (c : Command) (image : List ℕ) →
    let r = resolved_of c files in
    grammar words ≡ Ok c → length words < 2 ^ 30 → FilesFit files → static_answer words files ≡ full_link
    → Lawful r (full_place r) → IsLaidOut (stretches_of r (full_place r)) image → recorded_place r image ≡ Some (full_place r)
