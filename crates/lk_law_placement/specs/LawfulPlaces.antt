-- This project's own: where a link made anew puts everything is a placement that a link may have.
use Rattle.std.specs.Prelude.{◌≡◌, List, [], nat_eq}
use Rattle.std.specs.List.{IsDistinct}
use Rattle.lk_report.specs.FileMap.{FileMap}
use Rattle.lk_report.specs.declared.causes.OptionRecord.{OptionRecord}
use Rattle.lk_model.specs.FullPlace.{full_place}
use Rattle.lk_model.specs.Inputs.{input_faults_of, inputs_of}
use Rattle.lk_model.specs.Lawful.{Lawful}
use Rattle.lk_model.specs.Links.{resolved_of}
use Rattle.lk_model.specs.NeedsOf.{got_key_eq}
use Rattle.lk_model.specs.Resolving.{resolve}
use Rattle.lk_model.specs.Views.{Input, Resolved}
use Rattle.lk_model.specs.declared.commands.Command.{Command}
use Rattle.lk_law_placement.specs.SoundInputs.{SoundInputs}
use Rattle.lk_law_placement.specs.SoundPieces.{SoundPieces}

-- where the kept pieces are sound, and no slot and no entry is needed twice, the full placement is lawful
abbrev pub SoundIsLawful : Type 0
SoundIsLawful = (r : Resolved) → SoundPieces r → IsDistinct got_key_eq r.needs.got → IsDistinct nat_eq r.needs.plt → Lawful r (full_place r)

-- so it is where each input has what was read of a file without a fault
abbrev pub InputsAreLawful : Type 0
InputsAreLawful = (options : OptionRecord) (inputs : List Input) → SoundInputs inputs → Lawful (resolve options inputs) (full_place (resolve options inputs))

-- the inputs of a command are such ones where none has a fault
abbrev pub CommandIsLawful : Type 0
CommandIsLawful = (command : Command) (files : FileMap) → input_faults_of (inputs_of command files) ≡ [] → Lawful (resolved_of command files) (full_place (resolved_of command files))
