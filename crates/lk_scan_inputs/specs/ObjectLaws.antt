-- This project's own: which inputs are objects without a fault.
use Rattle.std.specs.Prelude.{◌≡◌, None}
use Rattle.lk_report.specs.FileMap.{FileMap}
use Rattle.lk_model.specs.declared.commands.Command.{Command}
use Rattle.lk_model.specs.Inputs.{inputs_of}
use Rattle.lk_inputs.specs.Refusals.{inputs_refusal}
use Rattle.lk_scan_inputs.specs.Objects.{AreObjects}

-- the inputs of a command are objects without a fault, where they are not refused
abbrev pub UnrefusedAreObjects : Type 0
UnrefusedAreObjects = (command : Command) (there : FileMap) → inputs_refusal command there ≡ None → AreObjects (inputs_of command there)
