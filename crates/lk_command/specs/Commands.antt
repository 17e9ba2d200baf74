-- This project's own: the command that values and phrases make.
use Rattle.std.specs.Prelude.{List, false, flat_map}
use Rattle.std.specs.List.{join_with_byte}
use Rattle.lk_report.specs.declared.causes.OptionRecord.{OptionRecord}
use Rattle.lk_model.specs.declared.commands.Command.{Command}
use Rattle.lk_model.specs.Grammar.{Phrase, base_beside, dirs_of, items_of, run_dirs_of}
use Rattle.lk_command.specs.Values.{GivenValues}

-- the options that an image records
abbrev pub options_by : GivenValues → List Phrase → OptionRecord
options_by reported phrases = record {
  entry = reported.entry;
  interp = reported.interp;
  runpath = join_with_byte 58 (flat_map run_dirs_of phrases);
  patch = reported.patch;
  export_dynamic = reported.export_dynamic;
  dynamic = false;
}

-- the command of phrases and of their values
abbrev pub command_by : GivenValues → List Phrase → Command
command_by reported phrases = record {
  output = reported.output;
  mode = reported.mode;
  base = base_beside reported.output reported.base;
  options = options_by reported phrases;
  dirs = flat_map dirs_of phrases;
  items = items_of phrases;
  workers = reported.workers;
}
