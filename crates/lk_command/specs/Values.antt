-- This project's own: the values of which a command has one each; the last that is given counts.
use Rattle.std.specs.Prelude.{ℕ, Bool, true, false, List, [], codes, Option, None, Some, unwrap_or}
use Rattle.std.specs.Bool.{then_some}
use Rattle.std.specs.Option.{option_copied}
use Rattle.lk_model.specs.declared.commands.Mode.{Mode}
use Rattle.lk_model.specs.declared.commands.Mode.TheVariants as mode
use Rattle.lk_model.specs.Grammar.{Phrase, Given, Flagged, Valued, Output, Entry, Interp, Base, Patch, ThreadCount, Flag, ExportDynamic, InMode, Threads, NoThreads, is_digits, number_in}
use Rattle.lk_command.specs.declared.values.Values.{Values}

-- the number that 1 to 4 decimal digits spell
abbrev pub number_read : List ℕ → Option ℕ
number_read text = then_some (is_digits text) (number_in text)

-- the values of a command
pub record GivenValues : Type 0 where
  pub output : List ℕ
  pub entry : List ℕ
  pub interp : List ℕ
  pub base : Option (List ℕ)
  pub patch : ℕ
  pub mode : Mode
  pub export_dynamic : Bool
  pub workers : ℕ

-- the code's values, whose texts are in the words
abbrev pub values_seen : Values → GivenValues
values_seen values = record {
  output = values.output.now;
  entry = values.entry.now;
  interp = values.interp.now;
  base = option_copied values.base;
  patch = values.patch;
  mode = values.mode;
  export_dynamic = values.export_dynamic;
  workers = values.workers;
}

-- the values where no word gives another
abbrev pub at_first : GivenValues
at_first = record {
  output = codes "a.out";
  entry = codes "_start";
  interp = [];
  base = None;
  patch = 10;
  mode = mode.Full;
  export_dynamic = false;
  workers = 4;
}

-- the values after an option with its value; what should be a number and is none changes nothing
abbrev pub given_after : GivenValues → Valued → List ℕ → GivenValues
given_after old Output value = record old { output = value }
given_after old Entry value = record old { entry = value }
given_after old Interp value = record old { interp = value }
given_after old Base value = record old { base = Some value }
given_after old Patch value = record old { patch = unwrap_or (number_read value) old.patch }
given_after old ThreadCount value = record old { workers = unwrap_or (number_read value) old.workers }
given_after old other value = old

-- the values after a word that is an option by itself
abbrev pub flagged_after : GivenValues → Flag → GivenValues
flagged_after old ExportDynamic = record old { export_dynamic = true }
flagged_after old (InMode mode) = record old { mode = mode }
flagged_after old Threads = record old { workers = 4 }
flagged_after old NoThreads = record old { workers = 1 }
flagged_after old other = old

-- the values after one more phrase
abbrev pub values_after : GivenValues → Phrase → GivenValues
values_after old (Given number option at (Some value)) = given_after old option value
values_after old (Flagged number flag) = flagged_after old flag
values_after old other = old
