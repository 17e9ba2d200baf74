-- In a command without a fault the values are the grammar's: what should be a number is one.
use Rattle.std.specs.Prelude.{◌≡◌, refl, ℕ, Bool, true, false, not, ◌&&◌, ◌||◌, List, [], ◌∷◌, fold, nat_le, Option, Some, None, unwrap_or}
use Rattle.std.specs.Bool.{then_some}
use Rattle.std.specs.Option.{option_or}
use Rattle.std.proofs.Common.{ap, ◌∙◌}
use Rattle.lk_report.specs.declared.faults.UsageFault.{UsageFault}
use Rattle.lk_report.specs.declared.faults.UsageFault.TheVariants as fault
use Rattle.lk_model.specs.Checks.{first_fault}
use Rattle.lk_model.specs.Grammar.{Phrase, Wrong, Named, Flagged, Given, ExportDynamic, InMode, Marked, Threads, NoThreads, StartLib, EndLib, Output, Entry, Dir, Library, Interp, RunPath, Machine, Base, Patch, ThreadCount, Valued, command_of, holds_zero, is_bad_number, is_digits, is_missing, is_number_in, is_other_machine, is_output, names_output, open_after, number_in, options_of, with_base, with_entry, with_export, with_interp, with_mode, with_output, with_patch, with_workers}
use Rattle.lk_command.specs.Commands.{command_by}
use Rattle.lk_command.specs.PhraseFaults.{checks_in, fault_after, given_checks_in}
use Rattle.lk_command.specs.Values.{GivenValues, at_first, number_read, values_after}

-- the grammar's values after one more phrase
abbrev reported_after : GivenValues → Phrase → GivenValues
reported_after reported phrase = record {
  output = with_output reported.output phrase;
  entry = with_entry reported.entry phrase;
  interp = with_interp reported.interp phrase;
  base = with_base reported.base phrase;
  patch = with_patch reported.patch phrase;
  mode = with_mode reported.mode phrase;
  export_dynamic = with_export reported.export_dynamic phrase;
  workers = with_workers reported.workers phrase;
}

-- the grammar's values after all phrases
abbrev reported_by : GivenValues → List Phrase → GivenValues
reported_by reported phrases = record {
  output = fold with_output reported.output phrases;
  entry = fold with_entry reported.entry phrases;
  interp = fold with_interp reported.interp phrases;
  base = fold with_base reported.base phrases;
  patch = fold with_patch reported.patch phrases;
  mode = fold with_mode reported.mode phrases;
  export_dynamic = fold with_export reported.export_dynamic phrases;
  workers = fold with_workers reported.workers phrases;
}

-- where no check fails, the last does not
last_passed : (a b c d e : Bool) (f g h i j : UsageFault) → first_fault ((a, f) ∷ (b, g) ∷ (c, h) ∷ (d, i) ∷ (e, j) ∷ []) ≡ None → e ≡ false
last_passed true b c d e f g h i j none = absurd (cc)
last_passed false true c d e f g h i j none = absurd (cc)
last_passed false false true d e f g h i j none = absurd (cc)
last_passed false false false true e f g h i j none = absurd (cc)
last_passed false false false false true f g h i j none = absurd (cc)
last_passed false false false false false f g h i j none = refl

number_good : (named : Bool) (n : ℕ) (option : Valued) (at : ℕ) (value : List ℕ) → first_fault (given_checks_in named n option at (Some value)) ≡ None → is_bad_number option value ≡ false
number_good named n option at value none =
    last_passed (is_missing (Some value)) (is_output option && named) (holds_zero value) (is_other_machine option value) (is_bad_number option value)
    (fault.MissingValue n) (fault.TwoOutputs n) (fault.UnknownWord at) (fault.UnknownWord at) (fault.BadNumber at) none

-- a number of a range is read
read_from : (a b c : Bool) (n old : ℕ) → not (a && b && c) ≡ false → unwrap_or (then_some a n) old ≡ n
read_from true b c n old good = refl
read_from false b c n old good = absurd (cc)

number_is : (low high old : ℕ) (value : List ℕ) → not (is_number_in low high value) ≡ false → unwrap_or (number_read value) old ≡ number_in value
number_is low high old value good =
    read_from (is_digits value) (nat_le low (number_in value)) (nat_le (number_in value) high) (number_in value) old good

one_phrase : (reported : GivenValues) (group : Option ℕ) (named : Bool) (phrase : Phrase) → first_fault (checks_in group named phrase) ≡ None → values_after reported phrase ≡ reported_after reported phrase
one_phrase reported group named (Wrong n) none = refl
one_phrase reported group named (Named path) none = refl
one_phrase reported group named (Flagged n ExportDynamic) none = refl
one_phrase reported group named (Flagged n (InMode m)) none = refl
one_phrase reported group named (Flagged n (Marked m)) none = refl
one_phrase reported group named (Flagged n Threads) none = refl
one_phrase reported group named (Flagged n NoThreads) none = refl
one_phrase reported group named (Flagged n StartLib) none = refl
one_phrase reported group named (Flagged n EndLib) none = refl
one_phrase reported group named (Given n Output at None) none = refl
one_phrase reported group named (Given n Entry at None) none = refl
one_phrase reported group named (Given n Dir at None) none = refl
one_phrase reported group named (Given n Library at None) none = refl
one_phrase reported group named (Given n Interp at None) none = refl
one_phrase reported group named (Given n RunPath at None) none = refl
one_phrase reported group named (Given n Machine at None) none = refl
one_phrase reported group named (Given n Base at None) none = refl
one_phrase reported group named (Given n Patch at None) none = refl
one_phrase reported group named (Given n ThreadCount at None) none = refl
one_phrase reported group named (Given n Output at (Some v)) none = refl
one_phrase reported group named (Given n Entry at (Some v)) none = refl
one_phrase reported group named (Given n Dir at (Some v)) none = refl
one_phrase reported group named (Given n Library at (Some v)) none = refl
one_phrase reported group named (Given n Interp at (Some v)) none = refl
one_phrase reported group named (Given n RunPath at (Some v)) none = refl
one_phrase reported group named (Given n Machine at (Some v)) none = refl
one_phrase reported group named (Given n Base at (Some v)) none = refl
one_phrase reported group named (Given n Patch at (Some v)) none =
    ap (λ (p : ℕ). record reported { patch = p }) (number_is 0 500 reported.patch v (number_good named n Patch at v none))
one_phrase reported group named (Given n ThreadCount at (Some v)) none =
    ap (λ (w : ℕ). record reported { workers = w }) (number_is 1 16 reported.workers v (number_good named n ThreadCount at v none))

-- no fault of phrases is no fault of the first and none of the rest
first_none : (a b : Option UsageFault) → option_or a b ≡ None → a ≡ None
first_none None b none = refl
first_none (Some f) b none = absurd (cc)

rest_none : (a b : Option UsageFault) → option_or a b ≡ None → b ≡ None
rest_none None b none = none
rest_none (Some f) b none = absurd (cc)

values_are : (reported : GivenValues) (group : Option ℕ) (named : Bool) (phrases : List Phrase) → fault_after group named phrases ≡ None → fold values_after reported phrases ≡ reported_by reported phrases
values_are reported group named [] none = refl
values_are reported group named (phrase ∷ phrases) none =
    ap (λ (t : GivenValues). fold values_after t phrases) (one_phrase reported group named phrase (first_none (first_fault (checks_in group named phrase)) (fault_after (open_after group phrase) (named || names_output phrase) phrases) none))
    ∙ values_are (reported_after reported phrase) (open_after group phrase) (named || names_output phrase) phrases
    (rest_none (first_fault (checks_in group named phrase)) (fault_after (open_after group phrase) (named || names_output phrase) phrases) none)

pub command_is : (phrases : List Phrase) → fault_after None false phrases ≡ None → command_by (fold values_after at_first phrases) phrases ≡ command_of phrases
unfolding command_of options_of
command_is phrases none = ap (λ (t : GivenValues). command_by t phrases) (values_are at_first None false phrases none)
