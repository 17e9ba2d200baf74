-- This project's own: the faults of phrases, by what is known of those before them.
use Rattle.std.specs.Prelude.{ℕ, Bool, true, ◌||◌, ◌&&◌, List, [], ◌∷◌, Option, is_some, is_none}
use Rattle.std.specs.Option.{option_or}
use Rattle.lk_report.specs.declared.faults.UsageFault.{UsageFault}
use Rattle.lk_report.specs.declared.faults.UsageFault.TheVariants as fault
use Rattle.lk_model.specs.Checks.{first_fault, is_some_with}
use Rattle.lk_model.specs.Grammar.{Phrase, Wrong, Named, Flagged, Given, Flag, StartLib, EndLib, Valued, holds_zero, is_bad_number, is_missing, is_other_machine, is_output, names_output, open_after, open_checks}

-- the checks of a word that is an option by itself, where a lib group may be open
abbrev pub flag_checks_in : Option ℕ → ℕ → Flag → List (Bool × UsageFault)
flag_checks_in open_lib number StartLib = (is_some open_lib, fault.NestedLib number) ∷ []
flag_checks_in open_lib number EndLib = (is_none open_lib, fault.NoLibOpen number) ∷ []
flag_checks_in open_lib number other = []

-- the checks of an option with its value, where an output may have been named
abbrev pub given_checks_in : Bool → ℕ → Valued → ℕ → Option (List ℕ) → List (Bool × UsageFault)
given_checks_in named number option at value =
    (is_missing value, fault.MissingValue number)
    ∷ (is_output option && named, fault.TwoOutputs number)
    ∷ (is_some_with holds_zero value, fault.UnknownWord at)
    ∷ (is_some_with (is_other_machine option) value, fault.UnknownWord at)
    ∷ (is_some_with (is_bad_number option) value, fault.BadNumber at)
    ∷ []

-- the checks of a phrase
abbrev pub checks_in : Option ℕ → Bool → Phrase → List (Bool × UsageFault)
checks_in open_lib named (Wrong number) = (true, fault.UnknownWord number) ∷ []
checks_in open_lib named (Named path) = []
checks_in open_lib named (Flagged number flag) = flag_checks_in open_lib number flag
checks_in open_lib named (Given number option at value) = given_checks_in named number option at value

-- the first fault of phrases, or of the lib group that is open at their end
abbrev pub fault_after : Option ℕ → Bool → List Phrase → Option UsageFault
fault_after open_lib named [] = first_fault (open_checks open_lib)
fault_after open_lib named (phrase ∷ phrases) =
    option_or (first_fault (checks_in open_lib named phrase))
    (fault_after (open_after open_lib phrase) (named || names_output phrase) phrases)
