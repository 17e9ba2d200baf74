-- This project's own: what the code's words, options and phrases are in the grammar.
use Rattle.std.specs.Prelude.{List, [], ◌∷◌, Option, None, Some}
use Rattle.std.specs.Option.{option_copied}
use Rattle.lk_model.specs.Grammar as grammar
use Rattle.lk_command.specs.declared.meanings.Valued.{Valued}
use Rattle.lk_command.specs.declared.meanings.Valued.TheVariants as valued
use Rattle.lk_command.specs.declared.meanings.Flag.{Flag}
use Rattle.lk_command.specs.declared.meanings.Flag.TheVariants as flag
use Rattle.lk_command.specs.declared.meanings.Meaning.{Meaning}
use Rattle.lk_command.specs.declared.meanings.Meaning.TheVariants as meaning
use Rattle.lk_command.specs.declared.phrases.Phrase.{Phrase}
use Rattle.lk_command.specs.declared.phrases.Phrase.TheVariants as phrase
use Rattle.lk_command.specs.declared.reading.Step.{Step}
use Rattle.lk_command.specs.declared.reading.Step.TheVariants as step

-- an option that has a value
abbrev pub valued_seen : Valued → grammar.Valued
valued_seen valued.Output = grammar.Output
valued_seen valued.Entry = grammar.Entry
valued_seen valued.Dir = grammar.Dir
valued_seen valued.Library = grammar.Library
valued_seen valued.Interp = grammar.Interp
valued_seen valued.RunPath = grammar.RunPath
valued_seen valued.Machine = grammar.Machine
valued_seen valued.Base = grammar.Base
valued_seen valued.Patch = grammar.Patch
valued_seen valued.ThreadCount = grammar.ThreadCount

-- a word that is an option by itself
abbrev pub flag_seen : Flag → grammar.Flag
flag_seen flag.ExportDynamic = grammar.ExportDynamic
flag_seen (flag.InMode mode) = grammar.InMode mode
flag_seen (flag.Marked mark) = grammar.Marked mark
flag_seen flag.Threads = grammar.Threads
flag_seen flag.NoThreads = grammar.NoThreads
flag_seen flag.StartLib = grammar.StartLib
flag_seen flag.EndLib = grammar.EndLib

-- what a word is
abbrev pub meaning_seen : Meaning → grammar.Meaning
meaning_seen meaning.Meaningless = grammar.Meaningless
meaning_seen meaning.Path = grammar.Path
meaning_seen (meaning.Alone flag) = grammar.Alone (flag_seen flag)
meaning_seen (meaning.Apart option) = grammar.Apart (valued_seen option)
meaning_seen (meaning.Joined option value) = grammar.Joined (valued_seen option) value.now

-- an option with its value, and the other phrases
abbrev pub phrase_seen : Phrase → grammar.Phrase
phrase_seen (phrase.Wrong number) = grammar.Wrong number
phrase_seen (phrase.Named path) = grammar.Named path.now
phrase_seen (phrase.Flagged number flag) = grammar.Flagged number (flag_seen flag)
phrase_seen (phrase.Given given) =
    grammar.Given given.number (valued_seen given.option) given.at (option_copied given.value)

-- the phrase that a word ends
abbrev pub ended_by : Step → List grammar.Phrase
ended_by (step.Ends phrase) = phrase_seen phrase ∷ []
ended_by (step.Waits option) = []

-- the option that waits for its value after a word
abbrev pub waits_after : Step → Option grammar.Valued
waits_after (step.Ends phrase) = None
waits_after (step.Waits option) = Some (valued_seen option)
