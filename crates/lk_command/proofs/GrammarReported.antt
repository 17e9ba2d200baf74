-- What is reported of the phrases is reported of the words.
use Rattle.std.specs.Prelude.{◌≡◌, List, ℕ, fold, map, Option, None, Some, Result, Ok, Err}
use Rattle.std.proofs.Common.{sym, ap, ◌∙◌}
use Rattle.lk_report.specs.declared.faults.UsageFault.{UsageFault}
use Rattle.lk_model.specs.declared.commands.Command.{Command}
use Rattle.lk_model.specs.Checks.{first_fault}
use Rattle.lk_model.specs.Grammar.{command_in, command_unless, grammar, phrases_of, usage_checks}
use Rattle.lk_command.specs.declared.phrases.Phrase.{Phrase as Code}
use Rattle.lk_command.specs.Commands.{command_by}
use Rattle.lk_command.specs.Seen.{phrase_seen}
use Rattle.lk_command.specs.Values.{at_first, values_after}
use Rattle.lk_command.proofs.LastValues.{command_is}
use Rattle.lk_command.proofs.PhraseFaults.{no_phrase_fault}

-- the grammar at the phrases that were read
by_phrases : (words : List (List ℕ)) (read slice : List Code) → map phrase_seen read ≡ phrases_of words → slice ≡ read → grammar words ≡ command_in (map phrase_seen slice)
unfolding grammar
by_phrases words read slice e same =
    ap command_in (sym e) ∙ ap (λ (ps : List Code). command_in (map phrase_seen ps)) (sym same)

pub refused : (words : List (List ℕ)) (read slice : List Code) (f : UsageFault) → map phrase_seen read ≡ phrases_of words → slice ≡ read → Some f ≡ first_fault (usage_checks (map phrase_seen slice)) → grammar words ≡ Err f
refused words read slice f e same reported =
    by_phrases words read slice e same ∙ sym (ap (λ (o : Option UsageFault). command_unless o (map phrase_seen slice)) reported)

pub accepted : (words : List (List ℕ)) (read slice again : List Code) (command : Command) → map phrase_seen read ≡ phrases_of words → slice ≡ read → again ≡ read → None ≡ first_fault (usage_checks (map phrase_seen slice))
    → command ≡ command_by (fold values_after at_first (map phrase_seen again)) (map phrase_seen again) → grammar words ≡ Ok command
accepted words read slice again command e same too none made =
    by_phrases words read slice e same
    ∙ sym (ap (λ (o : Option UsageFault). command_unless o (map phrase_seen slice)) none)
    ∙ ap (λ (c : Command). let r : Result Command UsageFault = Ok c in r)
    (sym (command_is (map phrase_seen slice) (no_phrase_fault (map phrase_seen slice) none))
    ∙ ap (λ (ps : List Code). command_by (fold values_after at_first (map phrase_seen ps)) (map phrase_seen ps)) (same ∙ sym too)
    ∙ sym made)
