-- The first fault of a command by what is known of the phrases so far, which is all that the grammar's
-- checks ask of them.
use Rattle.std.specs.Prelude.{◌≡◌, refl, ℕ, Bool, true, false, ◌||◌, not, List, [], ◌∷◌, ◌++◌, fold, map, Option, Some, None}
use Rattle.std.specs.List.{list_any}
use Rattle.std.specs.Option.{option_or}
use Rattle.std.proofs.Common.{sym, ap, append_assoc, ◌∙◌}
use Rattle.std.proofs.lemmas.Grind.{fold-append}
use Rattle.std.proofs.lemmas.List.Folds.{list_any-append}
use Rattle.lk_report.specs.declared.faults.UsageFault.{UsageFault}
use Rattle.lk_report.specs.declared.faults.UsageFault.TheVariants as fault
use Rattle.lk_model.specs.Checks.{first_fault}
use Rattle.lk_model.specs.Grammar.{Phrase, Wrong, Named, Flagged, Given, ExportDynamic, InMode, Marked, Threads, NoThreads, StartLib, EndLib, checks_after, names_input, names_output, open_after, open_checks, open_lib_in, phrase_checks, usage_checks}
use Rattle.lk_command.specs.declared.phrases.Phrase.{Phrase as Code}
use Rattle.lk_command.specs.PhraseFaults.{checks_in, fault_after}
use Rattle.lk_command.specs.Seen.{phrase_seen}

-- the fault of two lists of checks is that of the first, or else that of the second
fault_joined : (xs ys : List (Bool × UsageFault)) → first_fault (xs ++ ys) ≡ option_or (first_fault xs) (first_fault ys)
fault_joined [] ys = refl
fault_joined ((true, f) ∷ xs) ys = refl
fault_joined ((false, f) ∷ xs) ys = fault_joined xs ys

-- the checks of a phrase ask only for the open lib group and for an output
checks_by : (earlier : List Phrase) (phrase : Phrase) → phrase_checks earlier phrase ≡ checks_in (open_lib_in earlier) (list_any names_output earlier) phrase
unfolding phrase_checks
checks_by earlier (Wrong n) = refl
checks_by earlier (Named path) = refl
checks_by earlier (Flagged n StartLib) = refl
checks_by earlier (Flagged n EndLib) = refl
checks_by earlier (Flagged n ExportDynamic) = refl
checks_by earlier (Flagged n (InMode mode)) = refl
checks_by earlier (Flagged n (Marked mark)) = refl
checks_by earlier (Flagged n Threads) = refl
checks_by earlier (Flagged n NoThreads) = refl
checks_by earlier (Given n option at value) = refl

or_false : (b c : Bool) → (b || (c || false)) ≡ (b || c)
or_false true c = refl
or_false false true = refl
or_false false false = refl

-- what is known after one more phrase
open_more : (earlier : List Phrase) (phrase : Phrase) → open_lib_in (earlier ++ phrase ∷ []) ≡ open_after (open_lib_in earlier) phrase
open_more earlier phrase = fold-append open_after None earlier (phrase ∷ [])

named_more : (earlier : List Phrase) (phrase : Phrase) → list_any names_output (earlier ++ phrase ∷ []) ≡ (list_any names_output earlier || names_output phrase)
named_more earlier phrase =
    list_any-append names_output earlier (phrase ∷ []) ∙ or_false (list_any names_output earlier) (names_output phrase)

-- the first fault of the phrases, or of the lib group that they leave open
after : (earlier phrases : List Phrase) (group : Option ℕ) (named : Bool) → open_lib_in earlier ≡ group → list_any names_output earlier ≡ named
    → first_fault (checks_after earlier phrases ++ open_checks (fold open_after group phrases)) ≡ fault_after group named phrases
unfolding checks_after
after earlier [] group named is_open is_named = refl
after earlier (phrase ∷ phrases) group named is_open is_named =
    let more = earlier ++ phrase ∷ [] in
    let rest = checks_after more phrases ++ open_checks (fold open_after (open_after group phrase) phrases) in
    ap first_fault (append_assoc (phrase_checks earlier phrase) (checks_after more phrases) (open_checks (fold open_after (open_after group phrase) phrases)))
    ∙ fault_joined (phrase_checks earlier phrase) rest
    ∙ ap (λ (checks : List (Bool × UsageFault)). option_or (first_fault checks) (first_fault rest))
    (checks_by earlier phrase
    ∙ ap (λ (g : Option ℕ). checks_in g (list_any names_output earlier) phrase) is_open
    ∙ ap (λ (n : Bool). checks_in group n phrase) is_named)
    ∙ ap (λ (f : Option UsageFault). option_or (first_fault (checks_in group named phrase)) f)
    (after more phrases (open_after group phrase) (named || names_output phrase)
    (open_more earlier phrase ∙ ap (λ (g : Option ℕ). open_after g phrase) is_open)
    (named_more earlier phrase ∙ ap (λ (n : Bool). n || names_output phrase) is_named))

-- the fault of a command whose phrases have none
abbrev input_fault : Bool → Option UsageFault
input_fault true = None
input_fault false = Some fault.NoInput

input_checked : (named : Bool) → first_fault ((not named, fault.NoInput) ∷ []) ≡ input_fault named
input_checked true = refl
input_checked false = refl

in_parts : (phrases : List Phrase) → first_fault (usage_checks phrases) ≡ option_or (fault_after None false phrases) (input_fault (list_any names_input phrases))
unfolding usage_checks
in_parts phrases =
    fault_joined (checks_after [] phrases ++ open_checks (open_lib_in phrases)) ((not (list_any names_input phrases), fault.NoInput) ∷ [])
    ∙ ap (λ (f : Option UsageFault). option_or f (first_fault ((not (list_any names_input phrases), fault.NoInput) ∷ []))) (after [] phrases None false refl refl)
    ∙ ap (λ (f : Option UsageFault). option_or (fault_after None false phrases) f) (input_checked (list_any names_input phrases))

any_seen : (phrases : List Code) → list_any (λ p. names_input (phrase_seen p)) phrases ≡ list_any names_input (map phrase_seen phrases)
any_seen [] = refl
any_seen (p ∷ ps) = ap (λ b. names_input (phrase_seen p) || b) (any_seen ps)

-- what the code reports
pub phrase_fault_reported : (phrases : List Phrase) (f : UsageFault) → Some f ≡ fault_after None false phrases → Some f ≡ first_fault (usage_checks phrases)
phrase_fault_reported phrases f e =
    ap (λ (o : Option UsageFault). option_or o (input_fault (list_any names_input phrases))) e ∙ sym (in_parts phrases)

pub input_reported : (phrases : List Code) (named : Bool) → None ≡ fault_after None false (map phrase_seen phrases) → named ≡ list_any (λ p. names_input (phrase_seen p)) phrases → input_fault named ≡ first_fault (usage_checks (map phrase_seen phrases))
input_reported phrases named none e =
    ap input_fault (e ∙ any_seen phrases)
    ∙ ap (λ (o : Option UsageFault). option_or o (input_fault (list_any names_input (map phrase_seen phrases)))) none
    ∙ sym (in_parts (map phrase_seen phrases))

-- words without a fault have none in their phrases
only_none : (a b : Option UsageFault) → None ≡ option_or a b → a ≡ None
only_none None b none = refl
only_none (Some f) b none = absurd (cc)

pub no_phrase_fault : (phrases : List Phrase) → None ≡ first_fault (usage_checks phrases) → fault_after None false phrases ≡ None
no_phrase_fault phrases none =
    only_none (fault_after None false phrases) (input_fault (list_any names_input phrases)) (none ∙ in_parts phrases)
