-- The texts of a command hold no zero byte, and its numbers are small: words and values that hold one are
-- refused.
use Rattle.std.specs.Prelude.{◌≡◌, refl, ℕ, ◌+◌, ◌≤◌, ◌==◌, Bool, true, false, not, if◌then◌else◌, List, [], ◌∷◌, ◌++◌, bytes_eq, codes, find, flat_map, length, nat_le, Option, Some, None}
use Rattle.std.specs.List.{AllByRecursion, join_with_byte, list_any}
use Rattle.std.proofs.Common.{arith, sym, ◌∙◌, length-append}
use Rattle.std.proofs.lemmas.Bool.{and_parts, leb-true, or_from}
use Rattle.std.proofs.lemmas.List.Folds.{list_any-append}
use Rattle.lk_report.specs.declared.faults.UsageFault.{UsageFault}
use Rattle.lk_report.specs.declared.faults.UsageFault.TheVariants as usage
use Rattle.lk_model.specs.Grammar.{Valued, Meaning, Phrase, checks_after, dirs_of, holds_zero, is_bad_number, is_number_in, meaning_of, number_in, open_checks, open_lib_in, options_of, phrase_checks, phrase_ended, phrase_of, phrases_from, run_dirs_of, usage_checks, waiting_after, whole_words, with_entry, with_interp, with_patch, word_meaning, names_input}
use Rattle.lk_model.specs.Grammar.Meaning.{Meaningless, Path, Alone, Apart, Joined}
use Rattle.lk_model.specs.Grammar.Phrase.{Wrong, Named, Flagged, Given}
use Rattle.lk_model.specs.Grammar.Valued.{Output, Entry, Dir, Library, Interp, RunPath, Machine, Base, Patch, ThreadCount}
use Rattle.lk_law_records.specs.Recordable.{OptionsFit, has_zero}
use Rattle.lk_law_records.proofs.Lists.{all-append, all-flat, fold-keeps}
use Rattle.lk_law_records.proofs.NoFaults.{NoFault, all-false, none-both}

-- ---- phrases

-- the path that a word is
abbrev pub NamedFits : Phrase → Type 0
NamedFits (Named path) = has_zero path ≡ false
NamedFits other = Unit {0}

-- the value of an option; the room for growth is at most 500 percent
abbrev pub ValueFits : Valued → List ℕ → Type 0
ValueFits Patch value = (has_zero value ≡ false) × (number_in value ≤ 500)
ValueFits other value = has_zero value ≡ false

abbrev pub GivenFits : Phrase → Type 0
GivenFits (Given number option at (Some value)) = ValueFits option value
GivenFits other = Unit {0}

meaning-named : (n : ℕ) (word : List ℕ) → AllByRecursion NamedFits (phrase_of n word (meaning_of word))
unfolding meaning_of
meaning-named n word = go (holds_zero word) refl
  where
    go : (b : Bool) → holds_zero word ≡ b
        → AllByRecursion NamedFits (phrase_of n word (if b then Meaningless else word_meaning word (find (λ (row : List ℕ × Meaning). bytes_eq row.0 word) whole_words)))
    go true e = (tt, tt)
    go false e = by (word_meaning word (find (λ (row : List ℕ × Meaning). bytes_eq row.0 word) whole_words))
      where
        by : (m : Meaning) → AllByRecursion NamedFits (phrase_of n word m)
        by Meaningless = (tt, tt)
        by Path = (e, tt)
        by (Alone flag) = (tt, tt)
        by (Apart option) = tt
        by (Joined option value) = (tt, tt)

ended-named : (n : ℕ) (waiting : Option Valued) (word : List ℕ) → AllByRecursion NamedFits (phrase_ended n waiting word)
ended-named n None word = meaning-named n word
ended-named n (Some option) word = (tt, tt)

pub phrases-named : (n : ℕ) (waiting : Option Valued) (words : List (List ℕ)) → AllByRecursion NamedFits (phrases_from n waiting words)
unfolding phrases_from
phrases-named n None [] = tt
phrases-named n (Some option) [] = (tt, tt)
phrases-named n waiting (word ∷ words) =
    all-append NamedFits (phrase_ended n waiting word) (phrases_from (n + 1) (waiting_after waiting word) words)
    (ended-named n waiting word) (phrases-named (n + 1) (waiting_after waiting word) words)

ended-few : (n : ℕ) (waiting : Option Valued) (word : List ℕ) → length (phrase_ended n waiting word) ≤ 1
ended-few n None word = go (meaning_of word)
  where
    go : (m : Meaning) → length (phrase_of n word m) ≤ 1
    go Meaningless = omega arith
    go Path = omega arith
    go (Alone flag) = omega arith
    go (Apart option) = omega arith
    go (Joined option value) = omega arith
ended-few n (Some option) word = omega arith

pub phrases-few : (n : ℕ) (waiting : Option Valued) (words : List (List ℕ)) → length (phrases_from n waiting words) ≤ length words + 1
unfolding phrases_from
phrases-few n None [] = omega arith
phrases-few n (Some option) [] = omega arith
phrases-few n waiting (word ∷ words) =
    let own = ended-few n waiting word in
    let more = phrases-few (n + 1) (waiting_after waiting word) words in
    let all = length-append (phrase_ended n waiting word) (phrases_from (n + 1) (waiting_after waiting word) words) in
    omega (arith, own, more, all)

-- ---- values

patch-fits : (value : List ℕ) → not (is_number_in 0 500 value) ≡ false → number_in value ≤ 500
patch-fits value good = leb-true (number_in value) 500 (and_parts _ (nat_le (number_in value) 500) (shown (is_number_in 0 500 value) good)).1
  where
    shown : (b : Bool) → not b ≡ false → b ≡ true
    shown true e = refl
    shown false e = sym e

value-fits : (option : Valued) (value : List ℕ) → has_zero value ≡ false → is_bad_number option value ≡ false → ValueFits option value
value-fits Patch value clean good = (clean, patch-fits value good)
value-fits Output value clean good = clean
value-fits Entry value clean good = clean
value-fits Dir value clean good = clean
value-fits Library value clean good = clean
value-fits Interp value clean good = clean
value-fits RunPath value clean good = clean
value-fits Machine value clean good = clean
value-fits Base value clean good = clean
value-fits ThreadCount value clean good = clean

phrase-given : (earlier : List Phrase) (phrase : Phrase) → NoFault (phrase_checks earlier phrase) → GivenFits phrase
unfolding phrase_checks
phrase-given earlier (Wrong number) none = tt
phrase-given earlier (Named path) none = tt
phrase-given earlier (Flagged number flag) none = tt
phrase-given earlier (Given number option at None) none = tt
phrase-given earlier (Given number option at (Some value)) none =
    let each = all-false (phrase_checks earlier (Given number option at (Some value))) none in
    value-fits option value each.1.1.0 each.1.1.1.1.0

phrases-given : (earlier phrases : List Phrase) → NoFault (checks_after earlier phrases) → AllByRecursion GivenFits phrases
unfolding checks_after
phrases-given earlier [] none = tt
phrases-given earlier (phrase ∷ phrases) none =
    let both = none-both (phrase_checks earlier phrase) (checks_after (earlier ++ phrase ∷ []) phrases) none in
    (phrase-given earlier phrase both.0, phrases-given (earlier ++ phrase ∷ []) phrases both.1)

pub given-of-checks : (phrases : List Phrase) → NoFault (usage_checks phrases) → AllByRecursion GivenFits phrases
unfolding usage_checks
given-of-checks phrases none =
    let last : List (Bool × UsageFault) = (not (list_any names_input phrases), usage.NoInput) ∷ [] in
    let two = (none-both (checks_after [] phrases ++ open_checks (open_lib_in phrases)) last none).0 in
    phrases-given [] phrases (none-both (checks_after [] phrases) (open_checks (open_lib_in phrases)) two).0

-- ---- options

abbrev pub IsClean : List ℕ → Type 0
IsClean text = has_zero text ≡ false

entry-clean : (old : List ℕ) (phrase : Phrase) → IsClean old → GivenFits phrase → IsClean (with_entry old phrase)
entry-clean old (Given number Entry at (Some value)) own fits = fits
entry-clean old other own fits = own

interp-clean : (old : List ℕ) (phrase : Phrase) → IsClean old → GivenFits phrase → IsClean (with_interp old phrase)
interp-clean old (Given number Interp at (Some value)) own fits = fits
interp-clean old other own fits = own

patch-low : (old : ℕ) (phrase : Phrase) → old ≤ 500 → GivenFits phrase → with_patch old phrase ≤ 500
patch-low old (Given number Patch at (Some value)) own fits = fits.1
patch-low old other own fits = own

join-clean : (texts : List (List ℕ)) → AllByRecursion IsClean texts → IsClean (join_with_byte 58 texts)
join-clean [] all = refl
join-clean (x ∷ []) (here, more) = here
join-clean (x ∷ y ∷ xs) (here, more) =
    list_any-append (λ b. b == 0) x (58 ∷ join_with_byte 58 (y ∷ xs)) ∙ or_from (has_zero x) (has_zero (join_with_byte 58 (y ∷ xs))) here (join-clean (y ∷ xs) more)

run-dirs-clean : (phrase : Phrase) → GivenFits phrase → AllByRecursion IsClean (run_dirs_of phrase)
run-dirs-clean (Given number RunPath at (Some value)) fits = (fits, tt)
run-dirs-clean other fits = tt

pub dirs-clean : (phrase : Phrase) → GivenFits phrase → AllByRecursion IsClean (dirs_of phrase)
dirs-clean (Given number Dir at (Some value)) fits = (fits, tt)
dirs-clean other fits = tt

pub options-fit : (phrases : List Phrase) → AllByRecursion GivenFits phrases → OptionsFit (options_of phrases)
unfolding options_of
options-fit phrases all =
    let patch = fold-keeps (λ n. n ≤ 500) GivenFits with_patch patch-low 10 phrases (omega arith) all in
    record {
      entry = fold-keeps IsClean GivenFits with_entry entry-clean (codes "_start") phrases refl all;
      interp = fold-keeps IsClean GivenFits with_interp interp-clean [] phrases refl all;
      runpath = join-clean (flat_map run_dirs_of phrases) (all-flat IsClean GivenFits run_dirs_of run-dirs-clean phrases all);
      patch = omega (arith, patch);
    }
