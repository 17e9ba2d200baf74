-- The inputs that a command names: their words hold no zero byte, and there are no more than the words.
use Rattle.std.specs.Prelude.{◌≡◌, refl, ℕ, ◌+◌, ◌^◌, ◌≤◌, true, false, List, [], ◌∷◌, ◌++◌, fold, length, map, Option, Some, None, Ok}
use Rattle.std.specs.List.{AllByRecursion}
use Rattle.std.proofs.Common.{arith, subst, length-append}
use Rattle.std.proofs.lemmas.List.{length-map}
use Rattle.lk_report.specs.declared.faults.UsageFault.{UsageFault}
use Rattle.lk_model.specs.Checks.{first_fault}
use Rattle.lk_model.specs.Grammar.{Phrase, Listed, command_of, command_unless, dirs_of, ended_group, grammar, items_of, nothing_listed, phrases_of, put_word, usage_checks, with_input}
use Rattle.lk_model.specs.Grammar.Flag.{Marked, StartLib, EndLib}
use Rattle.lk_model.specs.Grammar.Phrase.{Named, Flagged, Given}
use Rattle.lk_model.specs.Grammar.Valued.{Library}
use Rattle.lk_model.specs.Inputs.{words_from}
use Rattle.lk_model.specs.declared.commands.Command.{Command}
use Rattle.lk_model.specs.declared.commands.Item.{Item}
use Rattle.lk_model.specs.declared.commands.Item.TheVariants.{One, Lib}
use Rattle.lk_model.specs.declared.commands.Mark.{Mark}
use Rattle.lk_model.specs.declared.commands.Word.{Word}
use Rattle.lk_law_records.specs.CommandFits.{CommandFits}
use Rattle.lk_law_records.specs.RecordedLaws.{CommandsFit}
use Rattle.lk_law_records.proofs.CommandTexts.{GivenFits, IsClean, NamedFits, dirs-clean, given-of-checks, options-fit, phrases-few, phrases-named}
use Rattle.lk_law_records.proofs.Lists.{all-append, all-both, all-flat}

-- ---- items

abbrev CleanWord : Word → Type 0
CleanWord word = IsClean word.text

abbrev CleanItem : Item → Type 0
CleanItem (One word) = CleanWord word
CleanItem (Lib words) = AllByRecursion CleanWord words

abbrev count_words : List Item → ℕ
count_words [] = 0
count_words (One word ∷ items) = 1 + count_words items
count_words (Lib words ∷ items) = length words + count_words items

count-append : (xs ys : List Item) → count_words (xs ++ ys) ≡ count_words xs + count_words ys
count-append [] ys = omega arith
count-append (One word ∷ xs) ys = let more = count-append xs ys in omega (arith, more)
count-append (Lib words ∷ xs) ys = let more = count-append xs ys in omega (arith, more)

length-words : (n : ℕ) (items : List Item) → length (words_from n items) ≡ count_words items
unfolding words_from
length-words n [] = refl
length-words n (One word ∷ items) = let more = length-words n items in omega (arith, more)
length-words n (Lib words ∷ items) =
    let more = length-words (n + 1) items in
    let own = length-map {B = ℕ × Word} words (λ word. (n, word)) in
    let all = length-append (map (λ word. (n, word)) words) (words_from (n + 1) items) in
    omega (arith, more, own, all)

clean-lib : (n : ℕ) (words : List Word) → AllByRecursion CleanWord words → AllByRecursion (λ (row : ℕ × Word). IsClean row.1.text) (map (λ word. (n, word)) words)
clean-lib n [] all = tt
clean-lib n (word ∷ words) (here, more) = (here, clean-lib n words more)

clean-words : (n : ℕ) (items : List Item) → AllByRecursion CleanItem items → AllByRecursion (λ (row : ℕ × Word). IsClean row.1.text) (words_from n items)
unfolding words_from
clean-words n [] all = tt
clean-words n (One word ∷ items) (here, more) = (here, clean-words n items more)
clean-words n (Lib words ∷ items) (here, more) =
    all-append (λ (row : ℕ × Word). IsClean row.1.text) (map (λ word. (n, word)) words) (words_from (n + 1) items) (clean-lib n words here) (clean-words (n + 1) items more)

-- ---- what is listed so far

abbrev CleanOpen : Option (List Word) → Type 0
CleanOpen None = Unit {0}
CleanOpen (Some words) = AllByRecursion CleanWord words

abbrev open_items : Option (List Word) → ℕ
open_items None = 0
open_items (Some words) = 1

abbrev open_count : Option (List Word) → ℕ
open_count None = 0
open_count (Some words) = length words

-- after so many phrases
record ListedFits (k : ℕ) (mark : Mark) (open_words : Option (List Word)) (items : List Item) : Type 0 where
  open_clean : CleanOpen open_words
  clean : AllByRecursion CleanItem items
  few : length items + open_items open_words ≤ k
  count : count_words items + open_count open_words ≤ k

abbrev Fits : ℕ → Listed → Type 0
Fits k l = ListedFits k l.mark l.open_words l.items

later : (k : ℕ) (mark other : Mark) (open_words : Option (List Word)) (items : List Item) → ListedFits k mark open_words items → ListedFits (k + 1) other open_words items
later k mark other open_words items fits =
    let few = fits.few in
    let count = fits.count in
    record { open_clean = fits.open_clean; clean = fits.clean; few = omega (arith, few); count = omega (arith, count) }

put-fits : (k : ℕ) (mark : Mark) (open_words : Option (List Word)) (items : List Item) (word : Word) → ListedFits k mark open_words items → CleanWord word → Fits (k + 1) (put_word mark open_words items word)
unfolding put_word
put-fits k mark None items word fits own =
    let few = fits.few in
    let count = fits.count in
    let long = length-append items (One word ∷ []) in
    let all = count-append items (One word ∷ []) in
    record {
      open_clean = tt;
      clean = all-append CleanItem items (One word ∷ []) fits.clean (own, tt);
      few = omega (arith, few, long);
      count = omega (arith, count, all);
    }
put-fits k mark (Some words) items word fits own =
    let few = fits.few in
    let count = fits.count in
    let long = length-append words (word ∷ []) in
    record {
      open_clean = all-append CleanWord words (word ∷ []) fits.open_clean (own, tt);
      clean = fits.clean;
      few = omega (arith, few);
      count = omega (arith, count, long);
    }

started-fits : (k : ℕ) (mark : Mark) (open_words : Option (List Word)) (items : List Item) → ListedFits k mark open_words items → ListedFits (k + 1) mark (Some []) items
started-fits k mark open_words items fits =
    let few = fits.few in
    let count = fits.count in
    record { open_clean = tt; clean = fits.clean; few = omega (arith, few); count = omega (arith, count) }

ended-fits : (k : ℕ) (mark : Mark) (open_words : Option (List Word)) (items : List Item) → ListedFits k mark open_words items → ListedFits (k + 1) mark None (items ++ ended_group open_words)
ended-fits k mark None items fits =
    let few = fits.few in
    let count = fits.count in
    let long = length-append items [] in
    let all = count-append items [] in
    record { open_clean = tt; clean = all-append CleanItem items [] fits.clean tt; few = omega (arith, few, long); count = omega (arith, count, all) }
ended-fits k mark (Some words) items fits =
    let few = fits.few in
    let count = fits.count in
    let long = length-append items (Lib words ∷ []) in
    let all = count-append items (Lib words ∷ []) in
    record {
      open_clean = tt;
      clean = all-append CleanItem items (Lib words ∷ []) fits.clean (fits.open_clean, tt);
      few = omega (arith, few, long);
      count = omega (arith, count, all);
    }

abbrev PhraseFits : Phrase → Type 0
PhraseFits phrase = NamedFits phrase × GivenFits phrase

input-listed : (k : ℕ) (old : Listed) (phrase : Phrase) → Fits k old → PhraseFits phrase → Fits (k + 1) (with_input old phrase)
unfolding with_input
input-listed k old (Named path) fits own =
    put-fits k old.mark old.open_words old.items (record { text = path; library = false; mark = old.mark }) fits own.0
input-listed k old (Given number Library at (Some name)) fits own =
    put-fits k old.mark old.open_words old.items (record { text = name; library = true; mark = old.mark }) fits own.1
input-listed k old (Flagged number (Marked mark)) fits own = later k old.mark mark old.open_words old.items fits
input-listed k old (Flagged number StartLib) fits own = started-fits k old.mark old.open_words old.items fits
input-listed k old (Flagged number EndLib) fits own = ended-fits k old.mark old.open_words old.items fits
input-listed k old other fits own = later k old.mark old.mark old.open_words old.items fits

all-listed : (k : ℕ) (old : Listed) (phrases : List Phrase) → Fits k old → AllByRecursion PhraseFits phrases → Fits (k + length phrases) (fold with_input old phrases)
all-listed k old [] fits all =
    let few = fits.few in
    let count = fits.count in
    record { open_clean = fits.open_clean; clean = fits.clean; few = omega (arith, few); count = omega (arith, count) }
all-listed k old (phrase ∷ phrases) fits (here, more) =
    let rest = all-listed (k + 1) (with_input old phrase) phrases (input-listed k old phrase fits here) more in
    let few = rest.few in
    let count = rest.count in
    record { open_clean = rest.open_clean; clean = rest.clean; few = omega (arith, few); count = omega (arith, count) }

-- ---- the command

command-fits : (phrases : List Phrase) → length phrases ≤ 2 ^ 30 → AllByRecursion NamedFits phrases → AllByRecursion GivenFits phrases → CommandFits (command_of phrases)
unfolding command_of
command-fits phrases short named given =
    let start : Fits 0 nothing_listed = record { open_clean = tt; clean = tt; few = omega arith; count = omega arith } in
    let listed = all-listed 0 nothing_listed phrases start (all-both NamedFits GivenFits phrases named given) in
    let few = listed.few in
    let count = listed.count in
    let words = length-words 1 (items_of phrases) in
    record {
      options = options-fit phrases given;
      items = omega (arith, few, short);
      count = omega (arith, words, count, short);
      words = clean-words 1 (items_of phrases) listed.clean;
      dirs = all-flat IsClean GivenFits dirs_of dirs-clean phrases given;
    }

accepted : (o : Option UsageFault) (phrases : List Phrase) (c : Command) → command_unless o phrases ≡ Ok c → (o ≡ None) × (command_of phrases ≡ c)
accepted None phrases c e = (refl, (let is : command_of phrases ≡ c = cc in is))
accepted (Some fault) phrases c e = absurd (cc)

pub commands-fit : CommandsFit
unfolding grammar
commands-fit words c e short =
    let phrases = phrases_of words in
    let found = accepted (first_fault (usage_checks phrases)) phrases c e in
    let few = phrases-few 1 None words in
    subst CommandFits found.1 (command-fits phrases (omega (arith, few, short)) (phrases-named 1 None words) (given-of-checks phrases found.0))
