-- One word after another is looked up: what was found, what is missing, and where, as far as the words go.
use Rattle.std.proofs.Common.{◌≡◌, ◌+◌, ◌<◌, ◌≤◌, sym, ap, ◌∙◌, subst, arith, ℕ, List, [], ◌∷◌, ◌++◌, length, drop, get_or, Option, Some, None, Ok}
use Rattle.std.specs.Prelude.{Contains, IfSome}
use Rattle.std.specs.List.{AllByRecursion, filter_map, list_any}
use Rattle.std.proofs.lemmas.List.{drop_all, length-append}
use Rattle.lk_report.specs.FileMap.{FileMap}
use Rattle.lk_report.specs.declared.faults.Fault.{Fault}
use Rattle.lk_model.specs.declared.commands.Command.{Command}
use Rattle.lk_model.specs.declared.commands.Word.{Word}
use Rattle.lk_model.specs.Inputs.{path_of}
use Rattle.lk_outside.specs.FilesState.{FilesState}
use Rattle.lk_model.specs.declared.input_names.InputName.{InputName}
use Rattle.lk_inputs.specs.declared.input_words.InputWord.{InputWord}
use Rattle.lk_inputs.specs.Asked.{FrontAsked, MissesReported, OneMisses, Paths, is_missing, word_look_ups, word_places, words_look_ups, words_places}
use Rattle.lk_inputs.specs.LookUps.{WordReported}
use Rattle.lk_inputs.specs.Named.{named_in, word_seen, words_seen}
use Rattle.lk_inputs.specs.FileAnswers.{reads_with}
use Rattle.lk_inputs.proofs.PlacesAsked.{all_more, missed_same, row_places, row_stopped}
use Rattle.lk_inputs.proofs.TurnsTaken.{AskedUpTo, all_asked, up_to_end}
use Rattle.lk_inputs.proofs.WordsSought.{given_next, next_item, none_next}

-- ---- what one word gives

pub word_found : (command : Command) (there : FileMap) (row : ℕ × Word) (o : Option InputName) (name : InputName) → o ≡ Some name → WordReported command there row (Ok o) → named_in command there row ≡ Some name
word_found command there row None name is reported = absurd (cc)
word_found command there row (Some n) name is reported = reported ∙ is

pub word_missing : (command : Command) (there : FileMap) (row : ℕ × Word) (o : Option InputName) → o ≡ None → WordReported command there row (Ok o) → path_of command there row.1 ≡ None
word_missing command there row None is reported = reported
word_missing command there row (Some n) is reported = absurd (cc)

pub row_gives : {Y : Type 0} (h : ℕ × Word → Option Y) (rows : List InputWord) (i : ℕ) (row : InputWord) (got new all : List Y) (y : Y) → i < length rows → row ≡ get_or rows i row → h (word_seen row) ≡ Some y → new ≡ got ++ y ∷ []
    → got ++ filter_map h (words_seen (drop i rows)) ≡ all → new ++ filter_map h (words_seen (drop (i + 1) rows)) ≡ all
row_gives {Y} h rows i row got new all y lt e gives is so =
    ap (λ (l : List Y). l ++ filter_map h (words_seen (drop (i + 1) rows))) is
    ∙ given_next h got (word_seen row) (words_seen (drop (i + 1) rows)) y gives
    ∙ ap (λ (rs : List InputWord). got ++ filter_map h (words_seen rs)) (sym (next_item rows i row lt e))
    ∙ so

pub row_gives_none : {Y : Type 0} (h : ℕ × Word → Option Y) (rows : List InputWord) (i : ℕ) (row : InputWord) (got new all : List Y) → i < length rows → row ≡ get_or rows i row → h (word_seen row) ≡ None → new ≡ got
    → got ++ filter_map h (words_seen (drop i rows)) ≡ all → new ++ filter_map h (words_seen (drop (i + 1) rows)) ≡ all
row_gives_none {Y} h rows i row got new all lt e gives is so =
    ap (λ (l : List Y). l ++ filter_map h (words_seen (drop (i + 1) rows))) is
    ∙ none_next h got (word_seen row) (words_seen (drop (i + 1) rows)) gives
    ∙ ap (λ (rs : List InputWord). got ++ filter_map h (words_seen rs)) (sym (next_item rows i row lt e))
    ∙ so

pub found_misses : (faults kept : List Fault) (old mid new : FilesState) (o : Option InputName) (name : InputName) → kept ≡ faults → o ≡ Some name → OneMisses mid (Ok o) new → MissesReported (list_any is_missing faults) old mid → MissesReported (list_any is_missing kept) old new
found_misses faults kept old mid new None name same is missed h = absurd (cc)
found_misses faults kept old mid new (Some n) name same is missed h =
    let P : List Fault → Type 0 = λ fs. MissesReported (list_any is_missing fs) old new in
    subst P (sym same) (missed_same (list_any is_missing faults) old mid new h missed)

pub found_placed : (command : Command) (rows : List InputWord) (i : ℕ) (row : InputWord) (got new : List InputName) (o : Option InputName) (name : InputName) → i < length rows → row ≡ get_or rows i row → new ≡ got ++ name ∷ [] → o ≡ Some name
    → IfSome o (λ (n : InputName). Contains (word_places command (word_seen row)) n.path) → AllByRecursion (λ (n : InputName). Contains (words_places command (words_seen rows)) n.path) got
    → AllByRecursion (λ (n : InputName). Contains (words_places command (words_seen rows)) n.path) new
found_placed command rows i row got new None name lt e new_is is at h = absurd (cc)
found_placed command rows i row got new (Some n) name lt e new_is is at h =
    let P : InputName → Type 0 = λ (m : InputName). Contains (words_places command (words_seen rows)) m.path in
    let the_same : n ≡ name = cc in
    let Q : InputName → Type 0 = λ (m : InputName). Contains (word_places command (word_seen row)) m.path in
    subst (AllByRecursion P) (sym new_is) (all_more P got name h (row_places command rows i row name.path lt e (subst Q the_same at)))

pub same_placed : (places : List (List ℕ)) (got new : List InputName) → new ≡ got → AllByRecursion (λ (n : InputName). Contains places n.path) got → AllByRecursion (λ (n : InputName). Contains places n.path) new
same_placed places got new is h = subst (AllByRecursion (λ (n : InputName). Contains places n.path)) (sym is) h

pub more_within : (got new : List InputName) (name : InputName) (i : ℕ) → new ≡ got ++ name ∷ [] → length got ≤ i → length new ≤ i + 1
more_within got new name i is h =
    let long : length new ≡ length (got ++ name ∷ []) = ap length is in
    let one : length (got ++ name ∷ []) ≡ length got + 1 = length-append got (name ∷ []) in
    omega arith

pub same_within : (got new : List InputName) (i : ℕ) → new ≡ got → length got ≤ i → length new ≤ i + 1
same_within got new i is h =
    let long : length new ≡ length got = ap length is in
    omega arith

-- ---- the words that were looked up

pub row_ended : (command : Command) (there : FileMap) (before mid after : Paths) (rows : List InputWord) (i : ℕ) (row : InputWord) → i < length rows → row ≡ get_or rows i row
    → AskedUpTo before (words_look_ups command there (words_seen rows)) (words_look_ups command there (words_seen (drop i rows))) mid → after ≡ reads_with (word_look_ups command there (word_seen row)) mid
    → FrontAsked before (words_look_ups command there (words_seen rows)) after
row_ended command there before mid after rows i row lt e so asked =
    row_stopped command there before mid after rows i row lt e so (all_asked mid after (word_look_ups command there (word_seen row)) asked)

pub rows_ended : (command : Command) (there : FileMap) (before after : Paths) (rows : List InputWord) (i : ℕ) → length rows ≤ i
    → AskedUpTo before (words_look_ups command there (words_seen rows)) (words_look_ups command there (words_seen (drop i rows))) after → after ≡ reads_with (words_look_ups command there (words_seen rows)) before
rows_ended command there before after rows i past so =
    let P : List InputWord → Type 0 = λ (rs : List InputWord). AskedUpTo before (words_look_ups command there (words_seen rows)) (words_look_ups command there (words_seen rs)) after in
    up_to_end before after (words_look_ups command there (words_seen rows)) (subst P (drop_all i rows past) so)
