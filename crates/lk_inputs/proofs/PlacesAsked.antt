-- Places that are looked at one after another, and words that are looked up one after another: which paths were
-- asked for, which places these are, and whether a file that is not there was counted.
use Rattle.std.proofs.Common.{◌≡◌, ◌+◌, ◌<◌, refl, sym, ap, ◌∙◌, subst, arith, ℕ, zero, suc, Bool, true, false, cond, ◌||◌, List, [], ◌∷◌, ◌++◌, length, drop, get_or, Option, Some, None, Result, Ok, Err, inl, inr}
use Rattle.std.specs.Prelude.{Contains, IfOk, find, is_some}
use Rattle.std.specs.List.{AllByRecursion, list_any}
use Rattle.std.proofs.lemmas.List.Elements.{Contains-append_left, Contains-append_right}
use Rattle.lk_report.specs.FileMap.{FileMap, FileRow}
use Rattle.lk_report.specs.Spoken.{Rose}
use Rattle.lk_report.specs.declared.faults.Fault.{Fault}
use Rattle.lk_report.specs.declared.faults.Fault.TheVariants as fault
use Rattle.lk_report.specs.declared.statuses.Status.{Status}
use Rattle.lk_report.specs.declared.statuses.Status.TheVariants as status
use Rattle.lk_model.specs.declared.commands.Command.{Command}
use Rattle.lk_model.specs.declared.commands.Word.{Word}
use Rattle.lk_model.specs.Inputs.{input_words, is_there}
use Rattle.lk_outside.specs.FilesState.{FilesState}
use Rattle.lk_model.specs.declared.input_names.InputName.{InputName}
use Rattle.lk_inputs.specs.declared.input_words.InputWord.{InputWord}
use Rattle.lk_inputs.specs.declared.look_ups.FoundFile.{FoundFile}
use Rattle.lk_inputs.specs.declared.unread.Unread.{Unread}
use Rattle.lk_inputs.specs.declared.unread.Unread.TheVariants as unread
use Rattle.lk_inputs.specs.declared.word_look_ups.Sought.{Sought}
use Rattle.lk_inputs.specs.Asked.{AskedInTurn, FrontAsked, LookUpsAsked, MissedMaybe, MissesReported, OneMisses, Paths, UnreadNamed, WordsMiss, all_places, has_library, is_missing, look_ups_of, looked_up_to, word_look_ups, word_places, words_look_ups, words_places}
use Rattle.lk_inputs.specs.LookUps.{PlaceReported, SoughtGives}
use Rattle.lk_inputs.specs.Named.{word_seen, words_seen}
use Rattle.lk_inputs.specs.FileAnswers.{reads_with}
use Rattle.lk_inputs.specs.Unread.{unread_status}
use Rattle.lk_inputs.proofs.TurnsTaken.{AskedUpTo, up_to_next, up_to_stop}
use Rattle.lk_inputs.proofs.WordsSought.{next_item}

pub in_turn_stopped : {X : Type 0} (before after : Paths) (all : List (List ℕ)) (u : Unread) (result : Result X Unread) → result ≡ Err u → FrontAsked before all after → AskedInTurn before all result after
in_turn_stopped {X} before after all u result is f =
    let R : Result X Unread → Type 0 = λ r. AskedInTurn before all r after in
    subst R (sym is) f

-- ---- places

pub none_there : (there : FileMap) (path : List ℕ) (o : Option FoundFile) → o ≡ None → PlaceReported there path (Ok o) → there path ≡ None
none_there there path None e h = h
none_there there path (Some place) e h = absurd (cc)

pub one_missed : {X : Type 0} (old new : FilesState) (o : Option X) → o ≡ None → OneMisses old (Ok o) new → Rose old.misses new.misses
one_missed old new None e h = h
one_missed old new (Some x) e h = absurd (cc)

pub find_next : (there : FileMap) (places : List (List ℕ)) (i : ℕ) (path : List ℕ) → i < length places → path ≡ get_or places i path → there path ≡ None → find (is_there there) (drop (i + 1) places) ≡ find (is_there there) (drop i places)
find_next there places i path h e none =
    sym (ap (find (is_there there)) (next_item places i path h e) ∙ ap (λ (o : Option FileRow). cond (is_some o) (Some path) (find (is_there there) (drop (i + 1) places))) none)

pub place_next : (there : FileMap) (before mid after : Paths) (places : List (List ℕ)) (i : ℕ) (path : List ℕ) → i < length places → path ≡ get_or places i path → there path ≡ None
    → AskedUpTo before (looked_up_to there places) (looked_up_to there (drop i places)) mid → after ≡ reads_with (path ∷ []) mid → AskedUpTo before (looked_up_to there places) (looked_up_to there (drop (i + 1) places)) after
place_next there before mid after places i path h e none so asked =
    up_to_next before mid after (looked_up_to there places) (looked_up_to there (drop i places)) (path ∷ []) (looked_up_to there (drop (i + 1) places)) so
    (ap (looked_up_to there) (next_item places i path h e) ∙ ap (λ (o : Option FileRow). path ∷ cond (is_some o) [] (looked_up_to there (drop (i + 1) places))) none) asked

pub place_stopped : (there : FileMap) (before mid after : Paths) (places : List (List ℕ)) (i : ℕ) (path : List ℕ) → i < length places → path ≡ get_or places i path
    → AskedUpTo before (looked_up_to there places) (looked_up_to there (drop i places)) mid → FrontAsked mid (path ∷ []) after → FrontAsked before (looked_up_to there places) after
place_stopped there before mid after places i path h e so f =
    up_to_stop before mid after (looked_up_to there places) (looked_up_to there (drop i places)) (path ∷ []) (cond (is_some (there path)) [] (looked_up_to there (drop (i + 1) places))) so
    (ap (looked_up_to there) (next_item places i path h e)) f

rose_again : (a b c : ℕ) → Rose a b → Rose b c → Rose a c
rose_again a b c h k = omega arith

pub missed_next : (i : ℕ) (old mid new : FilesState) → (i ≡ 0 → mid.misses ≡ old.misses) → (0 < i → Rose old.misses mid.misses) → Rose mid.misses new.misses → Rose old.misses new.misses
missed_next zero old mid new same rose h = subst (λ (n : ℕ). Rose n new.misses) (same refl) h
missed_next (suc i) old mid new same rose h = rose_again old.misses mid.misses new.misses (rose (omega arith)) h

-- ---- words

row_next_is : (command : Command) (there : FileMap) (rows : List InputWord) (i : ℕ) (row : InputWord) → i < length rows → row ≡ get_or rows i row
    → words_look_ups command there (words_seen (drop i rows)) ≡ word_look_ups command there (word_seen row) ++ words_look_ups command there (words_seen (drop (i + 1) rows))
row_next_is command there rows i row h e = ap (λ (rs : List InputWord). words_look_ups command there (words_seen rs)) (next_item rows i row h e)

pub row_next : (command : Command) (there : FileMap) (before mid after : Paths) (rows : List InputWord) (i : ℕ) (row : InputWord) → i < length rows → row ≡ get_or rows i row
    → AskedUpTo before (words_look_ups command there (words_seen rows)) (words_look_ups command there (words_seen (drop i rows))) mid → after ≡ reads_with (word_look_ups command there (word_seen row)) mid
    → AskedUpTo before (words_look_ups command there (words_seen rows)) (words_look_ups command there (words_seen (drop (i + 1) rows))) after
row_next command there before mid after rows i row h e so asked =
    up_to_next before mid after (words_look_ups command there (words_seen rows)) (words_look_ups command there (words_seen (drop i rows))) (word_look_ups command there (word_seen row)) (words_look_ups command there (words_seen (drop (i + 1) rows))) so
    (row_next_is command there rows i row h e) asked

pub row_stopped : (command : Command) (there : FileMap) (before mid after : Paths) (rows : List InputWord) (i : ℕ) (row : InputWord) → i < length rows → row ≡ get_or rows i row
    → AskedUpTo before (words_look_ups command there (words_seen rows)) (words_look_ups command there (words_seen (drop i rows))) mid → FrontAsked mid (word_look_ups command there (word_seen row)) after
    → FrontAsked before (words_look_ups command there (words_seen rows)) after
row_stopped command there before mid after rows i row h e so f =
    up_to_stop before mid after (words_look_ups command there (words_seen rows)) (words_look_ups command there (words_seen (drop i rows))) (word_look_ups command there (word_seen row)) (words_look_ups command there (words_seen (drop (i + 1) rows))) so
    (row_next_is command there rows i row h e) f

either_false : (a b : Bool) → (a || b) ≡ false → (a ≡ false) × (b ≡ false)
either_false true b h = absurd (cc)
either_false false b h = (refl, h)

pub row_no_library : (rows : List InputWord) (i : ℕ) (row : InputWord) → i < length rows → row ≡ get_or rows i row → has_library (words_seen rows) ≡ false → row.word.now.library ≡ false
row_no_library [] i row h e none = absurd (omega arith)
row_no_library (r ∷ rows) zero row h e none = ap (λ (x : InputWord). x.word.now.library) e ∙ (either_false r.word.now.library (has_library (words_seen rows)) none).0
row_no_library (r ∷ rows) (suc i) row h e none =
    let inside : i < length rows = omega arith in
    row_no_library rows i row inside e (either_false r.word.now.library (has_library (words_seen rows)) none).1

pub row_places : (command : Command) (rows : List InputWord) (i : ℕ) (row : InputWord) (path : List ℕ) → i < length rows → row ≡ get_or rows i row → Contains (word_places command (word_seen row)) path → Contains (words_places command (words_seen rows)) path
row_places command [] i row path h e at = absurd (omega arith)
row_places command (r ∷ rows) zero row path h e at =
    let P : InputWord → Type 0 = λ x. Contains (word_places command (word_seen x)) path in
    Contains-append_left (word_places command (word_seen r)) (words_places command (words_seen rows)) path (subst P e at)
row_places command (r ∷ rows) (suc i) row path h e at =
    let inside : i < length rows = omega arith in
    Contains-append_right (word_places command (word_seen r)) (words_places command (words_seen rows)) path (row_places command rows i row path inside e at)

pub row_named : (command : Command) (rows : List InputWord) (i : ℕ) (row : InputWord) (u : Unread) (result : Result Sought Unread) → i < length rows → row ≡ get_or rows i row
    → UnreadNamed {X = Option InputName} (word_places command (word_seen row)) (Err u) → result ≡ Err u → UnreadNamed (words_places command (words_seen rows)) result
row_named command rows i row u result h e named is =
    let R : Result Sought Unread → Type 0 = λ r. UnreadNamed (words_places command (words_seen rows)) r in
    subst R (sym is) (by u named)
  where
    by : (u : Unread) → UnreadNamed {X = Option InputName} (word_places command (word_seen row)) (Err u) → UnreadNamed {X = Sought} (words_places command (words_seen rows)) (Err u)
    by (unread.Failed path) at = row_places command rows i row path h e at
    by unread.NoMemory at = tt

pub all_more : {X : Type 0} (P : X → Type 0) (xs : List X) (x : X) → AllByRecursion P xs → P x → AllByRecursion P (xs ++ x ∷ [])
all_more P [] x h p = (p, tt)
all_more P (y ∷ ys) x h p = (h.0, all_more P ys x h.1 p)

-- ---- inputs that are missing

pub missed_same : (b : Bool) (old mid new : FilesState) → MissesReported b old mid → new.misses ≡ mid.misses → MissesReported b old new
missed_same true old mid new h e = subst (λ (n : ℕ). Rose old.misses n) (sym e) h
missed_same false old mid new h e = e ∙ h

any_pushed : (faults : List Fault) (path : List ℕ) → list_any is_missing (faults ++ fault.Missing path ∷ []) ≡ true
any_pushed [] path = refl
any_pushed (f ∷ fs) path = by (is_missing f) (any_pushed fs path)
  where
    by : (b : Bool) → list_any is_missing (fs ++ fault.Missing path ∷ []) ≡ true → (b || list_any is_missing (fs ++ fault.Missing path ∷ [])) ≡ true
    by true h = refl
    by false h = h

pub missed_more : (faults pushed : List Fault) (path : List ℕ) (old mid new : FilesState) → pushed ≡ faults ++ fault.Missing path ∷ [] → MissesReported (list_any is_missing faults) old mid → Rose mid.misses new.misses → MissesReported (list_any is_missing pushed) old new
missed_more faults pushed path old mid new is h rose =
    let P : Bool → Type 0 = λ b. MissesReported b old new in
    subst P (sym (ap (list_any is_missing) is ∙ any_pushed faults path)) (by (list_any is_missing faults) h)
  where
    by : (b : Bool) → MissesReported b old mid → Rose old.misses new.misses
    by true k = rose_again old.misses mid.misses new.misses k rose
    by false k = subst (λ (n : ℕ). Rose n new.misses) k rose

pub misses_stopped : {X : Type 0} (missing : X → List Fault) (b : Bool) (old mid new : FilesState) (u : Unread) (result : Result X Unread) → result ≡ Err u → MissesReported b old mid → new.misses ≡ mid.misses → WordsMiss missing old result new
misses_stopped {X} missing b old mid new u result is h e =
    let R : Result X Unread → Type 0 = λ r. WordsMiss missing old r new in
    subst R (sym is) (by u (at b (missed_same b old mid new h e)))
  where
    at : (b : Bool) → MissesReported b old new → MissedMaybe old new
    at true k = inr k
    at false k = inl k

    by : (u : Unread) → MissedMaybe old new → WordsMiss missing old (Err u) new
    by (unread.Failed path) k = k
    by unread.NoMemory k = tt

-- ---- all words of a command

pub sought_asked : (before after : Paths) (all : List (List ℕ)) (sought : Sought) (result : Result (List InputName) Status) → SoughtGives sought result → after ≡ reads_with all before → LookUpsAsked before all result after
sought_asked before after all sought (Ok names) gives e = e
sought_asked before after all sought (Err (status.LinkError faults)) gives e = e
sought_asked before after all sought (Err (status.Done how)) gives e = absurd gives
sought_asked before after all sought (Err (status.Usage u)) gives e = absurd gives
sought_asked before after all sought (Err (status.ReadFault p)) gives e = absurd gives
sought_asked before after all sought (Err status.DeviceFault) gives e = absurd gives
sought_asked before after all sought (Err status.NoMemory) gives e = absurd gives
sought_asked before after all sought (Err (status.Limit l)) gives e = absurd gives
sought_asked before after all sought (Err (status.NotUpdated c)) gives e = absurd gives
sought_asked before after all sought (Err (status.NotYet w)) gives e = absurd gives

pub unread_asked : (before after : Paths) (all : List (List ℕ)) (u : Unread) (s : Status) → s ≡ unread_status u → FrontAsked before all after → LookUpsAsked {X = List InputName} before all (Err s) after
unread_asked before after all u s is f =
    let R : Status → Type 0 = λ t. LookUpsAsked {X = List InputName} before all (Err t) after in
    subst R (sym is) (by u)
  where
    by : (u : Unread) → LookUpsAsked {X = List InputName} before all (Err (unread_status u)) after
    by (unread.Failed path) = f
    by unread.NoMemory = f

pub look_ups_are : (command : Command) (there : FileMap) (rows : List (ℕ × Word)) → rows ≡ input_words command → words_look_ups command there rows ≡ look_ups_of command there
unfolding look_ups_of
look_ups_are command there rows are = ap (words_look_ups command there) are

pub sought_placed : (command : Command) (rows : List (ℕ × Word)) (sought : Sought) (result : Result (List InputName) Status) → rows ≡ input_words command → SoughtGives sought result
    → AllByRecursion (λ (name : InputName). Contains (words_places command rows) name.path) sought.names → IfOk result (λ names. AllByRecursion (λ (name : InputName). Contains (all_places command) name.path) names)
sought_placed command rows sought (Ok names) are gives all =
    let P : List InputName → Type 0 = λ ns. AllByRecursion (λ (name : InputName). Contains (all_places command) name.path) ns in
    let Q : List (ℕ × Word) → Type 0 = λ rs. AllByRecursion (λ (name : InputName). Contains (words_places command rs) name.path) sought.names in
    subst P (sym gives.1) (subst Q are all)
sought_placed command rows sought (Err s) are gives all = tt
