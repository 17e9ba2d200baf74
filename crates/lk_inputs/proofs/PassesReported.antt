-- What the passes over inputs report, one after another, is what is reported of a command.
use Rattle.std.proofs.Common.{◌≡◌, ◌<◌, ◌≤◌, refl, sym, ap, ◌∙◌, subst, arith, ℕ, nat_lt, Bool, false, List, [], ◌∷◌, ◌++◌, append-nil, length, map, Option, Some, None, Result, Ok, Err}
use Rattle.std.specs.Prelude.{find, if◌then◌else◌}
use Rattle.std.specs.List.{filter_map}
use Rattle.std.proofs.lemmas.Bool.{le-ltb, ltb-false}
use Rattle.std.proofs.Math.ListN.{length-map}
use Rattle.lk_report.specs.FileMap.{FileMap}
use Rattle.lk_report.specs.declared.faults.Fault.{Fault}
use Rattle.lk_report.specs.declared.statuses.LimitKind.TheVariants as limit
use Rattle.lk_report.specs.declared.statuses.Status.{Status}
use Rattle.lk_report.specs.declared.statuses.Status.TheVariants as status
use Rattle.lk_model.specs.declared.commands.Command.{Command}
use Rattle.lk_model.specs.declared.commands.Word.{Word}
use Rattle.lk_model.specs.Answers.{fault_status, input_faults, limit_fault, shared_waits, size_limit}
use Rattle.lk_model.specs.Inputs.{input_words, inputs_of, is_there, missing_in, missing_of, path_of, places_of}
use Rattle.lk_model.specs.Views.{Input}
use Rattle.lk_inputs.specs.declared.input_files.InputFile.{InputFile}
use Rattle.lk_model.specs.declared.input_names.InputName.{InputName}
use Rattle.lk_inputs.specs.declared.input_words.InputWord.{InputWord}
use Rattle.lk_inputs.specs.declared.inputs.Inputs.{Inputs}
use Rattle.lk_inputs.specs.declared.look_ups.FoundFile.{FoundFile}
use Rattle.lk_inputs.specs.declared.summaries.Judged.{Judged}
use Rattle.lk_inputs.specs.declared.unread.Unread.{Unread}
use Rattle.lk_inputs.specs.declared.unread.Unread.TheVariants as unread
use Rattle.lk_inputs.specs.declared.word_look_ups.Sought.{Sought}
use Rattle.lk_inputs.specs.FilesRead.{AreJudged, NamedGive, NamedRefused, ReadsGive, fault_in, files_at, files_refused, sizes_limit}
use Rattle.lk_inputs.specs.FilesRead.{summary_of as summary_read}
use Rattle.lk_inputs.specs.LookUps.{AreSought, FirstPlaceReported, LookUpsGive, SoughtGives, inputs_limit}
use Rattle.lk_inputs.specs.Named.{files_of, named_in, names_in, words_seen}
use Rattle.lk_inputs.specs.Unread.{unread_status}
use Rattle.lk_inputs.specs.Refusals.{CommandInputs, InputsGive, IsRefusal, files_refusal, inputs_refusal}
use Rattle.lk_inputs.proofs.InputsReported.{all_sound, faults_are, files_are, names_are_there, names_one_by_one, shared_are, sizes_are, summaries_are}
use Rattle.lk_inputs.proofs.WordsSought.{found_named}

-- ---- one word

pub word_found : (command : Command) (there : FileMap) (row : ℕ × Word) (places looked : List (List ℕ)) (o : Option FoundFile) (place : FoundFile) (name : InputName)
    → places ≡ places_of command row.1 → looked ≡ places → FirstPlaceReported there looked (Ok o) → o ≡ Some place → name ≡ record { path = place.path; lib = row.0; mark = row.1.mark; stamp = place.stamp }
    → named_in command there row ≡ Some name
word_found command there row places looked None place name are same reported is named = absurd (cc)
word_found command there row places looked (Some p) place name are same reported is named =
    let the_same : p ≡ place = cc in
    found_named command there row p.path p.stamp (ap (find (is_there there)) (sym are ∙ sym same) ∙ reported.0) reported.1
    ∙ ap (λ (q : FoundFile). let n : InputName = record { path = q.path; lib = row.0; mark = row.1.mark; stamp = q.stamp } in Some n) the_same
    ∙ ap (λ n. Some n) (sym named)

pub word_missing : (command : Command) (there : FileMap) (row : ℕ × Word) (places looked : List (List ℕ)) (o : Option FoundFile) → places ≡ places_of command row.1 → looked ≡ places → FirstPlaceReported there looked (Ok o) → o ≡ None → path_of command there row.1 ≡ None
unfolding path_of
word_missing command there row places looked None are same reported is = ap (find (is_there there)) (sym are ∙ sym same) ∙ reported
word_missing command there row places looked (Some p) are same reported is = absurd (cc)

-- ---- all words

pub few_rows : (command : Command) (rows : List InputWord) → words_seen rows ≡ input_words command → length rows ≤ 4096 → inputs_limit command ≡ None
few_rows command rows are few =
    let count : length (input_words command) ≡ length rows = ap (λ l. length l) (sym are) ∙ length-map rows _ in
    ap (limit_fault limit.Inputs 4096) count
    ∙ ap (λ b. let o : Option Status = if b then Some (status.Limit (record { which = limit.Inputs; number = length rows })) else None in o) (le-ltb 4096 (length rows) few)

pub looked_up : (command : Command) (there : FileMap) (rows : List (ℕ × Word)) (sought : Sought) (result : Result (List InputName) Status) → rows ≡ input_words command → inputs_limit command ≡ None → AreSought command there rows sought → SoughtGives sought result → LookUpsGive command there result
unfolding missing_of
looked_up command there rows sought (Ok names) are few is gives = (
  few,
  ap (filter_map (missing_in command there)) (sym are) ∙ sym is.missing ∙ gives.0,
  gives.1 ∙ is.names ∙ ap (filter_map (named_in command there)) are ∙ names_one_by_one command there (input_words command),
)
looked_up command there rows sought (Err (status.LinkError faults)) are few is gives =
    (few, gives.0, gives.1 ∙ is.missing ∙ ap (filter_map (missing_in command there)) are)
looked_up command there rows sought (Err (status.Done how)) are few is gives = absurd gives
looked_up command there rows sought (Err (status.Usage u)) are few is gives = absurd gives
looked_up command there rows sought (Err (status.ReadFault p)) are few is gives = absurd gives
looked_up command there rows sought (Err status.DeviceFault) are few is gives = absurd gives
looked_up command there rows sought (Err status.NoMemory) are few is gives = absurd gives
looked_up command there rows sought (Err (status.Limit l)) are few is gives = absurd gives
looked_up command there rows sought (Err (status.NotUpdated c)) are few is gives = absurd gives
looked_up command there rows sought (Err (status.NotYet w)) are few is gives = absurd gives

-- a look-up without an answer is reported in place of any answer but the limit
pub unread_gives : (command : Command) (there : FileMap) (u : Unread) (s : Status) → s ≡ unread_status u → inputs_limit command ≡ None → LookUpsGive command there (Err s)
unread_gives command there (unread.Failed path) s is few =
    let G : Status → Type 0 = λ t. LookUpsGive command there (Err t) in
    subst G (sym is) few
unread_gives command there unread.NoMemory s is few =
    let G : Status → Type 0 = λ t. LookUpsGive command there (Err t) in
    subst G (sym is) tt

-- ---- what is read

-- once no input is left, the files are those that the map has, and none exceeds a limit
pub reads_given : (there : FileMap) (names left : List InputName) (total : ℕ) (inputs : List InputFile) → left ≡ [] → inputs ++ files_at there left ≡ files_at there names → sizes_limit total (files_at there left) ≡ sizes_limit 0 (files_at there names) → ReadsGive there names (Ok inputs)
reads_given there names left total inputs none files limit = (
  sym limit ∙ ap (λ l. sizes_limit total (files_at there l)) none,
  sym (append-nil inputs) ∙ ap (λ l. inputs ++ files_at there l) (sym none) ∙ files,
)

no_fault : (faults : List Fault) → false ≡ nat_lt 0 (length faults) → faults ≡ []
no_fault [] h = refl
no_fault (f ∷ fs) h =
    let none : length (f ∷ fs) ≤ 0 = ltb-false 0 (length (f ∷ fs)) (sym h) in
    absurd (omega arith)

pub sound_reported : (files : List InputFile) (judged : Judged) (b : Bool) → AreJudged files judged → b ≡ nat_lt 0 (length judged.faults) → b ≡ false → (filter_map fault_in files ≡ []) × (judged.summaries ≡ map summary_read files)
sound_reported files judged b is counted none =
    let no_faults : filter_map fault_in files ≡ [] = sym is.faults ∙ no_fault judged.faults (sym none ∙ counted) in
    (no_faults, is.summaries ∙ all_sound files no_faults)

-- ---- all of a command

-- why its files are refused is why its inputs are
refused_are : (xs : List Input) → files_refusal xs ≡ files_refused (files_of xs)
unfolding files_refusal
refused_are xs =
    λ i. elim (sizes_are 0 xs i) as (λ _. Option Status) [ Some s ↦ Some s | None ↦ elim (shared_are xs i) as (λ _. Option Status) [ Some s ↦ Some s | None ↦ fault_status (faults_are xs i) ] ]

none_shared : (sizes shared : Option Status) (later : Option Status) → elim sizes as (λ _. Option Status) [ Some s ↦ Some s | None ↦ elim shared as (λ _. Option Status) [ Some s ↦ Some s | None ↦ later ] ] ≡ None → shared ≡ None
none_shared (Some s) shared later h = absurd (cc)
none_shared None (Some s) later h = absurd (cc)
none_shared None None later h = refl

no_wait : (xs : List Input) → files_refusal xs ≡ None → shared_waits xs ≡ None
unfolding files_refusal
no_wait xs h = none_shared (size_limit 0 xs) (shared_waits xs) (fault_status (input_faults xs)) h

none_missing : (command : Command) (there : FileMap) → missing_of command there ≡ [] → inputs_refusal command there ≡ files_refusal (inputs_of command there)
unfolding inputs_refusal
none_missing command there h =
    ap (λ (faults : List Fault). elim (fault_status faults) as (λ _. Option Status) [ Some s ↦ Some s | None ↦ files_refusal (inputs_of command there) ]) h

named_refused : (command : Command) (there : FileMap) (s : Status) → inputs_refusal command there ≡ files_refused (files_at there (names_in command there)) → NamedRefused there (names_in command there) s → IsRefusal (inputs_refusal command there) s
named_refused command there (status.Done how) same h = same ∙ h (names_are_there command there)
named_refused command there (status.LinkError f) same h = same ∙ h (names_are_there command there)
named_refused command there (status.Usage u) same h = same ∙ h (names_are_there command there)
named_refused command there (status.ReadFault p) same h = tt
named_refused command there status.DeviceFault same h = same ∙ h (names_are_there command there)
named_refused command there status.NoMemory same h = tt
named_refused command there (status.Limit l) same h = same ∙ h (names_are_there command there)
named_refused command there (status.NotUpdated c) same h = same ∙ h (names_are_there command there)
named_refused command there (status.NotYet w) same h = same ∙ h (names_are_there command there)

named_reported : (command : Command) (there : FileMap) (result : Result Inputs Status) → missing_of command there ≡ [] → NamedGive there (names_in command there) result → InputsGive command there result
named_reported command there (Ok inputs) none h =
    let xs : List Input = inputs_of command there in
    let files : files_at there (names_in command there) ≡ files_of xs = files_are command there in
    let refused : files_refusal xs ≡ None = refused_are xs ∙ ap files_refused (sym files) ∙ h.0 in (
      none_missing command there none ∙ refused,
      record {
        files = h.1 ∙ files;
        summaries = h.2 ∙ ap (map summary_read) files ∙ summaries_are command there (no_wait xs refused);
      },
    )
named_reported command there (Err s) none h =
    named_refused command there s (none_missing command there none ∙ refused_are (inputs_of command there) ∙ ap files_refused (sym (files_are command there))) h

pub command_reported : (command : Command) (there : FileMap) (names : List InputName) (result : Result Inputs Status) → LookUpsGive command there (Ok names) → NamedGive there names result → CommandInputs (inputs_limit command) command there result
command_reported command there names result found given =
    let P : Option Status → Type 0 = λ o. CommandInputs o command there result in
    let Q : List InputName → Type 0 = λ ns. NamedGive there ns result in
    subst P (sym found.0) (named_reported command there result found.1 (subst Q found.2 given))

-- a look-up that is refused
missing_refused : (command : Command) (there : FileMap) (faults : List Fault) → 0 < length faults → faults ≡ missing_of command there → inputs_refusal command there ≡ Some (status.LinkError faults)
unfolding inputs_refusal
missing_refused command there faults some are =
    ap (λ (fs : List Fault). elim (fault_status fs) as (λ _. Option Status) [ Some s ↦ Some s | None ↦ files_refusal (inputs_of command there) ]) (sym are) ∙ by faults some
  where
    by : (fs : List Fault) → 0 < length fs → elim (fault_status fs) as (λ _. Option Status) [ Some s ↦ Some s | None ↦ files_refusal (inputs_of command there) ] ≡ Some (status.LinkError fs)
    by [] h = absurd (omega arith)
    by (f ∷ fs) h = refl

pub look_up_refused : (command : Command) (there : FileMap) (s : Status) (result : Result Inputs Status) → LookUpsGive command there (Err s) → result ≡ Err s → CommandInputs (inputs_limit command) command there result
look_up_refused command there s result given is =
    let R : Result Inputs Status → Type 0 = λ r. CommandInputs (inputs_limit command) command there r in
    subst R (sym is) (by s given)
  where
    at : (o : Option Status) → inputs_limit command ≡ o → (s : Status) → CommandInputs o command there (Err s) → CommandInputs (inputs_limit command) command there (Err s)
    at o e s h = let P : Option Status → Type 0 = λ o. CommandInputs o command there (Err s) in subst P (sym e) h

    by : (s : Status) → LookUpsGive command there (Err s) → CommandInputs (inputs_limit command) command there (Err s)
    by (status.LinkError faults) h = at None h.0 (status.LinkError faults) (missing_refused command there faults h.1 h.2)
    by (status.Limit l) h = at (Some (status.Limit l)) h (status.Limit l) refl
    by (status.ReadFault p) h = at None h (status.ReadFault p) tt
    by status.NoMemory h = any (inputs_limit command)
      where
        any : (o : Option Status) → CommandInputs o command there (Err status.NoMemory)
        any None = tt
        any (Some due) = tt
    by (status.Done how) h = absurd h
    by (status.Usage u) h = absurd h
    by status.DeviceFault h = absurd h
    by (status.NotUpdated c) h = absurd h
    by (status.NotYet w) h = absurd h
