-- The files that the map has for a command's inputs are those of lk_model's inputs, and what is reported of
-- these files is what lk_model reports of the inputs.
use Rattle.std.proofs.Common.{◌≡◌, ◌+◌, refl, sym, ap, ◌∙◌, ℕ, ◌==◌, ◌&&◌, ◌^◌, Bool, true, false, cond, List, [], ◌∷◌, length, map, Option, Some, None, Result, Ok, Err}
use Rattle.std.specs.Prelude.{find, is_some, unwrap_or, option_map, option_and_then, if◌then◌else◌}
use Rattle.std.specs.List.{cons_option, filter_map}
use Rattle.lk_report.specs.FileMap.{FileMap, FileRow}
use Rattle.lk_report.specs.declared.faults.Fault.{Fault}
use Rattle.lk_report.specs.declared.faults.Fault.TheVariants as fault
use Rattle.lk_report.specs.declared.faults.InputFault.{InputFault}
use Rattle.lk_report.specs.declared.statuses.LimitKind.TheVariants as limit
use Rattle.lk_report.specs.declared.statuses.Status.{Status}
use Rattle.lk_report.specs.declared.statuses.Status.TheVariants as status
use Rattle.lk_report.specs.declared.statuses.Waiting.TheVariants as waiting
use Rattle.lk_model.specs.declared.commands.Command.{Command}
use Rattle.lk_model.specs.declared.commands.Word.{Word}
use Rattle.lk_model.specs.declared.summaries.InputSummary.{InputSummary}
use Rattle.lk_model.specs.declared.summaries.Kind.{Kind}
use Rattle.lk_model.specs.declared.summaries.Kind.TheVariants as kind
use Rattle.lk_model.specs.Answers.{input_fault_of, input_faults, is_shared, is_shared_kind, limit_fault, shared_waits, size_limit}
use Rattle.lk_model.specs.Elf as elf
use Rattle.lk_model.specs.Elf.{elf_of}
use Rattle.lk_model.specs.Inputs.{FoundInput, count_of, found_at, found_in, input_with, input_words, inputs_after, inputs_of, path_of, summary_by}
use Rattle.lk_model.specs.Inputs.{is_shared as is_shared_result}
use Rattle.lk_model.specs.Kinds.{kind_of}
use Rattle.lk_model.specs.ObjectChecks.{object_fault}
use Rattle.lk_model.specs.Resolving.{paths_of}
use Rattle.lk_model.specs.Views.{Input}
use Rattle.lk_model.specs.InputNames.{input_summary}
use Rattle.lk_inputs.specs.declared.input_files.InputFile.{InputFile}
use Rattle.lk_model.specs.declared.input_names.InputName.{InputName}
use Rattle.lk_inputs.specs.FilesRead.{are_names_there, fault_in, file_at, files_at, is_shared_file, shared_wait, sizes_limit, sound_summary}
use Rattle.lk_inputs.specs.FilesRead.{summary_of as summary_read}
use Rattle.lk_inputs.specs.Named.{file_of, file_path, files_of, name_found, named_in, names_in}

-- ---- the inputs whose files are there

-- each of these inputs has the file of its path
data AreThere (there : FileMap) : List FoundInput → Type 0 where
  none_there : AreThere there []
  one_there : (found : FoundInput) (founds : List FoundInput) (has : there found.path ≡ Some found.file) (others : AreThere there founds) → AreThere there (found ∷ founds)

found_there : (command : Command) (there : FileMap) (rows : List (ℕ × Word)) → AreThere there (filter_map (found_in command there) rows)
found_there command there [] = none_there
found_there command there (row ∷ rows) = by (path_of command there row.1) (found_there command there rows)
  where
    at : (path : List ℕ) (o : Option FileRow) → there path ≡ o → AreThere there (filter_map (found_in command there) rows)
        → AreThere there (cons_option (option_map (λ (file : FileRow). let f : FoundInput = record { lib = row.0; word = row.1; path = path; file = file } in f) o) (filter_map (found_in command there) rows))
    at path None e others = others
    at path (Some file) e others = one_there (record { lib = row.0; word = row.1; path = path; file = file }) (filter_map (found_in command there) rows) e others

    by : (o : Option (List ℕ)) → AreThere there (filter_map (found_in command there) rows) → AreThere there (cons_option (option_and_then (found_at there row) o) (filter_map (found_in command there) rows))
    by None others = others
    by (Some path) others = at path (there path) refl others

file_seen : (there : FileMap) (found : FoundInput) → there found.path ≡ Some found.file → file_at there (name_found found) ≡ record { name = name_found found; bytes = found.file.bytes }
file_seen there found has =
    ap (λ (o : Option FileRow). let f : InputFile = record { name = name_found found; bytes = unwrap_or (option_map (λ (row : FileRow). row.bytes) o) [] } in f) has

files_after : (there : FileMap) (earlier : List (List ℕ)) (founds : List FoundInput) → AreThere there founds → files_at there (map name_found founds) ≡ files_of (inputs_after earlier founds)
unfolding inputs_after elf_of elf.elf_under elf.elf_with
files_after there earlier [] h = refl
files_after there earlier (found ∷ founds) (one_there f fs has others) =
    λ i. file_seen there found has i ∷ files_after there (found.path ∷ earlier) founds others i

pub files_are : (command : Command) (there : FileMap) → files_at there (names_in command there) ≡ files_of (inputs_of command there)
unfolding inputs_of
files_are command there = files_after there [] (filter_map (found_in command there) (input_words command)) (found_there command there (input_words command))

all_there : (there : FileMap) (founds : List FoundInput) → AreThere there founds → are_names_there there (map name_found founds) ≡ true
all_there there [] h = refl
all_there there (found ∷ founds) (one_there f fs has others) =
    λ i. (ap (λ (o : Option FileRow). is_some o) has i) && all_there there founds others i

pub names_are_there : (command : Command) (there : FileMap) → are_names_there there (names_in command there) ≡ true
names_are_there command there = all_there there (filter_map (found_in command there) (input_words command)) (found_there command there (input_words command))

-- the names that are found one by one
pub names_one_by_one : (command : Command) (there : FileMap) (rows : List (ℕ × Word)) → filter_map (named_in command there) rows ≡ map name_found (filter_map (found_in command there) rows)
names_one_by_one command there [] = refl
names_one_by_one command there (row ∷ rows) = by (found_in command there row) (names_one_by_one command there rows)
  where
    by : (o : Option FoundInput) → filter_map (named_in command there) rows ≡ map name_found (filter_map (found_in command there) rows)
        → cons_option (option_map name_found o) (filter_map (named_in command there) rows) ≡ map name_found (cons_option o (filter_map (found_in command there) rows))
    by None h = h
    by (Some found) h = ap (λ (names : List InputName). name_found found ∷ names) h

-- ---- what is reported of them

or_later : Option Status → Option Status → Option Status
or_later first second = elim first [ Some s ↦ Some s | None ↦ second ]

limit_after : (first second later other : Option Status) → later ≡ other → or_later first (or_later second later) ≡ or_later (or_later first second) other
unfolding or_later
limit_after (Some s) second later other e = refl
limit_after None (Some s) later other e = refl
limit_after None None later other e = e

pub sizes_are : (before : ℕ) (xs : List Input) → size_limit before xs ≡ sizes_limit before (files_of xs)
unfolding or_later
sizes_are before [] = refl
sizes_are before (x ∷ xs) =
    limit_after (limit_fault limit.InputSize (2 ^ 26) (length x.elf.bytes)) (limit_fault limit.InputTotal (2 ^ 30) (before + length x.elf.bytes))
    (size_limit (before + length x.elf.bytes) xs) (sizes_limit (before + length x.elf.bytes) (files_of xs)) (sizes_are (before + length x.elf.bytes) xs)

pub shared_are : (xs : List Input) → shared_waits xs ≡ shared_wait (files_of xs)
shared_are [] = refl
shared_are (x ∷ xs) = by (is_shared x) (shared_are xs)
  where
    by : (b : Bool) → shared_waits xs ≡ shared_wait (files_of xs)
        → option_map (λ (i : Input). status.NotYet (waiting.Form i.path)) (cond b (Some x) (find is_shared xs))
        ≡ option_map (λ path. status.NotYet (waiting.Form path)) (option_map (λ (file : InputFile). file.name.path) (cond b (Some (file_of x)) (find is_shared_file (files_of xs))))
    by true h = refl
    by false h = h

pub faults_are : (xs : List Input) → input_faults xs ≡ filter_map fault_in (files_of xs)
faults_are [] = refl
faults_are (x ∷ xs) = ap (λ (faults : List Fault). cons_option (input_fault_of x) faults) (faults_are xs)

pub paths_are : (xs : List Input) → map file_path (files_of xs) ≡ paths_of xs
paths_are [] = refl
paths_are (x ∷ xs) = ap (λ (paths : List (List ℕ)). x.path ∷ paths) (paths_are xs)

-- ---- what is read of them, where none is shared

pub none_waits : (x : Input) (xs : List Input) → shared_waits (x ∷ xs) ≡ None → (is_shared x ≡ false) × (shared_waits xs ≡ None)
none_waits x xs h = by (is_shared x) refl h
  where
    by : (b : Bool) → is_shared x ≡ b → option_map (λ (i : Input). status.NotYet (waiting.Form i.path)) (cond b (Some x) (find is_shared xs)) ≡ None → (is_shared x ≡ false) × (shared_waits xs ≡ None)
    by true e h = absurd (cc)
    by false e h = (e, h)

kind_is_shared : (r : Result Kind InputFault) → is_shared_result r ≡ is_shared_kind r
kind_is_shared (Ok kind.Shared) = refl
kind_is_shared (Ok kind.Object) = refl
kind_is_shared (Err f) = refl

pub read_shared : (lib : ℕ) (r : Result Kind InputFault) → (lib == 0 && is_shared_result r) ≡ (if lib == 0 then is_shared_kind r else false)
read_shared lib r = by (lib == 0)
  where
    by : (b : Bool) → (b && is_shared_result r) ≡ (if b then is_shared_kind r else false)
    by true = kind_is_shared r
    by false = refl

summaries_after : (earlier : List (List ℕ)) (founds : List FoundInput) → shared_waits (inputs_after earlier founds) ≡ None → map summary_read (files_of (inputs_after earlier founds)) ≡ map input_summary (inputs_after earlier founds)
unfolding inputs_after elf_of elf.elf_under elf.elf_with
summaries_after earlier [] h = refl
summaries_after earlier (found ∷ founds) h =
    let x : Input = input_with (count_of found.path earlier) found (elf_of found.file.bytes) in
    let none : (is_shared x ≡ false) × (shared_waits (inputs_after (found.path ∷ earlier) founds) ≡ None) = none_waits x (inputs_after (found.path ∷ earlier) founds) h in
    let not_shared : (found.lib == 0 && is_shared_result (kind_of found.file.bytes)) ≡ false = read_shared found.lib (kind_of found.file.bytes) ∙ none.0 in
    λ i. sym (ap (λ b. summary_by b found.path (elf_of found.file.bytes)) not_shared) i ∷ summaries_after (found.path ∷ earlier) founds none.1 i

pub summaries_are : (command : Command) (there : FileMap) → shared_waits (inputs_of command there) ≡ None → map summary_read (files_of (inputs_of command there)) ≡ map input_summary (inputs_of command there)
unfolding inputs_of
summaries_are command there h = summaries_after [] (filter_map (found_in command there) (input_words command)) h

-- where no file has a fault all are read
pub all_sound : (files : List InputFile) → filter_map fault_in files ≡ [] → filter_map sound_summary files ≡ map summary_read files
all_sound [] h = refl
all_sound (file ∷ files) h = by (object_fault file.bytes) (all_sound files) h
  where
    by : (o : Option InputFault) → (filter_map fault_in files ≡ [] → filter_map sound_summary files ≡ map summary_read files) → cons_option (option_map (λ (f : InputFault). fault.Input file.name.path f) o) (filter_map fault_in files) ≡ []
        → cons_option (elim o [ None ↦ Some (summary_read file) | Some f ↦ None ]) (filter_map sound_summary files) ≡ map summary_read (file ∷ files)
    by None later h = ap (λ (ss : List InputSummary). summary_read file ∷ ss) (later h)
    by (Some f) later h = absurd (cc)
