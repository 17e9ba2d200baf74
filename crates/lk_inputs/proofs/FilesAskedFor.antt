-- Files that are read one after another: which paths were asked for, and which inputs were read.
use Rattle.std.proofs.Common.{◌≡◌, ◌+◌, refl, sym, ap, ◌∙◌, subst, ℕ, true, false, List, [], ◌∷◌, ◌++◌, length, map, append_assoc, Option, Some, None, Result, Ok, Err}
use Rattle.std.specs.Prelude.{Contains, ◌&&◌, is_err, is_some, option_map, OnOk, unwrap_or}
use Rattle.std.specs.List.{list_any}
use Rattle.std.proofs.lemmas.List.Elements.{Contains-append_left, Contains-append_right}
use Rattle.lk_report.specs.FileMap.{FileMap, FileRow}
use Rattle.lk_report.specs.declared.faults.Fault.{Fault}
use Rattle.lk_report.specs.declared.statuses.Status.{Status}
use Rattle.lk_report.specs.declared.statuses.Status.TheVariants as status
use Rattle.lk_report.specs.declared.statuses.Waiting.{Waiting}
use Rattle.lk_report.specs.declared.statuses.Waiting.TheVariants as waiting
use Rattle.lk_model.specs.declared.summaries.InputSummary.{InputSummary}
use Rattle.lk_outside.specs.FilesState.{FilesState}
use Rattle.lk_inputs.specs.declared.input_files.InputFile.{InputFile}
use Rattle.lk_model.specs.declared.input_names.InputName.{InputName}
use Rattle.lk_inputs.specs.declared.inputs.Inputs.{Inputs}
use Rattle.lk_inputs.specs.Asked.{AskedInTurn, FaultsAsked, FilesAsked, FrontAsked, IsOfFiles, IsOfObjects, IsOfReads, MissesReported, Paths, StatusLast, StatusMisses, StatusNamed, known_failed, file_name, is_missing, name_path}
use Rattle.lk_inputs.specs.FilesRead.{are_names_there, files_at, is_name_there, size_limit_at, sizes_limit}
use Rattle.lk_inputs.specs.Named.{file_path}
use Rattle.lk_inputs.specs.FileAnswers.{content_at, reads_with}
use Rattle.lk_inputs.proofs.TurnsTaken.{all_asked, front_after, reads_twice}

-- what a call that did not fail ensures
pub done : {T E : Type 0} (r : Result T E) (P : Type 0) → is_err r ≡ false → OnOk r P → P
done (Ok x) P e h = h
done (Err x) P e h = absurd (cc)

-- ---- one file after another

abbrev file_with : InputName → List ℕ → InputFile
file_with name bytes = record { name = name; bytes = bytes }

paths_split : (inputs : List InputFile) (items : List InputName) → map name_path (map file_name inputs ++ items) ≡ map file_path inputs ++ map name_path items
paths_split [] items = refl
paths_split (file ∷ files) items = ap (λ (l : List (List ℕ)). file.name.path ∷ l) (paths_split files items)

names_split : (names items rest : List InputName) (name : InputName) (inputs : List InputFile) → items ≡ name ∷ rest → map file_name inputs ++ items ≡ names → map name_path names ≡ map file_path inputs ++ ((name.path ∷ []) ++ map name_path rest)
names_split names items rest name inputs left so =
    ap (map name_path) (sym so) ∙ paths_split inputs items ∙ ap (λ (l : List InputName). map file_path inputs ++ map name_path l) left

pub reads_stopped : (before mid after : Paths) (names items rest : List InputName) (name : InputName) (inputs : List InputFile) → items ≡ name ∷ rest → map file_name inputs ++ items ≡ names → mid ≡ reads_with (map file_path inputs) before → FrontAsked mid (name.path ∷ []) after → FrontAsked before (map name_path names) after
reads_stopped before mid after names items rest name inputs left so asked f =
    front_after before mid after (map file_path inputs) (name.path ∷ []) (map name_path rest) (map name_path names) (names_split names items rest name inputs left so) asked f

pub reads_ended : (before mid after : Paths) (names items rest : List InputName) (name : InputName) (inputs : List InputFile) → items ≡ name ∷ rest → map file_name inputs ++ items ≡ names → mid ≡ reads_with (map file_path inputs) before → after ≡ reads_with (name.path ∷ []) mid → FrontAsked before (map name_path names) after
reads_ended before mid after names items rest name inputs left so asked e =
    reads_stopped before mid after names items rest name inputs left so asked (all_asked mid after (name.path ∷ []) e)

pub status_in_turn : {X : Type 0} (before after : Paths) (all : List (List ℕ)) (s : Status) (result : Result X Status) → result ≡ Err s → FrontAsked before all after → AskedInTurn before all result after
status_in_turn {X} before after all s result is f =
    let R : Result X Status → Type 0 = λ r. AskedInTurn before all r after in
    subst R (sym is) f

named_among : (names items rest : List InputName) (name : InputName) (inputs : List InputFile) (path : List ℕ) → items ≡ name ∷ rest → map file_name inputs ++ items ≡ names → Contains (name.path ∷ []) path → Contains (map name_path names) path
named_among names items rest name inputs path left so at =
    subst (λ (l : List (List ℕ)). Contains l path) (sym (names_split names items rest name inputs left so))
    (Contains-append_right (map file_path inputs) ((name.path ∷ []) ++ map name_path rest) path (Contains-append_left (name.path ∷ []) (map name_path rest) path at))

pub reads_named : (names items rest : List InputName) (name : InputName) (inputs : List InputFile) (s : Status) (result : Result (List InputFile) Status) → items ≡ name ∷ rest → map file_name inputs ++ items ≡ names → StatusNamed {X = List ℕ} (name.path ∷ []) (Err s) → result ≡ Err s → StatusNamed (map name_path names) result
reads_named names items rest name inputs s result left so named is =
    let R : Result (List InputFile) Status → Type 0 = λ r. StatusNamed (map name_path names) r in
    subst R (sym is) (by s named)
  where
    by : (s : Status) → StatusNamed {X = List ℕ} (name.path ∷ []) (Err s) → StatusNamed {X = List InputFile} (map name_path names) (Err s)
    by (status.ReadFault path) at = named_among names items rest name inputs path left so at
    by (status.Done how) at = tt
    by (status.LinkError faults) at = tt
    by (status.Usage u) at = tt
    by status.DeviceFault at = tt
    by status.NoMemory at = tt
    by (status.Limit l) at = tt
    by (status.NotUpdated c) at = tt
    by (status.NotYet w) at = tt

pub put_reads : (before mid after : Paths) (inputs new : List InputFile) (name : InputName) (bytes : List ℕ) → new ≡ inputs ++ record { name = name; bytes = bytes } ∷ [] → mid ≡ reads_with (map file_path inputs) before → after ≡ reads_with (name.path ∷ []) mid → after ≡ reads_with (map file_path new) before
put_reads before mid after inputs new name bytes is asked e =
    e ∙ ap (reads_with (name.path ∷ [])) asked ∙ reads_twice before (map file_path inputs) (name.path ∷ [])
    ∙ ap (λ (l : List (List ℕ)). reads_with l before) (sym (ap (map file_path) is ∙ map_pushed file_path inputs (file_with name bytes)))
  where
    map_pushed : (f : InputFile → List ℕ) (xs : List InputFile) (x : InputFile) → map f (xs ++ x ∷ []) ≡ map f xs ++ f x ∷ []
    map_pushed f [] x = refl
    map_pushed f (y ∷ ys) x = ap (λ (l : List (List ℕ)). f y ∷ l) (map_pushed f ys x)

pub put_names : (names items rest : List InputName) (inputs new : List InputFile) (name : InputName) (bytes : List ℕ) → items ≡ name ∷ rest → new ≡ inputs ++ record { name = name; bytes = bytes } ∷ [] → map file_name inputs ++ items ≡ names → map file_name new ++ rest ≡ names
put_names names items rest inputs new name bytes left is so =
    ap (λ (l : List InputFile). map file_name l ++ rest) is ∙ by inputs ∙ ap (λ (l : List InputName). map file_name inputs ++ l) (sym left) ∙ so
  where
    by : (xs : List InputFile) → map file_name (xs ++ file_with name bytes ∷ []) ++ rest ≡ map file_name xs ++ name ∷ rest
    by [] = refl
    by (y ∷ ys) = ap (λ (l : List InputName). y.name ∷ l) (by ys)

pub put_files : (there : FileMap) (all items rest : List InputName) (inputs new : List InputFile) (name : InputName) (bytes : List ℕ) → items ≡ name ∷ rest → new ≡ inputs ++ record { name = name; bytes = bytes } ∷ [] → content_at there name.path ≡ Some bytes
    → inputs ++ files_at there items ≡ files_at there all → new ++ files_at there rest ≡ files_at there all
put_files there all items rest inputs new name bytes left is has so =
    ap (λ (l : List InputFile). l ++ files_at there rest) is
    ∙ append_assoc inputs (file_with name bytes ∷ []) (files_at there rest)
    ∙ ap (λ (o : Option (List ℕ)). inputs ++ file_with name (unwrap_or o []) ∷ files_at there rest) (sym has)
    ∙ ap (λ (l : List InputName). inputs ++ files_at there l) (sym left)
    ∙ so

limit_none : (first second : Option Status) → first ≡ None → second ≡ elim first as (λ _. Option Status) [ Some s ↦ Some s | None ↦ second ]
limit_none None second e = refl
limit_none (Some s) second e = absurd (cc)

pub next_limit : (there : FileMap) (all items rest : List InputName) (name : InputName) (bytes : List ℕ) (before total : ℕ) → items ≡ name ∷ rest → content_at there name.path ≡ Some bytes → size_limit_at before (length bytes) ≡ None → total ≡ before + length bytes
    → sizes_limit before (files_at there items) ≡ sizes_limit 0 (files_at there all) → sizes_limit total (files_at there rest) ≡ sizes_limit 0 (files_at there all)
next_limit there all items rest name bytes before total left has fits sum so =
    ap (λ (n : ℕ). sizes_limit n (files_at there rest)) sum
    ∙ limit_none (size_limit_at before (length bytes)) (sizes_limit (before + length bytes) (files_at there rest)) fits
    ∙ ap (λ (o : Option (List ℕ)). sizes_limit before (file_with name (unwrap_or o []) ∷ files_at there rest)) (sym has)
    ∙ ap (λ (l : List InputName). sizes_limit before (files_at there l)) (sym left)
    ∙ so

there_is : (there : FileMap) (name : InputName) (bytes : List ℕ) → content_at there name.path ≡ Some bytes → is_name_there there name ≡ true
there_is there name bytes has = by (there name.path) has
  where
    by : (o : Option FileRow) → option_map (λ (row : FileRow). row.bytes) o ≡ Some bytes → is_some o ≡ true
    by None h = absurd (cc)
    by (Some row) h = refl

pub next_there : (there : FileMap) (all items rest : List InputName) (name : InputName) (bytes : List ℕ) → items ≡ name ∷ rest → content_at there name.path ≡ Some bytes → are_names_there there items ≡ are_names_there there all → are_names_there there rest ≡ are_names_there there all
next_there there all items rest name bytes left has so =
    ap (λ b. b && are_names_there there rest) (sym (there_is there name bytes has))
    ∙ ap (λ (l : List InputName). are_names_there there l) (sym left)
    ∙ so

pub all_read : (before after : Paths) (names : List InputName) (inputs : List InputFile) → map file_name inputs ≡ names → after ≡ reads_with (map file_path inputs) before → after ≡ reads_with (map name_path names) before
all_read before after names inputs so asked =
    asked ∙ ap (λ (l : List (List ℕ)). reads_with l before) (by inputs ∙ ap (map name_path) so)
  where
    by : (xs : List InputFile) → map file_path xs ≡ map name_path (map file_name xs)
    by [] = refl
    by (x ∷ xs) = ap (λ (l : List (List ℕ)). x.name.path ∷ l) (by xs)

-- ---- files that are read, and what they hold

pub reads_refused : (before after : Paths) (all : List (List ℕ)) (s : Status) (result : Result Inputs Status) → result ≡ Err s → IsOfReads {X = List InputFile} (Err s) → FrontAsked before all after → FilesAsked before all result after
reads_refused before after all s result is kind f =
    let R : Result Inputs Status → Type 0 = λ r. FilesAsked before all r after in
    subst R (sym is) (by s kind)
  where
    by : (s : Status) → IsOfReads {X = List InputFile} (Err s) → FilesAsked {X = Inputs} before all (Err s) after
    by (status.LinkError faults) k = subst (λ b. FaultsAsked b before all after) (sym k) f
    by (status.Limit l) k = f
    by (status.ReadFault path) k = f
    by status.NoMemory k = f
    by (status.Done how) k = absurd k
    by (status.Usage u) k = absurd k
    by status.DeviceFault k = absurd k
    by (status.NotUpdated c) k = absurd k
    by (status.NotYet w) k = absurd k

pub reads_files : (s : Status) (result : Result Inputs Status) → result ≡ Err s → IsOfReads {X = List InputFile} (Err s) → IsOfFiles result
reads_files s result is kind =
    let R : Result Inputs Status → Type 0 = λ r. IsOfFiles r in
    subst R (sym is) (by s kind)
  where
    by : (s : Status) → IsOfReads {X = List InputFile} (Err s) → IsOfFiles {X = Inputs} (Err s)
    by (status.LinkError faults) k = tt
    by (status.Limit l) k = k
    by (status.ReadFault path) k = tt
    by status.NoMemory k = tt
    by (status.Done how) k = absurd k
    by (status.Usage u) k = absurd k
    by status.DeviceFault k = absurd k
    by (status.NotUpdated c) k = absurd k
    by (status.NotYet w) k = absurd k

-- what holds of an answer of objects, where it does of faults, of a form that waits and of out of memory
objects_by : (R : Result Inputs Status → Type 0) (s : Status) → IsOfObjects {X = List InputSummary} (Err s) → ((faults : List Fault) → list_any is_missing faults ≡ false → R (Err (status.LinkError faults)))
    → ((path : List ℕ) → R (Err (status.NotYet (waiting.Form path)))) → R (Err status.NoMemory) → R (Err s)
objects_by R (status.LinkError faults) k reported waits memory = reported faults k
objects_by R (status.NotYet w) k reported waits memory = by w k
  where
    by : (w : Waiting) → IsOfObjects {X = List InputSummary} (Err (status.NotYet w)) → R (Err (status.NotYet w))
    by (waiting.Form path) j = waits path
    by waiting.Words j = absurd j
objects_by R status.NoMemory k reported waits memory = memory
objects_by R (status.Done how) k reported waits memory = absurd k
objects_by R (status.Usage u) k reported waits memory = absurd k
objects_by R (status.ReadFault path) k reported waits memory = absurd k
objects_by R status.DeviceFault k reported waits memory = absurd k
objects_by R (status.Limit l) k reported waits memory = absurd k
objects_by R (status.NotUpdated c) k reported waits memory = absurd k

pub objects_asked : (before after : Paths) (all : List (List ℕ)) (s : Status) (result : Result Inputs Status) → result ≡ Err s → IsOfObjects {X = List InputSummary} (Err s) → after ≡ reads_with all before → FilesAsked before all result after
objects_asked before after all s result is kind e =
    let R : Result Inputs Status → Type 0 = λ r. FilesAsked before all r after in
    subst R (sym is) (objects_by R s kind (λ faults k. subst (λ b. FaultsAsked b before all after) (sym k) e) (λ path. e) (all_asked before after all e))

pub objects_missed : (old new : FilesState) (s : Status) (result : Result Inputs Status) → result ≡ Err s → IsOfObjects {X = List InputSummary} (Err s) → new.misses ≡ old.misses → StatusMisses old result new
objects_missed old new s result is kind e =
    let R : Result Inputs Status → Type 0 = λ r. StatusMisses old r new in
    subst R (sym is) (objects_by R s kind (λ faults k. subst (λ b. MissesReported b old new) (sym k) e) (λ path. e) tt)

pub objects_last : (old new : FilesState) (s : Status) (result : Result Inputs Status) → result ≡ Err s → IsOfObjects {X = List InputSummary} (Err s) → known_failed new ≡ known_failed old → StatusLast old result new
objects_last old new s result is kind e =
    let R : Result Inputs Status → Type 0 = λ r. StatusLast old r new in
    subst R (sym is) (objects_by R s kind (λ faults k. e) (λ path. e) tt)

pub objects_named : (places : List (List ℕ)) (s : Status) (result : Result Inputs Status) → result ≡ Err s → IsOfObjects {X = List InputSummary} (Err s) → StatusNamed places result
objects_named places s result is kind =
    let R : Result Inputs Status → Type 0 = λ r. StatusNamed places r in
    subst R (sym is) (objects_by R s kind (λ faults k. tt) (λ path. tt) tt)

pub objects_files : (s : Status) (result : Result Inputs Status) → result ≡ Err s → IsOfObjects {X = List InputSummary} (Err s) → IsOfFiles result
objects_files s result is kind =
    let R : Result Inputs Status → Type 0 = λ r. IsOfFiles r in
    subst R (sym is) (objects_by R s kind (λ faults k. tt) (λ path. tt) tt)
