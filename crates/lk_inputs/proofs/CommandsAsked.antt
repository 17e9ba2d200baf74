-- What reading the inputs of a command asks of the files, of its look-ups and its reads.
use Rattle.std.proofs.Common.{◌≡◌, ◌+◌, ◌<◌, ◌≤◌, ◌^◌, refl, sym, ap, ◌∙◌, subst, arith, ℕ, nat_lt, Bool, true, false, List, [], ◌∷◌, length, map, Option, Some, None, Result, Ok, Err}
use Rattle.std.specs.Prelude.{Contains, IfOk, if◌then◌else◌, is_none, option_map}
use Rattle.std.specs.Bool.{then_some}
use Rattle.std.specs.List.{AllByRecursion, cons_option, filter_map, list_any}
use Rattle.std.proofs.lemmas.List.{length-map}
use Rattle.std.proofs.lemmas.List.Elements.{All-contains, All-from_recursion, All-map}
use Rattle.lk_report.specs.FileMap.{FileMap}
use Rattle.lk_report.specs.declared.faults.Fault.{Fault}
use Rattle.lk_report.specs.declared.faults.Fault.TheVariants as fault
use Rattle.lk_report.specs.declared.statuses.LimitKind.{LimitKind}
use Rattle.lk_report.specs.declared.statuses.LimitKind.TheVariants as limit
use Rattle.lk_report.specs.declared.statuses.Status.{Status}
use Rattle.lk_report.specs.declared.statuses.Status.TheVariants as status
use Rattle.lk_report.specs.declared.statuses.Waiting.TheVariants as waiting
use Rattle.lk_model.specs.declared.commands.Command.{Command}
use Rattle.lk_model.specs.declared.commands.Word.{Word}
use Rattle.lk_model.specs.Answers.{fault_status, limit_fault}
use Rattle.lk_model.specs.Inputs.{input_words, inputs_of, missing_in, missing_of, missing_path, path_of}
use Rattle.lk_model.specs.Resolving.{paths_of}
use Rattle.lk_outside.specs.FilesState.{FilesState}
use Rattle.lk_inputs.specs.declared.input_files.InputFile.{InputFile}
use Rattle.lk_model.specs.declared.input_names.InputName.{InputName}
use Rattle.lk_inputs.specs.declared.inputs.Inputs.{Inputs}
use Rattle.lk_inputs.specs.Asked.{Asked, AskedSome, CommandAsked, FaultsAsked, FilesAsked, FrontAsked, LookUpsAsked, Paths, StatusNamed, file_name, is_missing, look_ups_of, name_path, paths_read, reads_before, known_stats}
use Rattle.lk_inputs.specs.FilesRead.{NamedGive, fault_in, files_at, files_refused, first_shared, shared_wait, size_limit_at, sizes_limit}
use Rattle.lk_inputs.specs.LookUps.{LookUpsGive}
use Rattle.lk_inputs.specs.Named.{file_path, names_in}
use Rattle.lk_inputs.specs.FileAnswers.{known_reads, reads_with}
use Rattle.lk_inputs.proofs.CallsReported.{reads_none}
use Rattle.lk_inputs.proofs.InputsReported.{files_are, names_are_there, paths_are}
use Rattle.lk_inputs.proofs.KindsReported.{none_missing_in}
use Rattle.lk_inputs.proofs.TurnsTaken.{all_asked, none_asked}

-- the paths that are read are those of the inputs
pub paths_read_are : (command : Command) (there : FileMap) → paths_read command there ≡ paths_of (inputs_of command there)
paths_read_are command there = by (names_in command there) ∙ ap (map file_path) (files_are command there) ∙ paths_are (inputs_of command there)
  where
    by : (names : List InputName) → map name_path names ≡ map file_path (files_at there names)
    by [] = refl
    by (name ∷ names) = ap (λ (l : List (List ℕ)). name.path ∷ l) (by names)

-- ---- which faults are reported

missing_any : (command : Command) (there : FileMap) (rows : List (ℕ × Word)) → 0 < length (filter_map (missing_in command there) rows) → list_any is_missing (filter_map (missing_in command there) rows) ≡ true
missing_any command there [] h = absurd (omega arith)
missing_any command there (row ∷ rows) h = by (is_none (path_of command there row.1)) (missing_any command there rows) h
  where
    by : (b : Bool) → (0 < length (filter_map (missing_in command there) rows) → list_any is_missing (filter_map (missing_in command there) rows) ≡ true)
        → 0 < length (cons_option (then_some b (fault.Missing (missing_path row.1))) (filter_map (missing_in command there) rows))
        → list_any is_missing (cons_option (then_some b (fault.Missing (missing_path row.1))) (filter_map (missing_in command there) rows)) ≡ true
    by true later k = refl
    by false later k = later k

-- inputs that are not there are reported as missing
pub missing_reported : (command : Command) (there : FileMap) (faults : List Fault) → 0 < length faults → faults ≡ missing_of command there → list_any is_missing faults ≡ true
unfolding missing_of
missing_reported command there faults some are =
    let P : List Fault → Type 0 = λ fs. 0 < length fs in
    ap (list_any is_missing) are ∙ missing_any command there (input_words command) (subst P are some)

-- a refusal that reports no faults
abbrev ReportsNone : Option Status → Type 0
ReportsNone None = Unit {0}
ReportsNone (Some (status.Limit l)) = Unit {0}
ReportsNone (Some (status.NotYet w)) = Unit {0}
ReportsNone (Some other) = ⊥

limit_reports_none : (which : LimitKind) (most n : ℕ) → ReportsNone (limit_fault which most n)
limit_reports_none which most n = by (nat_lt most n)
  where
    by : (b : Bool) → ReportsNone (if b then Some (status.Limit (record { which = which; number = n })) else None)
    by true = tt
    by false = tt

later_reports_none : (first second : Option Status) → ReportsNone first → ReportsNone second → ReportsNone (elim first as (λ _. Option Status) [ Some s ↦ Some s | None ↦ second ])
later_reports_none None second h k = k
later_reports_none (Some s) second h k = h

sizes_report_none : (before : ℕ) (files : List InputFile) → ReportsNone (sizes_limit before files)
sizes_report_none before [] = tt
sizes_report_none before (file ∷ files) =
    later_reports_none (size_limit_at before (length file.bytes)) (sizes_limit (before + length file.bytes) files)
    (later_reports_none (limit_fault limit.InputSize (2 ^ 26) (length file.bytes)) (limit_fault limit.InputTotal (2 ^ 30) (before + length file.bytes))
    (limit_reports_none limit.InputSize (2 ^ 26) (length file.bytes)) (limit_reports_none limit.InputTotal (2 ^ 30) (before + length file.bytes)))
    (sizes_report_none (before + length file.bytes) files)

shared_reports_none : (files : List InputFile) → ReportsNone (shared_wait files)
shared_reports_none files = by (first_shared files)
  where
    by : (o : Option (List ℕ)) → ReportsNone (option_map (λ path. status.NotYet (waiting.Form path)) o)
    by None = tt
    by (Some path) = tt

-- faults of files that are there report none that is missing
refused_faults : (files : List InputFile) (faults : List Fault) → files_refused files ≡ Some (status.LinkError faults) → list_any is_missing faults ≡ false
refused_faults files faults e =
    by (sizes_limit 0 files) (shared_wait files) (filter_map fault_in files) (sizes_report_none 0 files) (shared_reports_none files) (none_missing_in files) e
  where
    by : (sizes shared : Option Status) (found : List Fault) → ReportsNone sizes → ReportsNone shared → list_any is_missing found ≡ false
        → elim sizes as (λ _. Option Status) [ Some s ↦ Some s | None ↦ elim shared as (λ _. Option Status) [ Some s ↦ Some s | None ↦ fault_status found ] ] ≡ Some (status.LinkError faults)
        → list_any is_missing faults ≡ false
    by (Some s) shared found h k none e = absurd (subst (λ (o : Option Status). ReportsNone o) e h)
    by None (Some s) found h k none e = absurd (subst (λ (o : Option Status). ReportsNone o) e k)
    by None None [] h k none e = absurd (cc)
    by None None (f ∷ fs) h k none e =
        let same : f ∷ fs ≡ faults = cc in
        subst (λ (l : List Fault). list_any is_missing l ≡ false) same none

-- ---- look-ups, and then reads

pub command_refused : (command : Command) (there : FileMap) (old new : FilesState) (s : Status) (result : Result Inputs Status) → result ≡ Err s → LookUpsGive command there (Err s)
    → LookUpsAsked {X = List InputName} (known_stats old) (look_ups_of command there) (Err s) (known_stats new) → known_reads new ≡ known_reads old → CommandAsked command there old result new
command_refused command there old new s result is gives looked e =
    let R : Result Inputs Status → Type 0 = λ r. CommandAsked command there old r new in
    subst R (sym is) (by s gives looked)
  where
    some_asked : FrontAsked (known_stats old) (look_ups_of command there) (known_stats new) → AskedSome (look_ups_of command there) (paths_read command there) old new
    some_asked f = record { stats = f; reads = none_asked (known_reads old) (known_reads new) (paths_read command there) e }

    by : (s : Status) → LookUpsGive command there (Err s) → LookUpsAsked {X = List InputName} (known_stats old) (look_ups_of command there) (Err s) (known_stats new) → CommandAsked {X = Inputs} command there old (Err s) new
    by (status.LinkError faults) g a =
        let P : Bool → Type 0 = λ b. Asked (look_ups_of command there) (reads_before b command there) old new in
        subst P (sym (missing_reported command there faults g.1 g.2)) (record { stats = a; reads = e ∙ sym (reads_none (known_reads old)) })
    by (status.Limit l) g a = some_asked a
    by (status.ReadFault path) g a = some_asked a
    by status.NoMemory g a = some_asked a
    by (status.Done how) g a = absurd g
    by (status.Usage u) g a = absurd g
    by status.DeviceFault g a = absurd g
    by (status.NotUpdated c) g a = absurd g
    by (status.NotYet w) g a = absurd g

files_asked : (command : Command) (there : FileMap) (old new : FilesState) (result : Result Inputs Status) → known_stats new ≡ reads_with (look_ups_of command there) (known_stats old)
    → NamedGive there (names_in command there) result → FilesAsked (known_reads old) (paths_read command there) result (known_reads new) → CommandAsked command there old result new
files_asked command there old new (Ok inputs) looked gives a = record { stats = looked; reads = a }
files_asked command there old new (Err (status.NotYet w)) looked gives a = record { stats = looked; reads = a }
files_asked command there old new (Err (status.LinkError faults)) looked gives a =
    let none : list_any is_missing faults ≡ false = refused_faults (files_at there (names_in command there)) faults (gives (names_are_there command there)) in
    let P : Bool → Type 0 = λ b. Asked (look_ups_of command there) (reads_before b command there) old new in
    let Q : Bool → Type 0 = λ b. FaultsAsked b (known_reads old) (paths_read command there) (known_reads new) in
    let full : known_reads new ≡ reads_with (paths_read command there) (known_reads old) = subst Q none a in
    subst P (sym none) (record { stats = looked; reads = full })
files_asked command there old new (Err (status.Limit l)) looked gives a = record { stats = all_asked (known_stats old) (known_stats new) (look_ups_of command there) looked; reads = a }
files_asked command there old new (Err (status.ReadFault path)) looked gives a = record { stats = all_asked (known_stats old) (known_stats new) (look_ups_of command there) looked; reads = a }
files_asked command there old new (Err status.NoMemory) looked gives a = record { stats = all_asked (known_stats old) (known_stats new) (look_ups_of command there) looked; reads = a }
files_asked command there old new (Err (status.Done how)) looked gives a = record { stats = all_asked (known_stats old) (known_stats new) (look_ups_of command there) looked; reads = a }
files_asked command there old new (Err (status.Usage u)) looked gives a = record { stats = all_asked (known_stats old) (known_stats new) (look_ups_of command there) looked; reads = a }
files_asked command there old new (Err status.DeviceFault) looked gives a = record { stats = all_asked (known_stats old) (known_stats new) (look_ups_of command there) looked; reads = a }
files_asked command there old new (Err (status.NotUpdated c)) looked gives a = record { stats = all_asked (known_stats old) (known_stats new) (look_ups_of command there) looked; reads = a }

pub command_read : (command : Command) (there : FileMap) (old mid new : FilesState) (names : List InputName) (result : Result Inputs Status) → LookUpsGive command there (Ok names)
    → known_stats mid ≡ reads_with (look_ups_of command there) (known_stats old) → known_reads mid ≡ known_reads old → known_stats new ≡ known_stats mid
    → NamedGive there names result → FilesAsked (known_reads mid) (map name_path names) result (known_reads new) → CommandAsked command there old result new
command_read command there old mid new names result found looked unread unlooked given asked =
    let N : List InputName → Type 0 = λ ns. NamedGive there ns result in
    let A : List InputName → Type 0 = λ ns. FilesAsked (known_reads mid) (map name_path ns) result (known_reads new) in
    let B : Paths → Type 0 = λ before. FilesAsked before (paths_read command there) result (known_reads new) in
    files_asked command there old new result (unlooked ∙ looked) (subst N found.2 given) (subst B unread (subst A found.2 asked))

-- ---- the paths of files that were looked up

pub named_in_places : (places : List (List ℕ)) (names : List InputName) (result : Result Inputs Status) → AllByRecursion (λ (name : InputName). Contains places name.path) names → StatusNamed (map name_path names) result → StatusNamed places result
named_in_places places names (Ok inputs) all h = tt
named_in_places places names (Err (status.ReadFault path)) all h =
    let P : List ℕ → Type 0 = λ p. Contains places p in
    All-contains P (map name_path names) path (All-map P name_path names (All-from_recursion (λ (name : InputName). Contains places name.path) names all)) h
named_in_places places names (Err (status.Done how)) all h = tt
named_in_places places names (Err (status.LinkError faults)) all h = tt
named_in_places places names (Err (status.Usage u)) all h = tt
named_in_places places names (Err status.DeviceFault) all h = tt
named_in_places places names (Err status.NoMemory) all h = tt
named_in_places places names (Err (status.Limit l)) all h = tt
named_in_places places names (Err (status.NotUpdated c)) all h = tt
named_in_places places names (Err (status.NotYet w)) all h = tt

files_placed : (places : List (List ℕ)) (files : List InputFile) → AllByRecursion (λ (name : InputName). Contains places name.path) (map file_name files) → AllByRecursion (λ (file : InputFile). Contains places file.name.path) files
files_placed places [] h = tt
files_placed places (file ∷ files) h = (h.0, files_placed places files h.1)

pub inputs_placed : (places : List (List ℕ)) (names : List InputName) (result : Result Inputs Status) → AllByRecursion (λ (name : InputName). Contains places name.path) names → IfOk result (λ inputs. map file_name inputs.files ≡ names)
    → IfOk result (λ inputs. AllByRecursion (λ (file : InputFile). Contains places file.name.path) inputs.files)
inputs_placed places names (Ok inputs) all e =
    files_placed places inputs.files (subst (λ (ns : List InputName). AllByRecursion (λ (name : InputName). Contains places name.path) ns) (sym e) all)
inputs_placed places names (Err s) all e = tt

-- there are no more files than inputs that were looked up
pub few_inputs : (names : List InputName) (result : Result Inputs Status) → length names ≤ 4096 → IfOk result (λ inputs. map file_name inputs.files ≡ names) → IfOk result (λ inputs. length inputs.files ≤ 4096)
few_inputs names (Ok inputs) few e = omega (arith, few, length-map inputs.files file_name, ap (λ (ns : List InputName). length ns) e)
few_inputs names (Err s) few e = tt
