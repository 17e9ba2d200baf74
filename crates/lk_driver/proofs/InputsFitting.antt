-- Of inputs as they were read: their numbers and texts fit, no fault is found in them, and a link of them is static.
use Rattle.std.proofs.Common.{◌≡◌, refl, sym, ap, ◌∙◌, arith, subst, ℕ, ◌+◌, ◌<◌, ◌≤◌, ◌^◌, ◌==◌, Bool, true, false, ◌&&◌, ◌||◌, cond, if◌then◌else◌, List, [], ◌∷◌, length, map, Option, Some, None, Result, Ok, Err}
use Rattle.std.specs.Prelude.{All, IfSome, bytes_eq, filter_map, find, option_map}
use Rattle.std.specs.List.{AllByRecursion, cons_option}
use mir.Syntax.{w64}
use mir.Val.{SFits}
use Rattle.std.proofs.lemmas.List.{length-map}
use Rattle.std.proofs.lemmas.List.Elements.{recursion_from_All}
use Rattle.lk_report.specs.declared.causes.OptionRecord.{OptionRecord}
use Rattle.lk_report.specs.declared.faults.Fault.TheVariants as fault
use Rattle.lk_report.specs.declared.faults.InputFault.{InputFault}
use Rattle.lk_report.specs.declared.stamps.Stamp.{Stamp}
use Rattle.lk_report.specs.declared.statuses.Status.TheVariants as status
use Rattle.lk_report.specs.declared.statuses.Waiting.TheVariants as waiting
use Rattle.lk_model.specs.declared.summaries.InputSummary.{InputSummary}
use Rattle.lk_model.specs.declared.summaries.Kind.{Kind}
use Rattle.lk_model.specs.declared.summaries.Kind.TheVariants as kind
use Rattle.lk_model.specs.declared.summaries.PieceInfo.{PieceInfo}
use Rattle.lk_model.specs.Adding.{added_inputs}
use Rattle.lk_model.specs.Answers.{is_shared, is_shared_kind, shared_waits}
use Rattle.lk_model.specs.Elf.{elf_of}
use Rattle.lk_model.specs.Finding.{found_of, is_dynamic}
use Rattle.lk_model.specs.Inputs.{fault_by, input_fault_in, input_faults_of, is_read_as_shared, reads_as_shared, summary_by}
use Rattle.lk_model.specs.Inputs.{is_shared as is_shared_result}
use Rattle.lk_model.specs.Kinds.{kind_of}
use Rattle.lk_model.specs.Numbered.{Numbered}
use Rattle.lk_model.specs.Objects.{pieces_in, summary_in}
use Rattle.lk_model.specs.Resolving.{paths_of, resolve}
use Rattle.lk_model.specs.Views.{Elf, Input}
use Rattle.lk_law_placement.specs.SoundInputs.{SoundInput, SoundInputs}
use Rattle.lk_model.proofs.AddedOnce.{added_inputs_have}
use Rattle.lk_scan_inputs.specs.Objects.{AreObjects, IsObject}
use Rattle.lk_inputs.specs.declared.input_files.InputFile.{InputFile}
use Rattle.lk_inputs.specs.declared.inputs.Inputs.{Inputs}
use Rattle.lk_inputs.specs.FileNumbers.{FileFits}
use Rattle.lk_inputs.specs.Named.{file_of, files_of}
use Rattle.lk_law_records.specs.Recordable.{HasOtherNames, InputFits, InputsFit, StampFits, SummaryFits, has_zero, is_record_name}
use Rattle.lk_law_records.proofs.ByteNumbers.{IsLowElf, elf-low}
use Rattle.lk_law_records.proofs.Lists.{all-first, all-second, length-passing}
use Rattle.lk_law_records.proofs.ObjectFits.{object-fits}
use Rattle.lk_law_records.proofs.SoundNames.{pieces-other}
use Rattle.lk_records.specs.Occurrences.{OccurrencesAreRight, occurrence_of, occurrences_after}
use Rattle.lk_driver.specs.ReadInputs.{AreReadInputs}

-- ---- what holds of all inputs

unmapped : {X Y : Type 0} (f : X → Y) (P : Y → Type 0) (xs : List X) → AllByRecursion P (map f xs) → AllByRecursion (λ x. P (f x)) xs
unmapped f P [] all = tt
unmapped f P (x ∷ xs) all = (all.0, unmapped f P xs all.1)

occurrences_low : (earlier paths : List (List ℕ)) → length earlier + length paths ≤ 4096 → AllByRecursion (λ n. n < 2 ^ 32) (occurrences_after earlier paths)
occurrences_low earlier [] few = tt
occurrences_low earlier (path ∷ paths) few =
    let passing = length-passing (bytes_eq path) earlier in
    (omega (arith, few, passing), occurrences_low (path ∷ earlier) paths (omega (arith, few)))

counts_low : (xs : List Input) → OccurrencesAreRight xs → length xs ≤ 4096 → AllByRecursion (λ (x : Input). x.occurrence < 2 ^ 32) xs
counts_low xs right few =
    let size = length-map xs (λ (x : Input). x.path) in
    unmapped occurrence_of (λ n. n < 2 ^ 32) xs
    (subst (λ (ns : List ℕ). AllByRecursion (λ n. n < 2 ^ 32) ns) (sym right) (occurrences_low [] (paths_of xs) (omega (arith, size, few))))

files_fit : (xs : List Input) (inputs : Inputs) → inputs.files ≡ files_of xs → AllByRecursion FileFits inputs.files → AllByRecursion (λ (x : Input). FileFits (file_of x)) xs
files_fit xs inputs are all = unmapped file_of FileFits xs (subst (λ (files : List InputFile). AllByRecursion FileFits files) are all)

-- ---- an input's numbers and texts fit

summary_is : (x : Input) → IsObject x → x.summary ≡ summary_in (elf_of x.elf.bytes)
summary_is x is = is.summary ∙ ap summary_in is.file

summary_fits : (x : Input) → IsObject x → FileFits (file_of x) → SummaryFits x.summary
summary_fits x is fits =
    let low : IsLowElf (elf_of x.elf.bytes) = elf-low x.elf.bytes (recursion_from_All (λ b. b < 256) x.elf.bytes fits.bytes) fits.size in
    subst SummaryFits (sym (summary_is x is)) (object-fits (elf_of x.elf.bytes) low)

stamp_fits : (stamp : Option Stamp) → IfSome stamp (λ (s : Stamp). s.length < 2 ^ 64) → IfSome stamp (λ (s : Stamp). SFits w64 s.modified) → StampFits stamp
stamp_fits None length modified = tt
stamp_fits (Some s) length modified = (length, modified)

abbrev AllOther : List PieceInfo → Type 0
AllOther ps = AllByRecursion (λ (p : PieceInfo). is_record_name p.name ≡ false) ps

pieces_are : (elf : Elf) → (summary_in elf).pieces ≡ pieces_in elf
unfolding summary_in
pieces_are elf = refl

names_other : (x : Input) → IsObject x → HasOtherNames x
names_other x is =
    let pieces : x.summary.pieces ≡ pieces_in (elf_of x.elf.bytes) = ap (λ (s : InputSummary). s.pieces) (summary_is x is) ∙ pieces_are (elf_of x.elf.bytes) in
    subst AllOther (sym pieces) (pieces-other x.elf.bytes is.no_fault)

all_fit : (xs : List Input) → AreObjects xs → AllByRecursion (λ (x : Input). has_zero x.path ≡ false) xs → AllByRecursion (λ (x : Input). x.occurrence < 2 ^ 32) xs
    → AllByRecursion (λ (x : Input). FileFits (file_of x)) xs → AllByRecursion (λ (x : Input). InputFits x × HasOtherNames x) xs
all_fit [] are paths counts files = tt
all_fit (x ∷ xs) are paths counts files =
    let fits : InputFits x = record { path = paths.0; occurrence = counts.0; lib = files.0.name.lib; stamp = stamp_fits x.stamp files.0.name.length files.0.name.modified; summary = summary_fits x are.0 files.0 } in
    ((fits, names_other x are.0), all_fit xs are.1 paths.1 counts.1 files.1)

pub inputs_fit : (options : OptionRecord) (xs : List Input) (inputs : Inputs) → AreReadInputs options xs inputs → All FileFits inputs.files → InputsFit options xs
inputs_fit options xs inputs read files =
    let few = read.few in
    let both = all_fit xs read.objects read.paths (counts_low xs read.occurrences few) (files_fit xs inputs read.given.files (recursion_from_All FileFits inputs.files files)) in
    record {
      options = read.texts;
      count = omega (arith, few);
      inputs = all-first InputFits HasOtherNames xs both;
      names = all-second InputFits HasOtherNames xs both;
    }

-- ---- none of them is shared

first_waits : (x : Input) (xs : List Input) → shared_waits (x ∷ xs) ≡ None → (is_shared x ≡ false) × (shared_waits xs ≡ None)
first_waits x xs h = by (is_shared x) refl h
  where
    by : (b : Bool) → is_shared x ≡ b → option_map (λ (i : Input). status.NotYet (waiting.Form i.path)) (cond b (Some x) (find is_shared xs)) ≡ None → (is_shared x ≡ false) × (shared_waits xs ≡ None)
    by true e h = absurd (cc)
    by false e h = (e, h)

kind_is_shared : (r : Result Kind InputFault) → is_shared_result r ≡ is_shared_kind r
kind_is_shared (Ok kind.Shared) = refl
kind_is_shared (Ok kind.Object) = refl
kind_is_shared (Err f) = refl

read_shared : (lib : ℕ) (r : Result Kind InputFault) → (lib == 0 && is_shared_result r) ≡ (if lib == 0 then is_shared_kind r else false)
read_shared lib r = by (lib == 0)
  where
    by : (b : Bool) → (b && is_shared_result r) ≡ (if b then is_shared_kind r else false)
    by true = kind_is_shared r
    by false = refl

not_read_so : (x : Input) → is_shared x ≡ false → is_read_as_shared x.lib x.elf.bytes ≡ false
not_read_so x still = read_shared x.lib (kind_of x.elf.bytes) ∙ still

-- ---- no fault is found in them

sound_input : (x : Input) → IsObject x → is_read_as_shared x.lib x.elf.bytes ≡ false → SoundInput x
unfolding reads_as_shared input_fault_in
sound_input x is apart = record {
  file = is.file;
  summary = is.summary ∙ sym (ap (λ b. summary_by b x.path x.elf) apart);
  no_fault = ap (λ b. option_map (λ (f : InputFault). fault.Input x.path f) (fault_by b x.elf.bytes)) apart ∙ ap (λ (o : Option InputFault). option_map (λ (f : InputFault). fault.Input x.path f) o) is.no_fault;
}

all_sound : (xs : List Input) → AreObjects xs → shared_waits xs ≡ None → SoundInputs xs
all_sound [] are none = tt
all_sound (x ∷ xs) are none =
    let still : (is_shared x ≡ false) × (shared_waits xs ≡ None) = first_waits x xs none in
    (sound_input x are.0 (not_read_so x still.0), all_sound xs are.1 still.1)

pub sound_inputs : (options : OptionRecord) (xs : List Input) (inputs : Inputs) → AreReadInputs options xs inputs → SoundInputs xs
sound_inputs options xs inputs read = all_sound xs read.objects read.unshared

none_found : (xs : List Input) → SoundInputs xs → filter_map input_fault_in xs ≡ []
none_found [] all = refl
none_found (x ∷ xs) all = λ i. cons_option (all.0.no_fault i) (none_found xs all.1 i)

pub no_faults : (options : OptionRecord) (xs : List Input) (inputs : Inputs) → AreReadInputs options xs inputs → input_faults_of xs ≡ []
unfolding input_faults_of
no_faults options xs inputs read = none_found xs (sound_inputs options xs inputs read)

-- ---- a link of them is static

abbrev OfObject : InputSummary → Type 0
OfObject s = s.kind ≡ kind.Object

object_kind : (elf : Elf) → (summary_in elf).kind ≡ kind.Object
unfolding summary_in
object_kind elf = refl

kinds : (xs : List Input) → AreObjects xs → AllByRecursion (λ (x : Input). OfObject x.summary) xs
kinds [] are = tt
kinds (x ∷ xs) are = (ap (λ (s : InputSummary). s.kind) are.0.summary ∙ object_kind x.elf, kinds xs are.1)

none_shared : (added : List Numbered) → AllByRecursion (λ (x : Numbered). OfObject x.summary) added → is_dynamic added ≡ false
none_shared [] all = refl
none_shared (x ∷ added) all =
    ap (λ (k : Kind). elim k as (λ _. Bool) [ kind.Object ↦ false | kind.Shared ↦ true ] || is_dynamic added) all.0 ∙ none_shared added all.1

pub is_static : (options : OptionRecord) (xs : List Input) (inputs : Inputs) → AreReadInputs options xs inputs → (resolve options xs).options.dynamic ≡ false
unfolding resolve found_of
is_static options xs inputs read =
    none_shared (added_inputs options.entry xs) (added_inputs_have OfObject options.entry xs (kinds xs read.objects))
