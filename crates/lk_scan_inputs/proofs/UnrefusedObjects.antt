-- The inputs of a command that are not refused are objects without a fault.
use Rattle.std.proofs.Common.{◌≡◌, refl, ap, ◌∙◌, ℕ, ◌==◌, ◌&&◌, Bool, true, false, cond, List, [], ◌∷◌, Option, Some, None, Result, Ok, Err}
use Rattle.std.specs.Prelude.{find, filter_map, if◌then◌else◌, option_map}
use Rattle.std.specs.List.{cons_option}
use Rattle.lk_report.specs.FileMap.{FileMap}
use Rattle.lk_report.specs.declared.faults.Fault.{Fault}
use Rattle.lk_report.specs.declared.faults.Fault.TheVariants as fault
use Rattle.lk_report.specs.declared.faults.InputFault.{InputFault}
use Rattle.lk_report.specs.declared.statuses.Status.{Status}
use Rattle.lk_report.specs.declared.statuses.Status.TheVariants as status
use Rattle.lk_report.specs.declared.statuses.Waiting.TheVariants as waiting
use Rattle.lk_model.specs.declared.commands.Command.{Command}
use Rattle.lk_model.specs.declared.summaries.Kind.{Kind}
use Rattle.lk_model.specs.declared.summaries.Kind.TheVariants as kind
use Rattle.lk_model.specs.Answers.{fault_status, input_faults, is_shared, is_shared_kind, shared_waits, size_limit}
use Rattle.lk_model.specs.Elf as elf
use Rattle.lk_model.specs.Elf.{elf_of}
use Rattle.lk_model.specs.Inputs.{FoundInput, count_of, found_in, input_with, input_words, inputs_after, inputs_of, missing_of, summary_by}
use Rattle.lk_model.specs.Inputs.{is_shared as is_shared_result}
use Rattle.lk_model.specs.Kinds.{kind_of}
use Rattle.lk_model.specs.ObjectChecks.{object_fault}
use Rattle.lk_model.specs.Views.{Input}
use Rattle.lk_inputs.specs.Refusals.{files_refusal, inputs_refusal}
use Rattle.lk_scan_inputs.specs.Objects.{AreObjects, IsObject}
use Rattle.lk_scan_inputs.specs.ObjectLaws.{UnrefusedAreObjects}

-- ---- what is not refused

-- where none of three refusals is due, neither is the second or the third
second_of : (first second third : Option Status) → elim first as (λ _. Option Status) [ Some s ↦ Some s | None ↦ elim second as (λ _. Option Status) [ Some s ↦ Some s | None ↦ third ] ] ≡ None → second ≡ None
second_of (Some s) second third h = absurd (cc)
second_of None (Some s) third h = absurd (cc)
second_of None None third h = refl

third_of : (first second third : Option Status) → elim first as (λ _. Option Status) [ Some s ↦ Some s | None ↦ elim second as (λ _. Option Status) [ Some s ↦ Some s | None ↦ third ] ] ≡ None → third ≡ None
third_of (Some s) second third h = absurd (cc)
third_of None (Some s) third h = absurd (cc)
third_of None None third h = h

later_of : (first second : Option Status) → elim first as (λ _. Option Status) [ Some s ↦ Some s | None ↦ second ] ≡ None → second ≡ None
later_of (Some s) second h = absurd (cc)
later_of None second h = h

no_faults : (faults : List Fault) → fault_status faults ≡ None → faults ≡ []
no_faults [] h = refl
no_faults (f ∷ fs) h = absurd (cc)

files_unrefused : (command : Command) (there : FileMap) → inputs_refusal command there ≡ None → files_refusal (inputs_of command there) ≡ None
unfolding inputs_refusal
files_unrefused command there h = later_of (fault_status (missing_of command there)) (files_refusal (inputs_of command there)) h

none_waits : (xs : List Input) → files_refusal xs ≡ None → shared_waits xs ≡ None
unfolding files_refusal
none_waits xs h = second_of (size_limit 0 xs) (shared_waits xs) (fault_status (input_faults xs)) h

none_faulty : (xs : List Input) → files_refusal xs ≡ None → input_faults xs ≡ []
unfolding files_refusal
none_faulty xs h = no_faults (input_faults xs) (third_of (size_limit 0 xs) (shared_waits xs) (fault_status (input_faults xs)) h)

-- ---- one input after another

first_waits : (x : Input) (xs : List Input) → shared_waits (x ∷ xs) ≡ None → (is_shared x ≡ false) × (shared_waits xs ≡ None)
first_waits x xs h = by (is_shared x) refl h
  where
    by : (b : Bool) → is_shared x ≡ b → option_map (λ (i : Input). status.NotYet (waiting.Form i.path)) (cond b (Some x) (find is_shared xs)) ≡ None → (is_shared x ≡ false) × (shared_waits xs ≡ None)
    by true e h = absurd (cc)
    by false e h = (e, h)

first_faulty : (x : Input) (xs : List Input) → input_faults (x ∷ xs) ≡ [] → (object_fault x.elf.bytes ≡ None) × (input_faults xs ≡ [])
first_faulty x xs h = by (object_fault x.elf.bytes) refl h
  where
    by : (o : Option InputFault) → object_fault x.elf.bytes ≡ o → cons_option (option_map (λ f. fault.Input x.path f) o) (input_faults xs) ≡ [] → (object_fault x.elf.bytes ≡ None) × (input_faults xs ≡ [])
    by None e h = (e, h)
    by (Some f) e h = absurd (cc)

kind_is_shared : (r : Result Kind InputFault) → is_shared_result r ≡ is_shared_kind r
kind_is_shared (Ok kind.Shared) = refl
kind_is_shared (Ok kind.Object) = refl
kind_is_shared (Err f) = refl

read_shared : (lib : ℕ) (r : Result Kind InputFault) → (lib == 0 && is_shared_result r) ≡ (if lib == 0 then is_shared_kind r else false)
read_shared lib r = by (lib == 0)
  where
    by : (b : Bool) → (b && is_shared_result r) ≡ (if b then is_shared_kind r else false)
    by true = kind_is_shared r
    by false = refl

objects_after : (earlier : List (List ℕ)) (founds : List FoundInput) → shared_waits (inputs_after earlier founds) ≡ None → input_faults (inputs_after earlier founds) ≡ [] → AreObjects (inputs_after earlier founds)
unfolding inputs_after elf_of elf.elf_under elf.elf_with
objects_after earlier [] waits faulty = tt
objects_after earlier (found ∷ founds) waits faulty =
    let x : Input = input_with (count_of found.path earlier) found (elf_of found.file.bytes) in
    let others : List Input = inputs_after (found.path ∷ earlier) founds in
    let still : (is_shared x ≡ false) × (shared_waits others ≡ None) = first_waits x others waits in
    let sound : (object_fault x.elf.bytes ≡ None) × (input_faults others ≡ []) = first_faulty x others faulty in
    let not_shared : (found.lib == 0 && is_shared_result (kind_of found.file.bytes)) ≡ false = read_shared found.lib (kind_of found.file.bytes) ∙ still.0 in
    let here : IsObject x = record { file = refl; summary = ap (λ b. summary_by b found.path (elf_of found.file.bytes)) not_shared; no_fault = sound.0 } in
    (here, objects_after (found.path ∷ earlier) founds still.1 sound.1)

pub unrefused_are_objects : UnrefusedAreObjects
unfolding inputs_of
unrefused_are_objects command there h =
    let files : files_refusal (inputs_of command there) ≡ None = files_unrefused command there h in
    objects_after [] (filter_map (found_in command there) (input_words command)) (none_waits (inputs_of command there) files) (none_faulty (inputs_of command there) files)
