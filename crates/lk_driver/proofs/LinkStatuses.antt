-- What is answered of the link of inputs that were read: it is done, or has faults of which none reports a missing
-- input, or waits, or exceeds a limit other than that on the number of inputs.
use Rattle.std.proofs.Common.{◌≡◌, refl, ℕ, ◌==◌, ◌^◌, Bool, true, false, ◌&&◌, ◌||◌, not, cond, if◌then◌else◌, List, [], ◌∷◌, ◌++◌, fold, flat_map, filter, filter_map, length, map, Option, Some, None}
use Rattle.std.specs.Prelude.{nat_lt, slice_get, zip}
use Rattle.std.specs.List.{AllByRecursion, cons_option, list_any}
use Rattle.lk_report.specs.declared.faults.Fault.{Fault}
use Rattle.lk_report.specs.declared.faults.Fault.TheVariants as fault
use Rattle.lk_report.specs.declared.statuses.LimitKind.{LimitKind}
use Rattle.lk_report.specs.declared.statuses.LimitKind.TheVariants as limit
use Rattle.lk_report.specs.declared.statuses.Status.{Status}
use Rattle.lk_report.specs.declared.statuses.Status.TheVariants as status
use Rattle.lk_report.specs.declared.statuses.Waiting.TheVariants as waiting
use Rattle.lk_model.specs.declared.layouts.Placement.{Placement}
use Rattle.lk_model.specs.declared.summaries.Contribution.{Contribution}
use Rattle.lk_model.specs.declared.summaries.Contributions.{Contributions}
use Rattle.lk_model.specs.declared.summaries.Winner.{Winner}
use Rattle.lk_model.specs.Answers.{fault_status, first_path, full_link, image_length, limit_fault, needs_nothing, needs_wait, placed_answer, placement_limit, resolved_answer}
use Rattle.lk_model.specs.FileHeader.{exec_stack_of}
use Rattle.lk_model.specs.Finding.{Found, contributions_in, path_in}
use Rattle.lk_model.specs.Forms.{is_address_form, is_thread_offset}
use Rattle.lk_model.specs.FullPlace.{full_place, memory_of, section_count}
use Rattle.lk_model.specs.NeedsOf.{import_of, is_variable}
use Rattle.lk_model.specs.Overflows.{overflow_faults, overflow_of, path_of_input}
use Rattle.lk_model.specs.References.{Sited, sited_of}
use Rattle.lk_model.specs.ResolveFaults.{doubled, faults_of, has_entry, is_mismatch, multiple_definitions, name_count, resolve_faults, tls_mismatches}
use Rattle.lk_model.specs.Resolving.{found_in}
use Rattle.lk_model.specs.ScanFaults.{direct_tls_at, empty_copy_at, faults_among, faults_at, is_reported, is_to_dropped, is_unsupported, needs_local_sections, of_name, scan_faults, site_of, undefined_at, with_fault}
use Rattle.lk_model.specs.Segments.{program_headers}
use Rattle.lk_model.specs.SymbolValues.{numbers_of, reference_fits, reference_value}
use Rattle.lk_model.specs.Symbols.{is_strong_definition}
use Rattle.lk_model.specs.Views.{Elf, Input, Ref, Resolved, Through}
use Rattle.lk_model.specs.Winners.{is_nothing}
use Rattle.lk_inputs.specs.Asked.{is_missing}
use Rattle.lk_driver.specs.LinkStatuses.{IsLinkStatus}
use Rattle.lk_model.specs.SectionKeys.{is_alloc}

-- ---- faults of which none reports a missing input

abbrev IsOther : Fault → Type 0
IsOther f = is_missing f ≡ false

abbrev AreOther : List Fault → Type 0
AreOther fs = AllByRecursion IsOther fs

none_missing : (fs : List Fault) → AreOther fs → list_any is_missing fs ≡ false
none_missing [] all = refl
none_missing (f ∷ fs) all = λ i. all.0 i || none_missing fs all.1 i

joined : (xs ys : List Fault) → AreOther xs → AreOther ys → AreOther (xs ++ ys)
joined [] ys first second = second
joined (x ∷ xs) ys first second = (first.0, joined xs ys first.1 second)

each_other : {X : Type 0} (f : X → List Fault) → ((x : X) → AreOther (f x)) → (xs : List X) → AreOther (flat_map f xs)
each_other f each [] = tt
each_other f each (x ∷ xs) = joined (f x) (flat_map f xs) (each x) (each_other f each xs)

one_where : (b : Bool) (f : Fault) → IsOther f → AreOther (cond b (f ∷ []) [])
one_where true f own = (own, tt)
one_where false f own = tt

one_unless : (b : Bool) (f : Fault) → IsOther f → AreOther (cond b [] (f ∷ []))
one_unless true f own = tt
one_unless false f own = (own, tt)

-- ---- the faults of names

doubled_other : (found : Found) (name : List ℕ) (list : List Contribution) → AreOther (doubled found name list)
doubled_other found name [] = tt
doubled_other found name (first ∷ later) = go later
  where
    go : (cs : List Contribution) → AreOther (map (λ (c : Contribution). fault.MultipleDefinition name (path_in found first.input) (path_in found c.input)) cs)
    go [] = tt
    go (c ∷ cs) = (refl, go cs)

mismatches_other : (row : Contributions × Winner) → AreOther (tls_mismatches row)
mismatches_other (cs, w) = one_where (is_mismatch cs w) (fault.TlsMismatch cs.name) refl

names_other : (found : Found) → AreOther (faults_of found)
unfolding faults_of
names_other found =
    let entry : List Fault = cond (has_entry found) [] (fault.NoEntry found.entry ∷ []) in
    let mismatches : List Fault = flat_map tls_mismatches (zip found.names found.winners) in
    let multiple : List Fault = flat_map (multiple_definitions found) found.names in
    joined (multiple ++ mismatches) entry
    (joined multiple mismatches
    (each_other (multiple_definitions found) (λ cs. doubled_other found cs.name (filter is_strong_definition cs.list)) found.names)
    (each_other tls_mismatches mismatches_other (zip found.names found.winners)))
    (one_unless (has_entry found) (fault.NoEntry found.entry) refl)

-- ---- the faults of references

undefined_other : (found : Found) (x : Ref) → AreOther (undefined_at found x)
undefined_other found x = through x.through
  where
    of : (name : ℕ) (weak : Bool) (o : Option Contributions)
        → AreOther (elim o [ None ↦ [] | Some cs ↦ cond (not weak && of_name found name (λ others w. is_nothing w)) (fault.Undefined cs.name (site_of found x) ∷ []) [] ])
    of name weak None = tt
    of name weak (Some cs) = one_where (not weak && of_name found name (λ others w. is_nothing w)) (fault.Undefined cs.name (site_of found x)) refl

    through : (t : Through) → AreOther (elim t [
      | Through.ByLocal symbol ↦ []
      | Through.ByName name weak ↦ elim (contributions_in found name) [
        | None ↦ []
        | Some cs ↦ cond (not weak && of_name found name (λ others w. is_nothing w)) (fault.Undefined cs.name (site_of found x) ∷ []) []
      ]
    ])
    through (Through.ByLocal symbol) = tt
    through (Through.ByName name weak) = of name weak (contributions_in found name)

copy_other : (found : Found) (x : Ref) → AreOther (empty_copy_at found x)
copy_other found x = elim (import_of found x) as (λ o. AreOther (elim o [
  | None ↦ []
  | Some import ↦ cond (is_address_form x.code && (is_variable import.1 && (import.1.size == 0))) (fault.CopyOfZero import.1.name (site_of found x) ∷ []) []
])) [
  | None ↦ tt
  | Some import ↦ one_where (is_address_form x.code && (is_variable import.1 && (import.1.size == 0))) (fault.CopyOfZero import.1.name (site_of found x)) refl
]

direct_other : (found : Found) (x : Ref) → AreOther (direct_tls_at found x)
direct_other found x = elim (import_of found x) as (λ o. AreOther (elim o [
  | None ↦ []
  | Some import ↦ cond (is_thread_offset x.code) (fault.ImportedTlsDirect import.1.name (site_of found x) ∷ []) []
])) [
  | None ↦ tt
  | Some import ↦ one_where (is_thread_offset x.code) (fault.ImportedTlsDirect import.1.name (site_of found x)) refl
]

reference_other : (found : Found) (elf : Elf) (x : Sited) → AreOther (faults_at found elf x)
reference_other found elf (key, x) =
    let dropped : List Fault = cond (needs_local_sections key && is_to_dropped found elf x) (fault.DroppedLocal (site_of found x) ∷ []) [] in
    let unsupported : List Fault = cond (is_unsupported found elf (is_alloc key.class) x) (fault.Unsupported x.code (site_of found x) ∷ []) [] in
    let imported : List Fault = empty_copy_at found x ++ direct_tls_at found x in
    let loaded : List Fault = cond (is_alloc key.class) imported [] in
    joined (undefined_at found x ++ dropped ++ unsupported) loaded
    (joined (undefined_at found x ++ dropped) unsupported
    (joined (undefined_at found x) dropped (undefined_other found x)
    (one_where (needs_local_sections key && is_to_dropped found elf x) (fault.DroppedLocal (site_of found x)) refl))
    (one_where (is_unsupported found elf (is_alloc key.class) x) (fault.Unsupported x.code (site_of found x)) refl))
    (all_where (is_alloc key.class) imported (joined (empty_copy_at found x) (direct_tls_at found x) (copy_other found x) (direct_other found x)))
  where
    all_where : (b : Bool) (fs : List Fault) → AreOther fs → AreOther (cond b fs [])
    all_where true fs all = all
    all_where false fs all = tt

references_other : (found : Found) (inputs : List Input) (sited : List Sited) → AreOther (faults_among found inputs sited)
references_other found inputs sited = each_other _ each sited
  where
    of : (x : Sited) (o : Option Input) → AreOther (elim o [ None ↦ [] | Some i ↦ faults_at found i.elf x ])
    of x None = tt
    of x (Some i) = reference_other found i.elf x

    each : (x : Sited) → AreOther (elim (slice_get inputs x.1.input) [ None ↦ [] | Some i ↦ faults_at found i.elf x ])
    each x = of x (slice_get inputs x.1.input)

with_other : (reported : List Fault) (f : Fault) → AreOther reported → IsOther f → AreOther (with_fault reported f)
with_other reported f all own = go (is_reported reported f)
  where
    go : (b : Bool) → AreOther (cond b reported (reported ++ f ∷ []))
    go true = all
    go false = joined reported (f ∷ []) all (own, tt)

reported_other : (reported fs : List Fault) → AreOther reported → AreOther fs → AreOther (fold with_fault reported fs)
reported_other reported [] all more = all
reported_other reported (f ∷ fs) all more = reported_other (with_fault reported f) fs (with_other reported f all more.0) more.1

scan_other : (r : Resolved) → AreOther (scan_faults r)
unfolding scan_faults
scan_other r =
    let sited : List Sited = sited_of r.names r.inputs r.kept in
    reported_other [] (faults_among (found_in r) r.inputs sited) tt (references_other (found_in r) r.inputs sited)

-- ---- the faults of values

overflows_other : (r : Resolved) (place : Placement) → AreOther (overflow_faults r place)
unfolding overflow_faults
overflows_other r place = go r.references
  where
    of : (ref : Ref) (b : Bool) (fs : List Fault) → AreOther fs
        → AreOther (cons_option (if b then None else (let n = numbers_of r place ref in
        Some (fault.Overflow (record { path = path_of_input r ref.input; section = ref.section; offset = ref.offset }) n.p n.s n.a (reference_value r place ref)))) fs)
    of ref true fs all = all
    of ref false fs all = (refl, all)

    go : (refs : List Ref) → AreOther (filter_map (overflow_of r place) refs)
    go [] = tt
    go (ref ∷ refs) = of ref (reference_fits r place ref) (filter_map (overflow_of r place) refs) (go refs)

-- ---- the answer, refusal by refusal

abbrev IsLinkRefusal : Option Status → Type 0
IsLinkRefusal None = Unit {0}
IsLinkRefusal (Some s) = IsLinkStatus s

first_of_two : (o : Option Status) (later : Status) → IsLinkRefusal o → IsLinkStatus later → IsLinkStatus (elim o as (λ _. Status) [ Some s ↦ s | None ↦ later ])
first_of_two None later own more = more
first_of_two (Some s) later own more = own

first_refusal : (o later : Option Status) → IsLinkRefusal o → IsLinkRefusal later → IsLinkRefusal (elim o as (λ _. Option Status) [ Some s ↦ Some s | None ↦ later ])
first_refusal None later own more = more
first_refusal (Some s) later own more = own

limit_is : (which : LimitKind) (most number : ℕ) → (which ≡ limit.Inputs → ⊥) → IsLinkRefusal (limit_fault which most number)
limit_is which most number other = go (nat_lt most number)
  where
    go : (b : Bool) → IsLinkRefusal (if b then Some (status.Limit (record { which = which; number = number })) else None)
    go true = other
    go false = tt

faults_are : (fs : List Fault) → AreOther fs → IsLinkRefusal (fault_status fs)
faults_are [] all = tt
faults_are (f ∷ fs) all = none_missing (f ∷ fs) all

needs_are : (r : Resolved) → IsLinkRefusal (needs_wait r)
needs_are r = go (needs_nothing r.needs)
  where
    go : (b : Bool) → IsLinkRefusal (if b then None else Some (status.NotYet (waiting.Form (first_path r.inputs))))
    go true = tt
    go false = tt

placement_is : (r : Resolved) → IsLinkRefusal (placement_limit r (full_place r))
placement_is r =
    let place = full_place r in
    let image = limit_fault limit.Image (2 ^ 29) (image_length r place) in
    let headers = limit_fault limit.Headers 64 (length (program_headers place (exec_stack_of r))) in
    let memory = limit_fault limit.Memory (2 ^ 31) (memory_of place) in
    let later : Option Status = elim headers [ Some s ↦ Some s | None ↦ image ] in
    let more : Option Status = elim memory [ Some s ↦ Some s | None ↦ later ] in
    first_refusal (limit_fault limit.Sections 60000 (section_count place)) more (limit_is limit.Sections 60000 (section_count place) (λ e. absurd (cc)))
    (first_refusal memory later (limit_is limit.Memory (2 ^ 31) (memory_of place) (λ e. absurd (cc)))
    (first_refusal headers image (limit_is limit.Headers 64 (length (program_headers place (exec_stack_of r))) (λ e. absurd (cc)))
    (limit_is limit.Image (2 ^ 29) (image_length r place) (λ e. absurd (cc)))))

placed_is : (r : Resolved) → IsLinkStatus (placed_answer r (full_place r))
placed_is r =
    first_of_two (placement_limit r (full_place r)) _ (placement_is r)
    (first_of_two (fault_status (overflow_faults r (full_place r))) full_link (faults_are (overflow_faults r (full_place r)) (overflows_other r (full_place r))) tt)

resolve_other : (r : Resolved) → AreOther (resolve_faults r)
unfolding resolve_faults
resolve_other r = names_other (found_in r)

pub link_statuses : (r : Resolved) → IsLinkStatus (resolved_answer r)
link_statuses r =
    first_of_two (limit_fault limit.Names (2 ^ 20) (name_count r)) _ (limit_is limit.Names (2 ^ 20) (name_count r) (λ e. absurd (cc)))
    (first_of_two (fault_status (resolve_faults r)) _ (faults_are (resolve_faults r) (resolve_other r))
    (first_of_two (fault_status (scan_faults r)) _ (faults_are (scan_faults r) (scan_other r))
    (first_of_two (needs_wait r) _ (needs_are r) (placed_is r))))
