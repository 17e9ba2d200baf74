-- An image that is laid out at a full placement is a link, where its inputs have no fault and every value fits.
use Rattle.std.proofs.Common.{◌≡◌, ◌≤◌, ◌^◌, refl, sym, ap, subst, ◌∙◌, ℕ, nat_lt, Bool, true, false, List, [], ◌∷◌, length, Option, Some, None, Result, Ok, Err}
use Rattle.std.specs.Prelude.{if◌then◌else◌, ◌&&◌}
use Rattle.std.specs.List.{cons_option, filter_map, list_all}
use Rattle.lk_report.specs.declared.causes.OptionRecord.{OptionRecord}
use Rattle.lk_report.specs.declared.faults.Fault.{Fault}
use Rattle.lk_report.specs.declared.statuses.LimitKind.{LimitKind}
use Rattle.lk_report.specs.declared.statuses.LimitKind.TheVariants as limit
use Rattle.lk_report.specs.declared.statuses.Outcome.{Outcome}
use Rattle.lk_report.specs.declared.statuses.Status.{Status}
use Rattle.lk_report.specs.declared.statuses.Status.TheVariants as status
use Rattle.lk_model.specs.Answers.{fault_status, full_link, image_length, limit_fault, placed_answer, placement_limit}
use Rattle.lk_model.specs.FileHeader.{exec_stack_of}
use Rattle.lk_model.specs.FullPlace.{full_place, memory_of, section_count}
use Rattle.lk_model.specs.Images.{stretches_of}
use Rattle.lk_model.specs.Links.{IsLinkAt}
use Rattle.lk_model.specs.Overflows.{overflow_faults, overflow_of}
use Rattle.lk_model.specs.Resolving.{resolve}
use Rattle.lk_model.specs.Segments.{program_headers}
use Rattle.lk_model.specs.Stretches.{IsLaidOut}
use Rattle.lk_model.specs.SymbolValues.{reference_fits}
use Rattle.lk_model.specs.Tail.{tail_parts}
use Rattle.lk_model.specs.Views.{Input, Ref, Resolved}
use Rattle.lk_model.specs.declared.layouts.Placement.{Placement}
use Rattle.lk_model.proofs.LimitsExceeded.{below}
use Rattle.lk_image.specs.ImageAnswers.{ImageAnswers, IsRefusal, first_of, headers_limit, image_refusal, length_limit}
use Rattle.lk_law_placement.specs.SoundInputs.{SoundInputs}
use Rattle.lk_law_placement.proofs.PiecesLawful.{inputs_are_lawful}
use Rattle.lk_law_loading.specs.Loadable.{WithinLimits}
use Rattle.lk_law_loading.proofs.FullLoaded.{inputs_are_loadable}
use Rattle.lk_law_loading.proofs.PiecesLoaded.{all_pieces_loaded}
use Rattle.lk_inputs.specs.AnswerLaws.{answer_unless}
use Rattle.lk_law_records.specs.Recordable.{InputsFit}
use Rattle.lk_law_records.proofs.Limits.{limit-reports, limits-make-recordable}
use Rattle.lk_law_records.proofs.Recorded.{full-place-recorded}
use Rattle.lk_driver.specs.LinkPasses.{IsPlaced, IsRefused, LinkGives}
use Rattle.lk_law_writes.proofs.FullWritten.{inputs_are_layable}
use Rattle.lk_driver.specs.Committing.{IsSealedImage}
use Rattle.lk_driver.proofs.ImagesSealed.{sealed_image}
use Rattle.lk_driver.proofs.PassAnswers.{placed_by, placed_is}

-- ---- values that fit

fits_reported : (r : Resolved) (place : Placement) (refs : List Ref) → filter_map (overflow_of r place) refs ≡ [] → list_all (reference_fits r place) refs ≡ true
fits_reported r place [] e = refl
fits_reported r place (ref ∷ refs) e = go (overflow_of r place ref) refl e (fits_reported r place refs)
  where
    fits : (b : Bool) (f : Fault) → (if b then None else Some f) ≡ None → b ≡ true
    fits true f h = refl
    fits false f h = absurd (cc)

    go :
        (o : Option Fault)
        → overflow_of r place ref ≡ o
        → cons_option o (filter_map (overflow_of r place) refs) ≡ []
        → (filter_map (overflow_of r place) refs ≡ [] → list_all (reference_fits r place) refs ≡ true)
        → (reference_fits r place ref && list_all (reference_fits r place) refs) ≡ true
    go None is h rest = λ i. fits (reference_fits r place ref) _ is i && rest h i
    go (Some f) is h rest = absurd (cc)

no_faults : (faults : List Fault) → fault_status faults ≡ None → faults ≡ []
no_faults [] e = refl
no_faults (f ∷ fs) e = absurd (cc)

all_fit : (r : Resolved) (place : Placement) → fault_status (overflow_faults r place) ≡ None → list_all (reference_fits r place) r.references ≡ true
unfolding overflow_faults
all_fit r place e = fits_reported r place r.references (no_faults (overflow_faults r place) e)

-- ---- what an image asks of its placement

refusal_answers : (headers image faults : Option Status) → placed_by None None headers image faults ≡ answer_unless (first_of (first_of headers image) faults) full_link
refusal_answers None None None = refl
refusal_answers None None (Some f) = refl
refusal_answers None (Some l) faults = refl
refusal_answers (Some l) image faults = refl

-- within the first two limits the answer is that of the image
image_answers : (r : Resolved) (place : Placement) → section_count place ≤ 60000 → memory_of place ≤ 2 ^ 31 → placed_answer r place ≡ answer_unless (image_refusal r place) full_link
image_answers r place few low =
    placed_is r place
    ∙ (λ i. placed_by (below limit.Sections 60000 (section_count place) few i) (below limit.Memory (2 ^ 31) (memory_of place) low i) (headers_limit r place) (length_limit (image_length r place)) (fault_status (overflow_faults r place)))
    ∙ refusal_answers (headers_limit r place) (length_limit (image_length r place)) (fault_status (overflow_faults r place))

-- an image that is not refused exceeds no limit, and every value fits
record NotRefused (r : Resolved) (place : Placement) : Type 0 where
  headers : headers_limit r place ≡ None
  image : length_limit (image_length r place) ≡ None
  faults : fault_status (overflow_faults r place) ≡ None

none_refused : (r : Resolved) (place : Placement) → image_refusal r place ≡ None → NotRefused r place
none_refused r place none = go (headers_limit r place) (length_limit (image_length r place)) (fault_status (overflow_faults r place)) refl refl refl none
  where
    go :
        (a b c : Option Status)
        → headers_limit r place ≡ a
        → length_limit (image_length r place) ≡ b
        → fault_status (overflow_faults r place) ≡ c
        → first_of (first_of a b) c ≡ None
        → NotRefused r place
    go None None None headers image faults e = record { headers = headers; image = image; faults = faults }
    go None None (Some s) headers image faults e = absurd (cc)
    go None (Some s) c headers image faults e = absurd (cc)
    go (Some s) b c headers image faults e = absurd (cc)

limits_kept : (r : Resolved) (place : Placement) → section_count place ≤ 60000 → memory_of place ≤ 2 ^ 31 → NotRefused r place → placement_limit r place ≡ None
limits_kept r place few low is =
    λ i. elim (below limit.Sections 60000 (section_count place) few i) as (λ _. Option Status) [
      | Some s ↦ Some s
      | None ↦ elim (below limit.Memory (2 ^ 31) (memory_of place) low i) as (λ _. Option Status) [
        | Some s ↦ Some s
        | None ↦ elim (is.headers i) as (λ _. Option Status) [ Some s ↦ Some s | None ↦ is.image i ]
      ]
    ]

-- ---- a link

linked_at :
    (options : OptionRecord) (xs : List Input) (image : List ℕ)
    → let r = resolve options xs in
    InputsFit options xs → SoundInputs xs
    → section_count (full_place r) ≤ 60000 → memory_of (full_place r) ≤ 2 ^ 31
    → NotRefused r (full_place r)
    → IsLaidOut (stretches_of r (full_place r)) image
    → IsLinkAt r (full_place r) image × IsSealedImage image
unfolding stretches_of
linked_at options xs image fits sound few low is laid =
    let r = resolve options xs in
    let place = full_place r in
    let lawful = inputs_are_lawful options xs sound in
    let within : WithinLimits r place = record { memory = low; headers = limit-reports limit.Headers 64 (length (program_headers place (exec_stack_of r))) is.headers } in (
      record {
        recorded = full-place-recorded options xs image (limits-make-recordable options xs fits lawful (limits_kept r place few low is)) laid;
        lawful = lawful;
        fits = all_fit r place is.faults;
        loaded = all_pieces_loaded r place (tail_parts r place) image (inputs_are_loadable options xs sound within) laid;
        laid = laid;
      },
      sealed_image r place (tail_parts r place) image (inputs_are_layable options xs sound within) laid,
    )

-- ---- refusals

-- no refusal says that a link is done
NeverDone : Option Status → Type 0
NeverDone o = (how : Outcome) → o ≡ Some (status.Done how) → ⊥

limit_is_no_end : (which : LimitKind) (most n : ℕ) → NeverDone (limit_fault which most n)
unfolding NeverDone
limit_is_no_end which most n how = go (nat_lt most n)
  where
    go : (b : Bool) → (if b then Some (status.Limit (record { which = which; number = n })) else None) ≡ Some (status.Done how) → ⊥
    go true e = absurd (cc)
    go false e = absurd (cc)

faults_are_no_end : (faults : List Fault) → NeverDone (fault_status faults)
unfolding NeverDone
faults_are_no_end [] how e = absurd (cc)
faults_are_no_end (f ∷ fs) how e = absurd (cc)

first_is_no_end : (a b : Option Status) → NeverDone a → NeverDone b → NeverDone (first_of a b)
first_is_no_end None b first second = second
first_is_no_end (Some s) b first second = first

refusal_is_no_end : (r : Resolved) (place : Placement) → NeverDone (image_refusal r place)
refusal_is_no_end r place =
    let headers = limit_is_no_end limit.Headers 64 (length (program_headers place (exec_stack_of r))) in
    let image = limit_is_no_end limit.Image (2 ^ 29) (image_length r place) in
    first_is_no_end (first_of (headers_limit r place) (length_limit (image_length r place))) (fault_status (overflow_faults r place))
    (first_is_no_end (headers_limit r place) (length_limit (image_length r place)) headers image)
    (faults_are_no_end (overflow_faults r place))

refused_is_due : (o : Option Status) (s : Status) → NeverDone o → IsRefusal o s → IsRefused (answer_unless o full_link) s
unfolding NeverDone
refused_is_due o (status.Done how) never h = never how h
refused_is_due o (status.LinkError faults) never h = ap (λ (p : Option Status). answer_unless p full_link) h
refused_is_due o (status.Usage u) never h = ap (λ (p : Option Status). answer_unless p full_link) h
refused_is_due o (status.ReadFault path) never h = ap (λ (p : Option Status). answer_unless p full_link) h
refused_is_due o status.DeviceFault never h = ap (λ (p : Option Status). answer_unless p full_link) h
refused_is_due o status.NoMemory never h = tt
refused_is_due o (status.Limit l) never h = ap (λ (p : Option Status). answer_unless p full_link) h
refused_is_due o (status.NotUpdated cause) never h = ap (λ (p : Option Status). answer_unless p full_link) h
refused_is_due o (status.NotYet waiting) never h = ap (λ (p : Option Status). answer_unless p full_link) h

-- ---- the whole

pub image_linked :
    (options : OptionRecord) (xs : List Input) (place : Placement) (result : Result (List ℕ) Status)
    → let r = resolve options xs in
    InputsFit options xs → SoundInputs xs → IsPlaced r place
    → ImageAnswers r place result
    → LinkGives (placed_answer r (full_place r)) r result
image_linked options xs place result fits sound placed answers = go result (subst (λ (p : Placement). ImageAnswers (resolve options xs) p result) placed.full answers)
  where
    due : placed_answer (resolve options xs) (full_place (resolve options xs)) ≡ answer_unless (image_refusal (resolve options xs) (full_place (resolve options xs))) full_link
    due = image_answers (resolve options xs) (full_place (resolve options xs)) placed.sections placed.memory

    go : (o : Result (List ℕ) Status) → ImageAnswers (resolve options xs) (full_place (resolve options xs)) o → LinkGives (placed_answer (resolve options xs) (full_place (resolve options xs))) (resolve options xs) o
    go (Ok image) answer = (
      due ∙ ap (λ (o : Option Status). answer_unless o full_link) answer.0,
      linked_at options xs image fits sound placed.sections placed.memory (none_refused (resolve options xs) (full_place (resolve options xs)) answer.0) answer.1,
    )
    go (Err s) refused =
        subst (λ (d : Status). IsRefused d s) (sym due)
        (refused_is_due (image_refusal (resolve options xs) (full_place (resolve options xs))) s (refusal_is_no_end (resolve options xs) (full_place (resolve options xs))) refused)
