-- The answers of the steps of an image are those of lk_model.
use Rattle.std.proofs.Common.{◌≡◌, refl, sym, ap, subst, ◌∙◌}
use Rattle.std.specs.Prelude.{ℕ, ◌^◌, ◌≤◌, Bool, List, length, replicate, Option, None, Result, Ok, Err}
use Rattle.lk_report.specs.declared.causes.OptionRecord.{OptionRecord}
use Rattle.lk_report.specs.declared.statuses.LimitKind.TheVariants as limit
use Rattle.lk_report.specs.declared.statuses.Status.{Status}
use Rattle.lk_report.specs.declared.statuses.Status.TheVariants as status
use Rattle.lk_model.specs.Answers.{fault_status, image_length, length_with}
use Rattle.lk_model.specs.FileHeader.{entry_value, exec_stack_of}
use Rattle.lk_model.specs.Images.{stretches_of}
use Rattle.lk_model.specs.Lawful.{Lawful}
use Rattle.lk_model.specs.Overflows.{overflow_faults}
use Rattle.lk_model.specs.Resolving.{resolve}
use Rattle.lk_model.specs.Segments.{program_headers}
use Rattle.lk_model.specs.Tail.{Part, tail_parts}
use Rattle.lk_model.specs.Views.{Input, Resolved}
use Rattle.lk_model.specs.declared.layouts.Needs.{Needs}
use Rattle.lk_model.specs.declared.layouts.Placement.{Placement}
use Rattle.lk_model.specs.declared.summaries.InputSummary.{InputSummary}
use Rattle.lk_model.proofs.LimitsExceeded.{below}
use Rattle.lk_resolve.specs.Given.{IsGiven}
use Rattle.lk_relocate.specs.Links.{IsLinked}
use Rattle.lk_resolve.specs.Settling.{ResolutionValue}
use Rattle.lk_symbol_values.specs.Sections.{low_64}
use Rattle.lk_symbol_values.specs.SymbolNumbering.{ValueInputs}
use Rattle.lk_headers.specs.Front.{FrontGives}
use Rattle.lk_model.specs.declared.layouts.LayoutFault.{LayoutFault}
use Rattle.lk_model.specs.LayoutStatuses.{layout_status}
use Rattle.lk_image.specs.ImageAnswers.{FillAnswers, FrontAnswers, ImageAnswers, IsRefusal, LengthAnswers, headers_limit, image_limit, length_limit}
use Rattle.lk_image.specs.PlacedLinks.{IsFramed, IsPlacedLink}
use Rattle.lk_image.specs.Tails.{placed_tail, tail_of_link}
use Rattle.lk_image.specs.declared.placed_tails.PlacedTail.{PlacedTail}
use Rattle.lk_image.proofs.FrontReported.{front_reported, front_status}
use Rattle.lk_image.proofs.Refusals.{first_refuses, none_of, short_enough, then_refuses}

-- ---- the refusals

-- out of memory may come at any time
pub no_memory : (r : Resolved) (place : Placement) (s : Status) (result : Result (List ℕ) Status) → result ≡ Err s → s ≡ status.NoMemory → ImageAnswers r place result
no_memory r place s result is none = subst (ImageAnswers r place) (sym (is ∙ ap (λ t. Err t) none)) tt

pub fill_no_memory : (r : Resolved) (place : Placement) (parts : List Part) (new : List ℕ) (s : Status) (result : Result (Unit {0}) Status) → result ≡ Err s → s ≡ status.NoMemory → FillAnswers r place parts new result
fill_no_memory r place parts new s result is none = subst (FillAnswers r place parts new) (sym (is ∙ ap (λ t. Err t) none)) tt

front_refused : (r : Resolved) (place : Placement) (parts : List Part) (s : Status) (result : Result (List ℕ) Status) → FrontAnswers r place parts (Err s) → result ≡ Err s → ImageAnswers r place result
front_refused r place parts s result h is =
    subst (ImageAnswers r place) (sym is)
    (first_refuses (image_limit r place) (fault_status (overflow_faults r place)) s (first_refuses (headers_limit r place) (length_limit (image_length r place)) s h))

headers_few : (r : Resolved) (place : Placement) → length (program_headers place (exec_stack_of r)) ≤ 64 → headers_limit r place ≡ None
headers_few r place few = below limit.Headers 64 (length (program_headers place (exec_stack_of r))) few

length_refused : (r : Resolved) (place : Placement) (front : List ℕ) (size : ℕ) (s : Status) (result : Result (List ℕ) Status)
    → FrontAnswers r place (tail_parts r place) (Ok front)
    → size ≡ image_length r place
    → LengthAnswers size (Err s)
    → result ≡ Err s
    → ImageAnswers r place result
length_refused r place front size s result reported size_is h is =
    let long : IsRefusal (length_limit (image_length r place)) s = subst (λ (n : ℕ). IsRefusal (length_limit n) s) size_is h in
    subst (ImageAnswers r place) (sym is)
    (first_refuses (image_limit r place) (fault_status (overflow_faults r place)) s
    (then_refuses (headers_limit r place) (length_limit (image_length r place)) s (headers_few r place reported.0) long))

limits_kept : (r : Resolved) (place : Placement) (front : List ℕ) → FrontAnswers r place (tail_parts r place) (Ok front) → image_length r place ≤ 2 ^ 29 → image_limit r place ≡ None
limits_kept r place front reported short = none_of (headers_limit r place) (length_limit (image_length r place)) (headers_few r place reported.0) (short_enough (image_length r place) short)

fill_refused : (r : Resolved) (place : Placement) (front new : List ℕ) (s : Status) (result : Result (List ℕ) Status)
    → FrontAnswers r place (tail_parts r place) (Ok front)
    → image_length r place ≤ 2 ^ 29
    → FillAnswers r place (tail_parts r place) new (Err s)
    → result ≡ Err s
    → ImageAnswers r place result
fill_refused r place front new s result reported short h is =
    subst (ImageAnswers r place) (sym is) (then_refuses (image_limit r place) (fault_status (overflow_faults r place)) s (limits_kept r place front reported short) h)

filled : (r : Resolved) (place : Placement) (front new image : List ℕ) (done : Unit {0})
    → FrontAnswers r place (tail_parts r place) (Ok front)
    → image_length r place ≤ 2 ^ 29
    → FillAnswers r place (tail_parts r place) new (Ok done)
    → image ≡ new
    → ImageAnswers r place (Ok image)
unfolding stretches_of
filled r place front new image done reported short h is =
    subst (λ (b : List ℕ). ImageAnswers r place (Ok b)) (sym is) (none_of (image_limit r place) (fault_status (overflow_faults r place)) (limits_kept r place front reported short) h.0, h.1)

-- ---- a link with the tail of its image, the values of its symbols, its entry address and its stack

module _ (resolution : ResolutionValue) (summaries : List InputSummary) (objects : List (Option (List ℕ))) (options : OptionRecord) (xs : List Input) (place : Placement) (placed : IsPlacedLink resolution summaries objects options xs place)
    (tail : PlacedTail) (tail_is : tail ≡ tail_of_link (resolve options xs) place) (known : ValueInputs) (known_is : known ≡ record { resolution = resolution; summaries = summaries; place = place })
    (entry : ℕ) (entry_is : (needs : Needs) (o : OptionRecord) (ys : List Input) → IsGiven known.resolution known.summaries needs o ys → Lawful (resolve o ys) known.place → o.entry ≡ options.entry → entry ≡ low_64 (entry_value (resolve o ys) known.place))
    (stack : Bool) (stack_is : stack ≡ exec_stack_of (resolve options xs)) where
  abbrev r : Resolved
  r = resolve options xs

  abbrev parts : List Part
  parts = tail_parts r place

  abbrev given_inputs : ValueInputs
  given_inputs = record { resolution = resolution; summaries = summaries; place = place }

  entry_here : entry ≡ low_64 (entry_value r place)
  entry_here =
      let T : ValueInputs → Type 0 = λ (k : ValueInputs). IsGiven k.resolution k.summaries placed.needs options xs → Lawful r k.place → entry ≡ low_64 (entry_value r k.place) in
      subst T known_is (λ given lawful. entry_is placed.needs options xs given lawful refl) placed.given placed.lawful

  front_here : (made : Result (List ℕ) LayoutFault) → FrontGives place tail.rows entry stack made → FrontAnswers r place parts (front_status made)
  front_here made gives =
      front_reported r place parts tail.rows entry stack made gives (ap (λ (t : PlacedTail). t.rows) tail_is) entry_here stack_is

  length_here : tail.length ≡ image_length r place
  length_here = ap (λ (t : PlacedTail). t.length) tail_is

  -- headers beyond the limit
  pub headers_refused : (f : LayoutFault) (s : Status) (result : Result (List ℕ) Status) → FrontGives place tail.rows entry stack (Err f) → result ≡ Err s → s ≡ layout_status f → ImageAnswers r place result
  headers_refused f s result gives is status_is =
      front_refused r place parts (layout_status f) result (front_here (Err f) gives) (is ∙ ap (λ t. Err t) status_is)

  module _ (front : List ℕ) (made : FrontGives place tail.rows entry stack (Ok front)) where
    -- a length beyond the limit
    pub long_refused : (s : Status) (result : Result (List ℕ) Status) → LengthAnswers tail.length (Err s) → result ≡ Err s → ImageAnswers r place result
    long_refused s result h is = length_refused r place front tail.length s result (front_here (Ok front) made) length_here h is

    module _ (few : tail.length ≤ 2 ^ 29) (shown : List ℕ) (same : shown ≡ front) (old new : List ℕ) (zeros : old ≡ replicate tail.length 0) where
      short : image_length r place ≤ 2 ^ 29
      short = subst (λ (n : ℕ). n ≤ 2 ^ 29) length_here few

      linked : IsLinked known objects r
      linked =
          subst (λ (k : ValueInputs). IsLinked k objects r) (sym known_is)
          (record {
            link = record { needs = placed.needs; options = options; inputs = xs; resolved = refl; given = placed.given; lawful = placed.lawful; within = placed.memory };
            objects_are = placed.objects_are;
          })

      framed : IsFramed given_inputs objects r parts shown
      framed = record {
        linked = subst (λ (k : ValueInputs). IsLinked k objects r) known_is linked;
        layable = placed.layable (record { memory = placed.memory; headers = (front_here (Ok front) made).0 });
        tables = placed.tables;
        front_is = same ∙ (front_here (Ok front) made).1;
        short = short;
      }

      filled_here : (result : Result (Unit {0}) Status)
          → ((q : Resolved) (ps : List Part) → tail ≡ placed_tail known.place ps → IsFramed known objects q ps shown → old ≡ replicate (length_with known.place ps) 0 → FillAnswers q known.place ps new result)
          → FillAnswers r place parts new result
      filled_here result answers =
          let T : ValueInputs → Type 0 = λ (k : ValueInputs). tail ≡ placed_tail k.place parts → IsFramed k objects r parts shown → old ≡ replicate (length_with k.place parts) 0 → FillAnswers r k.place parts new result in
          subst T known_is (answers r parts) tail_is framed (zeros ∙ ap (λ (n : ℕ). replicate n 0) length_here)

      -- values that do not fit
      pub overflows_refused : (s : Status) (result : Result (List ℕ) Status)
          → ((q : Resolved) (ps : List Part) → tail ≡ placed_tail known.place ps → IsFramed known objects q ps shown → old ≡ replicate (length_with known.place ps) 0 → FillAnswers q known.place ps new (Err s))
          → result ≡ Err s
          → ImageAnswers r place result
      overflows_refused s result answers is = fill_refused r place front new s result (front_here (Ok front) made) short (filled_here (Err s) answers) is

      -- the image
      pub image_reported : (image : List ℕ) (done : Unit {0})
          → ((q : Resolved) (ps : List Part) → tail ≡ placed_tail known.place ps → IsFramed known objects q ps shown → old ≡ replicate (length_with known.place ps) 0 → FillAnswers q known.place ps new (Ok done))
          → image ≡ new
          → ImageAnswers r place (Ok image)
      image_reported image done answers is = filled r place front new image done (front_here (Ok front) made) short (filled_here (Ok done) answers) is
