-- From the inputs that were read, and what their link answers, to what the passes before the commit answer.
use Rattle.std.proofs.Common.{◌≡◌, refl, sym, ap, ◌∙◌, subst, ℕ, Bool, true, false, List, Option, Some, None, Result, Ok, Err}
use Rattle.std.specs.Prelude.{MatchOption}
use Rattle.std.specs.List.{list_any}
use Rattle.lk_report.specs.FileMap.{FileMap}
use Rattle.lk_report.specs.declared.faults.UsageFault.{UsageFault}
use Rattle.lk_report.specs.declared.statuses.Status.{Status}
use Rattle.lk_report.specs.declared.statuses.Status.TheVariants as status
use Rattle.lk_report.specs.declared.statuses.Waiting.TheVariants as waiting
use Rattle.lk_model.specs.Answers.{resolved_answer, static_answer}
use Rattle.lk_model.specs.Inputs.{inputs_of}
use Rattle.lk_model.specs.Links.{IsFullLink, resolved_of}
use Rattle.lk_model.specs.Resolving.{resolve}
use Rattle.lk_model.specs.Views.{Input, Resolved}
use Rattle.lk_model.specs.declared.commands.Command.{Command}
use Rattle.lk_outside.specs.FilesState.{FilesState, Known}
use Rattle.lk_inputs.specs.AnswerLaws.{answer_unless}
use Rattle.lk_inputs.specs.Asked.{Asked, LimitFirst, MissesReported, known_failed, is_missing, look_ups_of, paths_read, reads_before}
use Rattle.lk_inputs.specs.InputsReading.{InputsRead}
use Rattle.lk_inputs.specs.LookUps.{inputs_limit}
use Rattle.lk_inputs.specs.Refusals.{AreInputs, CommandInputs, inputs_refusal}
use Rattle.lk_inputs.specs.FileAnswers.{known_map}
use Rattle.lk_inputs.specs.declared.inputs.Inputs.{Inputs}
use Rattle.lk_driver.specs.ImageGiven.{ImageFirst, ImageGiven, ImageReported, IsAccepted, IsRefused, status_of}
use Rattle.lk_driver.specs.Committing.{SealedImage}
use Rattle.lk_driver.specs.LinkAnswers.{LinkAnswers}
use Rattle.lk_driver.specs.LinkStatuses.{IsLinkStatus}
use Rattle.lk_driver.specs.Outer.{AnswerIs, FilesKept, InputsAsked, IsDue, IsImage, IsOfInputs, LastKept, MissingReported, ReadFaultReported, StatusAsked, words_answer}
use Rattle.lk_driver.specs.ReadInputs.{AreReadInputs}
use Rattle.lk_driver.proofs.CommandsRead.{command_read}
use Rattle.lk_driver.proofs.FilesAsRead.{as_read}
use Rattle.lk_driver.proofs.LinkStatuses.{link_statuses}
use Rattle.lk_driver.proofs.OuterAsked.{asked-some, if-some, map-known}
use Rattle.lk_driver.proofs.OuterWords.{accepted-is, no-library, static-is, words-decide}

-- ---- of what kind the answer of a link is

-- none of its refusals is one of words, of reads or of the device, and it reports no missing input
abbrev LinkKind : Result (List ℕ) Status → Type 0
LinkKind (Ok image) = Unit {0}
LinkKind (Err status.NoMemory) = Unit {0}
LinkKind (Err (status.Done how)) = ⊥
LinkKind (Err s) = IsLinkStatus s

kind : (r : Resolved) (result : Result (List ℕ) Status) → LinkAnswers r result → LinkKind result
kind r (Ok image) h = tt
kind r (Err (status.Done how)) h = h
kind r (Err (status.LinkError f)) h = let P : Status → Type 0 = λ s. IsLinkStatus s in subst P h (link_statuses r)
kind r (Err (status.Usage u)) h = let P : Status → Type 0 = λ s. IsLinkStatus s in subst P h (link_statuses r)
kind r (Err (status.ReadFault p)) h = let P : Status → Type 0 = λ s. IsLinkStatus s in subst P h (link_statuses r)
kind r (Err status.DeviceFault) h = let P : Status → Type 0 = λ s. IsLinkStatus s in subst P h (link_statuses r)
kind r (Err status.NoMemory) h = tt
kind r (Err (status.Limit l)) h = let P : Status → Type 0 = λ s. IsLinkStatus s in subst P h (link_statuses r)
kind r (Err (status.NotUpdated c)) h = let P : Status → Type 0 = λ s. IsLinkStatus s in subst P h (link_statuses r)
kind r (Err (status.NotYet w)) h = let P : Status → Type 0 = λ s. IsLinkStatus s in subst P h (link_statuses r)

refused-of : (result : Result (List ℕ) Status) → LinkKind result → IsRefused result
refused-of (Ok image) k = tt
refused-of (Err (status.Done how)) k = k
refused-of (Err (status.LinkError f)) k = tt
refused-of (Err (status.Usage u)) k = tt
refused-of (Err (status.ReadFault p)) k = tt
refused-of (Err status.DeviceFault) k = k
refused-of (Err status.NoMemory) k = tt
refused-of (Err (status.Limit l)) k = tt
refused-of (Err (status.NotUpdated c)) k = tt
refused-of (Err (status.NotYet w)) k = tt

-- ---- the words come first

of-inputs : (result : Result (List ℕ) Status) → LinkKind result → IsOfInputs (status_of result)
of-inputs (Ok image) k = tt
of-inputs (Err (status.Done how)) k = absurd k
of-inputs (Err (status.LinkError f)) k = tt
of-inputs (Err (status.Usage u)) k = k
of-inputs (Err (status.ReadFault p)) k = tt
of-inputs (Err status.DeviceFault) k = tt
of-inputs (Err status.NoMemory) k = tt
of-inputs (Err (status.Limit l)) k = k
of-inputs (Err (status.NotUpdated c)) k = tt
of-inputs (Err (status.NotYet waiting.Words)) k = k
of-inputs (Err (status.NotYet (waiting.Form path))) k = tt

first-of : (o : Option Status) (old new : FilesState) (inputs : Inputs) (result : Result (List ℕ) Status)
    → (let read : Result Inputs Status = Ok inputs in LimitFirst o read) → LinkKind result → ImageFirst o old result new
first-of None old new inputs result h k = of-inputs result k
first-of (Some due) old new inputs result h k = absurd h

-- ---- failures and missing inputs

fault-of : (words : List (List ℕ)) (old new : FilesState) (result : Result (List ℕ) Status) → LinkKind result → new.faults ≡ old.faults → ReadFaultReported words old (status_of result) new
fault-of words old new (Ok image) k e = e
fault-of words old new (Err (status.Done how)) k e = e
fault-of words old new (Err (status.LinkError f)) k e = e
fault-of words old new (Err (status.Usage u)) k e = e
fault-of words old new (Err (status.ReadFault p)) k e = absurd k
fault-of words old new (Err status.DeviceFault) k e = e
fault-of words old new (Err status.NoMemory) k e = tt
fault-of words old new (Err (status.Limit l)) k e = e
fault-of words old new (Err (status.NotUpdated c)) k e = e
fault-of words old new (Err (status.NotYet w)) k e = e

missing-of-faults : (old new : FilesState) (b : Bool) → b ≡ false → new.misses ≡ old.misses → MissesReported b old new
missing-of-faults old new true h e = absurd (cc)
missing-of-faults old new false h e = e

missing-of : (old new : FilesState) (result : Result (List ℕ) Status) → LinkKind result → new.misses ≡ old.misses → MissingReported old (status_of result) new
missing-of old new (Ok image) k e = e
missing-of old new (Err (status.Done how)) k e = e
missing-of old new (Err (status.LinkError f)) k e = missing-of-faults old new (list_any is_missing f) k e
missing-of old new (Err (status.Usage u)) k e = e
missing-of old new (Err (status.ReadFault p)) k e = absurd k
missing-of old new (Err status.DeviceFault) k e = e
missing-of old new (Err status.NoMemory) k e = tt
missing-of old new (Err (status.Limit l)) k e = e
missing-of old new (Err (status.NotUpdated c)) k e = e
missing-of old new (Err (status.NotYet w)) k e = e

last-of : (old new : FilesState) (result : Result (List ℕ) Status) → LinkKind result → known_failed new ≡ known_failed old → LastKept old (status_of result) new
last-of old new (Ok image) k e = e
last-of old new (Err (status.Done how)) k e = e
last-of old new (Err (status.LinkError f)) k e = e
last-of old new (Err (status.Usage u)) k e = e
last-of old new (Err (status.ReadFault p)) k e = tt
last-of old new (Err status.DeviceFault) k e = e
last-of old new (Err status.NoMemory) k e = tt
last-of old new (Err (status.Limit l)) k e = e
last-of old new (Err (status.NotUpdated c)) k e = e
last-of old new (Err (status.NotYet w)) k e = e

-- ---- what the files were asked for

asked-faults : (c : Command) (there : FileMap) (old new : FilesState) (b : Bool) → b ≡ false → Asked (look_ups_of c there) (paths_read c there) old new → Asked (look_ups_of c there) (reads_before b c there) old new
asked-faults c there old new true h a = absurd (cc)
asked-faults c there old new false h a = a

asked-of : (c : Command) (there : FileMap) (old new : FilesState) (result : Result (List ℕ) Status) → LinkKind result
    → Asked (look_ups_of c there) (paths_read c there) old new → StatusAsked c there old (status_of result) new
asked-of c there old new (Ok image) k a = a
asked-of c there old new (Err (status.Done how)) k a = a
asked-of c there old new (Err (status.LinkError f)) k a = asked-faults c there old new (list_any is_missing f) k a
asked-of c there old new (Err (status.Usage u)) k a = a
asked-of c there old new (Err (status.ReadFault p)) k a = absurd k
asked-of c there old new (Err status.DeviceFault) k a = a
asked-of c there old new (Err status.NoMemory) k a = asked-some (look_ups_of c there) (paths_read c there) old new a
asked-of c there old new (Err (status.Limit l)) k a = asked-some (look_ups_of c there) (paths_read c there) old new a
asked-of c there old new (Err (status.NotUpdated x)) k a = a
asked-of c there old new (Err (status.NotYet w)) k a = a

-- ---- the answer and the image

answer-of : (r : Resolved) (result : Result (List ℕ) Status) → LinkAnswers r result → LinkKind result → AnswerIs (status_of result) (resolved_answer r)
answer-of r (Ok image) h k = sym h.0
answer-of r (Err (status.Done how)) h k = absurd h
answer-of r (Err (status.LinkError f)) h k = sym h
answer-of r (Err (status.Usage u)) h k = sym h
answer-of r (Err (status.ReadFault p)) h k = tt
answer-of r (Err status.DeviceFault) h k = absurd k
answer-of r (Err status.NoMemory) h k = tt
answer-of r (Err (status.Limit l)) h k = sym h
answer-of r (Err (status.NotUpdated c)) h k = sym h
answer-of r (Err (status.NotYet w)) h k = sym h

image-of : (words : List (List ℕ)) (c : Command) (there : FileMap) (image : List ℕ) → IsAccepted words c → IsFullLink c there image → IsImage words there image
image-of words c there image a h = let P : Option Command → Type 0 = λ o. MatchOption o ⊥ (λ d. IsFullLink d there image) in subst P (sym (accepted-is words c a)) h

limit-none : (o : Option Status) (inputs : Inputs) → (let read : Result Inputs Status = Ok inputs in LimitFirst o read) → o ≡ None
limit-none None inputs h = refl
limit-none (Some due) inputs h = absurd h

given-of : (o : Option Status) (c : Command) (there : FileMap) (inputs : Inputs) → CommandInputs o c there (Ok inputs) → (inputs_refusal c there ≡ None) × AreInputs (inputs_of c there) inputs
given-of None c there inputs h = h
given-of (Some due) c there inputs h = absurd h

as-resolved : (c : Command) (there : FileMap) (result : Result (List ℕ) Status) → LinkAnswers (resolve c.options (inputs_of c there)) result → LinkAnswers (resolved_of c there) result
unfolding resolved_of
as-resolved c there result h = h

-- what a link of inputs that were read answers, whatever inputs they are
abbrev Links : Command → Inputs → Result (List ℕ) Status → Type 0
Links c inputs result = (xs : List Input) → AreReadInputs c.options xs inputs → LinkAnswers (resolve c.options xs) result

-- where the files report their map, the answer is that of what the command's inputs are resolved to
reported-link : (words : List (List ℕ)) (c : Command) (old new : FilesState) (inputs : Inputs) (result : Result (List ℕ) Status) (there : FileMap)
    → IsAccepted words c → InputsRead c old (Ok inputs) new → Links c inputs result → known_map old ≡ Some there
    → (static_answer words there ≡ resolved_answer (resolved_of c there)) × LinkAnswers (resolved_of c there) result
reported-link words c old new inputs result there a g links e =
    let few : inputs_limit c ≡ None = limit-none (inputs_limit c) inputs g.first in
    let given : (inputs_refusal c there ≡ None) × AreInputs (inputs_of c there) inputs = given-of (inputs_limit c) c there inputs (g.reported there e) in
    let x : Status = resolved_answer (resolved_of c there) in (
      static-is words c there a ∙ ap (λ o. answer_unless o (answer_unless (inputs_refusal c there) x)) few ∙ ap (λ o. answer_unless o x) given.0,
      as-resolved c there result (links (inputs_of c there) (command_read c there inputs a.fits few given.0 given.1)),
    )

due-of : (words : List (List ℕ)) (c : Command) (old new : FilesState) (inputs : Inputs) (result : Result (List ℕ) Status)
    → IsAccepted words c → InputsRead c old (Ok inputs) new → Links c inputs result → LinkKind result → IsDue words old (status_of result)
due-of words c old new inputs result a g links k =
    if-some old.known (λ (state : Known). AnswerIs (status_of result) (static_answer words state.map)) (λ state e.
    let reported = reported-link words c old new inputs result state.map a g links (map-known old state e) in
    let P : Status → Type 0 = λ due. AnswerIs (status_of result) due in
    subst P (sym reported.0) (answer-of (resolved_of c state.map) result reported.1 k))

reported-image : (words : List (List ℕ)) (c : Command) (old new : FilesState) (inputs : Inputs) (result : Result (List ℕ) Status)
    → IsAccepted words c → InputsRead c old (Ok inputs) new → Links c inputs result → ImageReported words old result
reported-image words c old new inputs (Ok image) a g links =
    if-some old.known (λ (state : Known). IsImage words state.map image) (λ state e.
    let reported = reported-link words c old new inputs (Ok image) state.map a g links (map-known old state e) in
    image-of words c state.map image a reported.1.1.0)
reported-image words c old new inputs (Err s) a g links = tt

-- ---- all of it

kept-of : (words : List (List ℕ)) (c : Command) (old new : FilesState) (inputs : Inputs) (result : Result (List ℕ) Status)
    → IsAccepted words c → InputsRead c old (Ok inputs) new → LinkKind result → FilesKept (words_answer words) words old (status_of result) new
kept-of words c old new inputs result a g k =
    let few : inputs_limit c ≡ None = limit-none (inputs_limit c) inputs g.first in
    let kept : InputsAsked words old (status_of result) new = record {
      map = g.kept;
      asked = λ d there is e.
          let same : c ≡ d = ok-same c d (sym a.is ∙ is) in
          let P : Command → Type 0 = λ x. StatusAsked x there old (status_of result) new in
          subst P same (asked-of c there old new result k (g.asked there e));
      last = last-of old new result k g.last;
    } in
    let Q : Option Status → Type 0 = λ o. FilesKept o words old (status_of result) new in
    subst Q (sym (words-decide words c a ∙ few)) kept
  where
    ok-same : (c d : Command) → (let x : Result Command UsageFault = Ok c in x) ≡ Ok d → c ≡ d
    ok-same c d e = cc

sealed-of : (r : Resolved) (result : Result (List ℕ) Status) → LinkAnswers r result → SealedImage result
sealed-of r (Ok image) h = h.1.1
sealed-of r (Err s) h = tt

pub linked : (words : List (List ℕ)) (c : Command) (old new : FilesState) (inputs : Inputs) (result : Result (List ℕ) Status)
    → IsAccepted words c → InputsRead c old (Ok inputs) new → Links c inputs result → ImageGiven words old result new
linked words c old new inputs result a g links =
    let read : (xs : List Input) × AreReadInputs c.options xs inputs = as_read c inputs a.fits g.sound g.placed g.few in
    let k : LinkKind result = kind (resolve c.options read.0) result (links read.0 read.1) in
    let P : Option Status → Type 0 = λ o. ImageFirst o old result new in
    record {
      refused = refused-of result k;
      first = subst P (sym (words-decide words c a)) (first-of (inputs_limit c) old new inputs result g.first k);
      due = due-of words c old new inputs result a g links k;
      image = reported-image words c old new inputs result a g links;
      sealed = sealed-of (resolve c.options read.0) result (links read.0 read.1);
      fault = fault-of words old new result k g.faults;
      missing = missing-of old new result k (g.misses (no-library c a.waits));
      kept = kept-of words c old new inputs result a g k;
    }
