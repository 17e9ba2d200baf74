-- From a refusal of the words, or of the inputs as they are read, to what the passes before the commit answer.
use Rattle.std.proofs.Common.{◌≡◌, refl, sym, ap, ◌∙◌, subst, ℕ, List, Option, Some, None, Result, Ok, Err}
use Rattle.std.specs.Prelude.{Contains, IsSome}
use Rattle.lk_report.specs.FileMap.{FileMap}
use Rattle.lk_report.specs.declared.faults.UsageFault.{UsageFault}
use Rattle.lk_report.specs.declared.statuses.Status.{Status}
use Rattle.lk_report.specs.declared.statuses.Status.TheVariants as status
use Rattle.lk_report.specs.declared.statuses.Waiting.TheVariants as waiting
use Rattle.lk_model.specs.Answers.{accepted_command, resolved_answer, static_answer}
use Rattle.lk_model.specs.Links.{resolved_of}
use Rattle.lk_model.specs.declared.commands.Command.{Command}
use Rattle.lk_outside.specs.FilesState.{FilesState, Known}
use Rattle.lk_inputs.specs.AnswerLaws.{answer_unless}
use Rattle.lk_inputs.specs.Asked.{CommandAsked, IsOfReading, LimitFirst, StatusLast, StatusMisses, StatusNamed, all_places, look_ups_of, paths_read}
use Rattle.lk_inputs.specs.InputsReading.{InputsRead}
use Rattle.lk_inputs.specs.LookUps.{inputs_limit}
use Rattle.lk_inputs.specs.Refusals.{CommandInputs, inputs_refusal}
use Rattle.lk_inputs.specs.FileAnswers.{StatusCounts}
use Rattle.lk_inputs.specs.declared.inputs.Inputs.{Inputs}
use Rattle.lk_driver.specs.ImageGiven.{ImageFirst, ImageGiven, IsAccepted, IsRefused, WordsGive}
use Rattle.lk_driver.specs.Outer.{AnswerIs, FilesKept, IsDue, IsOfInputs, IsFirstRefusal, LastKept, MissingReported, NamesPlace, ReadFaultReported, StatusAsked, words_answer}
use Rattle.lk_driver.proofs.OuterAsked.{asked-nothing, if-some, map-known}
use Rattle.lk_driver.proofs.OuterWords.{accepted-is, no-library, static-is, usage-decides, usage-static, wait-decides, wait-static, words-decide}

-- a status in place of the inputs
abbrev not_read : Status → Result Inputs Status
not_read s = Err s

-- ---- inputs that are refused

refused-of : (c : Command) (s : Status) → IsOfReading c (not_read s) → IsRefused (Err s)
refused-of c (status.Done how) k = k
refused-of c (status.LinkError f) k = tt
refused-of c (status.Usage u) k = tt
refused-of c (status.ReadFault p) k = tt
refused-of c status.DeviceFault k = k
refused-of c status.NoMemory k = tt
refused-of c (status.Limit l) k = tt
refused-of c (status.NotUpdated x) k = tt
refused-of c (status.NotYet w) k = tt

none-some : IsSome {T = Status} None → ⊥
none-some h = cc

of-inputs : (c : Command) (s : Status) → inputs_limit c ≡ None → IsOfReading c (not_read s) → IsOfInputs s
of-inputs c (status.Done how) few k = tt
of-inputs c (status.LinkError f) few k = tt
of-inputs c (status.Usage u) few k = k
of-inputs c (status.ReadFault p) few k = tt
of-inputs c status.DeviceFault few k = tt
of-inputs c status.NoMemory few k = tt
of-inputs c (status.Limit l) few k = λ e. let P : Option Status → Type 0 = λ o. IsSome o in none-some (subst P few (k e))
of-inputs c (status.NotUpdated x) few k = tt
of-inputs c (status.NotYet waiting.Words) few k = k
of-inputs c (status.NotYet (waiting.Form path)) few k = tt

reported-first : (due s : Status) → LimitFirst (Some due) (not_read s) → IsFirstRefusal due s
reported-first due (status.Done how) h = h
reported-first due (status.LinkError f) h = h
reported-first due (status.Usage u) h = h
reported-first due (status.ReadFault p) h = h
reported-first due status.DeviceFault h = h
reported-first due status.NoMemory h = tt
reported-first due (status.Limit l) h = h
reported-first due (status.NotUpdated x) h = h
reported-first due (status.NotYet w) h = h

first-of : (c : Command) (o : Option Status) (old new : FilesState) (s : Status) → inputs_limit c ≡ o → (IsSome o → new ≡ old) → LimitFirst o (not_read s) → IsOfReading c (not_read s) → ImageFirst o old (Err s) new
first-of c None old new s is same h k = of-inputs c s is k
first-of c (Some due) old new s is same h k = (reported-first due s h, same refl)

-- the answer, where the number of inputs is not refused, and where it is
answer-of : (c : Command) (there : FileMap) (later s : Status) → CommandInputs None c there (Err s) → IsOfReading c (not_read s) → AnswerIs s (answer_unless (inputs_refusal c there) later)
answer-of c there later (status.Done how) h k = sym (ap (λ (o : Option Status). answer_unless o later) h)
answer-of c there later (status.LinkError f) h k = sym (ap (λ (o : Option Status). answer_unless o later) h)
answer-of c there later (status.Usage u) h k = sym (ap (λ (o : Option Status). answer_unless o later) h)
answer-of c there later (status.ReadFault p) h k = tt
answer-of c there later status.DeviceFault h k = absurd k
answer-of c there later status.NoMemory h k = tt
answer-of c there later (status.Limit l) h k = sym (ap (λ (o : Option Status). answer_unless o later) h)
answer-of c there later (status.NotUpdated x) h k = sym (ap (λ (o : Option Status). answer_unless o later) h)
answer-of c there later (status.NotYet w) h k = sym (ap (λ (o : Option Status). answer_unless o later) h)

limit-of : (c : Command) (there : FileMap) (due s : Status) → CommandInputs (Some due) c there (Err s) → IsOfReading c (not_read s) → AnswerIs s due
limit-of c there due (status.Done how) h k = h
limit-of c there due (status.LinkError f) h k = h
limit-of c there due (status.Usage u) h k = h
limit-of c there due (status.ReadFault p) h k = tt
limit-of c there due status.DeviceFault h k = absurd k
limit-of c there due status.NoMemory h k = tt
limit-of c there due (status.Limit l) h k = h
limit-of c there due (status.NotUpdated x) h k = h
limit-of c there due (status.NotYet w) h k = h

either-of : (c : Command) (there : FileMap) (o : Option Status) (later s : Status) → CommandInputs o c there (Err s) → IsOfReading c (not_read s) → AnswerIs s (answer_unless o (answer_unless (inputs_refusal c there) later))
either-of c there None later s h k = answer-of c there later s h k
either-of c there (Some due) later s h k = limit-of c there due s h k

due-of : (words : List (List ℕ)) (c : Command) (old new : FilesState) (s : Status) → IsAccepted words c → InputsRead c old (not_read s) new → IsDue words old s
due-of words c old new s a g =
    if-some old.known (λ (state : Known). AnswerIs s (static_answer words state.map)) (λ state e.
    let P : Status → Type 0 = λ due. AnswerIs s due in
    subst P (sym (static-is words c state.map a))
    (either-of c state.map (inputs_limit c) (resolved_answer (resolved_of c state.map)) s (g.reported state.map (map-known old state e)) g.kinds))

named-of : (words : List (List ℕ)) (c : Command) (path : List ℕ) → IsAccepted words c → Contains (all_places c) path → NamesPlace (accepted_command words) path
named-of words c path a h = let P : Option Command → Type 0 = λ o. NamesPlace o path in subst P (sym (accepted-is words c a)) h

fault-of : (words : List (List ℕ)) (c : Command) (old new : FilesState) (s : Status) → IsAccepted words c → StatusNamed (all_places c) (not_read s) → StatusCounts old (not_read s) new → ReadFaultReported words old s new
fault-of words c old new (status.Done how) a named h = h
fault-of words c old new (status.LinkError f) a named h = h
fault-of words c old new (status.Usage u) a named h = h
fault-of words c old new (status.ReadFault p) a named h = (h.0, named-of words c p a named, h.1)
fault-of words c old new status.DeviceFault a named h = h
fault-of words c old new status.NoMemory a named h = tt
fault-of words c old new (status.Limit l) a named h = h
fault-of words c old new (status.NotUpdated x) a named h = h
fault-of words c old new (status.NotYet w) a named h = h

missing-of : (old new : FilesState) (s : Status) → StatusMisses old (not_read s) new → MissingReported old s new
missing-of old new (status.Done how) h = h
missing-of old new (status.LinkError f) h = h
missing-of old new (status.Usage u) h = h
missing-of old new (status.ReadFault p) h = h
missing-of old new status.DeviceFault h = h
missing-of old new status.NoMemory h = tt
missing-of old new (status.Limit l) h = h
missing-of old new (status.NotUpdated x) h = h
missing-of old new (status.NotYet w) h = h

asked-of : (c : Command) (there : FileMap) (old new : FilesState) (s : Status) → IsOfReading c (not_read s) → CommandAsked c there old (not_read s) new → StatusAsked c there old s new
asked-of c there old new (status.Done how) k h = absurd k
asked-of c there old new (status.LinkError f) k h = h
asked-of c there old new (status.Usage u) k h = absurd k
asked-of c there old new (status.ReadFault p) k h = h
asked-of c there old new status.DeviceFault k h = absurd k
asked-of c there old new status.NoMemory k h = h
asked-of c there old new (status.Limit l) k h = h
asked-of c there old new (status.NotUpdated x) k h = absurd k
asked-of c there old new (status.NotYet w) k h = h

last-of : (old new : FilesState) (s : Status) → StatusLast old (not_read s) new → LastKept old s new
last-of old new (status.Done how) h = h
last-of old new (status.LinkError f) h = h
last-of old new (status.Usage u) h = h
last-of old new (status.ReadFault p) h = tt
last-of old new status.DeviceFault h = h
last-of old new status.NoMemory h = tt
last-of old new (status.Limit l) h = h
last-of old new (status.NotUpdated x) h = h
last-of old new (status.NotYet w) h = h

ok-same : (c d : Command) → (let x : Result Command UsageFault = Ok c in x) ≡ Ok d → c ≡ d
ok-same c d e = cc

kept-of : (words : List (List ℕ)) (c : Command) (o : Option Status) (old new : FilesState) (s : Status) → IsAccepted words c → (IsSome o → new ≡ old) → InputsRead c old (not_read s) new → FilesKept o words old s new
kept-of words c (Some due) old new s a same g = same refl
kept-of words c None old new s a same g = record {
  map = g.kept;
  asked = λ d there is e.
      let P : Command → Type 0 = λ x. StatusAsked x there old s new in
      subst P (ok-same c d (sym a.is ∙ is)) (asked-of c there old new s g.kinds (g.asked there e));
  last = last-of old new s g.last;
}

refused-as : (words : List (List ℕ)) (c : Command) (old new : FilesState) (s : Status) → IsAccepted words c → InputsRead c old (not_read s) new → ImageGiven words old (Err s) new
refused-as words c old new s a g =
    let P : Option Status → Type 0 = λ o. ImageFirst o old (Err s) new in
    let Q : Option Status → Type 0 = λ o. FilesKept o words old s new in
    record {
      refused = refused-of c s g.kinds;
      first = subst P (sym (words-decide words c a)) (first-of c (inputs_limit c) old new s refl g.limit g.first g.kinds);
      due = due-of words c old new s a g;
      image = tt;
      sealed = tt;
      fault = fault-of words c old new s a g.named g.faults;
      missing = missing-of old new s (g.misses (no-library c a.waits));
      kept = subst Q (sym (words-decide words c a)) (kept-of words c (inputs_limit c) old new s a g.limit g);
    }

pub refused : (words : List (List ℕ)) (c : Command) (old new : FilesState) (s : Status) (result : Result (List ℕ) Status) → IsAccepted words c → InputsRead c old (Err s) new → result ≡ Err s → ImageGiven words old result new
refused words c old new s result a g e = let P : Result (List ℕ) Status → Type 0 = λ r. ImageGiven words old r new in subst P (sym e) (refused-as words c old new s a g)

-- ---- words that are refused, or wait

decided : (words : List (List ℕ)) (old : FilesState) (s : Status) → words_answer words ≡ Some s → IsRefused (Err s) → IsFirstRefusal s s → ReadFaultReported words old s old → MissingReported old s old
    → IsDue words old s → ImageGiven words old (Err s) old
decided words old s is refused first fault missing due =
    let P : Option Status → Type 0 = λ o. ImageFirst o old (Err s) old in
    let Q : Option Status → Type 0 = λ o. FilesKept o words old s old in
    record {
      refused = refused;
      first = subst P (sym is) (first, refl);
      due = due;
      image = tt;
      sealed = tt;
      fault = fault;
      missing = missing;
      kept = subst Q (sym is) refl;
    }

unread-first : (o : Option Status) (old : FilesState) → ImageFirst o old (Err status.NoMemory) old
unread-first None old = tt
unread-first (Some due) old = (tt, refl)

unread-kept : (o : Option Status) (words : List (List ℕ)) (old : FilesState) → FilesKept o words old status.NoMemory old
unread-kept (Some due) words old = refl
unread-kept None words old = record {
  map = refl;
  asked = λ c there is e. asked-nothing (look_ups_of c there) (paths_read c there) old;
  last = tt;
}

-- out of memory before anything is asked of the files
no-memory : (words : List (List ℕ)) (old : FilesState) → ImageGiven words old (Err status.NoMemory) old
no-memory words old = record {
  refused = tt;
  first = unread-first (words_answer words) old;
  due = if-some old.known (λ (state : Known). AnswerIs status.NoMemory (static_answer words state.map)) (λ state e. tt);
  image = tt;
  sealed = tt;
  fault = tt;
  missing = tt;
  kept = unread-kept (words_answer words) words old;
}

words-refused-as : (words : List (List ℕ)) (old : FilesState) (s : Status) → WordsGive words (Err s) → ImageGiven words old (Err s) old
words-refused-as words old (status.Usage u) h =
    decided words old (status.Usage u) (usage-decides words u h) tt refl refl refl
    (if-some old.known (λ (state : Known). status.Usage u ≡ static_answer words state.map) (λ state e. sym (usage-static words u state.map h)))
words-refused-as words old (status.NotYet waiting.Words) h =
    let s : Status = status.NotYet waiting.Words in
    decided words old s (wait-decides words h.0 s h.1 h.2) tt refl refl refl
    (if-some old.known (λ (state : Known). s ≡ static_answer words state.map) (λ state e. sym (wait-static words h.0 s state.map h.1 h.2)))
words-refused-as words old (status.NotYet (waiting.Form path)) h = absurd h
words-refused-as words old status.NoMemory h = no-memory words old
words-refused-as words old (status.Done how) h = absurd h
words-refused-as words old (status.LinkError f) h = absurd h
words-refused-as words old (status.ReadFault p) h = absurd h
words-refused-as words old status.DeviceFault h = absurd h
words-refused-as words old (status.Limit l) h = absurd h
words-refused-as words old (status.NotUpdated x) h = absurd h

pub words-refused : (words : List (List ℕ)) (old : FilesState) (s : Status) (result : Result (List ℕ) Status) → WordsGive words (Err s) → result ≡ Err s → ImageGiven words old result old
words-refused words old s result h e = let P : Result (List ℕ) Status → Type 0 = λ r. ImageGiven words old r old in subst P (sym e) (words-refused-as words old s h)
