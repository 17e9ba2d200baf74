-- Paths that are asked for one after another: some from the first on, up to some place, or all of them.
use Rattle.std.proofs.Common.{◌≡◌, refl, sym, ap, ◌∙◌, ℕ, List, [], ◌++◌, append_assoc, Option, Some, None, Err}
use Rattle.std.proofs.lemmas.List.{append-nil}
use Rattle.lk_report.specs.declared.statuses.Status.{Status}
use Rattle.lk_report.specs.declared.statuses.Status.TheVariants as status
use Rattle.lk_model.specs.declared.commands.Command.{Command}
use Rattle.lk_report.specs.FileMap.{FileMap}
use Rattle.lk_outside.specs.FilesState.{FilesState}
use Rattle.lk_inputs.specs.Asked.{AskedSome, FrontAsked, LimitFirst, Paths, look_ups_of, paths_read, known_stats}
use Rattle.lk_inputs.specs.FileAnswers.{known_reads, reads_with}
use Rattle.lk_inputs.proofs.CallsReported.{reads_none}

pub reads_twice : (o : Paths) (first second : List (List ℕ)) → reads_with second (reads_with first o) ≡ reads_with (first ++ second) o
reads_twice None first second = refl
reads_twice (Some before) first second = ap (λ r. Some r) (append_assoc before first second)

-- nothing was asked for, or all
pub none_asked : (before after : Paths) (all : List (List ℕ)) → after ≡ before → FrontAsked before all after
none_asked before after all e = record { front = []; rest = all; whole = refl; asked = e ∙ sym (reads_none before) }

pub all_asked : (before after : Paths) (all : List (List ℕ)) → after ≡ reads_with all before → FrontAsked before all after
all_asked before after all e = record { front = all; rest = []; whole = sym (append-nil all); asked = e }

-- after some that were asked for, some of the next ones
pub front_after : (before mid after : Paths) (front next rest all : List (List ℕ)) → all ≡ front ++ (next ++ rest) → mid ≡ reads_with front before → FrontAsked mid next after → FrontAsked before all after
front_after before mid after front next rest all whole asked f = record {
  front = front ++ f.front;
  rest = f.rest ++ rest;
  whole = whole ∙ ap (λ l. front ++ (l ++ rest)) f.whole ∙ ap (λ l. front ++ l) (append_assoc f.front f.rest rest) ∙ sym (append_assoc front f.front (f.rest ++ rest));
  asked = f.asked ∙ ap (reads_with f.front) asked ∙ reads_twice before front f.front;
}

-- of these paths all but the last ones were asked for
pub record AskedUpTo (before : Paths) (all rest : List (List ℕ)) (after : Paths) : Type 0 where
  pub front : List (List ℕ)
  pub whole : all ≡ front ++ rest
  pub asked : after ≡ reads_with front before

pub up_to_start : (before : Paths) (all : List (List ℕ)) → AskedUpTo before all all before
up_to_start before all = record { front = []; whole = refl; asked = sym (reads_none before) }

pub up_to_next : (before mid after : Paths) (all rest next later : List (List ℕ)) → AskedUpTo before all rest mid → rest ≡ next ++ later → after ≡ reads_with next mid → AskedUpTo before all later after
up_to_next before mid after all rest next later u e asked = record {
  front = u.front ++ next;
  whole = u.whole ∙ ap (λ l. u.front ++ l) e ∙ sym (append_assoc u.front next later);
  asked = asked ∙ ap (reads_with next) u.asked ∙ reads_twice before u.front next;
}

pub up_to_last : (before mid after : Paths) (all rest : List (List ℕ)) → AskedUpTo before all rest mid → after ≡ reads_with rest mid → after ≡ reads_with all before
up_to_last before mid after all rest u asked =
    asked ∙ ap (reads_with rest) u.asked ∙ reads_twice before u.front rest ∙ ap (λ l. reads_with l before) (sym u.whole)

pub up_to_end : (before after : Paths) (all : List (List ℕ)) → AskedUpTo before all [] after → after ≡ reads_with all before
up_to_end before after all u = up_to_last before after after all [] u (sym (reads_none after))

pub up_to_stop : (before mid after : Paths) (all rest next later : List (List ℕ)) → AskedUpTo before all rest mid → rest ≡ next ++ later → FrontAsked mid next after → FrontAsked before all after
up_to_stop before mid after all rest next later u e f =
    front_after before mid after u.front next later all (u.whole ∙ ap (λ l. u.front ++ l) e) u.asked f

-- out of memory before anything was asked for
pub nothing_asked : (command : Command) (there : FileMap) (old new : FilesState) → new ≡ old → AskedSome (look_ups_of command there) (paths_read command there) old new
nothing_asked command there old new e = record {
  stats = none_asked (known_stats old) (known_stats new) (look_ups_of command there) (ap known_stats e);
  reads = none_asked (known_reads old) (known_reads new) (paths_read command there) (ap known_reads e);
}

pub limit_or_memory : (X : Type 0) (due : Option Status) → LimitFirst {X = X} due (Err status.NoMemory)
limit_or_memory X None = tt
limit_or_memory X (Some s) = tt
