-- Paths that were asked for: all of them, none of them; and the map of files that report it.
use Rattle.std.proofs.Common.{◌≡◌, refl, sym, ap, ℕ, [], List, Option, Some, None}
use Rattle.std.specs.Prelude.{IfSome, option_map}
use Rattle.std.proofs.lemmas.List.{append-nil}
use Rattle.lk_outside.specs.FilesState.{FilesState, Known}
use Rattle.lk_inputs.specs.Asked.{Asked, AskedSome, FrontAsked, known_stats}
use Rattle.lk_inputs.specs.FileAnswers.{known_map, known_reads, reads_with}

-- ---- what is reported

pub if-some : {X : Type 0} (o : Option X) (P : X → Type 0) → ((x : X) → o ≡ Some x → P x) → IfSome o P
if-some None P h = tt
if-some (Some x) P h = h x refl

pub map-known : (old : FilesState) (k : Known) → old.known ≡ Some k → known_map old ≡ Some k.map
map-known old k e = ap (option_map (λ (x : Known). x.map)) e

-- ---- the paths

all-of : (before after : Option (List (List ℕ))) (all : List (List ℕ)) → after ≡ reads_with all before → FrontAsked before all after
all-of before after all e = record { front = all; rest = []; whole = sym (append-nil all); asked = e }

none-with : (reported : Option (List (List ℕ))) → reported ≡ reads_with [] reported
none-with None = refl
none-with (Some paths) = ap (λ (p : List (List ℕ)). Some p) (sym (append-nil paths))

none-of : (reported : Option (List (List ℕ))) (all : List (List ℕ)) → FrontAsked reported all reported
none-of reported all = record { front = []; rest = all; whole = refl; asked = none-with reported }

pub asked-some : (looks paths : List (List ℕ)) (old new : FilesState) → Asked looks paths old new → AskedSome looks paths old new
asked-some looks paths old new a = record {
  stats = all-of (known_stats old) (known_stats new) looks a.stats;
  reads = all-of (known_reads old) (known_reads new) paths a.reads;
}

pub asked-nothing : (looks paths : List (List ℕ)) (old : FilesState) → AskedSome looks paths old old
asked-nothing looks paths old = record { stats = none-of (known_stats old) looks; reads = none-of (known_reads old) paths }
