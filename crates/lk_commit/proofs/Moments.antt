-- Moments one after another, and what a crash at each of them leaves.
use Rattle.std.proofs.Common.{◌≡◌, ◌++◌, ◌∷◌, [], ℕ, List, length, drop, sym, ◌∙◌, ap, subst, append-nil, append_assoc}
use Rattle.std.specs.List.{AllByRecursion}
use Rattle.std.proofs.Math.Seq.{drop-append_seam}
use Rattle.lk_model.proofs.Rising.{all_map}
use Rattle.lk_outside.specs.Crashes.{CrashLeaves, CrashState}
use Rattle.lk_outside.specs.Disk.{Stored}
use Rattle.lk_commit.specs.CrashStates.{AtEachMoment}
use Rattle.lk_commit.specs.Stages.{Went}

pub all_append : {X : Type 0} (P : X → Type 0) (xs ys : List X) → AllByRecursion P xs → AllByRecursion P ys → AllByRecursion P (xs ++ ys)
all_append P [] ys a b = b
all_append P (x ∷ xs) ys a b = (a.0, all_append P xs ys a.1 b)

-- nothing happened; one thing happened
pub went_none : {P : List ℕ → Type 0} (s : Stored) → CrashLeaves P s.now → Went P s s
went_none s now = record { added = []; past = sym (append-nil s.past); each = tt; now = now }

pub went_one : {P : List ℕ → Type 0} (s t : Stored) → t.past ≡ s.past ++ s.now ∷ [] → CrashLeaves P s.now → CrashLeaves P t.now → Went P s t
went_one s t past before now = record { added = s.now ∷ []; past = past; each = (before, tt); now = now }

-- one after the other
pub went_more : {P : List ℕ → Type 0} (s t u : Stored) → Went P s t → Went P t u → Went P s u
went_more {P = P} s t u first second = record {
  added = first.added ++ second.added;
  past = second.past ∙ (ap (λ l. l ++ second.added) first.past ∙ append_assoc s.past first.added second.added);
  each = all_append (CrashLeaves P) first.added second.added first.each second.each;
  now = second.now;
}

pub went_weaker : {P Q : List ℕ → Type 0} (s t : Stored) → ((file : List ℕ) → P file → Q file) → Went P s t → Went Q s t
went_weaker s t more went = record {
  added = went.added;
  past = went.past;
  each = all_map (λ c leaves file left. more file (leaves file left)) went.added went.each;
  now = λ file left. more file (went.now file left);
}

-- these are all moments since the time of the first state
pub went_always : {P : List ℕ → Type 0} (s t : Stored) → Went P s t → AtEachMoment P s t
went_always {P = P} s t went =
    let added : drop (length s.past) t.past ≡ went.added = ap (drop (length s.past)) went.past ∙ drop-append_seam s.past went.added in
    subst (λ (l : List CrashState). AllByRecursion (CrashLeaves P) (l ++ t.now ∷ [])) (sym added) (all_append (CrashLeaves P) went.added (t.now ∷ []) went.each (went.now, tt))
