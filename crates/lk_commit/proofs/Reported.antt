-- Stages one after another, where the device reports its file and where it does not.
use Rattle.std.proofs.Common.{◌≡◌, ℕ, List, Option, Some, None, refl, sym, ◌∙◌, ap, subst, inl, inr}
use Rattle.std.specs.Prelude.{option_map, length, ◌⊎◌}
use Rattle.std.specs.Option.{ForSome}
use Rattle.std.proofs.lemmas.Option.{none-some}
use Rattle.lk_report.specs.Spoken.{Rose}
use Rattle.lk_report.specs.declared.sinks.Answer.{Answer}
use Rattle.lk_report.specs.declared.sinks.Answer.TheVariants as answer
use Rattle.lk_outside.specs.Disk.{CutGives, Disk, MaybePatched, PartlyPatched, Stored, SyncGives, WriteAtGives, stored_cut, stored_patched, stored_synced}
use Rattle.lk_commit.specs.CrashStates.{StageGives, WhereReported}

-- ---- files that may be reported

pub reported_map : (R : Stored → Stored → Type 0) (S : Stored → Type 0) (f : Stored → Stored) (o p : Option Stored) → ForSome o S → p ≡ option_map f o → ((s : Stored) → S s → R s (f s)) → WhereReported R o p
reported_map R S f None p known e each = subst (WhereReported R None) (sym e) tt
reported_map R S f (Some s) p known e each = subst (WhereReported R (Some s)) (sym e) (each s (known s refl))

pub reported_same : (R : Stored → Stored → Type 0) (o p : Option Stored) → p ≡ o → ((s : Stored) → o ≡ Some s → R s s) → WhereReported R o p
reported_same R None p e each = subst (WhereReported R None) (sym e) tt
reported_same R (Some s) p e each = subst (WhereReported R (Some s)) (sym e) (each s refl)

pub reported_then : {R S T : Stored → Stored → Type 0} → ((s t u : Stored) → R s t → S t u → T s u) → (o p q : Option Stored) → WhereReported R o p → WhereReported S p q → WhereReported T o q
reported_then both None None None a b = tt
reported_then both (Some s) (Some t) (Some u) a b = both s t u a b
reported_then both None None (Some u) a b = absurd b
reported_then both None (Some t) q a b = absurd a
reported_then both (Some s) None q a b = absurd a
reported_then both (Some s) (Some t) None a b = absurd b

pub reported_map2 : {R T : Stored → Stored → Type 0} → ((s t : Stored) → R s t → T s t) → (o p : Option Stored) → WhereReported R o p → WhereReported T o p
reported_map2 each None None a = tt
reported_map2 each (Some s) (Some t) a = each s t a
reported_map2 each None (Some t) a = absurd a
reported_map2 each (Some s) None a = absurd a

-- what is known of the file before
pub reported_given : (R : Stored → Stored → Type 0) (S : Stored → Type 0) (o p : Option Stored) → ForSome o S → WhereReported R o p → WhereReported (λ s t. S s × R s t) o p
reported_given R S None None known a = tt
reported_given R S (Some s) (Some t) known a = (known s refl, a)
reported_given R S None (Some t) known a = absurd a
reported_given R S (Some s) None known a = absurd a

abbrev inside : Stored → Option Stored → Stored
inside other None = other
inside other (Some s) = s

-- what is known of the file after
pub reported_after : {R : Stored → Stored → Type 0} {S : Stored → Type 0} → ((s t : Stored) → R s t → S t) → (o p : Option Stored) → WhereReported R o p → ForSome p S
reported_after each None None a = λ t e. absurd (none-some t e)
reported_after {S = S} each (Some s) (Some t) a = λ u e. subst S (ap (inside t) e) (each s t a)
reported_after each None (Some t) a = absurd a
reported_after each (Some s) None a = absurd a

-- two things that are known of a file
pub both_known : (P Q : Stored → Type 0) (o : Option Stored) → ForSome o P → ForSome o Q → ForSome o (λ s. P s × Q s)
both_known P Q o p q = λ s e. (p s e, q s e)

-- ---- calls of the device

-- a write that was done, and one that failed
pub write_done : (R : Stored → Stored → Type 0) (S : Stored → Type 0) (at : ℕ) (bytes : List ℕ) (d e : Disk) → ForSome d.stored S → ((s : Stored) → S s → R s (stored_patched at bytes s)) → WriteAtGives d at bytes answer.Done e → WhereReported R d.stored e.stored
write_done R S at bytes d e known each gives = reported_map R S (stored_patched at bytes) d.stored e.stored known gives.0 each

maybe_patched : (R : Stored → Stored → Type 0) (S : Stored → Type 0) (at size : ℕ) (o p : Option Stored) → ForSome o S → ((s t : Stored) → S s → (t ≡ s) ⊎ PartlyPatched at size s t → R s t) → MaybePatched at size o p → WhereReported R o p
maybe_patched R S at size None None known each maybe = tt
maybe_patched R S at size (Some s) (Some t) known each maybe = each s t (known s refl) maybe
maybe_patched R S at size None (Some t) known each maybe = absurd maybe
maybe_patched R S at size (Some s) None known each maybe = absurd maybe

pub write_failed : (R : Stored → Stored → Type 0) (S : Stored → Type 0) (at : ℕ) (bytes : List ℕ) (d e : Disk) → ForSome d.stored S → ((s t : Stored) → S s → (t ≡ s) ⊎ PartlyPatched at (length bytes) s t → R s t) → WriteAtGives d at bytes answer.Failed e → WhereReported R d.stored e.stored
write_failed R S at bytes d e known each gives = maybe_patched R S at (length bytes) d.stored e.stored known each gives.0

-- a sync, a write that was done and one that failed, as relations of the files
pub sync_call : (d e : Disk) (a : Answer) → SyncGives d a e → StageGives (λ s t. t ≡ stored_synced s) (λ s t. t ≡ s) d a e
sync_call d e answer.Done gives = (gives.1, reported_map (λ s t. t ≡ stored_synced s) (λ s. Unit {0}) stored_synced d.stored e.stored (λ s o. tt) gives.0 (λ s h. refl))
sync_call d e answer.Failed gives = (gives.1, reported_same (λ s t. t ≡ s) d.stored e.stored gives.0 (λ s o. refl))

pub write_call : (at : ℕ) (bytes : List ℕ) (d e : Disk) → WriteAtGives d at bytes answer.Done e → WhereReported (λ s t. t ≡ stored_patched at bytes s) d.stored e.stored
write_call at bytes d e gives = reported_map (λ s t. t ≡ stored_patched at bytes s) (λ s. Unit {0}) (stored_patched at bytes) d.stored e.stored (λ s o. tt) gives.0 (λ s h. refl)

pub write_refused : (at : ℕ) (bytes : List ℕ) (d e : Disk) → WriteAtGives d at bytes answer.Failed e → WhereReported (λ s t. (t ≡ s) ⊎ PartlyPatched at (length bytes) s t) d.stored e.stored
write_refused at bytes d e gives = maybe_patched (λ s t. (t ≡ s) ⊎ PartlyPatched at (length bytes) s t) (λ s. Unit {0}) at (length bytes) d.stored e.stored (λ s o. tt) (λ s t h maybe. maybe) gives.0

-- a cut that failed
pub cut_refused : (Q : Stored → Stored → Type 0) (S : Stored → Type 0) (n : ℕ) (d e : Disk) → ForSome d.stored S → ((s : Stored) → S s → Q s s) → ((s : Stored) → S s → Q s (stored_cut n s)) → CutGives d n answer.Failed e → WhereReported Q d.stored e.stored
cut_refused Q S n d e known same late gives = elim gives.0 [
  | inl is ↦ reported_same Q d.stored e.stored is (λ s o. same s (known s o))
  | inr is ↦ reported_map Q S (stored_cut n) d.stored e.stored known is late
]

-- a cut and a write as a stage
pub cut_stage : (R Q : Stored → Stored → Type 0) (S : Stored → Type 0) (n : ℕ) (d e : Disk) (a : Answer) → ForSome d.stored S → ((s : Stored) → S s → R s (stored_cut n s)) → ((s : Stored) → S s → Q s s) → ((s : Stored) → S s → Q s (stored_cut n s)) → CutGives d n a e → StageGives R Q d a e
cut_stage R Q S n d e answer.Done known cut same late gives = (gives.1, reported_map R S (stored_cut n) d.stored e.stored known gives.0 cut)
cut_stage R Q S n d e answer.Failed known cut same late gives = (gives.1, cut_refused Q S n d e known same late gives)

pub write_stage : (R Q : Stored → Stored → Type 0) (at : ℕ) (bytes : List ℕ) (d e f : Disk) (a : Answer) (P : Stored → Stored → Type 0) → ((s t u : Stored) → P s t → u ≡ stored_patched at bytes t → R s u) → ((s t u : Stored) → P s t → (u ≡ t) ⊎ PartlyPatched at (length bytes) t u → Q s u) → e.faults ≡ d.faults → WhereReported P d.stored e.stored → WriteAtGives e at bytes a f → StageGives R Q d a f
write_stage R Q at bytes d e f answer.Done P done failed counted before gives = (gives.1 ∙ counted, reported_then done d.stored e.stored f.stored before (write_call at bytes e f gives))
write_stage R Q at bytes d e f answer.Failed P done failed counted before gives = (subst (λ n. Rose n f.faults) counted gives.1, reported_then failed d.stored e.stored f.stored before (write_refused at bytes e f gives))

-- a stage whose file is known
pub stage_given : (R Q T U : Stored → Stored → Type 0) (S : Stored → Type 0) (d e : Disk) (a : Answer) → ForSome d.stored S → ((s t : Stored) → S s → R s t → T s t) → ((s t : Stored) → S s → Q s t → U s t) → StageGives R Q d a e → StageGives T U d a e
stage_given R Q T U S d e answer.Done known done failed gives = (gives.0, reported_map2 (λ s t h. done s t h.0 h.1) d.stored e.stored (reported_given R S d.stored e.stored known gives.1))
stage_given R Q T U S d e answer.Failed known done failed gives = (gives.0, reported_map2 (λ s t h. failed s t h.0 h.1) d.stored e.stored (reported_given Q S d.stored e.stored known gives.1))

-- a stage after a call that changed nothing
pub same_stage : (R Q : Stored → Stored → Type 0) (d e f : Disk) (a : Answer) → e.stored ≡ d.stored → e.faults ≡ d.faults → StageGives R Q e a f → StageGives R Q d a f
same_stage R Q d e f answer.Done same counted gives = (gives.0 ∙ counted, subst (λ o. WhereReported R o f.stored) same gives.1)
same_stage R Q d e f answer.Failed same counted gives = (subst (λ n. Rose n f.faults) counted gives.0, subst (λ o. WhereReported Q o f.stored) same gives.1)

-- one stage after another
pub stage_then : (R R2 Q2 T Q : Stored → Stored → Type 0) (d e f : Disk) (a : Answer) → ((s t u : Stored) → R s t → R2 t u → T s u) → ((s t u : Stored) → R s t → Q2 t u → Q s u) → e.faults ≡ d.faults → WhereReported R d.stored e.stored → StageGives R2 Q2 e a f → StageGives T Q d a f
stage_then R R2 Q2 T Q d e f answer.Done done failed counted first second = (second.0 ∙ counted, reported_then done d.stored e.stored f.stored first second.1)
stage_then R R2 Q2 T Q d e f answer.Failed done failed counted first second = (subst (λ n. Rose n f.faults) counted second.0, reported_then failed d.stored e.stored f.stored first second.1)
