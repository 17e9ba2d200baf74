-- This project's own: text kept in memory, exactly.
use Rattle.std.specs.Prelude.{◌≡◌, ◌++◌, ℕ, List, Some}
use Rattle.lk_report.specs.Spoken.{Spoken}
use Rattle.lk_report.specs.declared.sinks.Answer.{Answer}
use Rattle.lk_report.specs.declared.sinks.Answer.TheVariants.{Done, Failed}
use Rattle.lk_outside.specs.declared.calls.Calls.{Calls}
use Rattle.lk_outside.specs.Counts.{counted, FailsNext, call_made, call_failed}

-- the bytes put so far, and the calls
pub record SinkInMemory : Type 0 where
  pub bytes : List ℕ
  pub calls : Calls

-- a sink that no test sets to fail: the bytes, and the puts that found no memory
pub record SureSinkInMemory : Type 0 where
  pub bytes : List ℕ
  pub faults : ℕ

abbrev pub spoken_of : SinkInMemory → Spoken
spoken_of m = record { said = Some m.bytes; faults = m.calls.faults }

abbrev pub sure_spoken_of : SureSinkInMemory → Spoken
sure_spoken_of m = record { said = Some m.bytes; faults = m.faults }

-- one put: all bytes, where it is not the call that is to fail, else nothing but the counts
abbrev pub PutsInMemory : SinkInMemory → List ℕ → Answer → SinkInMemory → Type 0
PutsInMemory old bytes Done new =
    (FailsNext old.calls → ⊥)
    × (new ≡ record old { bytes = old.bytes ++ bytes; calls = call_made old.calls })
PutsInMemory old bytes Failed new = new ≡ record old { calls = call_failed old.calls }

abbrev pub SurePuts : SureSinkInMemory → List ℕ → Answer → SureSinkInMemory → Type 0
SurePuts old bytes Done new = new ≡ record old { bytes = old.bytes ++ bytes }
SurePuts old bytes Failed new = new ≡ record old { faults = counted old.faults }
