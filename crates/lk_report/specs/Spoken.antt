-- This project's own: what a sink holds and what a put makes of it.
use Rattle.std.specs.Prelude.{◌≡◌, ◌≤◌, ◌<◌, ◌-◌, ◌^◌, ◌++◌, ◌⊎◌, ℕ, List, length, take, min, Option, Some, None, option_map}
use Rattle.lk_report.specs.declared.sinks.Answer.{Answer}
use Rattle.lk_report.specs.declared.sinks.Answer.TheVariants.{Done, Failed}

-- a sink: the bytes that it holds, where it reports them, and its count of faults
pub record Spoken : Type 0 where
  pub said : Option (List ℕ)
  pub faults : ℕ

-- a count rose: it is higher than before, or at its last value
abbrev pub Rose : ℕ → ℕ → Type 0
Rose before now = min before (2 ^ 64 - 2) < now

-- some prefix of the bytes was appended; of a sink that does not show what it holds nothing is said
abbrev pub AppendsPrefix : List ℕ → Option (List ℕ) → Option (List ℕ) → Type 0
AppendsPrefix bytes None None = Unit {0}
AppendsPrefix bytes (Some old) (Some new) = (k : ℕ) × (k ≤ length bytes) × (new ≡ old ++ take k bytes)
AppendsPrefix bytes None (Some new) = ⊥
AppendsPrefix bytes (Some old) None = ⊥

-- one put: all bytes and the count as before, or a prefix and a count that rose
abbrev pub Puts : Spoken → Spoken → List ℕ → Answer → Type 0
Puts old new bytes Done = (new.said ≡ option_map (λ s. s ++ bytes) old.said) × (new.faults ≡ old.faults)
Puts old new bytes Failed = AppendsPrefix bytes old.said new.said × Rose old.faults new.faults

-- a text was said: whole and with the count as before, or a prefix of it with a count that rose
abbrev pub Says : Spoken → Spoken → List ℕ → Type 0
Says old new text =
    ((new.said ≡ option_map (λ s. s ++ text) old.said) × (new.faults ≡ old.faults))
    ⊎ (AppendsPrefix text old.said new.said × Rose old.faults new.faults)
