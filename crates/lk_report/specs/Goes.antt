-- This project's own: how the saying of one text ends, so that a longer text is said part by part.
use Rattle.std.specs.Prelude.{◌≡◌, ◌++◌, ℕ, List, option_map}
use Rattle.lk_report.specs.declared.saying.Progress.{Progress}
use Rattle.lk_report.specs.declared.saying.Progress.TheVariants.{Going, Stopped}
use Rattle.lk_report.specs.Spoken.{Spoken, Rose, AppendsPrefix}

-- a text after which the progress goes on was said whole, with the count as before; one that stopped it
-- was said up to a prefix, and the count rose; after a stop nothing is said
abbrev pub Ends : Spoken → Spoken → List ℕ → Progress → Progress → Type 0
Ends old new text Going Going = (new.said ≡ option_map (λ s. s ++ text) old.said) × (new.faults ≡ old.faults)
Ends old new text Going Stopped = AppendsPrefix text old.said new.said × Rose old.faults new.faults
Ends old new text Stopped after = (new ≡ old) × (after ≡ Stopped)

-- saying the text took the sink from old to new, and the progress from before to after
pub record Goes (old : Spoken) (new : Spoken) (text : List ℕ) (before : Progress) (after : Progress) : Type 0 where
  pub ends : Ends old new text before after
