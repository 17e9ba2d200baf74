use Rattle.std.specs.Prelude.{◌≡◌, ℕ, drop, pos}
use Rattle.lk_model.specs.DynamicEntries.{first_with_tag}
use Rattle.lk_loader.proofs.dynamic_entries.first_with_tag.Given as goal

abbrev pub invariant-loop-entry : goal.invariant-loop-entry
invariant-loop-entry l =
    (code : ℕ) → l.tag ≡ pos code → first_with_tag code (drop l.entry-index l.entries) ≡ first_with_tag code l.entries
