-- One put says a text.
use Rattle.std.specs.Prelude.{ℕ, List}
use Rattle.std.proofs.Common.{inl, inr}
use Rattle.lk_report.specs.Spoken.{Puts, Says, Spoken}
use Rattle.lk_report.specs.declared.sinks.Answer.{Answer}
use Rattle.lk_report.specs.declared.sinks.Answer.TheVariants as answer

pub put_says : (old new : Spoken) (bytes : List ℕ) (a : Answer) → Puts old new bytes a → Says old new bytes
put_says old new bytes answer.Done p = inl p
put_says old new bytes answer.Failed p = inr p
