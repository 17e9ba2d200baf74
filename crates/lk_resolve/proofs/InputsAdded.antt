-- What an input that was claimed and added makes of what is kept, and when it is wanted.
use Rattle.std.proofs.Common.{◌≡◌, ap, ◌∙◌, ℕ, Bool, List, fold}
use Rattle.lk_comdat.specs.Claims.{signatures_of}
use Rattle.lk_comdat.specs.ClaimLaws.{with_claim}
use Rattle.lk_model.specs.declared.summaries.Global.{Global}
use Rattle.lk_model.specs.Numbered.{Numbered}
use Rattle.lk_resolve.specs.LeftSections.{left_in}
use Rattle.lk_resolve.specs.States.{State, asked_by, with_input, with_left}
use Rattle.lk_resolve.specs.Wanted.{defines_wanted, wants}

pub input_added : (v s : State) (claims : List (List ℕ × ℕ)) (left : List ℕ) (x : Numbered) → v ≡ s → claims ≡ fold with_claim v.claims (asked_by x) → left ≡ left_in (signatures_of v.claims) x.summary
    → with_left (record v { claims = claims }) left x ≡ with_input s x
unfolding with_input
input_added v s claims left x same claimed left_are =
    (λ i. with_left (record v { claims = claimed i }) (left_are i) x) ∙ ap (λ t. with_input t x) same

pub wants_found : (v s : State) (left : List ℕ) (x : Numbered) (b : Bool) (gs : List Global) → v ≡ s → left ≡ left_in (signatures_of v.claims) x.summary → gs ≡ x.summary.globals → b ≡ defines_wanted v.entry v.rows left gs → b ≡ wants s x
unfolding wants
wants_found v s left x b gs same left_are symbols is =
    is ∙ (λ i. defines_wanted v.entry v.rows (left_are i) (symbols i)) ∙ ap (λ t. wants t x) same
