-- The first of several refusals is reported.
use Rattle.std.proofs.Common.{◌≡◌, ap, ◌∙◌}
use Rattle.std.specs.Prelude.{◌≤◌, ◌<◌, ℕ, ◌^◌, Option, Some, None}
use Rattle.lk_report.specs.declared.statuses.LimitKind.TheVariants as limit
use Rattle.lk_report.specs.declared.statuses.Status.{Status}
use Rattle.lk_report.specs.declared.statuses.Status.TheVariants as status
use Rattle.lk_image.specs.ImageAnswers.{IsRefusal, first_of, length_limit}
use Rattle.lk_model.proofs.LimitsExceeded.{above}
use Rattle.lk_model.proofs.LimitsExceeded.{below}

-- a refusal of one is a refusal of another that is as due
passes_on : (due other : Option Status) (s : Status) → (due ≡ Some s → other ≡ Some s) → IsRefusal due s → IsRefusal other s
passes_on due other (status.Done outcome) more is = more is
passes_on due other (status.LinkError faults) more is = more is
passes_on due other (status.Usage u) more is = more is
passes_on due other (status.ReadFault path) more is = more is
passes_on due other status.DeviceFault more is = more is
passes_on due other status.NoMemory more is = tt
passes_on due other (status.Limit l) more is = more is
passes_on due other (status.NotUpdated cause) more is = more is
passes_on due other (status.NotYet w) more is = more is

pub first_refuses : (first other : Option Status) (s : Status) → IsRefusal first s → IsRefusal (first_of first other) s
first_refuses first other s h = passes_on first (first_of first other) s (λ is. ap (λ (f : Option Status). first_of f other) is) h

pub then_refuses : (first other : Option Status) (s : Status) → first ≡ None → IsRefusal other s → IsRefusal (first_of first other) s
then_refuses first other s none h = passes_on other (first_of first other) s (λ is. ap (λ (f : Option Status). first_of f other) none ∙ is) h

pub none_of : (first other : Option Status) → first ≡ None → other ≡ None → first_of first other ≡ None
none_of first other none no_other = ap (λ (f : Option Status). first_of f other) none ∙ no_other

-- the limit on the length
pub too_long : (n : ℕ) → 2 ^ 29 < n → length_limit n ≡ Some (status.Limit (record { which = limit.Image; number = n }))
too_long n long = above limit.Image (2 ^ 29) n long

pub short_enough : (n : ℕ) → n ≤ 2 ^ 29 → length_limit n ≡ None
short_enough n short = below limit.Image (2 ^ 29) n short
