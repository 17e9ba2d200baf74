-- What is laid out is the full placement, so it is lawful where that is.
use Rattle.std.specs.Prelude.{◌≡◌, IfOk, Result, Ok, Err}
use Rattle.lk_model.specs.FullPlace.{full_place}
use Rattle.lk_model.specs.Lawful.{Lawful}
use Rattle.lk_model.specs.Views.{Resolved}
use Rattle.lk_model.specs.declared.layouts.LayoutFault.{LayoutFault}
use Rattle.lk_model.specs.declared.layouts.Placement.{Placement}
use Rattle.lk_layout.specs.Layouts.{LayoutGives}

pub lawful_reported : (r : Resolved) (result : Result Placement LayoutFault) → LayoutGives r result → Lawful r (full_place r) → IfOk result (λ place. Lawful r place)
lawful_reported r (Ok place) given law = let same : place ≡ full_place r = given.2 in rw same law
lawful_reported r (Err fault) given law = tt
