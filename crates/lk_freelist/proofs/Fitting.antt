-- The place in a hole by its two candidates, as the code tries them.
use Rattle.std.proofs.Common.{◌≡◌, ℕ, true, false, None, Some, ◌+◌, ◌-◌, ◌/◌, ◌%◌, ◌<◌, ◌≤◌, sym, ap, ◌∙◌, arith}
use Rattle.lk_model.specs.FirstFit.{fit_in}
use Rattle.lk_model.specs.Rooms.{is_fillable, step_to}
use Rattle.lk_model.specs.declared.layouts.Hole.{Hole}
use Rattle.lk_model.proofs.FirstFits.{near_fits, last_fits, last_fails}
use Rattle.lk_model.proofs.Multiples.{step_above}
use Rattle.std.proofs.Math.Nat.{mul-mod_left}

-- what the code knows once the first candidate lies in the hole
pub record IsNear (hole : Hole) (least size align near reached : ℕ) : Type 0 where
  pub positive : 0 < align
  pub step : step_to least hole.start align ≡ near
  pub reached_is : reached ≡ near + size
  pub inside : reached ≤ hole.start + hole.length

pub near_at :
    (hole : Hole) (least size align near reached : ℕ)
    → 0 < align
    → near ≡ step_to least hole.start align
    → reached ≡ near + size
    → reached ≤ hole.start + hole.length
    → IsNear hole least size align near reached
near_at hole least size align near reached positive step is inside =
    record { positive = positive; step = sym step; reached_is = is; inside = inside }

-- the first candidate, where what is left behind it can be filled
pub taken_near :
    {hole : Hole} {least size align near reached : ℕ}
    → IsNear hole least size align near reached
    → is_fillable least (hole.start + hole.length - reached) ≡ true
    → fit_in hole least size align ≡ Some near
taken_near {hole} {least} {size} {align} {near} {reached} at behind =
    let end : reached ≡ step_to least hole.start align + size = omega (arith, at.step, at.reached_is) in
    let left : is_fillable least (hole.start + hole.length - (step_to least hole.start align + size)) ≡ true = rw (← end) behind in
    near_fits hole least size align at.positive (omega (arith, at.inside, end)) left ∙ ap (λ n. Some n) at.step

-- the second candidate is not below the hole
pub last_above :
    {hole : Hole} {least size align near reached : ℕ}
    → IsNear hole least size align near reached
    → hole.start ≤ hole.start + hole.length - size
last_above {hole} {least} {size} {align} at =
    let above = step_above least hole.start align at.positive in
    omega (arith, above, at.step, at.reached_is, at.inside)

-- the second candidate, where it is a multiple and what it leaves before it can be filled
pub taken_last :
    {hole : Hole} {least size align near reached : ℕ}
    → IsNear hole least size align near reached
    → is_fillable least (hole.start + hole.length - reached) ≡ false
    → (hole.start + hole.length - size) % align ≡ 0
    → is_fillable least (hole.start + hole.length - size - hole.start) ≡ true
    → fit_in hole least size align ≡ Some (hole.start + hole.length - size)
taken_last {hole} {least} {size} {align} {near} {reached} at behind multiple before =
    let last : ℕ = hole.start + hole.length - size in
    let end : reached ≡ step_to least hole.start align + size = omega (arith, at.step, at.reached_is) in
    let left : is_fillable least (hole.start + hole.length - (step_to least hole.start align + size)) ≡ false = rw (← end) behind in
    last_fits hole least size align (last / align) at.positive (omega (arith, at.inside, end)) left (omega (arith, at.positive, multiple)) before

-- no place, where it is none
pub taken_nowhere :
    {hole : Hole} {least size align near reached : ℕ}
    → IsNear hole least size align near reached
    → is_fillable least (hole.start + hole.length - reached) ≡ false
    → ((hole.start + hole.length - size) % align ≡ 0 → is_fillable least (hole.start + hole.length - size - hole.start) ≡ false)
    → fit_in hole least size align ≡ None
taken_nowhere {hole} {least} {size} {align} {near} {reached} at behind fails =
    let last : ℕ = hole.start + hole.length - size in
    let end : reached ≡ step_to least hole.start align + size = omega (arith, at.step, at.reached_is) in
    let left : is_fillable least (hole.start + hole.length - (step_to least hole.start align + size)) ≡ false = rw (← end) behind in
    last_fails hole least size align at.positive (omega (arith, at.inside, end)) left
    (λ k multiple. fails (ap (λ n. n % align) multiple ∙ mul-mod_left k align))
