use Rattle.lk_fill.proofs.laws.lawful_placements_can_be_filled.Goals as goal

pub returns : goal.returns
returns c = λ r place size lawful inside short. record { fillable = lawful.fillable; inside = inside; short = short }
