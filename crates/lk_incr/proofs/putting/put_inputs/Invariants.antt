use Rattle.std.proofs.Common.{◌≡◌, ◌++◌, drop}
use Rattle.std.specs.List.{enumerate_from, flat_map}
use Rattle.lk_model.specs.InputsSection.{input_fields}
use Rattle.lk_model.specs.RecordFields.{spelled}
use Rattle.lk_model.specs.Texts.{offset_in}
use Rattle.lk_incr.proofs.putting.put_inputs.Given as goal

-- the bytes put so far, followed by those of the inputs that are left, are the bytes before and those of all inputs
abbrev pub invariant-loop-number : goal.invariant-loop-number
invariant-loop-number l =
    l.out.items ++ spelled (offset_in l.table) (flat_map (input_fields l.placed) (enumerate_from l.number (drop l.number l.inputs)))
    ≡ l.initial.out.items ++ spelled (offset_in l.table) (flat_map (input_fields l.placed) (enumerate_from 0 l.inputs))
