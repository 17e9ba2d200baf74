use Rattle.std.proofs.Common.{◌≡◌, drop, fold}
use Rattle.std.specs.List.{flat_map}
use Rattle.lk_model.specs.Texts.{with_text}
use Rattle.lk_incr.specs.NotedTexts.{input_texts}
use Rattle.lk_incr.proofs.noting.note_inputs.Given as goal

-- the table with the texts that are left is the table with all texts
abbrev pub invariant-loop-input : goal.invariant-loop-input
invariant-loop-input l =
    fold with_text l.table (flat_map input_texts (drop l.input-index l.inputs)) ≡ fold with_text l.initial.table (flat_map input_texts l.inputs)
