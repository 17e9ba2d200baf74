use Rattle.std.proofs.Common.{◌∙◌, ap}
use Rattle.std.specs.Prelude.{◌≡◌, ℕ, List, flat_map, ◌++◌}
use Rattle.std.proofs.lemmas.Result.{IfOk-weaker}
use Rattle.lk_model.specs.DynamicRelocations.{rela_plt_bytes}
use Rattle.std.specs.List.{enumerate_from}
use Rattle.lk_dyn.specs.JumpSlots.{jump_entry_bytes}
use Rattle.lk_dyn.proofs.RelocationsPut.{got_at, jumps_are}
use Rattle.lk_dyn.proofs.relocations.rela_plt_table.Goals as goal

pub returns : goal.returns
returns c = λ r same.
    let names = c.args.numbers.now in
    IfOk-weaker c.from_vec.result (λ b. b ≡ c.put_jumps.new.out.items) (λ b. b ≡ rela_plt_bytes r c.args.place.now)
    (λ b made. made
    ∙ c.in_ok-put_jumps.ensures
    ∙ ap (λ (l : List ℕ). l ++ flat_map (jump_entry_bytes names c.section_start-got.result) (enumerate_from 0 c.as_slice.result.now)) c.new-out.ensures.items
    ∙ ap (λ (plt : List ℕ). flat_map (jump_entry_bytes names c.section_start-got.result) (enumerate_from 0 plt)) c.as_slice.ensures
    ∙ ap (λ (got : ℕ). flat_map (jump_entry_bytes names got) (enumerate_from 0 c.args.place.now.slots.plt)) (c.section_start-got.ensures ∙ got_at c.args.place.now)
    ∙ jumps_are r c.args.place.now names same)
    c.from_vec.ensures
