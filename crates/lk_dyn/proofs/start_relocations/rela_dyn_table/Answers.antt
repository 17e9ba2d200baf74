use Rattle.std.proofs.Common.{◌∙◌, ap, subst}
use Rattle.std.specs.Prelude.{◌≡◌, ℕ, List, flat_map, ◌++◌}
use Rattle.std.proofs.lemmas.Result.{IfOk-weaker}
use Rattle.lk_model.specs.DynamicRelocations.{rela_dyn_bytes}
use Rattle.lk_dyn.specs.StartRelocations.{copy_entry_at, copy_of, or_zero, slot_entry_bytes, FindsCopies}
use Rattle.lk_dyn.proofs.StartFilled.{starts_are}
use Rattle.lk_dyn.proofs.start_relocations.rela_dyn_table.Goals as goal

pub returns : goal.returns
returns c = λ r named filled copied.
    let names : List ℕ = c.args.numbers.now in
    let entries : List (ℕ × ℕ) = c.in_ok-addresses.addresses.entries in
    let finds : FindsCopies entries c.args.place.now.pieces = subst (FindsCopies entries) c.as_slice.ensures c.in_ok-addresses.ensures in
    let copies : List ℕ = flat_map (λ (n : ℕ). copy_entry_at names (or_zero (copy_of entries n)) n) c.args.copies.now in
    IfOk-weaker c.from_vec.result (λ b. b ≡ c.put_copies.new.out.items) (λ b. b ≡ rela_dyn_bytes r c.args.place.now)
    (λ b made. made
    ∙ c.in_ok-put_copies.ensures
    ∙ ap (λ (l : List ℕ). l ++ copies) (
    c.in_ok-put_slots.ensures
    ∙ ap (λ (l : List ℕ). l ++ flat_map (slot_entry_bytes names c.section_start-got.result) c.args.fills.now) c.new-out.ensures.items
    ∙ ap (λ (got : ℕ). flat_map (slot_entry_bytes names got) c.args.fills.now) c.section_start-got.ensures
    )
    ∙ starts_are r c.args.place.now names c.args.fills.now c.args.copies.now entries finds named filled copied)
    c.from_vec.ensures
