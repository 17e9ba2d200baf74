use Rattle.std.specs.Prelude.{◌≡◌, ◌+◌, ◌<◌, List, Option, Some, length, ℕ, refl}
use Rattle.std.specs.Vec.{vec_capacity, vec_len}
use Rattle.std.specs.declared.cmp.Reverse.{Reverse}
use Rattle.std.specs.BinaryHeap.{heap_items}
use Rattle.std.proofs.Common.{arith, rules, sym, ◌∙◌, ap, subst}
use Rattle.lk_model.specs.declared.layouts.GotKey.{GotKey}
use Rattle.lk_gotplt.specs.FreeSlots.{AreFree}
use Rattle.lk_gotplt.specs.SlotsGiven.{Given, lowest_free, with_slot}
use Rattle.lk_gotplt.proofs.SlotsFree.{lowest_given, lowest_is, lowest_within, none_free, taken_behind}
use Rattle.lk_gotplt.proofs.KeysPlaced.{key_behind_all, key_in_free}
use Rattle.lk_gotplt.proofs.slots.Slots.add_got.Goals as goal

pub index_mut-requires : goal.index_mut-requires
index_mut-requires c =
    let within = lowest_within (heap_items c.self.inside.free) (heap_items c.take_lowest.new.free) c.self.inside.got.items c.in-Some.slot c.self.invariant.0 c.in-Some.ensures.taken in
    search rules

pub overflow_cast-result : goal.overflow_cast-result
overflow_cast-result c =
    let within = lowest_within (heap_items c.self.inside.free) (heap_items c.take_lowest.new.free) c.self.inside.got.items c.in-Some.slot c.self.invariant.0 c.in-Some.ensures.taken in
    let few = rw (← c.self.view_is) at c.requires.few in
    omega arith

pub invariant_of-self : goal.invariant_of-self
invariant_of-self c =
    let fewer : length (heap_items c.self.inside.free) ≡ length (heap_items c.take_lowest.new.free) + 1 = search rules in (
      lowest_given (heap_items c.self.inside.free) (heap_items c.take_lowest.new.free) c.self.inside.got.items c.in-Some.slot c.args.key c.self.invariant.0 c.in-Some.ensures.taken fewer,
      c.take_lowest.ensures.queue,
      search rules,
    )

pub returns-in-Some-clause-number : goal.returns-in-Some-clause-number
returns-in-Some-clause-number c =
    let lowest = lowest_is (heap_items c.self.inside.free) (heap_items c.take_lowest.new.free) c.self.inside.got.items c.in-Some.slot c.self.invariant.0 c.in-Some.ensures.lowest c.in-Some.ensures.taken in
    sym lowest ∙ ap (λ (g : Given). lowest_free g.table) c.self.view_is

pub returns-in-Some-clause-table : goal.returns-in-Some-clause-table
returns-in-Some-clause-table c =
    let within = lowest_within (heap_items c.self.inside.free) (heap_items c.take_lowest.new.free) c.self.inside.got.items c.in-Some.slot c.self.invariant.0 c.in-Some.ensures.taken in
    let lowest = lowest_is (heap_items c.self.inside.free) (heap_items c.take_lowest.new.free) c.self.inside.got.items c.in-Some.slot c.self.invariant.0 c.in-Some.ensures.lowest c.in-Some.ensures.taken in
    ap (λ (got : List (Option GotKey)). record { got = got; plt = c.self.inside.plt.items }) (sym (key_in_free c.self.inside.got.items c.args.key c.in-Some.slot lowest within))
    ∙ ap (λ (g : Given). with_slot g.table c.args.key) c.self.view_is

pub invariant_of-self-in-None : goal.invariant_of-self-in-None
invariant_of-self-in-None c =
    let some = rw (← c.self.view_is) at c.requires.room in
    let fits = c.self.invariant.2.slots_fit in
    let room : vec_len c.self.inside.got < vec_capacity c.self.inside.got = omega arith in
    let pushed = rw (c.push-done.ensures.succeeds room) at c.push-done.ensures.items in
    let none = c.in-None.ensures.count in (
      subst
          (λ (got : List (Option GotKey)). AreFree (heap_items c.take_lowest.new.free) got)
          (sym pushed)
          (taken_behind (heap_items c.take_lowest.new.free) c.self.inside.got.items (Some c.args.key) refl (subst (λ (free : List (Reverse ℕ)). AreFree free c.self.inside.got.items) (sym none.1) c.self.invariant.0)),
      c.take_lowest.ensures.queue,
      search rules,
    )

pub returns-in-None-clause-number : goal.returns-in-None-clause-number
returns-in-None-clause-number c =
    let empty : length (heap_items c.self.inside.free) ≡ 0 = search rules in
    let behind = none_free (heap_items c.self.inside.free) c.self.inside.got.items c.self.invariant.0 empty in
    let count : c.len-slot.result ≡ length c.self.inside.got.items = search rules in
    count ∙ sym behind ∙ ap (λ (g : Given). lowest_free g.table) c.self.view_is

pub returns-in-None-clause-table : goal.returns-in-None-clause-table
returns-in-None-clause-table c =
    let empty : length (heap_items c.self.inside.free) ≡ 0 = search rules in
    let behind = none_free (heap_items c.self.inside.free) c.self.inside.got.items c.self.invariant.0 empty in
    let some = rw (← c.self.view_is) at c.requires.room in
    let fits = c.self.invariant.2.slots_fit in
    let room : vec_len c.self.inside.got < vec_capacity c.self.inside.got = omega arith in
    let pushed = rw (c.push-done.ensures.succeeds room) at c.push-done.ensures.items in
    ap (λ (got : List (Option GotKey)). record { got = got; plt = c.self.inside.plt.items }) (pushed ∙ sym (key_behind_all c.self.inside.got.items c.args.key behind))
    ∙ ap (λ (g : Given). with_slot g.table c.args.key) c.self.view_is
