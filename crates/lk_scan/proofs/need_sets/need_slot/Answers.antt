use Rattle.std.proofs.Common.{◌≡◌, refl, sym, ap, ◌∙◌, ◌==◌, ◌&&◌, Bool, true, false, cond, [], ◌∷◌, fold, map}
use Rattle.std.specs.Bool.{beq}
use Rattle.lk_model.specs.NeedsOf.{got_key_eq}
use Rattle.lk_model.specs.Numbered.{with_new}
use Rattle.lk_scan.specs.contracts.slots.SlotPartialEq.TheImpl as equality
use Rattle.lk_scan.specs.declared.slots.Slot.{Slot}
use Rattle.lk_scan.specs.declared.slots.Slot.TheVariants as slot
use Rattle.lk_scan.specs.ReferralNeeds.{key_of}
use Rattle.lk_scan.proofs.SlotKeys.{inserted, where_ok}
use Rattle.lk_scan.proofs.need_sets.need_slot.Goals as goal

together : (a b c : Bool) → (a && (b && c)) ≡ ((a && b) && c)
together true b c = refl
together false b c = refl

-- slots are equal where their keys are
same_keys : (a b : Slot) → (equality.eq-value).it a b ≡ got_key_eq (key_of a) (key_of b)
same_keys (slot.OfName n t) (slot.OfName m u) = refl
same_keys (slot.OfName n t) (slot.OfLocal j m u) = refl
same_keys (slot.OfLocal i n t) (slot.OfName m u) = refl
same_keys (slot.OfLocal i n t) (slot.OfLocal j m u) = together (i == j) (n == m) (beq t u)

pub returns-else-is_err : goal.returns-else-is_err
returns-else-is_err c =
    ap (map key_of) (where_ok c.insert.result (sym c.is_err.ensures.value ∙ c.if-is_err.false) c.insert.ensures.keys)
    ∙ inserted (equality.eq-value).it same_keys c.args.slots.now.keys c.args.slot
    ∙ ap (λ b. fold (with_new got_key_eq) (map key_of c.args.slots.now.keys) (cond b (key_of c.args.slot ∷ []) [])) (sym c.if-wanted.true)
