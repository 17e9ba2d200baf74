-- The relocation type that fills a slot, by the table of names; and the slots that are filled, one after another.
use Rattle.std.proofs.Common.{◌≡◌, refl, sym, ap, ◌∙◌, ℕ, zero, suc, ◌+◌, add-one, Bool, List, [], ◌∷◌, ◌++◌, append_assoc, drop, Option, None, Some, option_map, option_and_then, slice_get}
use Rattle.std.specs.List.{cons_option}
use Rattle.lk_model.specs.declared.layouts.GotKey.{GotKey}
use Rattle.lk_model.specs.declared.summaries.Winner.{Winner}
use Rattle.lk_model.specs.DynamicSlots.{SlotFill as Fill, winner_fill}
use Rattle.lk_symtab.specs.NameRows.{NameRow, row_winner}
use Rattle.lk_dyn_sizes.specs.Fills.{fills_from, row_fill, slot_fill_in}

-- a row of the table, by its winner
pub fill_reported : (thread copied : Bool) (o : Option NameRow) (w : Winner) → option_map row_winner o ≡ Some w → winner_fill thread copied w ≡ option_and_then (row_fill thread copied) o
fill_reported thread copied None w e = absurd (cc)
fill_reported thread copied (Some row) w e =
    let wins : row_winner row ≡ w = cc in
    ap (winner_fill thread copied) (sym wins)

-- the next slot
one_or_none : {A : Type 0} (o : Option A) (rest : List A) → cons_option o rest ≡ cons_option o [] ++ rest
one_or_none None rest = refl
one_or_none (Some x) rest = refl

next_slot : (rows : List NameRow) (copied : List ℕ) (slots : List (Option GotKey)) (key : Option GotKey) (m n : ℕ) → slice_get slots n ≡ Some key
    → fills_from rows copied m (drop n slots) ≡ cons_option (slot_fill_in rows copied (m, key)) [] ++ fills_from rows copied (m + 1) (drop (suc n) slots)
next_slot rows copied [] key m n at = absurd (cc)
next_slot rows copied (k ∷ ks) key m zero at =
    let same : k ≡ key = cc in
    ap (λ x. cons_option (slot_fill_in rows copied (m, x)) (fills_from rows copied (m + 1) ks)) same ∙ one_or_none (slot_fill_in rows copied (m, key)) (fills_from rows copied (m + 1) ks)
next_slot rows copied (k ∷ ks) key m (suc n) at = next_slot rows copied ks key m n at

pub slot_noted : (rows : List NameRow) (copied : List ℕ) (slots : List (Option GotKey)) (key : Option GotKey) (n : ℕ) (fills new whole : List Fill) → slice_get slots n ≡ Some key → new ≡ fills ++ cons_option (slot_fill_in rows copied (n, key)) []
    → fills ++ fills_from rows copied n (drop n slots) ≡ whole → new ++ fills_from rows copied (n + 1) (drop (n + 1) slots) ≡ whole
slot_noted rows copied slots key n fills new whole at noted h =
    ap (λ l. l ++ fills_from rows copied (n + 1) (drop (n + 1) slots)) noted
    ∙ append_assoc fills (cons_option (slot_fill_in rows copied (n, key)) []) (fills_from rows copied (n + 1) (drop (n + 1) slots))
    ∙ ap (λ m. fills ++ (cons_option (slot_fill_in rows copied (n, key)) [] ++ fills_from rows copied (n + 1) (drop m slots))) (add-one n)
    ∙ ap (λ l. fills ++ l) (sym (next_slot rows copied slots key n n at))
    ∙ h
