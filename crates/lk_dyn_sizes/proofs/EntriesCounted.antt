-- The entries of the dynamic section, by the table of names and the keys.
use Rattle.std.proofs.Common.{◌≡◌, refl, sym, ap, ◌+◌, Bool, true, false, cond, List, [], ◌∷◌, length, Option, None, Some, option_map}
use Rattle.std.specs.List.{list_any}
use Rattle.lk_model.specs.declared.layouts.SectionKey.{SectionKey}
use Rattle.lk_model.specs.declared.summaries.Winner.{Winner}
use Rattle.lk_model.specs.DynamicSizes.{array_count, fini_array_key, init_array_key, preinit_array_key}
use Rattle.lk_model.specs.SectionKeys.{same_key}
use Rattle.lk_model.specs.Winners.{is_in_object}
use Rattle.lk_resolve.specs.RowFaults.{is_some_in_object}
use Rattle.lk_symtab.specs.NameRows.{NameRow, row_winner}
use Rattle.lk_dyn_sizes.specs.EntryCounts.{count_where}

-- a row of the table, by its winner
pub in_object_reported : (o : Option NameRow) (w : Winner) → option_map row_winner o ≡ Some w → is_in_object w ≡ is_some_in_object o
in_object_reported None w e = absurd (cc)
in_object_reported (Some row) w e =
    let wins : row_winner row ≡ w = cc in
    ap is_in_object (sym wins)

-- the length of a list of up to three items, each of which is present or not
three : {A : Type 0} (x y z : A) (a b c : Bool) → length (cond a (x ∷ cond b (y ∷ cond c (z ∷ []) []) (cond c (z ∷ []) [])) (cond b (y ∷ cond c (z ∷ []) []) (cond c (z ∷ []) []))) ≡ count_where a + count_where b + count_where c
three x y z true true true = refl
three x y z true true false = refl
three x y z true false true = refl
three x y z true false false = refl
three x y z false true true = refl
three x y z false true false = refl
three x y z false false true = refl
three x y z false false false = refl

-- the arrays of functions
pub arrays_reported : (keys : List SectionKey) → count_where (list_any (same_key preinit_array_key) keys) + count_where (list_any (same_key init_array_key) keys) + count_where (list_any (same_key fini_array_key) keys) ≡ array_count keys
arrays_reported keys =
    sym (three preinit_array_key init_array_key fini_array_key (list_any (same_key preinit_array_key) keys) (list_any (same_key init_array_key) keys) (list_any (same_key fini_array_key) keys))
