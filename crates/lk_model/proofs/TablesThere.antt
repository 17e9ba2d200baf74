-- The tables of a link have rows in a full placement.
use Rattle.std.specs.Prelude.{◌≡◌, ℕ, Bool, true, false, IsTrue, List, [], ◌∷◌, ◌++◌, ◌||◌, map, refl}
use Rattle.std.specs.List.{AllByRecursion, list_any}
use Rattle.std.proofs.Common.{subst}
use Rattle.std.proofs.lemmas.List.{append_assoc}
use Rattle.lk_model.specs.SectionKeys.{same_key}
use Rattle.lk_model.specs.SectionOrder.{each_once, slots_of, table_sizes, existing_keys, section_keys}
use Rattle.lk_model.specs.FullPlace.{full_place}
use Rattle.lk_model.specs.Views.{KeptPiece, Resolved}
use Rattle.lk_model.specs.declared.layouts.SectionKey.{SectionKey}
use Rattle.lk_model.specs.declared.layouts.SectionRow.{SectionRow}
use Rattle.lk_model.proofs.InOrder.{full_keys}
use Rattle.lk_model.proofs.KeysFound.{same_key_self, same_key_reports, any_right, in_order_has}
use Rattle.lk_model.proofs.Rising.{all_map}

-- a table and its size
abbrev Table : Type 0
Table = SectionKey × ℕ

-- each item's key is among the keys of a list that ends with the items
among_own :
    (before : List SectionKey) (tables : List Table)
    → AllByRecursion (λ (table : Table). list_any (same_key table.0) (before ++ map (λ (t : Table). t.0) tables) ≡ true) tables
among_own before [] = tt
among_own before (table ∷ tables) = (
  any_right (same_key table.0) before (table.0 ∷ map (λ (t : Table). t.0) tables) (rw (same_key_self table.0) refl),
  subst (λ (keys : List SectionKey). AllByRecursion (λ (t : Table). list_any (same_key t.0) keys ≡ true) tables) (append_assoc before (table.0 ∷ []) (map (λ (t : Table). t.0) tables)) (among_own (before ++ table.0 ∷ []) tables),
)

-- a key among the keys of rows is that of a row
row_has : (key : SectionKey) (rows : List SectionRow) → list_any (same_key key) (map (λ (row : SectionRow). row.key) rows) ≡ true → list_any (λ (row : SectionRow). same_key row.key key) rows ≡ true
row_has key [] has = has
row_has key (row ∷ rows) has = go (same_key key row.key) refl (row_has key rows)
  where
    or_true : (b : Bool) {c : Bool} → c ≡ true → (b || c) ≡ true
    or_true true e = refl
    or_true false e = e

    go :
        (b : Bool)
        → same_key key row.key ≡ b
        → (list_any (same_key key) (map (λ (r : SectionRow). r.key) rows) ≡ true → list_any (λ (r : SectionRow). same_key r.key key) rows ≡ true)
        → list_any (λ (r : SectionRow). same_key r.key key) (row ∷ rows) ≡ true
    go true e rest =
        let back : same_key row.key key ≡ true = rw (same_key_reports key row.key e) (same_key_self row.key) in
        rw back refl
    go false e rest = or_true (same_key row.key key) (rest (rw e at has))

-- the tables are there
pub full_tables :
    (r : Resolved)
    → AllByRecursion (λ (table : Table). IsTrue (list_any (λ (row : SectionRow). same_key row.key table.0) (full_place r).sections)) (table_sizes r (slots_of r.needs))
unfolding section_keys
full_tables r =
    all_map
    (λ (table : Table) own. row_has table.0 (full_place r).sections (rw (full_keys r) (in_order_has table.0 (existing_keys r) own)))
    (table_sizes r (slots_of r.needs))
    (among_own (each_once (map (λ (piece : KeptPiece). piece.key) r.kept)) (table_sizes r (slots_of r.needs)))
