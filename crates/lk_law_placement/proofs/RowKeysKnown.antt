-- The rows of a full placement are those of sections that kept pieces go to and of tables that the link
-- makes, and of no others.
use Rattle.std.specs.Prelude.{◌≡◌, ℕ, Bool, true, false, IsTrue, List, [], ◌∷◌, ◌++◌, ◌==◌, ◌||◌, not, find, filter, flat_map, is_some, map, option_map, refl}
use Rattle.std.specs.List.{AllByRecursion, list_any, range_with_len}
use Rattle.std.proofs.Common.{subst, ◌∙◌}
use Rattle.std.proofs.lemmas.Bool.{both_ways, or_left, or_right}
use Rattle.std.proofs.lemmas.List.{append_assoc}
use Rattle.std.proofs.lemmas.List.Folds.{list_any-append}
use Rattle.lk_model.specs.SectionKeys.{same_key, is_table}
use Rattle.lk_model.specs.SectionOrder.{section_rank, in_order, piece_keys, slots_of, existing_keys, section_keys, table_sizes}
use Rattle.lk_model.specs.FullPlace.{full_place, size_among, table_size}
use Rattle.lk_model.specs.Lawful.{is_no_strange_table}
use Rattle.lk_model.specs.Views.{KeptPiece, Resolved}
use Rattle.lk_model.specs.declared.layouts.SectionKey.{SectionKey}
use Rattle.lk_model.specs.declared.layouts.SectionRow.{SectionRow}
use Rattle.lk_model.proofs.InOrder.{full_keys}
use Rattle.lk_model.proofs.KeysFound.{same_key_self}
use Rattle.lk_model.proofs.Rising.{all_map, all_filter, all_of_map}
use Rattle.lk_law_placement.proofs.DistinctLists.{all_joined, all_mapped}
use Rattle.lk_law_placement.proofs.RowKeysDistinct.{piece_keys_keep}

-- what holds of all keys holds of them in their order
ranks_keep : (P : SectionKey → Type 0) (keys : List SectionKey) (ranks : List ℕ) → AllByRecursion P keys → AllByRecursion P (flat_map (λ rank. filter (λ key. section_rank key == rank) keys) ranks)
ranks_keep P keys [] all = tt
ranks_keep P keys (rank ∷ ranks) all =
    all_joined P (filter (λ key. section_rank key == rank) keys) (flat_map (λ rank. filter (λ key. section_rank key == rank) keys) ranks)
    (all_filter P (λ key. section_rank key == rank) keys all)
    (ranks_keep P keys ranks all)

pub in_order_keeps : (P : SectionKey → Type 0) (keys : List SectionKey) → AllByRecursion P keys → AllByRecursion P (in_order keys)
unfolding in_order
in_order_keeps P keys all = ranks_keep P keys (range_with_len 0 31) all

-- a kept piece goes to the section, or it is a table that the link makes
abbrev IsKnown : Resolved → SectionKey → Type 0
IsKnown r key = (is_some (table_size r (slots_of r.needs) key) || list_any (λ (piece : KeptPiece). same_key piece.key key) r.kept) ≡ true

-- each kept piece has its own section among those of all
pieces_own : (before pieces : List KeptPiece) → AllByRecursion (λ (piece : KeptPiece). list_any (λ (other : KeptPiece). same_key other.key piece.key) (before ++ pieces) ≡ true) pieces
pieces_own before [] = tt
pieces_own before (piece ∷ pieces) = (
  list_any-append (λ (other : KeptPiece). same_key other.key piece.key) before (piece ∷ pieces)
      ∙ or_right (list_any (λ (other : KeptPiece). same_key other.key piece.key) before) (list_any (λ (other : KeptPiece). same_key other.key piece.key) (piece ∷ pieces))
      (or_left (same_key piece.key piece.key) (list_any (λ (other : KeptPiece). same_key other.key piece.key) pieces) (same_key_self piece.key)),
  subst (λ (all : List KeptPiece). AllByRecursion (λ (p : KeptPiece). list_any (λ (other : KeptPiece). same_key other.key p.key) all ≡ true) pieces) (append_assoc before (piece ∷ []) pieces) (pieces_own (before ++ piece ∷ []) pieces),
)

-- what is found among items, where one passes
some_found : {A B : Type 0} (f : A → B) (p : A → Bool) (xs : List A) → list_any p xs ≡ true → is_some (option_map f (find p xs)) ≡ true
some_found f p [] has = absurd (both_ways false refl has)
some_found {A} f p (x ∷ xs) has = go (p x) refl (some_found f p xs)
  where
    go : (b : Bool) → p x ≡ b → (list_any p xs ≡ true → is_some (option_map f (find p xs)) ≡ true) → is_some (option_map f (find p (x ∷ xs))) ≡ true
    go true e rest = rw e refl
    go false e rest = rw e (rest (rw e at has))

-- each table has its size
tables_own : (before tables : List (SectionKey × ℕ)) → AllByRecursion (λ (table : SectionKey × ℕ). is_some (size_among (before ++ tables) table.0) ≡ true) tables
tables_own before [] = tt
tables_own before (table ∷ tables) = (
  some_found (λ (row : SectionKey × ℕ). row.1) (λ (row : SectionKey × ℕ). same_key table.0 row.0) (before ++ table ∷ tables)
      (list_any-append (λ (row : SectionKey × ℕ). same_key table.0 row.0) before (table ∷ tables)
      ∙ or_right (list_any (λ (row : SectionKey × ℕ). same_key table.0 row.0) before) (list_any (λ (row : SectionKey × ℕ). same_key table.0 row.0) (table ∷ tables))
      (or_left (same_key table.0 table.0) (list_any (λ (row : SectionKey × ℕ). same_key table.0 row.0) tables) (same_key_self table.0))),
  subst (λ (all : List (SectionKey × ℕ)). AllByRecursion (λ (t : SectionKey × ℕ). is_some (size_among all t.0) ≡ true) tables) (append_assoc before (table ∷ []) tables) (tables_own (before ++ table ∷ []) tables),
)

-- the sections that exist are known
existing_known : (r : Resolved) → AllByRecursion (IsKnown r) (existing_keys r)
existing_known r =
    let tables = table_sizes r (slots_of r.needs) in
    all_joined (IsKnown r) (piece_keys r) (map (λ (row : SectionKey × ℕ). row.0) tables)
    (piece_keys_keep (IsKnown r) r
    (all_map
    (λ (piece : KeptPiece) own. or_right (is_some (table_size r (slots_of r.needs) piece.key)) (list_any (λ (other : KeptPiece). same_key other.key piece.key) r.kept) own)
    r.kept (pieces_own [] r.kept)))
    (all_mapped (λ (row : SectionKey × ℕ). row.0) (IsKnown r) tables
    (all_map
    (λ (table : SectionKey × ℕ) own. or_left (is_some (table_size r (slots_of r.needs) table.0)) (list_any (λ (piece : KeptPiece). same_key piece.key table.0) r.kept) own)
    tables (tables_own [] tables)))

rows_known : (r : Resolved) → AllByRecursion (λ (row : SectionRow). IsKnown r row.key) (full_place r).sections
unfolding section_keys
rows_known r =
    all_of_map (λ (row : SectionRow). row.key) (IsKnown r) (full_place r).sections
    (rw (full_keys r) (in_order_keeps (IsKnown r) (existing_keys r) (existing_known r)))

or_before : (a b c : Bool) → (b || c) ≡ true → (a || b || c) ≡ true
or_before true b c either = refl
or_before false b c either = either

-- a full placement has no other table
pub full_no_other_tables : (r : Resolved) → AllByRecursion (λ (row : SectionRow). IsTrue (is_no_strange_table r (full_place r).slots row)) (full_place r).sections
unfolding full_place
full_no_other_tables r =
    all_map
    (λ (row : SectionRow) known. or_before (not (is_table row.key)) (is_some (table_size r (slots_of r.needs) row.key)) (list_any (λ (piece : KeptPiece). same_key piece.key row.key) r.kept) known)
    (full_place r).sections (rows_known r)
