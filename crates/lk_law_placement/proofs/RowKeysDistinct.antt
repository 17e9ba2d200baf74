-- The rows of a full placement are those of different sections.
use Rattle.std.specs.Prelude.{◌≡◌, ℕ, zero, suc, Bool, true, false, List, [], ◌∷◌, ◌+◌, ◌<◌, ◌==◌, if◌then◌else◌, drop, filter, flat_map, map, refl}
use Rattle.std.specs.List.{AllByRecursion, IsDistinct, list_any, range_with_len}
use Rattle.std.proofs.Common.{arith, sym, ap, ◌∙◌}
use Rattle.std.proofs.lemmas.Bool.{both_ways, eqb-true, false_from_ne_true, or_from, or_parts}
use Rattle.std.proofs.lemmas.List.Folds.{list_any-append}
use Rattle.lk_model.specs.SectionKeys.{same_key, is_table, table_keys, got_key, got_plt_key}
use Rattle.lk_model.specs.SectionOrder.{section_rank, in_order, piece_keys, slots_of, existing_keys, section_keys, table_sizes}
use Rattle.lk_model.specs.DynamicSizes.{dynamic_table_sizes}
use Rattle.lk_model.specs.FullPlace.{full_place}
use Rattle.lk_model.specs.Views.{KeptPiece, Resolved}
use Rattle.lk_model.specs.declared.layouts.SectionKey.{SectionKey}
use Rattle.lk_model.specs.declared.layouts.SectionRow.{SectionRow}
use Rattle.lk_model.specs.declared.layouts.SlotTable.{SlotTable}
use Rattle.lk_model.proofs.InOrder.{full_keys}
use Rattle.lk_model.proofs.KeysFound.{same_key_self, same_key_reports}
use Rattle.lk_model.proofs.Rising.{all_map, all_pass}
use Rattle.lk_law_placement.specs.SoundPieces.{SoundPiece, SoundPieces}
use Rattle.lk_law_placement.proofs.DistinctLists.{all_mapped, distinct_filtered, distinct_has_none, distinct_joined, distinct_keeps, distinct_tested, none_of_all}

-- keys that are not the same are not the same the other way round
pub key_apart : (a b : SectionKey) → same_key a b ≡ false → same_key b a ≡ false
key_apart a b apart =
    false_from_ne_true (same_key b a) (λ same. both_ways (same_key a b) apart (rw (same_key_reports b a same) (same_key_self a)))

-- ---- keys in their order

abbrev has_rank : ℕ → SectionKey → Bool
has_rank rank key = section_rank key == rank

-- a key of another rank is none of those of this rank
none_of_rank : (x : SectionKey) (rank : ℕ) (keys : List SectionKey) → (section_rank x ≡ rank → ⊥) → list_any (same_key x) (filter (has_rank rank) keys) ≡ false
none_of_rank x rank keys other =
    none_of_all (same_key x) (filter (has_rank rank) keys)
    (all_map
    (λ (y : SectionKey) at.
    false_from_ne_true (same_key x y) (λ same. other (ap section_rank (same_key_reports x y same) ∙ eqb-true (section_rank y) rank at)))
    (filter (has_rank rank) keys)
    (all_pass (has_rank rank) keys))

-- nor of those of later ranks
none_of_ranks :
    (x : SectionKey) (keys : List SectionKey) (i n : ℕ)
    → section_rank x < i
    → list_any (same_key x) (flat_map (λ rank. filter (has_rank rank) keys) (range_with_len i n)) ≡ false
none_of_ranks x keys i zero below = refl
none_of_ranks x keys i (suc n) below =
    list_any-append (same_key x) (filter (has_rank i) keys) (flat_map (λ rank. filter (has_rank rank) keys) (range_with_len (i + 1) n))
    ∙ or_from
    (list_any (same_key x) (filter (has_rank i) keys))
    (list_any (same_key x) (flat_map (λ rank. filter (has_rank rank) keys) (range_with_len (i + 1) n)))
    (none_of_rank x i keys (λ at. omega (arith, at, below)))
    (none_of_ranks x keys (i + 1) n (omega (arith, below)))

distinct_by_rank :
    (keys : List SectionKey) (i n : ℕ)
    → IsDistinct same_key keys
    → IsDistinct same_key (flat_map (λ rank. filter (has_rank rank) keys) (range_with_len i n))
unfolding IsDistinct
distinct_by_rank keys i zero once = tt
distinct_by_rank keys i (suc n) once =
    distinct_joined same_key (filter (has_rank i) keys) (flat_map (λ rank. filter (has_rank rank) keys) (range_with_len (i + 1) n))
    (distinct_filtered same_key (has_rank i) keys once)
    (distinct_by_rank keys (i + 1) n once)
    (all_map
    (λ (x : SectionKey) at. let rank : section_rank x ≡ i = eqb-true (section_rank x) i at in none_of_ranks x keys (i + 1) n (omega (arith, rank)))
    (filter (has_rank i) keys)
    (all_pass (has_rank i) keys))

-- different keys are so in their order
pub in_order_distinct : (keys : List SectionKey) → IsDistinct same_key keys → IsDistinct same_key (in_order keys)
unfolding in_order
in_order_distinct keys once = distinct_by_rank keys 0 31 once

-- ---- the keys that exist

-- the keys of the tables that a link makes
abbrev made_keys : Resolved → SlotTable → List SectionKey
made_keys r slots = map (λ (table : SectionKey × ℕ). table.0) (table_sizes r slots)

-- those of a dynamic link are the keys of all tables, those of another the first two of them
made_keys_where : (r : Resolved) (slots : SlotTable) (dynamic : Bool) → r.options.dynamic ≡ dynamic → made_keys r slots ≡ (if dynamic then table_keys else got_key ∷ got_plt_key ∷ [])
unfolding table_sizes dynamic_table_sizes
made_keys_where r slots true e = rw e refl
made_keys_where r slots false e = rw e refl

made_distinct : (r : Resolved) (slots : SlotTable) → IsDistinct same_key (made_keys r slots)
made_distinct r slots = go r.options.dynamic refl
  where
    go : (b : Bool) → r.options.dynamic ≡ b → IsDistinct same_key (made_keys r slots)
    go true e = rw (made_keys_where r slots true e) (distinct_tested same_key table_keys refl)
    go false e = rw (made_keys_where r slots false e) (distinct_tested same_key (got_key ∷ got_plt_key ∷ []) refl)

-- a key that is no table's is none of them
not_made : (r : Resolved) (slots : SlotTable) (key : SectionKey) → is_table key ≡ false → list_any (same_key key) (made_keys r slots) ≡ false
not_made r slots key none = go r.options.dynamic refl
  where
    go : (b : Bool) → r.options.dynamic ≡ b → list_any (same_key key) (made_keys r slots) ≡ false
    go true e = ap (list_any (same_key key)) (made_keys_where r slots true e) ∙ none
    go false e =
        ap (list_any (same_key key)) (made_keys_where r slots false e)
        ∙ (or_parts (list_any (same_key key) (got_key ∷ got_plt_key ∷ [])) (list_any (same_key key) (drop 2 table_keys))
        (sym (list_any-append (same_key key) (got_key ∷ got_plt_key ∷ []) (drop 2 table_keys)) ∙ none)).0

-- what holds of the keys of all kept pieces holds of the keys that they go to
pub piece_keys_keep : (P : SectionKey → Type 0) (r : Resolved) → AllByRecursion (λ (piece : KeptPiece). P piece.key) r.kept → AllByRecursion P (piece_keys r)
piece_keys_keep P r all =
    distinct_keeps P same_key (map (λ (piece : KeptPiece). piece.key) r.kept) (all_mapped (λ (piece : KeptPiece). piece.key) P r.kept all)

-- the sections that exist are different ones
existing_distinct : (r : Resolved) → SoundPieces r → IsDistinct same_key (existing_keys r)
existing_distinct r sound =
    distinct_joined same_key (piece_keys r) (made_keys r (slots_of r.needs))
    (distinct_has_none same_key key_apart (map (λ (piece : KeptPiece). piece.key) r.kept))
    (made_distinct r (slots_of r.needs))
    (piece_keys_keep (λ key. list_any (same_key key) (made_keys r (slots_of r.needs)) ≡ false) r
    (all_map (λ (piece : KeptPiece) (s : SoundPiece piece). not_made r (slots_of r.needs) piece.key s.no_table) r.kept sound))

-- the rows of a full placement are those of different sections
pub full_distinct : (r : Resolved) → SoundPieces r → IsDistinct same_key (map (λ (row : SectionRow). row.key) (full_place r).sections)
unfolding section_keys
full_distinct r sound = rw (full_keys r) (in_order_distinct (existing_keys r) (existing_distinct r sound))
