-- What is known of the row of a full placement that no table has: its room and its alignment are those of
-- the pieces that go to it, and its address is a multiple of its alignment.
use Rattle.std.specs.Prelude.{◌≡◌, ℕ, Bool, true, false, List, [], ◌∷◌, ◌++◌, Option, Some, None, drop, if◌then◌else◌, map, refl}
use Rattle.std.specs.List.{AllByRecursion, list_any, slice_get}
use Rattle.std.proofs.Common.{sym, ap, ◌∙◌}
use Rattle.std.proofs.lemmas.Bool.{both_ways, or_parts}
use Rattle.std.proofs.lemmas.List.Elements.{filter-append}
use Rattle.std.proofs.lemmas.List.Folds.{list_any-append}
use Rattle.lk_model.specs.DynamicSizes.{dynamic_table_sizes}
use Rattle.lk_model.specs.SectionKeys.{same_key, is_patched, is_table, got_key, got_plt_key, table_keys, reserved_of, eh_frame}
use Rattle.lk_model.specs.SectionOrder.{slots_of, table_sizes}
use Rattle.lk_model.specs.FullPlace.{extent_of, extent_with, full_place, pieces_extent, pieces_in, size_among}
use Rattle.lk_model.specs.Lawful.{extent_of_row}
use Rattle.lk_model.specs.Views.{KeptPiece, Resolved}
use Rattle.lk_model.specs.declared.layouts.SectionKey.{SectionKey}
use Rattle.lk_model.specs.declared.layouts.SectionRow.{SectionRow}
use Rattle.lk_model.specs.declared.layouts.SlotTable.{SlotTable}
use Rattle.lk_model.proofs.KeysFound.{same_key_reports}
use Rattle.lk_model.proofs.RowsReported.{full_rows_reported}
use Rattle.lk_law_placement.specs.SoundPieces.{SoundPieces}
use Rattle.lk_law_placement.proofs.PiecesAddresses.{OnMultiple, full_on_multiples}
use Rattle.lk_law_placement.proofs.PiecesLists.{all_numbered_one}

-- a table's key and size
abbrev Table : Type 0
Table = SectionKey × ℕ

-- a key that is none of the tables' has no size among them
none_found : (key : SectionKey) (tables : List Table) → list_any (same_key key) (map (λ (table : Table). table.0) tables) ≡ false → size_among tables key ≡ None
none_found key [] none = refl
none_found key (table ∷ tables) none =
    let parts = or_parts (same_key key table.0) (list_any (same_key key) (map (λ (t : Table). t.0) tables)) none in
    rw (parts.0) (none_found key tables parts.1)

-- the keys of the tables that a link makes
made_where :
    (r : Resolved) (slots : SlotTable) (dynamic : Bool)
    → r.options.dynamic ≡ dynamic
    → map (λ (table : Table). table.0) (table_sizes r slots) ≡ (if dynamic then table_keys else got_key ∷ got_plt_key ∷ [])
unfolding table_sizes dynamic_table_sizes
made_where r slots true e = rw e refl
made_where r slots false e = rw e refl

-- a section that is no table is none of them
none_made : (r : Resolved) (slots : SlotTable) (key : SectionKey) → is_table key ≡ false → list_any (same_key key) (map (λ (table : Table). table.0) (table_sizes r slots)) ≡ false
none_made r slots key none = go r.options.dynamic refl
  where
    go : (b : Bool) → r.options.dynamic ≡ b → list_any (same_key key) (map (λ (table : Table). table.0) (table_sizes r slots)) ≡ false
    go true e = ap (list_any (same_key key)) (made_where r slots true e) ∙ none
    go false e =
        ap (list_any (same_key key)) (made_where r slots false e)
        ∙ (or_parts (list_any (same_key key) (got_key ∷ got_plt_key ∷ [])) (list_any (same_key key) (drop 2 table_keys))
        (sym (list_any-append (same_key key) (got_key ∷ got_plt_key ∷ []) (drop 2 table_keys)) ∙ none)).0

-- the extent of a section that is no table is that of its pieces
extent_of_pieces : (r : Resolved) (slots : SlotTable) (key : SectionKey) → is_table key ≡ false → extent_of r slots key ≡ pieces_extent (is_patched key) r.options.patch key (pieces_in key r.kept)
unfolding extent_of
extent_of_pieces r slots key none =
    ap (λ (size : Option ℕ). extent_with size r.options.patch key (pieces_in key r.kept)) (none_found key (table_sizes r slots) (none_made r slots key none))

-- a row that no table has, of the pieces that go to it
pub record IsOfPieces (r : Resolved) (row : SectionRow) : Type 0 where
  pub reported : extent_of_row row ≡ pieces_extent (is_patched row.key) r.options.patch row.key (pieces_in row.key r.kept)
  pub on_multiple : OnMultiple row

-- each row of a full placement that no table has is one
pub row_of_pieces :
    (r : Resolved) (n : ℕ) (row : SectionRow)
    → SoundPieces r
    → slice_get (full_place r).sections n ≡ Some row
    → is_table row.key ≡ false
    → IsOfPieces r row
row_of_pieces r n row sound there none = record {
  reported =
      all_numbered_one (λ (w : SectionRow). extent_of_row w ≡ extent_of r (slots_of r.needs) w.key) (full_place r).sections n row there (full_rows_reported r)
      ∙ extent_of_pieces r (slots_of r.needs) row.key none;
  on_multiple = all_numbered_one OnMultiple (full_place r).sections n row there (full_on_multiples r sound);
}

-- the pieces of a section, where one of them is among all
pub split_in :
    (key : SectionKey) (all earlier : List KeptPiece) (piece : KeptPiece) (more : List KeptPiece)
    → all ≡ earlier ++ piece ∷ more
    → same_key piece.key key ≡ true
    → pieces_in key all ≡ pieces_in key earlier ++ piece ∷ pieces_in key more
split_in key all earlier piece more split same =
    ap (pieces_in key) split
    ∙ (filter-append (λ (p : KeptPiece). same_key p.key key) earlier (piece ∷ more)
    ∙ ap (λ xs. pieces_in key earlier ++ xs) (rw same refl))

-- no table's section is patched
none_patched : (key : SectionKey) (keys : List SectionKey) → AllByRecursion (λ k. is_patched k ≡ false) keys → list_any (same_key key) keys ≡ true → is_patched key ≡ false
none_patched key [] none there = absurd (both_ways false refl there)
none_patched key (k ∷ keys) none there = go (same_key key k) refl (none_patched key keys none.1)
  where
    go : (b : Bool) → same_key key k ≡ b → (list_any (same_key key) keys ≡ true → is_patched key ≡ false) → is_patched key ≡ false
    go true e rest = rw (same_key_reports key k e) (none.0)
    go false e rest = rest (rw e at there)

-- tables are not patched
tables_unpatched : AllByRecursion (λ k. is_patched k ≡ false) table_keys
unfolding is_patched
tables_unpatched = (refl, (refl, (refl, (refl, (refl, (refl, (refl, (refl, (refl, (refl, tt))))))))))

-- so a patched section is no table
pub patched_is_no_table : (key : SectionKey) → is_patched key ≡ true → is_table key ≡ false
patched_is_no_table key patched = go (is_table key) refl
  where
    go : (b : Bool) → is_table key ≡ b → is_table key ≡ false
    go true e = absurd (both_ways (is_patched key) (none_patched key table_keys tables_unpatched e) patched)
    go false e = e

-- frames are in a patched section
frame_is_patched : is_patched eh_frame ≡ true
unfolding is_patched
frame_is_patched = refl

-- a section that is not patched reserves nothing
pub unpatched_reserves : (key : SectionKey) → is_patched key ≡ false → reserved_of key ≡ 0
unpatched_reserves key unpatched = go (same_key key eh_frame) refl
  where
    go : (b : Bool) → same_key key eh_frame ≡ b → reserved_of key ≡ 0
    go true e =
        let same : key ≡ eh_frame = same_key_reports key eh_frame e in
        let patched : is_patched key ≡ true = ap is_patched same ∙ frame_is_patched in
        absurd (both_ways (is_patched key) unpatched patched)
    go false e = rw e refl
