-- A row of a table has as many bytes as the table, where no kept piece goes to one.
use Rattle.std.specs.Prelude.{◌≡◌, ℕ, Bool, true, false, IsTrue, List, [], ◌∷◌, Option, Some, ◌+◌, ◌*◌, ◌==◌, ◌&&◌, ◌||◌, not, nat_le, flat_map, length, map, is_some, refl}
use Rattle.std.specs.List.{AllByRecursion, enumerate_from, list_any}
use Rattle.std.proofs.Common.{ap, arith, sym, ◌∙◌}
use Rattle.std.proofs.lemmas.Bool.{and_parts, both_ways, eqb-true, false_from_ne_true}
use Rattle.std.proofs.lemmas.List.{length-append}
use Rattle.std.proofs.lemmas.List.FromFn.{length-enumerate_from}
use Rattle.lk_elf.specs.Fields.{bytes_of}
use Rattle.lk_model.specs.DynamicSizes.{dynamic_table_sizes}
use Rattle.lk_model.specs.FullPlace.{size_among, table_size}
use Rattle.lk_model.specs.Lawful.{is_no_strange_table, size_of, size_with, table_sizes_at}
use Rattle.lk_model.specs.SectionKeys.{is_table, same_key}
use Rattle.lk_model.specs.SectionOrder.{dynamic_sizes_where, piece_keys, table_sizes, table_sizes_among}
use Rattle.lk_model.specs.Tables.{got_bytes, got_plt_bytes, jump_bytes, slot_bytes, table_of_key}
use Rattle.lk_model.specs.Views.{KeptPiece, Resolved}
use Rattle.lk_model.specs.declared.layouts.GotKey.{GotKey}
use Rattle.lk_model.specs.declared.layouts.Placement.{Placement}
use Rattle.lk_model.specs.declared.layouts.SectionKey.{SectionKey}
use Rattle.lk_model.specs.declared.layouts.SectionRow.{SectionRow}
use Rattle.lk_model.specs.declared.layouts.SlotTable.{SlotTable}
use Rattle.lk_model.proofs.DynamicLengths.{dynamic_lengths}
use Rattle.lk_model.proofs.KeysFound.{same_key_reports}
use Rattle.lk_model.proofs.Rising.{all_map}
use Rattle.lk_law_placement.proofs.DistinctLists.{none_of_all}

-- a table's key and size
abbrev Table : Type 0
Table = SectionKey × ℕ

abbrev pub keys_of : List Table → List SectionKey
keys_of tables = map (λ (table : Table). table.0) tables

-- ---- which rows are tables

-- a table is found among tables exactly where its key is
found_where : (tables : List Table) (key : SectionKey) → is_some (size_among tables key) ≡ list_any (same_key key) (keys_of tables)
found_where [] key = refl
found_where (table ∷ tables) key = go (same_key key table.0) refl (found_where tables key)
  where
    go : (b : Bool) → same_key key table.0 ≡ b → is_some (size_among tables key) ≡ list_any (same_key key) (keys_of tables) → is_some (size_among (table ∷ tables) key) ≡ list_any (same_key key) (keys_of (table ∷ tables))
    go true e rest = rw e refl
    go false e rest = rw e rest

-- the tables of a link are the same whatever sections there are
keys_alike : (xs ys : List SectionKey) (r : Resolved) (slots : SlotTable) → keys_of (table_sizes_among xs r slots) ≡ keys_of (table_sizes_among ys r slots)
unfolding dynamic_table_sizes
keys_alike xs ys r slots = go r.options.dynamic refl
  where
    go : (b : Bool) → r.options.dynamic ≡ b → keys_of (table_sizes_among xs r slots) ≡ keys_of (table_sizes_among ys r slots)
    go true e = rw e refl
    go false e = rw e refl

-- no kept piece goes to a table
abbrev pub NoPieceIn : List KeptPiece → Type 0
NoPieceIn kept = AllByRecursion (λ (piece : KeptPiece). is_table piece.key ≡ false) kept

not_there : (key : SectionKey) (piece : KeptPiece) → is_table key ≡ true → is_table piece.key ≡ false → same_key piece.key key ≡ false
not_there key piece table none = false_from_ne_true (same_key piece.key key) (λ e. both_ways (is_table key) (ap is_table (sym (same_key_reports piece.key key e)) ∙ none) table)

none_there : (key : SectionKey) (kept : List KeptPiece) → is_table key ≡ true → NoPieceIn kept → list_any (λ (piece : KeptPiece). same_key piece.key key) kept ≡ false
none_there key kept table none =
    none_of_all (λ (piece : KeptPiece). same_key piece.key key) kept (all_map {Q = λ (piece : KeptPiece). same_key piece.key key ≡ false} (λ piece no. not_there key piece table no) kept none)

reported_by : (a b c : Bool) → a ≡ true → c ≡ false → (not a || b || c) ≡ true → b ≡ true
reported_by true true c one other all = refl
reported_by true false c one other all = absurd (both_ways c other all)
reported_by false b c one other all = absurd (both_ways false refl one)

-- a row that is a table is one that the link makes
pub is_made :
    (r : Resolved) (place : Placement) (row : SectionRow)
    → NoPieceIn r.kept
    → is_table row.key ≡ true
    → IsTrue (is_no_strange_table r place.slots row)
    → list_any (same_key row.key) (keys_of (table_sizes_at r place)) ≡ true
unfolding table_sizes
is_made r place row none table known =
    let found : is_some (table_size r place.slots row.key) ≡ true =
    reported_by (is_table row.key) (is_some (table_size r place.slots row.key)) (list_any (λ (piece : KeptPiece). same_key piece.key row.key) r.kept) table (none_there row.key r.kept table none) known in
    ap (list_any (same_key row.key)) (keys_alike (map (λ (w : SectionRow). w.key) place.sections) (piece_keys r) r place.slots)
    ∙ (sym (found_where (table_sizes r place.slots) row.key) ∙ found)

-- ---- how many bytes they have

slot_length : (r : Resolved) (place : Placement) (slot : Option GotKey) → length (slot_bytes r place slot) ≡ 8
unfolding bytes_of
slot_length r place slot = refl

jump_length : (place : Placement) (entry : ℕ × ℕ) → length (jump_bytes place entry) ≡ 8
unfolding bytes_of
jump_length place (k, name) = refl

flat_words : {A : Type 0} (f : A → List ℕ) → ((x : A) → length (f x) ≡ 8) → (xs : List A) → length (flat_map f xs) ≡ 8 * length xs
flat_words f each [] = omega arith
flat_words f each (x ∷ xs) =
    let sum = length-append (f x) (flat_map f xs) in
    let here = each x in
    let rest = flat_words f each xs in
    omega (arith, sum, here, rest)

got_length : (r : Resolved) (place : Placement) → length (got_bytes r place) ≡ 8 * length place.slots.got
got_length r place = flat_words (slot_bytes r place) (slot_length r place) place.slots.got

got_plt_length : (place : Placement) → length (got_plt_bytes place) ≡ 8 * (3 + length place.slots.plt)
unfolding bytes_of
got_plt_length place =
    let jumps = flat_words (jump_bytes place) (jump_length place) (enumerate_from 0 place.slots.plt) in
    let count = length-enumerate_from 0 place.slots.plt in
    omega (arith, jumps, count)

-- the bytes of a table are as many as its size says
abbrev IsSized : Resolved → Placement → Table → Type 0
IsSized r place table = length (table_of_key r place table.0) ≡ table.1

tables_sized : (r : Resolved) (place : Placement) → AllByRecursion (IsSized r place) (table_sizes_at r place)
unfolding table_of_key dynamic_table_sizes
tables_sized r place = (got_length r place, (got_plt_length place, go r.options.dynamic refl))
  where
    go : (b : Bool) → r.options.dynamic ≡ b → AllByRecursion (IsSized r place) (dynamic_sizes_where r.options.dynamic r (map (λ (row : SectionRow). row.key) place.sections) place.slots)
    go true e = rw e (rw e at (dynamic_lengths r place))
    go false e = rw e tt

size_found : (r : Resolved) (place : Placement) (tables : List Table) (key : SectionKey) → AllByRecursion (IsSized r place) tables → list_any (same_key key) (keys_of tables) ≡ true → size_among tables key ≡ Some (length (table_of_key r place key))
size_found r place [] key all there = absurd (both_ways false refl there)
size_found r place (table ∷ tables) key all there = go (same_key key table.0) refl (size_found r place tables key all.1)
  where
    go : (b : Bool) → same_key key table.0 ≡ b → (list_any (same_key key) (keys_of tables) ≡ true → size_among tables key ≡ Some (length (table_of_key r place key))) → size_among (table ∷ tables) key ≡ Some (length (table_of_key r place key))
    go true e rest =
        let own : key ≡ table.0 = same_key_reports key table.0 e in
        rw e (ap Some (sym all.0) ∙ ap (λ k. Some (length (table_of_key r place k))) (sym own))
    go false e rest = rw e (rest (rw e at there))

-- a row of a table has as many bytes as the table
pub table_length :
    (r : Resolved) (place : Placement) (row : SectionRow)
    → NoPieceIn r.kept
    → is_table row.key ≡ true
    → IsTrue (is_no_strange_table r place.slots row)
    → IsTrue (row.size == size_of r place row && nat_le row.size row.room)
    → length (table_of_key r place row.key) ≡ row.size
table_length r place row none table known sized =
    let same : row.size ≡ size_of r place row = eqb-true row.size (size_of r place row) (and_parts (row.size == size_of r place row) (nat_le row.size row.room) sized).0 in
    let reported = ap (λ o. size_with o r row) (size_found r place (table_sizes_at r place) row.key (tables_sized r place) (is_made r place row none table known)) in
    sym (same ∙ reported)
