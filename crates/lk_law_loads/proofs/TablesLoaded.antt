-- The tables of a dynamic link in memory: each is loaded from its section's address on.
use Rattle.std.specs.Prelude.{◌≡◌, ℕ, zero, suc, Bool, true, false, IsTrue, List, [], ◌∷◌, ◌++◌, Option, Some, ◌+◌, ◌-◌, ◌^◌, ◌<◌, ◌≤◌, ◌==◌, ◌&&◌, filter, filter_map, find, flat_map, is_some, length, map, nat_le, option_map, slice_index, take, zip, refl}
use Rattle.std.specs.Bool.{then_some}
use Rattle.std.specs.List.{AllByRecursion, enumerate_from, list_all, list_any, range_with_len, slice_get}
use Rattle.std.proofs.Common.{ap, arith, get_or-take, subst, sym, ◌∙◌}
use Rattle.std.proofs.lemmas.Bool.{both_ways}
use Rattle.std.proofs.lemmas.List.{length-take-le}
use Rattle.lk_model.specs.DynamicSizes.{dynamic_table_sizes}
use Rattle.lk_model.specs.FileHeader.{exec_stack_of, header_bytes}
use Rattle.lk_model.specs.FullPlace.{load_base, tail_start}
use Rattle.lk_model.specs.Holes.{holes_of}
use Rattle.lk_model.specs.Images.{end_stretches, hole_stretch, is_in_row, piece_stretch, row_stretches, seal, seal_offset, stretch, stretches_with, table_stretches, part_stretch}
use Rattle.lk_model.specs.Tail.{Part, headers_offset, parts_from, section_headers}
use Rattle.lk_elf.specs.Records.{shdr_bytes}
use Rattle.lk_model.specs.Lawful.{Lawful, size_of}
use Rattle.lk_model.specs.Loading.{LoadedByte, headers_in, loaded}
use Rattle.lk_model.specs.Loads.{all_of, byte_in_memory, bytes_in_memory}
use Rattle.lk_model.specs.SectionKeys.{in_file, is_alloc, is_table, same_key, table_keys}
use Rattle.lk_model.specs.SectionOrder.{table_sizes}
use Rattle.lk_model.specs.Segments.{program_headers}
use Rattle.lk_model.specs.Stretches.{AllAreAt, IsAt, IsLaidOut, Stretch}
use Rattle.lk_model.specs.Tables.{table_of_key}
use Rattle.lk_model.specs.Views.{Resolved}
use Rattle.lk_model.specs.declared.layouts.Class.{Class}
use Rattle.lk_model.specs.declared.layouts.Class.TheVariants.{R, X, W, WX, Tdata, Tbss, Bss, N}
use Rattle.lk_model.specs.declared.layouts.Placement.{Placement}
use Rattle.lk_model.specs.declared.layouts.SectionKey.{SectionKey}
use Rattle.lk_model.specs.declared.layouts.SectionRow.{SectionRow}
use Rattle.lk_model.specs.declared.layouts.SlotTable.{SlotTable}
use Rattle.lk_model.proofs.KeysFound.{same_key_reports}
use Rattle.lk_law_placement.proofs.DistinctLists.{all_mapped}
use Rattle.lk_law_loading.specs.Loadable.{Loadable}
use Rattle.lk_law_loading.proofs.BytesLoaded.{byte_with, first_loaded, second_loaded, third_loaded}
use Rattle.lk_law_loading.proofs.HeaderNumbers.{RowFits, row_fits}
use Rattle.lk_law_loading.proofs.PiecesAreAt.{byte_of_stretch}
use Rattle.lk_law_loading.proofs.PiecesLoaded.{headers_are_read}
use Rattle.lk_law_loading.proofs.RowsOfPlace.{IsRow, of_row, row_in_segment, row_is_at, row_size}
use Rattle.lk_law_writes.proofs.TableLengths.{NoPieceIn, table_length}

-- ---- bytes in memory

module _ {X : Type 0} where
  all_next : (x : X) (xs : List (Option X)) → all_of (Some x ∷ xs) ≡ option_map (λ rest. x ∷ rest) (all_of xs)
  all_next x xs = go (list_all is_some xs)
    where
      go : (b : Bool) → then_some b (x ∷ filter_map (λ o. o) xs) ≡ option_map (λ rest. x ∷ rest) (then_some b (filter_map (λ o. o) xs))
      go true = refl
      go false = refl

-- bytes that are loaded one by one are read together
all_read :
    (memory : ℕ → Option ℕ) (a : ℕ) (bytes : List ℕ)
    → ((k : ℕ) → k < length bytes → memory (a + k) ≡ Some (slice_index bytes k))
    → bytes_in_memory memory a (length bytes) ≡ Some bytes
all_read memory a [] each = refl
all_read memory a (b ∷ bs) each =
    let same : a + 0 ≡ a = omega arith in
    let first : memory a ≡ Some b = ap memory (sym same) ∙ each 0 (omega arith) in
    let rest = all_read memory (a + 1) bs (λ k inside. let next : a + 1 + k ≡ a + suc k = omega arith in ap memory next ∙ each (suc k) (omega (arith, inside))) in
    ap (λ o. all_of (o ∷ map memory (range_with_len (a + 1) (length bs)))) first
    ∙ (all_next b (map memory (range_with_len (a + 1) (length bs)))
    ∙ ap (option_map (λ xs. b ∷ xs)) rest)

-- the bytes of a table are loaded from an address on
abbrev pub IsInMemory : (ℕ → Option ℕ) → ℕ → List ℕ → Type 0
IsInMemory memory a bytes = (k : ℕ) → k < length bytes → memory (a + k) ≡ Some (slice_index bytes k)

pub whole_read : (memory : ℕ → Option ℕ) (a size : ℕ) (bytes : List ℕ) → IsInMemory memory a bytes → size ≡ length bytes → bytes_in_memory memory a size ≡ Some bytes
whole_read memory a size bytes each same = ap (bytes_in_memory memory a) same ∙ all_read memory a bytes each

pub front_read : (memory : ℕ → Option ℕ) (a n : ℕ) (bytes : List ℕ) → IsInMemory memory a bytes → n ≤ length bytes → bytes_in_memory memory a n ≡ Some (take n bytes)
front_read memory a n bytes each most =
    let long : length (take n bytes) ≡ n = length-take-le n bytes most in
    whole_read memory a n (take n bytes)
    (λ k inside. each k (omega (arith, inside, long, most)) ∙ ap Some (sym (get_or-take n bytes k 0 (omega (arith, inside, long)))))
    (sym long)

-- ---- the row of a table

-- the row of a key, by its number
pub record FoundRow (rows : List SectionRow) (key : SectionKey) : Type 0 where
  pub number : ℕ
  pub row : SectionRow
  pub there : slice_get rows number ≡ Some row
  pub found : find (λ (row : SectionRow). same_key row.key key) rows ≡ Some row
  pub own : row.key ≡ key

abbrev pub HasRow : List SectionRow → SectionKey → Type 0
HasRow rows key = IsTrue (list_any (λ (row : SectionRow). same_key row.key key) rows)

pub row_found : (rows : List SectionRow) (key : SectionKey) → HasRow rows key → FoundRow rows key
row_found [] key has = absurd (both_ways false refl has)
row_found (row ∷ rows) key has = go (same_key row.key key) refl (row_found rows key)
  where
    go : (b : Bool) → same_key row.key key ≡ b → (HasRow rows key → FoundRow rows key) → FoundRow (row ∷ rows) key
    go true e rest = record { number = 0; row = row; there = refl; found = rw e refl; own = same_key_reports row.key key e }
    go false e rest =
        let later = rest (rw e at has) in
        record { number = suc later.number; row = later.row; there = later.there; found = rw e later.found; own = later.own }

keys_made : (r : Resolved) (slots : SlotTable) → r.options.dynamic ≡ true → map (λ (table : SectionKey × ℕ). table.0) (table_sizes r slots) ≡ table_keys
unfolding table_sizes dynamic_table_sizes
keys_made r slots e = rw e refl

-- a dynamic link has a row for each table
pub tables_there : (r : Resolved) (place : Placement) → r.options.dynamic ≡ true → Lawful r place → AllByRecursion (HasRow place.sections) table_keys
tables_there r place dynamic l =
    subst (AllByRecursion (HasRow place.sections)) (keys_made r place.slots dynamic)
    (all_mapped (λ (table : SectionKey × ℕ). table.0) (HasRow place.sections) (table_sizes r place.slots) l.tables)

-- ---- a table in the image

are_at_front : (image : List ℕ) (xs ys : List Stretch) → AllAreAt image (xs ++ ys) → AllAreAt image xs
are_at_front image [] ys all = tt
are_at_front image (x ∷ xs) ys all = (all.0, are_at_front image xs ys all.1)

are_at_back : (image : List ℕ) (xs ys : List Stretch) → AllAreAt image (xs ++ ys) → AllAreAt image ys
are_at_back image [] ys all = all
are_at_back image (x ∷ xs) ys all = are_at_back image xs ys all.1

-- the stretches of a row by its number
row_at :
    (f : ℕ × SectionRow → List Stretch) (image : List ℕ) (i : ℕ) (rows : List SectionRow) (n : ℕ) (row : SectionRow)
    → slice_get rows n ≡ Some row
    → AllAreAt image (flat_map f (enumerate_from i rows))
    → AllAreAt image (f (i + n, row))
row_at f image i [] n row there all = absurd (cc)
row_at f image i (x ∷ xs) zero row there all =
    let same : x ≡ row = cc in
    let number : i ≡ i + 0 = omega arith in
    subst (λ (k : ℕ). AllAreAt image (f (k, row))) number
    (subst (λ y. AllAreAt image (f (i, y))) same (are_at_front image (f (i, x)) (flat_map f (enumerate_from (i + 1) xs)) all))
row_at f image i (x ∷ xs) (suc n) row there all =
    let number : i + 1 + n ≡ i + suc n = omega arith in
    subst (λ (k : ℕ). AllAreAt image (f (k, row))) number
    (row_at f image (i + 1) xs n row there (are_at_back image (f (i, x)) (flat_map f (enumerate_from (i + 1) xs)) all))

-- the table of a row is at the row's place in the file
table_at_row :
    (r : Resolved) (place : Placement) (tail : List Part) (image : List ℕ) (n : ℕ) (row : SectionRow)
    → slice_get place.sections n ≡ Some row
    → in_file row.key.class ≡ true
    → is_table row.key ≡ true
    → AllAreAt image (stretches_with r place tail)
    → IsAt image (stretch row.offset (table_of_key r place row.key))
table_at_row r place tail image n row there stored table all =
    let rows = flat_map (row_stretches r place) (enumerate_from 0 place.sections) in
    let front = stretch 0 (header_bytes r place tail) ∷ stretch seal_offset seal ∷ rows in
    let parts = map part_stretch (parts_from (tail_start place) tail) in
    let last = stretch (headers_offset place tail) (flat_map shdr_bytes (section_headers place tail)) ∷ [] in
    let before : AllAreAt image front = are_at_front image front parts (are_at_front image (front ++ parts) last all) in
    let number : 0 + n ≡ n = omega arith in
    let own = subst (λ (k : ℕ). AllAreAt image (row_stretches r place (k, row))) number (row_at (row_stretches r place) image 0 place.sections n row there before.1.1) in
    let pieces = map (piece_stretch r place row) (filter (is_in_row n) (zip r.kept place.pieces)) in
    let holes = map (hole_stretch row) (holes_of place n) in
    let of_table = table_stretches r place row in
    let shown : AllAreAt image (pieces ++ of_table ++ holes ++ end_stretches row) = rw stored at own in
    let behind : AllAreAt image of_table = are_at_back image pieces of_table (are_at_front image (pieces ++ of_table) holes (are_at_front image (pieces ++ of_table ++ holes) (end_stretches row) shown)) in
    let one : AllAreAt image (stretch row.offset (table_of_key r place row.key) ∷ []) = rw table at behind in
    one.0

-- ---- a table in memory

-- what is loaded at the addresses of a row
abbrev RowLoads : List ℕ → SectionRow → Type 0
RowLoads image row = (a : ℕ) → row.addr ≤ a → a < row.addr + row.room → byte_in_memory image (headers_in image) a ≡ Some (slice_index image (a - load_base))

-- the byte alone of what is loaded
byte_alone : (image : List ℕ) (a byte rights : ℕ) → loaded image a ≡ Some (byte_with byte rights) → byte_in_memory image (headers_in image) a ≡ Some byte
unfolding loaded
byte_alone image a byte rights e = ap (option_map (λ (b : LoadedByte). b.byte)) e

row_loads :
    (r : Resolved) (place : Placement) (image : List ℕ) (row : SectionRow)
    → Lawful r place
    → IsRow place row
    → headers_in image ≡ program_headers place (exec_stack_of r)
    → (c : Class)
    → row.key.class ≡ c
    → in_file c ≡ true
    → is_alloc c ≡ true
    → RowLoads image row
row_loads r place image row l is back R e stored loads a from below =
    byte_alone image a (slice_index image (a - load_base)) 4 (first_loaded image place (exec_stack_of r) row a back (row_in_segment r place l row is R e) from below)
row_loads r place image row l is back X e stored loads a from below =
    byte_alone image a (slice_index image (a - load_base)) 5 (second_loaded image place (exec_stack_of r) row a back (row_in_segment r place l row is X e) from below)
row_loads r place image row l is back W e stored loads a from below =
    byte_alone image a (slice_index image (a - load_base)) _ (third_loaded image place (exec_stack_of r) row a back (row_in_segment r place l row is W e) from below)
row_loads r place image row l is back WX e stored loads a from below =
    byte_alone image a (slice_index image (a - load_base)) _ (third_loaded image place (exec_stack_of r) row a back (row_in_segment r place l row is WX e) from below)
row_loads r place image row l is back Tdata e stored loads a from below =
    byte_alone image a (slice_index image (a - load_base)) _ (third_loaded image place (exec_stack_of r) row a back (row_in_segment r place l row is Tdata e) from below)
row_loads r place image row l is back Tbss e stored loads a from below = absurd (both_ways false refl stored)
row_loads r place image row l is back Bss e stored loads a from below = absurd (both_ways false refl stored)
row_loads r place image row l is back N e stored loads a from below = absurd (both_ways false refl loads)

-- what is known of an image of a link
pub record Image (r : Resolved) (place : Placement) (tail : List Part) (image : List ℕ) : Type 0 where
  pub loadable : Loadable r place
  pub no_pieces : NoPieceIn r.kept
  pub laid : IsLaidOut (stretches_with r place tail) image

-- a table in memory: its bytes are loaded from its row's address on, as many as the row's size
pub record TableLoaded (r : Resolved) (place : Placement) (image : List ℕ) (key : SectionKey) : Type 0 where
  pub found : FoundRow place.sections key
  pub size : length (table_of_key r place key) ≡ found.row.size
  pub fits : RowFits found.row
  pub short : found.row.size ≤ 2 ^ 31
  pub bytes : IsInMemory (byte_in_memory image (headers_in image)) found.row.addr (table_of_key r place key)

pub table_loaded :
    (r : Resolved) (place : Placement) (tail : List Part) (image : List ℕ) (key : SectionKey)
    → Image r place tail image
    → HasRow place.sections key
    → is_table key ≡ true
    → in_file key.class ≡ true
    → is_alloc key.class ≡ true
    → TableLoaded r place image key
table_loaded r place tail image key i has table stored loads =
    let found : FoundRow place.sections key = row_found place.sections key has in
    let row : SectionRow = found.row in
    let own : row.key ≡ key = found.own in
    let l : Lawful r place = i.loadable.lawful in
    let is : IsRow place row = record { number = found.number; there = found.there } in
    let own_loads : is_alloc row.key.class ≡ true = ap (λ (k : SectionKey). is_alloc k.class) own ∙ loads in
    let own_stored : in_file row.key.class ≡ true = ap (λ (k : SectionKey). in_file k.class) own ∙ stored in
    let own_table : is_table row.key ≡ true = ap is_table own ∙ table in
    let at = row_is_at r place l row is own_loads in
    let offset = at.offset in
    let base = at.base in
    let room = row_size r place l row is in
    let fits : RowFits row = row_fits r place l i.loadable.limits.memory row is own_loads in
    let end = fits.end in
    let long : length (table_of_key r place row.key) ≡ row.size =
    table_length r place row i.no_pieces own_table (of_row (λ w. _) place row is l.no_other_tables) (of_row (λ (w : SectionRow). IsTrue (w.size == size_of r place w && nat_le w.size w.room)) place row is l.sizes) in
    let size : length (table_of_key r place key) ≡ row.size = sym (ap (λ k. length (table_of_key r place k)) own) ∙ long in
    let is_at : IsAt image (stretch row.offset (table_of_key r place key)) =
    subst (λ (k : SectionKey). IsAt image (stretch row.offset (table_of_key r place k))) own (table_at_row r place tail image found.number row found.there own_stored own_table i.laid.is_at) in
    let all = row_loads r place image row l is (headers_are_read r place tail image i.loadable i.laid) row.key.class refl own_stored own_loads in
    record {
      found = found;
      size = size;
      fits = fits;
      short = omega (arith, room, end, base);
      bytes = λ k inside.
          let where_is : row.offset + k ≡ row.addr + k - load_base = omega (arith, offset, base) in
          all (row.addr + k) (omega arith) (omega (arith, inside, size, room))
          ∙ ap Some (ap (slice_index image) (sym where_is) ∙ byte_of_stretch image (table_of_key r place key) row.offset k is_at inside);
    }
