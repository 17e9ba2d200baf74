-- A loader finds every kept piece of an image with a lawful placement.
use Rattle.std.specs.Prelude.{◌≡◌, ℕ, true, false, List, [], ◌∷◌, Option, Some, None, ◌+◌, ◌-◌, ◌<◌, ◌≤◌, ◌&&◌, ◌==◌, length, map, nat_le, refl, slice_index, zip}
use Rattle.std.specs.List.{AllByRecursion, enumerate_from, slice_get}
use Rattle.std.proofs.Common.{ap, arith, sym, ◌∙◌}
use Rattle.std.proofs.lemmas.Bool.{and_parts, both_ways, leb-true}
use Rattle.std.proofs.lemmas.Bool.Decides.{nat_tests}
use Rattle.lk_model.specs.FileHeader.{exec_stack_of}
use Rattle.lk_model.specs.FullPlace.{load_base}
use Rattle.lk_model.specs.Images.{stretch}
use Rattle.lk_model.specs.Lawful.{Lawful, Placed, RowOf, as_kept, as_placed}
use Rattle.lk_model.specs.LinkedBytes.{linked_bytes}
use Rattle.lk_model.specs.Links.{AllLoaded, PieceIsLoaded, third_rights}
use Rattle.lk_model.specs.Loading.{IsLoaded, headers_in, loaded}
use Rattle.lk_model.specs.SectionKeys.{in_file, is_alloc, same_key}
use Rattle.lk_model.specs.Segments.{program_headers}
use Rattle.lk_model.specs.Stretches.{IsAt}
use Rattle.lk_model.specs.Views.{KeptPiece, Resolved}
use Rattle.lk_model.specs.declared.layouts.Class.{Class}
use Rattle.lk_model.specs.declared.layouts.Class.TheVariants.{R, X, W, WX, Tdata, Tbss, Bss, N}
use Rattle.lk_model.specs.declared.layouts.PieceId.{PieceId}
use Rattle.lk_model.specs.declared.layouts.PieceRow.{PieceRow}
use Rattle.lk_model.specs.declared.layouts.Placement.{Placement}
use Rattle.lk_model.specs.declared.layouts.SectionKey.{SectionKey}
use Rattle.lk_model.specs.declared.layouts.SectionRow.{SectionRow}
use Rattle.lk_model.proofs.KeysFound.{same_key_reports}
use Rattle.lk_law_loading.specs.Loadable.{IsWhole, Loadable, ThreadNamed}
use Rattle.lk_law_loading.specs.LoadedPlaces.{HeadersAreRead, LoadableIsLoaded}
use Rattle.lk_law_loading.proofs.BytesLoaded.{byte_with, first_loaded, second_loaded, third_loaded, zeros_loaded}
use Rattle.lk_law_loading.proofs.HeaderNumbers.{headers_fit}
use Rattle.lk_law_loading.proofs.HeadersBack.{headers_back}
use Rattle.lk_law_loading.proofs.PiecesAreAt.{StoredRow, PieceIsAt, byte_of_stretch, headers_are_at, pieces_are_at}
use Rattle.lk_law_loading.proofs.RowsOfPlace.{IsRow, InSegment, row_in_segment, row_is_at}
use Rattle.lk_law_loading.proofs.ThreadSegment.{thread_bytes_lie, thread_zeros_lie}

-- ---- one piece

-- where a kept piece is in its row
pub record PieceInRow (place : Placement) (kept : KeptPiece) (p : PieceRow) : Type 0 where
  pub row : SectionRow
  pub there : slice_get place.sections p.section ≡ Some row
  pub keys : row.key ≡ kept.key
  pub from : row.addr ≤ p.addr
  pub to : p.addr + p.size ≤ row.addr + row.room
  pub size : p.size ≡ kept.size

is_itself : (n : ℕ) → (n == n) ≡ true
is_itself n = grind (arith, nat_tests)

-- a section that is loaded and kept by the file
abbrev StoredLoaded : Class → Type 0
StoredLoaded c = (in_file c ≡ true) × (is_alloc c ≡ true)

-- the linked bytes of a piece in the image, from its address on
byte_in_image :
    (r : Resolved) (place : Placement) (image : List ℕ) (kept : KeptPiece) (p : PieceRow) (c : Class)
    → Lawful r place
    → (q : PieceInRow place kept p)
    → kept.key.class ≡ c
    → StoredLoaded c
    → PieceIsAt r place image (kept, p)
    → (k : ℕ)
    → k < length (linked_bytes r place kept)
    → slice_index image (p.addr + k - load_base) ≡ slice_index (linked_bytes r place kept) k
byte_in_image r place image kept p c l q class stored is_at k inside =
    let row : SectionRow = q.row in
    let own : row.key.class ≡ c = ap (λ (key : SectionKey). key.class) q.keys ∙ class in
    let h : StoredRow place = record { number = p.section; row = row; there = q.there; stored = ap in_file own ∙ stored.0 } in
    let here : IsAt image (stretch (row.offset + (p.addr - row.addr)) (linked_bytes r place kept)) = is_at h (is_itself p.section) in
    let known = row_is_at r place l row (record { number = p.section; there = q.there }) (ap is_alloc own ∙ stored.1) in
    let offset = known.offset in
    let base = known.base in
    let from = q.from in
    let place_is : row.offset + (p.addr - row.addr) + k ≡ p.addr + k - load_base = omega (arith, offset, base, from) in
    ap (λ n. slice_index image n) (sym place_is)
    ∙ byte_of_stretch image (linked_bytes r place kept) (row.offset + (p.addr - row.addr)) k here inside

-- what a loader puts at the addresses of a row, where the file holds it
abbrev RowLoads : List ℕ → SectionRow → ℕ → Type 0
RowLoads image row rights = (a : ℕ) → row.addr ≤ a → a < row.addr + row.room → loaded image a ≡ Some (byte_with (slice_index image (a - load_base)) rights)

-- what is known of a piece of an image
record PieceKnown (r : Resolved) (place : Placement) (image : List ℕ) (kept : KeptPiece) (p : PieceRow) : Type 0 where
  lawful : Lawful r place
  in_row : PieceInRow place kept p
  is_at : PieceIsAt r place image (kept, p)
  whole : IsWhole r place kept
  back : headers_in image ≡ program_headers place (exec_stack_of r)
  threads : AllByRecursion (λ (row : SectionRow). ThreadNamed row.key) place.sections

-- so a loader finds its linked bytes
bytes_loaded :
    (r : Resolved) (place : Placement) (image : List ℕ) (kept : KeptPiece) (p : PieceRow) (c : Class) (rights : ℕ)
    → (q : PieceKnown r place image kept p)
    → kept.key.class ≡ c
    → StoredLoaded c
    → RowLoads image q.in_row.row rights
    → IsLoaded image rights p.addr (linked_bytes r place kept)
bytes_loaded r place image kept p c rights q class stored loads k inside =
    let row : SectionRow = q.in_row.row in
    let long : length (linked_bytes r place kept) ≡ kept.size = q.whole (ap in_file class ∙ stored.0) in
    let size : p.size ≡ kept.size = q.in_row.size in
    let from : row.addr ≤ p.addr = q.in_row.from in
    let to : p.addr + p.size ≤ row.addr + row.room = q.in_row.to in
    loads (p.addr + k) (omega (arith, from)) (omega (arith, to, long, size, inside))
    ∙ ap (λ b. Some (byte_with b rights)) (byte_in_image r place image kept p c q.lawful q.in_row class stored q.is_at k inside)

-- the row's number and class
row_is : (place : Placement) (kept : KeptPiece) (p : PieceRow) (q : PieceInRow place kept p) → IsRow place q.row
row_is place kept p q = record { number = p.section; there = q.there }

row_class : (place : Placement) (kept : KeptPiece) (p : PieceRow) (c : Class) (q : PieceInRow place kept p) → kept.key.class ≡ c → q.row.key.class ≡ c
row_class place kept p c q class = ap (λ (key : SectionKey). key.class) q.keys ∙ class

-- where the row lies
row_lies : (r : Resolved) (place : Placement) (image : List ℕ) (kept : KeptPiece) (p : PieceRow) (c : Class) (q : PieceKnown r place image kept p) → kept.key.class ≡ c → InSegment place q.in_row.row c
row_lies r place image kept p c q class =
    row_in_segment r place q.lawful q.in_row.row (row_is place kept p q.in_row) c (row_class place kept p c q.in_row class)

-- a loader finds a piece of each class
piece_loaded :
    (r : Resolved) (place : Placement) (image : List ℕ) (kept : KeptPiece) (p : PieceRow)
    → PieceKnown r place image kept p
    → (c : Class)
    → kept.key.class ≡ c
    → PieceIsLoaded image r place kept p c
piece_loaded r place image kept p q R class =
    let lies = row_lies r place image kept p R q class in
    bytes_loaded r place image kept p R 4 q class (refl, refl) (λ a from below. first_loaded image place (exec_stack_of r) q.in_row.row a q.back lies from below)
piece_loaded r place image kept p q X class =
    let lies = row_lies r place image kept p X q class in
    bytes_loaded r place image kept p X 5 q class (refl, refl) (λ a from below. second_loaded image place (exec_stack_of r) q.in_row.row a q.back lies from below)
piece_loaded r place image kept p q W class =
    let lies = row_lies r place image kept p W q class in
    bytes_loaded r place image kept p W (third_rights place) q class (refl, refl) (λ a from below. third_loaded image place (exec_stack_of r) q.in_row.row a q.back lies from below)
piece_loaded r place image kept p q WX class =
    let lies = row_lies r place image kept p WX q class in
    bytes_loaded r place image kept p WX (third_rights place) q class (refl, refl) (λ a from below. third_loaded image place (exec_stack_of r) q.in_row.row a q.back lies from below)
piece_loaded r place image kept p q Tdata class =
    let lies = row_lies r place image kept p Tdata q class in (
      bytes_loaded r place image kept p Tdata (third_rights place) q class (refl, refl) (λ a from below. third_loaded image place (exec_stack_of r) q.in_row.row a q.back lies from below),
      thread_bytes_lie r place image (exec_stack_of r) q.lawful q.threads q.back q.in_row.row (row_is place kept p q.in_row) (row_class place kept p Tdata q.in_row class) p q.in_row.from q.in_row.to,
    )
piece_loaded r place image kept p q Tbss class =
    thread_zeros_lie r place image (exec_stack_of r) q.lawful q.threads q.back q.in_row.row (row_is place kept p q.in_row) (row_class place kept p Tbss q.in_row class) p q.in_row.from q.in_row.to
piece_loaded r place image kept p q Bss class =
    let lies = row_lies r place image kept p Bss q class in
    λ k inside.
    let from = q.in_row.from in
    let to = q.in_row.to in
    zeros_loaded image place (exec_stack_of r) q.in_row.row (p.addr + k) q.back lies (omega (arith, from)) (omega (arith, to, inside))
piece_loaded r place image kept p q N class = tt

-- ---- all pieces

-- a piece that has a row lies in it
in_its_row :
    (place : Placement) (kept : KeptPiece) (p : PieceRow)
    → RowOf place p (λ row. same_key row.key kept.key)
    → RowOf place p (λ row. nat_le row.addr p.addr && nat_le (p.addr + p.size) (row.addr + row.room))
    → p.size ≡ kept.size
    → PieceInRow place kept p
in_its_row place kept p keyed lies size = go (slice_get place.sections p.section) refl
  where
    go : (o : Option SectionRow) → slice_get place.sections p.section ≡ o → PieceInRow place kept p
    go None e = absurd (both_ways false refl (rw e at keyed))
    go (Some row) e =
        let same : same_key row.key kept.key ≡ true = rw e at keyed in
        let parts = and_parts (nat_le row.addr p.addr) (nat_le (p.addr + p.size) (row.addr + row.room)) (rw e at lies) in
        record {
          row = row;
          there = e;
          keys = same_key_reports row.key kept.key same;
          from = leb-true row.addr p.addr parts.0;
          to = leb-true (p.addr + p.size) (row.addr + row.room) parts.1;
          size = size;
        }

-- the size of the first of placed pieces
abbrev first_size : List (PieceId × ℕ × ℕ) → ℕ
first_size [] = 0
first_size (x ∷ xs) = x.1

abbrev all_but_first : List (PieceId × ℕ × ℕ) → List (PieceId × ℕ × ℕ)
all_but_first [] = []
all_but_first (x ∷ xs) = xs

abbrev InRoom : Placement → PieceRow → Type 0
InRoom place p = RowOf place p (λ row. nat_le row.addr p.addr && nat_le (p.addr + p.size) (row.addr + row.room))

abbrev InSection : Placement → Placed → Type 0
InSection place p = RowOf place p.1.1 (λ row. same_key row.key p.1.0.key)

loaded_from :
    (r : Resolved) (place : Placement) (image : List ℕ) (i : ℕ) (ks : List KeptPiece) (ps : List PieceRow)
    → Loadable r place
    → headers_in image ≡ program_headers place (exec_stack_of r)
    → map as_placed ps ≡ map as_kept ks
    → AllByRecursion (InSection place) (enumerate_from i (zip ks ps))
    → AllByRecursion (InRoom place) ps
    → AllByRecursion (IsWhole r place) ks
    → AllByRecursion (PieceIsAt r place image) (zip ks ps)
    → AllLoaded image r place ks ps
loaded_from r place image i [] ps l back same sections rooms whole is_at = tt
loaded_from r place image i (k ∷ ks) [] l back same sections rooms whole is_at = absurd (cc)
loaded_from r place image i (k ∷ ks) (p ∷ ps) l back same sections rooms whole is_at = (
  piece_loaded r place image k p
      (record {
        lawful = l.lawful;
        in_row = in_its_row place k p sections.0 rooms.0 (ap first_size same);
        is_at = is_at.0;
        whole = whole.0;
        back = back;
        threads = l.threads;
      })
      k.key.class refl,
  loaded_from r place image (i + 1) ks ps l back (ap all_but_first same) sections.1 rooms.1 whole.1 is_at.1,
)

-- the program headers of an image are those of its placement
pub headers_are_read : HeadersAreRead
headers_are_read r place tail image l laid =
    headers_back r place tail image (headers_are_at r place tail image laid.is_at) l.limits.headers
    (headers_fit r place (exec_stack_of r) l.lawful l.limits.memory l.limits.headers)

-- a loader finds every kept piece
pub all_pieces_loaded : LoadableIsLoaded
all_pieces_loaded r place tail image l laid =
    loaded_from r place image 0 r.kept place.pieces l (headers_are_read r place tail image l laid) l.lawful.kept l.lawful.in_section l.lawful.in_room l.whole
    (pieces_are_at r place tail image laid.is_at)
