-- The rows of pieces, each the next one of its section, are those of the kept pieces in their order.
use Rattle.std.specs.Prelude.{◌≡◌, refl, ℕ, zero, suc, ◌+◌, ◌-◌, Bool, true, false, cond, if◌then◌else◌, ◌&&◌, List, [], ◌∷◌, ◌++◌, filter, filter_map, find, length, map, replicate, take, Option, Some, None, option_map, option_and_then, slice_get, slice_index_or, slice_set}
use Rattle.std.specs.List.{AllByRecursion, cons_option, enumerate_from, list_any}
use Rattle.std.proofs.Common.{sym, ap, ◌∙◌, subst, arith, length-append}
use Rattle.std.proofs.Math.Seq.{take-append_seam}
use Rattle.std.proofs.lemmas.List.{append-nil, append_assoc}
use Rattle.std.proofs.lemmas.List.Elements.{filter-append}
use Rattle.std.proofs.lemmas.Option.{get_or_from_slice_get, slice_get-map}
use Rattle.lk_model.specs.declared.layouts.PieceRow.{PieceRow}
use Rattle.lk_model.specs.declared.layouts.SectionKey.{SectionKey}
use Rattle.lk_model.specs.declared.layouts.SectionRow.{SectionRow}
use Rattle.lk_model.specs.FullPlace.{numbered_row, offset_by_kind, offset_in, offset_in_sequence, piece_row, piece_rows, pieces_in, placed_at}
use Rattle.lk_model.specs.Rooms.{patched_end, patched_offset}
use Rattle.lk_model.specs.SectionKeys.{is_patched, least_of, same_key}
use Rattle.lk_model.specs.Views.{KeptPiece}
use Rattle.lk_model.proofs.KeysFound.{same_key_self, same_key_reports}
use Rattle.lk_layout.specs.Grouping.{Group, Groups, group_of, groups_of, keys_of}
use Rattle.lk_layout.specs.PieceRows.{group_row_place, row_place_after, row_place_in, place_under, row_at, row_in, row_under, rows_by}
use Rattle.lk_layout.specs.Walked.{Walked, offset_after, offsets_after, walked}
use Rattle.lk_layout.specs.declared.row_places.RowPlace.{RowPlace}
use Rattle.lk_layout.proofs.GroupsGrow.{all_placed, number_among, pieces_other, pieces_own}
use Rattle.lk_layout.proofs.KeysOnce.{at_key, change_key, is_among, once_differ, place_in}

-- ---- one piece

-- the offset of a piece in a section of this key and room
abbrev offset_for : SectionKey → ℕ → List KeptPiece → List KeptPiece → KeptPiece → ℕ
offset_for key room all done p =
    if is_patched key then (if p.terminator then room - 4 else patched_offset (least_of key) (patched_end (least_of key) (pieces_in key done)) p) else offset_in_sequence key (pieces_in key all) (pieces_in key done) p

models_offset : (row : SectionRow) (all done : List KeptPiece) (p : KeptPiece) → offset_in row all done p ≡ offset_for row.key row.room all done p
models_offset row all done p = go (is_patched row.key) refl
  where
    go : (b : Bool) → is_patched row.key ≡ b → offset_by_kind b row all done p ≡ (if b then (if p.terminator then row.room - 4 else patched_offset (least_of row.key) (patched_end (least_of row.key) (pieces_in row.key done)) p) else offset_in_sequence row.key (pieces_in row.key all) (pieces_in row.key done) p)
    go true e = refl
    go false e = refl

own_place : (row_place : RowPlace) (key : SectionKey) (all done : List KeptPiece) (p : KeptPiece) → place_under row_place (walked (key, pieces_in key all)) p (offset_after key (pieces_in key all) (pieces_in key done) p) ≡ offset_for key row_place.room all done p
unfolding walked
own_place row_place key all done p = go (is_patched key) p.terminator
  where
    go : (b t : Bool) → cond (b && t) (row_place.room - 4) (if b then patched_offset (least_of key) (patched_end (least_of key) (pieces_in key done)) p else offset_in_sequence key (pieces_in key all) (pieces_in key done) p) ≡ (if b then (if t then row_place.room - 4 else patched_offset (least_of key) (patched_end (least_of key) (pieces_in key done)) p) else offset_in_sequence key (pieces_in key all) (pieces_in key done) p)
    go true true = refl
    go true false = refl
    go false t = refl

found_passes : {A : Type 0} (p : A → Bool) (xs : List A) (x : A) → find p xs ≡ Some x → p x ≡ true
found_passes p [] x e = absurd (cc)
found_passes {A} p (y ∷ ys) x e = go (p y) refl e (found_passes p ys x)
  where
    go : (b : Bool) → p y ≡ b → cond b (Some y) (find p ys) ≡ Some x → (find p ys ≡ Some x → p x ≡ true) → p x ≡ true
    go true t f rest = let same : y ≡ x = cc in ap p (sym same) ∙ t
    go false t f rest = rest f

-- the row of a piece in its section
placed : (rows : List SectionRow) (all done : List KeptPiece) (p : KeptPiece)
    → option_and_then (λ (h : RowPlace). Some (row_under h (walked (p.key, pieces_in p.key all)) p (offset_after p.key (pieces_in p.key all) (pieces_in p.key done) p))) (row_place_in rows p.key) ≡ piece_row rows all done p
placed rows all done p = go (numbered_row rows p.key) refl
  where
    go : (o : Option (ℕ × SectionRow)) → numbered_row rows p.key ≡ o
        → option_and_then (λ (h : RowPlace). Some (row_under h (walked (p.key, pieces_in p.key all)) p (offset_after p.key (pieces_in p.key all) (pieces_in p.key done) p))) (option_map row_place_after o)
        ≡ option_map (λ (entry : ℕ × SectionRow). placed_at p entry.0 entry.1 (offset_in entry.1 all done p)) o
    go None e = refl
    go (Some entry) e =
        let row : SectionRow = entry.1 in
        let own : row.key ≡ p.key = same_key_reports row.key p.key (found_passes (λ (x : ℕ × SectionRow). same_key x.1.key p.key) (enumerate_from 0 rows) entry e) in
        ap (λ offset. Some (placed_at p entry.0 row offset))
        (own_place (row_place_after entry) p.key all done p ∙ ap (λ key. offset_for key row.room all done p) (sym own) ∙ sym (models_offset row all done p))

-- ---- what is where in a section

nth_here : {A : Type 0} (xs : List A) (x : A) (ys : List A) → slice_get (xs ++ x ∷ ys) (length xs) ≡ Some x
nth_here [] x ys = refl
nth_here (y ∷ xs) x ys = nth_here xs x ys

nth_offset : (key : SectionKey) (all earlier xs : List KeptPiece) (p : KeptPiece) (ys : List KeptPiece) → slice_get (offsets_after key all earlier (xs ++ p ∷ ys)) (length xs) ≡ Some (offset_after key all (earlier ++ xs) p)
nth_offset key all earlier [] p ys = ap (λ (ps : List KeptPiece). Some (offset_after key all ps p)) (sym (append-nil earlier))
nth_offset key all earlier (x ∷ xs) p ys =
    nth_offset key all (earlier ++ x ∷ []) xs p ys ∙ ap (λ (ps : List KeptPiece). Some (offset_after key all ps p)) (append_assoc earlier (x ∷ []) xs)

-- a section's pieces before a piece, it, and those behind it
own_split : (done rest : List KeptPiece) (p : KeptPiece) → pieces_in p.key (done ++ p ∷ rest) ≡ pieces_in p.key done ++ p ∷ pieces_in p.key rest
own_split done rest p =
    filter-append (λ (q : KeptPiece). same_key q.key p.key) done (p ∷ rest)
    ∙ ap (λ b. pieces_in p.key done ++ cond b (p ∷ pieces_in p.key rest) (pieces_in p.key rest)) (same_key_self p.key)

walked_offsets : (g : Group) → (walked g).offsets ≡ offsets_after g.0 g.1 [] g.1
unfolding walked
walked_offsets g = refl

own_row : (row_place : Option RowPlace) (done rest : List KeptPiece) (p : KeptPiece) (all : List KeptPiece) → all ≡ done ++ p ∷ rest
    → row_at row_place (walked (p.key, pieces_in p.key all)) (pieces_in p.key all) (length (pieces_in p.key done))
    ≡ option_and_then (λ (h : RowPlace). Some (row_under h (walked (p.key, pieces_in p.key all)) p (offset_after p.key (pieces_in p.key all) (pieces_in p.key done) p))) row_place
own_row row_place done rest p all whole =
    let own : List KeptPiece = pieces_in p.key all in
    let n : ℕ = length (pieces_in p.key done) in
    let split : own ≡ pieces_in p.key done ++ p ∷ pieces_in p.key rest = ap (pieces_in p.key) whole ∙ own_split done rest p in
    let piece : slice_get own n ≡ Some p = ap (λ (ps : List KeptPiece). slice_get ps n) split ∙ nth_here (pieces_in p.key done) p (pieces_in p.key rest) in
    let offset : slice_get (walked (p.key, own)).offsets n ≡ Some (offset_after p.key own (pieces_in p.key done) p) =
    ap (λ os. slice_get os n) (walked_offsets (p.key, own) ∙ ap (offsets_after p.key own []) split) ∙ nth_offset p.key own [] (pieces_in p.key done) p (pieces_in p.key rest) in
    go row_place piece offset
  where
    go : (o : Option RowPlace)
        → slice_get (pieces_in p.key all) (length (pieces_in p.key done)) ≡ Some p
        → slice_get (walked (p.key, pieces_in p.key all)).offsets (length (pieces_in p.key done)) ≡ Some (offset_after p.key (pieces_in p.key all) (pieces_in p.key done) p)
        → row_at o (walked (p.key, pieces_in p.key all)) (pieces_in p.key all) (length (pieces_in p.key done))
        ≡ option_and_then (λ (h : RowPlace). Some (row_under h (walked (p.key, pieces_in p.key all)) p (offset_after p.key (pieces_in p.key all) (pieces_in p.key done) p))) o
    go None piece offset = refl
    go (Some h) piece offset =
        let w : Walked = walked (p.key, pieces_in p.key all) in
        ap (λ (o : Option KeptPiece). option_and_then (λ (q : KeptPiece). option_map (row_under h w q) (slice_get w.offsets (length (pieces_in p.key done)))) o) piece
        ∙ ap (option_map (row_under h w p)) offset

-- ---- all pieces in turn

-- how many pieces of a section came before
abbrev count_of : List KeptPiece → SectionKey → ℕ
count_of done key = length (pieces_in key done)

count_own : (done : List KeptPiece) (p : KeptPiece) → count_of (done ++ p ∷ []) p.key ≡ count_of done p.key + 1
count_own done p = ap length (pieces_own done p p.key (same_key_self p.key)) ∙ length-append (pieces_in p.key done) (p ∷ [])

none_counted : (all : List KeptPiece) (keys : List SectionKey) → replicate (length (map (group_of all) keys)) 0 ≡ map (count_of []) keys
none_counted all [] = refl
none_counted all (k ∷ keys) = ap (λ ns. 0 ∷ ns) (none_counted all keys)

-- the row of the piece with a number in a section with a number, among all
abbrev turn_row : List SectionRow → List KeptPiece → ℕ → ℕ → Option PieceRow
turn_row rows all number n =
    row_in (map (group_of all) (keys_of all)) (map walked (map (group_of all) (keys_of all))) (map (group_row_place rows) (map (group_of all) (keys_of all))) number n

-- the row of a piece among all, by the pieces before it
abbrev model_row : List SectionRow → List KeptPiece → ℕ × KeptPiece → Option PieceRow
model_row rows all entry = piece_row rows all (take entry.0 all) entry.1

this_row : (rows : List SectionRow) (all done rest : List KeptPiece) (p : KeptPiece) → all ≡ done ++ p ∷ rest → is_among p.key (keys_of all) ≡ true → turn_row rows all (place_in (keys_of all) p.key) (count_of done p.key) ≡ piece_row rows all done p
this_row rows all done rest p whole among =
    let j : ℕ = place_in (keys_of all) p.key in
    let n : ℕ = count_of done p.key in
    let groups : List Group = map (group_of all) (keys_of all) in
    let walks : List Walked = map walked groups in
    let row_places : List (Option RowPlace) = map (group_row_place rows) groups in
    let group : slice_get groups j ≡ Some (group_of all p.key) = at_key (group_of all) (keys_of all) p.key among in
    let walk : slice_get walks j ≡ Some (walked (group_of all p.key)) = slice_get-map walked groups j ∙ ap (option_map walked) group in
    let row_place : slice_get row_places j ≡ Some (row_place_in rows p.key) = slice_get-map (group_row_place rows) groups j ∙ ap (option_map (group_row_place rows)) group in
    ap (λ (o : Option Group). option_and_then (λ (g : Group). option_and_then (λ (w : Walked). option_and_then (λ (h : Option RowPlace). row_at h w g.1 n) (slice_get row_places j)) (slice_get walks j)) o) group
    ∙ ap (λ (o : Option Walked). option_and_then (λ (w : Walked). option_and_then (λ (h : Option RowPlace). row_at h w (pieces_in p.key all) n) (slice_get row_places j)) o) walk
    ∙ ap (λ (o : Option (Option RowPlace)). option_and_then (λ (h : Option RowPlace). row_at h (walked (group_of all p.key)) (pieces_in p.key all) n) o) row_place
    ∙ own_row (row_place_in rows p.key) done rest p all whole
    ∙ placed rows all done p

this_count : (all done : List KeptPiece) (p : KeptPiece) → is_among p.key (keys_of all) ≡ true → slice_index_or (map (count_of done) (keys_of all)) (place_in (keys_of all) p.key) 0 ≡ count_of done p.key
this_count all done p among =
    get_or_from_slice_get (map (count_of done) (keys_of all)) (place_in (keys_of all) p.key) (count_of done p.key) 0 (at_key (count_of done) (keys_of all) p.key among)

next_counts : (all done : List KeptPiece) (p : KeptPiece) → is_among p.key (keys_of all) ≡ true → slice_set (map (count_of done) (keys_of all)) (place_in (keys_of all) p.key) (slice_index_or (map (count_of done) (keys_of all)) (place_in (keys_of all) p.key) 0 + 1) ≡ map (count_of (done ++ p ∷ [])) (keys_of all)
next_counts all done p among =
    ap (slice_set (map (count_of done) (keys_of all)) (place_in (keys_of all) p.key)) (ap (λ n. n + 1) (this_count all done p among) ∙ sym (count_own done p))
    ∙ change_key (count_of done) (count_of (done ++ p ∷ [])) (keys_of all) p.key (once_differ (map (λ (q : KeptPiece). q.key) all)) among (λ key other. ap length (sym (pieces_other done p key other)))

in_turn_from : (rows : List SectionRow) (all done rest : List KeptPiece) → all ≡ done ++ rest → AllByRecursion (λ (q : KeptPiece). is_among q.key (keys_of all) ≡ true) rest
    → rows_by (turn_row rows all) (map (count_of done) (keys_of all)) (map (number_among (keys_of all)) rest) ≡ filter_map (model_row rows all) (enumerate_from (length done) rest)
in_turn_from rows all done [] whole among = refl
in_turn_from rows all done (p ∷ ps) whole among =
    let j : ℕ = place_in (keys_of all) p.key in
    let counts : List ℕ = map (count_of done) (keys_of all) in
    let numbers : List ℕ = map (number_among (keys_of all)) ps in
    let before : take (length done) all ≡ done = ap (take (length done)) whole ∙ take-append_seam done (p ∷ ps) in
    let here : turn_row rows all j (slice_index_or counts j 0) ≡ model_row rows all (length done, p) =
    ap (turn_row rows all j) (this_count all done p among.0) ∙ this_row rows all done ps p whole among.0 ∙ ap (λ (qs : List KeptPiece). piece_row rows all qs p) (sym before) in
    let later : rows_by (turn_row rows all) (map (count_of (done ++ p ∷ [])) (keys_of all)) numbers ≡ filter_map (model_row rows all) (enumerate_from (length (done ++ p ∷ [])) ps) =
    in_turn_from rows all (done ++ p ∷ []) ps (whole ∙ sym (append_assoc done (p ∷ []) ps)) among.1 in
    ap (λ (o : Option PieceRow). cons_option o (rows_by (turn_row rows all) (slice_set counts j (slice_index_or counts j 0 + 1)) numbers)) here
    ∙ ap (λ ns. cons_option (model_row rows all (length done, p)) (rows_by (turn_row rows all) ns numbers)) (next_counts all done p among.0)
    ∙ ap (cons_option (model_row rows all (length done, p))) (later ∙ ap (λ n. filter_map (model_row rows all) (enumerate_from n ps)) (length-append done (p ∷ [])))

in_turn : (rows : List SectionRow) (all : List KeptPiece) → rows_by (turn_row rows all) (replicate (length (map (group_of all) (keys_of all))) 0) (map (number_among (keys_of all)) all) ≡ piece_rows rows all
unfolding piece_rows
in_turn rows all =
    ap (λ ns. rows_by (turn_row rows all) ns (map (number_among (keys_of all)) all)) (none_counted all (keys_of all)) ∙ in_turn_from rows all [] all refl (all_placed all)

-- the rows of pieces in turn, of groups that are those of all pieces
groups_in_turn : (rows : List SectionRow) (all : List KeptPiece) → let g = groups_of all in rows_by (row_in g.sections (map walked g.sections) (map (group_row_place rows) g.sections)) (replicate (length g.sections) 0) g.order ≡ piece_rows rows all
unfolding groups_of
groups_in_turn rows all = in_turn rows all

pub placed_in_turn : (rows : List SectionRow) (all : List KeptPiece) (g : Groups) (walks : List Walked) (row_places : List (Option RowPlace)) (placed_rows : List PieceRow)
    → walks ≡ map walked g.sections
    → row_places ≡ map (group_row_place rows) g.sections
    → g ≡ groups_of all
    → placed_rows ≡ rows_by (row_in g.sections walks row_places) (replicate (length g.sections) 0) g.order
    → placed_rows ≡ piece_rows rows all
placed_in_turn rows all g walks row_places placed_rows walk row_place groups reported =
    reported
    ∙ (λ i. rows_by (row_in g.sections (walk i) (row_place i)) (replicate (length g.sections) 0) g.order)
    ∙ ap (λ (h : Groups). rows_by (row_in h.sections (map walked h.sections) (map (group_row_place rows) h.sections)) (replicate (length h.sections) 0) h.order) groups
    ∙ groups_in_turn rows all
