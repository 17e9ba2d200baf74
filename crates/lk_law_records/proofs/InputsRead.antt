-- The section of inputs is read back: its options, its output sections, its inputs with their pieces,
-- symbols and groups. Each reader gives back what was spelled and leaves what is behind it.
use Rattle.std.proofs.Common.{◌≡◌, ℕ, ◌+◌, ◌^◌, ◌<◌, Bool, true, false, List, [], ◌∷◌, ◌++◌, length, drop, refl, ap, ◌∙◌, arith, append_assoc}
use Rattle.std.specs.Prelude.{Option, Ok, nat_le, ◌==◌, ◌&&◌, not, map}
use Rattle.std.specs.List.{flat_map, AllByRecursion, enumerate_from}
use Rattle.std.proofs.lemmas.List.{map-id}
use Rattle.lk_elf.specs.Fields.{num}
use Rattle.lk_model.specs.InputsReading.{Head, head_forms, head_with, section_forms, section_with, ReadPiece, piece_forms, piece_with, global_forms, global_with, group_forms, group_head, number_with, InputHead, input_forms, input_with, read_group, input_of, ReadInput, ReadInputs, read_input, read_inputs_from, read_all, inputs_read}
use Rattle.lk_model.specs.InputsSection.{inputs_fields, head_fields, section_fields, input_head, piece_fields, global_fields, group_fields, input_fields}
use Rattle.lk_model.specs.Keys.{piece_row_of}
use Rattle.lk_model.specs.RecordFields.{Field, spelled, field_bytes, texts_of}
use Rattle.lk_model.specs.RecordFields.Field.{Short}
use Rattle.lk_model.specs.RecordForms.{Given, given_then, read_record, read_many}
use Rattle.lk_model.specs.RecordForms.Form.{Num32}
use Rattle.lk_model.specs.Texts.{table_of, table_bytes, offset_in, text_at}
use Rattle.lk_model.specs.declared.layouts.PieceId.TheVariants as id
use Rattle.lk_model.specs.declared.layouts.Placement.{Placement}
use Rattle.lk_model.specs.declared.layouts.SectionRow.{SectionRow}
use Rattle.lk_model.specs.declared.records.InputRecord.{InputRecord}
use Rattle.lk_model.specs.declared.records.Records.{Records}
use Rattle.lk_model.specs.declared.summaries.Global.{Global}
use Rattle.lk_model.specs.declared.summaries.Group.{Group}
use Rattle.lk_model.specs.declared.summaries.PieceInfo.{PieceInfo}
use Rattle.lk_law_records.specs.Recordable.{GlobalFits, StampFits}
use Rattle.lk_law_records.proofs.Fields.{AreFieldsFit, fields-fit}
use Rattle.lk_law_records.proofs.RecordValues.{head_values, head_of, head-is, row_values, row-is, piece_values, read_as, Suits, piece-is, global_values, global-is, group_values, group-is, input_values, head_of_input, input-is}
use Rattle.lk_law_records.proofs.Records.{flat, FieldsFit, fit-first, fit-second, spelled-append, front-number, record-back, given-ok, EachBack, many-back}

-- fields in a row are spelled in a row
spelled-flat : {X : Type 0} (offset : List ℕ → ℕ) (f : X → List Field) (xs : List X) → spelled offset (flat_map f xs) ≡ flat_map (λ x. spelled offset (f x)) xs
unfolding spelled
spelled-flat offset f [] = refl
spelled-flat offset f (x ∷ xs) = spelled-append offset (f x) (flat_map f xs) ∙ ap (λ l. spelled offset (f x) ++ l) (spelled-flat offset f xs)

spelled-none : (offset : List ℕ → ℕ) → spelled offset [] ≡ []
unfolding spelled
spelled-none offset = refl

-- two parts, and what is behind them
spelled-two : (offset : List ℕ → ℕ) (xs ys : List Field) (rest : List ℕ) → spelled offset (xs ++ ys) ++ rest ≡ spelled offset xs ++ (spelled offset ys ++ rest)
spelled-two offset xs ys rest =
    ap (λ l. l ++ rest) (spelled-append offset xs ys) ∙ append_assoc (spelled offset xs) (spelled offset ys) rest

-- ---- what is read

-- a piece of an input, with its row at a placement
abbrev pub read_in : Placement → ℕ → PieceInfo → ReadPiece
read_in place n p = read_as p (piece_row_of place (id.Section n p.section))

abbrev pub read_of : Placement → ℕ × InputRecord → ReadInput
read_of place (n, i) = input_of (head_of_input i) (map (read_in place n) i.summary.pieces) i.summary.globals i.summary.groups

abbrev pub read_of_records : Records → ReadInputs
read_of_records r = record { options = r.options; sections = r.placement.sections; inputs = map (read_of r.placement) (enumerate_from 0 r.inputs) }

-- what an input keeps to beside its fields
pub record InputSuits (place : Placement) (n : ℕ) (i : InputRecord) : Type 0 where
  pub stamp : StampFits i.stamp
  pub pieces : AllByRecursion (λ (p : PieceInfo). Suits place.sections n p (piece_row_of place (id.Section n p.section))) i.summary.pieces
  pub globals : AllByRecursion GlobalFits i.summary.globals

abbrev pub AllSuit : Placement → List (ℕ × InputRecord) → Type 0
AllSuit place [] = Unit {0}
AllSuit place ((n, i) ∷ inputs) = InputSuits place n i × AllSuit place inputs

module _ (texts : ℕ → Option (List ℕ)) (offset : List ℕ → ℕ) where
  -- so many records of one kind are read back
  all-back : {X Y : Type 0} (one : List ℕ → Given Y) (f : X → List Field) (value : X → Y) (xs : List X) (rest : List ℕ) → EachBack one (λ x. spelled offset (f x)) value xs
      → read_many one (length xs) (spelled offset (flat_map f xs) ++ rest) ≡ Ok (map value xs, rest)
  all-back one f value xs rest each =
      ap (λ l. read_many one (length xs) (l ++ rest)) (spelled-flat offset f xs) ∙ many-back one (λ x. spelled offset (f x)) value xs rest each

  -- ---- output sections

  rows-each : (rows : List SectionRow) → FieldsFit texts offset (flat_map section_fields rows)
      → EachBack (read_record texts section_forms section_with) (λ row. spelled offset (section_fields row)) (λ row. row) rows
  rows-each [] fit = tt
  rows-each (row ∷ rows) fit = (
    λ rest. record-back texts offset section_forms section_with (row_values row) row rest (fit-first texts offset (section_fields row) (flat_map section_fields rows) fit) (row-is row),
    rows-each rows (fit-second texts offset (section_fields row) (flat_map section_fields rows) fit),
  )

  pub rows-back : (rows : List SectionRow) (rest : List ℕ) → FieldsFit texts offset (flat_map section_fields rows)
      → read_many (read_record texts section_forms section_with) (length rows) (spelled offset (flat_map section_fields rows) ++ rest) ≡ Ok (rows, rest)
  rows-back rows rest fit =
      all-back (read_record texts section_forms section_with) section_fields (λ row. row) rows rest (rows-each rows fit) ∙ ap (λ l. Ok (l, rest)) (map-id rows)

  -- ---- pieces

  pieces-each : (place : Placement) (n : ℕ) (ps : List PieceInfo) → FieldsFit texts offset (flat_map (piece_fields place n) ps)
      → AllByRecursion (λ (p : PieceInfo). Suits place.sections n p (piece_row_of place (id.Section n p.section))) ps
      → EachBack (read_record texts piece_forms (piece_with place.sections n)) (λ p. spelled offset (piece_fields place n p)) (read_in place n) ps
  pieces-each place n [] fit suits = tt
  pieces-each place n (p ∷ ps) fit (here, more) =
      let row = piece_row_of place (id.Section n p.section) in (
        λ rest. record-back texts offset piece_forms (piece_with place.sections n) (piece_values p row) (read_as p row) rest
            (fit-first texts offset (piece_fields place n p) (flat_map (piece_fields place n) ps) fit) (piece-is place.sections n p row here),
        pieces-each place n ps (fit-second texts offset (piece_fields place n p) (flat_map (piece_fields place n) ps) fit) more,
      )

  -- ---- symbols

  globals-each : (gs : List Global) → FieldsFit texts offset (flat_map global_fields gs) → AllByRecursion GlobalFits gs
      → EachBack (read_record texts global_forms global_with) (λ g. spelled offset (global_fields g)) (λ g. g) gs
  globals-each [] fit good = tt
  globals-each (g ∷ gs) fit (here, more) = (
    λ rest. record-back texts offset global_forms global_with (global_values g) g rest (fit-first texts offset (global_fields g) (flat_map global_fields gs) fit) (global-is g here),
    globals-each gs (fit-second texts offset (global_fields g) (flat_map global_fields gs) fit) more,
  )

  -- ---- groups

  members-back : (ms : List ℕ) (rest : List ℕ) → FieldsFit texts offset (map Short ms)
      → read_many (read_record texts (Num32 ∷ []) number_with) (length ms) (spelled offset (map Short ms) ++ rest) ≡ Ok (ms, rest)
  members-back [] rest fit = ap (λ l. Ok ([], l ++ rest)) (spelled-none offset)
  members-back (m ∷ ms) rest fit =
      let one = read_record texts (Num32 ∷ []) number_with in
      let later = spelled offset (map Short ms) ++ rest in
      let here = record-back texts offset (Num32 ∷ []) number_with (m, tt) m later (fit.0, tt) refl in
      let more = members-back ms rest fit.1 in
      ap (λ l. read_many one (length (m ∷ ms)) l) (spelled-two offset (Short m ∷ []) (map Short ms) rest)
      ∙ given-ok (one (spelled offset (Short m ∷ []) ++ later)) (λ x left. given_then (read_many one (length ms) left) (λ xs end. Ok (x ∷ xs, end))) m later (Ok (m ∷ ms, rest)) here
      (given-ok (read_many one (length ms) later) (λ xs end. Ok (m ∷ xs, end)) ms rest (Ok (m ∷ ms, rest)) more refl)

  group-back : (g : Group) (rest : List ℕ) → FieldsFit texts offset (group_fields g) → read_group texts (spelled offset (group_fields g) ++ rest) ≡ Ok (g, rest)
  group-back g rest (signature, (count, members)) =
      let head = spelled offset (map Short g.members) ++ rest in
      let after : List ℕ × ℕ → List ℕ → Given Group =
      λ (signature, count) left. given_then (read_many (read_record texts (Num32 ∷ []) number_with) count left) (λ ms end. Ok (record { signature = signature; members = ms }, end)) in
      let first = record-back texts offset group_forms group_head (group_values g) (g.signature, length g.members) head (signature, (count, tt)) (group-is g) in
      let second = members-back g.members rest members in
      ap (λ l. read_group texts l) (spelled-two offset (flat group_forms (group_values g)) (map Short g.members) rest)
      ∙ given-ok (read_record texts group_forms group_head (spelled offset (flat group_forms (group_values g)) ++ head)) after (g.signature, length g.members) head (Ok (g, rest)) first
      (given-ok (read_many (read_record texts (Num32 ∷ []) number_with) (length g.members) head) (λ ms end. Ok (record { signature = g.signature; members = ms }, end)) g.members rest (Ok (g, rest)) second refl)

  groups-each : (gs : List Group) → FieldsFit texts offset (flat_map group_fields gs) → EachBack (read_group texts) (λ g. spelled offset (group_fields g)) (λ g. g) gs
  groups-each [] fit = tt
  groups-each (g ∷ gs) fit = (
    λ rest. group-back g rest (fit-first texts offset (group_fields g) (flat_map group_fields gs) fit),
    groups-each gs (fit-second texts offset (group_fields g) (flat_map group_fields gs) fit),
  )

  -- ---- an input

  after_globals : InputHead → List ReadPiece → List Global → List ℕ → Given ReadInput
  after_globals h pieces globals bytes =
      given_then (read_many (read_group texts) h.groups bytes) (λ groups rest. Ok (input_of h pieces globals groups, rest))

  after_pieces : InputHead → List ReadPiece → List ℕ → Given ReadInput
  after_pieces h pieces bytes = given_then (read_many (read_record texts global_forms global_with) h.globals bytes) (after_globals h pieces)

  after_input : List SectionRow → ℕ → InputHead → List ℕ → Given ReadInput
  after_input rows n h bytes = given_then (read_many (read_record texts piece_forms (piece_with rows n)) h.pieces bytes) (after_pieces h)

  input-back : (place : Placement) (n : ℕ) (i : InputRecord) (rest : List ℕ) → InputSuits place n i → FieldsFit texts offset (input_fields place (n, i))
      → read_input texts place.sections n (spelled offset (input_fields place (n, i)) ++ rest) ≡ Ok (read_of place (n, i), rest)
  unfolding after_globals after_pieces after_input
  input-back place n i rest suits fit =
      let rows = place.sections in
      let s = i.summary in
      let h = head_of_input i in
      let head = input_head i in
      let ps = flat_map (piece_fields place n) s.pieces in
      let gs = flat_map global_fields s.globals in
      let cs = flat_map group_fields s.groups in
      let fit-three = fit-first texts offset (head ++ ps ++ gs) cs fit in
      let fit-two = fit-first texts offset (head ++ ps) gs fit-three in
      let fit-head = fit-first texts offset head ps fit-two in
      let fit-pieces = fit-second texts offset head ps fit-two in
      let fit-globals = fit-second texts offset (head ++ ps) gs fit-three in
      let fit-groups = fit-second texts offset (head ++ ps ++ gs) cs fit in
      let behind-globals = spelled offset cs ++ rest in
      let behind-pieces = spelled offset gs ++ behind-globals in
      let behind-head = spelled offset ps ++ behind-pieces in
      let shape : spelled offset (input_fields place (n, i)) ++ rest ≡ spelled offset head ++ behind-head =
      spelled-two offset (head ++ ps ++ gs) cs rest ∙ spelled-two offset (head ++ ps) gs behind-globals ∙ spelled-two offset head ps behind-pieces in
      let pieces = map (read_in place n) s.pieces in
      let result : Given ReadInput = Ok (read_of place (n, i), rest) in
      let fourth : after_globals h pieces s.globals behind-globals ≡ result =
      given-ok (read_many (read_group texts) (length s.groups) behind-globals) (λ groups left. Ok (input_of h pieces s.globals groups, left)) s.groups rest result
      (all-back (read_group texts) group_fields (λ g. g) s.groups rest (groups-each s.groups fit-groups) ∙ ap (λ l. Ok (l, rest)) (map-id s.groups)) refl in
      let third : after_pieces h pieces behind-pieces ≡ result =
      given-ok (read_many (read_record texts global_forms global_with) (length s.globals) behind-pieces) (after_globals h pieces) s.globals behind-globals result
      (all-back (read_record texts global_forms global_with) global_fields (λ g. g) s.globals behind-globals (globals-each s.globals fit-globals suits.globals) ∙ ap (λ l. Ok (l, behind-globals)) (map-id s.globals)) fourth in
      let second : after_input rows n h behind-head ≡ result =
      given-ok (read_many (read_record texts piece_forms (piece_with rows n)) (length s.pieces) behind-head) (after_pieces h) pieces behind-pieces result
      (all-back (read_record texts piece_forms (piece_with rows n)) (piece_fields place n) (read_in place n) s.pieces behind-pieces (pieces-each place n s.pieces fit-pieces suits.pieces)) third in
      ap (λ l. read_input texts rows n l) shape
      ∙ given-ok (read_record texts input_forms input_with (spelled offset head ++ behind-head)) (after_input rows n) h behind-head result
      (record-back texts offset input_forms input_with (input_values i) h behind-head fit-head (input-is i suits.stamp)) second

  -- ---- all inputs

  inputs-back : (place : Placement) (n : ℕ) (is : List InputRecord) (rest : List ℕ) → AllSuit place (enumerate_from n is) → FieldsFit texts offset (flat_map (input_fields place) (enumerate_from n is))
      → read_inputs_from texts place.sections n (length is) (spelled offset (flat_map (input_fields place) (enumerate_from n is)) ++ rest)
      ≡ Ok (map (read_of place) (enumerate_from n is), rest)
  inputs-back place n [] rest suits fit = ap (λ l. Ok ([], l ++ rest)) (spelled-none offset)
  inputs-back place n (i ∷ is) rest (here, more) fit =
      let rows = place.sections in
      let own = input_fields place (n, i) in
      let others = flat_map (input_fields place) (enumerate_from (n + 1) is) in
      let later = spelled offset others ++ rest in
      let read = map (read_of place) (enumerate_from (n + 1) is) in
      let first = input-back place n i later here (fit-first texts offset own others fit) in
      let second = inputs-back place (n + 1) is rest more (fit-second texts offset own others fit) in
      let result : Given (List ReadInput) = Ok (read_of place (n, i) ∷ read, rest) in
      ap (λ l. read_inputs_from texts rows n (length (i ∷ is)) l) (spelled-two offset own others rest)
      ∙ given-ok (read_input texts rows n (spelled offset own ++ later)) (λ x left. given_then (read_inputs_from texts rows (n + 1) (length is) left) (λ xs end. Ok (x ∷ xs, end))) (read_of place (n, i)) later result first
      (given-ok (read_inputs_from texts rows (n + 1) (length is) later) (λ xs end. Ok (read_of place (n, i) ∷ xs, end)) read rest result second refl)

  after_inputs : Head → List SectionRow → List ReadInput → List ℕ → Given ReadInputs
  after_inputs h rows inputs bytes = Ok (record { options = h.options; sections = rows; inputs = inputs }, bytes)

  after_rows : Head → List SectionRow → List ℕ → Given ReadInputs
  after_rows h rows bytes = given_then (read_inputs_from texts rows 0 h.inputs bytes) (after_inputs h rows)

  after_head : Head → List ℕ → Given ReadInputs
  after_head h bytes = given_then (read_many (read_record texts section_forms section_with) h.sections bytes) (after_rows h)

  all-read : (r : Records) (rest : List ℕ) → AllSuit r.placement (enumerate_from 0 r.inputs)
      → FieldsFit texts offset (head_fields r) → FieldsFit texts offset (flat_map section_fields r.placement.sections)
      → FieldsFit texts offset (flat_map (input_fields r.placement) (enumerate_from 0 r.inputs))
      → read_all texts
      (spelled offset (head_fields r) ++ (spelled offset (flat_map section_fields r.placement.sections)
      ++ (spelled offset (flat_map (input_fields r.placement) (enumerate_from 0 r.inputs)) ++ rest)))
      ≡ Ok (read_of_records r, rest)
  unfolding after_inputs after_rows after_head
  all-read r rest suits fit-head fit-rows fit-inputs =
      let place = r.placement in
      let rows = place.sections in
      let h = head_of r in
      let inputs = spelled offset (flat_map (input_fields place) (enumerate_from 0 r.inputs)) ++ rest in
      let behind = spelled offset (flat_map section_fields rows) ++ inputs in
      let read = map (read_of place) (enumerate_from 0 r.inputs) in
      let result : Given ReadInputs = Ok (read_of_records r, rest) in
      let third : after_rows h rows inputs ≡ result =
      given-ok (read_inputs_from texts rows 0 (length r.inputs) inputs) (after_inputs h rows) read rest result (inputs-back place 0 r.inputs rest suits fit-inputs) refl in
      let second : after_head h behind ≡ result =
      given-ok (read_many (read_record texts section_forms section_with) (length rows) behind) (after_rows h) rows inputs result (rows-back rows inputs fit-rows) third in
      given-ok (read_record texts head_forms head_with (spelled offset (head_fields r) ++ behind)) after_head h behind result
      (record-back texts offset head_forms head_with (head_values r) h behind fit-head (head-is r)) second

-- the version that is at the front
front-version : (offset : List ℕ → ℕ) (r : Records) (rest : List ℕ) → r.version ≡ 1 → num (spelled offset (head_fields r) ++ rest) 0 4 ≡ 1
unfolding num spelled
front-version offset r rest version =
    front-number 4 r.version (flat_map (field_bytes offset) (drop 1 (head_fields r))) rest (omega (arith, version)) ∙ version

no-fault : (b : Bool) → (b && not (1 == 1)) ≡ false
no-fault true = refl
no-fault false = refl

-- a section whose version is 1 and whose records are read to its end
read-whole : (bytes texts : List ℕ) (x : ReadInputs) → num bytes 0 4 ≡ 1 → read_all (text_at texts) bytes ≡ Ok (x, []) → inputs_read bytes texts ≡ Ok x
unfolding inputs_read
read-whole bytes texts x version back = rw (version, no-fault (nat_le 4 (length bytes)), back) refl

none-behind : (l : List ℕ) → l ≡ l ++ []
none-behind [] = refl
none-behind (b ∷ l) = ap (λ r. b ∷ r) (none-behind l)

fields-read : (r : Records) (texts : List ℕ) (offset : List ℕ → ℕ) → r.version ≡ 1 → AllSuit r.placement (enumerate_from 0 r.inputs)
    → FieldsFit (text_at texts) offset (inputs_fields r) → inputs_read (spelled offset (inputs_fields r)) texts ≡ Ok (read_of_records r)
unfolding inputs_fields
fields-read r texts offset version suits fit =
    let place = r.placement in
    let head = head_fields r in
    let rows = flat_map section_fields place.sections in
    let inputs = flat_map (input_fields place) (enumerate_from 0 r.inputs) in
    let fit-two = fit-first (text_at texts) offset (head ++ rows) inputs fit in
    let behind = spelled offset rows ++ (spelled offset inputs ++ []) in
    let shape : spelled offset (head ++ rows ++ inputs) ≡ spelled offset head ++ behind =
    none-behind (spelled offset (head ++ rows ++ inputs)) ∙ spelled-two offset (head ++ rows) inputs [] ∙ spelled-two offset head rows (spelled offset inputs ++ []) in
    let back = all-read (text_at texts) offset r [] suits
    (fit-first (text_at texts) offset head rows fit-two) (fit-second (text_at texts) offset head rows fit-two) (fit-second (text_at texts) offset (head ++ rows) inputs fit) in
    read-whole (spelled offset (head ++ rows ++ inputs)) texts (read_of_records r)
    (ap (λ l. num l 0 4) shape ∙ front-version offset r behind version) (ap (λ l. read_all (text_at texts) l) shape ∙ back)

-- the section of inputs is read back with the section of its texts
pub inputs-read : (r : Records) → r.version ≡ 1 → AllSuit r.placement (enumerate_from 0 r.inputs) → AreFieldsFit (inputs_fields r)
    → let table = table_of (texts_of (inputs_fields r)) in
    length (table_bytes table) < 2 ^ 32 → inputs_read (spelled (offset_in table) (inputs_fields r)) (table_bytes table) ≡ Ok (read_of_records r)
inputs-read r version suits fit low =
    let table = table_of (texts_of (inputs_fields r)) in
    fields-read r (table_bytes table) (offset_in table) version suits (fields-fit (inputs_fields r) low fit)
