-- The records of a full link are read back, and the rows of pieces read from them are those of its placement.
use Rattle.std.specs.Prelude.{◌≡◌, refl, ℕ, suc, nat_eq, ◌+◌, ◌^◌, ◌<◌, true, false, List, [], ◌∷◌, ◌++◌, filter, filter_map, length, map, Some, Ok, slice_get}
use Rattle.std.specs.List.{AllByRecursion, IsDistinct, enumerate_from, flat_map}
use Rattle.std.proofs.Common.{arith}
use Rattle.std.proofs.lemmas.List.Elements.{filter-append}
use mathlib.Core.Path.{sym, subst, ap, ◌∙◌}
use Rattle.lk_report.specs.declared.causes.OptionRecord.{OptionRecord}
use Rattle.lk_model.specs.Adding.{added_inputs, numbers_in}
use Rattle.lk_model.specs.Finding.{Found, found_of}
use Rattle.lk_model.specs.FullPlace.{full_place, piece_rows}
use Rattle.lk_model.specs.InputsReading.{ReadInputs, inputs_read}
use Rattle.lk_model.specs.InputsSection.{inputs_fields}
use Rattle.lk_model.specs.KeptPieces.{bss_key, is_input_piece, kept_sections, name_pieces}
use Rattle.lk_model.specs.NeedsOf.{needs_of}
use Rattle.lk_model.specs.Keys.{piece_row_of}
use Rattle.lk_model.specs.Numbered.{Numbered}
use Rattle.lk_model.specs.RecordFields.{spelled, texts_of}
use Rattle.lk_model.specs.RecordedPlace.{is_made_piece, placed_of, recorded_order}
use Rattle.lk_model.specs.RecordsOf.{input_record, records_of}
use Rattle.lk_model.specs.References.{sited_of}
use Rattle.lk_model.specs.Resolving.{paths_of, resolve}
use Rattle.lk_model.specs.Texts.{offset_in, table_bytes, table_of}
use Rattle.lk_model.specs.Views.{Input, KeptPiece, Resolved}
use Rattle.lk_model.specs.declared.layouts.PieceId.TheVariants as id
use Rattle.lk_model.specs.declared.layouts.PieceRow.{PieceRow}
use Rattle.lk_model.specs.declared.layouts.Placement.{Placement}
use Rattle.lk_model.specs.declared.summaries.InputSummary.{InputSummary}
use Rattle.lk_model.specs.declared.summaries.PieceInfo.{PieceInfo}
use Rattle.lk_law_records.specs.Recordable.{InputFits, IsRecordable, PieceFits, numbers_of}
use Rattle.lk_model.proofs.AddedOnce.{IsOf, added_of, added_distinct}
use Rattle.lk_law_records.proofs.Candidates.{HasDistinct, candidates, candidates-apart, candidates-input, kept-within}
use Rattle.lk_law_records.proofs.FoundAgain.{Matches, row_among}
use Rattle.lk_law_records.proofs.InputsRead.{inputs-read, read_of_records}
use Rattle.lk_law_records.proofs.KeptRows.{names-bss, names-made, rows-append, rows-made, rows-within, rows_from}
use Rattle.lk_law_records.proofs.LinkFields.{PiecesSuit, fields-of-records-fit, inputs-suit}
use Rattle.lk_law_records.proofs.Lists.{all-at, all-placed, filter-all, filter-none}
use Rattle.lk_law_records.proofs.PlacedAgain.{found-there, piece-suits, placed-again, rows-again, rows-are}
use Rattle.lk_law_records.proofs.ReadOrder.{order-again, read_from}
use Rattle.lk_law_records.proofs.RecordValues.{Suits}
use Rattle.lk_law_records.proofs.Within.{Within, within-through}

-- ---- what is used of a full link

-- the kept pieces are the kept sections of the added inputs, then pieces of names, and the placement has the
-- rows of these
pub record IsFull (r : Resolved) (place : Placement) : Type 0 where
  pub names : List KeptPiece
  pub kept : r.kept ≡ kept_sections (added_inputs r.options.entry r.inputs) ++ names
  pub made : AllByRecursion (λ (k : KeptPiece). is_input_piece k ≡ false) names
  pub bss : AllByRecursion (λ (k : KeptPiece). k.key ≡ bss_key) names
  pub pieces : place.pieces ≡ rows_from place.sections r.kept 0 r.kept

pub full-link : (options : OptionRecord) (inputs : List Input) → IsFull (resolve options inputs) (full_place (resolve options inputs))
unfolding resolve found_of full_place piece_rows
full-link options inputs =
    let found : Found = found_of (paths_of inputs) options.entry (added_inputs options.entry inputs) in
    let copies : List ℕ = (needs_of found (sited_of found.names inputs found.sections)).copies in
    record { names = name_pieces copies found.names found.winners; kept = refl; made = names-made copies found.names found.winners; bss = names-bss copies found.names found.winners; pieces = refl }

module _ (r : Resolved) (place : Placement) (full : IsFull r place) where
  -- ---- the rows of sections, then those of commons and copies

  abbrev added : List Numbered
  added = added_inputs r.options.entry r.inputs

  abbrev section_rows : List PieceRow
  section_rows = rows_from place.sections r.kept 0 (kept_sections added)

  abbrev made_rows : List PieceRow
  made_rows = rows_from place.sections r.kept (0 + length (kept_sections added)) full.names

  two-parts : place.pieces ≡ section_rows ++ made_rows
  two-parts =
      full.pieces ∙ ap (rows_from place.sections r.kept 0) full.kept ∙ rows-append place.sections r.kept 0 (kept_sections added) full.names

  sections-within : Within (Matches place.sections) section_rows (candidates added)
  sections-within =
      within-through (Matches place.sections) section_rows (kept_sections added) (candidates added)
      (rows-within place.sections r.kept 0 (kept_sections added)) (kept-within added)

  rows-are-made : AllByRecursion (λ (row : PieceRow). is_made_piece row ≡ true) made_rows
  rows-are-made = rows-made place.sections false made_rows full.names (rows-within place.sections r.kept (0 + length (kept_sections added)) full.names) full.made

  rows-are-unmade : AllByRecursion (λ (row : PieceRow). is_made_piece row ≡ false) section_rows
  rows-are-unmade = rows-made place.sections true section_rows (candidates added) sections-within (candidates-input added)

  made-left : filter is_made_piece place.pieces ≡ made_rows
  made-left =
      ap (filter is_made_piece) two-parts
      ∙ filter-append is_made_piece section_rows made_rows
      ∙ ap (λ l. l ++ filter is_made_piece made_rows) (filter-none is_made_piece section_rows rows-are-unmade)
      ∙ filter-all is_made_piece made_rows rows-are-made

  module _ (fits : AllByRecursion InputFits r.inputs) where
    inputs-distinct : AllByRecursion (λ (i : Input). IsDistinct nat_eq (numbers_of i.summary.pieces)) r.inputs
    inputs-distinct = all-placed (λ (i : Input). IsDistinct nat_eq (numbers_of i.summary.pieces)) r.inputs (λ n i e. (all-at InputFits r.inputs n i fits e).summary.sections)

    added-distinct : AllByRecursion HasDistinct added
    added-distinct =
        all-placed HasDistinct added (λ k m e.
        let there = found-there r.inputs m (all-at (IsOf r.inputs) added k m (added_of r.options.entry r.inputs) e) in
        subst (λ (s : InputSummary). IsDistinct nat_eq (numbers_of s.pieces)) there.1.1
        (all-at (λ (x : Input). IsDistinct nat_eq (numbers_of x.summary.pieces)) r.inputs m.number there.0 inputs-distinct there.1.0))

    -- ---- the pieces suit their rows

    suits : (n : ℕ) (i : Input) → slice_get r.inputs n ≡ Some i → PiecesSuit place n i
    suits n i found =
        let own = all-at InputFits r.inputs n i fits found in
        let each = rows-are place.sections r.inputs added section_rows inputs-distinct (added_of r.options.entry r.inputs) sections-within in
        all-placed (λ (p : PieceInfo). Suits place.sections n p (piece_row_of place (id.Section n p.section))) i.summary.pieces (λ k p at.
        subst (λ rows. Suits place.sections n p (row_among rows (id.Section n p.section))) (sym two-parts)
        (piece-suits place.sections r.inputs section_rows made_rows n i k p each rows-are-made found at (all-at PieceFits i.summary.pieces k p own.summary.pieces at)))

    -- ---- the rows are read in adding order

    pub rows-in-order : (x : ReadInputs) → x.options.entry ≡ r.options.entry → x.inputs ≡ read_from place r.added 0 r.inputs
        → flat_map (placed_of x) (recorded_order x) ++ filter is_made_piece place.pieces ≡ place.pieces
    rows-in-order x entry read =
        let order : recorded_order x ≡ numbers_in added = order-again x place r.added r.options.entry r.inputs entry read in
        let look : List PieceRow → List PieceRow = λ rows. filter_map (λ (k : KeptPiece). row_among rows k.piece) (candidates added) in
        let apart = candidates-apart added (added_distinct r.options.entry r.inputs) added-distinct in
        let first : flat_map (placed_of x) (recorded_order x) ≡ section_rows =
        ap (flat_map (placed_of x)) order
        ∙ placed-again x place r.added r.inputs added read (added_of r.options.entry r.inputs)
        ∙ ap look two-parts
        ∙ rows-again place.sections section_rows made_rows added sections-within apart rows-are-made in
        ap (λ l. l ++ filter is_made_piece place.pieces) first ∙ ap (λ l. section_rows ++ l) made-left ∙ sym two-parts

-- ---- the records

-- the sections of inputs and of texts of a link
abbrev pub link_inputs : Resolved → Placement → List ℕ
link_inputs r place =
    let fields = inputs_fields (records_of r place) in
    spelled (offset_in (table_of (texts_of fields))) fields

abbrev pub link_texts : Resolved → Placement → List ℕ
link_texts r place = table_bytes (table_of (texts_of (inputs_fields (records_of r place))))

length-recorded : (order : List ℕ) (n : ℕ) (inputs : List Input) → length (map (input_record order) (enumerate_from n inputs)) ≡ length inputs
length-recorded order n [] = refl
length-recorded order n (i ∷ inputs) = ap suc (length-recorded order (n + 1) inputs)

-- they are read back
pub link-read : (r : Resolved) (place : Placement) → IsFull r place → IsRecordable r place → length (link_texts r place) < 2 ^ 32
    → inputs_read (link_inputs r place) (link_texts r place) ≡ Ok (read_of_records (records_of r place))
unfolding records_of
link-read r place full ok low =
    let records = records_of r place in
    let counted : length records.inputs ≡ length r.inputs = length-recorded r.added 0 r.inputs in
    let count = ok.input_count in
    let sections = ok.section_count in
    let each = suits r place full ok.inputs in
    let from-zero : (j : ℕ) (i : Input) → slice_get r.inputs j ≡ Some i → PiecesSuit place (0 + j) i =
    λ j i e. let at : j ≡ 0 + j = omega arith in subst (λ k. PiecesSuit place k i) at (each j i e) in
    inputs-read records refl (inputs-suit place r.added 0 r.inputs ok.inputs from-zero)
    (fields-of-records-fit records r.added r.inputs refl refl ok.options (omega (arith, counted, count)) (omega (arith, sections)) ok.sections ok.pieces ok.inputs each)
    low
