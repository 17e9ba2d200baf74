-- The rows of the pieces of inputs are read again: each piece has its own row or none, and in adding order
-- they are the placement's.
use Rattle.std.specs.Prelude.{◌≡◌, refl, ℕ, zero, suc, nat_eq, ◌+◌, true, false, List, [], ◌∷◌, ◌++◌, map, filter_map, Option, Some, None, option_map, slice_get}
use Rattle.std.specs.List.{AllByRecursion, IsDistinct, cons_option, flat_map}
use Rattle.std.proofs.Common.{arith}
use Rattle.std.proofs.lemmas.Bool.Decides.{nat_tests}
use Rattle.std.proofs.lemmas.List.Elements.{filter_map-append}
use mathlib.Core.Path.{sym, subst, ap, ◌∙◌}
use Rattle.lk_model.specs.Adding.{numbers_in}
use Rattle.lk_model.specs.InputsReading.{ReadInputs, placed_rows}
use Rattle.lk_model.specs.Keys.{same_piece}
use Rattle.lk_model.specs.KeptPieces.{section_piece}
use Rattle.lk_model.specs.Numbered.{Numbered}
use Rattle.lk_model.specs.RecordedPlace.{is_made_piece, placed_of}
use Rattle.lk_model.specs.RecordsOf.{input_record}
use Rattle.lk_model.specs.Views.{Input, KeptPiece}
use Rattle.lk_model.specs.declared.layouts.PieceId.{PieceId}
use Rattle.lk_model.specs.declared.layouts.PieceId.TheVariants as id
use Rattle.lk_model.specs.declared.layouts.PieceRow.{PieceRow}
use Rattle.lk_model.specs.declared.layouts.Placement.{Placement}
use Rattle.lk_model.specs.declared.layouts.SectionRow.{SectionRow}
use Rattle.lk_model.specs.declared.summaries.InputSummary.{InputSummary}
use Rattle.lk_model.specs.declared.summaries.PieceInfo.{PieceInfo}
use Rattle.lk_law_records.specs.Recordable.{PieceFits, numbers_of}
use Rattle.lk_model.proofs.AddedOnce.{IsOf}
use Rattle.lk_law_records.proofs.Candidates.{candidates, sections_of}
use Rattle.lk_law_records.proofs.FoundAgain.{Matches, AllApart, among-first, among-has, found-again, row_among}
use Rattle.lk_law_records.proofs.InputsRead.{read_in, read_of}
use Rattle.lk_law_records.proofs.Lists.{all-append, all-at}
use Rattle.lk_law_records.proofs.ReadOrder.{read_from, read-at}
use Rattle.lk_law_records.proofs.RecordValues.{Suits}
use Rattle.lk_law_records.proofs.Within.{Within, within-all}

-- ---- pieces by their numbers

-- pieces with different numbers, by their numbers
not-same : (n : ℕ) (ps : List PieceInfo) (k : ℕ) (p : PieceInfo) → AllByRecursion (λ s. nat_eq n s ≡ false) (numbers_of ps) → slice_get ps k ≡ Some p → nat_eq n p.section ≡ false
not-same n [] k p all e = absurd (cc)
not-same n (q ∷ ps) zero p (here, more) e = let is : q ≡ p = cc in subst (λ (x : PieceInfo). nat_eq n x.section ≡ false) is here
not-same n (q ∷ ps) (suc k) p (here, more) e = not-same n ps k p more e

both-ways : (n m : ℕ) → n ≡ m → nat_eq n m ≡ false → ⊥
both-ways n m same differ = absurd (let own : nat_eq n m ≡ true = grind (arith, nat_tests) in cc)

one-section : (ps : List PieceInfo) (j k : ℕ) (p q : PieceInfo) → IsDistinct nat_eq (numbers_of ps) → slice_get ps j ≡ Some p → slice_get ps k ≡ Some q
    → p.section ≡ q.section → p ≡ q
unfolding IsDistinct
one-section [] j k p q distinct first second same = absurd (cc)
one-section (x ∷ ps) zero zero p q distinct first second same = cc
one-section (x ∷ ps) zero (suc k) p q (here, more) first second same =
    let is : x ≡ p = cc in
    absurd (both-ways x.section q.section (ap (λ (y : PieceInfo). y.section) is ∙ same) (not-same x.section ps k q here second))
one-section (x ∷ ps) (suc j) zero p q (here, more) first second same =
    let is : x ≡ q = cc in
    absurd (both-ways x.section p.section (ap (λ (y : PieceInfo). y.section) is ∙ sym same) (not-same x.section ps j p here first))
one-section (x ∷ ps) (suc j) (suc k) p q (here, more) first second same = one-section ps j k p q more first second same

-- ---- a row is that of its piece

-- a row that has the name of a piece of an input says the same as that piece
abbrev pub IsRowOf : List SectionRow → List Input → PieceRow → Type 0
IsRowOf sections inputs row =
    (n : ℕ) (i : Input) (k : ℕ) (p : PieceInfo) → slice_get inputs n ≡ Some i → slice_get i.summary.pieces k ≡ Some p
    → row.piece ≡ id.Section n p.section → Matches sections row (section_piece n p)

abbrev InputsDistinct : List Input → Type 0
InputsDistinct inputs = AllByRecursion (λ (i : Input). IsDistinct nat_eq (numbers_of i.summary.pieces)) inputs

summary-of : (inputs : List Input) (m : Numbered) (n : ℕ) (i : Input) → IsOf inputs m → n ≡ m.number → slice_get inputs n ≡ Some i → i.summary ≡ m.summary
summary-of inputs m n i is same found =
    let there : slice_get inputs m.number ≡ Some i = subst (λ k. slice_get inputs k ≡ Some i) same found in
    let both : Some i.summary ≡ Some m.summary = sym (ap (option_map (λ (x : Input). x.summary)) there) ∙ is in
    cc

input-part : PieceId → ℕ
input-part (id.Section n s) = n
input-part (id.Common n) = n
input-part (id.Copy n) = n

section-part : PieceId → ℕ
section-part (id.Section n s) = s
section-part (id.Common n) = n
section-part (id.Copy n) = n

row-of-piece : (sections : List SectionRow) (inputs : List Input) (m : Numbered) (j : ℕ) (q : PieceInfo) → InputsDistinct inputs → IsOf inputs m → slice_get m.summary.pieces j ≡ Some q
    → (row : PieceRow) → Matches sections row (section_piece m.number q) → IsRowOf sections inputs row
unfolding input-part section-part
row-of-piece sections inputs m j q distinct is at row matches n i k p found piece same =
    let named : id.Section n p.section ≡ id.Section m.number q.section = sym same ∙ matches.piece in
    let number : n ≡ m.number = ap input-part named in
    let section : p.section ≡ q.section = ap section-part named in
    let summary : i.summary ≡ m.summary = summary-of inputs m n i is number found in
    let at' : slice_get i.summary.pieces j ≡ Some q = subst (λ (s : InputSummary). slice_get s.pieces j ≡ Some q) (sym summary) at in
    let own = all-at (λ (x : Input). IsDistinct nat_eq (numbers_of x.summary.pieces)) inputs n i distinct found in
    let one : p ≡ q = one-section i.summary.pieces k j p q own piece at' section in
    subst (λ (x : PieceInfo). Matches sections row (section_piece n x)) (sym one)
    (subst (λ (x : ℕ). Matches sections row (section_piece x q)) (sym number) matches)

rows-of-sections : (sections : List SectionRow) (inputs : List Input) (n : ℕ) (ps : List PieceInfo)
    → ((j : ℕ) (q : PieceInfo) → slice_get ps j ≡ Some q → (row : PieceRow) → Matches sections row (section_piece n q) → IsRowOf sections inputs row)
    → AllByRecursion (λ (c : KeptPiece). (row : PieceRow) → Matches sections row c → IsRowOf sections inputs row) (sections_of n ps)
rows-of-sections sections inputs n [] each = tt
rows-of-sections sections inputs n (p ∷ ps) each = (each 0 p refl, rows-of-sections sections inputs n ps (λ j q e. each (suc j) q e))

rows-of-candidates : (sections : List SectionRow) (inputs : List Input) (added : List Numbered) → InputsDistinct inputs → AllByRecursion (IsOf inputs) added
    → AllByRecursion (λ (c : KeptPiece). (row : PieceRow) → Matches sections row c → IsRowOf sections inputs row) (candidates added)
rows-of-candidates sections inputs [] distinct each = tt
rows-of-candidates sections inputs (m ∷ ms) distinct (here, more) =
    all-append (λ (c : KeptPiece). (row : PieceRow) → Matches sections row c → IsRowOf sections inputs row) (sections_of m.number m.summary.pieces) (candidates ms)
    (rows-of-sections sections inputs m.number m.summary.pieces (λ j q e. row-of-piece sections inputs m j q distinct here e))
    (rows-of-candidates sections inputs ms distinct more)

-- each row that lies within the sections of the added inputs is that of its piece
pub rows-are : (sections : List SectionRow) (inputs : List Input) (added : List Numbered) (rows : List PieceRow) → InputsDistinct inputs → AllByRecursion (IsOf inputs) added
    → Within (Matches sections) rows (candidates added) → AllByRecursion (IsRowOf sections inputs) rows
rows-are sections inputs added rows distinct each within =
    within-all (Matches sections) (IsRowOf sections inputs) rows (candidates added) within (rows-of-candidates sections inputs added distinct each)

-- ---- the row that is recorded of a piece

made-other : (row : PieceRow) (n s : ℕ) → is_made_piece row ≡ true → same_piece row.piece (id.Section n s) ≡ false
made-other row n s made = go row.piece made
  where
    go : (p : PieceId) → elim p [ id.Section i t ↦ false | id.Common m ↦ true | id.Copy m ↦ true ] ≡ true → same_piece p (id.Section n s) ≡ false
    go (id.Section i t) e = absurd (cc)
    go (id.Common m) e = refl
    go (id.Copy m) e = refl

all-other : (rows : List PieceRow) (n s : ℕ) → AllByRecursion (λ (row : PieceRow). is_made_piece row ≡ true) rows → AllByRecursion (λ (row : PieceRow). same_piece row.piece (id.Section n s) ≡ false) rows
all-other [] n s made = tt
all-other (row ∷ rows) n s (here, more) = (made-other row n s here, all-other rows n s more)

-- the rows of a placement: those of sections, then those of commons and copies
pub section-row : (rows made : List PieceRow) (n s : ℕ) → AllByRecursion (λ (row : PieceRow). is_made_piece row ≡ true) made
    → row_among (rows ++ made) (id.Section n s) ≡ row_among rows (id.Section n s)
section-row rows made n s all = among-first rows made (id.Section n s) (all-other made n s all)

pub piece-suits : (sections : List SectionRow) (inputs : List Input) (rows made : List PieceRow) (n : ℕ) (i : Input) (k : ℕ) (p : PieceInfo)
    → AllByRecursion (IsRowOf sections inputs) rows → AllByRecursion (λ (row : PieceRow). is_made_piece row ≡ true) made
    → slice_get inputs n ≡ Some i → slice_get i.summary.pieces k ≡ Some p → PieceFits p
    → Suits sections n p (row_among (rows ++ made) (id.Section n p.section))
piece-suits sections inputs rows made n i k p each all found at fits =
    subst (Suits sections n p) (sym (section-row rows made n p.section all)) (go (row_among rows (id.Section n p.section)) refl)
  where
    go : (o : Option PieceRow) → row_among rows (id.Section n p.section) ≡ o → Suits sections n p o
    go None e = fits.key
    go (Some row) e =
        let (is, named) = among-has (IsRowOf sections inputs) rows (id.Section n p.section) row each e in
        let matches = is n i k p found at named in
        (named, matches.size, matches.align, matches.key)

-- ---- the rows in adding order

rows-read : (place : Placement) (n : ℕ) (ps : List PieceInfo) → placed_rows (map (read_in place n) ps) ≡ filter_map (λ (k : KeptPiece). row_among place.pieces k.piece) (sections_of n ps)
rows-read place n [] = refl
rows-read place n (p ∷ ps) = go (row_among place.pieces (id.Section n p.section)) (rows-read place n ps)
  where
    go : (o : Option PieceRow) → placed_rows (map (read_in place n) ps) ≡ filter_map (λ (k : KeptPiece). row_among place.pieces k.piece) (sections_of n ps)
        → elim o [ None ↦ placed_rows (map (read_in place n) ps) | Some row ↦ row ∷ placed_rows (map (read_in place n) ps) ]
        ≡ cons_option o (filter_map (λ (k : KeptPiece). row_among place.pieces k.piece) (sections_of n ps))
    go None rest = rest
    go (Some row) rest = ap (λ l. row ∷ l) rest

pub found-there : (inputs : List Input) (m : Numbered) → IsOf inputs m → (i : Input) × ((slice_get inputs m.number ≡ Some i) × (i.summary ≡ m.summary))
found-there inputs m is = go (slice_get inputs m.number) refl is
  where
    go : (o : Option Input) → slice_get inputs m.number ≡ o → option_map (λ (i : Input). i.summary) o ≡ Some m.summary
        → (i : Input) × ((slice_get inputs m.number ≡ Some i) × (i.summary ≡ m.summary))
    go None e h = absurd (cc)
    go (Some i) e h = let same : i.summary ≡ m.summary = cc in (i, (e, same))

pub placed-again : (x : ReadInputs) (place : Placement) (order : List ℕ) (inputs : List Input) (added : List Numbered) → x.inputs ≡ read_from place order 0 inputs → AllByRecursion (IsOf inputs) added
    → flat_map (placed_of x) (numbers_in added) ≡ filter_map (λ (k : KeptPiece). row_among place.pieces k.piece) (candidates added)
placed-again x place order inputs [] read each = refl
placed-again x place order inputs (m ∷ ms) read (here, more) =
    let (i, (found, summary)) = found-there inputs m here in
    let n = m.number in
    let own = sections_of n m.summary.pieces in
    let look : KeptPiece → Option PieceRow = λ k. row_among place.pieces k.piece in
    let at : slice_get x.inputs n ≡ Some (read_of place (n, input_record order (n, i))) =
    ap (λ l. slice_get l n) read ∙ read-at place order 0 inputs n i found ∙ (let e : 0 + n ≡ n = omega arith in ap (λ k. Some (read_of place (k, input_record order (k, i)))) e) in
    let first : placed_of x n ≡ filter_map look own =
    ap (λ o. elim o [ None ↦ [] | Some r ↦ r.placed ]) at ∙ rows-read place n i.summary.pieces ∙ ap (λ (s : InputSummary). filter_map look (sections_of n s.pieces)) summary in
    ap (λ l. l ++ flat_map (placed_of x) (numbers_in ms)) first
    ∙ ap (λ l. filter_map look own ++ l) (placed-again x place order inputs ms read more)
    ∙ sym (filter_map-append look own (candidates ms))

-- the rows of commons and copies are not looked at
look-sections : (rows made : List PieceRow) (n : ℕ) (ps : List PieceInfo) → AllByRecursion (λ (row : PieceRow). is_made_piece row ≡ true) made
    → filter_map (λ (k : KeptPiece). row_among (rows ++ made) k.piece) (sections_of n ps) ≡ filter_map (λ (k : KeptPiece). row_among rows k.piece) (sections_of n ps)
look-sections rows made n [] all = refl
look-sections rows made n (p ∷ ps) all =
    ap (λ o. cons_option o (filter_map (λ (k : KeptPiece). row_among (rows ++ made) k.piece) (sections_of n ps))) (section-row rows made n p.section all)
    ∙ ap (λ l. cons_option (row_among rows (id.Section n p.section)) l) (look-sections rows made n ps all)

look-candidates : (rows made : List PieceRow) (added : List Numbered) → AllByRecursion (λ (row : PieceRow). is_made_piece row ≡ true) made
    → filter_map (λ (k : KeptPiece). row_among (rows ++ made) k.piece) (candidates added) ≡ filter_map (λ (k : KeptPiece). row_among rows k.piece) (candidates added)
look-candidates rows made [] all = refl
look-candidates rows made (m ∷ ms) all =
    let both : KeptPiece → Option PieceRow = λ k. row_among (rows ++ made) k.piece in
    let look : KeptPiece → Option PieceRow = λ k. row_among rows k.piece in
    let own = sections_of m.number m.summary.pieces in
    filter_map-append both own (candidates ms)
    ∙ ap (λ l. l ++ filter_map both (candidates ms)) (look-sections rows made m.number m.summary.pieces all)
    ∙ ap (λ l. filter_map look own ++ l) (look-candidates rows made ms all)
    ∙ sym (filter_map-append look own (candidates ms))

-- in adding order the rows that are read are those of the placement
pub rows-again : (sections : List SectionRow) (rows made : List PieceRow) (added : List Numbered) → Within (Matches sections) rows (candidates added) → AllApart (candidates added)
    → AllByRecursion (λ (row : PieceRow). is_made_piece row ≡ true) made
    → filter_map (λ (k : KeptPiece). row_among (rows ++ made) k.piece) (candidates added) ≡ rows
rows-again sections rows made added within apart all =
    look-candidates rows made added all ∙ found-again sections rows (candidates added) within apart
