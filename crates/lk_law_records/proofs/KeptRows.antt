-- The rows of a full placement's pieces lie within the kept pieces, section rows before those of commons
-- and copies.
use Rattle.std.specs.Prelude.{◌≡◌, refl, ℕ, suc, ◌+◌, Bool, true, false, cond, List, [], ◌∷◌, ◌++◌, take, filter_map, find, zip, Option, Some, None, option_map, length}
use Rattle.std.specs.List.{AllByRecursion, cons_option, enumerate_from}
use Rattle.std.proofs.Common.{arith, inl}
use Rattle.std.proofs.lemmas.List.Elements.{filter_map-append}
use mathlib.Core.Path.{subst, ap, ◌∙◌}
use Rattle.lk_model.specs.FullPlace.{numbered_row, offset_in, piece_row, placed_at}
use Rattle.lk_model.specs.KeptPieces.{bss_key, common_piece, copy_piece, is_input_piece, name_piece, name_pieces}
use Rattle.lk_model.specs.Numbered.{is_number_in}
use Rattle.lk_model.specs.RecordedPlace.{is_made_piece}
use Rattle.lk_model.specs.SectionKeys.{same_key}
use Rattle.lk_model.specs.Views.{KeptPiece}
use Rattle.lk_model.specs.Winners.{symbol_among}
use Rattle.lk_model.specs.declared.layouts.PieceId.{PieceId}
use Rattle.lk_model.specs.declared.layouts.PieceId.TheVariants as id
use Rattle.lk_model.specs.declared.layouts.PieceRow.{PieceRow}
use Rattle.lk_model.specs.declared.layouts.SectionKey.{SectionKey}
use Rattle.lk_model.specs.declared.layouts.SectionRow.{SectionRow}
use Rattle.lk_model.specs.declared.summaries.Contributions.{Contributions}
use Rattle.lk_model.specs.declared.summaries.Global.{Global}
use Rattle.lk_model.specs.declared.summaries.Winner.{Winner}
use Rattle.lk_model.specs.declared.summaries.Winner.TheVariants as winner
use Rattle.lk_model.proofs.KeysFound.{same_key_reports}
use Rattle.lk_law_records.proofs.Lists.{enumerate-append}
use Rattle.lk_law_records.proofs.RecordValues.{KeyAt}
use Rattle.lk_law_records.proofs.Within.{Within, within-skip, within-all}
use Rattle.lk_law_records.proofs.FoundAgain.{Matches}

-- ---- the section of a row has its key

found-keyed : (i : ℕ) (rows : List SectionRow) (key : SectionKey) (n : ℕ) (row : SectionRow)
    → find (λ (entry : ℕ × SectionRow). same_key entry.1.key key) (enumerate_from i rows) ≡ Some (n, row)
    → (j : ℕ) × ((n ≡ i + j) × KeyAt rows j key)
found-keyed i [] key n row found = absurd (cc)
found-keyed i (r ∷ rows) key n row found = go (same_key r.key key) refl found (found-keyed (i + 1) rows key n row)
  where
    go : (b : Bool) → same_key r.key key ≡ b
        → cond b (Some (i, r)) (find (λ (entry : ℕ × SectionRow). same_key entry.1.key key) (enumerate_from (i + 1) rows)) ≡ Some (n, row)
        → (find (λ (entry : ℕ × SectionRow). same_key entry.1.key key) (enumerate_from (i + 1) rows) ≡ Some (n, row) → (j : ℕ) × ((n ≡ i + 1 + j) × KeyAt rows j key))
        → (j : ℕ) × ((n ≡ i + j) × KeyAt (r ∷ rows) j key)
    go true e h later =
        let first : i ≡ n = ap (λ (o : Option (ℕ × SectionRow)). elim o [ None ↦ n | Some x ↦ x.0 ]) h in
        (0, (omega (arith, first), ap Some (same_key_reports r.key key e)))
    go false e h later =
        let (j, (at, keyed)) = later h in
        (suc j, (omega (arith, at), keyed))

pub row-keyed : (rows : List SectionRow) (key : SectionKey) (n : ℕ) (row : SectionRow) → numbered_row rows key ≡ Some (n, row) → KeyAt rows n key
row-keyed rows key n row found =
    let (j, (at, keyed)) = found-keyed 0 rows key n row found in
    let is : j ≡ n = omega (arith, at) in
    subst (λ k. KeyAt rows k key) is keyed

-- ---- the rows lie within the kept pieces

abbrev pub rows_from : List SectionRow → List KeptPiece → ℕ → List KeptPiece → List PieceRow
rows_from rows all i ks = filter_map (λ (entry : ℕ × KeptPiece). piece_row rows all (take entry.0 all) entry.1) (enumerate_from i ks)

pub rows-within : (rows : List SectionRow) (all : List KeptPiece) (i : ℕ) (ks : List KeptPiece) → Within (Matches rows) (rows_from rows all i ks) ks
rows-within rows all i [] = tt
rows-within rows all i (k ∷ ks) = go (numbered_row rows k.key) refl (rows-within rows all (i + 1) ks)
  where
    go : (o : Option (ℕ × SectionRow)) → numbered_row rows k.key ≡ o → Within (Matches rows) (rows_from rows all (i + 1) ks) ks
        → Within (Matches rows) (cons_option (option_map (λ (entry : ℕ × SectionRow). placed_at k entry.0 entry.1 (offset_in entry.1 all (take i all) k)) o) (rows_from rows all (i + 1) ks)) (k ∷ ks)
    go None e rest = within-skip (Matches rows) (rows_from rows all (i + 1) ks) k ks rest
    go (Some (n, row)) e rest = inl (record { piece = refl; size = refl; align = refl; key = row-keyed rows k.key n row e }, rest)

-- ---- section rows first

pub rows-append : (rows : List SectionRow) (all : List KeptPiece) (i : ℕ) (xs ys : List KeptPiece)
    → rows_from rows all i (xs ++ ys) ≡ rows_from rows all i xs ++ rows_from rows all (i + length xs) ys
rows-append rows all i xs ys =
    let row : ℕ × KeptPiece → Option PieceRow = λ entry. piece_row rows all (take entry.0 all) entry.1 in
    ap (filter_map row) (enumerate-append i xs ys) ∙ filter_map-append row (enumerate_from i xs) (enumerate_from (i + length xs) ys)

-- ---- which rows are those of commons and copies

input-or-made : (p : PieceId) → elim p [ id.Section i s ↦ false | id.Common n ↦ true | id.Copy n ↦ true ]
    ≡ cond (elim p [ id.Section i s ↦ true | id.Common n ↦ false | id.Copy n ↦ false ]) false true
input-or-made (id.Section i s) = refl
input-or-made (id.Common n) = refl
input-or-made (id.Copy n) = refl

-- a row of a section is none of those, any other row is
pub made-or-not : (sections : List SectionRow) (row : PieceRow) (k : KeptPiece) → Matches sections row k → is_made_piece row ≡ cond (is_input_piece k) false true
made-or-not sections row k m =
    ap (λ (p : PieceId). elim p [ id.Section i s ↦ false | id.Common n ↦ true | id.Copy n ↦ true ]) m.piece ∙ input-or-made k.piece

made-among : (sections : List SectionRow) (input : Bool) (ks : List KeptPiece) → AllByRecursion (λ (k : KeptPiece). is_input_piece k ≡ input) ks
    → AllByRecursion (λ (k : KeptPiece). (row : PieceRow) → Matches sections row k → is_made_piece row ≡ cond input false true) ks
made-among sections input [] all = tt
made-among sections input (k ∷ ks) (here, more) =
    (λ row m. made-or-not sections row k m ∙ ap (λ b. cond b false true) here, made-among sections input ks more)

pub rows-made : (sections : List SectionRow) (input : Bool) (rows : List PieceRow) (ks : List KeptPiece) → Within (Matches sections) rows ks
    → AllByRecursion (λ (k : KeptPiece). is_input_piece k ≡ input) ks → AllByRecursion (λ (row : PieceRow). is_made_piece row ≡ cond input false true) rows
rows-made sections input rows ks within all =
    within-all (Matches sections) (λ row. is_made_piece row ≡ cond input false true) rows ks within (made-among sections input ks all)

-- ---- commons and copies

module _ (P : KeptPiece → Type 0) (common : (name size align : ℕ) → P (common_piece name size align)) (copy : (name : ℕ) (g : Global) → P (copy_piece name g)) where
  name-piece-all : (copies : List ℕ) (name : ℕ) (cs : Contributions) (w : Winner) (others : List KeptPiece) → AllByRecursion P others → AllByRecursion P (cons_option (name_piece copies name cs w) others)
  name-piece-all copies name cs (winner.Common size align) others all = (common name size align, all)
  name-piece-all copies name cs (winner.Import input symbol) others all = go (is_number_in copies name) (symbol_among cs.list input symbol)
    where
      go : (copied : Bool) (found : Option Global) → AllByRecursion P (cons_option (cond copied (option_map (copy_piece name) found) None) others)
      go false found = all
      go true None = all
      go true (Some g) = (copy name g, all)
  name-piece-all copies name cs winner.Nothing others all = all
  name-piece-all copies name cs (winner.Strong input symbol) others all = all
  name-piece-all copies name cs (winner.Weak input symbol) others all = all
  name-piece-all copies name cs winner.Made others all = all

  names-from-all : (copies : List ℕ) (n : ℕ) (names : List Contributions) (winners : List Winner)
      → AllByRecursion P (filter_map (λ (x : ℕ × (Contributions × Winner)). name_piece copies x.0 x.1.0 x.1.1) (enumerate_from n (zip names winners)))
  names-from-all copies n [] winners = tt
  names-from-all copies n (cs ∷ names) [] = tt
  names-from-all copies n (cs ∷ names) (w ∷ winners) =
      name-piece-all copies n cs w (filter_map (λ (x : ℕ × (Contributions × Winner)). name_piece copies x.0 x.1.0 x.1.1) (enumerate_from (n + 1) (zip names winners)))
      (names-from-all copies (n + 1) names winners)

  -- what holds of commons and of copies holds of the pieces of names
  pub names-all : (copies : List ℕ) (names : List Contributions) (winners : List Winner) → AllByRecursion P (name_pieces copies names winners)
  names-all copies names winners = names-from-all copies 0 names winners

pub names-made : (copies : List ℕ) (names : List Contributions) (winners : List Winner) → AllByRecursion (λ (k : KeptPiece). is_input_piece k ≡ false) (name_pieces copies names winners)
names-made copies names winners = names-all (λ k. is_input_piece k ≡ false) (λ name size align. refl) (λ name g. refl) copies names winners

-- they go to `.bss`
pub names-bss : (copies : List ℕ) (names : List Contributions) (winners : List Winner) → AllByRecursion (λ (k : KeptPiece). k.key ≡ bss_key) (name_pieces copies names winners)
names-bss copies names winners = names-all (λ k. k.key ≡ bss_key) (λ name size align. refl) (λ name g. refl) copies names winners
