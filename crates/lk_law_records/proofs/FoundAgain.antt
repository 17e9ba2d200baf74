-- Rows that lie within a list of different pieces are found again by those pieces, in their order.
use Rattle.std.specs.Prelude.{◌≡◌, refl, ℕ, ◌==◌, Bool, true, false, cond, List, [], ◌∷◌, ◌++◌, find, filter_map, Option, Some, None}
use Rattle.std.specs.List.{AllByRecursion, cons_option}
use Rattle.std.proofs.Common.{arith, inl, inr}
use Rattle.std.proofs.lemmas.Bool.{and_parts}
use Rattle.std.proofs.lemmas.Bool.Decides.{nat_tests}
use mathlib.Core.Path.{subst, ap, ◌∙◌}
use Rattle.lk_model.specs.Keys.{same_piece}
use Rattle.lk_model.specs.Views.{KeptPiece}
use Rattle.lk_model.specs.declared.layouts.PieceId.{PieceId}
use Rattle.lk_model.specs.declared.layouts.PieceId.TheVariants as id
use Rattle.lk_model.specs.declared.layouts.PieceRow.{PieceRow}
use Rattle.lk_model.specs.declared.layouts.SectionRow.{SectionRow}
use Rattle.lk_law_records.proofs.Lists.{all-imply}
use Rattle.lk_law_records.proofs.RecordValues.{KeyAt}
use Rattle.lk_law_records.proofs.Within.{Within, within-all}

-- ---- pieces that are the same

eq-reports : (a b : ℕ) → (a == b) ≡ true → a ≡ b
eq-reports a b same = grind (arith, nat_tests)

eq-self : (a : ℕ) → (a == a) ≡ true
eq-self a = grind (arith, nat_tests)

eq-back : (a b : ℕ) → (a == b) ≡ (b == a)
eq-back a b = grind (arith, nat_tests)

pub same-reports : (a b : PieceId) → same_piece a b ≡ true → a ≡ b
same-reports (id.Section i s) (id.Section j t) same =
    let both = and_parts (i == j) (s == t) same in
    ap (λ n. id.Section n s) (eq-reports i j both.0) ∙ ap (λ n. id.Section j n) (eq-reports s t both.1)
same-reports (id.Common n) (id.Common m) same = ap id.Common (eq-reports n m same)
same-reports (id.Copy n) (id.Copy m) same = ap id.Copy (eq-reports n m same)
same-reports (id.Section i s) (id.Common m) same = absurd (cc)
same-reports (id.Section i s) (id.Copy m) same = absurd (cc)
same-reports (id.Common n) (id.Section j t) same = absurd (cc)
same-reports (id.Common n) (id.Copy m) same = absurd (cc)
same-reports (id.Copy n) (id.Section j t) same = absurd (cc)
same-reports (id.Copy n) (id.Common m) same = absurd (cc)

pub same-self : (a : PieceId) → same_piece a a ≡ true
same-self (id.Section i s) = rw (eq-self i, eq-self s) refl
same-self (id.Common n) = eq-self n
same-self (id.Copy n) = eq-self n

pub same-back : (a b : PieceId) → same_piece a b ≡ same_piece b a
same-back (id.Section i s) (id.Section j t) = rw (eq-back i j, eq-back s t) refl
same-back (id.Common n) (id.Common m) = eq-back n m
same-back (id.Copy n) (id.Copy m) = eq-back n m
same-back (id.Section i s) (id.Common m) = refl
same-back (id.Section i s) (id.Copy m) = refl
same-back (id.Common n) (id.Section j t) = refl
same-back (id.Common n) (id.Copy m) = refl
same-back (id.Copy n) (id.Section j t) = refl
same-back (id.Copy n) (id.Common m) = refl

-- ---- the row of a piece

-- the first row of a piece
abbrev pub row_among : List PieceRow → PieceId → Option PieceRow
row_among rows p = find (λ (row : PieceRow). same_piece row.piece p) rows

pub none-among : (rows : List PieceRow) (p : PieceId) → AllByRecursion (λ (row : PieceRow). same_piece row.piece p ≡ false) rows → row_among rows p ≡ None
none-among [] p others = refl
none-among (row ∷ rows) p (here, more) = rw here (none-among rows p more)

-- rows behind others, none of which is that piece's
pub among-first : (rows others : List PieceRow) (p : PieceId) → AllByRecursion (λ (row : PieceRow). same_piece row.piece p ≡ false) others
    → row_among (rows ++ others) p ≡ row_among rows p
among-first [] others p apart = none-among others p apart
among-first (row ∷ rows) others p apart = ap (λ rest. cond (same_piece row.piece p) (Some row) rest) (among-first rows others p apart)

-- what holds of all rows holds of the one that is found, which is the piece's
pub among-has : (P : PieceRow → Type 0) (rows : List PieceRow) (p : PieceId) (row : PieceRow) → AllByRecursion P rows → row_among rows p ≡ Some row
    → P row × (row.piece ≡ p)
among-has P [] p row all found = absurd (cc)
among-has P (r ∷ rows) p row (here, more) found = go (same_piece r.piece p) refl found (among-has P rows p row more)
  where
    go : (b : Bool) → same_piece r.piece p ≡ b → cond b (Some r) (row_among rows p) ≡ Some row
        → (row_among rows p ≡ Some row → P row × (row.piece ≡ p)) → P row × (row.piece ≡ p)
    go true e h later = let is : r ≡ row = cc in (subst P is here, subst (λ (x : PieceRow). x.piece ≡ p) is (same-reports r.piece p e))
    go false e h later = later h

-- ---- found again

-- a row says the same as a kept piece, and its section has the piece's key
pub record Matches (sections : List SectionRow) (row : PieceRow) (k : KeptPiece) : Type 0 where
  pub piece : row.piece ≡ k.piece
  pub size : row.size ≡ k.size
  pub align : row.align ≡ k.align
  pub key : KeyAt sections row.section k.key

-- no two of them are the same piece
abbrev pub Apart : KeptPiece → List KeptPiece → Type 0
Apart k ks = AllByRecursion (λ (other : KeptPiece). same_piece k.piece other.piece ≡ false) ks

abbrev pub AllApart : List KeptPiece → Type 0
AllApart [] = Unit {0}
AllApart (k ∷ ks) = Apart k ks × AllApart ks

not-there : (sections : List SectionRow) (rows : List PieceRow) (k : KeptPiece) (ks : List KeptPiece) → Within (Matches sections) rows ks → Apart k ks → row_among rows k.piece ≡ None
not-there sections rows k ks within apart =
    none-among rows k.piece
    (within-all (Matches sections) (λ row. same_piece row.piece k.piece ≡ false) rows ks within
    (all-imply (λ other differ row m. ap (λ p. same_piece p k.piece) m.piece ∙ same-back other.piece k.piece ∙ differ) ks apart))

passed-over : (row : PieceRow) (rows : List PieceRow) (ks : List KeptPiece) → AllByRecursion (λ (k : KeptPiece). same_piece row.piece k.piece ≡ false) ks
    → filter_map (λ (k : KeptPiece). row_among (row ∷ rows) k.piece) ks ≡ filter_map (λ (k : KeptPiece). row_among rows k.piece) ks
passed-over row rows [] apart = refl
passed-over row rows (k ∷ ks) (here, more) =
    let rest = passed-over row rows ks more in
    ap (λ b. cons_option (cond b (Some row) (row_among rows k.piece)) (filter_map (λ (other : KeptPiece). row_among (row ∷ rows) other.piece) ks)) here
    ∙ ap (λ l. cons_option (row_among rows k.piece) l) rest

pub found-again : (sections : List SectionRow) (rows : List PieceRow) (ks : List KeptPiece) → Within (Matches sections) rows ks → AllApart ks
    → filter_map (λ (k : KeptPiece). row_among rows k.piece) ks ≡ rows
found-again sections [] [] within apart = refl
found-again sections (row ∷ rows) [] within apart = absurd within
found-again sections [] (k ∷ ks) within (here, more) = found-again sections [] ks tt more
found-again sections (row ∷ rows) (k ∷ ks) (inl (m, within)) (here, more) =
    let own : same_piece row.piece k.piece ≡ true = ap (λ p. same_piece p k.piece) m.piece ∙ same-self k.piece in
    let others : AllByRecursion (λ (other : KeptPiece). same_piece row.piece other.piece ≡ false) ks =
    all-imply (λ other differ. ap (λ p. same_piece p other.piece) m.piece ∙ differ) ks here in
    ap (λ b. cons_option (cond b (Some row) (row_among rows k.piece)) (filter_map (λ (other : KeptPiece). row_among (row ∷ rows) other.piece) ks)) own
    ∙ ap (λ l. row ∷ l) (passed-over row rows ks others ∙ found-again sections rows ks within more)
found-again sections (row ∷ rows) (k ∷ ks) (inr within) (here, more) =
    ap (λ o. cons_option o (filter_map (λ (other : KeptPiece). row_among (row ∷ rows) other.piece) ks)) (not-there sections (row ∷ rows) k ks within here)
    ∙ found-again sections (row ∷ rows) ks within more
