-- The sections of the added inputs, in adding order: those that a link keeps lie within them, and no two of
-- them are the same piece.
use Rattle.std.specs.Prelude.{◌≡◌, refl, ℕ, nat_eq, ◌==◌, Bool, true, false, List, [], ◌∷◌, ◌++◌, filter, map}
use Rattle.std.specs.List.{AllByRecursion, IsDistinct, flat_map}
use Rattle.std.proofs.Common.{arith}
use Rattle.std.proofs.lemmas.Bool.Decides.{nat_tests}
use Rattle.lk_model.specs.Adding.{numbers_in}
use Rattle.lk_model.specs.Groups.{is_left, signatures_in, with_claims}
use Rattle.lk_model.specs.Keys.{same_piece}
use Rattle.lk_model.specs.KeptPieces.{is_input_piece, kept_sections, pieces_left, section_piece}
use Rattle.lk_model.specs.Numbered.{Numbered}
use Rattle.lk_model.specs.Views.{KeptPiece}
use Rattle.lk_model.specs.declared.layouts.PieceId.TheVariants as id
use Rattle.lk_model.specs.declared.summaries.PieceInfo.{PieceInfo}
use Rattle.lk_law_records.specs.Recordable.{numbers_of}
use Rattle.lk_law_records.proofs.FoundAgain.{Apart, AllApart}
use Rattle.lk_law_records.proofs.Lists.{all-append}
use Rattle.lk_law_records.proofs.Within.{Within, Same, within-append, within-filter, within-map}

-- the sections of an input, kept or not
abbrev pub sections_of : ℕ → List PieceInfo → List KeptPiece
sections_of input pieces = map (section_piece input) pieces

abbrev pub candidates : List Numbered → List KeptPiece
candidates added = flat_map (λ (m : Numbered). sections_of m.number m.summary.pieces) added

-- the kept sections lie within them
claimed-within : (claimed : List (List ℕ)) (added : List Numbered)
    → Within Same (flat_map (λ (c : List (List ℕ) × Numbered). pieces_left c.0 c.1) (with_claims claimed added)) (candidates added)
claimed-within claimed [] = tt
claimed-within claimed (m ∷ ms) =
    let left : PieceInfo → Bool = λ p. is_left claimed m.summary p.section in
    within-append Same (pieces_left claimed m) (flat_map (λ (c : List (List ℕ) × Numbered). pieces_left c.0 c.1) (with_claims (claimed ++ signatures_in m.summary) ms))
    (sections_of m.number m.summary.pieces) (candidates ms)
    (within-map (section_piece m.number) (filter left m.summary.pieces) m.summary.pieces (within-filter left m.summary.pieces))
    (claimed-within (claimed ++ signatures_in m.summary) ms)

pub kept-within : (added : List Numbered) → Within Same (kept_sections added) (candidates added)
kept-within added = claimed-within [] added

-- each is a section of an input
sections-input : (n : ℕ) (ps : List PieceInfo) → AllByRecursion (λ (k : KeptPiece). is_input_piece k ≡ true) (sections_of n ps)
sections-input n [] = tt
sections-input n (p ∷ ps) = (refl, sections-input n ps)

pub candidates-input : (added : List Numbered) → AllByRecursion (λ (k : KeptPiece). is_input_piece k ≡ true) (candidates added)
candidates-input [] = tt
candidates-input (m ∷ ms) =
    all-append (λ (k : KeptPiece). is_input_piece k ≡ true) (sections_of m.number m.summary.pieces) (candidates ms) (sections-input m.number m.summary.pieces) (candidates-input ms)

-- ---- no two are the same

-- the sections of an input have different numbers
abbrev pub HasDistinct : Numbered → Type 0
HasDistinct m = IsDistinct nat_eq (numbers_of m.summary.pieces)

apart-sections : (n : ℕ) (p : PieceInfo) (ps : List PieceInfo) → AllByRecursion (λ s. nat_eq p.section s ≡ false) (numbers_of ps) → Apart (section_piece n p) (sections_of n ps)
apart-sections n p [] differ = tt
apart-sections n p (q ∷ ps) (here, more) =
    let own : (n == n) ≡ true = grind (arith, nat_tests) in
    (rw (own, here) refl, apart-sections n p ps more)

all-sections : (n : ℕ) (ps : List PieceInfo) → IsDistinct nat_eq (numbers_of ps) → AllApart (sections_of n ps)
unfolding IsDistinct
all-sections n [] distinct = tt
all-sections n (p ∷ ps) (here, more) = (apart-sections n p ps here, all-sections n ps more)

-- sections of inputs with other numbers
apart-others : (n : ℕ) (p : PieceInfo) (m : ℕ) (qs : List PieceInfo) → nat_eq n m ≡ false → Apart (section_piece n p) (sections_of m qs)
apart-others n p m [] differ = tt
apart-others n p m (q ∷ qs) differ = (rw differ refl, apart-others n p m qs differ)

apart-candidates : (n : ℕ) (p : PieceInfo) (ms : List Numbered) → AllByRecursion (λ m. nat_eq n m ≡ false) (numbers_in ms) → Apart (section_piece n p) (candidates ms)
apart-candidates n p [] differ = tt
apart-candidates n p (m ∷ ms) (here, more) =
    all-append (λ (other : KeptPiece). same_piece (id.Section n p.section) other.piece ≡ false) (sections_of m.number m.summary.pieces) (candidates ms)
    (apart-others n p m.number m.summary.pieces here) (apart-candidates n p ms more)

join-apart : (n : ℕ) (ps : List PieceInfo) (ms : List Numbered) → AllApart (sections_of n ps) → AllApart (candidates ms) → AllByRecursion (λ m. nat_eq n m ≡ false) (numbers_in ms)
    → AllApart (sections_of n ps ++ candidates ms)
join-apart n [] ms first second differ = second
join-apart n (p ∷ ps) ms (here, more) second differ = (
  all-append (λ (other : KeptPiece). same_piece (id.Section n p.section) other.piece ≡ false) (sections_of n ps) (candidates ms) here (apart-candidates n p ms differ),
  join-apart n ps ms more second differ,
)

pub candidates-apart : (added : List Numbered) → IsDistinct nat_eq (numbers_in added) → AllByRecursion HasDistinct added → AllApart (candidates added)
unfolding IsDistinct
candidates-apart [] distinct each = tt
candidates-apart (m ∷ ms) (here, more) (own, others) =
    join-apart m.number m.summary.pieces ms (all-sections m.number m.summary.pieces own) (candidates-apart ms more others) here
