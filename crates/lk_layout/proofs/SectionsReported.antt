-- The kept sections of the code's `Resolution` are those of lk_model.
use Rattle.std.specs.Prelude.{◌≡◌, refl, ℕ, ◌==◌, ◌&&◌, ◌||◌, not, Bool, true, false, cond, List, [], ◌∷◌, ◌++◌, filter, flat_map, map, Some, slice_get}
use Rattle.std.specs.List.{AllByRecursion, list_any}
use Rattle.std.proofs.Common.{sym, ap, ◌∙◌, arith}
use Rattle.std.proofs.lemmas.Bool.Decides.{nat_tests}
use Rattle.std.proofs.lemmas.List.{append_assoc}
use Rattle.std.proofs.lemmas.List.Folds.{list_any-append}
use Rattle.lk_model.specs.declared.summaries.InputSummary.{InputSummary}
use Rattle.lk_model.specs.declared.summaries.PieceInfo.{PieceInfo}
use Rattle.lk_model.specs.Adding.{numbers_in}
use Rattle.lk_model.specs.Groups.{dropped_by, is_left, is_piece, signatures_in, with_claims}
use Rattle.lk_model.specs.KeptPieces.{is_section_piece, kept_sections, pieces_left, section_piece}
use Rattle.lk_model.specs.Numbered.{Numbered, is_number_in}
use Rattle.lk_model.specs.Views.{KeptPiece}
use Rattle.lk_layout.specs.KeptIn.{kept_among, pieces_at, pieces_from, sections_in}
use Rattle.lk_resolve.specs.declared.section_places.SectionPlace.{SectionPlace}
use Rattle.lk_resolve.specs.Settling.{is_place_kept}
use Rattle.lk_model.proofs.AddedOnce.{Apart, HasSummary, HaveSummaries}

-- ---- one input

and_twice : (a b : Bool) → (a && (a && b)) ≡ (a && b)
and_twice true b = refl
and_twice false b = refl

and_false : (a : Bool) → (a && false) ≡ false
and_false true = refl
and_false false = refl

or_false : (b : Bool) → (b || false) ≡ b
or_false true = refl
or_false false = refl

eq_self : (a : ℕ) → (a == a) ≡ true
eq_self a = grind (arith, nat_tests)

eq_reports : (a b : ℕ) → (a == b) ≡ true → a ≡ b
eq_reports a b e = grind (arith, nat_tests)

-- a section is among the pieces of an input whose numbers pass a test exactly where it is one of the input's pieces
-- and its number passes
any_left : (t : ℕ → Bool) (input section : ℕ) (pieces : List PieceInfo)
    → list_any (is_section_piece input section) (map (section_piece input) (filter (λ (p : PieceInfo). t p.section) pieces))
    ≡ (list_any (λ (p : PieceInfo). p.section == section) pieces && t section)
any_left t input section [] = refl
any_left t input section (p ∷ ps) = go (t p.section) (p.section == section) refl refl (any_left t input section ps)
  where
    go :
        (a b : Bool)
        → t p.section ≡ a
        → (p.section == section) ≡ b
        → list_any (is_section_piece input section) (map (section_piece input) (filter (λ (q : PieceInfo). t q.section) ps)) ≡ (list_any (λ (q : PieceInfo). q.section == section) ps && t section)
        → list_any (is_section_piece input section) (map (section_piece input) (cond a (p ∷ filter (λ (q : PieceInfo). t q.section) ps) (filter (λ (q : PieceInfo). t q.section) ps))) ≡ ((b || list_any (λ (q : PieceInfo). q.section == section) ps) && t section)
    go true true e f rest =
        let passes : t section ≡ true = ap t (sym (eq_reports p.section section f)) ∙ e in
        ap (λ c. (c && (p.section == section)) || list_any (is_section_piece input section) (map (section_piece input) (filter (λ (q : PieceInfo). t q.section) ps))) (eq_self input)
        ∙ ap (λ c. c || list_any (is_section_piece input section) (map (section_piece input) (filter (λ (q : PieceInfo). t q.section) ps))) f
        ∙ sym passes
    go true false e f rest =
        ap (λ c. (c && (p.section == section)) || list_any (is_section_piece input section) (map (section_piece input) (filter (λ (q : PieceInfo). t q.section) ps))) (eq_self input)
        ∙ ap (λ c. c || list_any (is_section_piece input section) (map (section_piece input) (filter (λ (q : PieceInfo). t q.section) ps))) f
        ∙ rest
    go false true e f rest =
        let fails : t section ≡ false = ap t (sym (eq_reports p.section section f)) ∙ e in
        rest ∙ ap (λ c. list_any (λ (q : PieceInfo). q.section == section) ps && c) fails ∙ and_false (list_any (λ (q : PieceInfo). q.section == section) ps) ∙ sym fails
    go false false e f rest = rest

own_left : (claimed : List (List ℕ)) (x : Numbered) (section : ℕ) → list_any (is_section_piece x.number section) (pieces_left claimed x) ≡ is_left claimed x.summary section
own_left claimed x section =
    any_left (is_left claimed x.summary) x.number section x.summary.pieces
    ∙ and_twice (is_piece x.summary section) (not (is_number_in (dropped_by claimed x.summary.groups) section))

-- a section of one input is not among those of another
none_mapped : (n section input : ℕ) (pieces : List PieceInfo) → (input == n) ≡ false → list_any (is_section_piece n section) (map (section_piece input) pieces) ≡ false
none_mapped n section input [] apart = refl
none_mapped n section input (p ∷ ps) apart =
    ap (λ c. (c && (p.section == section)) || list_any (is_section_piece n section) (map (section_piece input) ps)) apart ∙ none_mapped n section input ps apart

other_left : (claimed : List (List ℕ)) (x : Numbered) (n section : ℕ) → (x.number == n) ≡ false → list_any (is_section_piece n section) (pieces_left claimed x) ≡ false
other_left claimed x n section apart = none_mapped n section x.number (filter (λ (p : PieceInfo). is_left claimed x.summary p.section) x.summary.pieces) apart

-- ---- all inputs

abbrev left_of : List (List ℕ) × Numbered → List KeptPiece
left_of c = pieces_left c.0 c.1

abbrev all_left : List (List ℕ) → List Numbered → List KeptPiece
all_left claimed xs = flat_map left_of (with_claims claimed xs)

eq_back : (a b : ℕ) → (a == b) ≡ false → (b == a) ≡ false
eq_back a b e = grind (arith, nat_tests)

none_later : (claimed : List (List ℕ)) (xs : List Numbered) (n section : ℕ) → AllByRecursion (λ (y : Numbered). (n == y.number) ≡ false) xs → list_any (is_section_piece n section) (all_left claimed xs) ≡ false
none_later claimed [] n section apart = refl
none_later claimed (y ∷ ys) n section apart =
    list_any-append (is_section_piece n section) (pieces_left claimed y) (all_left (claimed ++ signatures_in y.summary) ys)
    ∙ ap (λ b. b || list_any (is_section_piece n section) (all_left (claimed ++ signatures_in y.summary) ys)) (other_left claimed y n section (eq_back n y.number apart.0))
    ∙ none_later (claimed ++ signatures_in y.summary) ys n section apart.1

-- no input has this section among its pieces
abbrev NoneAmong : List KeptPiece → List Numbered → Type 0
NoneAmong before xs = AllByRecursion (λ (y : Numbered). (section : ℕ) → list_any (is_section_piece y.number section) before ≡ false) xs

none_on : (before : List KeptPiece) (claimed : List (List ℕ)) (x : Numbered) (xs : List Numbered) → NoneAmong before xs → AllByRecursion (λ (y : Numbered). (x.number == y.number) ≡ false) xs → NoneAmong (before ++ pieces_left claimed x) xs
none_on before claimed x [] none apart = tt
none_on before claimed x (y ∷ ys) none apart = (
  λ section.
      list_any-append (is_section_piece y.number section) before (pieces_left claimed x)
      ∙ ap (λ b. b || list_any (is_section_piece y.number section) (pieces_left claimed x)) (none.0 section)
      ∙ other_left claimed x y.number section apart.0,
  none_on before claimed x ys none.1 apart.1,
)

-- a section is kept exactly where its input keeps it
kept_is : (before : List KeptPiece) (claimed : List (List ℕ)) (x : Numbered) (xs : List Numbered) → NoneAmong before (x ∷ xs) → Apart (x ∷ xs) → (section : ℕ) → list_any (is_section_piece x.number section) (before ++ all_left claimed (x ∷ xs)) ≡ is_left claimed x.summary section
kept_is before claimed x xs none apart section =
    let test = is_section_piece x.number section in
    let later = all_left (claimed ++ signatures_in x.summary) xs in
    list_any-append test before (pieces_left claimed x ++ later)
    ∙ ap (λ b. b || list_any test (pieces_left claimed x ++ later)) (none.0 section)
    ∙ list_any-append test (pieces_left claimed x) later
    ∙ (λ i. own_left claimed x section i || none_later (claimed ++ signatures_in x.summary) xs x.number section apart.0 i)
    ∙ or_false (is_left claimed x.summary section)

alike : (p q : PieceInfo → Bool) → ((x : PieceInfo) → p x ≡ q x) → (xs : List PieceInfo) → filter p xs ≡ filter q xs
alike p q h [] = refl
alike p q h (x ∷ xs) = ap (λ b. cond b (x ∷ filter p xs) (filter p xs)) (h x) ∙ ap (λ rest. cond (q x) (x ∷ rest) rest) (alike p q h xs)

sections_from : (places : List SectionPlace) (summaries : List InputSummary) (before : List KeptPiece) (claimed : List (List ℕ)) (xs : List Numbered)
    → ((input section : ℕ) → is_place_kept places input section ≡ list_any (is_section_piece input section) (before ++ all_left claimed xs))
    → HaveSummaries summaries xs
    → Apart xs
    → NoneAmong before xs
    → sections_in places summaries (numbers_in xs) ≡ all_left claimed xs
sections_from places summaries before claimed [] kept have apart none = refl
sections_from places summaries before claimed (x ∷ xs) kept have apart none =
    let left : List KeptPiece = pieces_left claimed x in
    let later : List KeptPiece = all_left (claimed ++ signatures_in x.summary) xs in
    let pieces : pieces_at summaries x.number ≡ x.summary.pieces = ap pieces_from have.0 in
    let here : kept_among places x.number (pieces_at summaries x.number) ≡ left =
    ap (kept_among places x.number) pieces
    ∙ ap (map (section_piece x.number)) (alike (λ (p : PieceInfo). is_place_kept places x.number p.section) (λ (p : PieceInfo). is_left claimed x.summary p.section) (λ p. kept x.number p.section ∙ kept_is before claimed x xs none apart p.section) x.summary.pieces) in
    let rest : sections_in places summaries (numbers_in xs) ≡ later =
    sections_from places summaries (before ++ left) (claimed ++ signatures_in x.summary) xs
    (λ input section. kept input section ∙ ap (list_any (is_section_piece input section)) (sym (append_assoc before left later)))
    have.1 apart.1 (none_on before claimed x xs none.1 apart.0) in
    λ i. here i ++ rest i

none_before : (xs : List Numbered) → NoneAmong [] xs
none_before [] = tt
none_before (x ∷ xs) = (λ section. refl, none_before xs)

pub sections_are : (places : List SectionPlace) (summaries : List InputSummary) (added : List Numbered)
    → ((input section : ℕ) → is_place_kept places input section ≡ list_any (is_section_piece input section) (kept_sections added))
    → HaveSummaries summaries added
    → Apart added
    → sections_in places summaries (numbers_in added) ≡ kept_sections added
sections_are places summaries added kept have apart = sections_from places summaries [] [] added kept have apart (none_before added)
