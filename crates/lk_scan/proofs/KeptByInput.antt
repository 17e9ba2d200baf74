-- The references of kept sections are those of the added inputs, input by input.
use Rattle.std.proofs.Common.{◌≡◌, refl, sym, ap, subst, ◌∙◌, arith, ℕ, ◌+◌, ◌≤◌, ◌==◌, ◌&&◌, ◌||◌, Bool, true, false, cond, List, [], ◌∷◌, ◌++◌, map, flat_map, filter, Option, Some, None, slice_get}
use Rattle.std.proofs.lemmas.Bool.Decides.{nat_tests}
use Rattle.std.proofs.lemmas.List.{append_assoc}
use Rattle.std.proofs.lemmas.List.Concat.{flat_map-append}
use Rattle.std.proofs.lemmas.List.Folds.{list_any-append}
use Rattle.std.specs.List.{AllByRecursion, list_any}
use Rattle.lk_model.specs.declared.summaries.InputSummary.{InputSummary}
use Rattle.lk_model.specs.declared.summaries.PieceInfo.{PieceInfo}
use Rattle.lk_model.specs.Adding.{numbers_in}
use Rattle.lk_model.specs.Finding.{Found, is_kept_in}
use Rattle.lk_model.specs.Groups.{is_left, signatures_in, with_claims}
use Rattle.lk_model.specs.KeptPieces.{is_section_piece, kept_sections, pieces_left, section_piece}
use Rattle.lk_model.specs.Numbered.{Numbered}
use Rattle.lk_model.specs.References.{Sited, sited_at, sited_in, sited_of}
use Rattle.lk_model.specs.Views.{Input, KeptPiece}
use Rattle.lk_scan.specs.LinkScans.{input_references}
use Rattle.lk_scan.specs.Scans.{references_in}
use Rattle.lk_model.proofs.AddedOnce.{IsIn, is_numbered, times, times-append}

-- an added input with the signatures that inputs before it claimed
abbrev Claimed : Type 0
Claimed = List (List ℕ) × Numbered

abbrev left_of : Claimed → List KeptPiece
left_of c = pieces_left c.0 c.1

-- whether this is the input with a number, and it keeps a section
abbrev own : ℕ → ℕ → Claimed → Bool
own n s c = (c.1.number == n) && is_left c.0 c.1.summary s

twice : (a b : Bool) → (a && (a && b)) ≡ (a && b)
twice true b = refl
twice false b = refl

shut : (b : Bool) → (b && false) ≡ false
shut true = refl
shut false = refl

or_shut : (b : Bool) → (b || false) ≡ b
or_shut true = refl
or_shut false = refl

same_number : (a b : ℕ) → (a == b) ≡ true → a ≡ b
same_number a b e = grind (arith, nat_tests)

-- a section is among the kept pieces of an input exactly where it is a piece of this input and is kept
pieces_any : (q : ℕ → Bool) (input n s : ℕ) (ps : List PieceInfo)
    → list_any (is_section_piece n s) (map (section_piece input) (filter (λ (p : PieceInfo). q p.section) ps)) ≡ ((input == n) && (list_any (λ (p : PieceInfo). p.section == s) ps && q s))
pieces_any q input n s [] = sym (shut (input == n))
pieces_any q input n s (p ∷ ps) = by (q p.section) (p.section == s) refl refl (pieces_any q input n s ps)
  where
    by : (has is : Bool) → q p.section ≡ has → (p.section == s) ≡ is
        → list_any (is_section_piece n s) (map (section_piece input) (filter (λ (p : PieceInfo). q p.section) ps)) ≡ ((input == n) && (list_any (λ (p : PieceInfo). p.section == s) ps && q s))
        → list_any (is_section_piece n s) (map (section_piece input) (cond has (p ∷ filter (λ (p : PieceInfo). q p.section) ps) (filter (λ (p : PieceInfo). q p.section) ps))) ≡ ((input == n) && ((is || list_any (λ (p : PieceInfo). p.section == s) ps) && q s))
    by true true h e later =
        let there : q s ≡ true = sym (ap q (same_number p.section s e)) ∙ h in
        ap (λ b. ((input == n) && b) || list_any (is_section_piece n s) (map (section_piece input) (filter (λ (p : PieceInfo). q p.section) ps))) e
        ∙ ap (λ b. ((input == n) && true) || b) later
        ∙ absorbed (input == n) (list_any (λ (p : PieceInfo). p.section == s) ps) (q s)
        ∙ ap (λ b. (input == n) && b) (sym there)
      where
        absorbed : (a b c : Bool) → ((a && true) || (a && (b && c))) ≡ (a && true)
        absorbed true b c = refl
        absorbed false b c = refl
    by true false h e later =
        ap (λ b. ((input == n) && b) || list_any (is_section_piece n s) (map (section_piece input) (filter (λ (p : PieceInfo). q p.section) ps))) e
        ∙ ap (λ b. b || list_any (is_section_piece n s) (map (section_piece input) (filter (λ (p : PieceInfo). q p.section) ps))) (shut (input == n))
        ∙ later
    by false true h e later =
        let gone : q s ≡ false = sym (ap q (same_number p.section s e)) ∙ h in
        later ∙ ap (λ b. (input == n) && (list_any (λ (p : PieceInfo). p.section == s) ps && b)) gone
        ∙ ap (λ b. (input == n) && b) (shut (list_any (λ (p : PieceInfo). p.section == s) ps))
        ∙ ap (λ b. (input == n) && b) (sym gone)
    by false false h e later = later

left_any : (n s : ℕ) (c : Claimed) → list_any (is_section_piece n s) (left_of c) ≡ own n s c
left_any n s c =
    pieces_any (is_left c.0 c.1.summary) c.1.number n s c.1.summary.pieces
    ∙ ap (λ b. (c.1.number == n) && b) (twice (list_any (λ (p : PieceInfo). p.section == s) c.1.summary.pieces) _)

kept_any : (n s : ℕ) (cs : List Claimed) → list_any (is_section_piece n s) (flat_map left_of cs) ≡ list_any (own n s) cs
kept_any n s [] = refl
kept_any n s (c ∷ cs) =
    list_any-append (is_section_piece n s) (left_of c) (flat_map left_of cs)
    ∙ (λ i. left_any n s c i || kept_any n s cs i)

-- an input that is added once decides alone which of its sections are kept
abbrev claims_number : ℕ → Claimed → Bool
claims_number n c = c.1.number == n

none_own : (n s : ℕ) (cs : List Claimed) → times (claims_number n) cs ≡ 0 → list_any (own n s) cs ≡ false
none_own n s [] h = refl
none_own n s (c ∷ cs) h = by (c.1.number == n) refl (none_own n s cs)
  where
    by : (b : Bool) → (c.1.number == n) ≡ b → (times (claims_number n) cs ≡ 0 → list_any (own n s) cs ≡ false) → list_any (own n s) (c ∷ cs) ≡ false
    by true e later = absurd (let one : ◌≡◌ {A = ℕ} (cond (c.1.number == n) 1 0) 1 = ap (λ b. cond b 1 0) e in omega arith)
    by false e later =
        let none : ◌≡◌ {A = ℕ} (cond (c.1.number == n) 1 0) 0 = ap (λ b. cond b 1 0) e in
        ap (λ b. (b && is_left c.0 c.1.summary s) || list_any (own n s) cs) e ∙ later (omega arith)

number_is : (n : ℕ) → (n == n) ≡ true
number_is n = grind (arith, nat_tests)

own_alone : (s : ℕ) (before : List Claimed) (c : Claimed) (later : List Claimed) → times (claims_number c.1.number) (before ++ c ∷ later) ≤ 1 → list_any (own c.1.number s) (before ++ c ∷ later) ≡ is_left c.0 c.1.summary s
own_alone s before c later h =
    let n : ℕ = c.1.number in
    let size : times (claims_number n) (before ++ c ∷ later) ≡ times (claims_number n) before + times (claims_number n) (c ∷ later) = times-append (claims_number n) before (c ∷ later) in
    let here : ◌≡◌ {A = ℕ} (cond (c.1.number == n) 1 0) 1 = ap (λ b. cond b 1 0) (number_is n) in
    list_any-append (own n s) before (c ∷ later)
    ∙ ap (λ b. b || list_any (own n s) (c ∷ later)) (none_own n s before (omega arith))
    ∙ ap (λ b. (b && is_left c.0 c.1.summary s) || list_any (own n s) later) (number_is n)
    ∙ ap (λ b. is_left c.0 c.1.summary s || b) (none_own n s later (omega arith))
    ∙ or_shut (is_left c.0 c.1.summary s)

module _ (found : Found) (inputs : List Input) (cs : List Claimed) (sections : found.sections ≡ flat_map left_of cs) (once : (n : ℕ) → times (claims_number n) cs ≤ 1) where
  own_kept : (before : List Claimed) (c : Claimed) (later : List Claimed) → cs ≡ before ++ c ∷ later → (s : ℕ) → is_kept_in found c.1.number s ≡ is_left c.0 c.1.summary s
  own_kept before c later e s =
      ap (list_any (is_section_piece c.1.number s)) sections
      ∙ kept_any c.1.number s cs
      ∙ ap (list_any (own c.1.number s)) e
      ∙ own_alone s before c later (subst (λ (ds : List Claimed). times (claims_number c.1.number) ds ≤ 1) e (once c.1.number))

  -- the references of the kept pieces of an input
  pieces_sited : (c : Claimed) (y : Input) → slice_get inputs c.1.number ≡ Some y → ((s : ℕ) → is_kept_in found c.1.number s ≡ is_left c.0 c.1.summary s) → (ps : List PieceInfo)
      → sited_of found.names inputs (map (section_piece c.1.number) (filter (λ (p : PieceInfo). is_left c.0 c.1.summary p.section) ps)) ≡ references_in found y.elf y.summary c.1.number ps
  pieces_sited c y e kept [] = refl
  pieces_sited c y e kept (p ∷ ps) = by (is_left c.0 c.1.summary p.section) (is_kept_in found c.1.number p.section) (kept p.section) (pieces_sited c y e kept ps)
    where
      left : List PieceInfo
      left = filter (λ (q : PieceInfo). is_left c.0 c.1.summary q.section) ps

      kept_ones : List PieceInfo
      kept_ones = filter (λ (q : PieceInfo). is_kept_in found c.1.number q.section) ps

      sited : List PieceInfo → List Sited
      sited qs = flat_map (λ (q : PieceInfo). sited_in found.names y.elf y.summary q.key c.1.number q.section) qs

      by : (a b : Bool) → b ≡ a → sited_of found.names inputs (map (section_piece c.1.number) left) ≡ sited kept_ones → sited_of found.names inputs (map (section_piece c.1.number) (cond a (p ∷ left) left)) ≡ sited (cond b (p ∷ kept_ones) kept_ones)
      by true true h later = λ i. elim (e i) [ None ↦ [] | Some x ↦ sited_in found.names x.elf x.summary p.key c.1.number p.section ] ++ later i
      by true false h later = absurd (cc)
      by false true h later = absurd (cc)
      by false false h later = later

  input_sited : (before : List Claimed) (c : Claimed) (later : List Claimed) → cs ≡ before ++ c ∷ later → IsIn inputs c.1 → sited_of found.names inputs (left_of c) ≡ input_references found inputs c.1.number
  input_sited before c later e is_at =
      let y : Input = is_at.0 in
      pieces_sited c y is_at.1 (own_kept before c later e) c.1.summary.pieces
      ∙ ap (λ (s : InputSummary). references_in found y.elf y.summary c.1.number s.pieces) (sym is_at.2)
      ∙ ap (λ (o : Option Input). elim o [ None ↦ [] | Some x ↦ references_in found x.elf x.summary c.1.number x.summary.pieces ]) (sym is_at.1)

  all_sited : (before later : List Claimed) → cs ≡ before ++ later → AllByRecursion (λ (c : Claimed). IsIn inputs c.1) later → sited_of found.names inputs (flat_map left_of later) ≡ flat_map (input_references found inputs) (map (λ (c : Claimed). c.1.number) later)
  all_sited before [] e h = refl
  all_sited before (c ∷ later) e h =
      flat_map-append (λ (k : KeptPiece). sited_at found.names inputs k.key k.piece) (left_of c) (flat_map left_of later)
      ∙ (λ i. input_sited before c later e h.0 i ++ all_sited (before ++ c ∷ []) later (e ∙ sym (append_assoc before (c ∷ []) later)) h.1 i)

-- leaving out the claimed signatures gives the numbers of the added inputs
claimed_numbers : (claimed : List (List ℕ)) (added : List Numbered) → map (λ (c : Claimed). c.1.number) (with_claims claimed added) ≡ numbers_in added
claimed_numbers claimed [] = refl
claimed_numbers claimed (x ∷ xs) = ap (λ (ns : List ℕ). x.number ∷ ns) (claimed_numbers (claimed ++ signatures_in x.summary) xs)

claimed_times : (n : ℕ) (claimed : List (List ℕ)) (added : List Numbered) → times (claims_number n) (with_claims claimed added) ≡ times (is_numbered n) added
claimed_times n claimed [] = refl
claimed_times n claimed (x ∷ xs) = ap (λ k. cond (x.number == n) 1 0 + k) (claimed_times n (claimed ++ signatures_in x.summary) xs)

claimed_all : (P : Numbered → Type 0) (claimed : List (List ℕ)) (added : List Numbered) → AllByRecursion P added → AllByRecursion (λ (c : Claimed). P c.1) (with_claims claimed added)
claimed_all P claimed [] h = tt
claimed_all P claimed (x ∷ xs) h = (h.0, claimed_all P (claimed ++ signatures_in x.summary) xs h.1)

pub sited_by_input : (found : Found) (inputs : List Input) (added : List Numbered) → found.sections ≡ kept_sections added → ((n : ℕ) → times (is_numbered n) added ≤ 1) → AllByRecursion (IsIn inputs) added → sited_of found.names inputs found.sections ≡ flat_map (input_references found inputs) (numbers_in added)
sited_by_input found inputs added sections once are_at =
    ap (sited_of found.names inputs) sections
    ∙ all_sited found inputs (with_claims [] added) sections (λ n. subst (λ k. k ≤ 1) (sym (claimed_times n [] added)) (once n)) [] (with_claims [] added) refl (claimed_all (IsIn inputs) [] added are_at)
    ∙ ap (flat_map (input_references found inputs)) (claimed_numbers [] added)
