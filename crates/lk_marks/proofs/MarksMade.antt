-- Marks that are set one after another are those of the numbers (this project's own).
use Rattle.std.proofs.Common.{◌≡◌, refl, sym, ap, ◌∙◌, add-one, arith, ◌+◌, ◌<◌, ◌≤◌, ℕ, zero, suc, Bool, true, false, cond, inl, inr, ◌||◌, nat_eq, List, [], ◌∷◌, ◌++◌, append_assoc, append-nil, drop, drop-cons, ext_get_or, fold, get_or, get_or-set_other, get_or-set_same, length, length-set, map, replicate, slice_get, Some}
use Rattle.std.specs.List.{list_any, range_with_len}
use Rattle.std.proofs.lemmas.Bool.{cases_eq, eq-eqb, ne_eqb}
use Rattle.std.proofs.lemmas.List.{drop_all}
use Rattle.std.proofs.lemmas.List.Folds.{list_any-append}
use Rattle.std.proofs.lemmas.List.FromFn.{get_or-map-range_with_len, length-map-range_with_len}
use Rattle.std.proofs.lemmas.Option.{slice_get-get_or}
use Rattle.lk_marks.specs.Marked.{is_marked, marks_of, with_mark}

-- whether a number is one of these
abbrev is_number_in : List ℕ → ℕ → Bool
is_number_in numbers n = list_any (nat_eq n) numbers

or_none : (b : Bool) → (b || false) ≡ b
or_none true = refl
or_none false = refl

or_all : (b : Bool) → (b || true) ≡ true
or_all true = refl
or_all false = refl

pub or_true : (a b : Bool) → cond a true b ≡ (b || a)
or_true true true = refl
or_true true false = refl
or_true false true = refl
or_true false false = refl

-- ---- one mark more

pub no_mark : (marks : List Bool) (n : ℕ) → length marks ≤ n → with_mark marks n ≡ marks
no_mark [] n l = refl
no_mark (m ∷ ms) zero l = absurd (omega (arith, l))
no_mark (m ∷ ms) (suc n) l = ap (λ bs. m ∷ bs) (no_mark ms n (omega (arith, l)))

pub mark_length : (marks : List Bool) (n : ℕ) → length (with_mark marks n) ≡ length marks
mark_length marks n = length-set marks n true

pub mark_set : (marks : List Bool) (n k : ℕ) → k < length marks → get_or (with_mark marks n) k false ≡ (get_or marks k false || nat_eq k n)
mark_set marks n k h = elim (cases_eq k n) [
  | inl same ↦
      ap (λ (m : ℕ). get_or (with_mark marks m) k false) (sym same)
      ∙ get_or-set_same marks k true false h
      ∙ sym (or_all (get_or marks k false))
      ∙ ap (λ b. get_or marks k false || b) (sym (eq-eqb k n same))
  | inr other ↦
      get_or-set_other marks n k true false other
      ∙ sym (or_none (get_or marks k false))
      ∙ ap (λ b. get_or marks k false || b) (sym (ne_eqb k n other))
]

-- ---- the marks of numbers

pub marks_length : (numbers : List ℕ) (count : ℕ) → length (marks_of numbers count) ≡ count
marks_length numbers count = length-map-range_with_len (is_number_in numbers) 0 count

pub mark_got : (numbers : List ℕ) (count k : ℕ) → k < count → get_or (marks_of numbers count) k false ≡ list_any (nat_eq k) numbers
mark_got numbers count k l = get_or-map-range_with_len (is_number_in numbers) 0 count k k false l (omega arith)

pub mark_reported : (numbers : List ℕ) (count k : ℕ) → k < count → is_marked (marks_of numbers count) k ≡ list_any (nat_eq k) numbers
mark_reported numbers count k l =
    let got : slice_get (marks_of numbers count) k ≡ Some (get_or (marks_of numbers count) k false) = slice_get-get_or (marks_of numbers count) k false (omega (arith, l, marks_length numbers count)) in
    rw got (mark_got numbers count k l)

mark_more : (numbers : List ℕ) (count n : ℕ) → with_mark (marks_of numbers count) n ≡ marks_of (numbers ++ n ∷ []) count
mark_more numbers count n =
    ext_get_or false (with_mark (marks_of numbers count) n) (marks_of (numbers ++ n ∷ []) count)
    (mark_length (marks_of numbers count) n ∙ marks_length numbers count ∙ sym (marks_length (numbers ++ n ∷ []) count))
    (λ k l. at k (omega (arith, l, mark_length (marks_of numbers count) n, marks_length numbers count)))
  where
    at : (k : ℕ) → k < count → get_or (with_mark (marks_of numbers count) n) k false ≡ get_or (marks_of (numbers ++ n ∷ []) count) k false
    at k l =
        mark_set (marks_of numbers count) n k (omega (arith, l, marks_length numbers count))
        ∙ ap (λ b. b || nat_eq k n) (mark_got numbers count k l)
        ∙ ap (λ b. is_number_in numbers k || b) (sym (or_none (nat_eq k n)))
        ∙ sym (list_any-append (nat_eq k) numbers (n ∷ []))
        ∙ sym (mark_got (numbers ++ n ∷ []) count k l)

pub marks_more : (numbers : List ℕ) (count : ℕ) (more : List ℕ) → fold with_mark (marks_of numbers count) more ≡ marks_of (numbers ++ more) count
marks_more numbers count [] = ap (λ ns. marks_of ns count) (sym (append-nil numbers))
marks_more numbers count (n ∷ more) =
    ap (λ (marks : List Bool). fold with_mark marks more) (mark_more numbers count n)
    ∙ marks_more (numbers ++ n ∷ []) count more
    ∙ ap (λ ns. marks_of ns count) (append_assoc numbers (n ∷ []) more)

replicated : (count a : ℕ) → replicate count false ≡ map (is_number_in []) (range_with_len a count)
replicated zero a = refl
replicated (suc count) a = ap (λ bs. false ∷ bs) (replicated count (a + 1))

-- ---- the loop over numbers

pub next_mark : (marks : List Bool) (numbers : List ℕ) (i d : ℕ) → i < length numbers → fold with_mark marks (drop i numbers) ≡ fold with_mark (with_mark marks (get_or numbers i d)) (drop (i + 1) numbers)
next_mark marks numbers i d l =
    ap (λ (ns : List ℕ). fold with_mark marks ns) (drop-cons numbers i d l)
    ∙ ap (λ m. fold with_mark (with_mark marks (get_or numbers i d)) (drop m numbers)) (sym (add-one i))

pub marks_made : (numbers : List ℕ) (count i : ℕ) (marks : List Bool) → length numbers ≤ i → fold with_mark marks (drop i numbers) ≡ fold with_mark (replicate count false) numbers → marks ≡ marks_of numbers count
marks_made numbers count i marks done same =
    sym (ap (λ (ns : List ℕ). fold with_mark marks ns) (drop_all i numbers done))
    ∙ same
    ∙ ap (λ (start : List Bool). fold with_mark start numbers) (replicated count 0)
    ∙ marks_more [] count numbers
