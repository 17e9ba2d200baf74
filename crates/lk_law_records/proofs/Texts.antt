-- A text of a table is found again at its offset, and the table of texts has each of them.
use Rattle.std.proofs.Common.{◌≡◌, ℕ, ◌+◌, ◌-◌, ◌<◌, ◌⊎◌, inl, inr, Bool, true, false, ◌||◌, List, [], ◌∷◌, ◌++◌, length, take, drop, refl, sym, ap, ◌∙◌, arith, append_assoc, length-append, subst}
use Rattle.std.specs.Prelude.{Some, nat_lt, ◌==◌, fold, slice_index, cond}
use Rattle.std.specs.List.{flat_map, list_any, position_or_len}
use Rattle.std.specs.Str.{bytes_eq}
use Rattle.std.proofs.lemmas.List.{drop_at, take_at, get_or_at, length_push}
use Rattle.std.proofs.lemmas.Bool.{lt-ltb, cases_Bool, or_parts, or_right, or_left, or_cases}
use Rattle.std.proofs.lemmas.Slice.Eq.{bytes_eq-Decides}
use Rattle.lk_law_records.specs.Recordable.{has_zero}
use Rattle.lk_model.specs.Elf.{text_in}
use Rattle.lk_model.specs.Texts.{with_text, table_of, offset_from, offset_in, ended, table_bytes, begins_text, text_at}

-- the first zero after a text without one
first-zero : (t rest : List ℕ) → has_zero t ≡ false → position_or_len (λ b. b == 0) (t ++ 0 ∷ rest) ≡ length t
first-zero [] rest none = refl
first-zero (b ∷ t) rest none =
    let (here, more) = or_parts (b == 0) (has_zero t) none in
    rw (here, first-zero t rest more) (omega arith)

-- what is empty or ends with a zero
abbrev Closed : List ℕ → Type 0
Closed pre = (pre ≡ []) ⊎ ((p : List ℕ) × (pre ≡ p ++ 0 ∷ []))

begins : (pre rest : List ℕ) → Closed pre → begins_text (pre ++ rest) (length pre) ≡ true
begins pre rest (inl none) = rw none refl
begins pre rest (inr (p, is)) =
    let long : length pre ≡ length p + 1 = ap length is ∙ length_push p 0 in
    let byte : slice_index ((p ++ 0 ∷ []) ++ rest) (length p) ≡ 0 = ap (λ l. slice_index l (length p)) (append_assoc p (0 ∷ []) rest) ∙ get_or_at p 0 rest 0 (length p) refl in
    let less : length p + 1 - 1 ≡ length p = omega arith in
    rw (long, is, less, byte) (or_right (length p + 1 == 0) true refl)

-- a text behind closed ones
text-behind : (pre t rest : List ℕ) → Closed pre → has_zero t ≡ false → text_at (pre ++ (ended t ++ rest)) (length pre) ≡ Some t
text-behind pre t rest closed none =
    let shape : ended t ++ rest ≡ t ++ 0 ∷ rest = append_assoc t (0 ∷ []) rest in
    let long : length (pre ++ (ended t ++ rest)) ≡ length pre + (length t + 1 + length rest) = length-append pre (ended t ++ rest) ∙ ap (λ n. length pre + n) (length-append (ended t) rest ∙ ap (λ n. n + length rest) (length_push t 0)) in
    let inside : nat_lt (length pre) (length (pre ++ (ended t ++ rest))) ≡ true = lt-ltb (length pre) (length (pre ++ (ended t ++ rest))) (omega (arith, long)) in
    let start = begins pre (ended t ++ rest) closed in
    let behind : drop (length pre) (pre ++ (ended t ++ rest)) ≡ ended t ++ rest = drop_at pre (ended t ++ rest) (length pre) refl in
    let zero_at : position_or_len (λ b. b == 0) (ended t ++ rest) ≡ length t = ap (position_or_len (λ b. b == 0)) shape ∙ first-zero t rest none in
    let more : length (ended t ++ rest) ≡ length t + 1 + length rest = length-append (ended t) rest ∙ ap (λ n. n + length rest) (length_push t 0) in
    let there : nat_lt (length t) (length (ended t ++ rest)) ≡ true = lt-ltb (length t) (length (ended t ++ rest)) (omega (arith, more)) in
    let back : take (length t) (ended t ++ rest) ≡ t = ap (take (length t)) shape ∙ take_at t (0 ∷ rest) (length t) refl in
    rw (inside, start, behind, zero_at, there, behind, back) refl

offset-first : (at : ℕ) (x : List ℕ) (xs : List (List ℕ)) (t : List ℕ) → bytes_eq t x ≡ true → offset_from at (x ∷ xs) t ≡ at
offset-first at x xs t same = rw same refl

offset-next : (at : ℕ) (x : List ℕ) (xs : List (List ℕ)) (t : List ℕ) → bytes_eq t x ≡ false → offset_from at (x ∷ xs) t ≡ offset_from (at + length x + 1) xs t
offset-next at x xs t other = rw other refl

-- a text of a table is found at its offset, also behind other closed texts
found-from : (pre : List ℕ) (table : List (List ℕ)) (t : List ℕ) → Closed pre → has_zero t ≡ false → list_any (bytes_eq t) table ≡ true
    → text_at (pre ++ flat_map ended table) (offset_from (length pre) table t) ≡ Some t
found-from pre [] t closed none there = absurd (cc)
found-from pre (x ∷ xs) t closed none there =
    let case : (bytes_eq t x ≡ true) ⊎ (bytes_eq t x ≡ false) = cases_Bool (bytes_eq t x) in
    elim case as (λ _. text_at (pre ++ flat_map ended (x ∷ xs)) (offset_from (length pre) (x ∷ xs) t) ≡ Some t) [
      | inl same ↦
          let is : t ≡ x = (bytes_eq-Decides t x).0 same in
          let here : text_at (pre ++ (ended x ++ flat_map ended xs)) (length pre) ≡ Some t = subst (λ y. text_at (pre ++ (ended y ++ flat_map ended xs)) (length pre) ≡ Some t) is (text-behind pre t (flat_map ended xs) closed none) in
          subst (λ n. text_at (pre ++ (ended x ++ flat_map ended xs)) n ≡ Some t) (sym (offset-first (length pre) x xs t same)) here
      | inr other ↦
          let more : list_any (bytes_eq t) xs ≡ true = rw other at there in
          let long : length (pre ++ ended x) ≡ length pre + length x + 1 = length-append pre (ended x) ∙ (let e = length_push x 0 in omega (arith, e)) in
          let next : text_at ((pre ++ ended x) ++ flat_map ended xs) (offset_from (length (pre ++ ended x)) xs t) ≡ Some t =
          found-from (pre ++ ended x) xs t (inr (pre ++ x, sym (append_assoc pre x (0 ∷ [])))) none more in
          let there : text_at (pre ++ (ended x ++ flat_map ended xs)) (offset_from (length pre + length x + 1) xs t) ≡ Some t =
          subst (λ l. text_at l (offset_from (length pre + length x + 1) xs t) ≡ Some t) (append_assoc pre (ended x) (flat_map ended xs))
          (subst (λ n. text_at ((pre ++ ended x) ++ flat_map ended xs) (offset_from n xs t) ≡ Some t) long next) in
          subst (λ n. text_at (pre ++ (ended x ++ flat_map ended xs)) n ≡ Some t) (sym (offset-next (length pre) x xs t other)) there
    ]

-- a text of a table is found at its offset
pub text-found : (table : List (List ℕ)) (t : List ℕ) → has_zero t ≡ false → list_any (bytes_eq t) table ≡ true
    → text_at (table_bytes table) (offset_in table t) ≡ Some t
unfolding table_bytes
text-found table t none there = found-from [] table t (inl refl) none there

-- the offset of a text of a table is inside the table's bytes
offset-inside : (at : ℕ) (table : List (List ℕ)) (t : List ℕ) → list_any (bytes_eq t) table ≡ true → offset_from at table t < at + length (flat_map ended table)
offset-inside at [] t there = absurd (cc)
offset-inside at (x ∷ xs) t there =
    let long : length (ended x ++ flat_map ended xs) ≡ length x + 1 + length (flat_map ended xs) = length-append (ended x) (flat_map ended xs) ∙ ap (λ n. n + length (flat_map ended xs)) (length_push x 0) in
    elim (cases_Bool (bytes_eq t x)) as (λ _. offset_from at (x ∷ xs) t < at + length (flat_map ended (x ∷ xs))) [
      | inl same ↦ rw same (omega (arith, long))
      | inr other ↦
          let more : list_any (bytes_eq t) xs ≡ true = rw other at there in
          let next = offset-inside (at + length x + 1) xs t more in
          rw other (omega (arith, long, next))
    ]

pub offset-below : (table : List (List ℕ)) (t : List ℕ) → list_any (bytes_eq t) table ≡ true → offset_in table t < length (table_bytes table)
unfolding table_bytes
offset-below table t there = let e = offset-inside 0 table t there in omega (arith, e)

any-append : {X : Type 0} (test : X → Bool) (xs ys : List X) → list_any test (xs ++ ys) ≡ (list_any test xs || list_any test ys)
any-append test [] ys = refl
any-append test (x ∷ xs) ys = elim (test x) as (λ b. (b || list_any test (xs ++ ys)) ≡ ((b || list_any test xs) || list_any test ys)) [ true ↦ refl | false ↦ any-append test xs ys ]

-- a text that a table has stays in it
kept-with : (table : List (List ℕ)) (x t : List ℕ) → list_any (bytes_eq t) table ≡ true → list_any (bytes_eq t) (with_text table x) ≡ true
kept-with table x t there = elim (list_any (bytes_eq x) table) as (λ b. list_any (bytes_eq t) (cond b table (table ++ x ∷ [])) ≡ true) [
  | true ↦ there
  | false ↦ any-append (bytes_eq t) table (x ∷ []) ∙ or_left (list_any (bytes_eq t) table) (list_any (bytes_eq t) (x ∷ [])) there
]

kept-fold : (texts table : List (List ℕ)) (t : List ℕ) → list_any (bytes_eq t) table ≡ true → list_any (bytes_eq t) (fold with_text table texts) ≡ true
kept-fold [] table t there = there
kept-fold (x ∷ xs) table t there = kept-fold xs (with_text table x) t (kept-with table x t there)

-- a text is in a table once it was put there
put-with : (table : List (List ℕ)) (x t : List ℕ) → bytes_eq t x ≡ true → list_any (bytes_eq t) (with_text table x) ≡ true
put-with table x t same =
    let is : t ≡ x = (bytes_eq-Decides t x).0 same in
    elim (cases_Bool (list_any (bytes_eq x) table)) as (λ _. list_any (bytes_eq t) (with_text table x) ≡ true) [
      | inl there ↦ rw there (subst (λ y. list_any (bytes_eq y) table ≡ true) (sym is) there)
      | inr none ↦ rw none (any-append (bytes_eq t) table (x ∷ []) ∙ or_right (list_any (bytes_eq t) table) (list_any (bytes_eq t) (x ∷ [])) (or_left (bytes_eq t x) false same))
    ]

put-fold : (texts table : List (List ℕ)) (t : List ℕ) → list_any (bytes_eq t) texts ≡ true → list_any (bytes_eq t) (fold with_text table texts) ≡ true
put-fold [] table t there = absurd (cc)
put-fold (x ∷ xs) table t there = elim (or_cases (bytes_eq t x) (list_any (bytes_eq t) xs) there) as (λ _. list_any (bytes_eq t) (fold with_text table (x ∷ xs)) ≡ true) [
  | inl same ↦ kept-fold xs (with_text table x) t (put-with table x t same)
  | inr more ↦ put-fold xs (with_text table x) t more
]

-- the table of texts has each of them
pub in-table : (texts : List (List ℕ)) (t : List ℕ) → list_any (bytes_eq t) texts ≡ true → list_any (bytes_eq t) (table_of texts) ≡ true
in-table texts t there = put-fold texts ([] ∷ []) t there

-- ---- a text up to its zero

zero-there : (t rest : List ℕ) → list_any (λ b. b == 0) (t ++ 0 ∷ rest) ≡ true
zero-there [] rest = refl
zero-there (b ∷ t) rest = or_right (b == 0) (list_any (λ c. c == 0) (t ++ 0 ∷ rest)) (zero-there t rest)

text-ended : (t rest : List ℕ) → has_zero t ≡ false → text_in (ended t ++ rest) ≡ Some t
text-ended t rest none =
    let shape : ended t ++ rest ≡ t ++ 0 ∷ rest = append_assoc t (0 ∷ []) rest in
    let back : take (length t) (t ++ 0 ∷ rest) ≡ t = take_at t (0 ∷ rest) (length t) refl in
    ap text_in shape ∙ rw (zero-there t rest, first-zero t rest none, back) refl

name-from : (pre : List ℕ) (table : List (List ℕ)) (t : List ℕ) → has_zero t ≡ false → list_any (bytes_eq t) table ≡ true
    → text_in (drop (offset_from (length pre) table t) (pre ++ flat_map ended table)) ≡ Some t
name-from pre [] t none there = absurd (cc)
name-from pre (x ∷ xs) t none there =
    let bytes = pre ++ (ended x ++ flat_map ended xs) in
    elim (cases_Bool (bytes_eq t x)) as (λ _. text_in (drop (offset_from (length pre) (x ∷ xs) t) bytes) ≡ Some t) [
      | inl same ↦
          let is : t ≡ x = (bytes_eq-Decides t x).0 same in
          let behind : drop (length pre) bytes ≡ ended x ++ flat_map ended xs = drop_at pre (ended x ++ flat_map ended xs) (length pre) refl in
          let here : text_in (ended x ++ flat_map ended xs) ≡ Some t =
          subst (λ y. text_in (ended y ++ flat_map ended xs) ≡ Some t) is (text-ended t (flat_map ended xs) none) in
          ap (λ n. text_in (drop n bytes)) (offset-first (length pre) x xs t same) ∙ ap text_in behind ∙ here
      | inr other ↦
          let more : list_any (bytes_eq t) xs ≡ true = rw other at there in
          let long : length (pre ++ ended x) ≡ length pre + length x + 1 = length-append pre (ended x) ∙ (let e = length_push x 0 in omega (arith, e)) in
          let next = name-from (pre ++ ended x) xs t none more in
          ap (λ n. text_in (drop n bytes)) (offset-next (length pre) x xs t other ∙ ap (λ n. offset_from n xs t) (sym long))
          ∙ ap (λ l. text_in (drop (offset_from (length (pre ++ ended x)) xs t) l)) (sym (append_assoc pre (ended x) (flat_map ended xs)))
          ∙ next
    ]

-- a name of a table is at its offset
pub name-found : (table : List (List ℕ)) (t : List ℕ) → has_zero t ≡ false → list_any (bytes_eq t) table ≡ true
    → text_in (drop (offset_in table t) (table_bytes table)) ≡ Some t
unfolding table_bytes
name-found table t none there = name-from [] table t none there
