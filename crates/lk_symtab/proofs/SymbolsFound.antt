-- The rows of all symbols are lk_model's names, also after one more symbol.
use Rattle.std.proofs.Common.{◌≡◌, refl, sym, ap, ◌∙◌, ℕ, Bool, true, false, cond, ◌||◌, List, [], ◌∷◌, ◌++◌, map, filter, fold}
use Rattle.std.specs.Cmp.Lexicographic.{nat_list_eq_equiv}
use Rattle.std.specs.List.{list_any, AllByRecursion, IsDistinct}
use Rattle.std.specs.Str.{bytes_eq}
use Rattle.std.proofs.lemmas.List.{append-nil, append_assoc}
use Rattle.std.proofs.lemmas.List.Elements.{filter-append}
use Rattle.std.proofs.lemmas.List.Folds.{list_any-append}
use Rattle.std.proofs.lemmas.Map.Keys.{IsDistinct-push}
use Rattle.lk_model.specs.declared.summaries.Contribution.{Contribution}
use Rattle.lk_model.specs.declared.summaries.Contributions.{Contributions}
use Rattle.lk_model.specs.Numbered.{with_new}
use Rattle.lk_model.specs.Symbols.{contributions_of, contributions_to, is_named, names_in_order}
use Rattle.lk_model.proofs.Finding.{names_in_order-push}
use Rattle.lk_symtab.specs.Bests.{with_last}
use Rattle.lk_symtab.specs.NameRows.{NameRow, all_symbols, row_with, with_symbol}
use Rattle.lk_symtab.specs.SymbolLaws.{TableIsTheModels, SymbolsGoOn, plain_row, with_own}

-- the names with one more symbol
abbrev pub list_with : List Contributions → List ℕ → Contribution → List Contributions
list_with [] name c = record { name = name; list = c ∷ [] } ∷ []
list_with (cs ∷ css) name c = cond (bytes_eq name cs.name) (with_last cs c ∷ css) (cs ∷ list_with css name c)

all_symbols-with : (rows : List NameRow) (name : List ℕ) (c : Contribution) → all_symbols (with_symbol rows name c) ≡ list_with (all_symbols rows) name c
all_symbols-with [] name c = refl
all_symbols-with (row ∷ rows) name c = by (bytes_eq name row.contributions.name) (all_symbols-with rows name c)
  where
    by : (b : Bool) → all_symbols (with_symbol rows name c) ≡ list_with (all_symbols rows) name c → all_symbols (cond b (row_with row c ∷ rows) (row ∷ with_symbol rows name c)) ≡ cond b (with_last row.contributions c ∷ all_symbols rows) (row.contributions ∷ list_with (all_symbols rows) name c)
    by true rest = refl
    by false rest = ap (λ l. row.contributions ∷ l) rest

plain-with : (css : List Contributions) (name : List ℕ) (c : Contribution) → with_symbol (map plain_row css) name c ≡ map plain_row (list_with css name c)
plain-with [] name c = refl
plain-with (cs ∷ css) name c = by (bytes_eq name cs.name) (plain-with css name c)
  where
    by : (b : Bool) → with_symbol (map plain_row css) name c ≡ map plain_row (list_with css name c) → cond b (row_with (plain_row cs) c ∷ map plain_row css) (plain_row cs ∷ with_symbol (map plain_row css) name c) ≡ map plain_row (cond b (with_last cs c ∷ css) (cs ∷ list_with css name c))
    by true rest = refl
    by false rest = ap (λ l. plain_row cs ∷ l) rest

-- the symbols of a name with one more symbol, of this name or another
to_own : (xs : List Contribution) (c : Contribution) (n : List ℕ) → bytes_eq c.global.name n ≡ true → contributions_to (xs ++ c ∷ []) n ≡ with_last (contributions_to xs n) c
to_own xs c n same =
    ap (λ (l : List Contribution). record { name = n; list = l }) (filter-append (is_named n) xs (c ∷ []) ∙ ap (λ b. filter (is_named n) xs ++ cond b (c ∷ []) []) same)

to_other : (xs : List Contribution) (c : Contribution) (n : List ℕ) → bytes_eq c.global.name n ≡ false → contributions_to (xs ++ c ∷ []) n ≡ contributions_to xs n
to_other xs c n other =
    ap (λ (l : List Contribution). record { name = n; list = l }) (filter-append (is_named n) xs (c ∷ []) ∙ ap (λ b. filter (is_named n) xs ++ cond b (c ∷ []) []) other ∙ append-nil (filter (is_named n) xs))

others : (xs : List Contribution) (c : Contribution) (ns : List (List ℕ)) → AllByRecursion (λ n. bytes_eq c.global.name n ≡ false) ns → map (contributions_to (xs ++ c ∷ [])) ns ≡ map (contributions_to xs) ns
others xs c [] h = refl
others xs c (n ∷ ns) h = λ i. to_other xs c n h.0 i ∷ others xs c ns h.1 i

apart : (x n : List ℕ) (ns : List (List ℕ)) → bytes_eq x n ≡ true → AllByRecursion (λ m. bytes_eq n m ≡ false) ns → AllByRecursion (λ m. bytes_eq x m ≡ false) ns
apart x n [] same h = tt
apart x n (m ∷ ns) same h = (nat_list_eq_equiv.congr x n m same ∙ h.0, apart x n ns same h.1)

-- one more symbol of a name that has symbols
there : (xs : List Contribution) (c : Contribution) (ns : List (List ℕ)) → IsDistinct bytes_eq ns → list_any (bytes_eq c.global.name) ns ≡ true → list_with (map (contributions_to xs) ns) c.global.name c ≡ map (contributions_to (xs ++ c ∷ [])) ns
unfolding IsDistinct
there xs c [] distinct h = absurd (cc)
there xs c (n ∷ ns) distinct h = by (bytes_eq c.global.name n) refl h (there xs c ns distinct.1)
  where
    by : (b : Bool) → bytes_eq c.global.name n ≡ b → (b || list_any (bytes_eq c.global.name) ns) ≡ true → (list_any (bytes_eq c.global.name) ns ≡ true → list_with (map (contributions_to xs) ns) c.global.name c ≡ map (contributions_to (xs ++ c ∷ [])) ns)
        → cond b (with_last (contributions_to xs n) c ∷ map (contributions_to xs) ns) (contributions_to xs n ∷ list_with (map (contributions_to xs) ns) c.global.name c) ≡ map (contributions_to (xs ++ c ∷ [])) (n ∷ ns)
    by true is any rest = λ i. sym (to_own xs c n is) i ∷ sym (others xs c ns (apart c.global.name n ns is distinct.0)) i
    by false is any rest = λ i. sym (to_other xs c n is) i ∷ rest any i

-- one more symbol of a new name
last : (xs : List Contribution) (c : Contribution) (ns : List (List ℕ)) → filter (is_named c.global.name) xs ≡ [] → list_any (bytes_eq c.global.name) ns ≡ false → list_with (map (contributions_to xs) ns) c.global.name c ≡ map (contributions_to (xs ++ c ∷ [])) (ns ++ c.global.name ∷ [])
last xs c [] none h =
    ap (λ (l : List Contribution). with_last (record { name = c.global.name; list = l }) c ∷ []) (sym none)
    ∙ ap (λ (cs : Contributions). cs ∷ []) (sym (to_own xs c c.global.name (nat_list_eq_equiv.refl c.global.name)))
last xs c (n ∷ ns) none h = by (bytes_eq c.global.name n) refl h (last xs c ns none)
  where
    by : (b : Bool) → bytes_eq c.global.name n ≡ b → (b || list_any (bytes_eq c.global.name) ns) ≡ false → (list_any (bytes_eq c.global.name) ns ≡ false → list_with (map (contributions_to xs) ns) c.global.name c ≡ map (contributions_to (xs ++ c ∷ [])) (ns ++ c.global.name ∷ []))
        → cond b (with_last (contributions_to xs n) c ∷ map (contributions_to xs) ns) (contributions_to xs n ∷ list_with (map (contributions_to xs) ns) c.global.name c) ≡ map (contributions_to (xs ++ c ∷ [])) (n ∷ ns ++ c.global.name ∷ [])
    by true is any rest = absurd (cc)
    by false is any rest = λ i. sym (to_other xs c n is) i ∷ rest any i

-- a name is among the names in order exactly where a symbol has it
same_any : (x y : List ℕ) (ns : List (List ℕ)) → bytes_eq x y ≡ true → list_any (bytes_eq x) ns ≡ list_any (bytes_eq y) ns
same_any x y [] same = refl
same_any x y (n ∷ ns) same = λ i. nat_list_eq_equiv.congr x y n same i || same_any x y ns same i

or_true : (b : Bool) → (b || true) ≡ true
or_true true = refl
or_true false = refl

or_false : (b : Bool) → (b || false) ≡ b
or_false true = refl
or_false false = refl

or_assoc : (a b c : Bool) → ((a || b) || c) ≡ (a || (b || c))
or_assoc true b c = refl
or_assoc false b c = refl

any_new : (x y : List ℕ) (seen : List (List ℕ)) → list_any (bytes_eq x) (with_new bytes_eq seen y) ≡ (list_any (bytes_eq x) seen || bytes_eq x y)
any_new x y seen = by (list_any (bytes_eq y) seen) (bytes_eq x y) refl refl
  where
    by : (has same : Bool) → list_any (bytes_eq y) seen ≡ has → bytes_eq x y ≡ same → list_any (bytes_eq x) (cond has seen (seen ++ y ∷ [])) ≡ (list_any (bytes_eq x) seen || same)
    by true true h s = (same_any x y seen s ∙ h) ∙ sym (or_true (list_any (bytes_eq x) seen))
    by true false h s = sym (or_false (list_any (bytes_eq x) seen))
    by false same h s = list_any-append (bytes_eq x) seen (y ∷ []) ∙ ap (λ b. list_any (bytes_eq x) seen || b) (or_false (bytes_eq x y) ∙ s)

any_fold : (x : List ℕ) (seen ys : List (List ℕ)) → list_any (bytes_eq x) (fold (with_new bytes_eq) seen ys) ≡ (list_any (bytes_eq x) seen || list_any (bytes_eq x) ys)
any_fold x seen [] = sym (or_false (list_any (bytes_eq x) seen))
any_fold x seen (y ∷ ys) =
    any_fold x (with_new bytes_eq seen y) ys ∙ ap (λ b. b || list_any (bytes_eq x) ys) (any_new x y seen) ∙ or_assoc (list_any (bytes_eq x) seen) (bytes_eq x y) (list_any (bytes_eq x) ys)

any_named : (x : List ℕ) (xs : List Contribution) → list_any (bytes_eq x) (map (λ (c : Contribution). c.global.name) xs) ≡ list_any (is_named x) xs
any_named x [] = refl
any_named x (c ∷ cs) = λ i. nat_list_eq_equiv.symm x c.global.name i || any_named x cs i

pub names_have : (x : List ℕ) (xs : List Contribution) → list_any (bytes_eq x) (names_in_order xs) ≡ list_any (is_named x) xs
names_have x xs = any_fold x [] (map (λ (c : Contribution). c.global.name) xs) ∙ any_named x xs

pub none_named : (x : List ℕ) (xs : List Contribution) → list_any (is_named x) xs ≡ false → filter (is_named x) xs ≡ []
none_named x [] h = refl
none_named x (c ∷ cs) h = by (is_named x c) h (none_named x cs)
  where
    by : (b : Bool) → (b || list_any (is_named x) cs) ≡ false → (list_any (is_named x) cs ≡ false → filter (is_named x) cs ≡ []) → cond b (c ∷ filter (is_named x) cs) (filter (is_named x) cs) ≡ []
    by true any rest = absurd (cc)
    by false any rest = rest any

-- the names in order differ
distinct_fold : (seen ys : List (List ℕ)) → IsDistinct bytes_eq seen → IsDistinct bytes_eq (fold (with_new bytes_eq) seen ys)
distinct_fold seen [] h = h
distinct_fold seen (y ∷ ys) h = distinct_fold (with_new bytes_eq seen y) ys (by (list_any (bytes_eq y) seen) refl)
  where
    by : (b : Bool) → list_any (bytes_eq y) seen ≡ b → IsDistinct bytes_eq (cond b seen (seen ++ y ∷ []))
    by true any = h
    by false any = IsDistinct-push nat_list_eq_equiv seen y h any

none_distinct : IsDistinct bytes_eq []
unfolding IsDistinct
none_distinct = tt

names_distinct : (xs : List Contribution) → IsDistinct bytes_eq (names_in_order xs)
names_distinct xs = distinct_fold [] (map (λ (c : Contribution). c.global.name) xs) none_distinct

-- lk_model's names with one more symbol
one_more : (xs : List Contribution) (c : Contribution) → list_with (contributions_of xs) c.global.name c ≡ contributions_of (xs ++ c ∷ [])
one_more xs c = by (list_any (bytes_eq c.global.name) (names_in_order xs)) refl ∙ ap (map (contributions_to (xs ++ c ∷ []))) (sym (names_in_order-push xs c))
  where
    by : (b : Bool) → list_any (bytes_eq c.global.name) (names_in_order xs) ≡ b → list_with (contributions_of xs) c.global.name c ≡ map (contributions_to (xs ++ c ∷ [])) (cond b (names_in_order xs) (names_in_order xs ++ c.global.name ∷ []))
    by true any = there xs c (names_in_order xs) (names_distinct xs) any
    by false any = last xs c (names_in_order xs) (none_named c.global.name xs (sym (names_have c.global.name xs) ∙ any)) any

pub goes_on : SymbolsGoOn
goes_on rows symbols c same =
    all_symbols-with rows c.global.name c ∙ ap (λ (css : List Contributions). list_with css c.global.name c) same ∙ one_more symbols c

table_from : (done rest : List Contribution) → fold with_own (map plain_row (contributions_of done)) rest ≡ map plain_row (contributions_of (done ++ rest))
table_from done [] = ap (λ (xs : List Contribution). map plain_row (contributions_of xs)) (sym (append-nil done))
table_from done (c ∷ rest) =
    ap (λ (rows : List NameRow). fold with_own rows rest) (plain-with (contributions_of done) c.global.name c ∙ ap (map plain_row) (one_more done c))
    ∙ table_from (done ++ c ∷ []) rest
    ∙ ap (λ (xs : List Contribution). map plain_row (contributions_of xs)) (append_assoc done (c ∷ []) rest)

pub table : TableIsTheModels
table symbols = table_from [] symbols
