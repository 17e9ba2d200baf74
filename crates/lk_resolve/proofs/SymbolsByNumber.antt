-- The symbols of an object that is added have, by its input and their numbers, the numbers of their names.
use Rattle.std.proofs.Common.{◌≡◌, refl, sym, ap, subst, ◌∙◌, arith, ℕ, suc, ◌+◌, ◌≤◌, ◌==◌, nat_eq, nat_lt, Bool, true, false, cond, not, ◌&&◌, ◌||◌, List, [], ◌∷◌, ◌++◌, drop, find, filter, flat_map, length, map, Option, None, Some, is_some, option_map, slice_get}
use Rattle.std.specs.Cmp.Lexicographic.{nat_list_eq_equiv}
use Rattle.std.specs.List.{AllByRecursion, cons_option, enumerate_from, list_any}
use Rattle.std.specs.Prelude.{filter_map}
use Rattle.std.specs.Str.{bytes_eq}
use Rattle.std.proofs.lemmas.Bool.Decides.{nat_tests}
use Rattle.std.proofs.lemmas.List.Folds.{list_any-append}
use Rattle.lk_elf.specs.declared.symbol.Sym.{Sym}
use Rattle.lk_model.specs.declared.summaries.Contribution.{Contribution}
use Rattle.lk_model.specs.declared.summaries.Contributions.{Contributions}
use Rattle.lk_model.specs.declared.summaries.Global.{Global}
use Rattle.lk_model.specs.declared.summaries.InputSummary.{InputSummary}
use Rattle.lk_model.specs.Adding.{added_inputs, numbers_in}
use Rattle.lk_model.specs.Elf.{symbol_name}
use Rattle.lk_model.specs.Finding.{names_of, number_among}
use Rattle.lk_model.specs.Groups.{signatures_in, with_claims}
use Rattle.lk_model.specs.Numbered.{Numbered, is_number_in}
use Rattle.lk_model.specs.Objects.{global_with, globals_in, is_local, summary_in}
use Rattle.lk_model.specs.References.{number_of_name}
use Rattle.lk_model.specs.Symbols.{contributions_by, contributions_of, contributions_to, home_left, is_named, names_in_order, symbols_of}
use Rattle.lk_model.specs.Views.{Elf, Input}
use Rattle.lk_model.proofs.AddedOnce.{IsIn, added_are_at}
use Rattle.lk_model.proofs.Rising.{all_map}
use Rattle.lk_symtab.specs.NameRows.{all_symbols}
use Rattle.lk_symtab.specs.NamesOfSymbols.{has_symbol, is_symbol, name_of_symbol}
use Rattle.lk_symtab.specs.SymbolLaws.{plain_row}
use Rattle.lk_symtab.proofs.RowsStay.{found}
use Rattle.lk_symtab.proofs.SymbolsNamed.{symbols_have_names}
use Rattle.lk_symtab.proofs.SymbolsNoted.{first_place, position-first_place}
use Rattle.lk_resolve.specs.NamedSymbols.{AreNamed}

same_number : (s t : ℕ) → (s == t) ≡ true → s ≡ t
same_number s t e = grind (arith, nat_tests)

turned : (s t : ℕ) → nat_eq s t ≡ true → (t == s) ≡ true
turned s t e = grind (arith, nat_tests)

no_lower : (m s k : ℕ) → m + 1 ≤ s → (m == k) ≡ true → (s == k) ≡ true → ⊥
no_lower m s k above here there =
    let low = same_number m k here in
    let high = same_number s k there in
    omega (arith, above)

and_left : (a b : Bool) → (a && b) ≡ true → a ≡ true
and_left true b e = refl
and_left false b e = absurd (cc)

and_right : (a b : Bool) → (a && b) ≡ true → b ≡ true
and_right true b e = e
and_right false b e = absurd (cc)

or_true : (b : Bool) → (b || true) ≡ true
or_true true = refl
or_true false = refl

some_same : {A : Type 0} (x y : A) → Some x ≡ Some y → x ≡ y
some_same x y e = cc

all_append : {A : Type 0} (P : A → Type 0) (xs ys : List A) → AllByRecursion P xs → AllByRecursion P ys → AllByRecursion P (xs ++ ys)
all_append P [] ys h k = k
all_append P (x ∷ xs) ys h k = (h.0, all_append P xs ys h.1 k)

-- what passes one test and so another
any_other : {A : Type 0} (p q : A → Bool) (xs : List A) → list_any p xs ≡ true → AllByRecursion (λ (x : A). p x ≡ true → q x ≡ true) xs → list_any q xs ≡ true
any_other p q [] any h = absurd (cc)
any_other p q (x ∷ xs) any h = by (p x) refl any h.0 (λ e. any_other p q xs e h.1)
  where
    by : (b : Bool) → p x ≡ b → (b || list_any p xs) ≡ true → (p x ≡ true → q x ≡ true) → (list_any p xs ≡ true → list_any q xs ≡ true) → (q x || list_any q xs) ≡ true
    by true e any here rest = ap (λ b. b || list_any q xs) (here e)
    by false e any here rest = ap (λ b. q x || b) (rest any) ∙ or_true (q x)

-- ---- the symbols of an object, by number

abbrev has_number : ℕ → Global → Bool
has_number k g = g.symbol == k

-- all symbols with a number have a name
abbrev OnlyNamed : ℕ → List ℕ → List Global → Type 0
OnlyNamed k name gs = AllByRecursion (λ (g : Global). has_number k g ≡ true → bytes_eq g.name name ≡ true) gs

found_number : (k : ℕ) (g : Global) (gs : List Global) → find (has_number k) gs ≡ Some g → g.symbol ≡ k
found_number k g [] e = absurd (cc)
found_number k g (h ∷ gs) e = by (has_number k h) refl e (found_number k g gs)
  where
    by : (b : Bool) → has_number k h ≡ b → cond b (Some h) (find (has_number k) gs) ≡ Some g → (find (has_number k) gs ≡ Some g → g.symbol ≡ k) → g.symbol ≡ k
    by true is e rest = ap (λ (x : Global). x.symbol) (sym (some_same h g e)) ∙ same_number h.symbol k is
    by false is e rest = rest e

module _ (elf : Elf) where
  abbrev is_listed : ℕ × Sym → Bool
  is_listed row = not (is_local row.1)

  abbrev listed : ℕ × Sym → Option Global
  listed row = option_map (global_with row.0 row.1) (symbol_name elf row.0)

  -- the symbols that are not LOCAL, of entries from a number on
  abbrev globals_from : ℕ → List Sym → List Global
  globals_from m syms = filter_map listed (filter is_listed (enumerate_from m syms))

  above : (m : ℕ) (syms : List Sym) → AllByRecursion (λ (g : Global). m ≤ g.symbol) (globals_from m syms)
  unfolding global_with
  above m [] = tt
  above m (s ∷ ss) = by (not (is_local s)) (all_map {P = λ (g : Global). m + 1 ≤ g.symbol} {Q = λ (g : Global). m ≤ g.symbol} (λ g h. omega (arith, h)) (globals_from (m + 1) ss) (above (m + 1) ss))
    where
      named : (o : Option (List ℕ)) → AllByRecursion (λ (g : Global). m ≤ g.symbol) (globals_from (m + 1) ss) → AllByRecursion (λ (g : Global). m ≤ g.symbol) (cons_option (option_map (global_with m s) o) (globals_from (m + 1) ss))
      named None rest = rest
      named (Some name) rest = (let le : m ≤ m = omega arith in le, rest)

      by : (b : Bool) → AllByRecursion (λ (g : Global). m ≤ g.symbol) (globals_from (m + 1) ss) → AllByRecursion (λ (g : Global). m ≤ g.symbol) (filter_map listed (cond b ((m, s) ∷ filter is_listed (enumerate_from (m + 1) ss)) (filter is_listed (enumerate_from (m + 1) ss))))
      by true rest = named (symbol_name elf m) rest
      by false rest = rest

  only_from : (k : ℕ) (g : Global) (m : ℕ) (syms : List Sym) → find (has_number k) (globals_from m syms) ≡ Some g → OnlyNamed k g.name (globals_from m syms)
  unfolding global_with
  only_from k g m [] e = absurd (cc)
  only_from k g m (s ∷ ss) e = by (not (is_local s)) e (only_from k g (m + 1) ss)
    where
      more : List Global
      more = globals_from (m + 1) ss

      first : (h : Global) (b : Bool) → h.symbol ≡ m → has_number k h ≡ b → cond b (Some h) (find (has_number k) more) ≡ Some g → (find (has_number k) more ≡ Some g → OnlyNamed k g.name more) → OnlyNamed k g.name (h ∷ more)
      first h true number is e rest = (
        (λ there. ap (λ (x : Global). bytes_eq h.name x.name) (sym (some_same h g e)) ∙ nat_list_eq_equiv.refl h.name),
        all_map {P = λ (x : Global). m + 1 ≤ x.symbol} {Q = λ (x : Global). has_number k x ≡ true → bytes_eq x.name g.name ≡ true} (λ x le there. absurd (no_lower m x.symbol k le (ap (λ n. n == k) (sym number) ∙ is) there)) more (above (m + 1) ss),
      )
      first h false number is e rest = ((λ there. absurd (let bad : true ≡ false = sym there ∙ is in cc)), rest e)

      named : (o : Option (List ℕ)) → find (has_number k) (cons_option (option_map (global_with m s) o) more) ≡ Some g → (find (has_number k) more ≡ Some g → OnlyNamed k g.name more) → OnlyNamed k g.name (cons_option (option_map (global_with m s) o) more)
      named None e rest = rest e
      named (Some name) e rest = first (global_with m s name) (has_number k (global_with m s name)) refl refl e rest

      by : (b : Bool) → find (has_number k) (filter_map listed (cond b ((m, s) ∷ filter is_listed (enumerate_from (m + 1) ss)) (filter is_listed (enumerate_from (m + 1) ss)))) ≡ Some g → (find (has_number k) more ≡ Some g → OnlyNamed k g.name more)
          → OnlyNamed k g.name (filter_map listed (cond b ((m, s) ∷ filter is_listed (enumerate_from (m + 1) ss)) (filter is_listed (enumerate_from (m + 1) ss))))
      by true e rest = named (symbol_name elf m) e rest
      by false e rest = rest e

only_named : (elf : Elf) (k : ℕ) (g : Global) → find (has_number k) (summary_in elf).globals ≡ Some g → OnlyNamed k g.name (summary_in elf).globals
unfolding summary_in globals_in
only_named elf k g e = only_from elf k g 1 (drop 1 elf.symbols) e

-- ---- the symbols of added inputs

module _ (n k : ℕ) where
  abbrev Only : List ℕ → Contribution → Type 0
  Only name c = is_symbol n k c ≡ true → is_named name c ≡ true

  module _ (claimed : List (List ℕ)) (y : Numbered) where
    abbrev as_counted : Global → Contribution
    as_counted g = record { input = y.number; kind = y.summary.kind; global = record g { home = home_left claimed y.summary g.home } }

    only_by : (name : List ℕ) (gs : List Global) → ((y.number == n) ≡ true → OnlyNamed k name gs) → AllByRecursion (Only name) (map as_counted gs)
    only_by name [] h = tt
    only_by name (g ∷ gs) h = ((λ e. (h (and_left (y.number == n) (g.symbol == k) e)).0 (and_right (y.number == n) (g.symbol == k) e)), only_by name gs (λ e. (h e).1))

    none_by : (gs : List Global) → ((y.number == n) ≡ true → find (has_number k) gs ≡ None) → list_any (is_symbol n k) (map as_counted gs) ≡ false
    none_by [] h = refl
    none_by (g ∷ gs) h = by (y.number == n) (g.symbol == k) refl h (none_by gs)
      where
        by : (a b : Bool) → (y.number == n) ≡ a → ((y.number == n) ≡ true → cond b (Some g) (find (has_number k) gs) ≡ None) → (((y.number == n) ≡ true → find (has_number k) gs ≡ None) → list_any (is_symbol n k) (map as_counted gs) ≡ false)
            → ((a && b) || list_any (is_symbol n k) (map as_counted gs)) ≡ false
        by true true e h rest = absurd (let bad : Some g ≡ None = h e in cc)
        by true false e h rest = rest h
        by false b e h rest = rest (λ t. absurd (let bad : true ≡ false = sym t ∙ e in cc))

    there_by : (g : Global) (gs : List Global) → (y.number == n) ≡ true → find (has_number k) gs ≡ Some g → list_any (is_symbol n k) (map as_counted gs) ≡ true
    there_by g [] is e = absurd (cc)
    there_by g (h ∷ gs) is e = by (y.number == n) (h.symbol == k) is e (there_by g gs is)
      where
        by : (a b : Bool) → a ≡ true → cond b (Some h) (find (has_number k) gs) ≡ Some g → (find (has_number k) gs ≡ Some g → list_any (is_symbol n k) (map as_counted gs) ≡ true) → ((a && b) || list_any (is_symbol n k) (map as_counted gs)) ≡ true
        by true true is e rest = refl
        by true false is e rest = rest e
        by false b is e rest = absurd (cc)

  abbrev symbols_from : List (List ℕ) → List Numbered → List Contribution
  symbols_from claimed ys = flat_map (λ (c : List (List ℕ) × Numbered). contributions_by c.0 c.1) (with_claims claimed ys)

  only_all : (name : List ℕ) (claimed : List (List ℕ)) (ys : List Numbered) → AllByRecursion (λ (y : Numbered). (y.number == n) ≡ true → OnlyNamed k name y.summary.globals) ys → AllByRecursion (Only name) (symbols_from claimed ys)
  only_all name claimed [] h = tt
  only_all name claimed (y ∷ ys) h =
      all_append (Only name) (contributions_by claimed y) (symbols_from (claimed ++ signatures_in y.summary) ys) (only_by claimed y name y.summary.globals h.0) (only_all name (claimed ++ signatures_in y.summary) ys h.1)

  none_all : (claimed : List (List ℕ)) (ys : List Numbered) → AllByRecursion (λ (y : Numbered). (y.number == n) ≡ true → find (has_number k) y.summary.globals ≡ None) ys → list_any (is_symbol n k) (symbols_from claimed ys) ≡ false
  none_all claimed [] h = refl
  none_all claimed (y ∷ ys) h =
      list_any-append (is_symbol n k) (contributions_by claimed y) (symbols_from (claimed ++ signatures_in y.summary) ys)
      ∙ (λ i. none_by claimed y y.summary.globals h.0 i || none_all (claimed ++ signatures_in y.summary) ys h.1 i)

  there_all : (g : Global) (claimed : List (List ℕ)) (ys : List Numbered) → is_number_in (numbers_in ys) n ≡ true → AllByRecursion (λ (y : Numbered). (y.number == n) ≡ true → find (has_number k) y.summary.globals ≡ Some g) ys → list_any (is_symbol n k) (symbols_from claimed ys) ≡ true
  there_all g claimed [] is h = absurd (cc)
  there_all g claimed (y ∷ ys) is h =
      list_any-append (is_symbol n k) (contributions_by claimed y) (symbols_from (claimed ++ signatures_in y.summary) ys)
      ∙ by (nat_eq n y.number) refl is (λ e. there_all g (claimed ++ signatures_in y.summary) ys e h.1)
    where
      by : (b : Bool) → nat_eq n y.number ≡ b → (b || is_number_in (numbers_in ys) n) ≡ true → (is_number_in (numbers_in ys) n ≡ true → list_any (is_symbol n k) (symbols_from (claimed ++ signatures_in y.summary) ys) ≡ true)
          → (list_any (is_symbol n k) (contributions_by claimed y) || list_any (is_symbol n k) (symbols_from (claimed ++ signatures_in y.summary) ys)) ≡ true
      by true e is rest =
          let here : (y.number == n) ≡ true = turned n y.number e in
          ap (λ b. b || list_any (is_symbol n k) (symbols_from (claimed ++ signatures_in y.summary) ys)) (there_by claimed y g y.summary.globals here (h.0 here))
      by false e is rest = ap (λ b. list_any (is_symbol n k) (contributions_by claimed y) || b) (rest is) ∙ or_true (list_any (is_symbol n k) (contributions_by claimed y))

-- ---- names

plain : (css : List Contributions) → all_symbols (map plain_row css) ≡ css
plain [] = refl
plain (cs ∷ css) = ap (λ l. cs ∷ l) (plain css)

-- a name with symbols has its number
number_there : (symbols : List Contribution) (name : List ℕ) → list_any (is_named name) symbols ≡ true → number_among (contributions_of symbols) name ≡ Some (number_of_name (contributions_of symbols) name)
number_there symbols name any = by (nat_lt place (length (contributions_of symbols))) some
  where
    place : ℕ
    place = number_of_name (contributions_of symbols) name

    some : is_some (number_among (contributions_of symbols) name) ≡ true
    some =
        ap (λ (css : List Contributions). is_some (number_among css name)) (sym (plain (contributions_of symbols)))
        ∙ found (map plain_row (contributions_of symbols)) symbols name (plain (contributions_of symbols))
        ∙ any

    by : (b : Bool) → is_some (cond b (Some place) None) ≡ true → cond b (Some place) None ≡ Some place
    by true e = refl
    by false e = absurd (cc)

-- a symbol that has a name was added
any_filtered : (p q : Contribution → Bool) (xs : List Contribution) → list_any p (filter q xs) ≡ true → list_any p xs ≡ true
any_filtered p q [] e = e
any_filtered p q (x ∷ xs) e = by (q x) e (any_filtered p q xs)
  where
    either : (b : Bool) → (b || list_any p (filter q xs)) ≡ true → (list_any p (filter q xs) ≡ true → list_any p xs ≡ true) → (b || list_any p xs) ≡ true
    either true e rest = refl
    either false e rest = rest e

    by : (a : Bool) → list_any p (cond a (x ∷ filter q xs) (filter q xs)) ≡ true → (list_any p (filter q xs) ≡ true → list_any p xs ≡ true) → (p x || list_any p xs) ≡ true
    by true e rest = either (p x) e rest
    by false e rest = ap (λ b. p x || b) (rest e) ∙ or_true (p x)

some_any : {A : Type 0} (p : A → Bool) (xs : List A) → is_some (first_place p xs) ≡ list_any p xs
some_any p [] = refl
some_any p (x ∷ xs) = by (p x) (first_place p xs) (some_any p xs)
  where
    by : (b : Bool) (o : Option ℕ) → is_some o ≡ list_any p xs → is_some (cond b (Some 0) (option_map suc o)) ≡ (b || list_any p xs)
    by true o e = refl
    by false None e = e
    by false (Some m) e = e

any_to : (symbols : List Contribution) (n k : ℕ) (ns : List (List ℕ)) → list_any (has_symbol n k) (map (contributions_to symbols) ns) ≡ true → list_any (is_symbol n k) symbols ≡ true
any_to symbols n k [] e = absurd (cc)
any_to symbols n k (nm ∷ ns) e = by (has_symbol n k (contributions_to symbols nm)) refl e (any_to symbols n k ns)
  where
    by : (b : Bool) → has_symbol n k (contributions_to symbols nm) ≡ b → (b || list_any (has_symbol n k) (map (contributions_to symbols) ns)) ≡ true → (list_any (has_symbol n k) (map (contributions_to symbols) ns) ≡ true → list_any (is_symbol n k) symbols ≡ true) → list_any (is_symbol n k) symbols ≡ true
    by true is e rest = any_filtered (is_symbol n k) (is_named nm) symbols is
    by false is e rest = rest e

named_there : (symbols : List Contribution) (n k m : ℕ) → name_of_symbol (contributions_of symbols) n k ≡ Some m → list_any (is_symbol n k) symbols ≡ true
named_there symbols n k m e =
    any_to symbols n k (names_in_order symbols)
    (sym (some_any (has_symbol n k) (contributions_of symbols)) ∙ ap is_some (sym (position-first_place (has_symbol n k) (contributions_of symbols)) ∙ e))

-- ---- an object of a link

module _ (entry : List ℕ) (xs : List Input) (n : ℕ) (x : Input) (at : slice_get xs n ≡ Some x) (is : x.summary ≡ summary_in x.elf) where
  abbrev added : List Numbered
  added = added_inputs entry xs

  abbrev symbols : List Contribution
  symbols = symbols_of added

  same_summary : (y : Numbered) → IsIn xs y → (y.number == n) ≡ true → x.summary ≡ y.summary
  same_summary y in_xs e =
      let same : in_xs.0 ≡ x = some_same in_xs.0 x (sym in_xs.1 ∙ ap (slice_get xs) (same_number y.number n e) ∙ at) in
      ap (λ (z : Input). z.summary) (sym same) ∙ in_xs.2

  each : (P : InputSummary → Type 0) → P x.summary → AllByRecursion (λ (y : Numbered). (y.number == n) ≡ true → P y.summary) added
  each P h = all_map {P = IsIn xs} {Q = λ (y : Numbered). (y.number == n) ≡ true → P y.summary} (λ y in_xs e. subst P (same_summary y in_xs e) h) added (added_are_at entry xs)

  number_is : (k : ℕ) (g : Global) → find (has_number k) x.summary.globals ≡ Some g → list_any (is_symbol n k) symbols ≡ true → name_of_symbol (names_of added) n k ≡ Some (number_of_name (names_of added) g.name)
  number_is k g e there =
      let only : AllByRecursion (Only n k g.name) symbols =
      only_all n k g.name [] added (each (λ (s : InputSummary). OnlyNamed k g.name s.globals) (subst (λ (s : InputSummary). OnlyNamed k g.name s.globals) (sym is) (only_named x.elf k g (ap (λ (s : InputSummary). find (has_number k) s.globals) (sym is) ∙ e)))) in
      symbols_have_names symbols n k g.name there only ∙ number_there symbols g.name (any_other (is_symbol n k) (is_named g.name) symbols there only)

  -- an object that is added has the numbers of its symbols' names
  pub added_named : is_number_in (numbers_in added) n ≡ true → AreNamed (names_of added) n x.summary.globals
  added_named listed = λ k g e.
      let number : g.symbol ≡ k = found_number k g x.summary.globals e in
      let there : list_any (is_symbol n k) symbols ≡ true = there_all n k g [] added listed (each (λ (s : InputSummary). find (has_number k) s.globals ≡ Some g) e) in
      ap (name_of_symbol (names_of added) n) number ∙ number_is k g e there

  -- a symbol that has a number by the input is one of the object that is not LOCAL, and the number is that of its name
  abbrev pub IsNamed : ℕ → ℕ → Type 0
  IsNamed k m = (g : Global) × (find (has_number k) x.summary.globals ≡ Some g) × (number_of_name (names_of added) g.name ≡ m)

  pub named_added : (k m : ℕ) → name_of_symbol (names_of added) n k ≡ Some m → IsNamed k m
  named_added k m e = by (find (has_number k) x.summary.globals) refl
    where
      there : list_any (is_symbol n k) symbols ≡ true
      there = named_there symbols n k m e

      by : (o : Option Global) → find (has_number k) x.summary.globals ≡ o → IsNamed k m
      by None f = absurd (let none : list_any (is_symbol n k) symbols ≡ false = none_all n k [] added (each (λ (s : InputSummary). find (has_number k) s.globals ≡ None) f) in let bad : true ≡ false = sym there ∙ none in cc)
      by (Some g) f = (g, f, some_same (number_of_name (names_of added) g.name) m (sym (number_is k g f there) ∙ e))
