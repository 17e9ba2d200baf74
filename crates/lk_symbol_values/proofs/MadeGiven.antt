-- The values of made symbols are lk_model's, where the placed pieces are the kept ones.
use Rattle.std.proofs.Common.{◌≡◌, refl, sym, ap, ◌∙◌, arith, ℕ, zero, suc, ◌+◌, ◌==◌, nat_eq, ◌&&◌, ◌||◌, not, Bool, true, false, cond, if◌then◌else◌, List, [], ◌∷◌, ◌++◌, map, drop, find, zip, slice_get, Option, Some, None, option_map, codes}
use Rattle.std.specs.Prelude.{IsTrue}
use Rattle.std.proofs.lemmas.Bool.Decides.{nat_tests}
use Rattle.std.specs.List.{AllByRecursion, IsDistinct, enumerate_from, list_any, starts_with}
use Rattle.std.specs.Option.{option_or}
use Rattle.std.specs.Str.{bytes_eq}
use Rattle.lk_model.proofs.KeysFound.{same_key_self, same_key_reports}
use Rattle.lk_model.specs.Lawful.{Lawful, RowOf, as_kept, as_placed, row_passes, Placed}
use Rattle.lk_model.specs.MadeSymbols.{MadeSymbol, bound_value, end_of, fixed_made, row_with_piece, made, made_value, start_of}
use Rattle.lk_model.specs.SectionKeys.{class_number, same_class, same_key}
use Rattle.lk_model.specs.Views.{KeptPiece, Resolved}
use Rattle.lk_model.specs.declared.layouts.Class.TheVariants.{N}
use Rattle.lk_model.specs.declared.layouts.PieceRow.{PieceRow}
use Rattle.lk_model.specs.declared.layouts.Placement.{Placement}
use Rattle.lk_model.specs.declared.layouts.SectionKey.{SectionKey}
use Rattle.lk_model.specs.declared.layouts.SectionRow.{SectionRow}
use Rattle.lk_symbol_values.specs.MadePlaces.{array_symbols, code_symbols, end_symbols, fixed_value, made_places_of, table_symbols, value_among}
use Rattle.lk_symbol_values.specs.MadeValues.{bound_from, bound_in, bound_of_row, bound_value_by, end_or_zero, has_piece_at, made_in, start_or_zero}
use Rattle.lk_symbol_values.specs.Sections.{low_64}

-- fixed names
abbrev low_symbol : MadeSymbol → MadeSymbol
low_symbol m = made m.name (low_64 m.value)

parts : (place : Placement) → map low_symbol (fixed_made place) ≡ table_symbols (made_places_of place) ++ (array_symbols (made_places_of place) ++ (code_symbols (made_places_of place) ++ end_symbols (made_places_of place)))
parts place = refl

either : (b : Bool) (v : ℕ) (x y : Option ℕ) → cond b (Some v) (option_or x y) ≡ option_or (cond b (Some v) x) y
either true v x y = refl
either false v x y = refl

among_parts : (xs ys : List MadeSymbol) (name : List ℕ) → value_among (xs ++ ys) name ≡ option_or (value_among xs name) (value_among ys name)
among_parts [] ys name = refl
among_parts (m ∷ ms) ys name =
    ap (λ o. cond (bytes_eq m.name name) (Some m.value) o) (among_parts ms ys name) ∙ either (bytes_eq m.name name) m.value (value_among ms name) (value_among ys name)

abbrev low_value : MadeSymbol → ℕ
low_value m = low_64 m.value

this_symbol : (b : Bool) (m : MadeSymbol) (o : Option MadeSymbol) → cond b (Some (low_64 m.value)) (option_map low_value o) ≡ option_map low_value (cond b (Some m) o)
this_symbol true m o = refl
this_symbol false m o = refl

among_found : (ms : List MadeSymbol) (name : List ℕ) → value_among (map low_symbol ms) name ≡ option_map low_value (find (λ m. bytes_eq m.name name) ms)
among_found [] name = refl
among_found (m ∷ ms) name =
    ap (λ o. cond (bytes_eq m.name name) (Some (low_64 m.value)) o) (among_found ms name) ∙ this_symbol (bytes_eq m.name name) m (find (λ m. bytes_eq m.name name) ms)

fixed_reported : (place : Placement) (name : List ℕ) → fixed_value (made_places_of place) name ≡ option_map low_value (find (λ m. bytes_eq m.name name) (fixed_made place))
fixed_reported place name =
    let p = made_places_of place in
    sym (among_parts (table_symbols p) (array_symbols p ++ (code_symbols p ++ end_symbols p)) name
    ∙ ap (option_or (value_among (table_symbols p) name))
    (among_parts (array_symbols p) (code_symbols p ++ end_symbols p) name
    ∙ ap (option_or (value_among (array_symbols p) name)) (among_parts (code_symbols p) (end_symbols p) name)))
    ∙ ap (λ ms. value_among ms name) (sym (parts place))
    ∙ among_found (fixed_made place) name

-- rows of one key have one number
all_apart : (k : SectionKey) (rows : List SectionRow) (j : ℕ) (b : SectionRow) → AllByRecursion (λ y. same_key k y ≡ false) (map (λ (row : SectionRow). row.key) rows) → slice_get rows j ≡ Some b → same_key k b.key ≡ false
all_apart k [] j b all at = absurd (cc)
all_apart k (row ∷ rows) zero b all at =
    let e : row ≡ b = cc in sym (ap (λ (x : SectionRow). same_key k x.key) e) ∙ all.0
all_apart k (row ∷ rows) (suc j) b all at = all_apart k rows j b all.1 at

clash : (b : Bool) → b ≡ true → b ≡ false → {A : Type 0} → A
clash b holds fails = absurd (cc)

same_number : (rows : List SectionRow) (i j : ℕ) (a b : SectionRow) → IsDistinct same_key (map (λ (row : SectionRow). row.key) rows) → slice_get rows i ≡ Some a → slice_get rows j ≡ Some b → a.key ≡ b.key → i ≡ j
unfolding IsDistinct
same_number [] i j a b apart here there same = absurd (cc)
same_number (row ∷ rows) zero zero a b apart here there same = refl
same_number (row ∷ rows) zero (suc j) a b apart here there same =
    let e : row ≡ a = cc in
    let k : row.key ≡ b.key = ap (λ (x : SectionRow). x.key) e ∙ same in
    clash (same_key row.key b.key) (ap (λ x. same_key row.key x) (sym k) ∙ same_key_self row.key) (all_apart row.key rows j b apart.0 there)
same_number (row ∷ rows) (suc i) zero a b apart here there same =
    let e : row ≡ b = cc in
    let k : row.key ≡ a.key = ap (λ (x : SectionRow). x.key) e ∙ sym same in
    clash (same_key row.key a.key) (ap (λ x. same_key row.key x) (sym k) ∙ same_key_self row.key) (all_apart row.key rows i a apart.0 here)
same_number (row ∷ rows) (suc i) (suc j) a b apart here there same = ap suc (same_number rows i j a b apart.1 here there same)

numbers_report : (m n : ℕ) → (m == n) ≡ true → m ≡ n
numbers_report m n same = grind (arith, nat_tests)

number_self : (m n : ℕ) → m ≡ n → (m == n) ≡ true
number_self m n same = grind (arith, nat_tests)

module _ (rows : List SectionRow) (apart : IsDistinct same_key (map (λ (row : SectionRow). row.key) rows)) (n : ℕ) (row : SectionRow) (at : slice_get rows n ≡ Some row) where
  decided : (q : SectionKey) (m : ℕ) (other : SectionRow) → slice_get rows m ≡ Some other → other.key ≡ q → (b c : Bool) → (m == n) ≡ b → same_key q row.key ≡ c → c ≡ b
  decided q m other there same true true is reports = refl
  decided q m other there same false false is reports = refl
  decided q m other there same true false is reports =
      let e : m ≡ n = numbers_report m n is in
      let o : other ≡ row = (let h : slice_get rows n ≡ Some other = ap (slice_get rows) (sym e) ∙ there in cc) in
      let k : q ≡ row.key = sym same ∙ ap (λ (x : SectionRow). x.key) o in
      clash (same_key q row.key) (ap (λ x. same_key q x) (sym k) ∙ same_key_self q) reports
  decided q m other there same false true is reports =
      let k : other.key ≡ row.key = same ∙ same_key_reports q row.key reports in
      clash (m == n) (number_self m n (same_number rows m n other row apart there at k)) is

  in_row : (q : SectionKey) (m : ℕ) (o : Option SectionRow) → slice_get rows m ≡ o → IsTrue (row_passes (λ (x : SectionRow). same_key x.key q) o) → same_key q row.key ≡ (m == n)
  in_row q m None is passes = absurd (cc)
  in_row q m (Some other) is passes = decided q m other is (same_key_reports other.key q passes) (m == n) (same_key q row.key) refl refl

  stored_among : (k : ℕ) (place : Placement) (kept : List KeptPiece) (pieces : List PieceRow) → place.sections ≡ rows → map as_placed pieces ≡ map as_kept kept
      → AllByRecursion (λ (p : Placed). RowOf place p.1.1 (λ row. same_key row.key p.1.0.key)) (enumerate_from k (zip kept pieces))
      → list_any (λ (p : KeptPiece). same_key p.key row.key) kept ≡ has_piece_at pieces n
  stored_among k place [] [] are same all = refl
  stored_among k place (q ∷ qs) [] are same all = absurd (cc)
  stored_among k place [] (p ∷ ps) are same all = absurd (cc)
  stored_among k place (q ∷ qs) (p ∷ ps) are same all =
      let here = in_row q.key p.section (slice_get place.sections p.section) (ap (λ l. slice_get l p.section) (sym are)) all.0 in
      let rest : map as_placed ps ≡ map as_kept qs = cc in
      let more = stored_among (k + 1) place qs ps are rest all.1 in
      λ i. here i || more i

stored_reported : (r : Resolved) (place : Placement) → Lawful r place → (n : ℕ) (row : SectionRow) → slice_get place.sections n ≡ Some row → list_any (λ (p : KeptPiece). same_key p.key row.key) r.kept ≡ has_piece_at place.pieces n
stored_reported r place lawful n row at = stored_among place.sections lawful.distinct n row at 0 place r.kept place.pieces refl lawful.kept lawful.in_section

-- the first row
turned : (a b c : Bool) → ((a && b) && c) ≡ ((c && a) && b)
turned true true true = refl
turned true true false = refl
turned true false true = refl
turned true false false = refl
turned false true true = refl
turned false true false = refl
turned false false true = refl
turned false false false = refl

this_row : (b : Bool) (row : SectionRow) (o : Option SectionRow) → cond b (Some (bound_of_row row)) (option_map bound_of_row o) ≡ option_map bound_of_row (cond b (Some row) o)
this_row true row o = refl
this_row false row o = refl

module _ (has_piece : ℕ → Bool) (test : SectionRow → Bool) (name : List ℕ) where
  rows_reported : (n : ℕ) (rows : List SectionRow) → ((i : ℕ) (row : SectionRow) → slice_get rows i ≡ Some row → test row ≡ has_piece (n + i))
      → bound_from has_piece n rows name ≡ option_map bound_of_row (find (λ (row : SectionRow). bytes_eq row.key.name name && not (class_number row.key.class == class_number N) && test row) rows)
  rows_reported n [] is = refl
  rows_reported n (row ∷ rows) is =
      let now : test row ≡ has_piece n = is 0 row refl ∙ (let e : n + 0 ≡ n = omega arith in ap has_piece e) in
      let later = rows_reported (n + 1) rows (λ i x at. is (suc i) x at ∙ (let e : n + suc i ≡ n + 1 + i = omega arith in ap has_piece e)) in
      (λ i. cond ((not (same_class row.key.class N) && sym now i) && bytes_eq row.key.name name) (Some (bound_of_row row)) (later i))
      ∙ ap (λ b. cond b (Some (bound_of_row row)) (option_map bound_of_row (find (λ (row : SectionRow). bytes_eq row.key.name name && not (class_number row.key.class == class_number N) && test row) rows))) (turned (not (same_class row.key.class N)) (test row) (bytes_eq row.key.name name))
      ∙ this_row (bytes_eq row.key.name name && not (class_number row.key.class == class_number N) && test row) row (find (λ (row : SectionRow). bytes_eq row.key.name name && not (class_number row.key.class == class_number N) && test row) rows)

bound_reported : (r : Resolved) (place : Placement) → Lawful r place → (name : List ℕ) → bound_in place name ≡ option_map bound_of_row (row_with_piece r place name)
bound_reported r place lawful name =
    rows_reported (has_piece_at place.pieces) (λ row. list_any (λ (p : KeptPiece). same_key p.key row.key) r.kept) name 0 place.sections
    (λ i row at. stored_reported r place lawful i row at ∙ (let e : i ≡ 0 + i = omega arith in ap (has_piece_at place.pieces) e))

start_low : (o : Option SectionRow) → start_or_zero (option_map bound_of_row o) ≡ low_64 (start_of o)
start_low None = refl
start_low (Some row) = refl

end_low : (o : Option SectionRow) → end_or_zero (option_map bound_of_row o) ≡ low_64 (end_of o)
end_low None = refl
end_low (Some row) = refl

by_prefix : (a b : Bool) (x y u v : ℕ) → x ≡ low_64 u → y ≡ low_64 v → (if a then x else (if b then y else 0)) ≡ low_64 (if a then u else (if b then v else 0))
by_prefix true b x y u v first second = first
by_prefix false true x y u v first second = second
by_prefix false false x y u v first second = refl

bounds_reported : (r : Resolved) (place : Placement) → Lawful r place → (name : List ℕ) → bound_value_by (bound_in place) name ≡ low_64 (bound_value r place name)
bounds_reported r place lawful name =
    by_prefix (starts_with nat_eq name (codes "__start_")) (starts_with nat_eq name (codes "__stop_"))
    (start_or_zero (bound_in place (drop 8 name))) (end_or_zero (bound_in place (drop 7 name)))
    (start_of (row_with_piece r place (drop 8 name))) (end_of (row_with_piece r place (drop 7 name)))
    (ap start_or_zero (bound_reported r place lawful (drop 8 name)) ∙ start_low (row_with_piece r place (drop 8 name)))
    (ap end_or_zero (bound_reported r place lawful (drop 7 name)) ∙ end_low (row_with_piece r place (drop 7 name)))

by_fixed : (o : Option MadeSymbol) (x u : ℕ) → x ≡ low_64 u → elim (option_map low_value o) [ Some v ↦ v | None ↦ x ] ≡ low_64 (elim o [ Some m ↦ m.value | None ↦ u ])
by_fixed None x u is = is
by_fixed (Some m) x u is = refl

pub made_reported : (r : Resolved) (place : Placement) → Lawful r place → (name : List ℕ) → made_in place name ≡ low_64 (made_value r place name)
made_reported r place lawful name =
    ap (λ o. elim o [ Some v ↦ v | None ↦ bound_value_by (bound_in place) name ]) (fixed_reported place name)
    ∙ by_fixed (find (λ m. bytes_eq m.name name) (fixed_made place)) (bound_value_by (bound_in place) name) (bound_value r place name) (bounds_reported r place lawful name)
