-- A member that was not wanted and is wanted once an input was added defines a name that was not wanted and
-- is then, and this is the name of a symbol of the input.
use Rattle.std.proofs.Common.{◌≡◌, refl, sym, ap, ◌∙◌, ℕ, ◌+◌, nat_eq, nat_lt, ◌==◌, Bool, true, false, cond, not, ◌||◌, ◌&&◌, List, [], ◌∷◌, ◌++◌, find, fold, length, Some, None, is_some, option_and_then, slice_get, inl, inr, ◌⊎◌}
use Rattle.std.specs.Cmp.{nat_eq_equiv}
use Rattle.std.specs.Cmp.Lexicographic.{nat_list_eq_equiv}
use Rattle.std.specs.List.{list_any, position_or_len}
use Rattle.std.specs.Str.{bytes_eq}
use Rattle.std.proofs.Math.ListN.{length-map}
use Rattle.std.proofs.lemmas.List.{map-append}
use Rattle.std.proofs.lemmas.List.Folds.{find_at, list_any-append}
use Rattle.std.proofs.lemmas.Option.{slice_get_past}
use Rattle.std.proofs.lemmas.Slice.Eq.{bytes_eq-Decides}
use borrow.Author.Tests.{ltb-false}
use Rattle.lk_comdat.specs.Claims.{holder_of, signatures_of}
use Rattle.lk_comdat.specs.ClaimLaws.{with_claim}
use Rattle.lk_model.specs.declared.summaries.Contribution.{Contribution}
use Rattle.lk_model.specs.declared.summaries.Contributions.{Contributions}
use Rattle.lk_model.specs.declared.summaries.Global.{Global}
use Rattle.lk_model.specs.declared.summaries.Group.{Group}
use Rattle.lk_model.specs.declared.summaries.Home.{Home}
use Rattle.lk_model.specs.declared.summaries.Home.TheVariants as home
use Rattle.lk_model.specs.declared.summaries.InputSummary.{InputSummary}
use Rattle.lk_model.specs.declared.summaries.Kind.{Kind}
use Rattle.lk_model.specs.declared.summaries.PieceInfo.{PieceInfo}
use Rattle.lk_model.specs.Groups.{dropped_by}
use Rattle.lk_model.specs.Numbered.{Numbered, is_number_in, is_text_in}
use Rattle.lk_resolve.specs.Definers.{defines, defines_among}
use Rattle.lk_resolve.specs.LeftSections.{dropped_once, left_in, sections_without, symbols_in}
use Rattle.lk_resolve.specs.NameSearches.{names_in, unwanted_in, wants_in}
use Rattle.lk_resolve.specs.States.{State, asked_by, with_input}
use Rattle.lk_resolve.specs.Wanted.{defines_wanted, is_home_placed, is_placed_in, wants, wants_row}
use Rattle.lk_resolve.proofs.ListSets.{any-distinct, or_true}
use Rattle.lk_resolve.proofs.SectionsLeft.{without-any}
use Rattle.lk_symtab.specs.NameRows.{NameRow, all_symbols, new_row, number_of, row_with, symbols_in as row_symbols, with_symbol}
use Rattle.lk_symtab.specs.SymbolLaws.{with_own}

reported : (p q : List ℕ) → bytes_eq p q ≡ true → p ≡ q
reported p q h = (bytes_eq-Decides p q).0 h

-- ---- the row of a name stays as it is where no symbol of it is added

abbrev is_row_of : List ℕ → NameRow → Bool
is_row_of name row = bytes_eq row.contributions.name name

place_is : (rows : List NameRow) (name : List ℕ) → position_or_len (λ (cs : Contributions). bytes_eq cs.name name) (all_symbols rows) ≡ position_or_len (is_row_of name) rows
place_is [] name = refl
place_is (row ∷ rows) name = λ i. cond (not (is_row_of name row)) (1 + place_is rows name i) 0

row_found : (rows : List NameRow) (name : List ℕ) → option_and_then (slice_get rows) (number_of rows name) ≡ find (is_row_of name) rows
row_found rows name =
    (λ i. option_and_then (slice_get rows) (cond (nat_lt (place_is rows name i) (length-map rows row_symbols i)) (Some (place_is rows name i)) None))
    ∙ by (nat_lt (position_or_len (is_row_of name) rows) (length rows)) refl
    ∙ sym (find_at (is_row_of name) rows)
  where
    by : (b : Bool) → nat_lt (position_or_len (is_row_of name) rows) (length rows) ≡ b → option_and_then (slice_get rows) (cond b (Some (position_or_len (is_row_of name) rows)) None) ≡ slice_get rows (position_or_len (is_row_of name) rows)
    by true e = refl
    by false e = sym (slice_get_past rows (position_or_len (is_row_of name) rows) (ltb-false (position_or_len (is_row_of name) rows) (length rows) e))

row_stays : (rows : List NameRow) (name other : List ℕ) (c : Contribution) → bytes_eq other name ≡ false → find (is_row_of name) (with_symbol rows other c) ≡ find (is_row_of name) rows
row_stays [] name other c apart = ap (λ b. cond b (Some (new_row other c)) None) apart
row_stays (row ∷ rows) name other c apart = by (bytes_eq other row.contributions.name) refl (row_stays rows name other c apart)
  where
    by : (b : Bool) → bytes_eq other row.contributions.name ≡ b → find (is_row_of name) (with_symbol rows other c) ≡ find (is_row_of name) rows → find (is_row_of name) (cond b (row_with row c ∷ rows) (row ∷ with_symbol rows other c)) ≡ find (is_row_of name) (row ∷ rows)
    by true e later =
        let no : is_row_of name row ≡ false = ap (λ n. bytes_eq n name) (sym (reported other row.contributions.name e)) ∙ apart in
        ap (λ b. cond b (Some (row_with row c)) (find (is_row_of name) rows)) no ∙ sym (ap (λ b. cond b (Some row) (find (is_row_of name) rows)) no)
    by false e later = ap (λ o. cond (is_row_of name row) (Some row) o) later

none_both : (a b : Bool) → (a || b) ≡ false → (a ≡ false) × (b ≡ false)
none_both true b e = absurd (cc)
none_both false b e = (refl, e)

rows_stay : (rows : List NameRow) (cs : List Contribution) (name : List ℕ) → list_any (λ (c : Contribution). bytes_eq c.global.name name) cs ≡ false → find (is_row_of name) (fold with_own rows cs) ≡ find (is_row_of name) rows
rows_stay rows [] name apart = refl
rows_stay rows (c ∷ cs) name apart =
    let both : (bytes_eq c.global.name name ≡ false) × (list_any (λ (d : Contribution). bytes_eq d.global.name name) cs ≡ false) = none_both (bytes_eq c.global.name name) (list_any (λ (d : Contribution). bytes_eq d.global.name name) cs) apart in
    rows_stay (with_own rows c) cs name both.1 ∙ row_stays rows name c.global.name c both.0

names_of : (left : List ℕ) (input : ℕ) (k : Kind) (gs : List Global) (name : List ℕ) → list_any (λ (c : Contribution). bytes_eq c.global.name name) (symbols_in left input k gs) ≡ list_any (λ n. bytes_eq n name) (names_in gs)
names_of left input k [] name = refl
names_of left input k (g ∷ gs) name = λ i. bytes_eq g.name name || names_of left input k gs name i

-- so a name that is wanted once an input was added, and was not before, is one of a symbol of the input
pub newly_named : (s : State) (m : Numbered) (name : List ℕ) → wants_in s name ≡ false → wants_in (with_input s m) name ≡ true → list_any (λ n. bytes_eq n name) (names_in m.summary.globals) ≡ true
unfolding with_input
newly_named s m name was is = by (list_any (λ n. bytes_eq n name) (names_in m.summary.globals)) refl
  where
    left : List ℕ
    left = left_in (signatures_of s.claims) m.summary

    symbols : List Contribution
    symbols = symbols_in left m.number m.summary.kind m.summary.globals

    by : (b : Bool) → list_any (λ n. bytes_eq n name) (names_in m.summary.globals) ≡ b → b ≡ true
    by true e = refl
    by false e =
        let same : wants_in (with_input s m) name ≡ wants_in s name =
        ap (wants_row s.entry name) (row_found (fold with_own s.rows symbols) name ∙ rows_stay s.rows symbols name (names_of left m.number m.summary.kind m.summary.globals name ∙ e) ∙ sym (row_found s.rows name)) in
        sym was ∙ sym same ∙ is

-- ---- what is left of a member gets less

either : (a b : Bool) → (a || b) ≡ true → (a ≡ true) ⊎ (b ≡ true)
either true b e = inl refl
either false b e = inr e

left_or : (a b : Bool) → a ≡ true → (a || b) ≡ true
left_or a b e = ap (λ x. x || b) e

right_or : (a b : Bool) → b ≡ true → (a || b) ≡ true
right_or a b e = ap (λ x. a || x) e ∙ or_true a

no_less : (a b c d : Bool) → (a ≡ true → c ≡ true) → (b ≡ true → d ≡ true) → (a || b) ≡ true → (c || d) ≡ true
no_less true b c d f g e = left_or c d (f refl)
no_less false b c d f g e = right_or c d (g e)

with_one_more : (claimed more : List (List ℕ)) (x : List ℕ) → ((t : List ℕ) → is_text_in claimed t ≡ true → is_text_in more t ≡ true) → (t : List ℕ) → is_text_in (claimed ++ x ∷ []) t ≡ true → is_text_in (more ++ x ∷ []) t ≡ true
with_one_more claimed more x within t e =
    list_any-append (λ u. bytes_eq u t) more (x ∷ [])
    ∙ no_less (is_text_in claimed t) (is_text_in (x ∷ []) t) (is_text_in more t) (is_text_in (x ∷ []) t) (within t) (λ h. h) (sym (list_any-append (λ u. bytes_eq u t) claimed (x ∷ [])) ∙ e)

members_dropped : (b c : Bool) (ms : List ℕ) (n : ℕ) → (b ≡ true → c ≡ true) → is_number_in (cond b ms []) n ≡ true → is_number_in (cond c ms []) n ≡ true
members_dropped true c ms n f e = ap (λ d. is_number_in (cond d ms []) n) (f refl) ∙ e
members_dropped false c ms n f e = absurd (cc)

dropped_still : (claimed more : List (List ℕ)) (gs : List Group) (n : ℕ) → ((t : List ℕ) → is_text_in claimed t ≡ true → is_text_in more t ≡ true) → is_number_in (dropped_by claimed gs) n ≡ true → is_number_in (dropped_by more gs) n ≡ true
dropped_still claimed more [] n within e = e
dropped_still claimed more (g ∷ gs) n within e =
    let now : List ℕ = cond (is_text_in claimed g.signature) g.members [] in
    let then : List ℕ = cond (is_text_in more g.signature) g.members [] in
    list_any-append (nat_eq n) then (dropped_by (more ++ g.signature ∷ []) gs)
    ∙ no_less (is_number_in now n) (is_number_in (dropped_by (claimed ++ g.signature ∷ []) gs) n) (is_number_in then n) (is_number_in (dropped_by (more ++ g.signature ∷ []) gs) n)
    (members_dropped (is_text_in claimed g.signature) (is_text_in more g.signature) g.members n (within g.signature))
    (dropped_still (claimed ++ g.signature ∷ []) (more ++ g.signature ∷ []) gs n (with_one_more claimed more g.signature within))
    (sym (list_any-append (nat_eq n) now (dropped_by (claimed ++ g.signature ∷ []) gs)) ∙ e)

left_are : (claimed : List (List ℕ)) (summary : InputSummary) (n : ℕ) → is_number_in (left_in claimed summary) n ≡ (list_any (λ (p : PieceInfo). p.section == n) summary.pieces && not (is_number_in (dropped_by claimed summary.groups) n))
left_are claimed summary n =
    any-distinct nat_eq nat_eq_equiv n (sections_without (dropped_once claimed summary.groups) summary.pieces)
    ∙ without-any (dropped_once claimed summary.groups) summary.pieces n
    ∙ ap (λ b. list_any (λ (p : PieceInfo). p.section == n) summary.pieces && not b) (any-distinct nat_eq nat_eq_equiv n (dropped_by claimed summary.groups))

and_not : (a b c : Bool) → (b ≡ true → c ≡ true) → (a && not c) ≡ true → (a && not b) ≡ true
and_not true true c f e = absurd (let no : not c ≡ false = ap (λ x. not x) (f refl) in cc)
and_not true false c f e = refl
and_not false b c f e = e

left_before : (claimed more : List (List ℕ)) (summary : InputSummary) (n : ℕ) → ((t : List ℕ) → is_text_in claimed t ≡ true → is_text_in more t ≡ true) → is_number_in (left_in more summary) n ≡ true → is_number_in (left_in claimed summary) n ≡ true
left_before claimed more summary n within e =
    left_are claimed summary n
    ∙ and_not (list_any (λ (p : PieceInfo). p.section == n) summary.pieces) (is_number_in (dropped_by claimed summary.groups) n) (is_number_in (dropped_by more summary.groups) n)
    (dropped_still claimed more summary.groups n within)
    (sym (left_are more summary n) ∙ e)

-- signatures that are claimed stay so
claimed_still : (claims asked : List (List ℕ × ℕ)) (t : List ℕ) → is_text_in (signatures_of claims) t ≡ true → is_text_in (signatures_of (fold with_claim claims asked)) t ≡ true
claimed_still claims [] t e = e
claimed_still claims (a ∷ asked) t e = claimed_still (with_claim claims a) asked t (by (is_some (holder_of claims a.0)))
  where
    by : (b : Bool) → is_text_in (signatures_of (cond b claims (claims ++ a ∷ []))) t ≡ true
    by true = e
    by false =
        ap (λ l. is_text_in l t) (map-append (λ (c : List ℕ × ℕ). c.0) claims (a ∷ []))
        ∙ list_any-append (λ u. bytes_eq u t) (signatures_of claims) (a.0 ∷ [])
        ∙ left_or (is_text_in (signatures_of claims) t) (is_text_in (a.0 ∷ []) t) e

placed_before : (claimed more : List (List ℕ)) (summary : InputSummary) (h : Home) → ((t : List ℕ) → is_text_in claimed t ≡ true → is_text_in more t ≡ true) → is_placed_in (left_in more summary) h ≡ true → is_placed_in (left_in claimed summary) h ≡ true
placed_before claimed more summary home.Undefined within e = e
placed_before claimed more summary (home.Section n) within e = left_before claimed more summary n within e
placed_before claimed more summary home.Absolute within e = e
placed_before claimed more summary home.Common within e = e
placed_before claimed more summary home.Shared within e = e

placed_home : (left : List ℕ) (h : Home) → is_placed_in left h ≡ true → is_home_placed h ≡ true
placed_home left home.Undefined e = e
placed_home left (home.Section n) e = refl
placed_home left home.Absolute e = e
placed_home left home.Common e = e
placed_home left home.Shared e = e

-- ---- what makes a member wanted

and_left : (a b : Bool) → (a && b) ≡ true → a ≡ true
and_left true b e = refl
and_left false b e = absurd (cc)

and_right : (a b : Bool) → (a && b) ≡ true → b ≡ true
and_right true b e = e
and_right false b e = absurd (cc)

-- a name that was not wanted and is, which the symbols define
record Newly (s now : State) (gs : List Global) : Type 0 where
  name : List ℕ
  was : wants_in s name ≡ false
  is : wants_in now name ≡ true
  defined : defines_among gs name ≡ true

newly_among : (s now : State) (before left : List ℕ) (gs : List Global) → ((h : Home) → is_placed_in left h ≡ true → is_placed_in before h ≡ true)
    → defines_wanted s.entry s.rows before gs ≡ false → defines_wanted now.entry now.rows left gs ≡ true → Newly s now gs
newly_among s now before left [] less was is = absurd (cc)
newly_among s now before left (g ∷ gs) less was is =
    let both : ((is_placed_in before g.home && wants_in s g.name) ≡ false) × (defines_wanted s.entry s.rows before gs ≡ false) = none_both (is_placed_in before g.home && wants_in s g.name) (defines_wanted s.entry s.rows before gs) was in
    elim (either (is_placed_in left g.home && wants_in now g.name) (defines_wanted now.entry now.rows left gs) is) [
      | inl here ↦
          let placed : is_placed_in left g.home ≡ true = and_left (is_placed_in left g.home) (wants_in now g.name) here in
          record {
            name = g.name;
            was = ap (λ b. b && wants_in s g.name) (sym (less g.home placed)) ∙ both.0;
            is = and_right (is_placed_in left g.home) (wants_in now g.name) here;
            defined = left_or (defines g.name g) (defines_among gs g.name) (λ i. placed_home left g.home placed i && nat_list_eq_equiv.refl g.name i);
          }
      | inr later ↦
          let rest : Newly s now gs = newly_among s now before left gs less both.1 later in
          record { name = rest.name; was = rest.was; is = rest.is; defined = right_or (defines rest.name g) (defines_among gs rest.name) rest.defined }
    ]

newly_wanted : (s : State) (x m : Numbered) → wants s m ≡ false → wants (with_input s x) m ≡ true → Newly s (with_input s x) m.summary.globals
unfolding wants with_input
newly_wanted s x m was is =
    let before : List (List ℕ) = signatures_of s.claims in
    let more : List (List ℕ) = signatures_of (fold with_claim s.claims (asked_by x)) in
    newly_among s (with_input s x) (left_in before m.summary) (left_in more m.summary) m.summary.globals
    (λ h e. placed_before before more m.summary h (λ t. claimed_still s.claims (asked_by x) t) e)
    was is

-- a name is among those that are not wanted where it is one of a symbol and is not wanted
among_unwanted : (s : State) (gs : List Global) (name : List ℕ) (P : List ℕ → Bool) → wants_in s name ≡ false → P name ≡ true → list_any (λ n. bytes_eq n name) (names_in gs) ≡ true → list_any P (unwanted_in s gs) ≡ true
among_unwanted s [] name P was holds e = absurd (cc)
among_unwanted s (g ∷ gs) name P was holds e = by (bytes_eq g.name name) refl e (wants_in s g.name) refl (among_unwanted s gs name P was holds)
  where
    by : (b : Bool) → bytes_eq g.name name ≡ b → (b || list_any (λ n. bytes_eq n name) (names_in gs)) ≡ true → (w : Bool) → wants_in s g.name ≡ w → (list_any (λ n. bytes_eq n name) (names_in gs) ≡ true → list_any P (unwanted_in s gs) ≡ true) → list_any P (cond (not w) (g.name ∷ unwanted_in s gs) (unwanted_in s gs)) ≡ true
    by true same any true wanted later = absurd (let no : wants_in s g.name ≡ false = ap (wants_in s) (reported g.name name same) ∙ was in cc)
    by true same any false wanted later = left_or (P g.name) (list_any P (unwanted_in s gs)) (ap P (reported g.name name same) ∙ holds)
    by false same any true wanted later = later any
    by false same any false wanted later = right_or (P g.name) (list_any P (unwanted_in s gs)) (later any)

-- so a member that becomes wanted by an input defines one of the names of the input that become wanted
pub becomes_wanted : (s : State) (x m : Numbered) (is_reported : List ℕ → Bool) → wants s m ≡ false → wants (with_input s x) m ≡ true → ((name : List ℕ) → defines_among m.summary.globals name ≡ true → is_reported name ≡ true)
    → list_any (λ name. wants_in (with_input s x) name && is_reported name) (unwanted_in s x.summary.globals) ≡ true
becomes_wanted s x m is_reported was is all =
    let newly : Newly s (with_input s x) m.summary.globals = newly_wanted s x m was is in
    among_unwanted s x.summary.globals newly.name (λ name. wants_in (with_input s x) name && is_reported name) newly.was
    (λ i. newly.is i && all newly.name newly.defined i)
    (newly_named s x newly.name newly.was newly.is)
