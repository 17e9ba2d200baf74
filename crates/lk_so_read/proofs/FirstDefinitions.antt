-- Of two definitions of one name the first is kept: what is kept symbol by symbol, with the names that are
-- defined by then, is what all symbols together keep.
use Rattle.std.specs.Prelude.{◌≡◌, refl, ℕ, ◌+◌, ◌<◌, ◌≤◌, Bool, true, false, not, ◌&&◌, ◌||◌, cond, nat_lt, List, [], ◌∷◌, ◌++◌, bytes_eq, filter, fold}
use Rattle.std.specs.Cmp.Lexicographic.{nat_list_eq_equiv}
use Rattle.std.specs.List.{AllByRecursion, list_any}
use Rattle.std.proofs.Common.{ap, append_assoc, append-nil, arith, sym, ◌∙◌}
use Rattle.std.proofs.lemmas.Bool.Decides.{nat_tests}
use Rattle.std.proofs.lemmas.List.Folds.{list_any-append}
use Rattle.lk_model.specs.declared.summaries.Global.{Global}
use Rattle.lk_model.specs.SharedObjects.{is_definition, is_earlier_of, is_repeated, without_repeated}
use Rattle.lk_so_read.specs.OfferedSymbols.{Kept, with_global}

-- a definition of this name
abbrev is_definition_of : List ℕ → Global → Bool
is_definition_of name e = is_definition e && bytes_eq e.name name

-- these names are those that these symbols define
abbrev AreDefined : List (List ℕ) → List Global → Type 0
AreDefined names done = (t : List ℕ) → list_any (bytes_eq t) names ≡ list_any (is_definition_of t) done

-- the numbers of these symbols rise from this one on
abbrev pub From : ℕ → List Global → Type 0
From n [] = Unit {0}
From n (g ∷ gs) = (n ≤ g.symbol) × From (g.symbol + 1) gs

-- the numbers of these symbols are below this one
abbrev Below : ℕ → List Global → Type 0
Below n done = AllByRecursion (λ (e : Global). e.symbol < n) done

-- ---- earlier definitions of a name

tested : (d b : Bool) → ((d && true) && b) ≡ (d && b)
tested true b = refl
tested false b = refl

failed : (d b : Bool) → ((d && false) && b) ≡ false
failed true b = refl
failed false b = refl

earlier : (g : Global) (n : ℕ) (done : List Global) → Below n done → n ≤ g.symbol → list_any (is_earlier_of g) done ≡ list_any (is_definition_of g.name) done
earlier g n [] below l = refl
earlier g n (e ∷ es) below l =
    let first = below.0 in
    let before : nat_lt e.symbol g.symbol ≡ true = grind (arith, nat_tests, first, l) in
    ap (λ t. ((is_definition e && t) && bytes_eq e.name g.name) || list_any (is_earlier_of g) es) before
    ∙ ap (λ t. t || list_any (is_earlier_of g) es) (tested (is_definition e) (bytes_eq e.name g.name))
    ∙ ap (λ t. is_definition_of g.name e || t) (earlier g n es below.1 l)

later : (g : Global) (m : ℕ) (gs : List Global) → From m gs → g.symbol < m → list_any (is_earlier_of g) gs ≡ false
later g m [] rise l = refl
later g m (e ∷ es) rise l =
    let first = rise.0 in
    let before : nat_lt e.symbol g.symbol ≡ false = grind (arith, nat_tests, first, l) in
    let above : g.symbol < e.symbol + 1 = omega (arith, first, l) in
    ap (λ t. ((is_definition e && t) && bytes_eq e.name g.name) || list_any (is_earlier_of g) es) before
    ∙ ap (λ t. t || list_any (is_earlier_of g) es) (failed (is_definition e) (bytes_eq e.name g.name))
    ∙ later g (e.symbol + 1) es rise.1 above

itself : (g : Global) → is_earlier_of g g ≡ false
itself g =
    let same : nat_lt g.symbol g.symbol ≡ false = grind (arith, nat_tests) in
    ap (λ t. (is_definition g && t) && bytes_eq g.name g.name) same ∙ failed (is_definition g) (bytes_eq g.name g.name)

or-false : (b : Bool) → (b || false) ≡ b
or-false true = refl
or-false false = refl

repeated : (g : Global) (gs done : List Global) (names : List (List ℕ)) (n : ℕ) → AreDefined names done → Below n done → From n (g ∷ gs) → is_repeated (done ++ g ∷ gs) g ≡ (is_definition g && list_any (bytes_eq g.name) names)
repeated g gs done names n defined below rise =
    let last : g.symbol < g.symbol + 1 = omega arith in
    ap (λ t. is_definition g && t)
    (list_any-append (is_earlier_of g) done (g ∷ gs)
    ∙ ap (λ t. list_any (is_earlier_of g) done || (t || list_any (is_earlier_of g) gs)) (itself g)
    ∙ ap (λ t. list_any (is_earlier_of g) done || t) (later g (g.symbol + 1) gs rise.1 last)
    ∙ or-false (list_any (is_earlier_of g) done)
    ∙ earlier g n done below rise.0
    ∙ sym (defined g.name))

-- ---- the names after one more symbol

any-same : (s t : List ℕ) (names : List (List ℕ)) → bytes_eq s t ≡ true → list_any (bytes_eq s) names ≡ list_any (bytes_eq t) names
any-same s t [] e = refl
any-same s t (x ∷ xs) e =
    ap (λ b. b || list_any (bytes_eq s) xs) (nat_list_eq_equiv.congr s t x e) ∙ ap (λ b. bytes_eq t x || b) (any-same s t xs e)

-- a symbol at the end
pushed : (t : List ℕ) (done : List Global) (g : Global) → list_any (is_definition_of t) (done ++ g ∷ []) ≡ (list_any (is_definition_of t) done || is_definition_of t g)
pushed t done g =
    list_any-append (is_definition_of t) done (g ∷ []) ∙ ap (λ b. list_any (is_definition_of t) done || b) (or-false (is_definition_of t g))

other-name : (g : Global) (done : List Global) (names : List (List ℕ)) → is_definition g ≡ false → AreDefined names done → AreDefined names (done ++ g ∷ [])
other-name g done names d defined t =
    defined t
    ∙ sym (pushed t done g ∙ ap (λ b. list_any (is_definition_of t) done || (b && bytes_eq g.name t)) d ∙ or-false (list_any (is_definition_of t) done))

new-name : (g : Global) (done : List Global) (names : List (List ℕ)) → is_definition g ≡ true → AreDefined names done → AreDefined (names ++ g.name ∷ []) (done ++ g ∷ [])
new-name g done names d defined t =
    list_any-append (bytes_eq t) names (g.name ∷ [])
    ∙ ap (λ b. list_any (bytes_eq t) names || b) (or-false (bytes_eq t g.name))
    ∙ ap (λ b. list_any (bytes_eq t) names || b) (nat_list_eq_equiv.symm t g.name)
    ∙ ap (λ b. b || bytes_eq g.name t) (defined t)
    ∙ sym (pushed t done g ∙ ap (λ b. list_any (is_definition_of t) done || (b && bytes_eq g.name t)) d)

absorbed : (a b : Bool) → (b ≡ true → a ≡ true) → a ≡ (a || b)
absorbed true b h = refl
absorbed false true h = h refl
absorbed false false h = refl

known-name : (g : Global) (done : List Global) (names : List (List ℕ)) → is_definition g ≡ true → list_any (bytes_eq g.name) names ≡ true → AreDefined names done → AreDefined names (done ++ g ∷ [])
known-name g done names d known defined t =
    absorbed (list_any (bytes_eq t) names) (bytes_eq g.name t) (λ e. sym (any-same g.name t names e) ∙ known)
    ∙ ap (λ b. b || bytes_eq g.name t) (defined t)
    ∙ sym (pushed t done g ∙ ap (λ b. list_any (is_definition_of t) done || (b && bytes_eq g.name t)) d)

-- ---- symbol after symbol

-- what is kept of the symbols that are left, where all are these
abbrev kept_of : List Global → List Global → List Global
kept_of all gs = filter (λ (h : Global). not (is_repeated all h)) gs

-- what the symbols after this one keep
abbrev KeepsRest : Global → List Global → List Global → Type 0
KeepsRest g gs done =
    (kept : List Global) (names : List (List ℕ)) → AreDefined names (done ++ g ∷ []) → (fold with_global (kept, names) gs).0 ≡ kept ++ kept_of (done ++ g ∷ gs) gs

one-kept :
    (g : Global) (gs done kept : List Global) (names : List (List ℕ)) (d m : Bool)
    → is_definition g ≡ d
    → list_any (bytes_eq g.name) names ≡ m
    → is_repeated (done ++ g ∷ gs) g ≡ (d && m)
    → AreDefined names done
    → KeepsRest g gs done
    → (fold with_global (with_global (kept, names) g) gs).0 ≡ kept ++ kept_of (done ++ g ∷ gs) (g ∷ gs)
one-kept g gs done kept names true true d m r defined rest =
    let left : List Global = kept_of (done ++ g ∷ gs) gs in
    let now : with_global (kept, names) g ≡ (kept, names) =
    ap (λ b. cond b (cond (list_any (bytes_eq g.name) names) (kept, names) (kept ++ g ∷ [], names ++ g.name ∷ [])) (kept ++ g ∷ [], names)) d
    ∙ ap (λ b. cond b (kept, names) (kept ++ g ∷ [], names ++ g.name ∷ [])) m in
    ap (λ (s : Kept). (fold with_global s gs).0) now
    ∙ rest kept names (known-name g done names d m defined)
    ∙ sym (ap (λ t. kept ++ cond (not t) (g ∷ left) left) r)
one-kept g gs done kept names true false d m r defined rest =
    let left : List Global = kept_of (done ++ g ∷ gs) gs in
    let now : with_global (kept, names) g ≡ (kept ++ g ∷ [], names ++ g.name ∷ []) =
    ap (λ b. cond b (cond (list_any (bytes_eq g.name) names) (kept, names) (kept ++ g ∷ [], names ++ g.name ∷ [])) (kept ++ g ∷ [], names)) d
    ∙ ap (λ b. cond b (kept, names) (kept ++ g ∷ [], names ++ g.name ∷ [])) m in
    ap (λ (s : Kept). (fold with_global s gs).0) now
    ∙ rest (kept ++ g ∷ []) (names ++ g.name ∷ []) (new-name g done names d defined)
    ∙ append_assoc kept (g ∷ []) left
    ∙ sym (ap (λ t. kept ++ cond (not t) (g ∷ left) left) r)
one-kept g gs done kept names false m d e r defined rest =
    let left : List Global = kept_of (done ++ g ∷ gs) gs in
    let now : with_global (kept, names) g ≡ (kept ++ g ∷ [], names) =
    ap (λ b. cond b (cond (list_any (bytes_eq g.name) names) (kept, names) (kept ++ g ∷ [], names ++ g.name ∷ [])) (kept ++ g ∷ [], names)) d in
    ap (λ (s : Kept). (fold with_global s gs).0) now
    ∙ rest (kept ++ g ∷ []) names (other-name g done names d defined)
    ∙ append_assoc kept (g ∷ []) left
    ∙ sym (ap (λ t. kept ++ cond (not t) (g ∷ left) left) r)

below-more : (n m : ℕ) (done : List Global) → n ≤ m → Below n done → Below m done
below-more n m [] l below = tt
below-more n m (e ∷ es) l below = let first = below.0 in (omega (arith, first, l), below-more n m es l below.1)

below-push : (g : Global) (n : ℕ) (done : List Global) → n ≤ g.symbol → Below n done → Below (g.symbol + 1) (done ++ g ∷ [])
below-push g n [] l below = (omega arith, tt)
below-push g n (e ∷ es) l below = let first = below.0 in (omega (arith, first, l), below-push g n es l below.1)

kept-from : (gs done kept : List Global) (names : List (List ℕ)) (n : ℕ) → AreDefined names done → Below n done → From n gs → (fold with_global (kept, names) gs).0 ≡ kept ++ kept_of (done ++ gs) gs
kept-from [] done kept names n defined below rise = sym (append-nil kept)
kept-from (g ∷ gs) done kept names n defined below rise =
    let joined : (done ++ g ∷ []) ++ gs ≡ done ++ (g ∷ gs) = append_assoc done (g ∷ []) gs in
    let rest : KeepsRest g gs done = λ more texts after.
    kept-from gs (done ++ g ∷ []) more texts (g.symbol + 1) after (below-push g n done rise.0 below) rise.1
    ∙ ap (λ (all : List Global). more ++ kept_of all gs) joined in
    one-kept g gs done kept names (is_definition g) (list_any (bytes_eq g.name) names) refl refl (repeated g gs done names n defined below rise) defined rest

-- what is kept symbol by symbol is what all together keep
pub first_kept : (n : ℕ) (gs : List Global) → From n gs → (fold with_global ([], []) gs).0 ≡ without_repeated gs
first_kept n gs rise = kept-from gs [] [] [] n (λ t. refl) tt rise
