-- Names that are defined, as a set of texts.
use Rattle.std.specs.Prelude.{◌≡◌, refl, ℕ, ◌==◌, Bool, true, false, if◌then◌else◌, not, ◌||◌, List, [], ◌∷◌, ◌++◌, bytes_eq, Option, Some, unwrap_or, Result, Ok, Err, OnOk}
use Rattle.std.specs.Borrow.{Bor}
use Rattle.std.specs.List.{list_any}
use Rattle.std.proofs.Common.{ap, sym, ◌∙◌}
use Rattle.indexmap.specs.IndexSet.{insert_key}
use Rattle.lk_elf.specs.Numbers.{shn_undef}
use Rattle.lk_elf.specs.declared.symbol.Sym.{Sym}
use Rattle.lk_model.specs.SharedObjects.{is_definition, is_offered, shared_global}
use Rattle.lk_model.specs.declared.summaries.Home.TheVariants as home
use Rattle.lk_model.specs.Texts.{with_text}
use Rattle.lk_model.specs.declared.summaries.Global.{Global}
use Rattle.lk_so_read.specs.OfferedSymbols.{Kept, SymbolNoted, texts_in, with_global, with_symbol}

-- whether two references are to one text
abbrev same_text : Bor (List ℕ) → Bor (List ℕ) → Bool
same_text x y = bytes_eq x.now y.now

pub name_known : (names : List (Bor (List ℕ))) (name : Bor (List ℕ)) → list_any (same_text name) names ≡ list_any (bytes_eq name.now) (texts_in names)
name_known [] name = refl
name_known (x ∷ xs) name = ap (λ b. bytes_eq name.now x.now || b) (name_known xs name)

texts-push : (names : List (Bor (List ℕ))) (name : Bor (List ℕ)) → texts_in (names ++ name ∷ []) ≡ texts_in names ++ name.now ∷ []
texts-push [] name = refl
texts-push (x ∷ xs) name = ap (λ (rest : List (List ℕ)). x.now ∷ rest) (texts-push xs name)

either : (b : Bool) (names : List (Bor (List ℕ))) (name : Bor (List ℕ)) → texts_in (if b then names else names ++ name ∷ []) ≡ (if b then texts_in names else texts_in names ++ name.now ∷ [])
either true names name = refl
either false names name = texts-push names name

pub name_added : (names : List (Bor (List ℕ))) (name : Bor (List ℕ)) → texts_in (insert_key same_text names name) ≡ with_text (texts_in names) name.now
name_added names name =
    either (list_any (same_text name) names) names name
    ∙ ap (λ (b : Bool). if b then texts_in names else texts_in names ++ name.now ∷ []) (name_known names name)

-- a symbol is a definition where its section number is not 0
pub definition_by_section : (k : ℕ) (symbol : Sym) (name : List ℕ) → is_definition (shared_global k symbol name) ≡ not (symbol.st_shndx == shn_undef)
unfolding shared_global
definition_by_section k symbol name = go (symbol.st_shndx == shn_undef)
  where
    go : (b : Bool) → (elim (if b then home.Undefined else home.Shared) [ home.Undefined ↦ false | home.Section s ↦ true | home.Absolute ↦ true | home.Common ↦ true | home.Shared ↦ true ]) ≡ not b
    go true = refl
    go false = refl

-- ---- one symbol more

-- what is kept, of two lists
abbrev pub pair : List Global → List (List ℕ) → Kept
pair kept names = (kept, names)

-- what is kept of a symbol that other files may mean
told : (kept : List Global) (names : List (List ℕ)) (k : ℕ) (symbol : Sym) (name : List ℕ) → is_offered symbol ≡ true → with_symbol (kept, names) k symbol name ≡ (if not (symbol.st_shndx == shn_undef) then (if list_any (bytes_eq name) names then (kept, names) else (kept ++ shared_global k symbol name ∷ [], names ++ name ∷ [])) else (kept ++ shared_global k symbol name ∷ [], names))
unfolding shared_global
told kept names k symbol name o =
    ap (λ (b : Bool). if b then with_global (kept, names) (shared_global k symbol name) else (kept, names)) o
    ∙ ap (λ (b : Bool). if b then (if list_any (bytes_eq name) names then (kept, names) else (kept ++ shared_global k symbol name ∷ [], names ++ name ∷ [])) else (kept ++ shared_global k symbol name ∷ [], names)) (definition_by_section k symbol name)

pub not_offered : (kept : Kept) (k : ℕ) (symbol : Sym) (name : List ℕ) → is_offered symbol ≡ false → kept ≡ with_symbol kept k symbol name
not_offered kept k symbol name o = sym (ap (λ (b : Bool). if b then with_global kept (shared_global k symbol name) else kept) o)

again : (u d : Bool) (kept more : List Global) (names new : List (List ℕ)) (name : List ℕ) → false ≡ (u || not d) → new ≡ (if u then names else (if d then names else names ++ name ∷ [])) → ◌≡◌ {A = Kept} (kept, new) (if not u then (if d then (kept, names) else (more, names ++ name ∷ [])) else (more, names))
again true d kept more names new name f n = cc
again false true kept more names new name f n = ap (pair kept) n
again false false kept more names new name f n = cc

pub noted_again : (kept : List Global) (names new : List (List ℕ)) (k : ℕ) (symbol : Sym) (name : List ℕ) (is_kept : Bool) → is_kept ≡ false → is_offered symbol ≡ true → SymbolNoted names symbol name is_kept new → pair kept new ≡ with_symbol (kept, names) k symbol name
noted_again kept names new k symbol name is_kept f o noted =
    again (symbol.st_shndx == shn_undef) (list_any (bytes_eq name) names) kept (kept ++ shared_global k symbol name ∷ []) names new name (sym f ∙ noted.0) noted.1
    ∙ sym (told kept names k symbol name o)

first : (u d : Bool) (kept more : List Global) (names new : List (List ℕ)) (name : List ℕ) → true ≡ (u || not d) → new ≡ (if u then names else (if d then names else names ++ name ∷ [])) → ◌≡◌ {A = Kept} (more, new) (if not u then (if d then (kept, names) else (more, names ++ name ∷ [])) else (more, names))
first true d kept more names new name f n = ap (pair more) n
first false true kept more names new name f n = cc
first false false kept more names new name f n = ap (pair more) n

pub noted_first : (kept more : List Global) (names new : List (List ℕ)) (k : ℕ) (symbol : Sym) (name : List ℕ) (is_kept : Bool) → is_kept ≡ true → is_offered symbol ≡ true → SymbolNoted names symbol name is_kept new → more ≡ kept ++ shared_global k symbol name ∷ [] → pair more new ≡ with_symbol (kept, names) k symbol name
noted_first kept more names new k symbol name is_kept t o noted e =
    ap (λ (l : List Global). pair l new) e
    ∙ first (symbol.st_shndx == shn_undef) (list_any (bytes_eq name) names) kept (kept ++ shared_global k symbol name ∷ []) names new name (sym t ∙ noted.0) noted.1
    ∙ sym (told kept names k symbol name o)

-- what holds on success follows from what holds on success
pub on_success : {X E P Q : Type 0} (r : Result X E) → (P → Q) → OnOk r P → OnOk r Q
on_success (Ok x) f p = f p
on_success (Err e) f p = tt

-- two texts that are there and equal as options are equal
pub named_text : {a b : List ℕ} → Some a ≡ Some b → a ≡ b
named_text {a} e = ap (λ (o : Option (List ℕ)). unwrap_or o a) e
