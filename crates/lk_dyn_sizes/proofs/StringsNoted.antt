-- The texts that are noted one after another.
use Rattle.std.proofs.Common.{◌≡◌, sym, ap, ◌∙◌, ℕ, zero, suc, ◌+◌, add-one, List, [], ◌∷◌, ◌++◌, drop, fold, Option, None, Some, option_map, slice_get}
use Rattle.std.proofs.lemmas.Grind.{fold-append}
use Rattle.lk_model.specs.declared.summaries.Contributions.{Contributions}
use Rattle.lk_model.specs.Texts.{with_text}
use Rattle.lk_symtab.specs.NameRows.{NameRow, symbols_in}
use Rattle.lk_dyn_sizes.specs.DynamicStrings.{row_texts, strings_of, texts_at}

-- a row of the table, by its symbols
pub name_reported : (table new : List (List ℕ)) (o : Option NameRow) (cs : Contributions) → option_map symbols_in o ≡ Some cs → new ≡ with_text table cs.name → new ≡ fold with_text table (row_texts o)
name_reported table new None cs e noted = absurd (cc)
name_reported table new (Some row) cs e noted =
    let same : row.contributions ≡ cs = cc in
    noted ∙ ap (λ (x : Contributions). with_text table x.name) (sym same)

-- a table once the names, the needed names and the run path were noted
pub strings_reported : (rows : List NameRow) (numbers : List ℕ) (needed : List (List ℕ)) (runpath : List ℕ) (empty named full last : List (List ℕ))
    → empty ≡ [] ∷ [] → named ≡ fold with_text empty (texts_at rows numbers) → full ≡ fold with_text named needed → last ≡ with_text full runpath
    → last ≡ strings_of rows numbers needed runpath
strings_reported rows numbers needed runpath empty named full last e n f l =
    l
    ∙ ap (λ t. with_text t runpath) (f ∙ ap (λ t. fold with_text t needed) (n ∙ ap (λ t. fold with_text t (texts_at rows numbers)) e))
    ∙ ap (λ t. with_text t runpath) (sym (fold-append with_text ([] ∷ []) (texts_at rows numbers) needed))
    ∙ sym (fold-append with_text ([] ∷ []) (texts_at rows numbers ++ needed) (runpath ∷ []))

-- the next text
next_text : (table : List (List ℕ)) (texts : List (List ℕ)) (t : List ℕ) (n : ℕ) → slice_get texts n ≡ Some t → fold with_text table (drop n texts) ≡ fold with_text (with_text table t) (drop (suc n) texts)
next_text table [] t n e = absurd (cc)
next_text table (x ∷ xs) t zero e =
    let same : x ≡ t = cc in
    ap (λ y. fold with_text (with_text table y) xs) same
next_text table (x ∷ xs) t (suc n) e = next_text table xs t n e

pub text_noted : (table new whole : List (List ℕ)) (texts : List (List ℕ)) (t : List ℕ) (n : ℕ) → slice_get texts n ≡ Some t → new ≡ with_text table t → fold with_text table (drop n texts) ≡ whole → fold with_text new (drop (n + 1) texts) ≡ whole
text_noted table new whole texts t n at noted h =
    ap (λ l. fold with_text l (drop (n + 1) texts)) noted
    ∙ ap (λ m. fold with_text (with_text table t) (drop m texts)) (add-one n)
    ∙ sym (next_text table texts t n at)
    ∙ h
