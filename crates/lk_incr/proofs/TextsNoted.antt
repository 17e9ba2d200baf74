-- The texts that are noted are those of the fields.
use Rattle.std.proofs.Common.{◌≡◌, ℕ, ◌+◌, List, [], ◌∷◌, ◌++◌, map, refl, sym, ap, ◌∙◌}
use Rattle.std.specs.List.{enumerate_from, flat_map}
use Rattle.std.specs.Prelude.{codes, fold}
use Rattle.std.proofs.lemmas.List.Elements.{filter_map-append}
use Rattle.std.proofs.lemmas.List.Sums.{fold-append}
use Rattle.lk_model.specs.InputsSection.{global_fields, group_fields, head_fields, input_fields, input_head, inputs_fields, piece_fields, section_fields}
use Rattle.lk_model.specs.RecordFields.{Field, field_text, texts_of}
use Rattle.lk_model.specs.RecordFields.Field.{Short}
use Rattle.lk_model.specs.Tail.{header_names, record_parts, row_name}
use Rattle.lk_model.specs.Texts.{table_of, with_text}
use Rattle.lk_model.specs.declared.layouts.Placement.{Placement}
use Rattle.lk_model.specs.declared.layouts.SectionRow.{SectionRow}
use Rattle.lk_model.specs.declared.records.InputRecord.{InputRecord}
use Rattle.lk_model.specs.declared.records.Records.{Records}
use Rattle.lk_model.specs.declared.summaries.Global.{Global}
use Rattle.lk_model.specs.declared.summaries.Group.{Group}
use Rattle.lk_model.specs.declared.summaries.PieceInfo.{PieceInfo}
use Rattle.lk_incr.specs.NotedTexts.{global_name, group_name, head_texts, input_texts, piece_name, section_texts}

texts-append : (xs ys : List Field) → texts_of (xs ++ ys) ≡ texts_of xs ++ texts_of ys
texts-append xs ys = filter_map-append field_text xs ys

of-sections : (rows : List SectionRow) → texts_of (flat_map section_fields rows) ≡ map row_name rows
of-sections [] = refl
of-sections (r ∷ rs) = ap (λ l. r.key.name ∷ l) (of-sections rs)

of-pieces : (place : Placement) (n : ℕ) (ps : List PieceInfo) → texts_of (flat_map (piece_fields place n) ps) ≡ map piece_name ps
of-pieces place n [] = refl
of-pieces place n (p ∷ ps) = ap (λ l. p.name ∷ l) (of-pieces place n ps)

of-globals : (gs : List Global) → texts_of (flat_map global_fields gs) ≡ map global_name gs
of-globals [] = refl
of-globals (g ∷ gs) = ap (λ l. g.name ∷ l) (of-globals gs)

-- members have no texts
of-members : (ms : List ℕ) → texts_of (map Short ms) ≡ []
of-members [] = refl
of-members (m ∷ ms) = of-members ms

of-groups : (gs : List Group) → texts_of (flat_map group_fields gs) ≡ map group_name gs
of-groups [] = refl
of-groups (g ∷ gs) =
    ap (λ l. g.signature ∷ l)
    (texts-append (map Short g.members) (flat_map group_fields gs) ∙ ap (λ l. l ++ texts_of (flat_map group_fields gs)) (of-members g.members)
    ∙ of-groups gs)

-- four lists of fields in a row
of-four : (ws xs ys zs : List Field) (ts us vs qs : List (List ℕ)) → texts_of ws ≡ ts → texts_of xs ≡ us → texts_of ys ≡ vs → texts_of zs ≡ qs
    → texts_of (((ws ++ xs) ++ ys) ++ zs) ≡ ((ts ++ us) ++ vs) ++ qs
of-four ws xs ys zs ts us vs qs a b c d =
    texts-append ((ws ++ xs) ++ ys) zs
    ∙ ap (λ l. l ++ texts_of zs) (texts-append (ws ++ xs) ys ∙ ap (λ l. l ++ texts_of ys) (texts-append ws xs))
    ∙ rw (a, b, c, d) refl

of-input : (place : Placement) (n : ℕ) (i : InputRecord) → texts_of (input_fields place (n, i)) ≡ input_texts i
of-input place n i =
    of-four (input_head i) (flat_map (piece_fields place n) i.summary.pieces) (flat_map global_fields i.summary.globals) (flat_map group_fields i.summary.groups)
    _ _ _ _ refl (of-pieces place n i.summary.pieces) (of-globals i.summary.globals) (of-groups i.summary.groups)

of-inputs : (place : Placement) (n : ℕ) (xs : List InputRecord) → texts_of (flat_map (input_fields place) (enumerate_from n xs)) ≡ flat_map input_texts xs
of-inputs place n [] = refl
of-inputs place n (i ∷ xs) =
    texts-append (input_fields place (n, i)) (flat_map (input_fields place) (enumerate_from (n + 1) xs))
    ∙ ap (λ l. l ++ texts_of (flat_map (input_fields place) (enumerate_from (n + 1) xs))) (of-input place n i)
    ∙ ap (λ l. input_texts i ++ l) (of-inputs place (n + 1) xs)

of-three : (xs ys zs : List Field) (ts us vs : List (List ℕ)) → texts_of xs ≡ ts → texts_of ys ≡ us → texts_of zs ≡ vs
    → texts_of ((xs ++ ys) ++ zs) ≡ (ts ++ us) ++ vs
of-three xs ys zs ts us vs a b c =
    texts-append (xs ++ ys) zs ∙ ap (λ l. l ++ texts_of zs) (texts-append xs ys) ∙ rw (a, b, c) refl

-- the texts of the inputs section
of-section : (r : Records) → texts_of (inputs_fields r) ≡ section_texts r
unfolding inputs_fields
of-section r =
    of-three (head_fields r) (flat_map section_fields r.placement.sections) (flat_map (input_fields r.placement) (enumerate_from 0 r.inputs))
    _ _ _ refl (of-sections r.placement.sections) (of-inputs r.placement 0 r.inputs)

three : (start xs ys zs : List (List ℕ)) → fold with_text (fold with_text (fold with_text start xs) ys) zs ≡ fold with_text start ((xs ++ ys) ++ zs)
three start xs ys zs =
    ap (λ t. fold with_text t zs) (sym (fold-append with_text start xs ys)) ∙ sym (fold-append with_text start (xs ++ ys) zs)

-- what is noted in turn
pub section_noted : (r : Records) (rows : List SectionRow) (inputs : List InputRecord) (a b c d : List (List ℕ)) → rows ≡ r.placement.sections → inputs ≡ r.inputs
    → b ≡ fold with_text a (head_texts r.options) → c ≡ fold with_text b (map row_name rows) → d ≡ fold with_text c (flat_map input_texts inputs)
    → d ≡ fold with_text a (texts_of (inputs_fields r))
section_noted r rows inputs a b c d same also first second third =
    let xs : List (List ℕ) = head_texts r.options in
    let ys : List (List ℕ) = map row_name r.placement.sections in
    let zs : List (List ℕ) = flat_map input_texts r.inputs in
    third ∙ ap (λ l. fold with_text c (flat_map input_texts l)) also
    ∙ ap (λ t. fold with_text t zs) (second ∙ ap (λ l. fold with_text b (map row_name l)) same ∙ ap (λ t. fold with_text t ys) first)
    ∙ three a xs ys zs ∙ ap (fold with_text a) (sym (of-section r))

-- the names of an image's sections
pub names_noted : (r : Records) (place : Placement) (rows : List SectionRow) (a b c d e : List (List ℕ)) → a ≡ [] ∷ [] → rows ≡ place.sections
    → b ≡ fold with_text a (map row_name rows) → c ≡ with_text b (codes ".gnu_incremental_inputs")
    → d ≡ with_text c (codes ".gnu_incremental_strtab") → e ≡ with_text d (codes ".shstrtab") → e ≡ table_of (header_names place (record_parts r))
unfolding record_parts
names_noted r place rows a b c d e new same first second third last =
    let names : List (List ℕ) = map row_name place.sections in
    let start : List (List ℕ) = [] ∷ [] in
    let one : b ≡ fold with_text start names = first ∙ ap (λ l. fold with_text a (map row_name l)) same ∙ ap (λ t. fold with_text t names) new in
    last ∙ ap (λ t. with_text t (codes ".shstrtab"))
    (third ∙ ap (λ t. with_text t (codes ".gnu_incremental_strtab")) (second ∙ ap (λ t. with_text t (codes ".gnu_incremental_inputs")) one))
    ∙ three start names (codes ".gnu_incremental_inputs" ∷ codes ".gnu_incremental_strtab" ∷ []) (codes ".shstrtab" ∷ [])
