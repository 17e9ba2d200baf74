-- Lists of fields that are put one after another are spelled as one list.
use Rattle.std.proofs.Common.{◌≡◌, ℕ, ◌+◌, ◌<◌, ◌≤◌, List, [], ◌∷◌, ◌++◌, drop, get_or, length, map, refl, sym, ap, ◌∙◌, append_assoc}
use Rattle.std.specs.List.{enumerate_from, flat_map}
use Rattle.std.proofs.lemmas.List.{append-nil, drop_all, drop_more}
use Rattle.std.proofs.lemmas.List.Concat.{flat_map-append}
use Rattle.lk_elf.specs.Fields.{bytes_of}
use Rattle.lk_model.specs.InputsSection.{global_fields, group_fields, head_fields, input_fields, input_head, inputs_fields, piece_fields, section_fields}
use Rattle.lk_model.specs.RecordFields.{Field, field_bytes, spelled}
use Rattle.lk_model.specs.RecordFields.Field.{Short}
use Rattle.lk_model.specs.declared.layouts.Placement.{Placement}
use Rattle.lk_model.specs.declared.layouts.SectionRow.{SectionRow}
use Rattle.lk_model.specs.declared.records.InputRecord.{InputRecord}
use Rattle.lk_model.specs.declared.records.Records.{Records}
use Rattle.lk_model.specs.declared.summaries.Global.{Global}
use Rattle.lk_model.specs.declared.summaries.Group.{Group}
use Rattle.lk_model.specs.declared.summaries.PieceInfo.{PieceInfo}
use Rattle.lk_incr.specs.Words.{group_head}

spelled-append : (off : List ℕ → ℕ) (xs ys : List Field) → spelled off (xs ++ ys) ≡ spelled off xs ++ spelled off ys
unfolding spelled
spelled-append off xs ys = flat_map-append (field_bytes off) xs ys

-- two lists in a row
then : (off : List ℕ → ℕ) (xs ys : List Field) (a b c : List ℕ) → b ≡ a ++ spelled off xs → c ≡ b ++ spelled off ys → c ≡ a ++ spelled off (xs ++ ys)
then off xs ys a b c first second =
    second ∙ ap (λ l. l ++ spelled off ys) first ∙ append_assoc a (spelled off xs) (spelled off ys) ∙ ap (λ l. a ++ l) (sym (spelled-append off xs ys))

spelled-members : (off : List ℕ → ℕ) (ms : List ℕ) → spelled off (map Short ms) ≡ flat_map (bytes_of 4) ms
unfolding spelled
spelled-members off [] = refl
spelled-members off (m ∷ ms) = ap (λ l. bytes_of 4 m ++ l) (spelled-members off ms)

pub put_group : (off : List ℕ → ℕ) (g : Group) (ms a b c : List ℕ) → ms ≡ g.members → b ≡ a ++ spelled off (group_head g)
    → c ≡ b ++ flat_map (bytes_of 4) ms → c ≡ a ++ spelled off (group_fields g)
put_group off g ms a b c same first second =
    then off (group_head g) (map Short g.members) a b c first
    (second ∙ ap (λ l. b ++ flat_map (bytes_of 4) l) same ∙ ap (λ l. b ++ l) (sym (spelled-members off g.members)))

pub put_input : (off : List ℕ → ℕ) (place : Placement) (n : ℕ) (i : InputRecord) (ps : List PieceInfo) (gs : List Global) (qs : List Group) (a b c d e : List ℕ)
    → ps ≡ i.summary.pieces → gs ≡ i.summary.globals → qs ≡ i.summary.groups → b ≡ a ++ spelled off (input_head i)
    → c ≡ b ++ spelled off (flat_map (piece_fields place n) ps) → d ≡ c ++ spelled off (flat_map global_fields gs)
    → e ≡ d ++ spelled off (flat_map group_fields qs) → e ≡ a ++ spelled off (input_fields place (n, i))
put_input off place n i ps gs qs a b c d e pieces globals groups first second third last =
    let head : List Field = input_head i in
    let xs : List Field = flat_map (piece_fields place n) i.summary.pieces in
    let ys : List Field = flat_map global_fields i.summary.globals in
    let zs : List Field = flat_map group_fields i.summary.groups in
    let two = then off head xs a b c first (second ∙ ap (λ l. b ++ spelled off (flat_map (piece_fields place n) l)) pieces) in
    let three = then off (head ++ xs) ys a c d two (third ∙ ap (λ l. c ++ spelled off (flat_map global_fields l)) globals) in
    then off ((head ++ xs) ++ ys) zs a d e three (last ∙ ap (λ l. d ++ spelled off (flat_map group_fields l)) groups)

-- an item with its number, and those after it
spelled_next : {X : Type 0} (off : List ℕ → ℕ) (f : ℕ × X → List Field) (xs : List X) (n : ℕ) (x : X) → n < length xs → x ≡ get_or xs n x
    → spelled off (flat_map f (enumerate_from n (drop n xs))) ≡ spelled off (f (n, x)) ++ spelled off (flat_map f (enumerate_from (n + 1) (drop (n + 1) xs)))
spelled_next off f xs n x within item =
    let rest : drop n xs ≡ x ∷ drop (n + 1) xs = drop_more xs n x within ∙ ap (λ y. y ∷ drop (n + 1) xs) (sym item) in
    ap (λ l. spelled off (flat_map f (enumerate_from n l))) rest
    ∙ spelled-append off (f (n, x)) (flat_map f (enumerate_from (n + 1) (drop (n + 1) xs)))

pub put_section : (off : List ℕ → ℕ) (r : Records) (place : Placement) (rows : List SectionRow) (inputs : List InputRecord) (a b c d : List ℕ)
    → place ≡ r.placement → rows ≡ r.placement.sections → inputs ≡ r.inputs → b ≡ a ++ spelled off (head_fields r)
    → c ≡ b ++ spelled off (flat_map section_fields rows) → d ≡ c ++ spelled off (flat_map (input_fields place) (enumerate_from 0 inputs))
    → d ≡ a ++ spelled off (inputs_fields r)
unfolding inputs_fields
put_section off r place rows inputs a b c d at same also first second third =
    let head : List Field = head_fields r in
    let xs : List Field = flat_map section_fields r.placement.sections in
    let ys : List Field = flat_map (input_fields r.placement) (enumerate_from 0 r.inputs) in
    let two = then off head xs a b c first (second ∙ ap (λ l. b ++ spelled off (flat_map section_fields l)) same) in
    then off (head ++ xs) ys a c d two
    (third ∙ ap (λ p. c ++ spelled off (flat_map (input_fields p) (enumerate_from 0 inputs))) at
    ∙ ap (λ l. c ++ spelled off (flat_map (input_fields r.placement) (enumerate_from 0 l))) also)

-- an input that was put is no longer among those that are left
pub input_put : (off : List ℕ → ℕ) (place : Placement) (xs : List InputRecord) (n : ℕ) (x : InputRecord) (a b all : List ℕ) → n < length xs → x ≡ get_or xs n x
    → a ++ spelled off (flat_map (input_fields place) (enumerate_from n (drop n xs))) ≡ all → b ≡ a ++ spelled off (input_fields place (n, x))
    → b ++ spelled off (flat_map (input_fields place) (enumerate_from (n + 1) (drop (n + 1) xs))) ≡ all
input_put off place xs n x a b all within item before put =
    let rest : List ℕ = spelled off (flat_map (input_fields place) (enumerate_from (n + 1) (drop (n + 1) xs))) in
    ap (λ l. l ++ rest) put ∙ append_assoc a (spelled off (input_fields place (n, x))) rest
    ∙ ap (λ l. a ++ l) (sym (spelled_next off (input_fields place) xs n x within item)) ∙ before

pub inputs_put : (off : List ℕ → ℕ) (place : Placement) (xs : List InputRecord) (n : ℕ) (a all : List ℕ) → length xs ≤ n
    → a ++ spelled off (flat_map (input_fields place) (enumerate_from n (drop n xs))) ≡ all → a ≡ all
unfolding spelled
inputs_put off place xs n a all none before =
    let rest : drop n xs ≡ [] = drop_all n xs none in
    sym (append-nil a) ∙ ap (λ l. a ++ flat_map (field_bytes off) (flat_map (input_fields place) (enumerate_from n l))) (sym rest) ∙ before
