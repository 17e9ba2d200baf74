-- How what the added inputs decide grows by one more input, and where it is in what resolution
-- finds.
use Rattle.std.specs.Prelude.{◌≡◌, refl, ℕ, ◌+◌, Bool, true, false, cond, List, [], ◌∷◌, ◌++◌, map, flat_map, filter, filter_map, fold, zip, Option, Some, None, option_map}
use Rattle.std.specs.Str.{bytes_eq}
use Rattle.std.specs.List.{cons_option, enumerate_from}
use Rattle.std.proofs.lemmas.Grind.{flat_map-append, fold-append}
use Rattle.std.proofs.lemmas.List.{append-nil, append_assoc, map-append}
use mathlib.Core.Path.{sym, ap, ◌∙◌}
use Rattle.lk_report.specs.declared.causes.OptionRecord.{OptionRecord}
use Rattle.lk_model.specs.declared.summaries.Contribution.{Contribution}
use Rattle.lk_model.specs.declared.summaries.Contributions.{Contributions}
use Rattle.lk_model.specs.declared.summaries.Global.{Global}
use Rattle.lk_model.specs.declared.summaries.PieceInfo.{PieceInfo}
use Rattle.lk_model.specs.declared.summaries.Winner.{Winner}
use Rattle.lk_model.specs.declared.summaries.Winner.TheVariants as winner
use Rattle.lk_model.specs.Adding.{added_inputs}
use Rattle.lk_model.specs.Finding.{Found, found_of}
use Rattle.lk_model.specs.Groups.{claimed_by, is_left, signatures_in, with_claims}
use Rattle.lk_model.specs.NeedsOf.{needs_of}
use Rattle.lk_model.specs.References.{Sited, references_of, sited_at, sited_of}
use Rattle.lk_model.specs.KeptPieces.{copy_piece, is_input_piece, kept_sections, name_piece, name_pieces, pieces_left, section_piece}
use Rattle.lk_model.specs.Numbered.{Numbered, is_number_in, with_new}
use Rattle.lk_model.specs.Resolving.{found_in, paths_of, resolve}
use Rattle.lk_model.specs.Symbols.{contributions_by, names_in_order, symbols_of}
use Rattle.lk_model.specs.Views.{Input, KeptPiece}
use Rattle.lk_model.specs.Winners.{symbol_among}

-- an input added last comes with what the others claimed
pub with_claims-push : (claimed : List (List ℕ)) (added : List Numbered) (x : Numbered) → with_claims claimed (added ++ x ∷ []) ≡ with_claims claimed added ++ (claimed ++ claimed_by added, x) ∷ []
with_claims-push claimed [] x = ap (λ (c : List (List ℕ)). (c, x) ∷ []) (sym (append-nil claimed))
with_claims-push claimed (y ∷ ys) x =
    ap (λ (cs : List (List (List ℕ) × Numbered)). (claimed, y) ∷ cs)
    (with_claims-push (claimed ++ signatures_in y.summary) ys x
    ∙ ap (λ (c : List (List ℕ)). with_claims (claimed ++ signatures_in y.summary) ys ++ (c, x) ∷ []) (append_assoc claimed (signatures_in y.summary) (claimed_by ys)))

-- its symbols are after those of the others
pub symbols_of-push : (added : List Numbered) (x : Numbered) → symbols_of (added ++ x ∷ []) ≡ symbols_of added ++ contributions_by (claimed_by added) x
symbols_of-push added x =
    let f : List (List ℕ) × Numbered → List Contribution = λ c. contributions_by c.0 c.1 in
    ap (flat_map f) (with_claims-push [] added x)
    ∙ flat_map-append f (with_claims [] added) ((claimed_by added, x) ∷ [])
    ∙ ap (λ (cs : List Contribution). symbols_of added ++ cs) (append-nil (contributions_by (claimed_by added) x))

-- so do its kept sections
pub kept_sections-push : (added : List Numbered) (x : Numbered) → kept_sections (added ++ x ∷ []) ≡ kept_sections added ++ pieces_left (claimed_by added) x
kept_sections-push added x =
    let f : List (List ℕ) × Numbered → List KeptPiece = λ c. pieces_left c.0 c.1 in
    ap (flat_map f) (with_claims-push [] added x)
    ∙ flat_map-append f (with_claims [] added) ((claimed_by added, x) ∷ [])
    ∙ ap (λ (ks : List KeptPiece). kept_sections added ++ ks) (append-nil (pieces_left (claimed_by added) x))

-- of pieces of inputs none is left out, and of common blocks and copies each is
sections_stay : (input : ℕ) (ps : List PieceInfo) (others : List KeptPiece) → filter is_input_piece (map (section_piece input) ps ++ others) ≡ map (section_piece input) ps ++ filter is_input_piece others
sections_stay input [] others = refl
sections_stay input (p ∷ ps) others = ap (λ (ks : List KeptPiece). section_piece input p ∷ ks) (sections_stay input ps others)

kept_stay : (claimed : List (List ℕ)) (added : List Numbered) (others : List KeptPiece) → filter is_input_piece (flat_map (λ (c : List (List ℕ) × Numbered). pieces_left c.0 c.1) (with_claims claimed added) ++ others)
    ≡ flat_map (λ (c : List (List ℕ) × Numbered). pieces_left c.0 c.1) (with_claims claimed added) ++ filter is_input_piece others
kept_stay claimed [] others = refl
kept_stay claimed (x ∷ xs) others =
    let f : List (List ℕ) × Numbered → List KeptPiece = λ c. pieces_left c.0 c.1 in
    let own : List KeptPiece = pieces_left claimed x in
    let later : List KeptPiece = flat_map f (with_claims (claimed ++ signatures_in x.summary) xs) in
    ap (filter is_input_piece) (append_assoc own later others)
    ∙ sections_stay x.number (filter (λ (p : PieceInfo). is_left claimed x.summary p.section) x.summary.pieces) (later ++ others)
    ∙ ap (λ (ks : List KeptPiece). own ++ ks) (kept_stay (claimed ++ signatures_in x.summary) xs others)
    ∙ sym (append_assoc own later (filter is_input_piece others))

name_piece_leaves : (copies : List ℕ) (name : ℕ) (cs : Contributions) (w : Winner) (others : List KeptPiece) → filter is_input_piece (cons_option (name_piece copies name cs w) others) ≡ filter is_input_piece others
name_piece_leaves copies name cs (winner.Common size align) others = refl
name_piece_leaves copies name cs (winner.Import input symbol) others = go (is_number_in copies name) (symbol_among cs.list input symbol)
  where
    go : (copied : Bool) (found : Option Global) → filter is_input_piece (cons_option (cond copied (option_map (copy_piece name) found) None) others) ≡ filter is_input_piece others
    go false found = refl
    go true None = refl
    go true (Some g) = refl
name_piece_leaves copies name cs winner.Nothing others = refl
name_piece_leaves copies name cs (winner.Strong input symbol) others = refl
name_piece_leaves copies name cs (winner.Weak input symbol) others = refl
name_piece_leaves copies name cs winner.Made others = refl

name_pieces_leave : (copies : List ℕ) (n : ℕ) (names : List Contributions) (winners : List Winner) → filter is_input_piece (filter_map (λ (x : ℕ × (Contributions × Winner)). name_piece copies x.0 x.1.0 x.1.1) (enumerate_from n (zip names winners))) ≡ []
name_pieces_leave copies n [] winners = refl
name_pieces_leave copies n (cs ∷ names) [] = refl
name_pieces_leave copies n (cs ∷ names) (w ∷ winners) =
    name_piece_leaves copies n cs w (filter_map (λ (x : ℕ × (Contributions × Winner)). name_piece copies x.0 x.1.0 x.1.1) (enumerate_from (n + 1) (zip names winners))) ∙ name_pieces_leave copies (n + 1) names winners

-- the kept sections are the kept pieces without common blocks and copies
pub kept-sections : (copies : List ℕ) (added : List Numbered) (names : List Contributions) (winners : List Winner) → filter is_input_piece (kept_sections added ++ name_pieces copies names winners) ≡ kept_sections added
kept-sections copies added names winners =
    kept_stay [] added (name_pieces copies names winners) ∙ ap (λ (ks : List KeptPiece). kept_sections added ++ ks) (name_pieces_leave copies 0 names winners) ∙ append-nil (kept_sections added)

-- what resolution finds holds what the added inputs decide
pub found_in-resolve : (options : OptionRecord) (inputs : List Input) → found_in (resolve options inputs) ≡ found_of (paths_of inputs) options.entry (added_inputs options.entry inputs)
unfolding resolve found_of
found_in-resolve options inputs =
    let found : Found = found_of (paths_of inputs) options.entry (added_inputs options.entry inputs) in
    let copies : List ℕ = (needs_of found (sited_of found.names inputs found.sections)).copies in
    ap (λ (ks : List KeptPiece). record found { sections = ks }) (kept-sections copies (added_inputs options.entry inputs) found.names found.winners)

-- one more symbol brings at most its own name, which is then the last
pub names_in_order-push : (symbols : List Contribution) (c : Contribution) → names_in_order (symbols ++ c ∷ []) ≡ with_new bytes_eq (names_in_order symbols) c.global.name
names_in_order-push symbols c =
    let names : List Contribution → List (List ℕ) = map (λ (d : Contribution). d.global.name) in
    ap (fold (with_new bytes_eq) []) (map-append (λ (d : Contribution). d.global.name) symbols (c ∷ [])) ∙ fold-append (with_new bytes_eq) [] (names symbols) (c.global.name ∷ [])

name_piece_unreferring : (names : List Contributions) (inputs : List Input) (copies : List ℕ) (name : ℕ) (cs : Contributions) (w : Winner) (others : List KeptPiece) → sited_of names inputs (cons_option (name_piece copies name cs w) others) ≡ sited_of names inputs others
name_piece_unreferring names inputs copies name cs (winner.Common size align) others = refl
name_piece_unreferring names inputs copies name cs (winner.Import input symbol) others = go (is_number_in copies name) (symbol_among cs.list input symbol)
  where
    go : (copied : Bool) (found : Option Global) → sited_of names inputs (cons_option (cond copied (option_map (copy_piece name) found) None) others) ≡ sited_of names inputs others
    go false found = refl
    go true None = refl
    go true (Some g) = refl
name_piece_unreferring names inputs copies name cs winner.Nothing others = refl
name_piece_unreferring names inputs copies name cs (winner.Strong input symbol) others = refl
name_piece_unreferring names inputs copies name cs (winner.Weak input symbol) others = refl
name_piece_unreferring names inputs copies name cs winner.Made others = refl

name_pieces_unreferring : (names : List Contributions) (inputs : List Input) (copies : List ℕ) (n : ℕ) (rows : List Contributions) (winners : List Winner) → sited_of names inputs (filter_map (λ (x : ℕ × (Contributions × Winner)). name_piece copies x.0 x.1.0 x.1.1) (enumerate_from n (zip rows winners))) ≡ []
name_pieces_unreferring names inputs copies n [] winners = refl
name_pieces_unreferring names inputs copies n (cs ∷ rows) [] = refl
name_pieces_unreferring names inputs copies n (cs ∷ rows) (w ∷ winners) =
    name_piece_unreferring names inputs copies n cs w (filter_map (λ (x : ℕ × (Contributions × Winner)). name_piece copies x.0 x.1.0 x.1.1) (enumerate_from (n + 1) (zip rows winners)))
    ∙ name_pieces_unreferring names inputs copies (n + 1) rows winners

-- common blocks and copies have no references
pub sited_of-sections : (names : List Contributions) (inputs : List Input) (sections : List KeptPiece) (copies : List ℕ) (rows : List Contributions) (winners : List Winner) → sited_of names inputs (sections ++ name_pieces copies rows winners) ≡ sited_of names inputs sections
sited_of-sections names inputs sections copies rows winners =
    flat_map-append (λ (k : KeptPiece). sited_at names inputs k.key k.piece) sections (name_pieces copies rows winners)
    ∙ ap (λ (xs : List Sited). sited_of names inputs sections ++ xs) (name_pieces_unreferring names inputs copies 0 rows winners)
    ∙ append-nil (sited_of names inputs sections)

-- the references that resolution finds are those of the kept pieces
pub references-resolve : (options : OptionRecord) (inputs : List Input) → (resolve options inputs).references ≡ references_of (sited_of (resolve options inputs).names inputs (resolve options inputs).kept)
unfolding resolve found_of
references-resolve options inputs =
    let found : Found = found_of (paths_of inputs) options.entry (added_inputs options.entry inputs) in
    let copies : List ℕ = (needs_of found (sited_of found.names inputs found.sections)).copies in
    ap references_of (sym (sited_of-sections found.names inputs found.sections copies found.names found.winners))
