-- The state of a list of inputs goes on by one more input.
use Rattle.std.proofs.Common.{◌≡◌, sym, ap, ◌∙◌, ℕ, ◌||◌, List, [], ◌∷◌, ◌++◌, map, flat_map, filter, fold}
use Rattle.std.specs.Str.{bytes_eq}
use Rattle.std.proofs.lemmas.Grind.{flat_map-append, fold-append}
use Rattle.std.proofs.lemmas.List.{append-nil, map-append}
use Rattle.std.proofs.lemmas.List.Elements.{filter-append}
use Rattle.std.proofs.lemmas.List.Folds.{list_any-append}
use Rattle.lk_comdat.specs.Claims.{signatures_of}
use Rattle.lk_comdat.specs.ClaimLaws.{claims_after, with_claim}
use Rattle.lk_model.specs.declared.summaries.Contribution.{Contribution}
use Rattle.lk_model.specs.Finding.{is_dynamic}
use Rattle.lk_model.specs.Groups.{claimed_by, is_left}
use Rattle.lk_model.specs.KeptPieces.{kept_sections, loaded_names, pieces_left}
use Rattle.lk_model.specs.Numbered.{Numbered, distinct, is_number_in, with_new}
use Rattle.lk_model.specs.Symbols.{contributions_by, contributions_of, symbols_of}
use Rattle.lk_model.specs.Views.{KeptPiece}
use Rattle.lk_model.proofs.Finding.{kept_sections-push, symbols_of-push}
use Rattle.lk_resolve.specs.declared.section_places.SectionPlace.{SectionPlace}
use Rattle.lk_resolve.specs.LeftSections.{is_same_place, left_in, loaded_in, place_of, places_in, symbols_in}
use Rattle.lk_resolve.specs.States.{asked_by, asked_by_all, is_shared, state_of, with_input}
use Rattle.lk_resolve.proofs.ListSets.{or_false}
use Rattle.lk_resolve.proofs.SectionsLeft.{left_is, loaded-left, places-left, symbols-left}
use Rattle.lk_symtab.specs.NameRows.{NameRow}
use Rattle.lk_symtab.specs.SymbolLaws.{plain_row, with_own}
use Rattle.lk_symtab.proofs.SymbolsFound.{table}
use Rattle.lk_model.specs.SectionKeys.{is_alloc}

rows-go-on : (added : List Numbered) (x : Numbered) (symbols : List Contribution) → symbols ≡ contributions_by (claimed_by added) x
    → fold with_own (map plain_row (contributions_of (symbols_of added))) symbols ≡ map plain_row (contributions_of (symbols_of (added ++ x ∷ [])))
rows-go-on added x symbols same =
    let own : List Contribution = contributions_by (claimed_by added) x in
    ap (fold with_own (map plain_row (contributions_of (symbols_of added)))) same
    ∙ ap (λ (rows : List NameRow). fold with_own rows own) (sym (table (symbols_of added)))
    ∙ sym (fold-append with_own [] (symbols_of added) own)
    ∙ table (symbols_of added ++ own)
    ∙ ap (λ (ss : List Contribution). map plain_row (contributions_of ss)) (sym (symbols_of-push added x))

claims-go-on : (added : List Numbered) (x : Numbered) → fold with_claim (claims_after (asked_by_all added)) (asked_by x) ≡ claims_after (asked_by_all (added ++ x ∷ []))
claims-go-on added x =
    sym (fold-append with_claim [] (asked_by_all added) (asked_by x))
    ∙ ap claims_after (sym (flat_map-append asked_by added (x ∷ []) ∙ ap (λ l. asked_by_all added ++ l) (append-nil (asked_by x))))

dynamic-goes-on : (added : List Numbered) (x : Numbered) → (is_dynamic added || is_shared x.summary.kind) ≡ is_dynamic (added ++ x ∷ [])
dynamic-goes-on added x =
    sym (list_any-append (λ (y : Numbered). is_shared y.summary.kind) added (x ∷ []) ∙ ap (λ b. is_dynamic added || b) (or_false (is_shared x.summary.kind)))

kept-goes-on : (added : List Numbered) (x : Numbered) (places : List SectionPlace) → places ≡ flat_map place_of (pieces_left (claimed_by added) x)
    → fold (with_new is_same_place) (distinct is_same_place (flat_map place_of (kept_sections added))) places ≡ distinct is_same_place (flat_map place_of (kept_sections (added ++ x ∷ [])))
kept-goes-on added x places same =
    let own : List KeptPiece = pieces_left (claimed_by added) x in
    sym (fold-append (with_new is_same_place) [] (flat_map place_of (kept_sections added)) places)
    ∙ ap (λ l. distinct is_same_place (flat_map place_of (kept_sections added) ++ l)) same
    ∙ ap (distinct is_same_place) (sym (flat_map-append place_of (kept_sections added) own))
    ∙ ap (λ (ks : List KeptPiece). distinct is_same_place (flat_map place_of ks)) (sym (kept_sections-push added x))

loaded_names-append : (xs ys : List KeptPiece) → loaded_names (xs ++ ys) ≡ loaded_names xs ++ loaded_names ys
loaded_names-append xs ys =
    ap (map (λ (k : KeptPiece). k.key.name)) (filter-append (λ (k : KeptPiece). is_alloc k.key.class) xs ys)
    ∙ map-append (λ (k : KeptPiece). k.key.name) (filter (λ (k : KeptPiece). is_alloc k.key.class) xs) (filter (λ (k : KeptPiece). is_alloc k.key.class) ys)

loaded-goes-on : (added : List Numbered) (x : Numbered) (names : List (List ℕ)) → names ≡ loaded_names (pieces_left (claimed_by added) x)
    → fold (with_new bytes_eq) (distinct bytes_eq (loaded_names (kept_sections added))) names ≡ distinct bytes_eq (loaded_names (kept_sections (added ++ x ∷ [])))
loaded-goes-on added x names same =
    let own : List KeptPiece = pieces_left (claimed_by added) x in
    sym (fold-append (with_new bytes_eq) [] (loaded_names (kept_sections added)) names)
    ∙ ap (λ l. distinct bytes_eq (loaded_names (kept_sections added) ++ l)) same
    ∙ ap (distinct bytes_eq) (sym (loaded_names-append (kept_sections added) own))
    ∙ ap (λ (ks : List KeptPiece). distinct bytes_eq (loaded_names ks)) (sym (kept_sections-push added x))

pub goes_on : (entry : List ℕ) (paths : List (List ℕ)) (added : List Numbered) (x : Numbered) → with_input (state_of entry paths added) x ≡ state_of entry paths (added ++ x ∷ [])
unfolding with_input state_of
goes_on entry paths added x =
    let left : List ℕ = left_in (signatures_of (claims_after (asked_by_all added))) x.summary in
    let same : (s : ℕ) → is_number_in left s ≡ is_left (claimed_by added) x.summary s = left_is added x.summary in
    let rows = rows-go-on added x (symbols_in left x.number x.summary.kind x.summary.globals) (symbols-left left (claimed_by added) x.summary same x.number x.summary.kind x.summary.globals) in
    let claims = claims-go-on added x in
    let numbers = sym (map-append (λ (y : Numbered). y.number) added (x ∷ [])) in
    let dynamic = dynamic-goes-on added x in
    let kept = kept-goes-on added x (places_in left x.number x.summary.pieces) (places-left left (claimed_by added) x.summary same x.number x.summary.pieces) in
    let loaded = loaded-goes-on added x (loaded_in left x.summary.pieces) (loaded-left left (claimed_by added) x.summary same x.number x.summary.pieces) in
    λ i. record {
      entry = entry;
      paths = paths;
      rows = rows i;
      claims = claims i;
      added = numbers i;
      dynamic = dynamic i;
      kept = kept i;
      loaded = loaded i;
    }
