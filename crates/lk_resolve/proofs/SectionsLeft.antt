-- The sections that are left are those that the model leaves, and so are the symbols and pieces that count
-- with them.
use Rattle.std.proofs.Common.{◌≡◌, refl, sym, ap, ◌∙◌, ℕ, nat_eq, ◌==◌, Bool, true, false, cond, not, ◌||◌, ◌&&◌, List, [], ◌∷◌, ◌++◌, map, flat_map, filter}
use Rattle.std.specs.Cmp.{nat_eq_equiv}
use Rattle.std.specs.List.{list_any}
use Rattle.lk_comdat.specs.Claims.{signatures_of}
use Rattle.lk_comdat.specs.ClaimLaws.{claims_after}
use Rattle.lk_comdat.proofs.ClaimsFound.{dropped}
use Rattle.std.proofs.lemmas.List.{map-append}
use Rattle.lk_model.specs.declared.summaries.Contribution.{Contribution}
use Rattle.lk_model.specs.declared.summaries.Global.{Global}
use Rattle.lk_model.specs.declared.summaries.Group.{Group}
use Rattle.lk_model.specs.declared.summaries.Home.{Home}
use Rattle.lk_model.specs.declared.summaries.Home.TheVariants as home
use Rattle.lk_model.specs.declared.summaries.InputSummary.{InputSummary}
use Rattle.lk_model.specs.declared.summaries.Kind.{Kind}
use Rattle.lk_model.specs.declared.summaries.PieceInfo.{PieceInfo}
use Rattle.lk_model.specs.Groups.{claimed_by, dropped_by, is_left, signatures_in}
use Rattle.lk_model.specs.KeptPieces.{loaded_names, section_piece}
use Rattle.lk_model.specs.Numbered.{Numbered, is_number_in}
use Rattle.lk_model.specs.Symbols.{home_left}
use Rattle.lk_resolve.specs.LeftSections.{dropped_once, home_in, left_in, loaded_in, place_in, place_of, places_in, sections_without, symbols_in}
use Rattle.lk_resolve.specs.States.{asked_by, asked_by_all, asked_for}
use Rattle.lk_resolve.proofs.ListSets.{any-distinct, same_any}
use Rattle.lk_model.specs.SectionKeys.{is_alloc}

and_false : (b : Bool) → (b && false) ≡ false
and_false true = refl
and_false false = refl

-- a section is among those of pieces that are not dropped where it is one of a piece and not dropped
pub without-any : (gone_from : List ℕ) (pieces : List PieceInfo) (s : ℕ) → is_number_in (sections_without gone_from pieces) s ≡ (list_any (λ (p : PieceInfo). p.section == s) pieces && not (is_number_in gone_from s))
without-any gone_from [] s = refl
without-any gone_from (p ∷ ps) s =
    by (is_number_in gone_from p.section) (nat_eq s p.section) refl refl (without-any gone_from ps s)
    ∙ ap (λ b. (b || list_any (λ (q : PieceInfo). q.section == s) ps) && not (is_number_in gone_from s)) (nat_eq_equiv.symm s p.section)
  where
    rest : List PieceInfo
    rest = filter (λ (q : PieceInfo). not (is_number_in gone_from q.section)) ps

    by : (gone is : Bool) → is_number_in gone_from p.section ≡ gone → nat_eq s p.section ≡ is → is_number_in (sections_without gone_from ps) s ≡ (list_any (λ (q : PieceInfo). q.section == s) ps && not (is_number_in gone_from s))
        → list_any (nat_eq s) (map (λ (q : PieceInfo). q.section) (cond (not gone) (p ∷ rest) rest)) ≡ ((is || list_any (λ (q : PieceInfo). q.section == s) ps) && not (is_number_in gone_from s))
    by true true g e h =
        let here : is_number_in gone_from s ≡ true = same_any nat_eq nat_eq_equiv s p.section gone_from e ∙ g in
        h ∙ ap (λ b. list_any (λ (q : PieceInfo). q.section == s) ps && not b) here ∙ and_false (list_any (λ (q : PieceInfo). q.section == s) ps) ∙ ap (λ b. not b) (sym here)
    by false true g e h =
        let here : is_number_in gone_from s ≡ false = same_any nat_eq nat_eq_equiv s p.section gone_from e ∙ g in
        ap (λ b. b || list_any (nat_eq s) (map (λ (q : PieceInfo). q.section) rest)) e ∙ ap (λ b. not b) (sym here)
    by true false g e h = h
    by false false g e h = ap (λ b. b || list_any (nat_eq s) (map (λ (q : PieceInfo). q.section) rest)) e ∙ h

-- the signatures that inputs ask for are those that they claim
asked-signatures : (input : ℕ) (gs : List Group) → signatures_of (map (asked_for input) gs) ≡ map (λ (g : Group). g.signature) gs
asked-signatures input [] = refl
asked-signatures input (g ∷ gs) = ap (λ l. g.signature ∷ l) (asked-signatures input gs)

asked-claimed : (added : List Numbered) → signatures_of (asked_by_all added) ≡ claimed_by added
asked-claimed [] = refl
asked-claimed (x ∷ xs) =
    map-append (λ (c : List ℕ × ℕ). c.0) (asked_by x) (asked_by_all xs)
    ∙ ap (λ l. l ++ signatures_of (asked_by_all xs)) (asked-signatures x.number x.summary.groups)
    ∙ ap (λ l. signatures_in x.summary ++ l) (asked-claimed xs)

-- so the sections that are left are those that the model leaves
pub left_is : (added : List Numbered) (summary : InputSummary) (s : ℕ) → is_number_in (left_in (signatures_of (claims_after (asked_by_all added))) summary) s ≡ is_left (claimed_by added) summary s
left_is added summary s =
    let claimed : List (List ℕ) = signatures_of (claims_after (asked_by_all added)) in
    let drops : dropped_by claimed summary.groups ≡ dropped_by (claimed_by added) summary.groups = dropped (asked_by_all added) summary.groups ∙ ap (λ c. dropped_by c summary.groups) (asked-claimed added) in
    any-distinct nat_eq nat_eq_equiv s (sections_without (dropped_once claimed summary.groups) summary.pieces)
    ∙ without-any (dropped_once claimed summary.groups) summary.pieces s
    ∙ ap (λ b. list_any (λ (p : PieceInfo). p.section == s) summary.pieces && not b) (any-distinct nat_eq nat_eq_equiv s (dropped_by claimed summary.groups) ∙ ap (λ l. is_number_in l s) drops)

-- what counts with them is what the model counts
module _ (left : List ℕ) (claimed : List (List ℕ)) (summary : InputSummary) (same : (s : ℕ) → is_number_in left s ≡ is_left claimed summary s) where
  pub home-left : (h : Home) → home_in left h ≡ home_left claimed summary h
  home-left (home.Section s) = ap (λ b. cond b (home.Section s) home.Undefined) (same s)
  home-left home.Undefined = refl
  home-left home.Absolute = refl
  home-left home.Common = refl
  home-left home.Shared = refl

  pub symbols-left : (input : ℕ) (k : Kind) (gs : List Global)
      → symbols_in left input k gs ≡ map (λ (g : Global). let c : Contribution = record { input = input; kind = k; global = record g { home = home_left claimed summary g.home } } in c) gs
  symbols-left input k [] = refl
  symbols-left input k (g ∷ gs) =
      λ i. record { input = input; kind = k; global = record g { home = home-left g.home i } } ∷ symbols-left input k gs i

  pub places-left : (input : ℕ) (ps : List PieceInfo) → places_in left input ps ≡ flat_map place_of (map (section_piece input) (filter (λ (p : PieceInfo). is_left claimed summary p.section) ps))
  places-left input [] = refl
  places-left input (p ∷ ps) = by (is_number_in left p.section) (is_left claimed summary p.section) (same p.section) (places-left input ps)
    where
      have : List PieceInfo
      have = filter (λ (q : PieceInfo). is_number_in left q.section) ps

      want : List PieceInfo
      want = filter (λ (q : PieceInfo). is_left claimed summary q.section) ps

      by : (a b : Bool) → a ≡ b → map (place_in input) have ≡ flat_map place_of (map (section_piece input) want)
          → map (place_in input) (cond a (p ∷ have) have) ≡ flat_map place_of (map (section_piece input) (cond b (p ∷ want) want))
      by true true e h = ap (λ l. place_in input p ∷ l) h
      by true false e h = absurd (cc)
      by false true e h = absurd (cc)
      by false false e h = h

  pub loaded-left : (input : ℕ) (ps : List PieceInfo) → loaded_in left ps ≡ loaded_names (map (section_piece input) (filter (λ (p : PieceInfo). is_left claimed summary p.section) ps))
  loaded-left input [] = refl
  loaded-left input (p ∷ ps) = by (is_number_in left p.section) (is_left claimed summary p.section) (same p.section) (loaded-left input ps)
    where
      have : List PieceInfo
      have = filter (λ (q : PieceInfo). is_number_in left q.section && is_alloc q.key.class) ps

      want : List PieceInfo
      want = filter (λ (q : PieceInfo). is_left claimed summary q.section) ps

      load : (d : Bool) → map (λ (q : PieceInfo). q.key.name) have ≡ loaded_names (map (section_piece input) want)
          → map (λ (q : PieceInfo). q.key.name) (cond d (p ∷ have) have) ≡ map (λ k. k.key.name) (cond d (section_piece input p ∷ filter (λ k. is_alloc k.key.class) (map (section_piece input) want)) (filter (λ k. is_alloc k.key.class) (map (section_piece input) want)))
      load true h = ap (λ l. p.key.name ∷ l) h
      load false h = h

      by : (a b : Bool) → a ≡ b → map (λ (q : PieceInfo). q.key.name) have ≡ loaded_names (map (section_piece input) want)
          → map (λ (q : PieceInfo). q.key.name) (cond (a && is_alloc p.key.class) (p ∷ have) have) ≡ loaded_names (map (section_piece input) (cond b (p ∷ want) want))
      by true true e h = load (is_alloc p.key.class) h
      by true false e h = absurd (cc)
      by false true e h = absurd (cc)
      by false false e h = h
