-- What is resolved of a list of added inputs is what they decide.
use Rattle.std.proofs.Common.{◌≡◌, refl, sym, ap, ◌∙◌, subst, arith, ℕ, ◌==◌, ◌<◌, ◌≤◌, nat_lt, Bool, true, false, ◌&&◌, ◌||◌, List, [], ◌∷◌, ◌++◌, flat_map, length, Some, Result, Ok, Err}
use Rattle.std.specs.Cmp.{IsEquivalence, nat_eq_equiv}
use Rattle.std.specs.List.{list_any}
use Rattle.std.specs.Str.{bytes_eq}
use borrow.Author.Tests.{ltb-false, ltb-true}
use Rattle.std.proofs.Math.ListN.{length-map}
use Rattle.lk_report.specs.declared.faults.Fault.{Fault}
use Rattle.lk_model.specs.declared.layouts.PieceId.{PieceId}
use Rattle.lk_model.specs.declared.layouts.PieceId.TheVariants as piece
use Rattle.lk_model.specs.Finding.{Found, found_of, is_dynamic, names_of}
use Rattle.lk_model.specs.KeptPieces.{is_section_piece, kept_sections, loaded_names}
use Rattle.lk_model.specs.Numbered.{Numbered, distinct}
use Rattle.lk_model.specs.ResolveFaults.{faults_of}
use Rattle.lk_model.specs.Views.{KeptPiece}
use Rattle.lk_resolve.specs.declared.section_places.SectionPlace.{SectionPlace}
use Rattle.lk_resolve.specs.declared.settle_faults.SettleFault.{SettleFault}
use Rattle.lk_resolve.specs.declared.settle_faults.SettleFault.TheVariants as fault
use Rattle.lk_resolve.specs.LeftSections.{is_same_place, place_of}
use Rattle.lk_resolve.specs.RowFaults.{faults_in}
use Rattle.lk_resolve.specs.Settling.{IsFound, ResolutionValue, SettleGives, SettlesTo, most_names, names_limit, resolved, resolution_of, rows_with_made}
use Rattle.lk_resolve.specs.States.{State, state_of}
use Rattle.lk_resolve.proofs.FaultsOfRows.{faults_are}
use Rattle.lk_resolve.proofs.ListSets.{any-distinct}
use Rattle.lk_resolve.proofs.RowsMade.{symbols_stay, visibilities_stay, winners_are}
use Rattle.lk_symtab.specs.SymbolLaws.{plain_row}

-- places are the same or not
both : (a b : Bool) → (a && b) ≡ true → (a ≡ true) × (b ≡ true)
both true b e = (refl, e)
both false b e = absurd (cc)

same_place : IsEquivalence is_same_place
same_place = record {
  refl = λ x i. nat_eq_equiv.refl x.input i && nat_eq_equiv.refl x.section i;
  symm = λ x y i. nat_eq_equiv.symm x.input y.input i && nat_eq_equiv.symm x.section y.section i;
  congr = λ x y z e.
      let parts = both (x.input == y.input) (x.section == y.section) e in
      λ i. nat_eq_equiv.congr x.input y.input z.input parts.0 i && nat_eq_equiv.congr x.section y.section z.section parts.1 i;
}

-- a section is among the kept places where a kept piece is that section
places_at : PieceId → List SectionPlace
places_at p = elim p [ piece.Section i s ↦ record { input = i; section = s } ∷ [] | piece.Common name ↦ [] | piece.Copy name ↦ [] ]

is_at : ℕ → ℕ → PieceId → Bool
is_at input section p = elim p [ piece.Section i s ↦ (i == input) && (s == section) | piece.Common name ↦ false | piece.Copy name ↦ false ]

one_place : (input section : ℕ) (p : PieceId) (rest : List SectionPlace) (later : Bool) → list_any (is_same_place (record { input = input; section = section })) rest ≡ later
    → list_any (is_same_place (record { input = input; section = section })) (places_at p ++ rest) ≡ (is_at input section p || later)
unfolding places_at is_at
one_place input section (piece.Section i s) rest later h = λ j. (nat_eq_equiv.symm input i j && nat_eq_equiv.symm section s j) || h j
one_place input section (piece.Common name) rest later h = h
one_place input section (piece.Copy name) rest later h = h

place_any : (kept : List KeptPiece) (input section : ℕ) → list_any (is_same_place (record { input = input; section = section })) (flat_map place_of kept) ≡ list_any (is_section_piece input section) kept
unfolding places_at is_at
place_any [] input section = refl
place_any (k ∷ ks) input section = one_place input section k.piece (flat_map place_of ks) (list_any (is_section_piece input section) ks) (place_any ks input section)

-- what is resolved is what is found
is_found : (entry : List ℕ) (paths : List (List ℕ)) (added : List Numbered) → IsFound (resolution_of (state_of entry paths added)) (found_of paths entry added)
unfolding state_of found_of
is_found entry paths added = record {
  paths = refl;
  added = refl;
  dynamic = refl;
  names = symbols_stay (is_dynamic added) (distinct bytes_eq (loaded_names (kept_sections added))) (names_of added);
  winners = winners_are (is_dynamic added) (loaded_names (kept_sections added)) (names_of added);
  visibilities = visibilities_stay (is_dynamic added) (distinct bytes_eq (loaded_names (kept_sections added))) (names_of added);
  kept = λ input section. any-distinct is_same_place same_place (record { input = input; section = section }) (flat_map place_of (kept_sections added)) ∙ place_any (kept_sections added) input section;
}

count_is : (entry : List ℕ) (paths : List (List ℕ)) (added : List Numbered) → length (state_of entry paths added).rows ≡ length (found_of paths entry added).names
unfolding state_of found_of
count_is entry paths added = length-map (names_of added) plain_row

rows_faults : (entry : List ℕ) (paths : List (List ℕ)) (added : List Numbered) → faults_in (state_of entry paths added).paths (state_of entry paths added).entry (rows_with_made (state_of entry paths added)) ≡ faults_of (found_of paths entry added)
unfolding state_of found_of
rows_faults entry paths added =
    let found : IsFound (resolution_of (state_of entry paths added)) (found_of paths entry added) = is_found entry paths added in
    faults_are (found_of paths entry added) (rows_with_made (state_of entry paths added)) (sym found.names) (sym found.winners)

gives : (s : State) (found : Found) (r : Result ResolutionValue SettleFault) → length s.rows ≡ length found.names → faults_in s.paths s.entry (rows_with_made s) ≡ faults_of found → IsFound (resolution_of s) found → SettlesTo s r → SettleGives found r
gives s found (Ok resolution) count same is h =
    (subst (λ n. n ≤ most_names) count h.0, sym same ∙ h.1, subst (λ (t : ResolutionValue). IsFound t found) (sym h.2) is)
gives s found (Err (fault.Faults faults)) count same is h =
    (subst (λ n. n ≤ most_names) count h.0, h.1 ∙ same, h.2)
gives s found (Err (fault.Limit l)) count same is h =
    (subst (λ n. most_names < n) count h.0, h.1 ∙ ap names_limit count)
gives s found (Err fault.NoMemory) count same is h = tt

some_same : (s t : State) → Some s ≡ Some t → s ≡ t
some_same s t e = cc

pub state_settles : (s : State) (r : Result ResolutionValue SettleFault) (entry : List ℕ) (paths : List (List ℕ)) (added : List Numbered) → SettlesTo s r → Some s ≡ Some (state_of entry paths added) → SettleGives (found_of paths entry added) r
state_settles s r entry paths added h e =
    gives (state_of entry paths added) (found_of paths entry added) r (count_is entry paths added) (rows_faults entry paths added) (is_found entry paths added)
    (subst (λ (t : State). SettlesTo t r) (some_same s (state_of entry paths added) e) h)

-- what the steps of settling amount to
pub settles_faults : (s now : State) (n : ℕ) (faults : List Fault) → n ≡ length s.rows → n ≤ most_names → now ≡ record s { rows = rows_with_made s } → faults ≡ faults_in now.paths now.entry now.rows → true ≡ nat_lt 0 (length faults) → SettlesTo s (Err (fault.Faults faults))
settles_faults s now n faults count few made is some =
    (subst (λ m. m ≤ most_names) count few, is ∙ ap (λ (t : State). faults_in t.paths t.entry t.rows) made, ltb-true 0 (length faults) (sym some))

no_fault : (faults : List Fault) → false ≡ nat_lt 0 (length faults) → faults ≡ []
no_fault [] h = refl
no_fault (f ∷ fs) h =
    let none : length (f ∷ fs) ≤ 0 = ltb-false 0 (length (f ∷ fs)) (sym h) in
    absurd (omega arith)

pub settles_ok : (s now : State) (n : ℕ) (faults : List Fault) (resolution : ResolutionValue) → n ≡ length s.rows → n ≤ most_names → now ≡ record s { rows = rows_with_made s } → faults ≡ faults_in now.paths now.entry now.rows → false ≡ nat_lt 0 (length faults) → resolution ≡ resolved now → SettlesTo s (Ok resolution)
settles_ok s now n faults resolution count few made is none same =
    (subst (λ m. m ≤ most_names) count few, sym (is ∙ ap (λ (t : State). faults_in t.paths t.entry t.rows) made) ∙ no_fault faults none, same ∙ ap resolved made)
