-- This project's own: what resolution holds while inputs are added, and what it holds once these inputs
-- were added.
use Rattle.std.specs.Prelude.{ℕ, Bool, true, false, ◌||◌, List, [], ◌∷◌, ◌++◌, map, flat_map, fold}
use Rattle.std.specs.Str.{bytes_eq}
use Rattle.lk_comdat.specs.Claims.{signatures_of}
use Rattle.lk_comdat.specs.ClaimLaws.{claims_after, with_claim}
use Rattle.lk_model.specs.declared.summaries.Group.{Group}
use Rattle.lk_model.specs.declared.summaries.Kind.{Kind}
use Rattle.lk_model.specs.declared.summaries.Kind.TheVariants as kind
use Rattle.lk_model.specs.Adding.{numbers_in}
use Rattle.lk_model.specs.Finding.{is_dynamic}
use Rattle.lk_model.specs.KeptPieces.{kept_sections, loaded_names}
use Rattle.lk_model.specs.Numbered.{Numbered, distinct, with_new}
use Rattle.lk_model.specs.Symbols.{contributions_of, symbols_of}
use Rattle.lk_resolve.specs.declared.section_places.SectionPlace.{SectionPlace}
use Rattle.lk_resolve.specs.LeftSections.{is_same_place, left_in, loaded_in, place_of, places_in, symbols_in}
use Rattle.lk_symtab.specs.NameRows.{NameRow}
use Rattle.lk_symtab.specs.SymbolLaws.{plain_row, with_own}

-- the entry name and the inputs' paths; the names with their symbols; the signatures claimed, each with
-- its first claimer; the numbers of the added inputs in adding order; whether one of them is shared; the
-- kept sections, and the names of the loaded output sections that they go to, each once
pub record State : Type 0 where
  pub entry : List ℕ
  pub paths : List (List ℕ)
  pub rows : List NameRow
  pub claims : List (List ℕ × ℕ)
  pub added : List ℕ
  pub dynamic : Bool
  pub kept : List SectionPlace
  pub loaded : List (List ℕ)

-- whether an input is shared
abbrev pub is_shared : Kind → Bool
is_shared k = elim k [ kind.Object ↦ false | kind.Shared ↦ true ]

-- the signature of a group, asked for by an input
abbrev pub asked_for : ℕ → Group → List ℕ × ℕ
asked_for input g = (g.signature, input)

-- the signatures that an input asks for, and those that inputs ask for, in adding order
abbrev pub asked_by : Numbered → List (List ℕ × ℕ)
asked_by x = map (asked_for x.number) x.summary.groups

abbrev pub asked_by_all : List Numbered → List (List ℕ × ℕ)
asked_by_all added = flat_map asked_by added

-- the state once an input was added, of which these sections are left, but for its claims
abbrev pub with_left : State → List ℕ → Numbered → State
with_left s left x = record {
  entry = s.entry;
  paths = s.paths;
  rows = fold with_own s.rows (symbols_in left x.number x.summary.kind x.summary.globals);
  claims = s.claims;
  added = s.added ++ x.number ∷ [];
  dynamic = s.dynamic || is_shared x.summary.kind;
  kept = fold (with_new is_same_place) s.kept (places_in left x.number x.summary.pieces);
  loaded = fold (with_new bytes_eq) s.loaded (loaded_in left x.summary.pieces);
}

-- the state once an input asked for its signatures
abbrev pub with_claims_of : State → Numbered → State
with_claims_of s x = record s { claims = fold with_claim s.claims (asked_by x) }

-- the state after one more input
unfoldable pub with_input : State → Numbered → State
with_input s x = with_left (with_claims_of s x) (left_in (signatures_of s.claims) x.summary) x

-- the state once these inputs were added
unfoldable pub state_of : List ℕ → List (List ℕ) → List Numbered → State
state_of entry paths added =
    let sections = kept_sections added in
    record {
      entry = entry;
      paths = paths;
      rows = map plain_row (contributions_of (symbols_of added));
      claims = claims_after (asked_by_all added);
      added = numbers_in added;
      dynamic = is_dynamic added;
      kept = distinct is_same_place (flat_map place_of sections);
      loaded = distinct bytes_eq (loaded_names sections);
    }
