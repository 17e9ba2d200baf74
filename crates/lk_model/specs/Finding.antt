-- This project's own: what the added inputs alone decide: names and their winners, and the sections
-- that are kept.
use Rattle.std.specs.Prelude.{ℕ, Bool, true, false, List, map, Option, slice_get, position, get_or, []}
use Rattle.std.specs.List.{list_any}
use Rattle.std.specs.Str.{bytes_eq}
use Rattle.lk_model.specs.declared.summaries.Contributions.{Contributions}
use Rattle.lk_model.specs.declared.summaries.Kind.TheVariants as kind
use Rattle.lk_model.specs.declared.summaries.Winner.{Winner}
use Rattle.lk_model.specs.Adding.{numbers_in}
use Rattle.lk_model.specs.KeptPieces.{is_section_piece, kept_sections, loaded_names}
use Rattle.lk_model.specs.MadeNames.{is_made}
use Rattle.lk_model.specs.Numbered.{Numbered}
use Rattle.lk_model.specs.Symbols.{contributions_of, symbols_of}
use Rattle.lk_model.specs.Views.{KeptPiece}
use Rattle.lk_model.specs.Winners.{visibility_of, winner_of}

-- the paths of the inputs by number and the entry name; the numbers of the added inputs in adding
-- order; whether one of them is shared; each name with its symbols, winner and visibility, in order of
-- names; the kept sections in adding order
pub record Found : Type 0 where
  pub paths : List (List ℕ)
  pub entry : List ℕ
  pub added : List ℕ
  pub dynamic : Bool
  pub names : List Contributions
  pub winners : List Winner
  pub visibilities : List ℕ
  pub sections : List KeptPiece

-- whether a link of these added inputs is dynamic: one of them is shared
abbrev pub is_dynamic : List Numbered → Bool
is_dynamic added = list_any (λ (x : Numbered). elim x.summary.kind [ kind.Object ↦ false | kind.Shared ↦ true ]) added

-- each name of the added inputs with its symbols, in order of names
abbrev pub names_of : List Numbered → List Contributions
names_of added = contributions_of (symbols_of added)

-- the winner of each name, where the link is dynamic or not and kept sections go to loaded output
-- sections of these names
abbrev pub winners_of : Bool → List (List ℕ) → List Contributions → List Winner
winners_of dynamic sections names = map (λ (cs : Contributions). winner_of cs (is_made dynamic sections cs) (visibility_of cs)) names

-- what the added inputs decide
unfoldable pub found_of : List (List ℕ) → List ℕ → List Numbered → Found
found_of paths entry added =
    let dynamic = is_dynamic added in
    let names = names_of added in
    let sections = kept_sections added in
    record {
      paths = paths;
      entry = entry;
      added = numbers_in added;
      dynamic = dynamic;
      names = names;
      winners = winners_of dynamic (loaded_names sections) names;
      visibilities = map visibility_of names;
      sections = sections;
    }

-- the number of a name
abbrev pub number_among : List Contributions → List ℕ → Option ℕ
number_among names name = position (λ (cs : Contributions). bytes_eq cs.name name) names

-- a name with its symbols, and its winner, by its number
abbrev pub contributions_in : Found → ℕ → Option Contributions
contributions_in found name = slice_get found.names name

abbrev pub winner_in : Found → ℕ → Option Winner
winner_in found name = slice_get found.winners name

-- whether a section of an input is kept
abbrev pub is_kept_in : Found → ℕ → ℕ → Bool
is_kept_in found input section = list_any (is_section_piece input section) found.sections

-- the path of an input
abbrev pub path_in : Found → ℕ → List ℕ
path_in found input = get_or found.paths input []
