-- Which sections of an input a link keeps (gABI "Section Groups"), as a list of numbers: those of its
-- pieces that no group drops, each once; and what of the input counts with them.
use Rattle.std.specs.Prelude.{ℕ, nat_eq, ◌==◌, Bool, ◌&&◌, not, cond, List, [], ◌∷◌, map, filter}
use Rattle.lk_model.specs.declared.layouts.PieceId.TheVariants as piece
use Rattle.lk_model.specs.declared.summaries.Contribution.{Contribution}
use Rattle.lk_model.specs.declared.summaries.Global.{Global}
use Rattle.lk_model.specs.declared.summaries.Group.{Group}
use Rattle.lk_model.specs.declared.summaries.Home.{Home}
use Rattle.lk_model.specs.declared.summaries.Home.TheVariants as home
use Rattle.lk_model.specs.declared.summaries.InputSummary.{InputSummary}
use Rattle.lk_model.specs.declared.summaries.Kind.{Kind}
use Rattle.lk_model.specs.declared.summaries.PieceInfo.{PieceInfo}
use Rattle.lk_model.specs.Groups.{dropped_by}
use Rattle.lk_model.specs.Numbered.{distinct, is_number_in}
use Rattle.lk_model.specs.Views.{KeptPiece}
use Rattle.lk_resolve.specs.declared.section_places.SectionPlace.{SectionPlace}
use Rattle.lk_model.specs.SectionKeys.{is_alloc}

-- the sections that groups drop, each once, after these signatures were claimed
abbrev pub dropped_once : List (List ℕ) → List Group → List ℕ
dropped_once claimed groups = distinct nat_eq (dropped_by claimed groups)

-- the sections of pieces that are not among the dropped ones
abbrev pub sections_without : List ℕ → List PieceInfo → List ℕ
sections_without dropped pieces = map (λ (p : PieceInfo). p.section) (filter (λ (p : PieceInfo). not (is_number_in dropped p.section)) pieces)

-- the sections of an input that are left in the link after these signatures were claimed, each once
abbrev pub left_in : List (List ℕ) → InputSummary → List ℕ
left_in claimed summary = distinct nat_eq (sections_without (dropped_once claimed summary.groups) summary.pieces)

-- where a symbol counts as defined, where these sections of its input are left
abbrev pub home_in : List ℕ → Home → Home
home_in left (home.Section s) = cond (is_number_in left s) (home.Section s) home.Undefined
home_in left home.Undefined = home.Undefined
home_in left home.Absolute = home.Absolute
home_in left home.Common = home.Common
home_in left home.Shared = home.Shared

-- a symbol of an input where these sections of it are left, and all its symbols
abbrev pub symbol_in : List ℕ → ℕ → Kind → Global → Contribution
symbol_in left input kind g = record { input = input; kind = kind; global = record g { home = home_in left g.home } }

abbrev pub symbols_in : List ℕ → ℕ → Kind → List Global → List Contribution
symbols_in left input kind globals = map (symbol_in left input kind) globals

-- a section of an input
abbrev pub place_in : ℕ → PieceInfo → SectionPlace
place_in input p = record { input = input; section = p.section }

-- the places of the pieces that are left
abbrev pub places_in : List ℕ → ℕ → List PieceInfo → List SectionPlace
places_in left input pieces = map (place_in input) (filter (λ (p : PieceInfo). is_number_in left p.section) pieces)

-- the names of the loaded output sections that the pieces that are left go to
abbrev pub loaded_in : List ℕ → List PieceInfo → List (List ℕ)
loaded_in left pieces = map (λ (p : PieceInfo). p.key.name) (filter (λ (p : PieceInfo). is_number_in left p.section && is_alloc p.key.class) pieces)

-- whether two places are one section of one input
abbrev pub is_same_place : SectionPlace → SectionPlace → Bool
is_same_place a b = (a.input == b.input) && (a.section == b.section)

-- where a kept piece is, which is nowhere for a common block or a copy
abbrev pub place_of : KeptPiece → List SectionPlace
place_of k = elim k.piece [ piece.Section i s ↦ record { input = i; section = s } ∷ [] | piece.Common name ↦ [] | piece.Copy name ↦ [] ]
