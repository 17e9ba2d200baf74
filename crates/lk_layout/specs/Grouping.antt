-- This project's own: kept pieces by the output sections that they go to.
use Rattle.std.specs.Prelude.{◌≡◌, ℕ, cond, List, [], ◌∷◌, ◌++◌, map, Result, Ok, Err}
use Rattle.std.specs.List.{position_or_len}
use Rattle.lk_report.specs.declared.memory.NoMemory.{NoMemory}
use Rattle.lk_model.specs.declared.layouts.SectionKey.{SectionKey}
use Rattle.lk_model.specs.FullPlace.{pieces_in}
use Rattle.lk_model.specs.SectionKeys.{same_key}
use Rattle.lk_model.specs.SectionOrder.{each_once}
use Rattle.lk_model.specs.Views.{KeptPiece}

-- an output section with the pieces that go to it
abbrev pub Group : Type 0
Group = SectionKey × List KeptPiece

-- the output sections, in order of the first piece, each with its pieces in their order; and for each piece,
-- in the order of all, the number of its section
pub record Groups : Type 0 where
  pub sections : List Group
  pub order : List ℕ

-- the output sections of groups
abbrev pub keys_in : List Group → List SectionKey
keys_in groups = map (λ (g : Group). g.0) groups

-- a group with one more piece
abbrev pub with_last : Group → KeptPiece → Group
with_last g piece = (g.0, g.1 ++ piece ∷ [])

-- the groups with one more piece: it goes to the end of its section's, and a section that is new is last
abbrev pub put_piece : List Group → KeptPiece → List Group
put_piece [] piece = (piece.key, piece ∷ []) ∷ []
put_piece (g ∷ gs) piece = cond (same_key piece.key g.0) (with_last g piece ∷ gs) (g ∷ put_piece gs piece)

-- the number that a section has among the groups once it is there
abbrev pub number_in : List Group → SectionKey → ℕ
number_in groups key = position_or_len (same_key key) (keys_in groups)

-- the pieces with one more, after all others
abbrev pub with_piece : Groups → KeptPiece → Groups
with_piece g piece = record { sections = put_piece g.sections piece; order = g.order ++ number_in g.sections piece.key ∷ [] }

-- the output sections that pieces go to, in order of the first
abbrev pub keys_of : List KeptPiece → List SectionKey
keys_of kept = each_once (map (λ (piece : KeptPiece). piece.key) kept)

-- a section with its pieces among all
abbrev pub group_of : List KeptPiece → SectionKey → Group
group_of kept key = (key, pieces_in key kept)

-- pieces by their sections
unfoldable pub groups_of : List KeptPiece → Groups
groups_of kept = record {
  sections = map (group_of kept) (keys_of kept);
  order = map (λ (piece : KeptPiece). position_or_len (same_key piece.key) (keys_of kept)) kept;
}

-- no piece
abbrev pub no_groups : Groups
no_groups = record { sections = []; order = [] }

-- a piece was put into its section's group, whose number is answered
abbrev pub PutsAs : Groups → KeptPiece → Result ℕ NoMemory → Groups → Type 0
PutsAs old piece (Ok number) new = (number ≡ number_in old.sections piece.key) × (new ≡ record old { sections = put_piece old.sections piece })
PutsAs old piece (Err want) new = Unit {0}
