-- This project's own: the kept pieces of a resolution.
use Rattle.std.specs.Prelude.{ℕ, ◌+◌, List, [], ◌∷◌, ◌++◌, map, filter, flat_map, Option, Some, None, slice_get}
use Rattle.std.specs.List.{cons_option}
use Rattle.lk_model.specs.declared.summaries.Contribution.{Contribution}
use Rattle.lk_model.specs.declared.summaries.InputSummary.{InputSummary}
use Rattle.lk_model.specs.declared.summaries.PieceInfo.{PieceInfo}
use Rattle.lk_model.specs.declared.summaries.Winner.{Winner}
use Rattle.lk_model.specs.KeptPieces.{name_piece, section_piece}
use Rattle.lk_model.specs.Views.{KeptPiece}
use Rattle.lk_resolve.specs.declared.section_places.SectionPlace.{SectionPlace}
use Rattle.lk_resolve.specs.Settling.{ResolutionValue, is_place_kept}
use Rattle.lk_symtab.specs.NameRows.{NameRow, row_winner}

-- the pieces of an input whose sections are kept
abbrev pub kept_among : List SectionPlace → ℕ → List PieceInfo → List KeptPiece
kept_among places input pieces = map (section_piece input) (filter (λ (p : PieceInfo). is_place_kept places input p.section) pieces)

-- the pieces of an input; none where no input has the number
abbrev pub pieces_from : Option InputSummary → List PieceInfo
pieces_from None = []
pieces_from (Some summary) = summary.pieces

abbrev pub pieces_at : List InputSummary → ℕ → List PieceInfo
pieces_at summaries input = pieces_from (slice_get summaries input)

-- the kept sections of inputs
abbrev pub sections_in : List SectionPlace → List InputSummary → List ℕ → List KeptPiece
sections_in places summaries added = flat_map (λ input. kept_among places input (pieces_at summaries input)) added

-- the common blocks and copies of names whose numbers go on from a first one, where these are copied
abbrev pub names_in : List ℕ → ℕ → List NameRow → List KeptPiece
names_in copies n [] = []
names_in copies n (row ∷ rows) = cons_option (name_piece copies n row.contributions (row_winner row)) (names_in copies (n + 1) rows)

-- the piece that a name has of its own, by its symbols and the definition that it means
abbrev pub piece_by : List ℕ → ℕ → List Contribution → Winner → Option KeptPiece
piece_by copies name symbols winner = name_piece copies name (record { name = []; list = symbols }) winner

-- the piece of the name with a number among rows, where it has one
abbrev pub piece_in : List ℕ → ℕ → Option NameRow → List KeptPiece
piece_in copies name None = []
piece_in copies name (Some row) = cons_option (name_piece copies name row.contributions (row_winner row)) []

abbrev pub piece_at : List ℕ → List NameRow → ℕ → List KeptPiece
piece_at copies rows name = piece_in copies name (slice_get rows name)

-- all kept pieces
abbrev pub kept_in : ResolutionValue → List InputSummary → List ℕ → List KeptPiece
kept_in resolution summaries copies = sections_in resolution.kept summaries resolution.added ++ names_in copies 0 resolution.rows
