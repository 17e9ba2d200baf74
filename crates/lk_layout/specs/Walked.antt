-- This project's own: where the pieces of one output section are in it, before its room is known.
use Rattle.std.specs.Prelude.{ℕ, ◌+◌, Bool, true, if◌then◌else◌, List, [], ◌∷◌, ◌++◌}
use Rattle.lk_model.specs.declared.layouts.SectionKey.{SectionKey}
use Rattle.lk_model.specs.FullPlace.{align_of, offset_in_sequence}
use Rattle.lk_model.specs.Rooms.{before_in_sequence, patched_end, patched_next, patched_offset, sequence_end, sequence_of, sequence_offset}
use Rattle.lk_model.specs.SectionKeys.{is_numbered_array, is_patched, least_of}
use Rattle.lk_model.specs.Views.{KeptPiece}
use Rattle.lk_layout.specs.Grouping.{Group}

-- the offsets of a section's pieces in their order, where they end, the section's alignment, and whether its
-- pieces may be anywhere in it
pub record Walked : Type 0 where
  pub offsets : List ℕ
  pub end : ℕ
  pub align : ℕ
  pub patched : Bool

-- the offset of a piece of a section: `all` are the section's pieces, `earlier` those before it. Where it is
-- a terminator its place is decided by the room
abbrev pub offset_after : SectionKey → List KeptPiece → List KeptPiece → KeptPiece → ℕ
offset_after key all earlier piece =
    if is_patched key then patched_offset (least_of key) (patched_end (least_of key) earlier) piece else offset_in_sequence key all earlier piece

-- the offsets of the pieces that follow earlier ones
abbrev pub offsets_after : SectionKey → List KeptPiece → List KeptPiece → List KeptPiece → List ℕ
offsets_after key all earlier [] = []
offsets_after key all earlier (p ∷ ps) = offset_after key all earlier p ∷ offsets_after key all (earlier ++ p ∷ []) ps

-- where the pieces of a section end
abbrev pub end_of : SectionKey → List KeptPiece → ℕ
end_of key pieces = if is_patched key then patched_end (least_of key) pieces else sequence_end (sequence_of (is_numbered_array key) pieces)

-- the walk of a section's pieces
unfoldable pub walked : Group → Walked
walked g = record {
  offsets = offsets_after g.0 g.1 [] g.1;
  end = end_of g.0 g.1;
  align = align_of g.1;
  patched = is_patched g.0;
}

-- the offsets of pieces of a patched section, where those before them end at the cursor
abbrev pub patched_offsets : ℕ → ℕ → List KeptPiece → List ℕ
patched_offsets least cursor [] = []
patched_offsets least cursor (p ∷ ps) = patched_offset least cursor p ∷ patched_offsets least (patched_next least cursor p) ps

-- the cursor after a piece of a sequence
abbrev pub sequence_next : ℕ → KeptPiece → ℕ
sequence_next cursor piece = sequence_offset cursor piece + piece.size

-- the offsets of pieces of a sequence, where those before them end at the cursor
abbrev pub sequence_offsets : ℕ → List KeptPiece → List ℕ
sequence_offsets cursor [] = []
sequence_offsets cursor (p ∷ ps) = sequence_offset cursor p ∷ sequence_offsets (sequence_next cursor p) ps

-- the offsets of pieces of an array of functions, in their order
abbrev pub array_offsets : List KeptPiece → List KeptPiece → List KeptPiece → List ℕ
array_offsets all earlier [] = []
array_offsets all earlier (p ∷ ps) = sequence_offset (sequence_end (before_in_sequence true all earlier p)) p ∷ array_offsets all (earlier ++ p ∷ []) ps
