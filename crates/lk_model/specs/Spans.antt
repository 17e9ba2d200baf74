-- This project's own: the ranges of the file that a link writes before its tail: each the longest run of
-- such bytes inside the headers or inside one room. The eight bytes of the seal are in none.
use Rattle.std.specs.Prelude.{ℕ, zero, suc, ◌+◌, ◌==◌, Bool, true, false, if◌then◌else◌, nat_le, List, [], ◌∷◌, flat_map, fold}
use Rattle.std.specs.List.{list_any}
use Rattle.lk_model.specs.Images.{seal_offset}
use Rattle.lk_model.specs.SectionKeys.{in_file}
use Rattle.lk_model.specs.Touched.{is_in_span, room_bytes, touched_spans}
use Rattle.lk_model.specs.Views.{Resolved}
use Rattle.lk_model.specs.declared.layouts.Placement.{Placement}
use Rattle.lk_model.specs.declared.layouts.SectionRow.{SectionRow}
use Rattle.lk_model.specs.declared.layouts.Span.{Span}
use Rattle.lk_model.specs.declared.records.Records.{Records}

-- the headers, up to the seal
abbrev pub head_span : Span
head_span = record { start = 0; length = seal_offset }

-- runs with one more byte before them, which may go on into the first of them
abbrev pub with_byte_before : ℕ → List Span → List Span
with_byte_before at [] = record { start = at; length = 1 } ∷ []
with_byte_before at (s ∷ ss) =
    if s.start == at + 1 then record { start = at; length = s.length + 1 } ∷ ss else record { start = at; length = 1 } ∷ s ∷ ss

-- the longest runs of bytes that pass a test, among so many bytes from a place on
abbrev pub runs_from : (ℕ → Bool) → ℕ → ℕ → List Span
runs_from passes zero at = []
runs_from passes (suc n) at = elim (passes at) [
  | true ↦ with_byte_before at (runs_from passes n (at + 1))
  | false ↦ runs_from passes n (at + 1)
]

-- the longest runs of touched bytes in the room of a section that the file holds
abbrev pub touched_in_room : List Span → SectionRow → List Span
touched_in_room touched row = elim (in_file row.key.class) [
  | true ↦ runs_from (λ k. list_any (is_in_span k) touched) row.room row.offset
  | false ↦ []
]

-- a row put before the first that is after it in the file
abbrev pub put_by_offset : List SectionRow → SectionRow → List SectionRow
put_by_offset [] row = row ∷ []
put_by_offset (x ∷ xs) row = if nat_le x.offset row.offset then x ∷ put_by_offset xs row else row ∷ x ∷ xs

-- the rows by rising place in the file
abbrev pub by_offset : List SectionRow → List SectionRow
by_offset rows = fold put_by_offset [] rows

-- the ranges that a link made anew writes: the headers and every room
unfoldable pub full_spans : Placement → List Span
full_spans place = head_span ∷ flat_map room_bytes (by_offset place.sections)

-- the ranges that an update writes, where these inputs are redone: the headers and what it touches in
-- each room
unfoldable pub update_spans : Records → List ℕ → Resolved → Placement → List Span
update_spans base redone r place =
    let touched = touched_spans base redone r place in
    head_span ∷ flat_map (touched_in_room touched) (by_offset place.sections)
