-- Where pieces are placed (this project's own), by the bytes of output sections that they take. The bytes of all
-- output sections are on one line: each section has 2^66 numbers of its own.
use Rattle.std.specs.Prelude.{◌≡◌, ℕ, ◌+◌, ◌*◌, Bool, true, false, List, [], ◌∷◌, ◌++◌, nat_le, Result, Ok, Err, ⊤}
use Rattle.lk_model.specs.Lawful.{pieces_apart}
use Rattle.lk_model.specs.RecordRefusals.{is_good_place}
use Rattle.lk_model.specs.declared.layouts.PieceRow.{PieceRow}
use Rattle.lk_model.specs.declared.layouts.SectionRow.{SectionRow}
use Rattle.lk_report.specs.declared.memory.NoMemory.{NoMemory}
use Rattle.lk_records_read.specs.TakenRanges.{AreNoted, TakeAnswers}

-- how many numbers an output section has
abbrev pub stride : ℕ
stride = 73786976294838206464

-- the number of the byte at an address of an output section
abbrev pub line_at : ℕ → ℕ → ℕ
line_at section addr = section * stride + addr

abbrev pub place_start : PieceRow → ℕ
place_start piece = line_at piece.section piece.addr

abbrev pub piece_size : PieceRow → ℕ
piece_size piece = piece.size

-- whether a piece ends before the numbers of its section do, as all do whose fields have eight bytes
abbrev pub ends_in_line : PieceRow → Bool
ends_in_line piece = nat_le (piece.addr + piece.size) stride

-- the bytes of these pieces are taken
abbrev pub ArePlacesNoted : List (ℕ × ℕ) → List PieceRow → Type 0
ArePlacesNoted places before = AreNoted ends_in_line place_start piece_size pieces_apart places before

-- so many bytes of an output section are taken
abbrev pub PlaceTaken : List (ℕ × ℕ) → ℕ → ℕ → ℕ → Result Bool NoMemory → List (ℕ × ℕ) → Type 0
PlaceTaken old section addr size result new = (nat_le (addr + size) stride ≡ true) × TakeAnswers old (line_at section addr) size result new

-- whether a piece may be placed beside these, and is noted then
abbrev pub PlaceNoted : List SectionRow → List PieceRow → PieceRow → Result Bool NoMemory → List (ℕ × ℕ) → Type 0
PlaceNoted rows before piece (Ok true) new = (is_good_place rows before piece ≡ true) × ArePlacesNoted new (before ++ piece ∷ [])
PlaceNoted rows before piece (Ok false) new = is_good_place rows before piece ≡ false
PlaceNoted rows before piece (Err e) new = ⊤
