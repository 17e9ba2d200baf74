-- Worked examples: what the five sections are refused for, each at its place, and what they are not.
use Rattle.std.specs.Prelude.{◌≡◌, ℕ, ◌+◌, ◌-◌, ◌*◌, ◌^◌, true, List, [], ◌∷◌, ◌++◌, length, map, take, drop, Result, Ok, Err, is_ok, codes, refl}
use Rattle.lk_elf.specs.Fields.{bytes_of}
use Rattle.lk_model_examples.proofs.RecordCases.{larger_records, larger_five}
use Rattle.lk_model_examples.proofs.RecordsComputed.{read_of, spelled_of}
use Rattle.lk_model.specs.declared.layouts.PieceId.{PieceId}
use Rattle.lk_model.specs.declared.layouts.PieceId.TheVariants as id
use Rattle.lk_model.specs.declared.layouts.PieceRow.{PieceRow}
use Rattle.lk_model.specs.declared.records.Five.{Five}
use Rattle.lk_model.specs.declared.records.RecordFault.{RecordFault}
use Rattle.lk_model.specs.declared.records.RecordFault.TheVariants.{Bad, Version}
use Rattle.lk_model.specs.declared.records.Records.{Records}

-- bytes with others at a place
abbrev with_bytes : ℕ → List ℕ → List ℕ → List ℕ
with_bytes at new bytes = take at bytes ++ new ++ drop (at + length new) bytes

-- the sections of the larger link with other bytes in one of them
abbrev in_inputs : ℕ → List ℕ → Five
in_inputs at new = record larger_five { inputs = with_bytes at new larger_five.inputs }

abbrev in_names : ℕ → List ℕ → Five
in_names at new = record larger_five { symtab = with_bytes at new larger_five.symtab }

abbrev in_references : ℕ → List ℕ → Five
in_references at new = record larger_five { relocs = with_bytes at new larger_five.relocs }

abbrev in_slots : ℕ → List ℕ → Five
in_slots at new = record larger_five { got_plt = with_bytes at new larger_five.got_plt }

-- its common twice
abbrev twice_made : Five
twice_made = record larger_five { got_plt = with_bytes 8 (bytes_of 4 2) larger_five.got_plt ++ drop 68 larger_five.got_plt }

-- its second output section as the thread-local zeros, over the third's addresses
abbrev thread_zeros : Five
thread_zeros = record larger_five {
  inputs = with_bytes 80 (bytes_of 4 109 ++ bytes_of 4 5 ++ bytes_of 8 0x402040) larger_five.inputs;
  strtab = larger_five.strtab ++ codes ".tbss" ++ 0 ∷ [];
}

-- its second output section as a frame table of this room, with its first piece in it, at this offset
-- and of this size; without references
abbrev frame_table : ℕ → ℕ → ℕ → Five
frame_table room offset size = record larger_five {
  inputs =
      with_bytes 80 (bytes_of 4 109 ++ bytes_of 4 0) (with_bytes 104 (bytes_of 8 0 ++ bytes_of 8 room)
      (with_bytes 284 (bytes_of 4 1 ++ bytes_of 8 (0x402000 + offset) ++ bytes_of 8 size) larger_five.inputs));
  symtab = with_bytes 36 (bytes_of 4 0) (with_bytes 52 (bytes_of 4 0) (with_bytes 68 (bytes_of 4 0) larger_five.symtab));
  relocs = [];
  strtab = larger_five.strtab ++ codes ".eh_frame" ++ 0 ∷ [];
}

-- the answer that names this place
abbrev bad : ℕ → ℕ → Result Records RecordFault
bad section offset = Err (Bad section offset)

-- another version is reported before any bad place; three bytes have no version
versions :
    (read_of (in_inputs 0 (bytes_of 4 9)) ≡ Err (Version 9))
    × (read_of (record larger_five { inputs = bytes_of 4 9; relocs = 1 ∷ [] }) ≡ Err (Version 9))
    × (read_of (record larger_five { inputs = 9 ∷ 0 ∷ 0 ∷ [] }) ≡ bad 0 0)
    × (read_of (record larger_five { inputs = bytes_of 4 1 }) ≡ bad 0 0)
unfolding read_of bytes_of
versions = (refl, refl, refl, refl)

-- the head: an unknown flag, so many inputs or output sections that they do not fit, a text past
-- the end of the texts, one that begins inside another
heads :
    (read_of (in_inputs 4 (bytes_of 4 4)) ≡ bad 0 0)
    × (read_of (in_inputs 24 (bytes_of 4 0xffffffff)) ≡ bad 0 0)
    × (read_of (in_inputs 24 (bytes_of 4 5)) ≡ bad 0 0)
    × (read_of (in_inputs 28 (bytes_of 4 0xffffffff)) ≡ bad 0 0)
    × (read_of (in_inputs 8 (bytes_of 4 109)) ≡ bad 0 0)
    × (read_of (in_inputs 8 (bytes_of 4 2)) ≡ bad 0 0)
unfolding read_of bytes_of
heads = (refl, refl, refl, refl, refl, refl)

-- an output section with the key of an earlier one, and one of a class that there is not
keys :
    (read_of (in_inputs 80 (bytes_of 4 19 ++ bytes_of 4 1)) ≡ bad 0 80)
    × (read_of (in_inputs 84 (bytes_of 4 8)) ≡ bad 0 80)
unfolding read_of bytes_of
keys = (refl, refl)

-- rooms that share an address, or a byte of the file: the later row; thread-local zeros may be
-- over other addresses, and zeros have no place in the file
shared_rooms :
    (read_of (in_inputs 88 (bytes_of 8 0x40103f)) ≡ bad 0 80)
    × (read_of (in_inputs 144 (bytes_of 8 0x203f)) ≡ bad 0 128)
    × (is_ok (read_of (in_inputs 192 (bytes_of 8 0x2000))) ≡ true)
    × (is_ok (read_of (thread_zeros)) ≡ true)
unfolding read_of bytes_of
shared_rooms = (refl, refl, refl, refl)

-- a size above its room; rooms that end past the last number in addresses or in the file, or
-- begin before the first place in the file
rooms :
    (read_of (in_inputs 56 (bytes_of 8 65)) ≡ bad 0 32)
    × (read_of (in_inputs 184 (bytes_of 8 ((2 ^ 64) - 64))) ≡ bad 0 176)
    × (read_of (in_inputs 184 (bytes_of 8 ((2 ^ 64) - 65))) ≡ bad 3 68)
    × (read_of (in_inputs 144 (bytes_of 8 ((2 ^ 64) - 64))) ≡ bad 0 128)
    × (read_of (in_inputs 48 (bytes_of 8 4095)) ≡ bad 0 32)
    × (is_ok (read_of (in_inputs 48 (bytes_of 8 4096))) ≡ true)
    × (is_ok (read_of (in_inputs 192 (bytes_of 8 ((2 ^ 64) - 1)))) ≡ true)
unfolding read_of bytes_of
rooms = (refl, refl, refl, refl, refl, refl, refl)

-- alignments that are no powers of two: of an output section, a piece, a common; 2^63 is one
alignments :
    (read_of (in_inputs 72 (bytes_of 8 0)) ≡ bad 0 32)
    × (read_of (in_inputs 72 (bytes_of 8 48)) ≡ bad 0 32)
    × (is_ok (read_of (in_inputs 72 (bytes_of 8 (2 ^ 63)))) ≡ true)
    × (read_of (in_inputs 304 (bytes_of 8 3)) ≡ bad 0 280)
    × (read_of (in_inputs 416 (bytes_of 8 0)) ≡ bad 0 400)
    × (read_of (in_slots 92 (bytes_of 8 12)) ≡ bad 3 68)
unfolding read_of bytes_of
alignments = (refl, refl, refl, refl, refl, refl)

-- a frame table whose room is below its last four bytes; a piece in those bytes
frames :
    (read_of (frame_table 3 0 0) ≡ bad 0 80)
    × (read_of (frame_table 64 61 0) ≡ bad 0 280)
    × (is_ok (read_of (frame_table 64 60 0)) ≡ true)
    × (is_ok (read_of (frame_table 64 44 16)) ≡ true)
    × (read_of (frame_table 64 45 16) ≡ bad 0 280)
unfolding read_of bytes_of
frames = (refl, refl, refl, refl, refl)

-- a piece that does not lie in its room, or shares a byte with an earlier one: the later record,
-- also where it was added before
places :
    (read_of (in_inputs 288 (bytes_of 8 0x401031)) ≡ bad 0 280)
    × (read_of (in_inputs 288 (bytes_of 8 0x400fff)) ≡ bad 0 280)
    × (read_of (in_inputs 732 (bytes_of 8 0x40101b)) ≡ bad 0 724)
    × (read_of (in_inputs 596 (bytes_of 8 0x401018)) ≡ bad 0 724)
    × (read_of (in_slots 76 (bytes_of 8 0x4020bd)) ≡ bad 3 68)
    × (read_of (twice_made) ≡ bad 3 100)
unfolding read_of bytes_of
places = (refl, refl, refl, refl, refl, refl)

-- a piece of an output section that there is not, with an unknown flag, or lost with an address
pieces :
    (read_of (in_inputs 284 (bytes_of 4 4)) ≡ bad 0 280)
    × (read_of (in_inputs 316 (bytes_of 4 5)) ≡ bad 0 280)
    × (read_of (in_inputs 772 (bytes_of 8 1)) ≡ bad 0 764)
    × (read_of (in_inputs 800 (bytes_of 4 (256 * 8))) ≡ bad 0 764)
unfolding read_of bytes_of
pieces = (refl, refl, refl, refl)

-- an input of a kind that there is not, a member outside a lib group, a time without a stamp, a
-- symbol that is LOCAL, one of a home that there is not, one that is nowhere with a section
inputs :
    (read_of (in_inputs 232 (bytes_of 4 5)) ≡ bad 0 224)
    × (read_of (in_inputs 544 (bytes_of 4 0)) ≡ bad 0 532)
    × (read_of (in_inputs 564 (bytes_of 8 1)) ≡ bad 0 532)
    × (read_of (in_inputs 364 (bytes_of 4 0)) ≡ bad 0 360)
    × (read_of (in_inputs 368 (bytes_of 4 5)) ≡ bad 0 360)
    × (read_of (in_inputs 452 (bytes_of 4 1)) ≡ bad 0 440)
unfolding read_of bytes_of
inputs = (refl, refl, refl, refl, refl, refl)

-- counts that do not fit: of pieces, of symbols, of members; before an earlier bad row of what
-- they count
counts :
    (read_of (in_inputs 264 (bytes_of 4 0xffffffff)) ≡ bad 0 224)
    × (read_of (record larger_five { inputs = with_bytes 940 (bytes_of 4 2) (with_bytes 956 (bytes_of 4 0) larger_five.inputs) }) ≡ bad 0 896)
    × (read_of (in_inputs 524 (bytes_of 4 0x10000000)) ≡ bad 0 520)
    × (read_of (record larger_five { inputs = with_bytes 24 (bytes_of 4 5) (with_bytes 72 (bytes_of 8 0) larger_five.inputs) }) ≡ bad 0 0)
    × (read_of (record larger_five { inputs = with_bytes 524 (bytes_of 4 0x10000000) (with_bytes 72 (bytes_of 8 0) larger_five.inputs) }) ≡ bad 0 32)
unfolding read_of bytes_of
counts = (refl, refl, refl, refl, refl)

-- bytes left over: the first of them
left_over :
    (read_of (record larger_five { inputs = larger_five.inputs ++ 1 ∷ 2 ∷ [] }) ≡ bad 0 992)
    × (read_of (record larger_five { symtab = larger_five.symtab ++ 1 ∷ 2 ∷ [] }) ≡ bad 1 80)
    × (read_of (record larger_five { symtab = take 79 larger_five.symtab }) ≡ bad 1 64)
    × (read_of (record larger_five { relocs = larger_five.relocs ++ 0 ∷ [] }) ≡ bad 2 160)
    × (read_of (record larger_five { got_plt = larger_five.got_plt ++ 0 ∷ [] }) ≡ bad 3 100)
    × (read_of (record larger_five { strtab = larger_five.strtab ++ 120 ∷ 121 ∷ [] }) ≡ bad 4 109)
unfolding read_of bytes_of
left_over = (refl, refl, refl, refl, refl, refl)

-- a name with a winner that there is not, a first reference past the last, a winner without its
-- input, an input past the last, or one where there is none
names :
    (read_of (in_names 8 (bytes_of 4 6)) ≡ bad 1 0)
    × (read_of (in_names 4 (bytes_of 4 5)) ≡ bad 1 0)
    × (is_ok (read_of (in_names 4 (bytes_of 4 4))) ≡ true)
    × (read_of (in_names 12 (bytes_of 4 0)) ≡ bad 1 0)
    × (read_of (in_names 12 (bytes_of 4 5)) ≡ bad 1 0)
    × (read_of (in_names 28 (bytes_of 4 1)) ≡ bad 1 16)
unfolding read_of bytes_of
names = (refl, refl, refl, refl, refl, refl)

-- a reference of an input that there is not, of a type that is not linked, whose field ends
-- outside the piece, lies in a lost piece, or shares a byte with an earlier one; of a name that
-- its input does not have; with a next one past the last, or with a weak flag of 2; another next
-- one is read
references :
    (read_of (in_references 0 (bytes_of 4 4)) ≡ bad 2 0)
    × (read_of (in_references 16 (bytes_of 4 3)) ≡ bad 2 0)
    × (read_of (in_references 88 (bytes_of 8 13)) ≡ bad 2 80)
    × (read_of (in_references 124 (bytes_of 4 2)) ≡ bad 2 120)
    × (read_of (in_references 48 (bytes_of 8 4)) ≡ bad 2 40)
    × (read_of (in_references 140 (bytes_of 4 4)) ≡ bad 2 120)
    × (read_of (in_references 20 (bytes_of 4 5)) ≡ bad 2 0)
    × (read_of (in_references 32 (bytes_of 4 5)) ≡ bad 2 0)
    × (is_ok (read_of (in_references 32 (bytes_of 4 4))) ≡ true)
    × (read_of (in_references 36 (bytes_of 4 2)) ≡ bad 2 0)
unfolding read_of bytes_of
references = (refl, refl, refl, refl, refl, refl, refl, refl, refl, refl)

-- a field of no width lies anywhere up to the end of its piece
empty_fields :
    (is_ok (read_of (in_references 88 (bytes_of 8 16 ++ bytes_of 4 0))) ≡ true)
    × (read_of (in_references 88 (bytes_of 8 17 ++ bytes_of 4 0)) ≡ bad 2 80)
unfolding read_of bytes_of
empty_fields = (refl, refl)

-- more slots than there are bytes; a last word; a slot of a kind that there is not, a free one
-- with a number, one of a name or an input past the last; an entry past the last name; a copy of
-- a kind or name that there is not
slots :
    (read_of (in_slots 0 (bytes_of 4 0xffffffff)) ≡ bad 3 0)
    × (read_of (in_slots 8 (bytes_of 4 2)) ≡ bad 3 0)
    × (read_of (in_slots 12 (bytes_of 4 1)) ≡ bad 3 0)
    × (read_of (in_slots 16 (bytes_of 4 3)) ≡ bad 3 16)
    × (read_of (in_slots 40 (bytes_of 4 1)) ≡ bad 3 32)
    × (read_of (in_slots 24 (bytes_of 4 5)) ≡ bad 3 16)
    × (read_of (in_slots 52 (bytes_of 4 4)) ≡ bad 3 48)
    × (read_of (in_slots 64 (bytes_of 4 5)) ≡ bad 3 64)
    × (read_of (in_slots 68 (bytes_of 4 3)) ≡ bad 3 68)
    × (read_of (in_slots 72 (bytes_of 4 5)) ≡ bad 3 68)
unfolding read_of bytes_of
slots = (refl, refl, refl, refl, refl, refl, refl, refl, refl, refl)

-- a text that is twice: the second; the empty one too; an unused text is read
texts :
    (read_of (record larger_five { strtab = larger_five.strtab ++ codes "c" ++ 0 ∷ [] }) ≡ bad 4 109)
    × (read_of (record larger_five { strtab = larger_five.strtab ++ 0 ∷ [] }) ≡ bad 4 109)
    × (read_of (record larger_five { strtab = larger_five.strtab ++ codes "unused" ++ 0 ∷ [] }) ≡ Ok larger_records)
unfolding read_of bytes_of
texts = (refl, refl, refl)

-- of two faults the one in the earlier section, then at the earlier place
two_faults :
    (read_of (record larger_five { inputs = with_bytes 772 (bytes_of 8 1) larger_five.inputs; symtab = [] }) ≡ bad 0 764)
    × (read_of (record larger_five { inputs = with_bytes 772 (bytes_of 8 1) (with_bytes 304 (bytes_of 8 3) larger_five.inputs) }) ≡ bad 0 280)
    × (read_of (record larger_five { symtab = 1 ∷ []; relocs = 1 ∷ [] }) ≡ bad 1 0)
unfolding read_of bytes_of
two_faults = (refl, refl, refl)

-- a placed piece with the section number of another piece of its input: the later record
one_section : read_of (in_inputs 320 (bytes_of 4 1)) ≡ bad 0 320
unfolding read_of bytes_of
one_section = refl

-- two counts that do not fit: that of the head, which counts more inputs than there can be, comes first
two_counts : read_of (record larger_five { inputs = with_bytes 264 (bytes_of 4 0xffffffff) (with_bytes 24 (bytes_of 4 0xffffffff) larger_five.inputs) }) ≡ bad 0 0
unfolding read_of bytes_of
two_counts = refl

-- what is not looked at: a copy of a name that has a common's winner
others : is_ok (read_of (in_slots 68 (bytes_of 4 2))) ≡ true
unfolding read_of bytes_of
others = refl

-- the pieces of placed records, by input and section
abbrev pieces_of : Result Records RecordFault → List PieceId
pieces_of (Err fault) = []
pieces_of (Ok r) = map (λ (row : PieceRow). row.piece) r.placement.pieces

-- what is read again from the sections that spell what was read
abbrev read_again : Result Records RecordFault → Result Records RecordFault
read_again (Err fault) = Err fault
read_again (Ok r) = read_of (spelled_of r)

-- placed pieces are in adding order as the rule has it, whatever the records say of the members; with
-- no undefined GLOBAL symbol that wants them, the members' pieces follow in order of their inputs
placing :
    (pieces_of (read_of larger_five) ≡ id.Section 0 1 ∷ id.Section 0 2 ∷ id.Section 2 1 ∷ id.Section 1 1 ∷ id.Common 1 ∷ [])
    × (pieces_of (read_of (in_inputs 540 (bytes_of 4 3))) ≡ id.Section 0 1 ∷ id.Section 0 2 ∷ id.Section 2 1 ∷ id.Section 1 1 ∷ id.Common 1 ∷ [])
    × (pieces_of (read_of (in_inputs 444 (bytes_of 4 2))) ≡ id.Section 0 1 ∷ id.Section 0 2 ∷ id.Section 1 1 ∷ id.Section 2 1 ∷ id.Common 1 ∷ [])
    × (read_again (read_of (in_inputs 540 (bytes_of 4 3))) ≡ read_of (in_inputs 540 (bytes_of 4 3)))
    × (read_again (read_of (in_inputs 444 (bytes_of 4 2))) ≡ read_of (in_inputs 444 (bytes_of 4 2)))
unfolding read_of spelled_of bytes_of
placing = (refl, refl, refl, refl, refl)
