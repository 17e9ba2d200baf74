-- Worked examples: what stays in an update: records are taken for files that are not read, inputs are found
-- again by their paths, common blocks by their names.
use Rattle.std.specs.Prelude.{◌≡◌, refl, ℕ, negsuc, false, List, [], ◌∷◌, ◌++◌, codes, Some, None, Ok}
use Rattle.lk_elf.specs.Numbers.{shf_alloc, stt_section}
use Rattle.lk_model_examples.proofs.ResolutionInputs.{common, elf_with, local, no_elf, object_in, plain_options, relocation, strong}
use Rattle.lk_model.proofs.SmallLinks.{got_rows, no_slots, placed, row}
use Rattle.lk_model_examples.proofs.UpdateComputed.{recorded_link, link_now, redone_reported, placed_reported, cause_reported, rewritten_reported, view_reported, stored_reported}
use Rattle.lk_model_examples.proofs.UpdateLinks.{part, old, new, stamped, unread, code, caller, callee, third, three, moved}
use Rattle.std.specs.List.{IsDistinct}
use Rattle.lk_model.specs.FullPlace.{extent_of, rows_of}
use Rattle.lk_model.specs.Holes.{holes_of}
use Rattle.lk_model.specs.Lawful.{Lawful}
use Rattle.lk_model.specs.Rooms.{room_of, step_to, patched_room}
use Rattle.lk_model.specs.SectionKeys.{named, is_patched}
use Rattle.lk_model.specs.SectionOrder.{table_sizes, in_order, section_rank}
use Rattle.lk_model.specs.Views.{Input, Resolved, Through}
use Rattle.lk_model.specs.declared.layouts.Placement.{Placement}
use Rattle.lk_model.specs.declared.summaries.PieceInfo.{PieceInfo}
use Rattle.lk_model.specs.declared.layouts.Class.TheVariants.{R, X, W, Bss}
use Rattle.lk_model.specs.declared.layouts.GotOwner.TheVariants as owner
use Rattle.lk_model.specs.declared.layouts.PieceId.TheVariants as piece
use Rattle.lk_model.specs.declared.layouts.PieceRow.{PieceRow}
use Rattle.lk_model.specs.declared.records.Records.{Records}
use Rattle.lk_model.specs.declared.summaries.Global.{Global}

-- ---- read or not

-- the update of three objects whose second grew, where all three are read
abbrev all_read : Resolved
all_read = link_now three (0 ∷ 1 ∷ 2 ∷ []) plain_options (caller 2 (code 32 16 ∷ []) ∷ stamped new (callee (code 48 16 ∷ [])) ∷ third 16 ∷ [])

-- it is what it is where the second alone is read
read_or_not :
    (redone_reported three all_read ≡ 1 ∷ [])
    × (placed_reported three all_read ≡ Ok moved)
    × (rewritten_reported three all_read moved ≡ record { input = 0; section = 1; offset = 5; code = 2; addend = negsuc 3; through = Through.ByName 1 false } ∷ [])
unfolding recorded_link link_now redone_reported placed_reported rewritten_reported
read_or_not = (refl, refl, refl)

-- ---- another order

-- an object whose code goes through the slot of a LOCAL symbol
abbrev slotted : Input
slotted =
    stamped old (object_in 0 (codes "d.o") (code 16 16 ∷ []) (strong 2 (codes "h") 1 ∷ []) [] (elf_with shf_alloc 0 (local 0 0 ∷ local stt_section 1 ∷ []) (relocation 5 1 9 ∷ [])))

abbrev starting : Input
starting = stamped old (object_in 0 (codes "e.o") (code 32 16 ∷ []) (strong 1 (codes "_start") 1 ∷ []) [] no_elf)

abbrev ordered : Records
ordered = recorded_link plain_options (slotted ∷ starting ∷ [])

-- the same objects the other way round: nothing is redone, no piece moves, and the slot stays with the
-- LOCAL symbol, whose input has another number
other_order :
    (redone_reported ordered (link_now ordered [] plain_options (starting ∷ unread slotted ∷ [])) ≡ [])
    × (placed_reported ordered (link_now ordered [] plain_options (starting ∷ unread slotted ∷ []))
    ≡ Ok (record {
      sections = row (codes ".text") X 0x401000 64 64 16 ∷ row (codes ".got") W 0x402000 8 64 16 ∷ row (codes ".got.plt") W 0x402040 24 64 16 ∷ [];
      pieces = placed 0 1 0 0x401010 32 16 ∷ placed 1 1 0 0x401000 16 16 ∷ [];
      slots = record { got = Some (record { owner = owner.Local 1 1; thread = false }) ∷ []; plt = [] };
    }))
    × (cause_reported ordered (link_now ordered [] plain_options (starting ∷ unread slotted ∷ [])) ≡ None)
unfolding recorded_link link_now redone_reported placed_reported cause_reported
other_order = (refl, refl, refl)

-- the object with the slot leaves: its slot is free, and the table keeps its size
slot_freed :
    placed_reported ordered (link_now ordered [] plain_options (starting ∷ []))
    ≡ Ok (record {
      sections = row (codes ".text") X 0x401000 64 64 16 ∷ row (codes ".got") W 0x402000 8 64 16 ∷ row (codes ".got.plt") W 0x402040 24 64 16 ∷ [];
      pieces = placed 0 1 0 0x401010 32 16 ∷ [];
      slots = record { got = None ∷ []; plt = [] };
    })
unfolding recorded_link link_now placed_reported
slot_freed = refl

-- ---- common blocks

-- two objects with code of 16 bytes each, the first with blocks `buffer` of 8 bytes and `count` of 4, the
-- second with what is given
abbrev owner_of_blocks : Input
owner_of_blocks =
    stamped old (object_in 0 (codes "a.o") (code 16 16 ∷ []) (strong 1 (codes "_start") 1 ∷ common 2 (codes "buffer") 8 8 ∷ common 3 (codes "count") 4 4 ∷ []) [] no_elf)

abbrev user : List Global → Input
user globals = object_in 0 (codes "b.o") (code 16 16 ∷ []) (strong 1 (codes "f") 1 ∷ globals) [] no_elf

abbrev blocks : Records
blocks = recorded_link plain_options (owner_of_blocks ∷ stamped old (user []) ∷ [])

-- a placed common block
abbrev block : ℕ → ℕ → ℕ → ℕ → PieceRow
block name addr size align = record { piece = piece.Common name; section = 3; addr = addr; size = size; align = align }

-- `buffer` grows by the second object's symbol and goes behind `count`, which stays; a new block takes the
-- lowest hole; a block that a definition replaces is given up
blocks_move :
    (placed_reported blocks (link_now blocks (1 ∷ []) plain_options (owner_of_blocks ∷ stamped new (user (common 2 (codes "buffer") 24 8 ∷ common 3 (codes "flag") 4 4 ∷ [])) ∷ []))
    ≡ Ok (record {
      sections = row (codes ".text") X 0x401000 64 64 16 ∷ got_rows 0x402000 ++ row (codes ".bss") Bss 0x402080 64 64 16 ∷ [];
      pieces = placed 0 1 0 0x401000 16 16 ∷ placed 1 1 0 0x401010 16 16 ∷ block 1 0x402090 24 8 ∷ block 2 0x402088 4 4 ∷ block 4 0x402080 4 4 ∷ [];
      slots = no_slots;
    }))
    × (placed_reported blocks (link_now blocks (1 ∷ []) plain_options (owner_of_blocks ∷ stamped new (user (strong 2 (codes "buffer") 1 ∷ [])) ∷ []))
    ≡ Ok (record {
      sections = row (codes ".text") X 0x401000 64 64 16 ∷ got_rows 0x402000 ++ row (codes ".bss") Bss 0x402080 64 64 16 ∷ [];
      pieces = placed 0 1 0 0x401000 16 16 ∷ placed 1 1 0 0x401010 16 16 ∷ block 2 0x402088 4 4 ∷ [];
      slots = no_slots;
    }))
unfolding recorded_link link_now placed_reported
blocks_move = (refl, refl)

-- ---- what is left over

-- the second object has read-only data and a part of a sequence section, and then has not
abbrev more : List PieceInfo
more = code 16 16 ∷ part 2 (codes ".rodata") R 8 8 ∷ part 3 (codes ".mine") W 8 8 ∷ []

abbrev larger : Records
larger = recorded_link plain_options (caller 2 (code 32 16 ∷ []) ∷ callee more ∷ [])

abbrev smaller_now : Resolved
smaller_now = link_now larger (1 ∷ []) plain_options (unread (caller 2 (code 32 16 ∷ [])) ∷ stamped new (callee (code 16 16 ∷ [])) ∷ [])

-- the rows stay, that of the sequence with size 0
abbrev smaller : Placement
smaller = record {
  sections =
      row (codes ".rodata") R 0x401000 64 64 16
      ∷ row (codes ".text") X 0x402000 64 64 16
      ∷ row (codes ".mine") W 0x403000 0 64 16
      ∷ got_rows 0x403040;
  pieces = placed 0 1 1 0x402000 32 16 ∷ placed 1 1 1 0x402020 16 16 ∷ [];
  slots = no_slots;
}

-- a view knows nothing of them
left_over :
    (placed_reported larger smaller_now ≡ Ok smaller)
    × (cause_reported larger smaller_now ≡ None)
    × (stored_reported smaller
    ≡ record { key = named (codes ".text") X; pieces = piece.Section 0 1 ∷ piece.Section 1 1 ∷ [] } ∷ [])
    × (stored_reported smaller ≡ (view_reported smaller_now).sections)
unfolding recorded_link link_now placed_reported cause_reported view_reported stored_reported
left_over = (refl, refl, refl, refl)

-- ---- lawful

-- the update in which a function moves gives a lawful placement: a link made anew would have another
moved_is_lawful : Lawful all_read moved
unfolding recorded_link link_now table_sizes in_order section_rank is_patched extent_of rows_of room_of step_to patched_room holes_of IsDistinct
moved_is_lawful =
    record {
      kept = refl;
      slots = refl;
      entries = refl;
      in_section = (refl, (refl, (refl, tt)));
      in_room = (refl, (refl, (refl, tt)));
      aligned = (refl, (refl, (refl, tt)));
      pieces_share_nothing = ((refl, (refl, tt)), ((refl, tt), (tt, tt)));
      fillable = (refl, (refl, (refl, tt)));
      empties = (refl, (refl, (refl, tt)));
      end_is_free = (refl, (refl, (refl, tt)));
      sequences = (refl, (refl, (refl, tt)));
      sizes = (refl, (refl, (refl, tt)));
      tables = (refl, (refl, tt));
      no_other_tables = (refl, (refl, (refl, tt)));
      alignments = (refl, (refl, (refl, tt)));
      addresses_share_nothing = ((refl, (refl, tt)), ((refl, tt), (tt, tt)));
      offsets_share_nothing = ((refl, (refl, tt)), ((refl, tt), (tt, tt)));
      distinct = ((refl, (refl, tt)), ((refl, tt), (tt, tt)));
      ordered = refl;
      places = refl;
    }
