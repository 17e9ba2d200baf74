-- Worked examples: rooms, first fit, fill and the order of sections, with the exact numbers.
use Rattle.std.specs.Prelude.{◌≡◌, ℕ, true, false, [], ◌∷◌, Some, None, codes, replicate, refl}
use Rattle.lk_elf.specs.Fields.{bytes_of}
use Rattle.lk_model.specs.SectionKeys.{named, is_patched, fill_kind, header_type, header_flags}
use Rattle.lk_model.specs.SectionOrder.{section_rank, in_order}
use Rattle.lk_model.specs.Rooms.{room_of, step_to, patched_room}
use Rattle.lk_model.specs.FirstFit.{first_fit}
use Rattle.lk_model.specs.Holes.{fill_bytes}
use Rattle.lk_model.specs.declared.layouts.Class.TheVariants.{R, X, W, WX, Tdata, Tbss, Bss, N}
use Rattle.lk_model.specs.declared.layouts.FillKind.TheVariants as fill
use Rattle.lk_model.specs.declared.layouts.Hole.{Hole}

-- a hole
abbrev hole : ℕ → ℕ → Hole
hole start length = record { start = start; length = length }

-- first fit with at least 16 bytes left
first_fits :
    (first_fit (hole 0x100 0x20 ∷ hole 0x200 0x40 ∷ []) 16 0x18 16 ≡ Some 0x200)
    × (first_fit (hole 0x100 0x20 ∷ hole 0x200 0x40 ∷ []) 16 0x60 16 ≡ None)
    × (first_fit (hole 0x100 0x20 ∷ hole 0x218 0x28 ∷ []) 16 0x60 16 ≡ None)
    × (first_fit (hole 0x100 0x20 ∷ hole 0x200 0x40 ∷ []) 16 0x20 16 ≡ Some 0x100)
    × (first_fit (hole 0x100 0x30 ∷ []) 16 0x10 32 ≡ Some 0x100)
    × (first_fit (hole 0x108 0x40 ∷ []) 16 0x10 16 ≡ Some 0x120)
    × (first_fit (hole 0x104 0x1c ∷ []) 16 0x8 8 ≡ Some 0x118)
    × (first_fit (hole 1 5000 ∷ []) 1 4096 4 ≡ Some 4)
    × (first_fit [] 1 1 1 ≡ None)
unfolding first_fit
first_fits = (refl, refl, refl, refl, refl, refl, refl, refl, refl)

-- rooms with 10 percent more, with none and with 500
rooms :
    (room_of 10 0 ≡ 64)
    × (room_of 10 1 ≡ 64)
    × (room_of 10 59 ≡ 64)
    × (room_of 10 60 ≡ 128)
    × (room_of 10 1000 ≡ 1152)
    × (room_of 0 64 ≡ 64)
    × (room_of 500 100 ≡ 640)
unfolding room_of
rooms = (refl, refl, refl, refl, refl, refl, refl)

-- a hole of 8 bytes in a frame table is left out
steps :
    (step_to 1 5 16 ≡ 16)
    × (step_to 16 32 8 ≡ 32)
    × (step_to 16 40 16 ≡ 64)
    × (step_to 11 5 8 ≡ 16)
    × (step_to 11 0 4 ≡ 0)
unfolding step_to
steps = (refl, refl, refl, refl, refl)

-- the room of a frame table ends in four bytes, and grows where the hole before them would be too small
frame_rooms :
    (patched_room 0 16 4 0 ≡ 64)
    × (patched_room 0 16 4 60 ≡ 64)
    × (patched_room 0 16 4 44 ≡ 64)
    × (patched_room 0 16 4 45 ≡ 128)
    × (patched_room 0 11 0 53 ≡ 64)
    × (patched_room 0 11 0 54 ≡ 128)
unfolding patched_room room_of
frame_rooms = (refl, refl, refl, refl, refl, refl)

-- what fills a hole of 24 bytes in a frame table, of 16 in the debug units, of 3 in code and elsewhere
fills :
    (fill_bytes fill.Frame 24 ≡ 0x14 ∷ 0 ∷ 0 ∷ 0 ∷ 0 ∷ 0 ∷ 0 ∷ 0 ∷ 1 ∷ 0 ∷ 1 ∷ 0x78 ∷ 0x10 ∷ replicate 11 0)
    × (fill_bytes fill.Unit 16 ≡ 0x0c ∷ 0 ∷ 0 ∷ 0 ∷ 4 ∷ 0 ∷ 0 ∷ 0 ∷ 0 ∷ 0 ∷ 8 ∷ replicate 5 0)
    × (fill_bytes fill.Trap 3 ≡ 0xcc ∷ 0xcc ∷ 0xcc ∷ [])
    × (fill_bytes fill.Zero 3 ≡ 0 ∷ 0 ∷ 0 ∷ [])
unfolding fill_bytes bytes_of
fills = (refl, refl, refl, refl)

-- what keys say: patched or not, fill, header type and flags
keys :
    (is_patched (named (codes ".text") X) ≡ true)
    × (is_patched (named (codes ".text") WX) ≡ false)
    × (is_patched (named (codes ".eh_frame") W) ≡ false)
    × (is_patched (named (codes ".comment") N) ≡ true)
    × (is_patched (named (codes ".mine") R) ≡ false)
    × (fill_kind (named (codes ".eh_frame") R) ≡ fill.Frame)
    × (fill_kind (named (codes ".eh_frame") N) ≡ fill.Zero)
    × (fill_kind (named (codes ".debug_info") N) ≡ fill.Unit)
    × (fill_kind (named (codes ".mine") WX) ≡ fill.Trap)
    × (header_type (named (codes ".init_array") W) ≡ 14)
    × (header_type (named (codes ".init_array") R) ≡ 1)
    × (header_type (named (codes ".note.ABI-tag") R) ≡ 7)
    × (header_type (named (codes ".notes") R) ≡ 1)
    × (header_type (named (codes ".mine") Bss) ≡ 8)
    × (header_type (named (codes ".tbss") Tbss) ≡ 8)
    × (header_flags X ≡ 6)
    × (header_flags Tdata ≡ 0x403)
unfolding is_patched fill_kind header_type
keys = (refl, refl, refl, refl, refl, refl, refl, refl, refl, refl, refl, refl, refl, refl, refl, refl, refl)

-- sections of every part in their order; those without a place of their own keep their order
orders :
    in_order
    (named (codes ".debug_info") N
    ∷ named (codes ".bss.x") Bss
    ∷ named (codes ".bss") Bss
    ∷ named (codes ".data") W
    ∷ named (codes ".mine") W
    ∷ named (codes ".code") WX
    ∷ named (codes ".zero") R
    ∷ named (codes ".note.b") R
    ∷ named (codes ".fini") X
    ∷ named (codes ".text") X
    ∷ named (codes ".init") X
    ∷ named (codes ".hot") X
    ∷ named (codes ".got.plt") W
    ∷ named (codes ".got") W
    ∷ named (codes ".plt") X
    ∷ named (codes ".dynamic") W
    ∷ named (codes ".init_array") W
    ∷ named (codes ".tbss") Tbss
    ∷ named (codes ".tdata") Tdata
    ∷ named (codes ".note") R
    ∷ named (codes ".eh_frame") R
    ∷ named (codes ".rodata") R
    ∷ named (codes ".interp") R
    ∷ named (codes ".text") R
    ∷ named (codes ".comment") N
    ∷ [])
    ≡ named (codes ".interp") R
    ∷ named (codes ".note.b") R
    ∷ named (codes ".note") R
    ∷ named (codes ".rodata") R
    ∷ named (codes ".eh_frame") R
    ∷ named (codes ".zero") R
    ∷ named (codes ".text") R
    ∷ named (codes ".init") X
    ∷ named (codes ".plt") X
    ∷ named (codes ".text") X
    ∷ named (codes ".fini") X
    ∷ named (codes ".hot") X
    ∷ named (codes ".tdata") Tdata
    ∷ named (codes ".tbss") Tbss
    ∷ named (codes ".init_array") W
    ∷ named (codes ".mine") W
    ∷ named (codes ".code") WX
    ∷ named (codes ".dynamic") W
    ∷ named (codes ".got") W
    ∷ named (codes ".got.plt") W
    ∷ named (codes ".data") W
    ∷ named (codes ".bss") Bss
    ∷ named (codes ".bss.x") Bss
    ∷ named (codes ".debug_info") N
    ∷ named (codes ".comment") N
    ∷ []
unfolding in_order section_rank
orders = refl
