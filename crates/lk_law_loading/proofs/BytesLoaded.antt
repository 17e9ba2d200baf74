-- What a loader puts at an address that a segment maps: the byte of the file that is as far from its
-- start as the address from the load base, or 0 behind what the file holds.
use Rattle.std.specs.Prelude.{◌≡◌, ℕ, Bool, true, false, List, Some, ◌+◌, ◌-◌, ◌<◌, ◌≤◌, find, nat_lt, option_map, slice_index, refl}
use Rattle.std.proofs.Common.{ap, arith, ◌∙◌}
use Rattle.std.proofs.lemmas.Bool.{lt-ltb}
use Rattle.std.proofs.lemmas.Bool.Decides.{nat_tests}
use Rattle.lk_elf.specs.Numbers.{pf_r, pf_x}
use Rattle.lk_elf.specs.declared.program_header.Phdr.{Phdr}
use Rattle.lk_model.specs.FullPlace.{first_address, load_base}
use Rattle.lk_model.specs.Links.{third_rights}
use Rattle.lk_model.specs.Loading.{LoadedByte, byte_under, headers_in, is_mapped_by, loaded, loaded_by}
use Rattle.lk_model.specs.SectionOrder.{Second, Third}
use Rattle.lk_model.specs.Segments.{first_load, first_segment_end, stored_end, load_header, memory_end, program_headers, second_segment_start, segment_rows, third_flags, third_load, third_segment_start}
use Rattle.lk_model.specs.declared.layouts.Placement.{Placement}
use Rattle.lk_model.specs.declared.layouts.SectionRow.{SectionRow}
use Rattle.lk_law_loading.proofs.HeadersFound.{first_found, second_above, second_found, second_header, third_above, third_found}
use Rattle.lk_law_loading.proofs.RowsOfPlace.{Stored, Zeroed}

-- a byte with its rights
abbrev pub byte_with : ℕ → ℕ → LoadedByte
byte_with byte rights = record { byte = byte; rights = rights }

-- ---- under a header

stored_byte :
    (image : List ℕ) (a flags start stored end : ℕ)
    → load_base ≤ start
    → start ≤ a
    → a < stored
    → byte_under image a (load_header flags start stored end) ≡ byte_with (slice_index image (a - load_base)) flags
stored_byte image a flags start stored end base from below =
    let inside : nat_lt (a - start) (stored - start) ≡ true = lt-ltb (a - start) (stored - start) (omega (arith, from, below)) in
    let place : start - load_base + (a - start) ≡ a - load_base = omega (arith, base, from) in
    rw inside (ap (λ n. byte_with (slice_index image n) flags) place)

zero_byte : (image : List ℕ) (a flags start stored end : ℕ) → stored ≤ a → byte_under image a (load_header flags start stored end) ≡ byte_with 0 flags
zero_byte image a flags start stored end above =
    let behind : nat_lt (a - start) (stored - start) ≡ false = grind (arith, nat_tests) in
    rw behind refl

-- what is loaded, by the header that is found
loaded_under :
    (image : List ℕ) (place : Placement) (exec_stack : Bool) (a : ℕ) (h : Phdr) (b : LoadedByte)
    → headers_in image ≡ program_headers place exec_stack
    → find (is_mapped_by a) (program_headers place exec_stack) ≡ Some h
    → byte_under image a h ≡ b
    → loaded image a ≡ Some b
unfolding loaded
loaded_under image place exec_stack a h b back found byte =
    ap (λ hs. loaded_by image hs a) back ∙ (ap (option_map (byte_under image a)) found ∙ ap Some byte)

-- ---- in a segment

-- where segments begin is not below the load base
base_first : (place : Placement) → first_address ≤ first_segment_end place
base_first place = omega arith

pub first_loaded :
    (image : List ℕ) (place : Placement) (exec_stack : Bool) (row : SectionRow) (a : ℕ)
    → headers_in image ≡ program_headers place exec_stack
    → Stored load_base (first_segment_end place) (first_segment_end place) row
    → row.addr ≤ a
    → a < row.addr + row.room
    → loaded image a ≡ Some (byte_with (slice_index image (a - load_base)) 4)
first_loaded image place exec_stack row a back h from below =
    let start = h.from in
    let end = h.in_file in
    loaded_under image place exec_stack a (first_load place) (byte_with (slice_index image (a - load_base)) 4) back
    (first_found a place exec_stack (omega (arith, start, from)) (omega (arith, end, below)))
    (stored_byte image a pf_r load_base (first_segment_end place) (first_segment_end place) (omega arith) (omega (arith, start, from)) (omega (arith, end, below)))

pub second_loaded :
    (image : List ℕ) (place : Placement) (exec_stack : Bool) (row : SectionRow) (a : ℕ)
    → headers_in image ≡ program_headers place exec_stack
    → Stored (second_segment_start place) (stored_end (segment_rows Second place)) (memory_end (segment_rows Second place)) row
    → row.addr ≤ a
    → a < row.addr + row.room
    → loaded image a ≡ Some (byte_with (slice_index image (a - load_base)) 5)
second_loaded image place exec_stack row a back h from below =
    let start = h.from in
    let stored = h.in_file in
    let end = h.in_memory in
    let base = base_first place in
    let up = second_above place in
    loaded_under image place exec_stack a (second_header place) (byte_with (slice_index image (a - load_base)) 5) back
    (second_found a place exec_stack (omega (arith, start, from)) (omega (arith, end, below)))
    (stored_byte image a (pf_r + pf_x) (second_segment_start place) (stored_end (segment_rows Second place)) (memory_end (segment_rows Second place))
    (omega (arith, base, up)) (omega (arith, start, from)) (omega (arith, stored, below)))

-- the third segment's header
third_base : (place : Placement) → load_base ≤ third_segment_start place
third_base place =
    let base = base_first place in
    let second = second_above place in
    let third = third_above place in
    let up = third.0 in
    omega (arith, base, second, up)

pub third_loaded :
    (image : List ℕ) (place : Placement) (exec_stack : Bool) (row : SectionRow) (a : ℕ)
    → headers_in image ≡ program_headers place exec_stack
    → Stored (third_segment_start place) (stored_end (segment_rows Third place)) (memory_end (segment_rows Third place)) row
    → row.addr ≤ a
    → a < row.addr + row.room
    → loaded image a ≡ Some (byte_with (slice_index image (a - load_base)) (third_rights place))
third_loaded image place exec_stack row a back h from below =
    let start = h.from in
    let stored = h.in_file in
    let end = h.in_memory in
    loaded_under image place exec_stack a (third_load place) (byte_with (slice_index image (a - load_base)) (third_rights place)) back
    (third_found a place exec_stack (omega (arith, start, from)) (omega (arith, end, below)))
    (stored_byte image a (third_flags place) (third_segment_start place) (stored_end (segment_rows Third place)) (memory_end (segment_rows Third place))
    (third_base place) (omega (arith, start, from)) (omega (arith, stored, below)))

-- zeros behind what the file holds of it
pub zeros_loaded :
    (image : List ℕ) (place : Placement) (exec_stack : Bool) (row : SectionRow) (a : ℕ)
    → headers_in image ≡ program_headers place exec_stack
    → Zeroed (third_segment_start place) (stored_end (segment_rows Third place)) (memory_end (segment_rows Third place)) row
    → row.addr ≤ a
    → a < row.addr + row.room
    → loaded image a ≡ Some (byte_with 0 (third_rights place))
zeros_loaded image place exec_stack row a back z from below =
    let start = z.from in
    let behind = z.behind in
    let end = z.in_memory in
    loaded_under image place exec_stack a (third_load place) (byte_with 0 (third_rights place)) back
    (third_found a place exec_stack (omega (arith, start, from)) (omega (arith, end, below)))
    (zero_byte image a (third_flags place) (third_segment_start place) (stored_end (segment_rows Third place)) (memory_end (segment_rows Third place)) (omega (arith, behind, from)))
