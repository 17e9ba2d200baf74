-- Worked examples: updates of small links, each with the exact placement, cause, or bytes that may be
-- touched. The numbers were found by hand.
use Rattle.std.specs.Prelude.{◌≡◌, refl, ℕ, ◌-◌, ◌^◌, negsuc, false, true, List, [], ◌∷◌, codes, Some, None, Ok}
use Rattle.lk_report.specs.declared.causes.Cause.TheVariants as cause
use Rattle.lk_report.specs.declared.causes.OptionRecord.{OptionRecord}
use Rattle.lk_model_examples.proofs.ResolutionInputs.{member, no_elf, object, object_in, plain_options, shared, strong}
use Rattle.lk_model.proofs.SmallLinks.{placed}
use Rattle.lk_model_examples.proofs.UpdateLinks.{old, new, stamped, marked, unread, part, code, caller, callee, third, three, three_inputs, three_now, moved}
use Rattle.lk_model_examples.proofs.UpdateComputed.{recorded_link, link_now, changed_reported, redone_reported, placed_reported, cause_reported, rewritten_reported, touched_reported, is_touched_reported, update_spans_reported, full_spans_reported, view_reported, stored_reported}
use Rattle.lk_model.specs.Views.{Input, Resolved, Through}
use Rattle.lk_model.specs.declared.commands.Mark.TheVariants as mark
use Rattle.lk_model.specs.declared.layouts.Class.TheVariants.{R, X, W}
use Rattle.lk_model.specs.declared.layouts.Span.{Span}
use Rattle.lk_model.specs.declared.records.Records.{Records}
use Rattle.lk_model.specs.declared.summaries.PieceInfo.{PieceInfo}

-- ---- a function grows and moves

function_moves :
    (changed_reported three (three_inputs (code 48 16 ∷ [])) ≡ 1 ∷ [])
    × (redone_reported three (three_now (code 48 16 ∷ [])) ≡ 1 ∷ [])
    × (placed_reported three (three_now (code 48 16 ∷ [])) ≡ Ok moved)
    × (cause_reported three (three_now (code 48 16 ∷ [])) ≡ None)
unfolding recorded_link link_now changed_reported redone_reported placed_reported cause_reported
function_moves = (refl, refl, refl, refl)

-- the call of the input that is not read is rewritten
call_is_rewritten :
    rewritten_reported three (three_now (code 48 16 ∷ [])) moved
    ≡ record { input = 0; section = 1; offset = 5; code = 2; addend = negsuc 3; through = Through.ByName 1 false } ∷ []
unfolding recorded_link link_now rewritten_reported
call_is_rewritten = refl

-- a range of the file
abbrev span : ℕ → ℕ → Span
span start length = record { start = start; length = length }

-- the moved piece, the two tables, the rewritten field, the hole that was, the two holes that are
moved_touches :
    touched_reported three (three_now (code 48 16 ∷ [])) moved
    ≡ span 0x1040 48 ∷ span 0x2000 64 ∷ span 0x2040 64 ∷ span 0x1005 4 ∷ span 0x1040 64 ∷ span 0x1020 16 ∷ span 0x1070 16 ∷ []
unfolding recorded_link link_now touched_reported
moved_touches = refl

-- no byte of what stays is touched but the field; the headers and the tail are
abbrev touches : ℕ → Type 0
touches k = is_touched_reported three (three_now (code 48 16 ∷ [])) moved k ≡ true

abbrev keeps : ℕ → Type 0
keeps k = is_touched_reported three (three_now (code 48 16 ∷ [])) moved k ≡ false

moved_keeps :
    touches 0 × touches 4095 × keeps 4096 × keeps 0x1004 × touches 0x1005 × touches 0x1008 × keeps 0x1009 × keeps 0x101f
    × touches 0x1020 × touches 0x102f × keeps 0x1030 × keeps 0x103f × touches 0x1040 × touches 0x107f × keeps 0x1080
    × keeps 0x1fff × touches 0x2000 × touches 0x207f × touches 0x2080 × touches 0x100000
unfolding recorded_link link_now is_touched_reported
moved_keeps = (refl, refl, refl, refl, refl, refl, refl, refl, refl, refl, refl, refl, refl, refl, refl, refl, refl, refl, refl, refl)

-- the ranges that are written before the tail, each inside one room; a full link writes every room
moved_writes :
    (update_spans_reported three (three_now (code 48 16 ∷ [])) moved
    ≡ span 0 4088 ∷ span 0x1005 4 ∷ span 0x1020 16 ∷ span 0x1040 64 ∷ span 0x2000 64 ∷ span 0x2040 64 ∷ [])
    × (full_spans_reported moved ≡ span 0 4088 ∷ span 0x1000 128 ∷ span 0x2000 64 ∷ span 0x2040 64 ∷ [])
unfolding recorded_link link_now update_spans_reported full_spans_reported
moved_writes = (refl, refl)

-- its output sections hold what resolution, which knows no places, sends to them
same_view : stored_reported moved ≡ (view_reported (three_now (code 48 16 ∷ []))).sections
unfolding recorded_link link_now view_reported stored_reported
same_view = refl

-- 64 bytes fill the last hole, and 65 fit in none
last_hole :
    (cause_reported three (three_now (code 64 16 ∷ [])) ≡ None)
    × (cause_reported three (three_now (code 65 16 ∷ [])) ≡ Some (cause.NoRoom (codes ".text") 65 16))
unfolding recorded_link link_now cause_reported
last_hole = (refl, refl)

-- an empty piece asks for no hole, whatever its alignment, and is at the section's start
empty_piece :
    placed_reported three (three_now (code 0 8 ∷ []))
    ≡ Ok (record moved { pieces = placed 0 1 0 0x401000 32 16 ∷ placed 1 1 0 0x401000 0 8 ∷ placed 2 1 0 0x401030 16 16 ∷ [] })
unfolding recorded_link link_now placed_reported
empty_piece = refl

-- ---- nothing changed

same_link :
    (changed_reported three (caller 2 (code 32 16 ∷ []) ∷ callee (code 16 16 ∷ []) ∷ third 16 ∷ []) ≡ [])
    × (redone_reported three (link_now three [] plain_options (unread (caller 2 (code 32 16 ∷ [])) ∷ callee (code 16 16 ∷ []) ∷ third 16 ∷ [])) ≡ [])
    × (placed_reported three (link_now three [] plain_options (unread (caller 2 (code 32 16 ∷ [])) ∷ callee (code 16 16 ∷ []) ∷ third 16 ∷ [])) ≡ Ok three.placement)
    × (cause_reported three (link_now three [] plain_options (unread (caller 2 (code 32 16 ∷ [])) ∷ callee (code 16 16 ∷ []) ∷ third 16 ∷ [])) ≡ None)
unfolding recorded_link link_now changed_reported redone_reported placed_reported cause_reported
same_link = (refl, refl, refl, refl)

-- ---- causes

-- a section that is new: the first in the order of the pieces, which is not that of the sections
new_section :
    (cause_reported three (three_now (code 16 16 ∷ part 2 (codes ".rodata") R 8 8 ∷ [])) ≡ Some (cause.NewSection (codes ".rodata")))
    × (cause_reported three (three_now (code 16 64 ∷ part 2 (codes ".mine") W 8 8 ∷ part 3 (codes ".rodata") R 8 8 ∷ [])) ≡ Some (cause.NewSection (codes ".mine")))
unfolding recorded_link link_now cause_reported
new_section = (refl, refl)

-- more alignment than the section has, which is reported before the room
more_align : cause_reported three (three_now (code 200 32 ∷ [])) ≡ Some (cause.MoreAlign (codes ".text") 16 32)
unfolding recorded_link link_now cause_reported
more_align = refl

-- other options are reported before all that
abbrev other_patch : OptionRecord
other_patch = record plain_options { patch = 20 }

options_changed :
    (cause_reported three (link_now three (1 ∷ []) other_patch (three_inputs (code 200 32 ∷ []))) ≡ Some (cause.OptionsChanged plain_options other_patch))
    × (cause_reported three (link_now three (1 ∷ []) plain_options (unread (caller 2 (code 32 16 ∷ [])) ∷ callee (code 16 16 ∷ []) ∷ shared (codes "d.so") [] ∷ []))
    ≡ Some (cause.OptionsChanged plain_options (record plain_options { dynamic = true })))
unfolding recorded_link link_now cause_reported
options_changed = (refl, refl)

-- frames of 32, 8 and 32 bytes; the second leaves, and 8 bytes cannot be filled
abbrev frames : ℕ → List PieceInfo
frames size = part 2 (codes ".eh_frame") R size 8 ∷ []

abbrev framed : Records
framed =
    recorded_link
    plain_options
    (stamped old (object_in 0 (codes "a.o") (code 16 16 ∷ frames 32) (strong 1 (codes "_start") 1 ∷ []) [] no_elf)
    ∷ stamped old (object_in 0 (codes "b.o") (frames 8) [] [] no_elf)
    ∷ stamped old (object_in 0 (codes "c.o") (frames 32) [] [] no_elf)
    ∷ [])

small_hole :
    cause_reported
    framed
    (link_now framed [] plain_options
    (stamped old (object_in 0 (codes "a.o") (code 16 16 ∷ frames 32) (strong 1 (codes "_start") 1 ∷ []) [] no_elf)
    ∷ stamped old (object_in 0 (codes "c.o") (frames 32) [] [] no_elf)
    ∷ []))
    ≡ Some (cause.SmallHole (codes ".eh_frame") 8)
unfolding recorded_link link_now cause_reported
small_hole = refl

-- a value that no longer fits its field of one byte: `f` goes behind 144 bytes of another input
abbrev wide : Records
wide = recorded_link plain_options (caller 15 (code 32 16 ∷ []) ∷ callee (code 16 16 ∷ []) ∷ third 144 ∷ [])

update_overflow :
    cause_reported wide (link_now wide (1 ∷ []) plain_options (unread (caller 15 (code 32 16 ∷ [])) ∷ stamped new (callee (code 32 16 ∷ [])) ∷ third 144 ∷ []))
    ≡ Some (cause.UpdateOverflow 0x401005 0x4010c0 (negsuc 3) 0xb7)
unfolding recorded_link link_now cause_reported
update_overflow = refl

-- ---- sequences

-- each input has 8 bytes of a sequence section, in a room of 64
abbrev listed : ℕ → List PieceInfo
listed size = code 16 16 ∷ part 2 (codes ".mine") W size 8 ∷ []

abbrev sequenced : Records
sequenced = recorded_link plain_options (caller 2 (listed 8) ∷ callee (listed 8) ∷ third 16 ∷ [])

abbrev sequenced_now : List ℕ → ℕ → Resolved
sequenced_now reads size = link_now sequenced reads plain_options (caller 2 (listed 8) ∷ stamped new (callee (listed size)) ∷ third 16 ∷ [])

-- the first is redone with the second, whose part of the sequence changed, though its own stays; the
-- third has no part of it. One byte too many is reported.
sequence_changes :
    (redone_reported sequenced (sequenced_now (1 ∷ []) 56) ≡ 0 ∷ 1 ∷ [])
    × (cause_reported sequenced (sequenced_now (0 ∷ 1 ∷ []) 56) ≡ None)
    × (cause_reported sequenced (sequenced_now (0 ∷ 1 ∷ []) 57) ≡ Some (cause.NoTableRoom (codes ".mine") 65 64))
    × (cause_reported sequenced (sequenced_now (0 ∷ 1 ∷ []) (2 ^ 64 - 1)) ≡ Some (cause.NoTableRoom (codes ".mine") 18446744073709551615 64))
unfolding recorded_link link_now redone_reported cause_reported
sequence_changes = (refl, refl, refl, refl)

-- ---- groups

-- a group of two inputs, which the first one keeps; then the first has none, and the second, whose file
-- did not change, is redone
abbrev grouped : List ℕ → List ℕ → Input
grouped path name =
    stamped old (object_in 0 path (code 16 16 ∷ part 2 (codes ".text.t") X 16 16 ∷ []) (strong 1 name 1 ∷ []) (record { signature = codes "t"; members = 2 ∷ [] } ∷ []) no_elf)

abbrev two_groups : Records
two_groups = recorded_link plain_options (grouped (codes "a.o") (codes "_start") ∷ grouped (codes "b.o") (codes "f") ∷ [])

abbrev ungrouped : List Input
ungrouped = stamped new (object_in 0 (codes "a.o") (code 16 16 ∷ []) (strong 1 (codes "_start") 1 ∷ []) [] no_elf) ∷ grouped (codes "b.o") (codes "f") ∷ []

group_moves :
    (changed_reported two_groups ungrouped ≡ 0 ∷ [])
    × (redone_reported two_groups (link_now two_groups (0 ∷ []) plain_options ungrouped) ≡ 0 ∷ 1 ∷ [])
    × (cause_reported two_groups (link_now two_groups (0 ∷ 1 ∷ []) plain_options ungrouped) ≡ None)
unfolding recorded_link link_now changed_reported redone_reported cause_reported
group_moves = (refl, refl, refl)

-- ---- what counts as changed

abbrev plain : List ℕ → Input
plain path = object path []

abbrev recorded_before : Records
recorded_before =
    recorded_link plain_options (stamped old (plain (codes "a.o")) ∷ stamped old (shared (codes "b.so") []) ∷ plain (codes "c.o") ∷ [])

-- 0: same stamp; 1: a shared object that is a member of a lib group now, though it is marked unchanged;
-- 2: no stamp on either side; 3: no stamp, but marked unchanged; 4: another stamp, but marked unchanged;
-- 5: same stamp, but marked changed; 6: not recorded, though it is marked unchanged; 7: a second occurrence
changed_inputs :
    changed_reported
    recorded_before
    (stamped old (plain (codes "a.o"))
    ∷ marked mark.Unchanged (stamped old (member 1 (codes "b.so") []))
    ∷ plain (codes "c.o")
    ∷ marked mark.Unchanged (plain (codes "c.o"))
    ∷ marked mark.Unchanged (stamped new (plain (codes "a.o")))
    ∷ marked mark.Changed (stamped old (plain (codes "a.o")))
    ∷ marked mark.Unchanged (stamped old (plain (codes "d.o")))
    ∷ record (stamped old (plain (codes "a.o"))) { occurrence = 1 }
    ∷ [])
    ≡ 1 ∷ 2 ∷ 5 ∷ 6 ∷ 7 ∷ []
unfolding recorded_link changed_reported
changed_inputs = refl
