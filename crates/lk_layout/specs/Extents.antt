-- This project's own: how many bytes the output sections of groups take, and where the sections are.
use Rattle.std.specs.Prelude.{ℕ, if◌then◌else◌, List, [], ◌++◌, map, find, Option, Some, None}
use Rattle.std.specs.Option.{option_map_or}
use Rattle.lk_model.specs.declared.layouts.SectionKey.{SectionKey}
use Rattle.lk_model.specs.FullPlace.{Extent, extent_with, size_among, table_extent}
use Rattle.lk_model.specs.Rooms.{patched_room, room_of}
use Rattle.lk_model.specs.SectionKeys.{least_of, reserved_of, same_key}
use Rattle.lk_model.specs.SectionOrder.{in_order}
use Rattle.lk_model.specs.Views.{KeptPiece}
use Rattle.lk_layout.specs.Grouping.{Group, keys_in}
use Rattle.lk_layout.specs.Walked.{Walked}

-- the extent of a section whose pieces were walked
abbrev pub extent_from : ℕ → SectionKey → Walked → Extent
extent_from patch key w =
    let room = patched_room patch (least_of key) (reserved_of key) w.end in
    if w.patched then (record { key = key; size = room; room = room; align = w.align }) else (record { key = key; size = w.end; room = room_of patch w.end; align = w.align })

-- the extent of a section, which is a table of this size or else has walked pieces
abbrev pub extent_reported : ℕ → Option ℕ → SectionKey → Walked → Extent
extent_reported patch (Some size) key w = table_extent patch key size
extent_reported patch None key w = extent_from patch key w

-- the pieces of a section among groups; none where it has no group
abbrev pub pieces_under : List Group → SectionKey → List KeptPiece
pieces_under groups key = option_map_or (λ (g : Group). g.1) (find (λ (g : Group). same_key key g.0) groups) []

-- the output sections that exist, in their order
abbrev pub ordered_keys : List (SectionKey × ℕ) → List Group → List SectionKey
ordered_keys sizes groups = in_order (keys_in groups ++ map (λ (table : SectionKey × ℕ). table.0) sizes)

-- how many bytes a section takes
abbrev pub extent_under : ℕ → List (SectionKey × ℕ) → List Group → SectionKey → Extent
extent_under patch sizes groups key = extent_with (size_among sizes key) patch key (pieces_under groups key)
