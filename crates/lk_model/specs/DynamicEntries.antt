-- The entries of a dynamic section (gABI "Dynamic Section"): its first NULL ends them, and those after it
-- do not count.
use Rattle.std.specs.Prelude.{ℕ, ◌+◌, ◌*◌, ◌/◌, Bool, pos, List, map, filter, find, Option, option_map}
use Rattle.std.specs.List.{range_with_len, before_first}
use Rattle.std.specs.Ordering.{int_eq}
use Rattle.lk_elf.specs.Numbers.{dt_null, dyn_size}
use Rattle.lk_elf.specs.Records.{dyn_at}
use Rattle.lk_elf.specs.declared.dynamic_entry.Dyn.{Dyn}

-- an entry with this tag
abbrev pub has_tag : ℕ → Dyn → Bool
has_tag tag entry = int_eq entry.d_tag (pos tag)

-- the whole entries of so many bytes from a place on
abbrev pub whole_entries : List ℕ → ℕ → ℕ → List Dyn
whole_entries bytes at size = map (λ k. dyn_at bytes (at + dyn_size * k)) (range_with_len 0 (size / dyn_size))

-- the entries that count: those before the first NULL, and all where there is none
unfoldable pub counted_entries : List ℕ → ℕ → ℕ → List Dyn
counted_entries bytes at size = before_first (has_tag dt_null) (whole_entries bytes at size)

-- what the entries with a tag say, in order
abbrev pub all_with_tag : ℕ → List Dyn → List ℕ
all_with_tag tag entries = map (λ (entry : Dyn). entry.d_un) (filter (has_tag tag) entries)

-- what the first entry with a tag says
abbrev pub first_with_tag : ℕ → List Dyn → Option ℕ
first_with_tag tag entries = option_map (λ (entry : Dyn). entry.d_un) (find (has_tag tag) entries)
