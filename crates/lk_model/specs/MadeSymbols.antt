-- The values of the symbols that the linker makes (this project's own; names as GNU linkers give them).
use Rattle.std.specs.Prelude.{ℕ, ◌+◌, ◌&&◌, not, List, [], ◌∷◌, Option, Some, None, find, drop, if◌then◌else◌, codes, ◌==◌, nat_eq}
use Rattle.std.specs.List.{list_any, starts_with}
use Rattle.std.specs.Str.{bytes_eq}
use Rattle.lk_model.specs.Keys.{row_of}
use Rattle.lk_model.specs.SectionKeys.{class_number, named, same_key}
use Rattle.lk_model.specs.Segments.{second_segment_end, third_segment_end}
use Rattle.lk_model.specs.Views.{Resolved, KeptPiece}
use Rattle.lk_model.specs.declared.layouts.Class.TheVariants.{W, Bss, N}
use Rattle.lk_model.specs.declared.layouts.Placement.{Placement}
use Rattle.lk_model.specs.declared.layouts.SectionRow.{SectionRow}

-- a made symbol with its value
pub record MadeSymbol : Type 0 where
  pub name : List ℕ
  pub value : ℕ

-- the address of a section, 0 without it
abbrev pub start_of : Option SectionRow → ℕ
start_of None = 0
start_of (Some row) = row.addr

-- the end of a section: its address plus its size, 0 without it
abbrev pub end_of : Option SectionRow → ℕ
end_of None = 0
end_of (Some row) = row.addr + row.size

-- the address of `.bss`, else the end of the third segment
abbrev pub bss_start : Placement → ℕ
bss_start place = elim (row_of place (named (codes ".bss") Bss)) [ Some row ↦ row.addr | None ↦ third_segment_end place ]

abbrev pub made : List ℕ → ℕ → MadeSymbol
made name value = record { name = name; value = value }

-- the made symbols of fixed names
abbrev pub fixed_made : Placement → List MadeSymbol
fixed_made place =
    let array : List ℕ → Option SectionRow = λ name. row_of place (named name W) in
    made (codes "_GLOBAL_OFFSET_TABLE_") (start_of (array (codes ".got.plt")))
    ∷ made (codes "_DYNAMIC") (start_of (array (codes ".dynamic")))
    ∷ made (codes "__ehdr_start") 4194304
    ∷ made (codes "__executable_start") 4194304
    ∷ made (codes "__preinit_array_start") (start_of (array (codes ".preinit_array")))
    ∷ made (codes "__preinit_array_end") (end_of (array (codes ".preinit_array")))
    ∷ made (codes "__init_array_start") (start_of (array (codes ".init_array")))
    ∷ made (codes "__init_array_end") (end_of (array (codes ".init_array")))
    ∷ made (codes "__fini_array_start") (start_of (array (codes ".fini_array")))
    ∷ made (codes "__fini_array_end") (end_of (array (codes ".fini_array")))
    ∷ made (codes "etext") (second_segment_end place)
    ∷ made (codes "_etext") (second_segment_end place)
    ∷ made (codes "__etext") (second_segment_end place)
    ∷ made (codes "edata") (bss_start place)
    ∷ made (codes "_edata") (bss_start place)
    ∷ made (codes "__bss_start") (bss_start place)
    ∷ made (codes "end") (third_segment_end place)
    ∷ made (codes "_end") (third_segment_end place)
    ∷ []

-- the first allocated output section of a name that holds a kept piece
abbrev pub row_with_piece : Resolved → Placement → List ℕ → Option SectionRow
row_with_piece r place name =
    find (λ row. bytes_eq row.key.name name && not (class_number row.key.class == class_number N) && list_any (λ (p : KeptPiece). same_key p.key row.key) r.kept) place.sections

-- the value of `__start_X` and `__stop_X`
abbrev pub bound_value : Resolved → Placement → List ℕ → ℕ
bound_value r place name =
    if starts_with nat_eq name (codes "__start_") then start_of (row_with_piece r place (drop 8 name))
    else (if starts_with nat_eq name (codes "__stop_") then end_of (row_with_piece r place (drop 7 name)) else 0)

-- the value of a name that the linker makes
abbrev pub made_value : Resolved → Placement → List ℕ → ℕ
made_value r place name =
    elim (find (λ m. bytes_eq m.name name) (fixed_made place)) [ Some m ↦ m.value | None ↦ bound_value r place name ]
