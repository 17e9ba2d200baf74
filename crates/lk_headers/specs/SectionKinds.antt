-- The `sh_type` of sections by their key (gABI "Sections", "Special Sections").
use Rattle.std.specs.Prelude.{ℕ, List, [], ◌∷◌, codes, find, option_map, unwrap_or}
use Rattle.lk_elf.specs.Numbers.{sht_dynamic, sht_dynsym, sht_hash, sht_progbits, sht_rela, sht_strtab}
use Rattle.lk_model.specs.SectionKeys.{named, same_key}
use Rattle.lk_model.specs.declared.layouts.Class.TheVariants.{R, W}
use Rattle.lk_model.specs.declared.layouts.SectionKey.{SectionKey}

-- the type of a section among these, PROGBITS for any other
abbrev pub type_among : List (SectionKey × ℕ) → SectionKey → ℕ
type_among keys key =
    unwrap_or (option_map (λ (row : SectionKey × ℕ). row.1) (find (λ (row : SectionKey × ℕ). same_key key row.0) keys)) sht_progbits

-- the tables of a dynamic link
unfoldable pub table_types : List (SectionKey × ℕ)
table_types =
    (named (codes ".hash") R, sht_hash)
    ∷ (named (codes ".dynsym") R, sht_dynsym)
    ∷ (named (codes ".dynstr") R, sht_strtab)
    ∷ (named (codes ".rela.dyn") R, sht_rela)
    ∷ (named (codes ".rela.plt") R, sht_rela)
    ∷ (named (codes ".dynamic") W, sht_dynamic)
    ∷ []
