-- The header of a section in a file and among the headers that were read.
use Rattle.std.specs.Prelude.{◌≡◌, refl, ℕ, zero, suc}
use Rattle.lk_model.specs.Elf.{section_at}
use Rattle.lk_model.specs.Views.{Elf}
use Rattle.lk_obj_parts.specs.ElfViews.{header_at}

pub section_reported : (elf : Elf) (n : ℕ) → section_at elf n ≡ header_at elf.sections n
section_reported elf zero = refl
section_reported elf (suc n) = refl
