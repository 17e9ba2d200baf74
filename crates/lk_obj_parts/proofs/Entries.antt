-- The entries of a section of relocations, as the file's definitions have them and by their number.
use Rattle.std.specs.Prelude.{◌≡◌, refl, ℕ, zero, suc, ◌+◌, List, ◌∷◌, map}
use Rattle.std.specs.List.{enumerate_from, range_with_len}
use Rattle.std.proofs.Common.{ap, ◌∙◌}
use Rattle.lk_elf.specs.declared.relocation.Rela.{Rela}
use Rattle.lk_elf.specs.declared.section_header.Shdr.{Shdr}
use Rattle.lk_model.specs.Objects.{relas_under}
use Rattle.lk_model.specs.Views.{Elf}
use Rattle.lk_obj_parts.specs.RelocationEntries.{entries_from, entry_at, entry_count}

pub entries_reported : (elf : Elf) (bytes : List ℕ) (header : Shdr) → elf.bytes ≡ bytes → relas_under elf header ≡ map (entry_at bytes header) (range_with_len 0 (entry_count bytes header))
unfolding relas_under
entries_reported elf bytes header e = ap (λ b. map (entry_at b header) (range_with_len 0 (entry_count b header))) e

numbered : (bytes : List ℕ) (header : Shdr) (k m : ℕ) → enumerate_from k (map (entry_at bytes header) (range_with_len k m)) ≡ entries_from bytes header k m
numbered bytes header k zero = refl
numbered bytes header k (suc m) = ap (λ (rest : List (ℕ × Rela)). (k, entry_at bytes header k) ∷ rest) (numbered bytes header (k + 1) m)

pub entries_numbered : (elf : Elf) (header : Shdr) → enumerate_from 0 (relas_under elf header) ≡ entries_from elf.bytes header 0 (entry_count elf.bytes header)
entries_numbered elf header =
    ap (enumerate_from 0) (entries_reported elf elf.bytes header refl) ∙ numbered elf.bytes header 0 (entry_count elf.bytes header)
