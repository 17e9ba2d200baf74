-- The checks of an image's program headers row by row (gABI "Program Header"): from one header on, and by
-- the end of the LOADs before it.
use Rattle.std.specs.Prelude.{ℕ, zero, suc, ◌+◌, ◌*◌, ◌==◌, ◌&&◌, Bool, not, nat_lt, List, [], ◌∷◌, ◌++◌, flat_map, Option, Some, None, if◌then◌else◌}
use Rattle.std.specs.List.{enumerate_from}
use Rattle.lk_elf.specs.Numbers.{phdr_size}
use Rattle.lk_elf.specs.Records.{phdr_at}
use Rattle.lk_elf.specs.declared.program_header.Phdr.{Phdr}
use Rattle.lk_model.specs.Checks.{first_fault}
use Rattle.lk_model.specs.Elf.{lies_in}
use Rattle.lk_model.specs.Loading.{headers_in}
use Rattle.lk_model.specs.Loads.{LoadRefusal, header_refusals, numbered_loads, overlap_refusals}
use Rattle.lk_loader.specs.Runs.{is_load}

-- a program header by its number, where the table begins at this place of the file
abbrev pub header_at : List ℕ → ℕ → ℕ → Phdr
header_at image table n = phdr_at image (table + phdr_size * n)

-- the checks of one header
unfoldable pub row_refusals : List ℕ → ℕ → ℕ × Phdr → List (Bool × LoadRefusal)
row_refusals image table row =
    (not (lies_in image (table + phdr_size * row.0) phdr_size), LoadRefusal.BadTable row.0)
    ∷ (not (row.1.p_filesz == 0) && not (lies_in image row.1.p_offset row.1.p_filesz), LoadRefusal.BadTable row.0)
    ∷ []

-- so many headers from number k on, with their numbers
abbrev pub rows_from : List ℕ → ℕ → ℕ → ℕ → List (ℕ × Phdr)
rows_from image table k zero = []
rows_from image table k (suc m) = (k, header_at image table k) ∷ rows_from image table (k + 1) m

-- the first refusal of them
abbrev pub rows_refusal : List ℕ → ℕ → ℕ → ℕ → Option LoadRefusal
rows_refusal image table k m = first_fault (flat_map (row_refusals image table) (rows_from image table k m))

-- where the LOADs up to a header end, those before it ending here
abbrev pub end_with : ℕ → Phdr → ℕ
end_with end h = if is_load h then h.p_vaddr + h.p_memsz else end

-- the number of the first LOAD that begins below the end of those before it; the first header has number
-- n, and the LOADs before it end here
abbrev pub overlap_from : ℕ → ℕ → List Phdr → Option ℕ
overlap_from end n [] = None
overlap_from end n (h ∷ hs) = if is_load h && nat_lt h.p_vaddr end then Some n else overlap_from (end_with end h) (n + 1) hs

-- the first refusal of the headers of an image, which is an executable file
abbrev pub headers_refusal : List ℕ → Option LoadRefusal
headers_refusal image =
    first_fault (flat_map (header_refusals image) (enumerate_from 0 (headers_in image)) ++ overlap_refusals (numbered_loads (headers_in image)))
