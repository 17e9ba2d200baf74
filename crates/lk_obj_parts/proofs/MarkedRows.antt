-- The sections of relocations that are to be marked have the same first overlap as all those on a target: where each
-- target has at most one, no two fields of a section whose fields rise overlap.
use Rattle.std.specs.Prelude.{◌≡◌, refl, ℕ, ◌+◌, ◌==◌, ◌<◌, Bool, true, false, not, ◌&&◌, cond, nat_le, List, [], ◌∷◌, drop, filter, None}
use Rattle.std.specs.List.{enumerate_from}
use Rattle.std.proofs.Common.{sym, ◌∙◌, ap, subst, arith}
use Rattle.std.proofs.lemmas.Bool.{eqb-true}
use Rattle.lk_elf.specs.Numbers.{sht_rela}
use Rattle.lk_elf.specs.declared.section_header.Shdr.{Shdr}
use Rattle.lk_model.specs.ObjectChecks.{overlap_checks_after}
use Rattle.lk_model.specs.Objects.{is_piece_in}
use Rattle.lk_model.specs.Views.{Elf}
use Rattle.lk_obj_parts.specs.FieldMarks.{RowsFit}
use Rattle.lk_obj_parts.specs.RisingFields.{fields_rise, targets_rise}
use Rattle.lk_obj_parts.specs.TargetRows.{is_marked_row, is_row_on, marked_rows, marked_rows_on, piece_rows, rows_on}
use Rattle.lk_obj_parts.proofs.RisingFields.{either, is_on, none_before, on_none, on_other, overlap_of, row_apart, with-relocations, without}
use Rattle.lk_obj_parts.proofs.RowsGathered.{and-right, filter-same, rows_reported}

-- ---- a section on the target

at-target : (bytes : List ℕ) (on rising : Bool) (row : ℕ × Shdr) (left rest : List (ℕ × Shdr)) → left ≡ [] → rest ≡ [] → (rising ≡ true → overlap_of bytes (row ∷ []) ≡ None) → overlap_of bytes (cond (on && not rising) (row ∷ left) left) ≡ overlap_of bytes (cond on (row ∷ rest) rest)
unfolding overlap_checks_after
at-target bytes false rising row left rest l r h = ap (overlap_of bytes) l ∙ sym (ap (overlap_of bytes) r)
at-target bytes true true row left rest l r h =
    ap (overlap_of bytes) l ∙ sym (ap (λ (rows : List (ℕ × Shdr)). overlap_of bytes (row ∷ rows)) r ∙ h refl)
at-target bytes true false row left rest l r h =
    ap (λ (rows : List (ℕ × Shdr)). overlap_of bytes (row ∷ rows)) l ∙ sym (ap (λ (rows : List (ℕ × Shdr)). overlap_of bytes (row ∷ rows)) r)

elsewhere : (bytes : List ℕ) (on rising : Bool) (row : ℕ × Shdr) (left rest : List (ℕ × Shdr)) → on ≡ false → overlap_of bytes left ≡ overlap_of bytes rest → overlap_of bytes (cond (on && not rising) (row ∷ left) left) ≡ overlap_of bytes (cond on (row ∷ rest) rest)
elsewhere bytes true rising row left rest o h = cc
elsewhere bytes false rising row left rest o h = h

off : (elf : Elf) (t : ℕ) (row : ℕ × Shdr) → is_on t row ≡ false → is_row_on elf t row ≡ false
off elf t row o = ap (λ b. b && is_piece_in elf t) o

off-marked : (elf : Elf) (t : ℕ) (row : ℕ × Shdr) → is_on t row ≡ false → is_marked_row elf true t row ≡ false
off-marked elf t row o = ap (λ b. (b && is_piece_in elf t) && not (true && fields_rise elf.bytes row.1)) o

where-rising : (elf : Elf) (t n least : ℕ) (headers : List Shdr) → targets_rise least headers ≡ true → overlap_of elf.bytes (marked_rows_on elf true t n headers) ≡ overlap_of elf.bytes (rows_on elf t n headers)
where-rising elf t n least [] e = refl
where-rising elf t n least (header ∷ headers) e =
    let left : List (ℕ × Shdr) = marked_rows_on elf true t (n + 1) headers in
    let rest : List (ℕ × Shdr) = rows_on elf t (n + 1) headers in
    either
    (header.sh_type == sht_rela)
    (λ s. let parts : (nat_le least header.sh_info ≡ true) × (targets_rise (header.sh_info + 1) headers ≡ true) = with-relocations least header headers e s in
    either
    (header.sh_info == t)
    (λ i. let same : header.sh_info ≡ t = eqb-true header.sh_info t i in
    let before : t < header.sh_info + 1 = omega (arith, same) in
    at-target elf.bytes (is_row_on elf t (n, header)) (fields_rise elf.bytes header) (n, header) left rest
    (none_before (is_marked_row elf true t) t (off-marked elf t) (n + 1) (header.sh_info + 1) headers before parts.1)
    (none_before (is_row_on elf t) t (off elf t) (n + 1) (header.sh_info + 1) headers before parts.1)
    (row_apart elf.bytes (n, header)))
    (λ i. elsewhere elf.bytes (is_row_on elf t (n, header)) (fields_rise elf.bytes header) (n, header) left rest
    (off elf t (n, header) (on_other t n header s i))
    (where-rising elf t (n + 1) (header.sh_info + 1) headers parts.1)))
    (λ s. elsewhere elf.bytes (is_row_on elf t (n, header)) (fields_rise elf.bytes header) (n, header) left rest
    (off elf t (n, header) (on_none t n header s))
    (where-rising elf t (n + 1) least headers (without least header headers e s)))

all-marked : (elf : Elf) (t : ℕ) (rows : List (ℕ × Shdr)) → filter (is_marked_row elf false t) rows ≡ filter (is_row_on elf t) rows
all-marked elf t rows = filter-same (is_marked_row elf false t) (is_row_on elf t) (λ row. and-right (is_row_on elf t row) true) rows

-- the first overlap among the sections that are to be marked is that among all on the target
pub marked_reported : (elf : Elf) (rise : Bool) (t : ℕ) → (rise ≡ true → targets_rise 0 (drop 1 elf.sections) ≡ true) → overlap_of elf.bytes (marked_rows elf rise t) ≡ overlap_of elf.bytes (piece_rows elf t)
marked_reported elf true t h = where-rising elf t 1 0 (drop 1 elf.sections) (h refl) ∙ ap (overlap_of elf.bytes) (rows_reported elf t)
marked_reported elf false t h = ap (overlap_of elf.bytes) (all-marked elf t (enumerate_from 1 (drop 1 elf.sections)) ∙ rows_reported elf t)

-- ---- what is to be marked fits where all does

kept-fit : (size : ℕ) (bytes : List ℕ) (on keep : Bool) (row : ℕ × Shdr) (rest left : List (ℕ × Shdr)) → (RowsFit size bytes rest → RowsFit size bytes left) → RowsFit size bytes (cond on (row ∷ rest) rest) → RowsFit size bytes (cond (on && keep) (row ∷ left) left)
kept-fit size bytes true true row rest left h f = (f.0, h f.1)
kept-fit size bytes true false row rest left h f = h f.1
kept-fit size bytes false keep row rest left h f = h f

some-fit : (elf : Elf) (rise : Bool) (t size : ℕ) (rows : List (ℕ × Shdr)) → RowsFit size elf.bytes (filter (is_row_on elf t) rows) → RowsFit size elf.bytes (filter (is_marked_row elf rise t) rows)
some-fit elf rise t size [] f = tt
some-fit elf rise t size (row ∷ rows) f =
    kept-fit size elf.bytes (is_row_on elf t row) (not (rise && fields_rise elf.bytes row.1)) row (filter (is_row_on elf t) rows) (filter (is_marked_row elf rise t) rows)
    (some-fit elf rise t size rows) f

pub marked_fit : (elf : Elf) (rise : Bool) (t size : ℕ) → RowsFit size elf.bytes (piece_rows elf t) → RowsFit size elf.bytes (marked_rows elf rise t)
marked_fit elf rise t size f =
    some-fit elf rise t size (enumerate_from 1 (drop 1 elf.sections))
    (subst (λ (rows : List (ℕ × Shdr)). RowsFit size elf.bytes rows) (sym (rows_reported elf t)) f)
