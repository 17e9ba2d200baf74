-- The relocations of slots and of copies are lk_model's.
use Rattle.std.proofs.Common.{append_assoc, ◌≡◌, ℕ, Bool, true, false, cond, List, [], ◌∷◌, ◌++◌, map, refl, ap, sym, ◌∙◌, Option, Some, None}
use Rattle.std.specs.Prelude.{find, flat_map, ◌==◌}
use Rattle.lk_elf.specs.Records.{rela_bytes}
use Rattle.lk_elf.specs.declared.relocation.Rela.{Rela}
use Rattle.lk_model.specs.DynamicNames.{dynamic_names}
use Rattle.lk_model.specs.DynamicRelocations.{copy_relocation, rela_dyn_bytes, rela_dyn_entries, slot_relocation}
use Rattle.lk_model.specs.DynamicSection.{table_start}
use Rattle.lk_model.specs.DynamicSlots.{copied_names, slot_fills}
use Rattle.lk_model.specs.Keys.{same_piece}
use Rattle.lk_model.specs.SectionKeys.{got_key}
use Rattle.lk_model.specs.SymbolValues.{placed_address}
use Rattle.lk_model.specs.Views.{Resolved}
use Rattle.lk_model.specs.declared.layouts.PieceId.{PieceId}
use Rattle.lk_model.specs.declared.layouts.PieceId.TheVariants as id
use Rattle.lk_model.specs.declared.layouts.PieceRow.{PieceRow}
use Rattle.lk_model.specs.declared.layouts.Placement.{Placement}
use Rattle.lk_dyn_sizes.specs.Fills.{as_fills}
use Rattle.lk_dyn_sizes.specs.declared.slot_rows.SlotFill.{SlotFill}
use Rattle.lk_dyn.specs.StartRelocations.{copy_entry_at, copy_in, copy_of, copy_or, or_zero, slot_entry_bytes, FindsCopies}

-- the address in the first row of a copy
abbrev at_row : Option PieceRow → ℕ
at_row o = elim o [ None ↦ 0 | Some row ↦ row.addr ]

one_row : (b : Bool) (row : PieceRow) (later : Option ℕ) (rest : Option PieceRow) → or_zero later ≡ at_row rest → or_zero (cond b (Some row.addr) later) ≡ at_row (cond b (Some row) rest)
one_row true row later rest h = refl
one_row false row later rest h = h

row_of_piece : (p : PieceId) (row : PieceRow) (n : ℕ) (later : Option ℕ) (rest : Option PieceRow) → or_zero later ≡ at_row rest → or_zero (copy_or p row.addr n later) ≡ at_row (cond (same_piece p (id.Copy n)) (Some row) rest)
row_of_piece (id.Section i s) row n later rest h = h
row_of_piece (id.Common m) row n later rest h = h
row_of_piece (id.Copy m) row n later rest h = one_row (m == n) row later rest h

rows_found : (rows : List PieceRow) (n : ℕ) → or_zero (copy_in rows n) ≡ at_row (find (λ (row : PieceRow). same_piece row.piece (id.Copy n)) rows)
rows_found [] n = refl
rows_found (row ∷ rows) n = row_of_piece row.piece row n (copy_in rows n) (find (λ (row : PieceRow). same_piece row.piece (id.Copy n)) rows) (rows_found rows n)

pub copy_is : (entries : List (ℕ × ℕ)) (place : Placement) → FindsCopies entries place.pieces → (n : ℕ) → or_zero (copy_of entries n) ≡ placed_address place (id.Copy n)
copy_is entries place finds n = ap or_zero (finds n) ∙ rows_found place.pieces n

-- the copies, one by one
pub copies_are : (names : List ℕ) (entries : List (ℕ × ℕ)) (place : Placement) → FindsCopies entries place.pieces → (copies : List ℕ)
    → flat_map (λ n. copy_entry_at names (or_zero (copy_of entries n)) n) copies ≡ flat_map rela_bytes (map (copy_relocation names place) copies)
copies_are names entries place finds [] = refl
copies_are names entries place finds (n ∷ ns) =
    let here = copy_is entries place finds n in
    let later = copies_are names entries place finds ns in
    λ i. copy_entry_at names (here i) n ++ later i

-- the slots, one by one
pub slots_are : (names : List ℕ) (got : ℕ) (fills : List SlotFill) → flat_map (slot_entry_bytes names got) fills ≡ flat_map rela_bytes (map (slot_relocation names got) (as_fills fills))
slots_are names got [] = refl
slots_are names got (fill ∷ fills) = ap (λ l. slot_entry_bytes names got fill ++ l) (slots_are names got fills)

-- entries after entries
spelled : (xs ys : List Rela) → flat_map rela_bytes (xs ++ ys) ≡ flat_map rela_bytes xs ++ flat_map rela_bytes ys
spelled [] ys = refl
spelled (x ∷ xs) ys = ap (λ l. rela_bytes x ++ l) (spelled xs ys) ∙ sym (append_assoc (rela_bytes x) (flat_map rela_bytes xs) (flat_map rela_bytes ys))

-- the table
pub starts_are : (r : Resolved) (place : Placement) (names : List ℕ) (fills : List SlotFill) (copies : List ℕ) (entries : List (ℕ × ℕ))
    → FindsCopies entries place.pieces
    → dynamic_names r ≡ names → slot_fills r place.slots ≡ as_fills fills → copied_names r ≡ copies
    → flat_map (slot_entry_bytes names (table_start place got_key)) fills ++ flat_map (λ n. copy_entry_at names (or_zero (copy_of entries n)) n) copies ≡ rela_dyn_bytes r place
unfolding rela_dyn_bytes rela_dyn_entries
starts_are r place names fills copies entries finds named filled copied =
    let first = slots_are names (table_start place got_key) fills in
    let second = copies_are names entries place finds copies in
    (λ i. first i ++ second i)
    ∙ sym (spelled (map (slot_relocation names (table_start place got_key)) (as_fills fills)) (map (copy_relocation names place) copies))
    ∙ sym (λ i. flat_map rela_bytes (map (slot_relocation (named i) (table_start place got_key)) (filled i) ++ map (copy_relocation (named i) place) (copied i)))
