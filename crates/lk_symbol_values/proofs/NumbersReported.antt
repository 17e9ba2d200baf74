-- The numbers of a relocation at its place, through a symbol of which it is known the values of it, are lk_model's.
use Rattle.std.proofs.Common.{◌≡◌, refl, ◌∙◌, ℕ, Bool, true, false, if◌then◌else◌, Option, Some, None, option_map}
use Rattle.lk_model.specs.Amounts.{plus}
use Rattle.lk_model.specs.Keys.{piece_row_of}
use Rattle.lk_model.specs.Segments.{tls_end}
use Rattle.lk_model.specs.SymbolValues.{block_edge, is_placed_home, is_placed_winner, is_thread_slot, local_of, numbers_of, numbers_through, section_address, slot_address, winner_of_name}
use Rattle.lk_model.specs.Views.{Ref, Resolved, Through}
use Rattle.lk_model.specs.Views.Through.{ByLocal, ByName}
use Rattle.lk_model.specs.declared.layouts.GotOwner.{GotOwner}
use Rattle.lk_model.specs.declared.layouts.GotOwner.TheVariants as owner
use Rattle.lk_model.specs.declared.layouts.Numbers.{Numbers}
use Rattle.lk_model.specs.declared.layouts.PieceId.TheVariants as id
use Rattle.lk_model.specs.declared.layouts.PieceRow.{PieceRow}
use Rattle.lk_model.specs.declared.layouts.Placement.{Placement}
use Rattle.lk_symbol_values.specs.Sections.{low_64}
use Rattle.lk_symbol_values.specs.SymbolNumbering.{low_numbers, numbers_by, owner_slot, piece_start, place_at, relocation_of, value_through, symbol_numbers_of}
use Rattle.lk_symbol_values.specs.declared.values.Relocation.{Relocation}
use Rattle.lk_symbol_values.specs.declared.values.SymbolNumbers.{SymbolNumbers}

-- the address of an offset in a section is found by where the section begins
pub place_reported : (place : Placement) (input section offset : ℕ) → place_at (piece_start place input section) offset ≡ section_address place input section offset
place_reported place input section offset = by (piece_row_of place (id.Section input section))
  where
    by : (o : Option PieceRow) → place_at (option_map (λ (row : PieceRow). row.addr) o) offset ≡ elim o [ None ↦ 0 | Some row ↦ plus row.addr offset ]
    by None = refl
    by (Some row) = refl

slot_low : (place : Placement) (o : GotOwner) (thread : Bool) → (if thread then owner_slot place o true else owner_slot place o false) ≡ low_64 (slot_address place (record { owner = o; thread = thread }))
slot_low place o true = refl
slot_low place o false = refl

edge_low : (b : Bool) (x : ℕ) → block_edge b (low_64 x) ≡ low_64 (block_edge b x)
edge_low true x = refl
edge_low false x = refl

through_reported : (r : Resolved) (place : Placement) (ref : Ref) (t : Through) → numbers_by place (relocation_of place ref) (symbol_numbers_of r place ref.input t) ≡ low_numbers (numbers_through r place ref t)
through_reported r place ref (ByName n weak) =
    let slot = slot_low place (owner.Global n) (is_thread_slot ref.code) in
    let edge = edge_low (is_placed_winner (winner_of_name r n)) (tls_end place) in
    λ i. record (numbers_by place (relocation_of place ref) (symbol_numbers_of r place ref.input (ByName n weak))) { slot = slot i; tls_end = edge i }
through_reported r place ref (ByLocal k) =
    let slot = slot_low place (owner.Local ref.input k) (is_thread_slot ref.code) in
    let edge = edge_low (is_placed_home place ref.input (local_of r ref.input k).home) (tls_end place) in
    λ i. record (numbers_by place (relocation_of place ref) (symbol_numbers_of r place ref.input (ByLocal k))) { slot = slot i; tls_end = edge i }

pub numbers_reported : (r : Resolved) (place : Placement) (ref : Ref) (x : Relocation) (w : SymbolNumbers) (result : Numbers) → result ≡ numbers_by place x w → x ≡ relocation_of place ref → w ≡ symbol_numbers_of r place ref.input ref.through → result ≡ low_numbers (numbers_of r place ref)
numbers_reported r place ref x w result is there symbol_numbers = is ∙ (λ i. numbers_by place (there i) (symbol_numbers i)) ∙ through_reported r place ref ref.through

-- the value of a symbol is S of the references through it
pub value_reported : (r : Resolved) (place : Placement) (ref : Ref) → value_through r place ref.input ref.through ≡ (numbers_of r place ref).s
value_reported r place ref = by ref.through
  where
    by : (t : Through) → value_through r place ref.input t ≡ (numbers_through r place ref t).s
    by (ByName n weak) = refl
    by (ByLocal k) = refl
