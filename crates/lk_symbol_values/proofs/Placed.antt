-- The look-ups of the tables give what lk_model finds in the placement.
use Rattle.std.proofs.Common.{◌≡◌, refl, ap, ◌∙◌, arith, ℕ, suc, ◌+◌, ◌*◌, ◌==◌, nat_lt, not, Bool, true, false, cond, List, [], ◌∷◌, length, find, position, Option, Some, None, codes}
use Rattle.std.proofs.lemmas.Bool.Decides.{nat_tests}
use Rattle.std.specs.List.{position_or_len}
use Rattle.std.specs.Option.{option_map}
use Rattle.lk_model.specs.Keys.{is_slot_of, piece_row_of, plt_number, row_of, same_piece, slot_number}
use Rattle.lk_model.specs.SectionKeys.{named}
use Rattle.lk_model.specs.SymbolValues.{plt_address, slot_address}
use Rattle.lk_model.specs.declared.layouts.Class.TheVariants.{W, X}
use Rattle.lk_model.specs.declared.layouts.GotKey.{GotKey}
use Rattle.lk_model.specs.declared.layouts.GotOwner.{GotOwner}
use Rattle.lk_model.specs.declared.layouts.PieceId.{PieceId}
use Rattle.lk_model.specs.declared.layouts.PieceId.TheVariants as id
use Rattle.lk_model.specs.declared.layouts.PieceRow.{PieceRow}
use Rattle.lk_model.specs.declared.layouts.Placement.{Placement}
use Rattle.lk_model.specs.declared.layouts.SectionRow.{SectionRow}
use Rattle.lk_symbol_values.specs.Addresses.{IsIndexed, address_of_piece, entry_address, slot_at}
use Rattle.lk_symbol_values.specs.PieceAddresses.{address_in, address_of, has_key, key_of, piece_of}
use Rattle.lk_symbol_values.specs.Sections.{address_of_row, low_64}
use Rattle.lk_symbol_values.specs.SlotNumbers.{FindsSlots, entry_of, number_of, place_from, key_of as owner_key}
use Rattle.lk_symbol_values.specs.declared.addresses.Tables.{Tables}
use Rattle.lk_symbol_values.specs.declared.piece_addresses.PieceKey.{PieceKey}
use Rattle.lk_symbol_values.specs.declared.piece_addresses.PieceKey.TheVariants as key
use Rattle.lk_symbol_values.specs.declared.slot_numbers.OwnerKey.{OwnerKey}
use Rattle.lk_symbol_values.proofs.SlotKeys.{slots_alike}

-- pieces
keys_same : (q : PieceId) (k : PieceKey) → has_key (key_of q) k ≡ same_piece q (piece_of k)
keys_same (id.Section i s) (key.Common m) = refl
keys_same (id.Section i s) (key.Copy m) = refl
keys_same (id.Common n) (key.Common m) = refl
keys_same (id.Common n) (key.Copy m) = refl
keys_same (id.Copy n) (key.Common m) = refl
keys_same (id.Copy n) (key.Copy m) = refl

this_or_next : (b : Bool) (row : PieceRow) (rest : Option PieceRow) → cond b (Some row.addr) (option_map address_of_piece rest) ≡ option_map address_of_piece (cond b (Some row) rest)
this_or_next true row rest = refl
this_or_next false row rest = refl

in_rows : (rows : List PieceRow) (k : PieceKey) → address_in rows k ≡ option_map address_of_piece (find (λ row. same_piece row.piece (piece_of k)) rows)
in_rows [] k = refl
in_rows (row ∷ rows) k =
    (λ i. cond (keys_same row.piece k i) (Some row.addr) (in_rows rows k i))
    ∙ this_or_next (same_piece row.piece (piece_of k)) row (find (λ row. same_piece row.piece (piece_of k)) rows)

pub piece_found : (pieces : List (PieceKey × ℕ)) (values threads : List (OwnerKey × ℕ)) (entries : List (ℕ × ℕ)) (tables : Tables) (place : Placement) → IsIndexed pieces values threads entries tables place
    → (k : PieceKey) → address_of pieces k ≡ option_map address_of_piece (piece_row_of place (piece_of k))
piece_found pieces values threads entries tables place is k = is.pieces_found k ∙ in_rows place.pieces k

-- places in lists
module _ {A : Type 0} (test : A → Bool) where
  placed : ℕ → ℕ → List A → Option ℕ
  placed n k xs = cond (nat_lt k (length xs)) (Some (n + k)) None

  counts : (n k l : ℕ) → cond (nat_lt k l) (Some (n + 1 + k)) None ≡ cond (nat_lt (1 + k) (1 + l)) (Some (n + (1 + k))) None
  counts n k l =
      let test : nat_lt k l ≡ nat_lt (1 + k) (1 + l) = grind (arith, nat_tests) in
      let place : n + 1 + k ≡ n + (1 + k) = omega arith in
      λ i. cond (test i) (Some (place i)) None

  first : (n l : ℕ) → Some n ≡ cond (nat_lt 0 (1 + l)) (Some (n + 0)) None
  first n l =
      let test : true ≡ nat_lt 0 (1 + l) = grind (arith, nat_tests) in
      let place : n ≡ n + 0 = omega arith in
      λ i. cond (test i) (Some (place i)) None

  by_test : (b : Bool) (n k l : ℕ) → cond b (Some n) (cond (nat_lt k l) (Some (n + 1 + k)) None) ≡ cond (nat_lt (cond (not b) (1 + k) 0) (1 + l)) (Some (n + cond (not b) (1 + k) 0)) None
  by_test true n k l = first n l
  by_test false n k l = counts n k l

  from_place : (n : ℕ) (xs : List A) → place_from test n xs ≡ cond (nat_lt (position_or_len test xs) (length xs)) (Some (n + position_or_len test xs)) None
  from_place n [] = refl
  from_place n (x ∷ xs) =
      let more : 1 + length xs ≡ suc (length xs) = omega arith in
      ap (λ o. cond (test x) (Some n) o) (from_place (n + 1) xs)
      ∙ by_test (test x) n (position_or_len test xs) (length xs)
      ∙ ap (λ l. cond (nat_lt (cond (not (test x)) (1 + position_or_len test xs) 0) l) (Some (n + cond (not (test x)) (1 + position_or_len test xs) 0)) None) more

  pub place_is : (xs : List A) → place_from test 0 xs ≡ position test xs
  place_is xs =
      let none : 0 + position_or_len test xs ≡ position_or_len test xs = omega arith in
      from_place 0 xs ∙ ap (λ k. cond (nat_lt (position_or_len test xs) (length xs)) (Some k) None) none

-- entries
entry_with : (row : Option SectionRow) (n : Option ℕ) → entry_address (option_map address_of_row row) n ≡ option_map low_64 (elim n [ None ↦ None | Some k ↦ option_map (λ (row : SectionRow). row.addr + 16 * (k + 1)) row ])
entry_with row None = refl
entry_with None (Some k) = refl
entry_with (Some row) (Some k) = refl

pub entry_found : (pieces : List (PieceKey × ℕ)) (values threads : List (OwnerKey × ℕ)) (entries : List (ℕ × ℕ)) (tables : Tables) (place : Placement) → IsIndexed pieces values threads entries tables place
    → (n : ℕ) → entry_address tables.plt (entry_of entries n) ≡ option_map low_64 (plt_address place n)
entry_found pieces values threads entries tables place is n =
    (λ i. entry_address (is.tables_are i).plt ((is.entries_found n ∙ place_is (λ m. m == n) place.slots.plt) i))
    ∙ entry_with (row_of place (named (codes ".plt") X)) (plt_number place n)

-- slots
slot_with : (row : Option SectionRow) (n : Option ℕ) → slot_at (option_map address_of_row row) n ≡ low_64 (elim n [ None ↦ 0 | Some n ↦ elim row [ None ↦ 0 | Some row ↦ row.addr + 8 * n ] ])
slot_with row None = refl
slot_with None (Some k) = refl
slot_with (Some row) (Some k) = refl

pub slot_of_kind : (values threads : List (OwnerKey × ℕ)) (slots : List (Option GotKey)) (thread : Bool) (o : GotOwner) → FindsSlots false values slots → FindsSlots true threads slots
    → number_of (cond thread threads values) (owner_key o) ≡ position (is_slot_of (record { owner = o; thread = thread })) slots
slot_of_kind values threads slots true o first second =
    let k : GotKey = record { owner = o; thread = true } in second (owner_key o) ∙ slots_alike k 0 slots ∙ place_is (is_slot_of k) slots
slot_of_kind values threads slots false o first second =
    let k : GotKey = record { owner = o; thread = false } in first (owner_key o) ∙ slots_alike k 0 slots ∙ place_is (is_slot_of k) slots

pub slot_placed : (got : Option ℕ) (place : Placement) → got ≡ option_map address_of_row (row_of place (named (codes ".got") W)) → (k : GotKey) → slot_at got (slot_number place k) ≡ low_64 (slot_address place k)
slot_placed got place is k = ap (λ g. slot_at g (slot_number place k)) is ∙ slot_with (row_of place (named (codes ".got") W)) (slot_number place k)
