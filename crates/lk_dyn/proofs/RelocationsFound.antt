-- The relocations of a dynamic link are read back from the bytes of their tables.
use Rattle.std.proofs.Common.{◌≡◌, refl, sym, ap, subst, ◌∙◌, arith, append_assoc, length-append, ℕ, zero, suc, ◌+◌, ◌*◌, ◌/◌, ◌%◌, ◌^◌, ◌<◌, ◌||◌, not, pos, Bool, true, false, List, [], ◌∷◌, ◌++◌, length, map, Option, Some, None, slice_get, w64}
use Rattle.std.specs.Prelude.{filter_map, flat_map, option_and_then, option_map, if◌then◌else◌}
use Rattle.std.specs.List.{cons_option, enumerate_from}
use Rattle.std.proofs.lemmas.List.{length-map}
use Rattle.std.proofs.lemmas.List.FromFn.{length-enumerate_from}
use mir.Val.{SFits}
use Rattle.lk_elf.proofs.RelaBack.{rela_at-rela_bytes}
use Rattle.lk_elf.specs.Fields.{bytes_of}
use Rattle.lk_elf.specs.Numbers.{rela_size}
use Rattle.lk_elf.specs.Records.{rela_at, rela_bytes}
use Rattle.lk_elf.specs.declared.relocation.Rela.{Rela}
use Rattle.lk_model.specs.DynamicNames.{dynamic_names, dynsym_number}
use Rattle.lk_model.specs.DynamicRelocations.{copy_relocation, dynamic_relocation, jump_relocation, rela_dyn_bytes, rela_dyn_entries, rela_plt_bytes, rela_plt_entries, slot_relocation}
use Rattle.lk_model.specs.DynamicSection.{table_start}
use Rattle.lk_model.specs.DynamicSlots.{SlotFill, copied_names, import_fill, name_fill, owner_fill, r_x86_64_copy, r_x86_64_glob_dat, r_x86_64_jump_slot, slot_fill, slot_fills, winner_fill}
use Rattle.lk_model.specs.Forms.{r_x86_64_tpoff64}
use Rattle.lk_model.specs.Numbered.{is_number_in}
use Rattle.lk_model.specs.PltEntries.{jump_slot_address}
use Rattle.lk_model.specs.SectionKeys.{got_key}
use Rattle.lk_model.specs.SymbolValues.{got_address, placed_address}
use Rattle.lk_model.specs.Views.{Resolved}
use Rattle.lk_model.specs.declared.layouts.GotKey.{GotKey}
use Rattle.lk_model.specs.declared.layouts.GotOwner.{GotOwner}
use Rattle.lk_model.specs.declared.layouts.GotOwner.TheVariants as owner
use Rattle.lk_model.specs.declared.layouts.PieceId.TheVariants as id
use Rattle.lk_model.specs.declared.layouts.Placement.{Placement}
use Rattle.lk_model.specs.declared.summaries.Winner.{Winner}
use Rattle.lk_model.specs.declared.summaries.Winner.TheVariants as winner
use Rattle.lk_dyn.proofs.RelocationsPut.{low-rela}
use Rattle.lk_dyn.specs.LowBits.{low_64}
use Rattle.lk_dyn.specs.RelocationLaws.{entry_at, Fills, FillsCopies, FillsEachImport, FillsJumpSlots, FillsNoMore, FillsSlots, IsSlotOfName}

-- ---- one record among records of one width

-- the bytes before a record and those behind it
record Around (bytes pre own post : List ℕ) (at : ℕ) : Type 0 where
  pub whole : bytes ≡ pre ++ own ++ post
  pub before : length pre ≡ at

abbrev Found : Rela → List ℕ → ℕ → Type 0
Found relocation bytes at = (pre : List ℕ) × ((post : List ℕ) × Around bytes pre (rela_bytes relocation) post at)

rela_width : (x : Rela) → length (rela_bytes x) ≡ rela_size
unfolding rela_bytes bytes_of
rela_width x = refl

found : (n : ℕ) (xs : List Rela) (x : Rela) → slice_get xs n ≡ Some x → Found x (flat_map rela_bytes xs) (rela_size * n)
found n [] x there = absurd (cc)
found zero (y ∷ ys) x there =
    let same : y ≡ x = cc in
    let none : 0 ≡ rela_size * 0 = omega arith in
    ([], (flat_map rela_bytes ys, record { whole = ap (λ z. rela_bytes z ++ flat_map rela_bytes ys) same; before = none }))
found (suc n) (y ∷ ys) x there =
    let rest = found n ys x there in
    let pre : List ℕ = rest.0 in
    let post : List ℕ = rest.1.0 in
    let wide = rela_width y in
    let long = rest.1.1.before in
    let sum = length-append (rela_bytes y) pre in
    let more : length (rela_bytes y ++ pre) ≡ rela_size * suc n = omega (arith, sum, wide, long) in (
      rela_bytes y ++ pre,
      (
        post,
        record {
          whole =
              ap (λ l. rela_bytes y ++ l) rest.1.1.whole
              ∙ sym (append_assoc (rela_bytes y) (pre ++ rela_bytes x) post)
              ∙ ap (λ l. l ++ post) (sym (append_assoc (rela_bytes y) pre (rela_bytes x)));
          before = more;
        },
      ),
    )

-- the length of records
pub records_length : (xs : List Rela) → length (flat_map rela_bytes xs) ≡ rela_size * length xs
records_length [] = omega arith
records_length (x ∷ xs) =
    let sum = length-append (rela_bytes x) (flat_map rela_bytes xs) in
    let wide = rela_width x in
    let rest = records_length xs in
    omega (arith, sum, wide, rest)

-- ---- what an entry fills

-- the type and the symbol, by the low bits of the field that has both
low_type : (s code : ℕ) → code < 2 ^ 32 → low_64 (s * 2 ^ 32 + code) % 2 ^ 32 ≡ code
low_type s code few = omega (arith, few)

low_symbol : (s code : ℕ) → code < 2 ^ 32 → low_64 (s * 2 ^ 32 + code) / 2 ^ 32 ≡ s % 2 ^ 32
low_symbol s code few = omega (arith, few)

below : (n : ℕ) → low_64 n < 2 ^ 64
below n = omega arith

no_addend : SFits w64 (pos 0)
no_addend = record { sfits = omega arith }

-- an entry that is a relocation by a dynamic name
fills_by :
    (r : Resolved) (bytes : List ℕ) (n address code name : ℕ)
    → code < 2 ^ 32
    → Found (dynamic_relocation (dynamic_names r) address code name) bytes (rela_size * n)
    → Fills r (entry_at bytes n) address code name
fills_by r bytes n address code name few there =
    let symbol : ℕ = dynsym_number (dynamic_names r) name in
    let low : Rela = record { r_offset = low_64 address; r_info = low_64 (symbol * 2 ^ 32 + code); r_addend = pos 0 } in
    let pre : List ℕ = there.0 in
    let post : List ℕ = there.1.0 in
    let back : entry_at bytes n ≡ low =
    ap (λ (l : List ℕ). rela_at l (rela_size * n)) (there.1.1.whole ∙ ap (λ (b : List ℕ). pre ++ b ++ post) (sym (low-rela address (symbol * 2 ^ 32 + code) (pos 0))))
    ∙ rela_at-rela_bytes (rela_size * n) pre post low there.1.1.before (below address) (below (symbol * 2 ^ 32 + code)) no_addend in
    subst (λ (x : Rela). Fills r x address code name) (sym back) (record {
      address_is = refl;
      type_is = low_type symbol code few;
      symbol_is = low_symbol symbol code few;
      addend_is = refl;
    })

-- ---- the calls

jump_at :
    (names : List ℕ) (place : Placement) (from n name : ℕ) (plt : List ℕ)
    → slice_get plt n ≡ Some name
    → slice_get (map (jump_relocation names place) (enumerate_from from plt)) n ≡ Some (jump_relocation names place (from + n, name))
jump_at names place from n name [] there = absurd (cc)
jump_at names place from zero name (x ∷ xs) there =
    let same : x ≡ name = cc in
    let number : from ≡ from + 0 = omega arith in
    λ i. Some (jump_relocation names place (number i, same i))
jump_at names place from (suc n) name (x ∷ xs) there =
    let number : from + 1 + n ≡ from + suc n = omega arith in
    jump_at names place (from + 1) n name xs there
    ∙ ap (λ (k : ℕ). Some (jump_relocation names place (k, name))) number

pub fills_jump_slots : FillsJumpSlots
unfolding rela_plt_bytes rela_plt_entries
fills_jump_slots r place n name there =
    let names : List ℕ = dynamic_names r in
    let number : 0 + n ≡ n = omega arith in
    let entry = jump_at names place 0 n name place.slots.plt there ∙ ap (λ (k : ℕ). Some (jump_relocation names place (k, name))) number in
    fills_by r (rela_plt_bytes r place) n (jump_slot_address (got_address place) n) r_x86_64_jump_slot name (omega arith)
    (found n (rela_plt_entries r place) (jump_relocation names place (n, name)) entry)

-- ---- the slots

-- an item of a list is there with more behind it, and behind other items
mapped_at : {A B : Type 0} (f : A → B) (xs : List A) (n : ℕ) (x : A) → slice_get xs n ≡ Some x → slice_get (map f xs) n ≡ Some (f x)
mapped_at f [] n x there = absurd (cc)
mapped_at f (y ∷ ys) zero x there = let same : y ≡ x = cc in ap (λ z. Some (f z)) same
mapped_at f (y ∷ ys) (suc n) x there = mapped_at f ys n x there

at_front : {A : Type 0} (xs ys : List A) (n : ℕ) (x : A) → slice_get xs n ≡ Some x → slice_get (xs ++ ys) n ≡ Some x
at_front [] ys n x there = absurd (cc)
at_front (y ∷ xs) ys zero x there = there
at_front (y ∷ xs) ys (suc n) x there = at_front xs ys n x there

at_back : {A : Type 0} (xs ys : List A) (n : ℕ) (x : A) → slice_get ys n ≡ Some x → slice_get (xs ++ ys) (length xs + n) ≡ Some x
at_back {A} [] ys n x there = let number : n ≡ 0 + n = omega arith in subst (λ (k : ℕ). slice_get ys k ≡ Some x) number there
at_back {A} (y ∷ xs) ys n x there =
    let number : suc (length xs + n) ≡ suc (length xs) + n = omega arith in
    subst (λ (k : ℕ). slice_get (y ∷ xs ++ ys) k ≡ Some x) number (at_back xs ys n x there)

-- the type of a slot
abbrev type_of : Bool → ℕ
type_of thread = if thread then r_x86_64_tpoff64 else r_x86_64_glob_dat

import_type : (thread copied : Bool) (code : ℕ) → import_fill thread copied ≡ Some code → code ≡ type_of thread
import_type true copied code is = cc
import_type false true code is = absurd (cc)
import_type false false code is = cc

winner_type : (thread copied : Bool) (w : Winner) (code : ℕ) → winner_fill thread copied w ≡ Some code → code ≡ type_of thread
winner_type thread copied (winner.Import i k) code is = import_type thread copied code is
winner_type thread copied (winner.Strong i k) code is = absurd (cc)
winner_type thread copied (winner.Common size align) code is = absurd (cc)
winner_type thread copied (winner.Weak i k) code is = absurd (cc)
winner_type thread copied winner.Made code is = absurd (cc)
winner_type thread copied winner.Nothing code is = absurd (cc)

name_type : (thread copied : Bool) (o : Option Winner) (code : ℕ) → option_and_then (winner_fill thread copied) o ≡ Some code → code ≡ type_of thread
name_type thread copied None code is = absurd (cc)
name_type thread copied (Some w) code is = winner_type thread copied w code is

-- a slot that is filled, behind others
record Named (slots : List (Option GotKey)) (from : ℕ) (fill : SlotFill) : Type 0 where
  pub at : ℕ
  pub thread : Bool
  pub slot_is : fill.slot ≡ from + at
  pub key_is : slice_get slots at ≡ Some (Some (record { owner = owner.Global fill.name; thread = thread }))
  pub type_is : fill.code ≡ type_of thread

by_code :
    (slots : List (Option GotKey)) (from m : ℕ) (thread : Bool) (o : Option ℕ) (fill : SlotFill)
    → ((code : ℕ) → o ≡ Some code → code ≡ type_of thread)
    → option_map (λ code. record { slot = from; name = m; code = code }) o ≡ Some fill
    → Named (Some (record { owner = owner.Global m; thread = thread }) ∷ slots) from fill
by_code slots from m thread None fill typed is = absurd (cc)
by_code slots from m thread (Some code) fill typed is =
    let own : SlotFill = record { slot = from; name = m; code = code } in
    let same : own ≡ fill = cc in
    let number : from ≡ from + 0 = omega arith in
    subst (λ (f : SlotFill). Named (Some (record { owner = owner.Global m; thread = thread }) ∷ slots) from f) same
    (record { at = 0; thread = thread; slot_is = number; key_is = refl; type_is = typed code refl })

by_owner :
    (r : Resolved) (slots : List (Option GotKey)) (from : ℕ) (thread : Bool) (o : GotOwner) (fill : SlotFill)
    → owner_fill r from thread o ≡ Some fill
    → Named (Some (record { owner = o; thread = thread }) ∷ slots) from fill
by_owner r slots from thread (owner.Global m) fill is =
    by_code slots from m thread (name_fill r m thread) fill (name_type thread (is_number_in r.needs.copies m) (slice_get r.winners m)) is
by_owner r slots from thread (owner.Local i k) fill is = absurd (cc)

by_slot :
    (r : Resolved) (slots : List (Option GotKey)) (from : ℕ) (s : Option GotKey) (fill : SlotFill)
    → slot_fill r (from, s) ≡ Some fill
    → Named (s ∷ slots) from fill
by_slot r slots from None fill is = absurd (cc)
by_slot r slots from (Some key) fill is = by_owner r slots from key.thread key.owner fill is

later : (s : Option GotKey) (slots : List (Option GotKey)) (from : ℕ) (fill : SlotFill) → Named slots (from + 1) fill → Named (s ∷ slots) from fill
later s slots from fill named =
    let at : ℕ = named.at in
    let number : from + 1 + at ≡ from + suc at = omega arith in
    record { at = suc at; thread = named.thread; slot_is = named.slot_is ∙ number; key_is = named.key_is; type_is = named.type_is }

-- the first slot, or one behind it
first_or_later :
    (r : Resolved) (s : Option GotKey) (slots : List (Option GotKey)) (from : ℕ) (fill : SlotFill) (o : Option SlotFill) (n : ℕ) (rest : List SlotFill)
    → slot_fill r (from, s) ≡ o
    → ((m : ℕ) → slice_get rest m ≡ Some fill → Named slots (from + 1) fill)
    → slice_get (cons_option o rest) n ≡ Some fill
    → Named (s ∷ slots) from fill
first_or_later r s slots from fill None n rest is more there = later s slots from fill (more n there)
first_or_later r s slots from fill (Some f) zero rest is more there = by_slot r slots from s fill (is ∙ there)
first_or_later r s slots from fill (Some f) (suc n) rest is more there = later s slots from fill (more n there)

slot_named :
    (r : Resolved) (slots : List (Option GotKey)) (from n : ℕ) (fill : SlotFill)
    → slice_get (filter_map (slot_fill r) (enumerate_from from slots)) n ≡ Some fill
    → Named slots from fill
slot_named r [] from n fill there = absurd (cc)
slot_named r (s ∷ slots) from n fill there =
    first_or_later r s slots from fill (slot_fill r (from, s)) n (filter_map (slot_fill r) (enumerate_from (from + 1) slots)) refl (λ m more. slot_named r slots (from + 1) m fill more) there

-- the types of slots are few
type_few : (thread : Bool) → type_of thread < 2 ^ 32
type_few true = omega arith
type_few false = omega arith

pub fills_slots : FillsSlots
unfolding rela_dyn_bytes rela_dyn_entries slot_fills
fills_slots r place n fill there =
    let names : List ℕ = dynamic_names r in
    let slots : List Rela = map (slot_relocation names (table_start place got_key)) (slot_fills r place.slots) in
    let copies : List Rela = map (copy_relocation names place) (copied_names r) in
    let relocation : Rela = slot_relocation names (table_start place got_key) fill in
    let entry : slice_get (slots ++ copies) n ≡ Some relocation =
    at_front slots copies n relocation (mapped_at (slot_relocation names (table_start place got_key)) (slot_fills r place.slots) n fill there) in
    let named = slot_named r place.slots.got 0 n fill there in
    let at : ℕ = named.at in
    let zero_more : 0 + at ≡ at = omega arith in
    let few : fill.code < 2 ^ 32 = subst (λ (k : ℕ). k < 2 ^ 32) (sym named.type_is) (type_few named.thread) in
    let number : fill.slot ≡ at = named.slot_is ∙ zero_more in (
      fills_by r (rela_dyn_bytes r place) n (table_start place got_key + 8 * fill.slot) fill.code fill.name few (found n (slots ++ copies) relocation entry),
      record {
        thread = named.thread;
        key_is = ap (slice_get place.slots.got) number ∙ named.key_is;
        type_is = named.type_is;
      },
    )

-- a slot of an import is among those that are filled
import_filled : (thread copied : Bool) → (thread || not copied) ≡ true → import_fill thread copied ≡ Some (type_of thread)
import_filled true copied filled = refl
import_filled false true filled = absurd (cc)
import_filled false false filled = refl

behind : (o : Option SlotFill) (rest : List SlotFill) (n : ℕ) (fill : SlotFill) → slice_get rest n ≡ Some fill → (m : ℕ) × (slice_get (cons_option o rest) m ≡ Some fill)
behind None rest n fill there = (n, there)
behind (Some f) rest n fill there = (suc n, there)

filled_at :
    (r : Resolved) (slots : List (Option GotKey)) (from slot : ℕ) (key : GotKey) (fill : SlotFill)
    → slice_get slots slot ≡ Some (Some key)
    → slot_fill r (from + slot, Some key) ≡ Some fill
    → (n : ℕ) × (slice_get (filter_map (slot_fill r) (enumerate_from from slots)) n ≡ Some fill)
filled_at r [] from slot key fill there is = absurd (cc)
filled_at r (s ∷ slots) from zero key fill there is =
    let same : s ≡ Some key = cc in
    let number : from ≡ from + 0 = omega arith in (
      0,
      (λ i. slice_get (cons_option (slot_fill r (number i, same i)) (filter_map (slot_fill r) (enumerate_from (from + 1) slots))) 0)
          ∙ ap (λ (o : Option SlotFill). slice_get (cons_option o (filter_map (slot_fill r) (enumerate_from (from + 1) slots))) 0) is,
    )
filled_at r (s ∷ slots) from (suc slot) key fill there is =
    let number : from + suc slot ≡ from + 1 + slot = omega arith in
    let rest = filled_at r slots (from + 1) slot key fill there (subst (λ (k : ℕ). slot_fill r (k, Some key) ≡ Some fill) number is) in
    behind (slot_fill r (from, s)) (filter_map (slot_fill r) (enumerate_from (from + 1) slots)) rest.0 fill rest.1

pub fills_each_import : FillsEachImport
unfolding slot_fills
fills_each_import r place slot name input symbol thread there won wanted =
    let code : ℕ = type_of thread in
    let fill : SlotFill = record { slot = slot; name = name; code = code } in
    let copied : Bool = is_number_in r.needs.copies name in
    let by_name : name_fill r name thread ≡ Some code =
    ap (option_and_then (winner_fill thread copied)) won ∙ import_filled thread copied wanted in
    let number : 0 + slot ≡ slot = omega arith in
    let is : slot_fill r (0 + slot, Some (record { owner = owner.Global name; thread = thread })) ≡ Some fill =
    ap (option_map (λ c. record { slot = 0 + slot; name = name; code = c })) by_name
    ∙ ap (λ (k : ℕ). Some (record { slot = k; name = name; code = code })) number in
    filled_at r place.slots.got 0 slot (record { owner = owner.Global name; thread = thread }) fill there is

-- ---- the copies

pub fills_copies : FillsCopies
unfolding rela_dyn_bytes rela_dyn_entries
fills_copies r place n name there =
    let names : List ℕ = dynamic_names r in
    let slots : List Rela = map (slot_relocation names (table_start place got_key)) (slot_fills r place.slots) in
    let copies : List Rela = map (copy_relocation names place) (copied_names r) in
    let relocation : Rela = copy_relocation names place name in
    let behind : slice_get (slots ++ copies) (length slots + n) ≡ Some relocation =
    at_back slots copies n relocation (mapped_at (copy_relocation names place) (copied_names r) n name there) in
    let many : length slots ≡ length (slot_fills r place.slots) = length-map (slot_fills r place.slots) (slot_relocation names (table_start place got_key)) in
    let number : length slots + n ≡ length (slot_fills r place.slots) + n = ap (λ (k : ℕ). k + n) many in
    let entry = subst (λ (k : ℕ). slice_get (slots ++ copies) k ≡ Some relocation) number behind in
    fills_by r (rela_dyn_bytes r place) (length (slot_fills r place.slots) + n) (placed_address place (id.Copy name)) r_x86_64_copy name (omega arith)
    (found (length (slot_fills r place.slots) + n) (slots ++ copies) relocation entry)

-- ---- no others

pub fills_no_more : FillsNoMore
unfolding rela_plt_bytes rela_plt_entries rela_dyn_bytes rela_dyn_entries
fills_no_more r place =
    let names : List ℕ = dynamic_names r in
    let slots : List Rela = map (slot_relocation names (table_start place got_key)) (slot_fills r place.slots) in
    let copies : List Rela = map (copy_relocation names place) (copied_names r) in
    let first = length-map (slot_fills r place.slots) (slot_relocation names (table_start place got_key)) in
    let second = length-map (copied_names r) (copy_relocation names place) in (
      records_length (map (jump_relocation names place) (enumerate_from 0 place.slots.plt))
          ∙ ap (λ (k : ℕ). rela_size * k) (length-map (enumerate_from 0 place.slots.plt) (jump_relocation names place) ∙ length-enumerate_from 0 place.slots.plt),
      records_length (slots ++ copies)
          ∙ ap (λ (k : ℕ). rela_size * k) (length-append slots copies ∙ (λ i. first i + second i)),
    )
