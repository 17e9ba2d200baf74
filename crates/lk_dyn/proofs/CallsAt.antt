-- Entries and slots of calls in the bytes of their tables.
use Rattle.std.proofs.Common.{◌≡◌, ℕ, zero, suc, ◌+◌, ◌-◌, ◌*◌, ◌%◌, ◌^◌, ◌<◌, List, [], ◌∷◌, ◌++◌, length, take, drop, refl, ap, sym, ◌∙◌, arith, mod-lt}
use Rattle.std.specs.Prelude.{flat_map}
use Rattle.std.specs.List.{enumerate_from, range_with_len}
use Rattle.std.proofs.lemmas.List.{append_assoc, drop-drop, drop_at, take_at}
use Rattle.std.proofs.Math.Nat.{mul-suc, pow-suc}
use Rattle.lk_elf.proofs.Writing.{number_of-bytes_of}
use Rattle.lk_elf.specs.Fields.{bytes_of, num, number_of}
use Rattle.lk_model.specs.Amounts.{minus}
use Rattle.lk_model.specs.DynamicKeys.{plt_key}
use Rattle.lk_model.specs.DynamicSection.{table_start}
use Rattle.lk_model.specs.PltEntries.{first_entry_bytes, jump_slot_address, plt_bytes, plt_entry_address, plt_entry_bytes}
use Rattle.lk_model.specs.SymbolValues.{got_address}
use Rattle.lk_model.specs.Tables.{dynamic_address, got_plt_bytes, jump_bytes}
use Rattle.lk_model.specs.declared.layouts.Placement.{Placement}
use Rattle.lk_dyn.specs.CallLaws.{second_instruction, JumpsBySlot, SlotPointsBack}
use Rattle.lk_elf.proofs.LowBits.{low-bytes}

-- the part with a number begins what is left, where each part has the same width
part_at :
    (f : ℕ → List ℕ) (w : ℕ) (wide : (k : ℕ) → length (f k) ≡ w) (n a count : ℕ)
    → n < count
    → drop (w * n) (flat_map f (range_with_len a count)) ≡ f (a + n) ++ flat_map f (range_with_len (a + n + 1) (count - (n + 1)))
part_at f w wide n a zero below = absurd (omega arith)
part_at f w wide zero a (suc count) below =
    let none : w * 0 ≡ 0 = omega arith in
    let here : a ≡ a + 0 = omega arith in
    let less : count ≡ suc count - (0 + 1) = omega arith in
    ap (λ k. drop k (flat_map f (range_with_len a (suc count)))) none
    ∙ (λ i. f (here i) ++ flat_map f (range_with_len (here i + 1) (less i)))
part_at f w wide (suc n) a (suc count) below =
    let width : w * suc n ≡ w + w * n = mul-suc w n ∙ omega arith in
    let first = drop_at (f a) (flat_map f (range_with_len (a + 1) count)) w (wide a) in
    let rest = part_at f w wide n (a + 1) count (omega arith) in
    let place : a + 1 + n ≡ a + suc n = omega arith in
    let less : count - (n + 1) ≡ suc count - (suc n + 1) = omega arith in
    ap (λ k. drop k (f a ++ flat_map f (range_with_len (a + 1) count))) width
    ∙ sym (drop-drop (w * n) w (f a ++ flat_map f (range_with_len (a + 1) count)))
    ∙ ap (drop (w * n)) first
    ∙ rest
    ∙ (λ i. f (place i) ++ flat_map f (range_with_len (place i + 1) (less i)))

-- the number of a field's bytes
field_number : (w n : ℕ) → number_of (bytes_of w n) ≡ n % 256 ^ w
field_number w n = ap number_of (sym (low-bytes w n)) ∙ number_of-bytes_of w (n % 256 ^ w) (mod-lt n (above w))
  where
    above : (w : ℕ) → 0 < 256 ^ w
    above zero = omega arith
    above (suc w) = let e = pow-suc 256 w in let h = above w in omega (arith, e, h)

-- a jump leads to its slot
back_by : (next slot : ℕ) → (next + minus slot next % 2 ^ 32) % 2 ^ 32 ≡ slot % 2 ^ 32
back_by next slot = omega arith

entry_width : (plt got k : ℕ) → length (plt_entry_bytes plt got k) ≡ 16
unfolding bytes_of
entry_width plt got k = refl

entry_field : (plt got n : ℕ) (rest : List ℕ) → take 4 (drop 2 (plt_entry_bytes plt got n ++ rest)) ≡ bytes_of 4 (minus (jump_slot_address got n) (plt_entry_address plt n + 6))
unfolding bytes_of
entry_field plt got n rest = refl

first_width : (plt got : ℕ) → length (first_entry_bytes plt got) ≡ 16
unfolding bytes_of
first_width plt got = refl

pub jumps_by_slot : JumpsBySlot
unfolding plt_bytes num
jumps_by_slot r place n below =
    let plt : ℕ = table_start place plt_key in
    let got : ℕ = got_address place in
    let count : ℕ = length place.slots.plt in
    let entries : List ℕ = flat_map (plt_entry_bytes plt got) (range_with_len 0 count) in
    let later : List ℕ = flat_map (plt_entry_bytes plt got) (range_with_len (0 + n + 1) (count - (n + 1))) in
    let same : 0 + n ≡ n = omega arith in
    let offset : 16 * (1 + n) + 2 ≡ 16 + (16 * n + 2) = omega arith in
    let field : take 4 (drop (16 * (1 + n) + 2) (plt_bytes r place)) ≡ bytes_of 4 (minus (jump_slot_address got n) (plt_entry_address plt n + 6)) =
    ap (λ k. take 4 (drop k (first_entry_bytes plt got ++ entries))) offset
    ∙ ap (take 4) (sym (drop-drop (16 * n + 2) 16 (first_entry_bytes plt got ++ entries)))
    ∙ ap (λ l. take 4 (drop (16 * n + 2) l)) (drop_at (first_entry_bytes plt got) entries 16 (first_width plt got))
    ∙ ap (take 4) (sym (drop-drop 2 (16 * n) entries))
    ∙ ap (λ l. take 4 (drop 2 l)) (part_at (plt_entry_bytes plt got) 16 (entry_width plt got) n 0 count below)
    ∙ ap (λ k. take 4 (drop 2 (plt_entry_bytes plt got k ++ later))) same
    ∙ entry_field plt got n later in
    let number = ap number_of field ∙ field_number 4 (minus (jump_slot_address got n) (plt_entry_address plt n + 6)) in
    ap (λ d. (plt_entry_address plt n + 6 + d) % 2 ^ 32) number
    ∙ back_by (plt_entry_address plt n + 6) (jump_slot_address got n)

-- the slots by their numbers alone
slots_by : (place : Placement) (n : ℕ) (names : List ℕ) → flat_map (jump_bytes place) (enumerate_from n names) ≡ flat_map (λ k. bytes_of 8 (second_instruction place k)) (range_with_len n (length names))
slots_by place n [] = refl
slots_by place n (x ∷ xs) = ap (λ l. bytes_of 8 (second_instruction place n) ++ l) (slots_by place (n + 1) xs)

slot_width : (place : Placement) (k : ℕ) → length (bytes_of 8 (second_instruction place k)) ≡ 8
unfolding bytes_of
slot_width place k = refl

three_words : (a : ℕ) → length (bytes_of 8 a ++ bytes_of 8 0 ++ bytes_of 8 0) ≡ 24
unfolding bytes_of
three_words a = refl

pub slot_points_back : SlotPointsBack
unfolding num bytes_of
slot_points_back place n below =
    let count : ℕ = length place.slots.plt in
    let slot : ℕ → List ℕ = λ k. bytes_of 8 (second_instruction place k) in
    let front : List ℕ = bytes_of 8 (dynamic_address place) ++ bytes_of 8 0 ++ bytes_of 8 0 in
    let slots : List ℕ = flat_map slot (range_with_len 0 count) in
    let later : List ℕ = flat_map slot (range_with_len (0 + n + 1) (count - (n + 1))) in
    let same : 0 + n ≡ n = omega arith in
    let offset : 8 * (3 + n) ≡ 24 + 8 * n = omega arith in
    let joined : got_plt_bytes place ≡ front ++ slots = simp append_assoc (ap (λ l. bytes_of 8 (dynamic_address place) ++ bytes_of 8 0 ++ bytes_of 8 0 ++ l) (slots_by place 0 place.slots.plt)) in
    let field : take 8 (drop (8 * (3 + n)) (got_plt_bytes place)) ≡ bytes_of 8 (second_instruction place n) =
    (λ i. take 8 (drop (offset i) (joined i)))
    ∙ ap (take 8) (sym (drop-drop (8 * n) 24 (front ++ slots)))
    ∙ ap (λ l. take 8 (drop (8 * n) l)) (drop_at front slots 24 (three_words (dynamic_address place)))
    ∙ ap (take 8) (part_at slot 8 (slot_width place) n 0 count below)
    ∙ ap (λ k. take 8 (slot k ++ later)) same
    ∙ take_at (slot n) later 8 (slot_width place n) in
    ap number_of field ∙ field_number 8 (second_instruction place n)
