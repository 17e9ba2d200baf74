-- Fields that are read and extended give back the values that their tests take.
use Rattle.std.specs.Prelude.{◌≡◌, ◌↔◌, ℕ, zero, suc, ◌+◌, ◌%◌, ◌^◌, ◌<◌, ◌||◌, true, nat_le, nat_lt, if◌then◌else◌}
use Rattle.std.proofs.Common.{arith}
use Rattle.std.proofs.lemmas.Bool.Decides.{nat_tests}
use Rattle.lk_elf.specs.Fields.{bytes_of, number_of}
use Rattle.lk_reloc.specs.FieldLaws.{by_zeros, SignGivesBack, WholeGivesBack, ZerosGiveBack}

-- ---- the number in a field

one_byte : (v : ℕ) → by_zeros 1 v ≡ v % 0x100
unfolding bytes_of number_of
one_byte v = omega arith

two_bytes : (v : ℕ) → by_zeros 2 v ≡ v % 0x10000
unfolding bytes_of number_of
two_bytes v = omega arith

three_bytes : (v : ℕ) → by_zeros 3 v ≡ v % 0x1000000
unfolding bytes_of number_of
three_bytes v = omega arith

four_bytes : (v : ℕ) → by_zeros 4 v ≡ v % 0x100000000
unfolding bytes_of number_of
four_bytes v = omega arith

pub whole_gives_back : WholeGivesBack
unfolding bytes_of number_of
whole_gives_back v small = omega arith

-- ---- fields that zeros extend

zeros_one : (v n : ℕ) → n ≡ v % 0x100 → (nat_lt v 0x100 ≡ true) ↔ (n ≡ v)
zeros_one v n e = (λ h. grind (arith, nat_tests), λ h. grind (arith, nat_tests))

zeros_two : (v n : ℕ) → n ≡ v % 0x10000 → (nat_lt v 0x10000 ≡ true) ↔ (n ≡ v)
zeros_two v n e = (λ h. grind (arith, nat_tests), λ h. grind (arith, nat_tests))

zeros_three : (v n : ℕ) → n ≡ v % 0x1000000 → (nat_lt v 0x1000000 ≡ true) ↔ (n ≡ v)
zeros_three v n e = (λ h. grind (arith, nat_tests), λ h. grind (arith, nat_tests))

zeros_four : (v n : ℕ) → n ≡ v % 0x100000000 → (nat_lt v 0x100000000 ≡ true) ↔ (n ≡ v)
zeros_four v n e = (λ h. grind (arith, nat_tests), λ h. grind (arith, nat_tests))

pub zeros_give_back : ZerosGiveBack
zeros_give_back zero v some narrow small = absurd (omega arith)
zeros_give_back (suc zero) v some narrow small = zeros_one v (by_zeros 1 v) (one_byte v)
zeros_give_back (suc (suc zero)) v some narrow small = zeros_two v (by_zeros 2 v) (two_bytes v)
zeros_give_back (suc (suc (suc zero))) v some narrow small = zeros_three v (by_zeros 3 v) (three_bytes v)
zeros_give_back (suc (suc (suc (suc zero)))) v some narrow small = zeros_four v (by_zeros 4 v) (four_bytes v)
zeros_give_back (suc (suc (suc (suc (suc w))))) v some narrow small = absurd (omega arith)

-- ---- fields that their sign extends

abbrev extended : ℕ → ℕ → ℕ → ℕ
extended n half above = if nat_lt n half then n else n + above

sign_one : (v n : ℕ) → n ≡ v % 0x100 → v < 2 ^ 64 → ((nat_lt v 0x80 || nat_le 0xffffffffffffff80 v) ≡ true) ↔ (extended n 0x80 0xffffffffffffff00 ≡ v)
sign_one v n e small = (λ h. grind (arith, nat_tests), λ h. grind (arith, nat_tests))

sign_two : (v n : ℕ) → n ≡ v % 0x10000 → v < 2 ^ 64 → ((nat_lt v 0x8000 || nat_le 0xffffffffffff8000 v) ≡ true) ↔ (extended n 0x8000 0xffffffffffff0000 ≡ v)
sign_two v n e small = (λ h. grind (arith, nat_tests), λ h. grind (arith, nat_tests))

sign_three : (v n : ℕ) → n ≡ v % 0x1000000 → v < 2 ^ 64 → ((nat_lt v 0x800000 || nat_le 0xffffffffff800000 v) ≡ true) ↔ (extended n 0x800000 0xffffffffff000000 ≡ v)
sign_three v n e small = (λ h. grind (arith, nat_tests), λ h. grind (arith, nat_tests))

sign_four : (v n : ℕ) → n ≡ v % 0x100000000 → v < 2 ^ 64 → ((nat_lt v 0x80000000 || nat_le 0xffffffff80000000 v) ≡ true) ↔ (extended n 0x80000000 0xffffffff00000000 ≡ v)
sign_four v n e small = (λ h. grind (arith, nat_tests), λ h. grind (arith, nat_tests))

pub sign_gives_back : SignGivesBack
sign_gives_back zero v some narrow small = absurd (omega arith)
sign_gives_back (suc zero) v some narrow small = sign_one v (by_zeros 1 v) (one_byte v) small
sign_gives_back (suc (suc zero)) v some narrow small = sign_two v (by_zeros 2 v) (two_bytes v) small
sign_gives_back (suc (suc (suc zero))) v some narrow small = sign_three v (by_zeros 3 v) (three_bytes v) small
sign_gives_back (suc (suc (suc (suc zero)))) v some narrow small = sign_four v (by_zeros 4 v) (four_bytes v) small
sign_gives_back (suc (suc (suc (suc (suc w))))) v some narrow small = absurd (omega arith)
