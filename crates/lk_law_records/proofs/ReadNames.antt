-- A name that is read of a file holds no zero byte: it ends at the first one (gABI "String Table").
use Rattle.std.specs.Prelude.{◌≡◌, refl, ℕ, suc, nat_eq, ◌+◌, ◌==◌, Bool, true, false, cond, not, List, [], ◌∷◌, drop, take, Some, option_and_then, slice_get}
use Rattle.std.specs.Bool.{then_some}
use Rattle.std.specs.List.{list_any, position_or_len}
use Rattle.std.proofs.Common.{arith, subst, ap, ◌∙◌, ◌||◌}
use Rattle.lk_elf.specs.declared.section_header.Shdr.{Shdr}
use Rattle.lk_model.specs.Elf.{bytes_under, name_at, name_of_symbol, section_at, section_name, symbol_name, symbol_table, text_in}
use Rattle.lk_model.specs.Views.{Elf}
use Rattle.lk_law_records.specs.Recordable.{has_zero}
use Rattle.lk_law_records.proofs.Lists.{and-then}

-- the part before the first zero holds none
no-zero-step : (t : Bool) (n b : ℕ) (bs : List ℕ) → nat_eq b 0 ≡ t → list_any (λ c. c == 0) (take n bs) ≡ false → list_any (λ c. c == 0) (take (cond (not t) (1 + n) 0) (b ∷ bs)) ≡ false
no-zero-step true n b bs e h = refl
no-zero-step false n b bs e h =
    let up : 1 + n ≡ suc n = omega arith in
    ap (λ (m : ℕ). list_any (λ c. c == 0) (take m (b ∷ bs))) up ∙ ap (λ (t : Bool). t || list_any (λ c. c == 0) (take n bs)) e ∙ h

no-zero-before : (bytes : List ℕ) → list_any (λ b. b == 0) (take (position_or_len (λ b. b == 0) bytes) bytes) ≡ false
no-zero-before [] = refl
no-zero-before (b ∷ bs) = no-zero-step (nat_eq b 0) (position_or_len (λ c. c == 0) bs) b bs refl (no-zero-before bs)

-- a text that is read holds no zero
pub text-clean : (bytes t : List ℕ) → text_in bytes ≡ Some t → has_zero t ≡ false
text-clean bytes t e = go (list_any (λ b. b == 0) bytes) e
  where
    before : List ℕ
    before = take (position_or_len (λ b. b == 0) bytes) bytes

    go : (b : Bool) → then_some b before ≡ Some t → has_zero t ≡ false
    go true h = let is : before ≡ t = cc in subst (λ l. has_zero l ≡ false) is (no-zero-before bytes)
    go false h = absurd (cc)

pub name-clean : (elf : Elf) (strings offset : ℕ) (t : List ℕ) → name_at elf strings offset ≡ Some t → has_zero t ≡ false
unfolding name_at
name-clean elf strings offset t e =
    let found = and-then (section_at elf strings) (λ (header : Shdr). text_in (drop offset (bytes_under elf header))) t e in
    text-clean (drop offset (bytes_under elf found.0)) t found.1.1

pub section-name-clean : (elf : Elf) (n : ℕ) (t : List ℕ) → section_name elf n ≡ Some t → has_zero t ≡ false
unfolding section_name
section-name-clean elf n t e =
    let found = and-then (section_at elf n) (λ (header : Shdr). name_at elf elf.header.e_shstrndx header.sh_name) t e in
    name-clean elf elf.header.e_shstrndx found.0.sh_name t found.1.1

pub symbol-name-clean : (elf : Elf) (k : ℕ) (t : List ℕ) → symbol_name elf k ≡ Some t → has_zero t ≡ false
unfolding symbol_name
symbol-name-clean elf k t e =
    let table = and-then (symbol_table elf) (λ (row : ℕ × Shdr). option_and_then (name_of_symbol elf row.1.sh_link) (slice_get elf.symbols k)) t e in
    let symbol = and-then (slice_get elf.symbols k) (name_of_symbol elf table.0.1.sh_link) t table.1.1 in
    name-clean elf table.0.1.sh_link symbol.0.st_name t symbol.1.1
