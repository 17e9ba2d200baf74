-- The entries of a dynamic section one after another: those before the first NULL, and the first SONAME of them.
use Rattle.std.specs.Prelude.{◌≡◌, refl, ℕ, zero, suc, ◌+◌, ◌-◌, ◌/◌, ◌<◌, ◌≤◌, Bool, true, false, cond, if◌then◌else◌, not, List, [], ◌∷◌, find, map, option_map, take, Some, None}
use Rattle.std.specs.List.{before_first, position_or_len, range_with_len}
use Rattle.std.proofs.Common.{ap, arith, sym, ◌∙◌}
use Rattle.lk_elf.specs.Numbers.{dt_null, dt_soname, dyn_size}
use Rattle.lk_elf.specs.declared.dynamic_entry.Dyn.{Dyn}
use Rattle.lk_elf.specs.declared.section_header.Shdr.{Shdr}
use Rattle.lk_model.specs.DynamicEntries.{counted_entries, first_with_tag, has_tag}
use Rattle.lk_model.specs.Elf.{elf_of, elf_under, elf_with, lies_in}
use Rattle.lk_model.specs.SharedObjects.{entries_under}
use Rattle.lk_so_read.specs.DynamicParts.{entries_from, entry_at, entry_count, soname_among}

-- ---- one entry more

take-more : (n : ℕ) (e : Dyn) (es : List Dyn) → take (1 + n) (e ∷ es) ≡ e ∷ take n es
take-more n e es = let more : 1 + n ≡ suc n = omega arith in ap (λ m. take m (e ∷ es)) more

pub before-cons : (p : Dyn → Bool) (e : Dyn) (es : List Dyn) → before_first p (e ∷ es) ≡ cond (p e) [] (e ∷ before_first p es)
before-cons p e es = go (p e)
  where
    go : (b : Bool) → take (cond (not b) (1 + position_or_len p es) 0) (e ∷ es) ≡ cond b [] (e ∷ before_first p es)
    go true = refl
    go false = take-more (position_or_len p es) e es

found-cons : (b : Bool) (e : Dyn) (es : List Dyn) → first_with_tag dt_soname (cond b [] (e ∷ es)) ≡ cond b None (cond (has_tag dt_soname e) (Some e.d_un) (first_with_tag dt_soname es))
found-cons true e es = refl
found-cons false e es = go (has_tag dt_soname e)
  where
    go : (s : Bool) → option_map (λ (entry : Dyn). entry.d_un) (cond s (Some e) (find (has_tag dt_soname) es)) ≡ cond s (Some e.d_un) (first_with_tag dt_soname es)
    go true = refl
    go false = refl

among-cons : (e : Dyn) (es : List Dyn) → soname_among (e ∷ es) ≡ cond (has_tag dt_null e) None (cond (has_tag dt_soname e) (Some e.d_un) (soname_among es))
unfolding soname_among
among-cons e es =
    ap (first_with_tag dt_soname) (before-cons (has_tag dt_null) e es)
    ∙ found-cons (has_tag dt_null e) e (before_first (has_tag dt_null) es)

-- ---- entry by entry

next : (bytes : List ℕ) (header : Shdr) (k m : ℕ) (entry : Dyn) → k < m → entry ≡ entry_at bytes header k → soname_among (entries_from bytes header k (m - k)) ≡ cond (has_tag dt_null entry) None (cond (has_tag dt_soname entry) (Some entry.d_un) (soname_among (entries_from bytes header (k + 1) (m - (k + 1)))))
next bytes header k m entry l e =
    let more : m - k ≡ suc (m - (k + 1)) = omega (arith, l) in
    let rest : List Dyn = entries_from bytes header (k + 1) (m - (k + 1)) in
    ap (λ n. soname_among (entries_from bytes header k n)) more
    ∙ among-cons (entry_at bytes header k) rest
    ∙ ap (λ (x : Dyn). cond (has_tag dt_null x) None (cond (has_tag dt_soname x) (Some x.d_un) (soname_among rest))) (sym e)

pub null_here : (bytes : List ℕ) (header : Shdr) (k m : ℕ) (entry : Dyn) → k < m → entry ≡ entry_at bytes header k → has_tag dt_null entry ≡ true → soname_among (entries_from bytes header k (m - k)) ≡ None
null_here bytes header k m entry l e n =
    next bytes header k m entry l e
    ∙ ap (λ b. cond b None (cond (has_tag dt_soname entry) (Some entry.d_un) (soname_among (entries_from bytes header (k + 1) (m - (k + 1)))))) n

not-null : (bytes : List ℕ) (header : Shdr) (k m : ℕ) (entry : Dyn) → k < m → entry ≡ entry_at bytes header k → has_tag dt_null entry ≡ false → soname_among (entries_from bytes header k (m - k)) ≡ cond (has_tag dt_soname entry) (Some entry.d_un) (soname_among (entries_from bytes header (k + 1) (m - (k + 1))))
not-null bytes header k m entry l e n =
    next bytes header k m entry l e
    ∙ ap (λ b. cond b None (cond (has_tag dt_soname entry) (Some entry.d_un) (soname_among (entries_from bytes header (k + 1) (m - (k + 1)))))) n

pub soname_here : (bytes : List ℕ) (header : Shdr) (k m : ℕ) (entry : Dyn) → k < m → entry ≡ entry_at bytes header k → has_tag dt_null entry ≡ false → has_tag dt_soname entry ≡ true → soname_among (entries_from bytes header k (m - k)) ≡ Some entry.d_un
soname_here bytes header k m entry l e n s =
    not-null bytes header k m entry l e n
    ∙ ap (λ b. cond b (Some entry.d_un) (soname_among (entries_from bytes header (k + 1) (m - (k + 1))))) s

pub other_here : (bytes : List ℕ) (header : Shdr) (k m : ℕ) (entry : Dyn) → k < m → entry ≡ entry_at bytes header k → has_tag dt_null entry ≡ false → has_tag dt_soname entry ≡ false → soname_among (entries_from bytes header k (m - k)) ≡ soname_among (entries_from bytes header (k + 1) (m - (k + 1)))
other_here bytes header k m entry l e n s =
    not-null bytes header k m entry l e n
    ∙ ap (λ b. cond b (Some entry.d_un) (soname_among (entries_from bytes header (k + 1) (m - (k + 1))))) s

pub none_left : (bytes : List ℕ) (header : Shdr) (k m : ℕ) → m ≤ k → soname_among (entries_from bytes header k (m - k)) ≡ None
unfolding soname_among
none_left bytes header k m l = let none : m - k ≡ 0 = omega (arith, l) in ap (λ n. soname_among (entries_from bytes header k n)) none

-- ---- the entries that count

from-map : (bytes : List ℕ) (header : Shdr) (k m : ℕ) → map (entry_at bytes header) (range_with_len k m) ≡ entries_from bytes header k m
from-map bytes header k zero = refl
from-map bytes header k (suc m) = ap (λ (rest : List Dyn). entry_at bytes header k ∷ rest) (from-map bytes header (k + 1) m)

whole : (b : Bool) (size : ℕ) → (if b then size else 0) / dyn_size ≡ (if b then size / dyn_size else 0)
whole true size = refl
whole false size = refl

pub entries_read : (bytes : List ℕ) (header : Shdr) → entries_under (elf_of bytes) header ≡ before_first (has_tag dt_null) (entries_from bytes header 0 (entry_count bytes header))
unfolding elf_of elf_under elf_with entries_under counted_entries
entries_read bytes header =
    ap (λ n. before_first (has_tag dt_null) (map (entry_at bytes header) (range_with_len 0 n))) (whole (lies_in bytes header.sh_offset header.sh_size) header.sh_size)
    ∙ ap (λ (entries : List Dyn). before_first (has_tag dt_null) entries) (from-map bytes header 0 (entry_count bytes header))

pub soname_read : (bytes : List ℕ) (header : Shdr) → first_with_tag dt_soname (entries_under (elf_of bytes) header) ≡ soname_among (entries_from bytes header 0 (entry_count bytes header))
unfolding soname_among
soname_read bytes header = ap (λ (entries : List Dyn). first_with_tag dt_soname entries) (entries_read bytes header)
