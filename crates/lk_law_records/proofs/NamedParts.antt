-- Of the sections of an image exactly one has the name of each section of records: the part of the tail.
use Rattle.std.proofs.Common.{◌≡◌, ℕ, zero, suc, ◌+◌, ◌<◌, inl, inr, Bool, true, false, List, [], ◌∷◌, ◌++◌, length, drop, refl, arith, sym, ap, subst, ◌∙◌}
use Rattle.std.specs.Prelude.{◌==◌, Option, Some, None, filter, map, option_and_then, slice_get}
use Rattle.std.specs.List.{AllByRecursion, enumerate_from, list_any}
use Rattle.std.specs.Str.{bytes_eq}
use Rattle.std.proofs.lemmas.Bool.{or_parts, cases_Bool}
use Rattle.std.proofs.lemmas.List.Elements.{filter-append}
use Rattle.std.proofs.lemmas.Slice.Eq.{bytes_eq-Decides}
use Rattle.lk_elf.specs.declared.section_header.Shdr.{Shdr}
use Rattle.lk_model.specs.Elf.{bytes_under, text_in}
use Rattle.lk_model.specs.RecordedPlace.{has_name, only_bytes}
use Rattle.lk_model.specs.FullPlace.{tail_start}
use Rattle.lk_model.specs.Tail.{row_header, row_name}
use Rattle.lk_model.specs.Texts.{offset_in, table_bytes, table_of}
use Rattle.lk_model.specs.Views.{Elf}
use Rattle.lk_model.specs.declared.layouts.Placement.{Placement}
use Rattle.lk_model.specs.declared.layouts.SectionRow.{SectionRow}
use Rattle.lk_law_records.specs.Recordable.{RowFits}
use Rattle.lk_law_records.proofs.Lists.{enumerate-append, get-behind, next-at}
use Rattle.lk_law_records.proofs.SectionsBack.{is_named_among, name_among}
use Rattle.lk_law_records.proofs.TailHeaders.{AllNamed, all-named, first_at, inputs_name, link_shdrs, named-first, named-second, names_of, own_names, part_shdr, second_at, strings_name, tail_shdrs, texts_name, third_at}
use Rattle.lk_law_records.proofs.Texts.{name-found}

-- ---- the name of a section by its header

abbrev reported : List ℕ → ℕ × Shdr → Option (List ℕ)
reported strings (zero, h) = None
reported strings (suc n, h) = text_in (drop h.sh_name strings)

abbrev is_reported : List ℕ → List ℕ → ℕ × Shdr → Bool
is_reported strings name row = has_name name (reported strings row)

reported-positive : (strings : List ℕ) (n : ℕ) (h : Shdr) → 0 < n → reported strings (n, h) ≡ text_in (drop h.sh_name strings)
reported-positive strings zero h some = absurd (omega (arith, some))
reported-positive strings (suc n) h some = refl

reported-among : (hs : List Shdr) (strings : List ℕ) (n : ℕ) (h : Shdr) → slice_get hs n ≡ Some h → name_among hs strings n ≡ reported strings (n, h)
reported-among hs strings zero h there = refl
reported-among hs strings (suc n) h there = ap (option_and_then (λ (x : Shdr). text_in (drop x.sh_name strings))) there

reported-all : (hs : List Shdr) (strings name : List ℕ) (n : ℕ) (xs : List Shdr) → ((j : ℕ) (x : Shdr) → slice_get xs j ≡ Some x → slice_get hs (n + j) ≡ Some x)
    → filter (is_named_among hs strings name) (enumerate_from n xs) ≡ filter (is_reported strings name) (enumerate_from n xs)
reported-all hs strings name n [] there = refl
reported-all hs strings name n (x ∷ xs) there =
    let (here, more) = next-at (λ k y. slice_get hs k ≡ Some y) n x xs there in
    let same : is_named_among hs strings name (n, x) ≡ is_reported strings name (n, x) = ap (has_name name) (reported-among hs strings n x here) in
    let rest = reported-all hs strings name (n + 1) xs more in
    rw (same, rest) refl

-- sections of one name among those of a file
pub among-reported : (hs : List Shdr) (strings name : List ℕ)
    → filter (is_named_among hs strings name) (enumerate_from 0 hs) ≡ filter (is_reported strings name) (enumerate_from 0 hs)
among-reported hs strings name = reported-all hs strings name 0 hs (λ j x e. let at : j ≡ 0 + j = omega arith in subst (λ k. slice_get hs k ≡ Some x) at e)

-- ---- output sections have other names

differ-back : (a b : List ℕ) → bytes_eq a b ≡ false → bytes_eq b a ≡ false
differ-back a b differ = elim (cases_Bool (bytes_eq b a)) as (λ _. bytes_eq b a ≡ false) [
  | inl same ↦
      let is : b ≡ a = (bytes_eq-Decides b a).0 same in
      let equal : bytes_eq a b ≡ true = (bytes_eq-Decides a b).1 (sym is) in
      absurd (cc)
  | inr other ↦ other
]

reported-name : (strings : List ℕ) (table : List (List ℕ)) (n : ℕ) (h : Shdr) (t : List ℕ) → strings ≡ table_bytes table → 0 < n → h.sh_name ≡ offset_in table t
    → list_any (λ b. b == 0) t ≡ false → list_any (bytes_eq t) table ≡ true → reported strings (n, h) ≡ Some t
reported-name strings table n h t are some at none there =
    reported-positive strings n h some
    ∙ ap (λ l. text_in (drop h.sh_name l)) are
    ∙ ap (λ k. text_in (drop k (table_bytes table))) at
    ∙ name-found table t none there

rows-other : (place : Placement) (strings : List ℕ) (table : List (List ℕ)) (name : List ℕ) (n : ℕ) (rows : List SectionRow) → strings ≡ table_bytes table → 0 < n
    → AllByRecursion RowFits rows → AllNamed table (map row_name rows) → AllByRecursion (λ (row : SectionRow). bytes_eq name row.key.name ≡ false) rows
    → filter (is_reported strings name) (enumerate_from n (map (row_header place (offset_in table)) rows)) ≡ []
rows-other place strings table name n [] are some fits named other = refl
rows-other place strings table name n (row ∷ rows) are some (here, more) (own, others) (differ, different) =
    let h = row_header place (offset_in table) row in
    let test : is_reported strings name (n, h) ≡ false = ap (has_name name) (reported-name strings table n h row.key.name are some refl here.name own) ∙ differ in
    let rest = rows-other place strings table name (n + 1) rows are (omega arith) more others different in
    rw (test, rest) refl

record-name-first : (row : SectionRow) → RowFits row → bytes_eq inputs_name row.key.name ≡ false
record-name-first row fits =
    differ-back row.key.name inputs_name (or_parts (bytes_eq row.key.name inputs_name) (bytes_eq row.key.name texts_name) fits.other).0

record-name-second : (row : SectionRow) → RowFits row → bytes_eq texts_name row.key.name ≡ false
record-name-second row fits =
    differ-back row.key.name texts_name (or_parts (bytes_eq row.key.name inputs_name) (bytes_eq row.key.name texts_name) fits.other).1

all-rows : (P : SectionRow → Type 0) (rows : List SectionRow) → ((row : SectionRow) → RowFits row → P row) → AllByRecursion RowFits rows → AllByRecursion P rows
all-rows P [] each all = tt
all-rows P (row ∷ rows) each (here, more) = (each row here, all-rows P rows each more)

-- ---- of the parts one has the name

module _ (strings : List ℕ) (table : List (List ℕ)) (are : strings ≡ table_bytes table) (named : AllNamed table own_names) where
  reported-own : (n a b c k : ℕ) (t : List ℕ) → 0 < n → list_any (λ z. z == 0) t ≡ false → list_any (bytes_eq t) table ≡ true
      → (name : List ℕ) → is_reported strings name (n, part_shdr (offset_in table t) a b c) ≡ bytes_eq name t
  reported-own n a b c k t some none there name = ap (has_name name) (reported-name strings table n (part_shdr (offset_in table t) a b c) t are some refl none there)

  tail-inputs : (i tail n m k : ℕ) → 0 < i → filter (is_reported strings inputs_name) (enumerate_from i (tail_shdrs (offset_in table) tail n m k)) ≡ (i, part_shdr (offset_in table inputs_name) 1 (first_at tail) n) ∷ []
  tail-inputs i tail n m k some =
      let offset = offset_in table in
      let first = reported-own i 1 (first_at tail) n 0 inputs_name some refl named.0 inputs_name in
      let second = reported-own (i + 1) 1 (second_at tail n) m 0 texts_name (omega arith) refl named.1.0 inputs_name in
      let third = reported-own (i + 1 + 1) 3 (third_at tail n m) k 0 strings_name (omega arith) refl named.1.1.0 inputs_name in
      rw (first, second, third) refl

  tail-texts : (i tail n m k : ℕ) → 0 < i → filter (is_reported strings texts_name) (enumerate_from i (tail_shdrs (offset_in table) tail n m k)) ≡ (i + 1, part_shdr (offset_in table texts_name) 1 (second_at tail n) m) ∷ []
  tail-texts i tail n m k some =
      let offset = offset_in table in
      let first = reported-own i 1 (first_at tail) n 0 inputs_name some refl named.0 texts_name in
      let second = reported-own (i + 1) 1 (second_at tail n) m 0 texts_name (omega arith) refl named.1.0 texts_name in
      let third = reported-own (i + 1 + 1) 3 (third_at tail n m) k 0 strings_name (omega arith) refl named.1.1.0 texts_name in
      rw (first, second, third) refl

-- ---- the section of a name

-- the sections of a name among all
split-headers : (place : Placement) (strings name : List ℕ) (offset : List ℕ → ℕ) (n m k : ℕ)
    → filter (is_reported strings name) (enumerate_from 0 (link_shdrs place offset n m k))
    ≡ filter (is_reported strings name) (enumerate_from 1 (map (row_header place offset) place.sections))
    ++ filter (is_reported strings name) (enumerate_from (1 + length (map (row_header place offset) place.sections)) (tail_shdrs offset (tail_start place) n m k))
split-headers place strings name offset n m k =
    let rows = map (row_header place offset) place.sections in
    let tails = tail_shdrs offset (tail_start place) n m k in
    ap (filter (is_reported strings name)) (enumerate-append 1 rows tails) ∙ filter-append (is_reported strings name) (enumerate_from 1 rows) (enumerate_from (1 + length rows) tails)

pub only-inputs : (elf : Elf) (place : Placement) (strings : List ℕ) (n m k : ℕ) → let table = table_of (names_of place) in
    strings ≡ table_bytes table → AllByRecursion RowFits place.sections → let hs = link_shdrs place (offset_in table) n m k in
    only_bytes elf (filter (is_named_among hs strings inputs_name) (enumerate_from 0 hs))
    ≡ Some (bytes_under elf (part_shdr (offset_in table inputs_name) 1 (first_at (tail_start place)) n))
only-inputs elf place strings n m k are fits =
    let table = table_of (names_of place) in
    let offset = offset_in table in
    let hs = link_shdrs place offset n m k in
    let i = 1 + length (map (row_header place offset) place.sections) in
    let named = all-named (names_of place) in
    let rows = rows-other place strings table inputs_name 1 place.sections are (omega arith) fits (named-first table (map row_name place.sections) own_names named)
    (all-rows (λ (row : SectionRow). bytes_eq inputs_name row.key.name ≡ false) place.sections record-name-first fits) in
    let tails = tail-inputs strings table are (named-second table (map row_name place.sections) own_names named) i (tail_start place) n m k (omega arith) in
    ap (only_bytes elf) (among-reported hs strings inputs_name ∙ split-headers place strings inputs_name offset n m k
    ∙ ap (λ l. l ++ filter (is_reported strings inputs_name) (enumerate_from i (tail_shdrs offset (tail_start place) n m k))) rows ∙ tails)

pub only-texts : (elf : Elf) (place : Placement) (strings : List ℕ) (n m k : ℕ) → let table = table_of (names_of place) in
    strings ≡ table_bytes table → AllByRecursion RowFits place.sections → let hs = link_shdrs place (offset_in table) n m k in
    only_bytes elf (filter (is_named_among hs strings texts_name) (enumerate_from 0 hs))
    ≡ Some (bytes_under elf (part_shdr (offset_in table texts_name) 1 (second_at (tail_start place) n) m))
only-texts elf place strings n m k are fits =
    let table = table_of (names_of place) in
    let offset = offset_in table in
    let hs = link_shdrs place offset n m k in
    let i = 1 + length (map (row_header place offset) place.sections) in
    let named = all-named (names_of place) in
    let rows = rows-other place strings table texts_name 1 place.sections are (omega arith) fits (named-first table (map row_name place.sections) own_names named)
    (all-rows (λ (row : SectionRow). bytes_eq texts_name row.key.name ≡ false) place.sections record-name-second fits) in
    let tails = tail-texts strings table are (named-second table (map row_name place.sections) own_names named) i (tail_start place) n m k (omega arith) in
    ap (only_bytes elf) (among-reported hs strings texts_name ∙ split-headers place strings texts_name offset n m k
    ∙ ap (λ l. l ++ filter (is_reported strings texts_name) (enumerate_from i (tail_shdrs offset (tail_start place) n m k))) rows ∙ tails)

-- ---- the section of names

pub strings-there : (place : Placement) (offset : List ℕ → ℕ) (n m k : ℕ)
    → slice_get (link_shdrs place offset n m k) (suc (length (map (row_header place offset) place.sections) + 2))
    ≡ Some (part_shdr (offset strings_name) 3 (third_at (tail_start place) n m) k)
strings-there place offset n m k = get-behind (map (row_header place offset) place.sections) (tail_shdrs offset (tail_start place) n m k) 2
