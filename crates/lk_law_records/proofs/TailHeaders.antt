-- The tail of an image with its records: its three parts, the section headers, and that these fit.
use Rattle.std.proofs.Common.{◌≡◌, ℕ, ◌+◌, ◌^◌, ◌<◌, ◌≤◌, true, List, [], ◌∷◌, ◌++◌, length, refl, arith, sym, ap, ◌∙◌, append_assoc, length-append}
use Rattle.std.specs.Prelude.{codes, map}
use Rattle.std.specs.List.{AllByRecursion, list_any}
use Rattle.std.specs.Str.{bytes_eq}
use Rattle.std.proofs.lemmas.Bool.{or_right, or_left}
use Rattle.std.proofs.lemmas.List.{length-map}
use Rattle.std.proofs.lemmas.List.Folds.{list_any-append}
use Rattle.std.proofs.lemmas.Slice.Eq.{bytes_eq-Decides}
use Rattle.lk_elf.specs.declared.section_header.Shdr.{Shdr}
use Rattle.lk_model.specs.Amounts.{round_up}
use Rattle.lk_model.specs.FullPlace.{tail_start}
use Rattle.lk_model.specs.Tail.{Part, headers_offset, null_header, record_parts, row_header, row_name, section_headers, tail_parts}
use Rattle.lk_model.specs.Texts.{offset_in, table_bytes, table_of}
use Rattle.lk_model.specs.Views.{Resolved}
use Rattle.lk_model.specs.declared.layouts.Placement.{Placement}
use Rattle.lk_model.specs.declared.layouts.SectionRow.{SectionRow}
use Rattle.lk_model.proofs.Multiples.{round_up_above}
use Rattle.lk_law_records.specs.Recordable.{RowFits}
use Rattle.lk_law_records.proofs.HeaderNumbers.{null-fits, row-shdr-fits}
use Rattle.lk_law_records.proofs.LinkRead.{link_inputs, link_texts}
use Rattle.lk_law_records.proofs.Lists.{all-append}
use Rattle.lk_law_records.proofs.SectionsBack.{ShdrFits}
use Rattle.lk_law_records.proofs.Texts.{in-table, offset-below}

-- ---- the parts

abbrev pub inputs_name : List ℕ
inputs_name = codes ".gnu_incremental_inputs"

abbrev pub texts_name : List ℕ
texts_name = codes ".gnu_incremental_strtab"

abbrev pub strings_name : List ℕ
strings_name = codes ".shstrtab"

abbrev pub own_names : List (List ℕ)
own_names = inputs_name ∷ texts_name ∷ strings_name ∷ []

abbrev pub three_parts : List ℕ → List ℕ → List ℕ → List Part
three_parts inputs texts strings =
    record { name = inputs_name; bytes = inputs } ∷ record { name = texts_name; bytes = texts } ∷ record { name = strings_name; bytes = strings } ∷ []

-- the names of the sections in header order, and the bytes of their table
abbrev pub names_of : Placement → List (List ℕ)
names_of place = map row_name place.sections ++ own_names

abbrev pub strings_of : Placement → List ℕ
strings_of place = table_bytes (table_of (names_of place))

pub parts-are : (r : Resolved) (place : Placement) → tail_parts r place ≡ three_parts (link_inputs r place) (link_texts r place) (strings_of place)
unfolding tail_parts record_parts
parts-are r place =
    ap (λ names. three_parts (link_inputs r place) (link_texts r place) (table_bytes (table_of names)))
    (append_assoc (map row_name place.sections) (inputs_name ∷ texts_name ∷ []) (strings_name ∷ []))

-- ---- where they are

abbrev pub first_at : ℕ → ℕ
first_at tail = round_up tail 8

abbrev pub second_at : ℕ → ℕ → ℕ
second_at tail n = round_up (first_at tail + n) 8

abbrev pub third_at : ℕ → ℕ → ℕ → ℕ
third_at tail n m = round_up (second_at tail n + m) 8

abbrev pub headers_at : ℕ → ℕ → ℕ → ℕ → ℕ
headers_at tail n m k = round_up (third_at tail n m + k) 8

-- each part ends at or below the section headers
pub record PartsBelow (tail n m k most : ℕ) : Type 0 where
  pub first : first_at tail + n ≤ most
  pub second : second_at tail n + m ≤ most
  pub third : third_at tail n m + k ≤ most

pub parts-below : (tail n m k : ℕ) → PartsBelow tail n m k (headers_at tail n m k)
parts-below tail n m k =
    let second : first_at tail + n ≤ second_at tail n = round_up_above (first_at tail + n) 8 (omega arith) in
    let third : second_at tail n + m ≤ third_at tail n m = round_up_above (second_at tail n + m) 8 (omega arith) in
    let last : third_at tail n m + k ≤ headers_at tail n m k = round_up_above (third_at tail n m + k) 8 (omega arith) in
    record { first = omega (arith, second, third, last); second = omega (arith, third, last); third = last }

pub headers-are_at : (place : Placement) (inputs texts strings : List ℕ)
    → headers_offset place (three_parts inputs texts strings) ≡ headers_at (tail_start place) (length inputs) (length texts) (length strings)
headers-are_at place inputs texts strings = refl

-- ---- the headers

abbrev pub part_shdr : ℕ → ℕ → ℕ → ℕ → Shdr
part_shdr name type offset size = record {
  sh_name = name;
  sh_type = type;
  sh_flags = 0;
  sh_addr = 0;
  sh_offset = offset;
  sh_size = size;
  sh_link = 0;
  sh_info = 0;
  sh_addralign = 8;
  sh_entsize = 0;
}

abbrev pub tail_shdrs : (List ℕ → ℕ) → ℕ → ℕ → ℕ → ℕ → List Shdr
tail_shdrs offset tail n m k =
    part_shdr (offset inputs_name) 1 (first_at tail) n
    ∷ part_shdr (offset texts_name) 1 (second_at tail n) m
    ∷ part_shdr (offset strings_name) 3 (third_at tail n m) k ∷ []

abbrev pub link_shdrs : Placement → (List ℕ → ℕ) → ℕ → ℕ → ℕ → List Shdr
link_shdrs place offset n m k = null_header ∷ (map (row_header place offset) place.sections ++ tail_shdrs offset (tail_start place) n m k)

pub headers-are : (place : Placement) (inputs texts strings : List ℕ)
    → section_headers place (three_parts inputs texts strings)
    ≡ link_shdrs place (offset_in (table_of (names_of place))) (length inputs) (length texts) (length strings)
unfolding section_headers
headers-are place inputs texts strings = refl

pub length-headers : (place : Placement) (offset : List ℕ → ℕ) (n m k : ℕ) → length (link_shdrs place offset n m k) ≡ length place.sections + 4
length-headers place offset n m k =
    let all = length-append (map (row_header place offset) place.sections) (tail_shdrs offset (tail_start place) n m k) in
    let rows = length-map place.sections (row_header place offset) in
    omega (arith, all, rows)

-- ---- they fit

-- each of these texts is in a table of names
abbrev pub AllNamed : List (List ℕ) → List (List ℕ) → Type 0
AllNamed table texts = AllByRecursion (λ (t : List ℕ). list_any (bytes_eq t) table ≡ true) texts

same-text : (t : List ℕ) → bytes_eq t t ≡ true
same-text t = (bytes_eq-Decides t t).1 refl

named-behind : (table before texts : List (List ℕ)) → ((t : List ℕ) → list_any (bytes_eq t) (before ++ texts) ≡ true → list_any (bytes_eq t) table ≡ true) → AllNamed table texts
named-behind table before [] holds = tt
named-behind table before (x ∷ texts) holds =
    let front : list_any (bytes_eq x) (before ++ x ∷ texts) ≡ true =
    list_any-append (bytes_eq x) before (x ∷ texts) ∙ or_right (list_any (bytes_eq x) before) (list_any (bytes_eq x) (x ∷ texts)) (or_left (bytes_eq x x) (list_any (bytes_eq x) texts) (same-text x)) in
    let shape : (before ++ x ∷ []) ++ texts ≡ before ++ x ∷ texts = append_assoc before (x ∷ []) texts in
    (holds x front, named-behind table (before ++ x ∷ []) texts (λ t e. holds t (ap (list_any (bytes_eq t)) (sym shape) ∙ e)))

pub all-named : (texts : List (List ℕ)) → AllNamed (table_of texts) texts
all-named texts = named-behind (table_of texts) [] texts (λ t e. in-table texts t e)

pub named-first : (table xs ys : List (List ℕ)) → AllNamed table (xs ++ ys) → AllNamed table xs
named-first table [] ys all = tt
named-first table (x ∷ xs) ys (here, more) = (here, named-first table xs ys more)

pub named-second : (table xs ys : List (List ℕ)) → AllNamed table (xs ++ ys) → AllNamed table ys
named-second table [] ys all = all
named-second table (x ∷ xs) ys (here, more) = named-second table xs ys more

rows-fit : (place : Placement) (table : List (List ℕ)) (rows : List SectionRow) → length (table_bytes table) < 2 ^ 32 → length place.sections + 4 < 2 ^ 16
    → AllByRecursion RowFits rows → AllNamed table (map row_name rows) → AllByRecursion ShdrFits (map (row_header place (offset_in table)) rows)
rows-fit place table [] low few fits named = tt
rows-fit place table (row ∷ rows) low few (here, more) (own, others) =
    let below = offset-below table row.key.name own in
    (row-shdr-fits place (offset_in table) row here few (omega (arith, below, low)), rows-fit place table rows low few more others)

part-fits : (name type offset size : ℕ) → name < 2 ^ 32 → type < 2 ^ 32 → offset < 2 ^ 64 → size < 2 ^ 64 → ShdrFits (part_shdr name type offset size)
part-fits name type offset size a b c d = (a, b, omega arith, omega arith, c, d, omega arith, omega arith, omega arith, omega arith)

pub headers-fit : (place : Placement) (n m k : ℕ) → let table = table_of (names_of place) in
    length (table_bytes table) < 2 ^ 32 → length place.sections + 4 < 2 ^ 16 → AllByRecursion RowFits place.sections
    → headers_at (tail_start place) n m k < 2 ^ 32 → AllByRecursion ShdrFits (link_shdrs place (offset_in table) n m k)
headers-fit place n m k low few rows below =
    let table = table_of (names_of place) in
    let tail = tail_start place in
    let named = all-named (names_of place) in
    let (inputs, (texts, (strings, none))) = named-second table (map row_name place.sections) own_names named in
    let ends = parts-below tail n m k in
    let first = ends.first in
    let second = ends.second in
    let third = ends.third in
    let a = offset-below table inputs_name inputs in
    let b = offset-below table texts_name texts in
    let c = offset-below table strings_name strings in
    let tails : AllByRecursion ShdrFits (tail_shdrs (offset_in table) tail n m k) = (
      part-fits (offset_in table inputs_name) 1 (first_at tail) n (omega (arith, a, low)) (omega arith) (omega (arith, first, below)) (omega (arith, first, below)),
      (
        part-fits (offset_in table texts_name) 1 (second_at tail n) m (omega (arith, b, low)) (omega arith) (omega (arith, second, below)) (omega (arith, second, below)),
        (
          part-fits (offset_in table strings_name) 3 (third_at tail n m) k (omega (arith, c, low)) (omega arith) (omega (arith, third, below)) (omega (arith, third, below)),
          tt,
        ),
      ),
    ) in (
      null-fits,
      all-append ShdrFits (map (row_header place (offset_in table)) place.sections) (tail_shdrs (offset_in table) tail n m k)
          (rows-fit place table place.sections low few rows (named-first table (map row_name place.sections) own_names named)) tails,
    )
