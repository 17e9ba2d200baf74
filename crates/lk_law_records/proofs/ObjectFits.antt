-- What is kept of an object fits the fields of its records (gABI "Sections", "Symbol Table", "Section
-- Groups"), whatever the file holds.
use Rattle.std.specs.Prelude.{◌≡◌, refl, ℕ, zero, suc, nat_eq, ◌+◌, ◌*◌, ◌/◌, ◌^◌, ◌<◌, ◌≤◌, ◌==◌, Bool, true, false, not, if◌then◌else◌, List, [], ◌∷◌, drop, filter, filter_map, length, Option, Some, None, option_and_then, option_map, slice_get}
use Rattle.std.specs.Bool.{then_some}
use Rattle.std.specs.List.{AllByRecursion, IsDistinct, cons_option, enumerate_from}
use Rattle.std.proofs.Common.{arith, subst}
use Rattle.std.proofs.lemmas.Bool.{leb-true}
use Rattle.std.proofs.lemmas.Bool.Decides.{nat_tests}
use Rattle.lk_elf.specs.Fields.{num}
use Rattle.lk_elf.specs.declared.section_header.Shdr.{Shdr}
use Rattle.lk_elf.specs.declared.symbol.Sym.{Sym}
use Rattle.lk_model.specs.Elf.{lies_in, numbered, section_name, symbol_name}
use Rattle.lk_model.specs.Objects.{global_with, globals_in, group_sections, groups_in, home_of, is_comdat, is_local, is_terminator, members_under, name_or_section, numbered_symbols, piece_named, piece_with, pieces_in, section_name_of, signature_of, signature_with, summary_in, words_under}
use Rattle.lk_model.specs.Pieces.{class_of, is_piece, key_of, output_name}
use Rattle.lk_model.specs.Views.{Elf}
use Rattle.lk_model.specs.declared.layouts.SectionKey.{SectionKey}
use Rattle.lk_model.specs.declared.summaries.Global.{Global}
use Rattle.lk_model.specs.declared.summaries.Group.{Group}
use Rattle.lk_model.specs.declared.summaries.Home.{Home}
use Rattle.lk_model.specs.declared.summaries.Home.TheVariants as home
use Rattle.lk_model.specs.declared.summaries.PieceInfo.{PieceInfo}
use Rattle.lk_model.proofs.Rising.{all_filter}
use Rattle.lk_law_records.specs.Recordable.{GlobalFits, GroupFits, HomeFits, PieceFits, SummaryFits, has_zero, numbers_of}
use Rattle.lk_law_records.proofs.ByteNumbers.{IsLowElf, IsLowShdr, IsLowSym, num-below, counted}
use Rattle.lk_law_records.proofs.Lists.{all-drop, all-found, all-numbered, all-range, and-then, found-in-map, length-drop-most, length-enumerated, length-found, length-mapped, length-passing}
use Rattle.lk_law_records.proofs.ReadNames.{section-name-clean, symbol-name-clean}

-- ---- pieces

-- what a piece is of section n
pub record IsPieceOf (elf : Elf) (n : ℕ) (h : Shdr) (p : PieceInfo) : Type 0 where
  pub section : p.section ≡ n
  pub named : section_name elf n ≡ Some p.name
  pub linked : is_piece p.name h.sh_type h.sh_flags ≡ true
  pub key : p.key.name ≡ output_name p.key.class p.name
  pub size : p.size ≤ h.sh_size
  pub align : h.sh_addralign < 2 ^ 64 → p.align < 2 ^ 64

size-most : (terminator : Bool) (n : ℕ) → (if terminator then 0 else n) ≤ n
size-most true n = omega arith
size-most false n = omega arith

align-most : (none : Bool) (n : ℕ) → n < 2 ^ 64 → (if none then 1 else n) < 2 ^ 64
align-most true n low = omega arith
align-most false n low = low

piece-of : (elf : Elf) (n : ℕ) (h : Shdr) (name : List ℕ) (terminator : Bool) (key : SectionKey) → section_name elf n ≡ Some name → is_piece name h.sh_type h.sh_flags ≡ true
    → key.name ≡ output_name key.class name → IsPieceOf elf n h (piece_with n h name terminator key)
unfolding piece_with
piece-of elf n h name terminator key named linked key_is = record {
  section = refl;
  named = named;
  linked = linked;
  key = key_is;
  size = size-most terminator h.sh_size;
  align = align-most (h.sh_addralign == 0) h.sh_addralign;
}

pub piece-found : (elf : Elf) (n : ℕ) (h : Shdr) (p : PieceInfo) → option_and_then (piece_named elf n h) (section_name elf n) ≡ Some p → IsPieceOf elf n h p
unfolding piece_named key_of
piece-found elf n h p e =
    let found = and-then (section_name elf n) (piece_named elf n h) p e in
    let name = found.0 in
    go name found.1.0 (is_piece name h.sh_type h.sh_flags) refl found.1.1
  where
    go : (name : List ℕ) → section_name elf n ≡ Some name → (b : Bool) → is_piece name h.sh_type h.sh_flags ≡ b
        → option_map (λ (key : SectionKey). piece_with n h name (is_terminator elf n key) key)
        (then_some b (record { name = output_name (class_of h.sh_type h.sh_flags) name; class = class_of h.sh_type h.sh_flags })) ≡ Some p
        → IsPieceOf elf n h p
    go name named false e h' = absurd (cc)
    go name named true e h' =
        let key : SectionKey = record { name = output_name (class_of h.sh_type h.sh_flags) name; class = class_of h.sh_type h.sh_flags } in
        let is : piece_with n h name (is_terminator elf n key) key ≡ p = cc in
        subst (IsPieceOf elf n h) is (piece-of elf n h name (is_terminator elf n key) key named e refl)

piece-fits : (elf : Elf) (n : ℕ) (h : Shdr) (p : PieceInfo) → n < 2 ^ 32 → IsLowShdr h → IsPieceOf elf n h p → PieceFits p
piece-fits elf n h p few low is =
    let section = is.section in
    let size = is.size in
    let size-low = low.size in
    let name : has_zero p.name ≡ false = section-name-clean elf n p.name is.named in
    record {
      section = omega (arith, section, few);
      name = name;
      key = is.key;
      size = omega (arith, size, size-low);
      align = is.align low.align;
    }

-- the sections in a file with their numbers
numbered-sections : (elf : Elf) → IsLowElf elf → AllByRecursion (λ (row : ℕ × Shdr). (row.0 < 2 ^ 17) × IsLowShdr row.1) (numbered elf.sections)
numbered-sections elf low =
    let few = low.few in
    let most = length-drop-most 1 elf.sections in
    all-numbered IsLowShdr 1 (2 ^ 17) (drop 1 elf.sections) (omega (arith, few, most)) (all-drop IsLowShdr 1 elf.sections low.sections)

abbrev pub found_piece : Elf → ℕ × Shdr → Option PieceInfo
found_piece elf row = option_and_then (piece_named elf row.0 row.1) (section_name elf row.0)

pieces-fit : (elf : Elf) → IsLowElf elf → AllByRecursion PieceFits (pieces_in elf)
unfolding pieces_in
pieces-fit elf low =
    all-found (λ (row : ℕ × Shdr). (row.0 < 2 ^ 17) × IsLowShdr row.1) PieceFits (found_piece elf) (numbered elf.sections)
    (λ row own p e. let few = own.0 in piece-fits elf row.0 row.1 p (omega (arith, few)) own.1 (piece-found elf row.0 row.1 p e))
    (numbered-sections elf low)

-- ---- their numbers differ

above-all : (elf : Elf) (n : ℕ) (hs : List Shdr) → AllByRecursion (λ s. n ≤ s) (numbers_of (filter_map (found_piece elf) (enumerate_from n hs)))
above-all elf n [] = tt
above-all elf n (h ∷ hs) = go (found_piece elf (n, h)) refl (lower n (numbers_of (filter_map (found_piece elf) (enumerate_from (n + 1) hs))) (above-all elf (n + 1) hs))
  where
    lower : (n : ℕ) (ss : List ℕ) → AllByRecursion (λ s. n + 1 ≤ s) ss → AllByRecursion (λ s. n ≤ s) ss
    lower n [] all = tt
    lower n (s ∷ ss) (here, more) = (omega (arith, here), lower n ss more)

    go : (o : Option PieceInfo) → found_piece elf (n, h) ≡ o → AllByRecursion (λ s. n ≤ s) (numbers_of (filter_map (found_piece elf) (enumerate_from (n + 1) hs)))
        → AllByRecursion (λ s. n ≤ s) (numbers_of (cons_option o (filter_map (found_piece elf) (enumerate_from (n + 1) hs))))
    go None e rest = rest
    go (Some p) e rest = let is = (piece-found elf n h p e).section in (omega (arith, is), rest)

all-differ : (n s : ℕ) (ss : List ℕ) → s ≡ n → AllByRecursion (λ t. n + 1 ≤ t) ss → AllByRecursion (λ t. nat_eq s t ≡ false) ss
all-differ n s [] is all = tt
all-differ n s (t ∷ ss) is (here, more) = (grind (arith, nat_tests), all-differ n s ss is more)

sections-distinct : (elf : Elf) (n : ℕ) (hs : List Shdr) → IsDistinct nat_eq (numbers_of (filter_map (found_piece elf) (enumerate_from n hs)))
unfolding IsDistinct
sections-distinct elf n [] = tt
sections-distinct elf n (h ∷ hs) = go (found_piece elf (n, h)) refl (sections-distinct elf (n + 1) hs)
  where
    go : (o : Option PieceInfo) → found_piece elf (n, h) ≡ o → IsDistinct nat_eq (numbers_of (filter_map (found_piece elf) (enumerate_from (n + 1) hs)))
        → IsDistinct nat_eq (numbers_of (cons_option o (filter_map (found_piece elf) (enumerate_from (n + 1) hs))))
    go None e rest = rest
    go (Some p) e rest =
        (all-differ n p.section (numbers_of (filter_map (found_piece elf) (enumerate_from (n + 1) hs))) (piece-found elf n h p e).section (above-all elf (n + 1) hs), rest)

pieces-distinct : (elf : Elf) → IsDistinct nat_eq (numbers_of (pieces_in elf))
unfolding pieces_in
pieces-distinct elf = sections-distinct elf 1 (drop 1 elf.sections)

pieces-few : (elf : Elf) → IsLowElf elf → length (pieces_in elf) < 2 ^ 32
unfolding pieces_in
pieces-few elf low =
    let few = low.few in
    let found = length-found (found_piece elf) (numbered elf.sections) in
    let count = length-enumerated 1 (drop 1 elf.sections) in
    let most = length-drop-most 1 elf.sections in
    omega (arith, few, found, count, most)

-- ---- symbols

home-fits : (n : ℕ) → n < 2 ^ 16 → HomeFits (home_of n)
home-fits n low = go (n == 0) (n == 0xfff1) (n == 0xfff2)
  where
    go : (a b c : Bool) → HomeFits (if a then home.Undefined else if b then home.Absolute else if c then home.Common else home.Section n)
    go true b c = tt
    go false true c = tt
    go false false true = tt
    go false false false = omega (arith, low)

global-fits : (k : ℕ) (s : Sym) (name : List ℕ) → k < 2 ^ 32 → IsLowSym s → has_zero name ≡ false → GlobalFits (global_with k s name)
unfolding global_with
global-fits k s name few low clean =
    let info = low.info in
    record {
      symbol = few;
      name = clean;
      binding = omega (arith, info);
      code = omega arith;
      visibility = omega arith;
      home = home-fits s.st_shndx low.section;
      value = low.value;
      size = low.size;
    }

global-found : (elf : Elf) (k : ℕ) (s : Sym) (g : Global) → k < 2 ^ 32 → IsLowSym s → option_map (global_with k s) (symbol_name elf k) ≡ Some g → GlobalFits g
global-found elf k s g few low e =
    let found = found-in-map (global_with k s) (symbol_name elf k) g e in
    subst GlobalFits found.1.1 (global-fits k s found.0 few low (symbol-name-clean elf k found.0 found.1.0))

numbered-syms : (elf : Elf) → IsLowElf elf → AllByRecursion (λ (row : ℕ × Sym). (row.0 < 2 ^ 32) × IsLowSym row.1) (numbered_symbols elf)
numbered-syms elf low =
    let few = low.symbols_few in
    let most = length-drop-most 1 elf.symbols in
    all-numbered IsLowSym 1 (2 ^ 32) (drop 1 elf.symbols) (omega (arith, few, most)) (all-drop IsLowSym 1 elf.symbols low.symbols)

abbrev found_global : Elf → ℕ × Sym → Option Global
found_global elf row = option_map (global_with row.0 row.1) (symbol_name elf row.0)

globals-fit : (elf : Elf) → IsLowElf elf → AllByRecursion GlobalFits (globals_in elf)
unfolding globals_in
globals-fit elf low =
    let outer : ℕ × Sym → Bool = λ row. not (is_local row.1) in
    all-found (λ (row : ℕ × Sym). (row.0 < 2 ^ 32) × IsLowSym row.1) GlobalFits (found_global elf) (filter outer (numbered_symbols elf))
    (λ row own g e. global-found elf row.0 row.1 g own.0 own.1 e)
    (all_filter (λ (row : ℕ × Sym). (row.0 < 2 ^ 32) × IsLowSym row.1) outer (numbered_symbols elf) (numbered-syms elf low))

globals-few : (elf : Elf) → IsLowElf elf → length (globals_in elf) < 2 ^ 32
unfolding globals_in
globals-few elf low =
    let few = low.symbols_few in
    let outer : ℕ × Sym → Bool = λ row. not (is_local row.1) in
    let found = length-found (found_global elf) (filter outer (numbered_symbols elf)) in
    let passing = length-passing outer (numbered_symbols elf) in
    let count = length-enumerated 1 (drop 1 elf.symbols) in
    let most = length-drop-most 1 elf.symbols in
    omega (arith, few, found, passing, count, most)

-- ---- groups

section-of-clean : (elf : Elf) (h : Home) (t : List ℕ) → section_name_of elf h ≡ Some t → has_zero t ≡ false
section-of-clean elf home.Undefined t e = absurd (cc)
section-of-clean elf (home.Section n) t e = section-name-clean elf n t e
section-of-clean elf home.Absolute t e = absurd (cc)
section-of-clean elf home.Common t e = absurd (cc)
section-of-clean elf home.Shared t e = absurd (cc)

name-or-clean : (elf : Elf) (h : Home) (name t : List ℕ) → has_zero name ≡ false → name_or_section elf h name ≡ Some t → has_zero t ≡ false
name-or-clean elf h [] t clean e = section-of-clean elf h t e
name-or-clean elf h (b ∷ bs) t clean e = let is : b ∷ bs ≡ t = cc in subst (λ l. has_zero l ≡ false) is clean

signature-with-clean : (elf : Elf) (k : ℕ) (s : Sym) (t : List ℕ) → signature_with elf k s ≡ Some t → has_zero t ≡ false
signature-with-clean elf k s t e =
    let found = and-then (symbol_name elf k) (name_or_section elf (home_of s.st_shndx)) t e in
    name-or-clean elf (home_of s.st_shndx) found.0 t (symbol-name-clean elf k found.0 found.1.0) found.1.1

signature-clean : (elf : Elf) (k : ℕ) (t : List ℕ) → signature_of elf k ≡ Some t → has_zero t ≡ false
unfolding signature_of
signature-clean elf zero t e = absurd (cc)
signature-clean elf (suc k) t e =
    let found = and-then (slice_get elf.symbols (suc k)) (signature_with elf (suc k)) t e in
    signature-with-clean elf (suc k) found.0 t found.1.1

words-low : (elf : Elf) (h : Shdr) → IsLowElf elf → AllByRecursion (λ n. n < 2 ^ 32) (words_under elf h)
unfolding words_under
words-low elf h low =
    all-range (λ n. n < 2 ^ 32) (λ k. num elf.bytes (h.sh_offset + 4 * k) 4) 0 (if lies_in elf.bytes h.sh_offset h.sh_size then h.sh_size / 4 else 0)
    (λ k. num-below elf.bytes (h.sh_offset + 4 * k) 4 low.are)

words-few : (elf : Elf) (h : Shdr) → IsLowElf elf → length (words_under elf h) < 2 ^ 32
unfolding words_under
words-few elf h low =
    let inside = lies_in elf.bytes h.sh_offset h.sh_size in
    let n = h.sh_size / 4 in
    let short = low.size in
    let long = length-mapped (λ k. num elf.bytes (h.sh_offset + 4 * k) 4) 0 (if inside then n else 0) in
    let most = counted inside n (length elf.bytes) (λ e. let end = leb-true (h.sh_offset + h.sh_size) (length elf.bytes) e in omega (arith, end)) in
    omega (arith, long, most, short)

group-fits : (elf : Elf) (h : Shdr) (signature : List ℕ) → IsLowElf elf → has_zero signature ≡ false → GroupFits (record { signature = signature; members = members_under elf h })
group-fits elf h signature low clean =
    let few = words-few elf h low in
    let most = length-drop-most 1 (words_under elf h) in
    record { signature = clean; count = omega (arith, few, most); members = all-drop (λ n. n < 2 ^ 32) 1 (words_under elf h) (words-low elf h low) }

abbrev found_group : Elf → ℕ × Shdr → Option Group
found_group elf row = option_map (λ signature. record { signature = signature; members = members_under elf row.1 }) (signature_of elf row.1.sh_info)

group-found : (elf : Elf) (row : ℕ × Shdr) (g : Group) → IsLowElf elf → found_group elf row ≡ Some g → GroupFits g
group-found elf row g low e =
    let made : List ℕ → Group = λ signature. record { signature = signature; members = members_under elf row.1 } in
    let found = found-in-map made (signature_of elf row.1.sh_info) g e in
    subst GroupFits found.1.1 (group-fits elf row.1 found.0 low (signature-clean elf row.1.sh_info found.0 found.1.0))

abbrev comdats : Elf → List (ℕ × Shdr)
comdats elf = filter (λ (row : ℕ × Shdr). is_comdat elf row.1) (group_sections elf)

every : {X : Type 0} (xs : List X) → AllByRecursion (λ x. Unit {0}) xs
every [] = tt
every (x ∷ xs) = (tt, every xs)

groups-fit : (elf : Elf) → IsLowElf elf → AllByRecursion GroupFits (groups_in elf)
unfolding groups_in
groups-fit elf low = all-found (λ (row : ℕ × Shdr). Unit {0}) GroupFits (found_group elf) (comdats elf) (λ row own g e. group-found elf row g low e) (every (comdats elf))

groups-few : (elf : Elf) → IsLowElf elf → length (groups_in elf) < 2 ^ 32
unfolding groups_in
groups-few elf low =
    let few = low.few in
    let found = length-found (found_group elf) (comdats elf) in
    let first = length-passing (λ (row : ℕ × Shdr). is_comdat elf row.1) (group_sections elf) in
    let second = length-passing (λ (row : ℕ × Shdr). row.1.sh_type == 17) (numbered elf.sections) in
    let count = length-enumerated 1 (drop 1 elf.sections) in
    let most = length-drop-most 1 elf.sections in
    omega (arith, few, found, first, second, count, most)

-- ---- the whole

pub object-fits : (elf : Elf) → IsLowElf elf → SummaryFits (summary_in elf)
unfolding summary_in
object-fits elf low = record {
  soname = refl;
  piece_count = pieces-few elf low;
  pieces = pieces-fit elf low;
  sections = pieces-distinct elf;
  global_count = globals-few elf low;
  globals = globals-fit elf low;
  group_count = groups-few elf low;
  groups = groups-fit elf low;
}
