-- The pieces of an object: their sections differ, and terminators alone have more bytes than their size.
use Rattle.std.proofs.Common.{◌≡◌, refl, sym, ap, subst, ◌∙◌, arith, ℕ, suc, nat_eq, ◌+◌, ◌<◌, ◌≤◌, ◌==◌, Bool, true, false, cond, ◌||◌, if◌then◌else◌, List, [], ◌∷◌, ◌++◌, drop, flat_map, length, Option, None, Some, option_and_then, option_map}
use Rattle.std.proofs.lemmas.Bool.{and_parts}
use Rattle.std.proofs.lemmas.Bool.Decides.{nat_tests}
use Rattle.std.proofs.lemmas.List.{append-nil, length-take}
use Rattle.std.specs.Cmp.Lexicographic.{bytes_decides}
use Rattle.std.specs.List.{AllByRecursion, cons_option, enumerate_from, filter_map, slice_get}
use Rattle.std.specs.Option.{option_to_list}
use Rattle.std.specs.Str.{bytes_eq}
use Rattle.lk_elf.specs.Numbers.{sht_nobits}
use Rattle.lk_elf.specs.declared.section_header.Shdr.{Shdr}
use Rattle.lk_model.specs.declared.layouts.SectionKey.{SectionKey}
use Rattle.lk_model.specs.declared.summaries.PieceInfo.{PieceInfo}
use Rattle.lk_model.specs.Elf.{bytes_under, section_at, section_name}
use Rattle.lk_model.specs.Objects.{four_zeros, is_frames, is_terminator, is_terminator_where, piece_bytes_in, piece_named, piece_with, pieces_in, relocations_in}
use Rattle.lk_model.specs.Pieces.{key_of}
use Rattle.lk_model.specs.Views.{Elf}
use Rattle.lk_model.proofs.Rising.{all_map}
use Rattle.lk_model.proofs.AddedOnce.{times}
use Rattle.lk_relocate.specs.PieceLists.{is_listed}

-- what is known of a piece of a file
pub record InfoRead (elf : Elf) (q : PieceInfo) : Type 0 where
  pub short : q.terminator ≡ false → length (piece_bytes_in elf q.section) ≤ q.size
  pub long : q.terminator ≡ true → q.size < length (piece_bytes_in elf q.section)

-- ---- bytes

bytes_most : (nobits : Bool) (elf : Elf) (header : Shdr) → length (cond nobits [] (bytes_under elf header) ++ []) ≤ header.sh_size
bytes_most true elf header = omega arith
bytes_most false elf header =
    let whole : length (bytes_under elf header ++ []) ≡ length (bytes_under elf header) = ap length (append-nil (bytes_under elf header)) in
    omega (arith, whole, length-take header.sh_size (drop header.sh_offset elf.bytes))

bytes_short : (elf : Elf) (n : ℕ) (header : Shdr) → section_at elf n ≡ Some header → length (piece_bytes_in elf n) ≤ header.sh_size
unfolding piece_bytes_in
bytes_short elf n header there =
    subst (λ (o : Option Shdr). length (flat_map (λ (h : Shdr). if h.sh_type == sht_nobits then [] else bytes_under elf h) (option_to_list o)) ≤ header.sh_size) (sym there)
    (bytes_most (header.sh_type == sht_nobits) elf header)

same_bytes : (xs ys : List ℕ) → bytes_eq xs ys ≡ true → xs ≡ ys
same_bytes xs ys e = (bytes_decides xs ys).0 e

four_bytes : (frames : Bool) (elf : Elf) (n : ℕ) → is_terminator_where frames elf n ≡ true → length (piece_bytes_in elf n) ≡ 4
unfolding is_terminator_where
four_bytes false elf n e = absurd (cc)
four_bytes true elf n e =
    ap length (same_bytes (piece_bytes_in elf n) four_zeros (and_parts (bytes_eq (piece_bytes_in elf n) four_zeros) (length (relocations_in elf n) == 0) e).0)

info_with : (elf : Elf) (n : ℕ) (header : Shdr) (name : List ℕ) (key : SectionKey) (terminator : Bool) → section_at elf n ≡ Some header → is_terminator elf n key ≡ terminator → InfoRead elf (piece_with n header name terminator key)
unfolding piece_with
info_with elf n header name key true there is =
    let four = four_bytes (is_frames key) elf n is in record { short = λ e. absurd (cc); long = λ e. omega (arith, four) }
info_with elf n header name key false there is = record { short = λ e. bytes_short elf n header there; long = λ e. absurd (cc) }

-- ---- pieces by their sections

abbrev found_piece : Elf → ℕ × Shdr → Option PieceInfo
found_piece elf row = option_and_then (piece_named elf row.0 row.1) (section_name elf row.0)

-- what a section that is a piece says of it
record IsPieceAt (elf : Elf) (n : ℕ) (header : Shdr) (q : PieceInfo) : Type 0 where
  number : q.section ≡ n
  read : section_at elf n ≡ Some header → InfoRead elf q

piece_at : (elf : Elf) (n : ℕ) (header : Shdr) (name : List ℕ) (key : SectionKey) → IsPieceAt elf n header (piece_with n header name (is_terminator elf n key) key)
unfolding piece_with
piece_at elf n header name key = record {
  number = refl;
  read = λ there. info_with elf n header name key (is_terminator elf n key) there refl;
}

keyed : (elf : Elf) (n : ℕ) (header : Shdr) (name : List ℕ) (o : Option SectionKey) (q : PieceInfo) → option_map (λ (key : SectionKey). piece_with n header name (is_terminator elf n key) key) o ≡ Some q → IsPieceAt elf n header q
keyed elf n header name None q e = absurd (cc)
keyed elf n header name (Some key) q e =
    let same : piece_with n header name (is_terminator elf n key) key ≡ q = cc in
    subst (IsPieceAt elf n header) same (piece_at elf n header name key)

named : (elf : Elf) (n : ℕ) (header : Shdr) (name : List ℕ) (q : PieceInfo) → piece_named elf n header name ≡ Some q → IsPieceAt elf n header q
unfolding piece_named
named elf n header name q e = keyed elf n header name (key_of name header.sh_type header.sh_flags) q e

found : (elf : Elf) (n : ℕ) (header : Shdr) (q : PieceInfo) (o : Option (List ℕ)) → option_and_then (piece_named elf n header) o ≡ Some q → IsPieceAt elf n header q
found elf n header q None e = absurd (cc)
found elf n header q (Some name) e = named elf n header name q e

-- what holds of pieces that are found section by section
module _ (elf : Elf) (P : ℕ → Shdr → Type 0) (Q : PieceInfo → Type 0) (gives : (n : ℕ) (header : Shdr) (q : PieceInfo) → P n header → IsPieceAt elf n header q → Q q) where
  abbrev AllFrom : ℕ → List Shdr → Type 0
  AllFrom n [] = Unit {0}
  AllFrom n (h ∷ hs) = P n h × AllFrom (n + 1) hs

  all_found : (n : ℕ) (hs : List Shdr) → AllFrom n hs → AllByRecursion Q (filter_map (found_piece elf) (enumerate_from n hs))
  all_found n [] h = tt
  all_found n (header ∷ hs) h = by (found_piece elf (n, header)) refl (all_found (n + 1) hs h.1)
    where
      by : (o : Option PieceInfo) → found_piece elf (n, header) ≡ o → AllByRecursion Q (filter_map (found_piece elf) (enumerate_from (n + 1) hs)) → AllByRecursion Q (cons_option o (filter_map (found_piece elf) (enumerate_from (n + 1) hs)))
      by None e rest = rest
      by (Some q) e rest = (gives n header q h.0 (found elf n header q (section_name elf n) e), rest)

-- each is read of its section
abbrev IsSectionAt : Elf → ℕ → Shdr → Type 0
IsSectionAt elf n header = section_at elf n ≡ Some header

all_there : (elf : Elf) (n : ℕ) (hs : List Shdr) → ((m : ℕ) (h : Shdr) → slice_get hs m ≡ Some h → section_at elf (n + m) ≡ Some h) → AllFrom elf (IsSectionAt elf) (InfoRead elf) (λ k header q there is. is.read there) n hs
all_there elf n [] each = tt
all_there elf n (h ∷ hs) each =
    let here : n + 0 ≡ n = omega arith in (
      subst (IsSectionAt elf n) refl (ap (section_at elf) (sym here) ∙ each 0 h refl),
      all_there elf (n + 1) hs (λ m x e. let later : n + 1 + m ≡ n + suc m = omega arith in ap (section_at elf) later ∙ each (suc m) x e),
    )

after_first : (elf : Elf) (headers : List Shdr) (m : ℕ) (h : Shdr) → headers ≡ elf.sections → slice_get (drop 1 headers) m ≡ Some h → section_at elf (suc m) ≡ Some h
after_first elf [] m h same e = absurd (cc)
after_first elf (x ∷ headers) m h same e = ap (λ (hs : List Shdr). slice_get hs (suc m)) (sym same) ∙ e

pub infos_read : (elf : Elf) → AllByRecursion (InfoRead elf) (pieces_in elf)
unfolding pieces_in
infos_read elf =
    all_found elf (IsSectionAt elf) (InfoRead elf) (λ k header q there is. is.read there) 1 (drop 1 elf.sections)
    (all_there elf 1 (drop 1 elf.sections) (λ m h e. let number : 1 + m ≡ suc m = omega arith in ap (section_at elf) number ∙ after_first elf elf.sections m h refl e))

-- ---- each section once

none_below : (s n : ℕ) (qs : List PieceInfo) → s < n → AllByRecursion (λ (q : PieceInfo). n ≤ q.section) qs → times (λ (q : PieceInfo). q.section == s) qs ≡ 0
none_below s n [] less all = refl
none_below s n (q ∷ qs) less all =
    let later : times (λ (q : PieceInfo). q.section == s) qs ≡ 0 = none_below s n qs less all.1 in
    let above : n ≤ q.section = all.0 in
    let other : (q.section == s) ≡ false = grind (arith, nat_tests) in
    let none : ◌≡◌ {A = ℕ} (cond (q.section == s) 1 0) 0 = ap (λ b. cond b 1 0) other in
    omega arith

abbrev IsAtLeast : ℕ → ℕ → Shdr → Type 0
IsAtLeast least n header = least ≤ n

all_least : (elf : Elf) (least n : ℕ) (hs : List Shdr) → least ≤ n → AllFrom elf (IsAtLeast least) (λ (q : PieceInfo). least ≤ q.section) (λ k header q at is. let number = is.number in omega (arith, at, number)) n hs
all_least elf least n [] le = tt
all_least elf least n (h ∷ hs) le = (le, all_least elf least (n + 1) hs (omega arith))

once_from : (elf : Elf) (s n : ℕ) (hs : List Shdr) → times (λ (q : PieceInfo). q.section == s) (filter_map (found_piece elf) (enumerate_from n hs)) ≤ 1
once_from elf s n [] = omega arith
once_from elf s n (h ∷ hs) = by (found_piece elf (n, h)) refl (once_from elf s (n + 1) hs)
  where
    rest : List PieceInfo
    rest = filter_map (found_piece elf) (enumerate_from (n + 1) hs)

    above : AllByRecursion (λ (q : PieceInfo). n + 1 ≤ q.section) rest
    above = all_found elf (IsAtLeast (n + 1)) (λ (q : PieceInfo). n + 1 ≤ q.section) (λ k header q at is. let number = is.number in omega (arith, at, number)) (n + 1) hs (all_least elf (n + 1) (n + 1) hs (omega arith))

    first : (q : PieceInfo) (b : Bool) → (q.section == s) ≡ b → q.section ≡ n → times (λ (q : PieceInfo). q.section == s) rest ≤ 1 → cond b 1 0 + times (λ (q : PieceInfo). q.section == s) rest ≤ 1
    first q true is number later =
        let less : s < n + 1 = grind (arith, nat_tests) in
        let none : times (λ (q : PieceInfo). q.section == s) rest ≡ 0 = none_below s (n + 1) rest less above in
        omega arith
    first q false is number later = omega arith

    by : (o : Option PieceInfo) → found_piece elf (n, h) ≡ o → times (λ (q : PieceInfo). q.section == s) rest ≤ 1 → times (λ (q : PieceInfo). q.section == s) (cons_option o rest) ≤ 1
    by None e later = later
    by (Some q) e later = first q (q.section == s) refl (found elf n h q (section_name elf n) e).number later

pub sections_once : (elf : Elf) (s : ℕ) → times (λ (q : PieceInfo). q.section == s) (pieces_in elf) ≤ 1
unfolding pieces_in
sections_once elf s = once_from elf s 1 (drop 1 elf.sections)

-- ---- each is listed

or_right : (a b : Bool) → b ≡ true → (a || b) ≡ true
or_right true b e = refl
or_right false b e = e

number_is : (n : ℕ) → nat_eq n n ≡ true
number_is n = grind (arith, nat_tests)

pub all_listed : (qs : List PieceInfo) → AllByRecursion (λ (q : PieceInfo). is_listed q.section qs ≡ true) qs
all_listed [] = tt
all_listed (q ∷ qs) = (
  ap (λ b. b || is_listed q.section qs) (number_is q.section),
  all_map (λ (p : PieceInfo) h. or_right (nat_eq p.section q.section) (is_listed p.section qs) h) qs (all_listed qs),
)
