-- The numbers that the headers of sections hold fit their fields (gABI "Sections").
use Rattle.std.proofs.Common.{◌≡◌, ℕ, ◌+◌, ◌^◌, ◌<◌, ◌≤◌, Bool, true, false, cond, not, List, [], ◌∷◌, length, refl, arith}
use Rattle.std.specs.Prelude.{codes, Some, None, option_map, unwrap_or, find, position, nat_lt, if◌then◌else◌}
use Rattle.std.specs.List.{AllByRecursion, position_or_len}
use Rattle.std.proofs.lemmas.Bool.{ltb-true}
use Rattle.lk_model.specs.SectionKeys.{header_flags, header_type, in_file, is_note, same_key, typed_keys}
use Rattle.lk_model.specs.Tail.{entry_size_of, entry_sizes, header_number, info_of, link_of, names_symbols, names_texts, null_header, row_header}
use Rattle.lk_model.specs.declared.layouts.Class.{Class}
use Rattle.lk_model.specs.declared.layouts.Class.TheVariants.{R, X, W, WX, Tdata, Tbss, Bss, N}
use Rattle.lk_model.specs.declared.layouts.Placement.{Placement}
use Rattle.lk_model.specs.declared.layouts.SectionKey.{SectionKey}
use Rattle.lk_model.specs.declared.layouts.SectionRow.{SectionRow}
use Rattle.lk_law_records.specs.Recordable.{RowFits}
use Rattle.lk_law_records.proofs.SectionsBack.{ShdrFits}

pub either-low : (b : Bool) (x y most : ℕ) → x < most → y < most → (if b then x else y) < most
either-low true x y most first second = first
either-low false x y most first second = second

-- ---- numbers that a key says

among-low : (keys : List (SectionKey × ℕ)) (key : SectionKey) (other most : ℕ) → AllByRecursion (λ (row : SectionKey × ℕ). row.1 < most) keys → other < most
    → unwrap_or (option_map (λ (row : SectionKey × ℕ). row.1) (find (λ (row : SectionKey × ℕ). same_key key row.0) keys)) other < most
among-low [] key other most low default = default
among-low (k ∷ keys) key other most (here, more) default = go (same_key key k.0) (among-low keys key other most more default)
  where
    go : (b : Bool) → unwrap_or (option_map (λ (row : SectionKey × ℕ). row.1) (find (λ (row : SectionKey × ℕ). same_key key row.0) keys)) other < most
        → unwrap_or (option_map (λ (row : SectionKey × ℕ). row.1) (cond b (Some k) (find (λ (row : SectionKey × ℕ). same_key key row.0) keys))) other < most
    go true rest = here
    go false rest = rest

type-low : (key : SectionKey) → header_type key < 2 ^ 32
unfolding header_type
type-low key =
    let typed = among-low typed_keys key 1 (2 ^ 32)
    (omega arith, (omega arith, (omega arith, (omega arith, (omega arith, (omega arith, (omega arith, (omega arith, (omega arith, tt))))))))) (omega arith) in
    let by_key = unwrap_or (option_map (λ (row : SectionKey × ℕ). row.1) (find (λ (row : SectionKey × ℕ). same_key key row.0) typed_keys)) 1 in
    either-low (not (in_file key.class)) 8 (if is_note key then 7 else by_key) (2 ^ 32) (omega arith)
    (either-low (is_note key) 7 by_key (2 ^ 32) (omega arith) typed)

flags-low : (c : Class) → header_flags c < 2 ^ 64
flags-low R = omega arith
flags-low X = omega arith
flags-low W = omega arith
flags-low WX = omega arith
flags-low Tdata = omega arith
flags-low Tbss = omega arith
flags-low Bss = omega arith
flags-low N = omega arith

info-low : (key : SectionKey) → info_of key < 2 ^ 32
info-low key = either-low (same_key key (record { name = codes ".dynsym"; class = R })) 1 0 (2 ^ 32) (omega arith) (omega arith)

entry-low : (key : SectionKey) → entry_size_of key < 2 ^ 64
entry-low key = among-low entry_sizes key 0 (2 ^ 64) (omega arith, (omega arith, (omega arith, (omega arith, (omega arith, tt))))) (omega arith)

-- ---- the number of a header

position-low : {X : Type 0} (test : X → Bool) (xs : List X) (most : ℕ) → length xs + 1 ≤ most → 0 < most
    → elim (position test xs) [ None ↦ 0 | Some n ↦ n + 1 ] < most + 1
position-low test xs most few some = go (nat_lt (position_or_len test xs) (length xs)) refl
  where
    go : (b : Bool) → nat_lt (position_or_len test xs) (length xs) ≡ b → elim (cond b (Some (position_or_len test xs)) None) [ None ↦ 0 | Some n ↦ n + 1 ] < most + 1
    go true e = let below = ltb-true (position_or_len test xs) (length xs) e in omega (arith, below, few)
    go false e = omega arith

number-low : (place : Placement) (key : SectionKey) → length place.sections + 4 < 2 ^ 16 → header_number place key < 2 ^ 32
number-low place key few =
    let low = position-low (λ (row : SectionRow). same_key row.key key) place.sections (length place.sections + 1) (omega arith) (omega arith) in
    omega (arith, low, few)

link-low : (place : Placement) (key : SectionKey) → length place.sections + 4 < 2 ^ 16 → link_of place key < 2 ^ 32
link-low place key few =
    let symbols = header_number place (record { name = codes ".dynsym"; class = R }) in
    let texts = header_number place (record { name = codes ".dynstr"; class = R }) in
    either-low (names_symbols key) symbols (if names_texts key then texts else 0) (2 ^ 32) (number-low place (record { name = codes ".dynsym"; class = R }) few)
    (either-low (names_texts key) texts 0 (2 ^ 32) (number-low place (record { name = codes ".dynstr"; class = R }) few) (omega arith))

-- ---- a header

pub null-fits : ShdrFits null_header
null-fits = (omega arith, omega arith, omega arith, omega arith, omega arith, omega arith, omega arith, omega arith, omega arith, omega arith)

pub row-shdr-fits : (place : Placement) (offset : List ℕ → ℕ) (row : SectionRow) → RowFits row → length place.sections + 4 < 2 ^ 16 → offset row.key.name < 2 ^ 32 → ShdrFits (row_header place offset row)
row-shdr-fits place offset row fits few name = (
  name,
  type-low row.key,
  flags-low row.key.class,
  fits.addr,
  fits.offset,
  fits.size,
  link-low place row.key few,
  info-low row.key,
  fits.align,
  entry-low row.key,
)
