-- What holds of a file without a fault: the bytes of a piece lie in it, and so do the fields of the piece's
-- relocations, whose symbols are there.
use Rattle.std.specs.Prelude.{◌≡◌, refl, ℕ, zero, suc, ◌+◌, ◌==◌, ◌<◌, ◌≤◌, Bool, true, false, not, ◌&&◌, ◌||◌, cond, if◌then◌else◌, nat_lt, IsTrue, List, [], ◌∷◌, ◌++◌, All, drop, filter, flat_map, is_some, length, option_to_list, take, Option, Some, None, option_and_then, IfSome}
use mathlib.Core.Logic.{⊎_elim}
use Rattle.std.specs.List.{enumerate_from}
use Rattle.std.proofs.Common.{ap, arith, get_or, length-drop, subst, sym, ◌∙◌}
use Rattle.std.proofs.lemmas.Bool.{eqb-true}
use Rattle.std.proofs.lemmas.Bool.Decides.{eqb_tells, nat_tests}
use Rattle.std.proofs.lemmas.Grind.{get_or_after_one}
use Rattle.std.proofs.lemmas.List.{append-nil, length-take}
use Rattle.std.proofs.lemmas.List.Elements.{All-append, All-cons, All-head, All-nil, All-tail, All-weaker, filter_passes}
use Rattle.std.proofs.lemmas.List.FromFn.{get_or-enumerate_from, length-enumerate_from}
use Rattle.std.proofs.lemmas.Option.{get_or_from_slice_get, slice_get_within}
use Rattle.lk_elf.specs.Numbers.{sht_nobits, sht_null, sht_rela}
use Rattle.lk_elf.specs.declared.relocation.Rela.{Rela}
use Rattle.lk_elf.specs.declared.section_header.Shdr.{Shdr}
use Rattle.lk_report.specs.declared.faults.InputFault.{InputFault}
use Rattle.lk_model.specs.Checks.{first_fault, is_some_with}
use Rattle.lk_model.specs.Elf.{bytes_under, elf_of, lies_in, numbered, section_at, section_name, symbol_table}
use Rattle.lk_model.specs.Kinds.{kind_checks}
use Rattle.lk_model.specs.ObjectChecks.{entry_checks, is_cut_off, is_outside, object_checks, object_fault, object_fault_after, rela_checks, rela_section_checks, rela_sections, section_checks, section_checks_named, symbol_checks, symbol_table_checks, table_checks}
use Rattle.lk_model.specs.Objects.{is_piece_in, key_in, piece_bytes_in, rela_sections_of, relas_under, relocations_in}
use Rattle.lk_model.specs.Pieces.{is_piece, key_of}
use Rattle.lk_model.specs.RelocationTypes.{width_of}
use Rattle.lk_model.specs.Views.{Elf}
use Rattle.lk_elf.specs.RelocationInfo.{r_type_of}
use Rattle.lk_elf.specs.RelocationInfo.{r_symbol_of}
use Rattle.lk_obj_parts.specs.RelocationParts.{head_checks}
use Rattle.lk_obj_parts.specs.TargetRows.{room_of}
use Rattle.lk_obj_read.specs.ObjectParts.{reference_half, table_half}
use Rattle.lk_obj_read.proofs.ObjectFaults.{groups, halves, overlaps, relas}

-- ---- lists of checks without a fault

none_left : (xs ys : List (Bool × InputFault)) → first_fault (xs ++ ys) ≡ None → first_fault xs ≡ None
none_left [] ys e = refl
none_left ((true, f) ∷ xs) ys e = cc
none_left ((false, f) ∷ xs) ys e = none_left xs ys e

none_right : (xs ys : List (Bool × InputFault)) → first_fault (xs ++ ys) ≡ None → first_fault ys ≡ None
none_right [] ys e = e
none_right ((true, f) ∷ xs) ys e = cc
none_right ((false, f) ∷ xs) ys e = none_right xs ys e

no_faults : {X : Type 0} (checks : X → List (Bool × InputFault)) (rows : List X) → first_fault (flat_map checks rows) ≡ None → All (λ row. first_fault (checks row) ≡ None) rows
no_faults checks [] e = All-nil (λ row. first_fault (checks row) ≡ None)
no_faults checks (row ∷ rows) e =
    All-cons (λ r. first_fault (checks r) ≡ None) row rows (none_left (checks row) (flat_map checks rows) e)
    (no_faults checks rows (none_right (checks row) (flat_map checks rows) e))

-- ---- what holds of each item

all_flat : {X Y : Type 0} (P : Y → Type 0) (items : X → List Y) (rows : List X) → All (λ row. All P (items row)) rows → All P (flat_map items rows)
all_flat P items [] h = All-nil P
all_flat P items (row ∷ rows) h =
    All-append P (items row) (flat_map items rows) (All-head (λ r. All P (items r)) row rows h)
    (all_flat P items rows (All-tail (λ r. All P (items r)) row rows h))

unnumbered : {X : Type 0} (P : X → Type 0) (k : ℕ) (xs : List X) → All (λ (row : ℕ × X). P row.1) (enumerate_from k xs) → All P xs
unnumbered P k [] h = All-nil P
unnumbered {X = X} P k (x ∷ xs) h =
    All-cons P x xs (All-head (λ (row : ℕ × X). P row.1) (k, x) (enumerate_from (k + 1) xs) h)
    (unnumbered P (k + 1) xs (All-tail (λ (row : ℕ × X). P row.1) (k, x) (enumerate_from (k + 1) xs) h))

front : {X : Type 0} (P : X → Type 0) (t : Bool) (x : X) (xs : List X) → All P (cond t (x ∷ xs) xs) → t ≡ true → P x
front P true x xs h e = All-head P x xs h
front P false x xs h e = cc

rest : {X : Type 0} (P : X → Type 0) (t : Bool) (x : X) (xs : List X) → All P (cond t (x ∷ xs) xs) → All P xs
rest P true x xs h = All-tail P x xs h
rest P false x xs h = h

kept : {X : Type 0} (P : X → Type 0) (t u : Bool) (x : X) (xs : List X) → (t ≡ true → P x) → All P xs → All P (cond (t && u) (x ∷ xs) xs)
kept P true true x xs h hs = All-cons P x xs (h refl) hs
kept P true false x xs h hs = hs
kept P false u x xs h hs = hs

narrowed : {X : Type 0} (P : X → Type 0) (p q : X → Bool) (xs : List X) → All P (filter p xs) → All P (filter (λ x. p x && q x) xs)
narrowed P p q [] h = All-nil P
narrowed P p q (x ∷ xs) h =
    kept P (p x) (q x) x (filter (λ y. p y && q y) xs) (front P (p x) x (filter p xs) h)
    (narrowed P p q xs (rest P (p x) x (filter p xs) h))

-- ---- the checks of an object

no_fault : (o : Option InputFault) (bytes : List ℕ) → object_fault_after o bytes ≡ None → first_fault (object_checks (elf_of bytes)) ≡ None
no_fault None bytes e = e
no_fault (Some f) bytes e = cc

checked : (bytes : List ℕ) → object_fault bytes ≡ None → first_fault (object_checks (elf_of bytes)) ≡ None
unfolding object_fault
checked bytes e = no_fault (first_fault (kind_checks bytes)) bytes e

both_halves : (elf : Elf) → first_fault (object_checks elf) ≡ None → first_fault (table_half elf ++ reference_half elf) ≡ None
both_halves elf e = ap (λ cs. first_fault cs) (sym (halves elf)) ∙ e

sections_sound : (elf : Elf) → first_fault (object_checks elf) ≡ None → All (λ (row : ℕ × Shdr). first_fault (section_checks elf row) ≡ None) (numbered elf.sections)
unfolding table_half
sections_sound elf e =
    let first : List (Bool × InputFault) = table_checks elf in
    let second : List (Bool × InputFault) = flat_map (section_checks elf) (numbered elf.sections) in
    let third : List (Bool × InputFault) = symbol_table_checks elf (symbol_table elf) in
    let fourth : List (Bool × InputFault) = symbol_checks elf (symbol_table elf) in
    no_faults (section_checks elf) (numbered elf.sections)
    (none_right first second (none_left (first ++ second) third (none_left (first ++ second ++ third) fourth (none_left (table_half elf) (reference_half elf) (both_halves elf e)))))

relas_sound : (elf : Elf) → first_fault (object_checks elf) ≡ None → All (λ (row : ℕ × Shdr). first_fault (rela_section_checks elf row) ≡ None) (rela_sections elf)
unfolding reference_half
relas_sound elf e =
    no_faults (rela_section_checks elf) (rela_sections elf)
    (none_left (relas elf) (overlaps elf) (none_left (relas elf ++ overlaps elf) (groups elf) (none_right (table_half elf) (reference_half elf) (both_halves elf e))))

-- ---- the relocations of a piece

-- the field lies in so many bytes, and the symbol is one of so many
abbrev Fine : ℕ → ℕ → Rela → Type 0
Fine size count rela = (rela.r_offset + width_of (r_type_of rela) ≤ size) × (r_symbol_of rela < count)

three : (a b c : Bool) (f g h : InputFault) → first_fault ((a, f) ∷ (b, g) ∷ (c, h) ∷ []) ≡ None → (a ≡ false) × (b ≡ false) × (c ≡ false)
three true b c f g h e = cc
three false true c f g h e = cc
three false false true f g h e = cc
three false false false f g h e = (refl, refl, refl)

inside : (target : Shdr) (rela : Rela) → is_outside target.sh_size rela ≡ false → (target.sh_type == sht_nobits) ≡ false → rela.r_offset + width_of (r_type_of rela) ≤ room_of target
inside target rela outside bytes =
    let room : room_of target ≡ target.sh_size = ap (λ t. cond t 0 target.sh_size) bytes in
    let fits : rela.r_offset + width_of (r_type_of rela) ≤ target.sh_size = grind (arith, nat_tests, outside) in
    omega (arith, room, fits)

counted : (count : ℕ) (rela : Rela) → not (nat_lt (r_symbol_of rela) count) ≡ false → r_symbol_of rela < count
counted count rela e = grind (arith, nat_tests, e)

entry : (elf : Elf) (n : ℕ) (target : Shdr) (row : ℕ × Rela) → first_fault (rela_checks elf n target row) ≡ None → Fine (room_of target) (length elf.symbols) row.1
unfolding rela_checks
entry elf n target row e =
    let reported : (not (nat_lt (r_symbol_of row.1) (length elf.symbols)) ≡ false) × (is_outside target.sh_size row.1 ≡ false) × ((target.sh_type == sht_nobits) ≡ false) =
    three (not (nat_lt (r_symbol_of row.1) (length elf.symbols))) (is_outside target.sh_size row.1) (target.sh_type == sht_nobits) _ _ _ e in
    (inside target row.1 reported.1 reported.2, counted (length elf.symbols) row.1 reported.0)

module _ (elf : Elf) (t : ℕ) (target : Shdr) (piece : is_piece_in elf t ≡ true) (at : section_at elf t ≡ Some target) where
  entries_none : (row : ℕ × Shdr) → first_fault (rela_section_checks elf row) ≡ None → row.1.sh_info ≡ t → first_fault (flat_map (rela_checks elf row.0 target) (enumerate_from 0 (relas_under elf row.1))) ≡ None
  unfolding rela_section_checks head_checks
  entries_none row e same =
      ap (λ (o : Option Shdr). first_fault (entry_checks elf row.0 row.1 true o)) (sym at)
      ∙ ap (λ b. first_fault (entry_checks elf row.0 row.1 b (section_at elf t))) (sym piece)
      ∙ ap (λ k. first_fault (entry_checks elf row.0 row.1 (is_piece_in elf k) (section_at elf k))) (sym same)
      ∙ none_right (head_checks elf row.0 row.1) (entry_checks elf row.0 row.1 (is_piece_in elf row.1.sh_info) (section_at elf row.1.sh_info)) e

  section_fine : (row : ℕ × Shdr) → first_fault (rela_section_checks elf row) ≡ None → row.1.sh_info ≡ t → All (Fine (room_of target) (length elf.symbols)) (relas_under elf row.1)
  section_fine row e same =
      unnumbered (Fine (room_of target) (length elf.symbols)) 0 (relas_under elf row.1)
      (All-weaker (λ (r : ℕ × Rela). first_fault (rela_checks elf row.0 target r) ≡ None) (λ (r : ℕ × Rela). Fine (room_of target) (length elf.symbols) r.1) (entry elf row.0 target) (enumerate_from 0 (relas_under elf row.1))
      (no_faults (rela_checks elf row.0 target) (enumerate_from 0 (relas_under elf row.1)) (entries_none row e same)))

  relocations_fine : first_fault (object_checks elf) ≡ None → All (Fine (room_of target) (length elf.symbols)) (relocations_in elf t)
  unfolding relocations_in
  relocations_fine e =
      let holds : (ℕ × Shdr) → Bool = λ (row : ℕ × Shdr). row.1.sh_type == sht_rela in
      let names : (ℕ × Shdr) → Bool = λ (row : ℕ × Shdr). row.1.sh_info == t in
      let sound : All (λ (row : ℕ × Shdr). first_fault (rela_section_checks elf row) ≡ None) (rela_sections_of elf t) = narrowed (λ (row : ℕ × Shdr). first_fault (rela_section_checks elf row) ≡ None) holds names (numbered elf.sections) (relas_sound elf e) in
      let named : All (λ (row : ℕ × Shdr). (holds row && names row) ≡ true) (rela_sections_of elf t) = filter_passes (λ (row : ℕ × Shdr). holds row && names row) (numbered elf.sections) in
      all_flat (Fine (room_of target) (length elf.symbols)) (λ (row : ℕ × Shdr). relas_under elf row.1) (rela_sections_of elf t)
      (λ k d l. section_fine (get_or (rela_sections_of elf t) k d) (sound k d l) (eqb-true (get_or (rela_sections_of elf t) k d).1.sh_info t (second (holds (get_or (rela_sections_of elf t) k d)) (names (get_or (rela_sections_of elf t) k d)) (named k d l))))
    where
      second : (a b : Bool) → (a && b) ≡ true → b ≡ true
      second true b e = e
      second false b e = cc

-- ---- the bytes of a piece

never : {A : Type 0} → false ≡ true → A
never e = cc

no_key : (name : Option (List ℕ)) (code flags : ℕ) → code ≡ sht_null → is_some (option_and_then (λ (n : List ℕ). key_of n code flags) name) ≡ true → ⊥
unfolding key_of is_piece
no_key None code flags e h = never h
no_key (Some name) code flags e h = never (subst (λ c. is_some (key_of name c flags) ≡ true) e h)

not_null : (elf : Elf) (t : ℕ) (target : Shdr) → is_piece_in elf t ≡ true → section_at elf t ≡ Some target → (target.sh_type == sht_null) ≡ false
not_null elf t target piece at =
    let key : is_some (key_in elf t target) ≡ true = ap (is_some_with (λ (header : Shdr). is_some (key_in elf t header))) (sym at) ∙ piece in
    ⊎_elim (λ p. absurd (no_key (section_name elf t) target.sh_type target.sh_flags p.1 key)) (λ p. p.0) (eqb_tells target.sh_type sht_null)

abbrev first_test : List (Bool × InputFault) → Bool
first_test [] = false
first_test (check ∷ checks) = check.0

first_false : (checks : List (Bool × InputFault)) → first_fault checks ≡ None → first_test checks ≡ false
first_false [] e = refl
first_false ((true, f) ∷ checks) e = cc
first_false ((false, f) ∷ checks) e = refl

not_cut_off : (elf : Elf) (n : ℕ) (header : Shdr) → first_fault (section_checks elf (n, header)) ≡ None → is_cut_off elf header ≡ false
unfolding section_checks_named
not_cut_off elf n header e = first_false (section_checks elf (n, header)) e

lies : (null nobits there : Bool) → (not (null || nobits) && not there) ≡ false → null ≡ false → nobits ≡ false → there ≡ true
lies true nobits there e n b = cc
lies false true there e n b = cc
lies false false true e n b = refl
lies false false false e n b = cc

stored_length : (elf : Elf) (header : Shdr) (nobits : Bool) → (nobits ≡ false → lies_in elf.bytes header.sh_offset header.sh_size ≡ true) → length (if nobits then [] else bytes_under elf header) ≡ cond nobits 0 header.sh_size
stored_length elf header true h = refl
stored_length elf header false h = whole (h refl)
  where
    whole : lies_in elf.bytes header.sh_offset header.sh_size ≡ true → length (take header.sh_size (drop header.sh_offset elf.bytes)) ≡ header.sh_size
    whole e =
        let room : header.sh_offset + header.sh_size ≤ length elf.bytes = grind (arith, nat_tests, e) in
        omega (arith, room, length-take header.sh_size (drop header.sh_offset elf.bytes), length-drop header.sh_offset elf.bytes)

row_there : (P : ℕ × Shdr → Type 0) (elf : Elf) (t : ℕ) (target : Shdr) → section_at elf t ≡ Some target → All P (numbered elf.sections) → P (t, target)
row_there P elf zero target at h = cc
row_there P elf (suc m) target at h =
    let within : suc m < length elf.sections = slice_get_within elf.sections (suc m) target at in
    let inner : m < length (drop 1 elf.sections) = omega (arith, within, length-drop 1 elf.sections) in
    let outer : m < length (enumerate_from 1 (drop 1 elf.sections)) = omega (arith, inner, length-enumerate_from 1 (drop 1 elf.sections)) in
    let number : 1 + m ≡ suc m = omega arith in
    let same : get_or (drop 1 elf.sections) m target ≡ target =
    get_or_after_one elf.sections m target ∙ ap (λ k. get_or elf.sections k target) number ∙ get_or_from_slice_get elf.sections (suc m) target target at in
    subst P (get_or-enumerate_from 1 (drop 1 elf.sections) m (0, target) inner ∙ ap (λ (x : Shdr). (1 + m, x)) same ∙ ap (λ k. (k, target)) number) (h m (0, target) outer)

room_reported : (elf : Elf) (t : ℕ) (target : Shdr) → is_piece_in elf t ≡ true → section_at elf t ≡ Some target → first_fault (object_checks elf) ≡ None → length (piece_bytes_in elf t) ≡ room_of target
unfolding piece_bytes_in
room_reported elf t target piece at e =
    let cut : is_cut_off elf target ≡ false = not_cut_off elf t target (row_there (λ (row : ℕ × Shdr). first_fault (section_checks elf row) ≡ None) elf t target at (sections_sound elf e)) in
    ap (λ (o : Option Shdr). length (flat_map (λ (header : Shdr). if header.sh_type == sht_nobits then [] else bytes_under elf header) (option_to_list o))) at
    ∙ ap (λ (bs : List ℕ). length bs) (append-nil (if target.sh_type == sht_nobits then [] else bytes_under elf target))
    ∙ stored_length elf target (target.sh_type == sht_nobits) (λ b. lies (target.sh_type == sht_null) (target.sh_type == sht_nobits) (lies_in elf.bytes target.sh_offset target.sh_size) cut (not_null elf t target piece at) b)

-- ---- by the bytes of the file

found : (elf : Elf) (t : ℕ) → IsTrue (is_piece_in elf t) → (target : Shdr) × (section_at elf t ≡ Some target)
found elf t piece = in_option (section_at elf t) piece
  where
    in_option : (o : Option Shdr) → is_some_with (λ (header : Shdr). is_some (key_in elf t header)) o ≡ true → (target : Shdr) × (o ≡ Some target)
    in_option None e = never e
    in_option (Some target) e = (target, refl)

-- the bytes of a piece lie in the file whole
pub bytes_there : (bytes : List ℕ) (t : ℕ) → object_fault bytes ≡ None → IsTrue (is_piece_in (elf_of bytes) t) → IfSome (section_at (elf_of bytes) t) (λ header. length (piece_bytes_in (elf_of bytes) t) ≡ room_of header)
bytes_there bytes t e piece = of_option (section_at (elf_of bytes) t) (λ target at. room_reported (elf_of bytes) t target piece at (checked bytes e))
  where
    of_option : (o : Option Shdr) → ((target : Shdr) → o ≡ Some target → length (piece_bytes_in (elf_of bytes) t) ≡ room_of target) → IfSome o (λ header. length (piece_bytes_in (elf_of bytes) t) ≡ room_of header)
    of_option None h = tt
    of_option (Some target) h = h target refl

-- the fields of its relocations lie in them
pub fields_there : (bytes : List ℕ) (t : ℕ) → object_fault bytes ≡ None → IsTrue (is_piece_in (elf_of bytes) t) → All (λ rela. rela.r_offset + width_of (r_type_of rela) ≤ length (piece_bytes_in (elf_of bytes) t)) (relocations_in (elf_of bytes) t)
fields_there bytes t e piece =
    let there : (target : Shdr) × (section_at (elf_of bytes) t ≡ Some target) = found (elf_of bytes) t piece in
    let room : length (piece_bytes_in (elf_of bytes) t) ≡ room_of there.0 = room_reported (elf_of bytes) t there.0 piece there.1 (checked bytes e) in
    λ k d l. omega (arith, room, (relocations_fine (elf_of bytes) t there.0 piece there.1 (checked bytes e) k d l).0)

-- their symbols are there
pub symbols_there : (bytes : List ℕ) (t : ℕ) → object_fault bytes ≡ None → IsTrue (is_piece_in (elf_of bytes) t) → All (λ rela. r_symbol_of rela < length (elf_of bytes).symbols) (relocations_in (elf_of bytes) t)
symbols_there bytes t e piece =
    let there : (target : Shdr) × (section_at (elf_of bytes) t ≡ Some target) = found (elf_of bytes) t piece in
    λ k d l. (relocations_fine (elf_of bytes) t there.0 piece there.1 (checked bytes e) k d l).1
