-- The pieces of an object without a fault are sound.
use Rattle.std.specs.Prelude.{◌≡◌, ℕ, ◌==◌, Bool, true, false, cond, ◌&&◌, ◌||◌, if◌then◌else◌, List, [], ◌∷◌, codes, bytes_eq, find, Option, Some, None, option_and_then, option_map, unwrap_or, refl}
use Rattle.std.specs.Bool.{then_some}
use Rattle.std.specs.List.{AllByRecursion, list_any}
use Rattle.std.proofs.Common.{sym, ap, subst, ◌∙◌}
use Rattle.std.proofs.lemmas.Bool.{and_parts, both_ways, false_from_ne_true, not-false, or_parts}
use Rattle.std.proofs.lemmas.Slice.Eq.{bytes_eq-Decides}
use Rattle.lk_elf.specs.Numbers.{sht_rel, sht_symtab_shndx}
use Rattle.lk_elf.specs.declared.section_header.Shdr.{Shdr}
use Rattle.lk_model.specs.Amounts.{is_small_power}
use Rattle.lk_model.specs.Checks.{first_fault}
use Rattle.lk_model.specs.Elf.{numbered, section_name}
use Rattle.lk_model.specs.ObjectChecks.{is_alignment, is_unsupported, section_checks, section_checks_named}
use Rattle.lk_model.specs.Objects.{alignment_of, is_class_r, is_frames, is_terminator, is_terminator_where, piece_named, piece_with, pieces_in}
use Rattle.lk_model.specs.Pieces.{class_of, common_name, common_names, goes_under, is_piece, is_table_name, is_tail_name, key_of, output_name, table_names}
use Rattle.lk_model.specs.SectionKeys.{eh_frame, is_table, named, same_key, table_keys}
use Rattle.lk_model.specs.Views.{Elf}
use Rattle.lk_model.specs.declared.layouts.Class.{Class}
use Rattle.lk_model.specs.declared.layouts.Class.TheVariants.{R, X, W, WX, Tdata, Tbss, Bss, N}
use Rattle.lk_model.specs.declared.layouts.SectionKey.{SectionKey}
use Rattle.lk_model.proofs.KeysFound.{same_key_reports}
use Rattle.lk_model.proofs.Rising.{all_map}
use Rattle.lk_law_placement.specs.SoundPieces.{IsPower}
use Rattle.lk_law_placement.specs.SoundInputs.{SoundInfo}
use Rattle.lk_law_placement.proofs.SoundInputsChecks.{AllSome, all_reported, all_passed}
use Rattle.lk_law_placement.proofs.SoundInputsPowers.{power_of_one, small_power}

-- ---- names

-- a key of a table has the name of a table
table_named : (key : SectionKey) (tables : List SectionKey) → AllByRecursion (λ (t : SectionKey). is_table_name t.name ≡ true) tables → list_any (same_key key) tables ≡ true → is_table_name key.name ≡ true
table_named key [] all is = absurd (both_ways false refl is)
table_named key (t ∷ tables) all is = go (same_key key t) refl (table_named key tables all.1)
  where
    go : (b : Bool) → same_key key t ≡ b → (list_any (same_key key) tables ≡ true → is_table_name key.name ≡ true) → is_table_name key.name ≡ true
    go true e rest = subst (λ (k : SectionKey). is_table_name k.name ≡ true) (sym (same_key_reports key t e)) all.0
    go false e rest = rest (rw e at is)

table_keys_named : AllByRecursion (λ (t : SectionKey). is_table_name t.name ≡ true) table_keys
unfolding table_names
table_keys_named = (refl, (refl, (refl, (refl, (refl, (refl, (refl, (refl, (refl, (refl, tt))))))))))

-- a key of another name is no table's
no_table_named : (key : SectionKey) → is_table_name key.name ≡ false → is_table key ≡ false
no_table_named key other =
    false_from_ne_true (is_table key) (λ is. both_ways (is_table_name key.name) other (table_named key table_keys table_keys_named is))

-- a name that is found among names has what each of them has
found_has : (P : List ℕ → Type 0) (p : List ℕ → Bool) (names : List (List ℕ)) (name : List ℕ) → AllByRecursion P names → P name → P (unwrap_or (find p names) name)
found_has P p [] name all own = own
found_has P p (first ∷ names) name all own = go (p first) (found_has P p names name all.1 own)
  where
    go : (b : Bool) → P (unwrap_or (find p names) name) → P (unwrap_or (cond b (Some first) (find p names)) name)
    go true rest = all.0
    go false rest = rest

common_names_free : AllByRecursion (λ name. is_table_name name ≡ false) common_names
unfolding table_names common_names
common_names_free = (refl, (refl, (refl, (refl, (refl, (refl, (refl, (refl, (refl, tt)))))))))

common_name_free : (name : List ℕ) → is_table_name name ≡ false → is_table_name (common_name name) ≡ false
common_name_free name free = found_has (λ n. is_table_name n ≡ false) (goes_under name) common_names name common_names_free free

-- the name of an output section is no table's where the input section's is none
output_name_free : (class : Class) (name : List ℕ) → is_table_name name ≡ false → is_table_name (output_name class name) ≡ false
unfolding output_name table_names
output_name_free R name free = common_name_free name free
output_name_free X name free = common_name_free name free
output_name_free W name free = common_name_free name free
output_name_free WX name free = common_name_free name free
output_name_free Tdata name free = refl
output_name_free Tbss name free = refl
output_name_free Bss name free = common_name_free name free
output_name_free N name free = free

-- ---- terminators

class_r : (class : Class) → is_class_r class ≡ true → class ≡ R
class_r R is = refl
class_r X is = absurd (both_ways false refl is)
class_r W is = absurd (both_ways false refl is)
class_r WX is = absurd (both_ways false refl is)
class_r Tdata is = absurd (both_ways false refl is)
class_r Tbss is = absurd (both_ways false refl is)
class_r Bss is = absurd (both_ways false refl is)
class_r N is = absurd (both_ways false refl is)

frames_key : (key : SectionKey) → is_frames key ≡ true → key ≡ eh_frame
frames_key key is =
    let parts = and_parts (is_class_r key.class) (bytes_eq key.name (codes ".eh_frame")) is in
    let names : key.name ≡ codes ".eh_frame" = (bytes_eq-Decides key.name (codes ".eh_frame")).0 parts.1 in
    ap (λ class. named key.name class) (class_r key.class parts.0) ∙ ap (λ name. named name R) names

terminator_where : (b : Bool) (elf : Elf) (n : ℕ) → is_terminator_where b elf n ≡ true → b ≡ true
unfolding is_terminator_where
terminator_where true elf n is = refl
terminator_where false elf n is = is

-- ---- a piece

aligned_power : (header : Shdr) → is_alignment header.sh_addralign ≡ true → IsPower (alignment_of header)
aligned_power header is = go (header.sh_addralign == 0) is
  where
    go : (b : Bool) → (b || is_small_power header.sh_addralign) ≡ true → IsPower (if b then 1 else header.sh_addralign)
    go true e = power_of_one
    go false e = small_power header.sh_addralign e

piece_is_sound :
    (elf : Elf) (n : ℕ) (header : Shdr) (name : List ℕ) (class : Class)
    → is_alignment header.sh_addralign ≡ true
    → is_table_name name ≡ false
    → SoundInfo (piece_with n header name (is_terminator elf n (named (output_name class name) class)) (named (output_name class name) class))
unfolding piece_with
piece_is_sound elf n header name class aligned free =
    let key = named (output_name class name) class in
    record {
      aligned = aligned_power header aligned;
      empty = λ is. rw is refl;
      framed = λ is. frames_key key (terminator_where (is_frames key) elf n is);
      no_table = no_table_named key (output_name_free class name free);
    }

-- a piece that is supported has no table's name
supported_free : (header : Shdr) (name : List ℕ) → is_unsupported header name ≡ false → is_piece name header.sh_type header.sh_flags ≡ true → is_table_name name ≡ false
supported_free header name supported is =
    let last = (or_parts (header.sh_type == sht_rel || header.sh_type == sht_symtab_shndx) (is_piece name header.sh_type header.sh_flags && (is_table_name name || is_tail_name name)) supported).1 in
    (or_parts (is_table_name name) (is_tail_name name) (rw is at last)).0

-- a section of this name is sound where it is a piece
named_is_sound :
    (elf : Elf) (n : ℕ) (header : Shdr) (name : List ℕ)
    → is_alignment header.sh_addralign ≡ true
    → is_unsupported header name ≡ false
    → AllSome SoundInfo (piece_named elf n header name)
unfolding piece_named key_of
named_is_sound elf n header name aligned supported = by (is_piece name header.sh_type header.sh_flags) refl
  where
    by :
        (b : Bool)
        → is_piece name header.sh_type header.sh_flags ≡ b
        → AllSome SoundInfo
        (option_map (λ (key : SectionKey). piece_with n header name (is_terminator elf n key) key)
        (then_some b (named (output_name (class_of header.sh_type header.sh_flags) name) (class_of header.sh_type header.sh_flags))))
    by true e = piece_is_sound elf n header name (class_of header.sh_type header.sh_flags) aligned (supported_free header name supported e)
    by false e = tt

-- a section that passes its checks is sound where it is a piece
section_is_sound : (elf : Elf) (n : ℕ) (header : Shdr) (name : Option (List ℕ)) → first_fault (section_checks_named elf n header name) ≡ None → AllSome SoundInfo (option_and_then (piece_named elf n header) name)
unfolding section_checks_named
section_is_sound elf n header None passes = tt
section_is_sound elf n header (Some name) passes =
    let each = all_passed (section_checks_named elf n header (Some name)) passes in
    named_is_sound elf n header name (not-false (is_alignment header.sh_addralign) each.1.0) each.1.1.1.1.0

-- the pieces of an object whose sections pass their checks are sound
pub pieces_are_sound : (elf : Elf) → AllByRecursion (λ (row : ℕ × Shdr). first_fault (section_checks elf row) ≡ None) (numbered elf.sections) → AllByRecursion SoundInfo (pieces_in elf)
unfolding pieces_in
pieces_are_sound elf passes =
    all_reported SoundInfo (λ (row : ℕ × Shdr). option_and_then (piece_named elf row.0 row.1) (section_name elf row.0)) (numbered elf.sections)
    (all_map (λ (row : ℕ × Shdr) pass. section_is_sound elf row.0 row.1 (section_name elf row.0) pass) (numbered elf.sections) passes)
