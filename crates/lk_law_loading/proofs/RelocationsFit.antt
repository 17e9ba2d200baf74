-- The pieces of an object without a fault are whole: each has as many bytes in the file as its size says,
-- and the fields of its relocations lie in them.
use Rattle.std.specs.Prelude.{◌≡◌, ℕ, suc, ◌+◌, ◌≤◌, ◌==◌, ◌%◌, ◌&&◌, Bool, true, false, bytes_eq, not, if◌then◌else◌, List, [], ◌∷◌, ◌++◌, codes, drop, flat_map, length, nat_lt, Option, Some, None, option_and_then, option_map, refl}
use Rattle.std.specs.Bool.{then_some}
use Rattle.std.specs.List.{AllByRecursion, enumerate_from, list_any, slice_get}
use Rattle.std.proofs.Common.{ap, arith, length-drop, subst, sym, ◌∙◌}
use Rattle.std.proofs.lemmas.Bool.{and_parts, both_ways, eqb-true, leb-true, not-false, or_parts}
use Rattle.std.proofs.lemmas.Bool.Decides.{nat_tests}
use Rattle.std.proofs.lemmas.List.{append-nil, length-take-le}
use Rattle.lk_elf.specs.Numbers.{sht_nobits, sht_group, sht_null, sht_progbits, sht_rela, sht_strtab, sht_symtab, rela_size, shf_alloc, shf_tls}
use Rattle.lk_elf.specs.declared.relocation.Rela.{Rela}
use Rattle.lk_elf.specs.declared.section_header.Shdr.{Shdr}
use Rattle.lk_report.specs.declared.faults.InputFault.{InputFault}
use Rattle.lk_report.specs.declared.faults.InputFault.TheVariants.{BadTable}
use Rattle.lk_model.specs.Amounts.{has_flag}
use Rattle.lk_model.specs.Checks.{first_fault}
use Rattle.lk_model.specs.Elf.{bytes_under, lies_in, numbered, section_at, section_name, symbol_table}
use Rattle.lk_model.specs.ObjectChecks.{entry_checks, group_checks_after, is_cut_off, is_section, is_symbol_table, object_checks, overlap_checks, rela_checks, rela_section_checks, rela_sections, section_checks, section_checks_named, symbol_checks, symbol_table_checks, table_checks}
use Rattle.lk_model.specs.Objects.{group_sections, is_piece_in, is_terminator, piece_bytes_in, piece_named, piece_with, pieces_in, rela_sections_of, relas_under, relocations_in}
use Rattle.lk_model.specs.Pieces.{class_of, is_piece, is_reading_type, key_of, output_name}
use Rattle.lk_model.specs.RelocationTypes.{width_of}
use Rattle.lk_model.specs.SectionKeys.{in_file, named}
use Rattle.lk_model.specs.Views.{Elf}
use Rattle.lk_model.specs.declared.layouts.Class.{Class}
use Rattle.lk_model.specs.declared.layouts.Class.TheVariants.{R, X, W, WX, Tdata, Tbss, Bss, N}
use Rattle.lk_model.specs.declared.layouts.SectionKey.{SectionKey}
use Rattle.lk_model.specs.declared.summaries.PieceInfo.{PieceInfo}
use Rattle.lk_model.proofs.Rising.{all_map}
use Rattle.lk_model.proofs.RowsAgain.{not_both}
use Rattle.lk_elf.specs.RelocationInfo.{r_type_of}
use Rattle.lk_law_placement.proofs.DistinctLists.{all_both, all_joined}
use Rattle.lk_law_placement.proofs.SoundInputsChecks.{AllSome, all_passed, all_reported, passed_after, passed_before, passed_each}
use Rattle.lk_law_loading.specs.Loadable.{ThreadNamed}
use Rattle.lk_law_loading.proofs.Greatest.{all_filtered, all_unfiltered}

-- ---- lists

-- what holds of each item by its number holds of all numbered ones
enumerated : {A : Type 0} (P : ℕ × A → Type 0) (i : ℕ) (xs : List A) → ((m : ℕ) (x : A) → slice_get xs m ≡ Some x → P (i + m, x)) → AllByRecursion P (enumerate_from i xs)
enumerated P i [] each = tt
enumerated P i (x ∷ xs) each = (
  (let first : i + 0 ≡ i = omega arith in subst (λ (k : ℕ). P (k, x)) first (each 0 x refl)),
  enumerated P (i + 1) xs (λ m y there. let later : i + suc m ≡ i + 1 + m = omega arith in subst (λ (k : ℕ). P (k, y)) later (each (suc m) y there)),
)

-- and what holds of numbered items holds of them without their numbers
unnumbered : {A : Type 0} (P : A → Type 0) (i : ℕ) (xs : List A) → AllByRecursion (λ (e : ℕ × A). P e.1) (enumerate_from i xs) → AllByRecursion P xs
unnumbered P i [] all = tt
unnumbered P i (x ∷ xs) all = (all.0, unnumbered P (i + 1) xs all.1)

all_flat : {A B : Type 0} (P : B → Type 0) (f : A → List B) (xs : List A) → AllByRecursion (λ x. AllByRecursion P (f x)) xs → AllByRecursion P (flat_map f xs)
all_flat P f [] all = tt
all_flat P f (x ∷ xs) all = all_joined P (f x) (flat_map f xs) all.0 (all_flat P f xs all.1)

-- ---- sections by their numbers

after_first : (headers : List Shdr) (m : ℕ) (header : Shdr) → slice_get (drop 1 headers) m ≡ Some header → slice_get headers (suc m) ≡ Some header
after_first [] m header there = absurd (cc)
after_first (h ∷ headers) m header there = there

section_there : (elf : Elf) → AllByRecursion (λ (row : ℕ × Shdr). section_at elf row.0 ≡ Some row.1) (numbered elf.sections)
section_there elf =
    enumerated (λ (row : ℕ × Shdr). section_at elf row.0 ≡ Some row.1) 1 (drop 1 elf.sections)
    (λ m header there.
    let number : 1 + m ≡ suc m = omega arith in
    subst (λ (k : ℕ). section_at elf k ≡ Some header) (sym number) (after_first elf.sections m header there))

-- ---- relocations

-- a relocation's field lies in its target, which has bytes in the file
record FieldLies (target : Shdr) (rela : Rela) : Type 0 where
  within : rela.r_offset + width_of (r_type_of rela) ≤ target.sh_size
  stored : (target.sh_type == sht_nobits) ≡ false

not_less : (a b : ℕ) → nat_lt a b ≡ false → b ≤ a
not_less a b none = grind (arith, nat_tests)

entry_lies : (elf : Elf) (n : ℕ) (target : Shdr) (row : ℕ × Rela) → first_fault (rela_checks elf n target row) ≡ None → FieldLies target row.1
unfolding rela_checks
entry_lies elf n target row passes =
    let each = all_passed (rela_checks elf n target row) passes in
    record { within = not_less target.sh_size (row.1.r_offset + width_of (r_type_of row.1)) each.1.0; stored = each.1.1.0 }

-- the relocations of a section that names a piece
relas_lie : (elf : Elf) (n : ℕ) (header target : Shdr) → first_fault (entry_checks elf n header true (Some target)) ≡ None → AllByRecursion (FieldLies target) (relas_under elf header)
relas_lie elf n header target passes =
    unnumbered (FieldLies target) 0 (relas_under elf header)
    (all_map (λ (row : ℕ × Rela) pass. entry_lies elf n target row pass) (enumerate_from 0 (relas_under elf header))
    (passed_each (rela_checks elf n target) (enumerate_from 0 (relas_under elf header)) passes))

section_relas_lie :
    (elf : Elf) (row : ℕ × Shdr) (n : ℕ) (target : Shdr)
    → first_fault (rela_section_checks elf row) ≡ None
    → row.1.sh_info ≡ n
    → is_piece_in elf n ≡ true
    → section_at elf n ≡ Some target
    → AllByRecursion (FieldLies target) (relas_under elf row.1)
unfolding rela_section_checks
section_relas_lie elf row n target passes info piece there =
    let head : List (Bool × InputFault) =
    (not (row.1.sh_entsize == rela_size), BadTable row.0)
    ∷ (not (row.1.sh_size % rela_size == 0), BadTable row.0)
    ∷ (not (is_symbol_table elf row.1.sh_link), BadTable row.0)
    ∷ (not (is_section elf row.1.sh_info), BadTable row.0)
    ∷ [] in
    let entries : first_fault (entry_checks elf row.0 row.1 (is_piece_in elf row.1.sh_info) (section_at elf row.1.sh_info)) ≡ None =
    passed_after head (entry_checks elf row.0 row.1 (is_piece_in elf row.1.sh_info) (section_at elf row.1.sh_info)) passes in
    let named : first_fault (entry_checks elf row.0 row.1 (is_piece_in elf n) (section_at elf n)) ≡ None =
    subst (λ (k : ℕ). first_fault (entry_checks elf row.0 row.1 (is_piece_in elf k) (section_at elf k)) ≡ None) info entries in
    relas_lie elf row.0 row.1 target (rw there at (rw piece at named))

-- all relocations of a piece
target_relas_lie :
    (elf : Elf) (n : ℕ) (target : Shdr)
    → AllByRecursion (λ (row : ℕ × Shdr). first_fault (rela_section_checks elf row) ≡ None) (rela_sections elf)
    → is_piece_in elf n ≡ true
    → section_at elf n ≡ Some target
    → AllByRecursion (FieldLies target) (relocations_in elf n)
unfolding relocations_in
target_relas_lie elf n target passes piece there =
    all_flat (FieldLies target) (λ (row : ℕ × Shdr). relas_under elf row.1) (rela_sections_of elf n)
    (all_filtered (λ (row : ℕ × Shdr). AllByRecursion (FieldLies target) (relas_under elf row.1)) (λ (row : ℕ × Shdr). row.1.sh_type == sht_rela && row.1.sh_info == n) (numbered elf.sections)
    (all_map {Q = λ (row : ℕ × Shdr). (row.1.sh_type == sht_rela && row.1.sh_info == n) ≡ true → AllByRecursion (FieldLies target) (relas_under elf row.1)}
    (λ row pass named.
    let parts = and_parts (row.1.sh_type == sht_rela) (row.1.sh_info == n) named in
    section_relas_lie elf row n target (pass parts.0) (eqb-true row.1.sh_info n parts.1) piece there)
    (numbered elf.sections)
    (all_unfiltered (λ (row : ℕ × Shdr). first_fault (rela_section_checks elf row) ≡ None) (λ (row : ℕ × Shdr). row.1.sh_type == sht_rela) (numbered elf.sections) passes)))

-- ---- a piece

-- what is known of a piece that was read of a file: a thread-local one goes to the section of its class;
-- where it is no terminator and the file holds it, its bytes are as many as its size; the fields of its
-- relocations lie in its bytes
pub record WholeInfo (elf : Elf) (p : PieceInfo) : Type 0 where
  pub thread : ThreadNamed p.key
  pub size : in_file p.key.class ≡ true → p.terminator ≡ false → length (piece_bytes_in elf p.section) ≡ p.size
  pub fields : AllByRecursion (λ (rela : Rela). rela.r_offset + width_of (r_type_of rela) ≤ length (piece_bytes_in elf p.section)) (relocations_in elf p.section)

named_thread : (class : Class) (name : List ℕ) → ThreadNamed (named (output_name class name) class)
unfolding output_name
named_thread R name = record { bytes = λ e. absurd (cc); zeros = λ e. absurd (cc) }
named_thread X name = record { bytes = λ e. absurd (cc); zeros = λ e. absurd (cc) }
named_thread W name = record { bytes = λ e. absurd (cc); zeros = λ e. absurd (cc) }
named_thread WX name = record { bytes = λ e. absurd (cc); zeros = λ e. absurd (cc) }
named_thread Tdata name = record { bytes = λ e. refl; zeros = λ e. absurd (cc) }
named_thread Tbss name = record { bytes = λ e. absurd (cc); zeros = λ e. refl }
named_thread Bss name = record { bytes = λ e. absurd (cc); zeros = λ e. absurd (cc) }
named_thread N name = record { bytes = λ e. absurd (cc); zeros = λ e. absurd (cc) }

-- a section that the file holds is there with all its bytes
stored_length : (elf : Elf) (n : ℕ) (header : Shdr) → section_at elf n ≡ Some header → (header.sh_type == sht_nobits) ≡ false → header.sh_offset + header.sh_size ≤ length elf.bytes → length (piece_bytes_in elf n) ≡ header.sh_size
unfolding piece_bytes_in
stored_length elf n header there stored lies =
    let behind = length-drop header.sh_offset elf.bytes in
    let taken : length (bytes_under elf header) ≡ header.sh_size = length-take-le header.sh_size (drop header.sh_offset elf.bytes) (omega (arith, behind, lies)) in
    rw there (rw stored (ap length (append-nil (bytes_under elf header)) ∙ taken))

other_way : (a b : ℕ) → (a == b) ≡ false → (b == a) ≡ false
other_way a b apart = grind (arith, nat_tests)

-- a piece is no null section
not_null : (name : List ℕ) (code flags : ℕ) → is_piece name code flags ≡ true → (code == sht_null) ≡ false
unfolding is_piece
not_null name code flags piece =
    let parts = and_parts (not (is_reading_type code)) (if has_flag flags shf_alloc then not (bytes_eq name (codes ".note.gnu.property")) else code == sht_progbits && not (bytes_eq name (codes ".note.GNU-stack"))) piece in
    let others = list_any (λ t. t == code) (sht_symtab ∷ sht_strtab ∷ sht_rela ∷ sht_group ∷ []) in
    other_way sht_null code (or_parts (sht_null == code) others (not_both (is_reading_type code) parts.0)).0

two_types : (code : ℕ) → (code == sht_progbits) ≡ true → (code == sht_nobits) ≡ false
two_types code is = grind (arith, nat_tests)

-- a piece whose class the file holds is no NOBITS section
class_stored : (name : List ℕ) (code flags : ℕ) → is_piece name code flags ≡ true → in_file (class_of code flags) ≡ true → (code == sht_nobits) ≡ false
unfolding is_piece class_of
class_stored name code flags piece stored = go (has_flag flags shf_alloc) (has_flag flags shf_tls) (code == sht_nobits) refl refl refl
  where
    go : (a t b : Bool) → has_flag flags shf_alloc ≡ a → has_flag flags shf_tls ≡ t → (code == sht_nobits) ≡ b → (code == sht_nobits) ≡ false
    go a t false e f g = g
    go true true true e f g = absurd (both_ways false refl (rw g at (rw f at (rw e at stored))))
    go true false true e f g = absurd (both_ways false refl (rw g at (rw f at (rw e at stored))))
    go false t true e f g =
        let last = (and_parts (not (is_reading_type code)) (code == sht_progbits && not (bytes_eq name (codes ".note.GNU-stack"))) (rw e at piece)).1 in
        two_types code (and_parts (code == sht_progbits) (not (bytes_eq name (codes ".note.GNU-stack"))) last).0

-- a section that is not cut off
lies_where : (elf : Elf) (header : Shdr) → is_cut_off elf header ≡ false → (header.sh_type == sht_null) ≡ false → (header.sh_type == sht_nobits) ≡ false → header.sh_offset + header.sh_size ≤ length elf.bytes
lies_where elf header whole null nobits =
    let lies : not (lies_in elf.bytes header.sh_offset header.sh_size) ≡ false = rw nobits at (rw null at whole) in
    leb-true (header.sh_offset + header.sh_size) (length elf.bytes) (not-false (lies_in elf.bytes header.sh_offset header.sh_size) lies)

-- what a section that passes its checks and is a piece says of it
piece_whole :
    (elf : Elf) (n : ℕ) (header : Shdr) (name : List ℕ)
    → section_at elf n ≡ Some header
    → section_name elf n ≡ Some name
    → is_cut_off elf header ≡ false
    → is_piece name header.sh_type header.sh_flags ≡ true
    → AllByRecursion (λ (row : ℕ × Shdr). first_fault (rela_section_checks elf row) ≡ None) (rela_sections elf)
    → (terminator : Bool)
    → WholeInfo elf (piece_with n header name terminator (named (output_name (class_of header.sh_type header.sh_flags) name) (class_of header.sh_type header.sh_flags)))
unfolding piece_with key_of
piece_whole elf n header name there called whole piece passes terminator =
    let null = not_null name header.sh_type header.sh_flags piece in
    let class = class_of header.sh_type header.sh_flags in
    let is_one : is_piece_in elf n ≡ true = rw there (rw called (rw piece refl)) in
    let long = λ (stored : (header.sh_type == sht_nobits) ≡ false). stored_length elf n header there stored (lies_where elf header whole null stored) in
    record {
      thread = named_thread class name;
      size = λ stored other. long (class_stored name header.sh_type header.sh_flags piece stored) ∙ rw other refl;
      fields = all_map (λ (rela : Rela) (f : FieldLies header rela). field_within elf n header rela f (long f.stored)) (relocations_in elf n) (target_relas_lie elf n header passes is_one there);
    }
  where
    field_within : (e : Elf) (k : ℕ) (h : Shdr) (rela : Rela) → FieldLies h rela → length (piece_bytes_in e k) ≡ h.sh_size → rela.r_offset + width_of (r_type_of rela) ≤ length (piece_bytes_in e k)
    field_within e k h rela f long = let within = f.within in omega (arith, within, long)

-- a section of a name
section_whole :
    (elf : Elf) (n : ℕ) (header : Shdr) (name : Option (List ℕ))
    → section_name elf n ≡ name
    → section_at elf n ≡ Some header
    → is_cut_off elf header ≡ false
    → AllByRecursion (λ (row : ℕ × Shdr). first_fault (rela_section_checks elf row) ≡ None) (rela_sections elf)
    → AllSome (WholeInfo elf) (option_and_then (piece_named elf n header) name)
unfolding piece_named key_of
section_whole elf n header None called there whole passes = tt
section_whole elf n header (Some name) called there whole passes = go (is_piece name header.sh_type header.sh_flags) refl
  where
    go :
        (b : Bool)
        → is_piece name header.sh_type header.sh_flags ≡ b
        → AllSome (WholeInfo elf)
        (option_map (λ (key : SectionKey). piece_with n header name (is_terminator elf n key) key)
        (then_some b (named (output_name (class_of header.sh_type header.sh_flags) name) (class_of header.sh_type header.sh_flags))))
    go true e = piece_whole elf n header name there called whole e passes (is_terminator elf n (named (output_name (class_of header.sh_type header.sh_flags) name) (class_of header.sh_type header.sh_flags)))
    go false e = tt

not_cut_off : (elf : Elf) (row : ℕ × Shdr) → first_fault (section_checks elf row) ≡ None → is_cut_off elf row.1 ≡ false
unfolding section_checks_named
not_cut_off elf row passes = (all_passed (section_checks elf row) passes).0

-- the pieces of an object whose sections and relocations pass their checks
pieces_whole :
    (elf : Elf)
    → AllByRecursion (λ (row : ℕ × Shdr). first_fault (section_checks elf row) ≡ None) (numbered elf.sections)
    → AllByRecursion (λ (row : ℕ × Shdr). first_fault (rela_section_checks elf row) ≡ None) (rela_sections elf)
    → AllByRecursion (WholeInfo elf) (pieces_in elf)
unfolding pieces_in
pieces_whole elf sections relas =
    all_reported (WholeInfo elf) (λ (row : ℕ × Shdr). option_and_then (piece_named elf row.0 row.1) (section_name elf row.0)) (numbered elf.sections)
    (all_both (λ (row : ℕ × Shdr) there pass. section_whole elf row.0 row.1 (section_name elf row.0) refl there (not_cut_off elf row pass) relas)
    (numbered elf.sections) (section_there elf) sections)

-- so are those of an object that passes all its checks
pub passing_whole : (elf : Elf) → first_fault (object_checks elf) ≡ None → AllByRecursion (WholeInfo elf) (pieces_in elf)
unfolding object_checks
passing_whole elf passes =
    let table = table_checks elf in
    let sections = flat_map (section_checks elf) (numbered elf.sections) in
    let symbols_table = symbol_table_checks elf (symbol_table elf) in
    let symbols = symbol_checks elf (symbol_table elf) in
    let relas = flat_map (rela_section_checks elf) (rela_sections elf) in
    let overlaps = flat_map (λ (row : ℕ × Shdr). overlap_checks elf (is_piece_in elf row.0) row.0) (numbered elf.sections) in
    let groups = group_checks_after elf [] (group_sections elf) in
    let front = table ++ sections ++ symbols_table ++ symbols in
    let with_relas : first_fault (front ++ relas) ≡ None =
    passed_before (front ++ relas) overlaps (passed_before (front ++ relas ++ overlaps) groups passes) in
    let first = passed_before front relas with_relas in
    pieces_whole elf
    (passed_each (section_checks elf) (numbered elf.sections)
    (passed_after table sections (passed_before (table ++ sections) symbols_table (passed_before (table ++ sections ++ symbols_table) symbols first))))
    (passed_each (rela_section_checks elf) (rela_sections elf) (passed_after front relas with_relas))
