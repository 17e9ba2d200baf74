-- The pieces of an object, section after section, where marks say which sections have relocations.
use Rattle.std.specs.Prelude.{◌≡◌, refl, ℕ, zero, suc, ◌+◌, ◌<◌, ◌≤◌, ◌==◌, Bool, true, false, not, ◌&&◌, ◌||◌, List, [], ◌∷◌, ◌++◌, bytes_eq, drop, filter_map, length, Option, Some, None, option_and_then, option_map, option_to_list}
use Rattle.std.specs.List.{cons_option, list_any}
use Rattle.std.proofs.Common.{ap, ◌∙◌, sym, arith, append_assoc, append-nil, get_or}
use Rattle.std.proofs.lemmas.Option.{slice_get-get_or}
use Rattle.lk_elf.specs.declared.file_header.Ehdr.{Ehdr}
use Rattle.lk_elf.specs.declared.section_header.Shdr.{Shdr}
use Rattle.lk_elf.specs.declared.symbol.Sym.{Sym}
use Rattle.lk_model.specs.declared.layouts.SectionKey.{SectionKey}
use Rattle.lk_model.specs.declared.summaries.PieceInfo.{PieceInfo}
use Rattle.lk_marks.specs.Marked.{is_marked}
use Rattle.lk_model.specs.Elf.{section_at, section_name}
use Rattle.lk_model.specs.Objects.{four_zeros, is_frames, is_terminator, is_terminator_where, piece_bytes_in, piece_named, piece_with, pieces_in, relocations_in}
use Rattle.lk_model.specs.Pieces.{key_of}
use Rattle.lk_model.specs.Views.{Elf}
use Rattle.lk_obj_parts.specs.ElfViews.{elf_from}
use Rattle.lk_outsec.specs.PieceTypes.{may_be_piece}
use Rattle.lk_outsec.proofs.PieceTypes.{no_key}
use Rattle.lk_obj_parts.proofs.Rows.{rows_done, rows_next}
use Rattle.lk_obj_parts.proofs.SymbolsUnread.{section_name_unread}
use Rattle.lk_obj_read.specs.PieceParts.{MarksServe, stored_bytes, is_four_zeros, is_terminator_reported, piece_at, piece_reported, pieces_from}
use Rattle.lk_obj_read.specs.RelocatedSections.{is_relocated}
use Rattle.lk_obj_read.proofs.RelocatedSections.{reported}

-- ---- one section

found : (elf : Elf) (n : ℕ) (d : Shdr) → 0 < n → n < length elf.sections → section_at elf n ≡ Some (get_or elf.sections n d)
found elf zero d p l = absurd (omega (arith, p))
found elf (suc n) d p l = slice_get-get_or elf.sections (suc n) d l

bytes_reported : (elf : Elf) (n : ℕ) (header : Shdr) → section_at elf n ≡ Some header → piece_bytes_in elf n ≡ stored_bytes elf.bytes header
unfolding piece_bytes_in
bytes_reported elf n header e = rw e (append-nil (stored_bytes elf.bytes header))

not-not : (t : Bool) → not (not t) ≡ t
not-not true = refl
not-not false = refl

terminator_where : (t : Bool) (elf : Elf) (n : ℕ) (header : Shdr) → section_at elf n ≡ Some header → is_terminator_where t elf n ≡ (t && bytes_eq (stored_bytes elf.bytes header) four_zeros && not (is_relocated elf n))
unfolding is_terminator_where
terminator_where false elf n header e = refl
terminator_where true elf n header e =
    ap (λ (bs : List ℕ). bytes_eq bs four_zeros && length (relocations_in elf n) == 0) (bytes_reported elf n header e)
    ∙ ap (λ t. bytes_eq (stored_bytes elf.bytes header) four_zeros && t) (sym (not-not (length (relocations_in elf n) == 0)))

-- whether a section has relocations is asked of one of four zero bytes alone
where-four : (frames four a b : Bool) → (four ≡ true → a ≡ b) → (frames && four && not b) ≡ (frames && four && not a)
where-four false four a b h = refl
where-four true false a b h = refl
where-four true true a b h = ap not (sym (h refl))

named : (elf : Elf) (relocated : Bool) (n : ℕ) (header : Shdr) (name : List ℕ) → section_at elf n ≡ Some header → (is_four_zeros elf.bytes header ≡ true → relocated ≡ is_relocated elf n) → piece_named elf n header name ≡ piece_reported elf.bytes relocated n header name
unfolding piece_named piece_reported
named elf relocated n header name e reported_so = keyed (key_of name header.sh_type header.sh_flags)
  where
    keyed : (o : Option SectionKey) → option_map (λ (key : SectionKey). piece_with n header name (is_terminator elf n key) key) o ≡ option_map (λ (key : SectionKey). piece_with n header name (is_terminator_reported elf.bytes relocated header key) key) o
    keyed None = refl
    keyed (Some key) =
        ap (λ t. Some (piece_with n header name t key)) (terminator_where (is_frames key) elf n header e ∙ where-four (is_frames key) (is_four_zeros elf.bytes header) relocated (is_relocated elf n) reported_so)

piece_reported_at : (elf : Elf) (relocated : Bool) (n : ℕ) (header : Shdr) (o : Option (List ℕ)) → section_at elf n ≡ Some header → (is_four_zeros elf.bytes header ≡ true → relocated ≡ is_relocated elf n) → option_and_then (piece_named elf n header) o ≡ option_and_then (piece_reported elf.bytes relocated n header) o
piece_reported_at elf relocated n header None e r = refl
piece_reported_at elf relocated n header (Some name) e r = named elf relocated n header name e r

-- no section that its type and flags rule out is one, whether or not it has a name
pub no_piece : (bytes : List ℕ) (relocated : Bool) (n : ℕ) (header : Shdr) (name : Option (List ℕ)) → may_be_piece header.sh_type header.sh_flags ≡ false → option_and_then (piece_reported bytes relocated n header) name ≡ None
unfolding piece_reported
no_piece bytes relocated n header None e = refl
no_piece bytes relocated n header (Some name) e =
    ap (option_map (λ (key : SectionKey). piece_with n header name (is_terminator_reported bytes relocated header key) key)) (no_key name header.sh_type header.sh_flags e)

-- ---- section after section

or-true : (a : Bool) → (a || true) ≡ true
or-true true = refl
or-true false = refl

any-at : {X : Type 0} (p : X → Bool) (xs : List X) (i : ℕ) (d : X) → i < length xs → p (get_or xs i d) ≡ true → list_any p xs ≡ true
any-at p [] i d l e = absurd (omega (arith, l))
any-at p (x ∷ xs) zero d l e = ap (λ t. t || list_any p xs) e
any-at p (x ∷ xs) (suc i) d l e = ap (λ t. p x || t) (any-at p xs i d (omega (arith, l)) e) ∙ or-true (p x)

first : (pieces : List PieceInfo) (o : Option PieceInfo) (rest : List PieceInfo) → pieces ++ cons_option o rest ≡ (pieces ++ option_to_list o) ++ rest
first pieces None rest = ap (λ (ps : List PieceInfo). ps ++ rest) (sym (append-nil pieces))
first pieces (Some p) rest = sym (append_assoc pieces (p ∷ []) rest)

pub piece_put : (bytes : List ℕ) (header : Ehdr) (sections : List Shdr) (symbols : List Sym) (marks : List Bool) (pieces : List PieceInfo) (i : ℕ) (d : Shdr) → 0 < i → i < length sections → MarksServe bytes sections marks
    → pieces ++ pieces_from (elf_from bytes header sections symbols) i (drop i sections)
    ≡ (pieces ++ option_to_list (option_and_then (piece_reported bytes (is_marked marks i) i (get_or sections i d)) (section_name (elf_from bytes header sections []) i))) ++ pieces_from (elf_from bytes header sections symbols) (i + 1) (drop (i + 1) sections)
unfolding pieces_from
piece_put bytes header sections symbols marks pieces i d p l e =
    let elf : Elf = elf_from bytes header sections symbols in
    ap (λ (rows : List (ℕ × Shdr)). pieces ++ filter_map (piece_at elf) rows) (rows_next i sections d l)
    ∙ first pieces (piece_at elf (i, get_or sections i d)) (pieces_from elf (i + 1) (drop (i + 1) sections))
    ∙ ap (λ (o : Option PieceInfo). (pieces ++ option_to_list o) ++ pieces_from elf (i + 1) (drop (i + 1) sections))
    (piece_reported_at elf (is_marked marks i) i (get_or sections i d) (section_name elf i) (found elf i d p l) (λ four. reported elf marks i l (e (any-at (is_four_zeros bytes) sections i d l four)))
    ∙ ap (option_and_then (piece_reported bytes (is_marked marks i) i (get_or sections i d))) (section_name_unread bytes header sections symbols i))

no_pieces_left : (elf : Elf) (pieces : List PieceInfo) (i : ℕ) (headers : List Shdr) → length headers ≤ i → pieces ++ pieces_from elf i (drop i headers) ≡ pieces
unfolding pieces_from
no_pieces_left elf pieces i headers l =
    ap (λ (rows : List (ℕ × Shdr)). pieces ++ filter_map (piece_at elf) rows) (rows_done i headers l) ∙ append-nil pieces

all_pieces : (elf : Elf) → pieces_in elf ≡ pieces_from elf 1 (drop 1 elf.sections)
unfolding pieces_in pieces_from
all_pieces elf = refl

-- once no section is left, the pieces are those of the file
pub pieces_done : (elf : Elf) (pieces : List PieceInfo) (i : ℕ) → length elf.sections ≤ i → pieces ++ pieces_from elf i (drop i elf.sections) ≡ pieces_from elf 1 (drop 1 elf.sections) → pieces ≡ pieces_in elf
pieces_done elf pieces i l e = sym (no_pieces_left elf pieces i elf.sections l) ∙ e ∙ sym (all_pieces elf)
