-- This project's own: which pieces a link keeps, in order: the sections of the added objects that no
-- group drops, in adding order and by section; then, in order of names, the merged common blocks (gABI
-- "Symbol Table", SHN_COMMON) and the copies of imported objects (psABI, R_X86_64_COPY).
use Rattle.std.specs.Prelude.{ℕ, ◌%◌, ◌==◌, ◌&&◌, Bool, true, false, cond, List, [], ◌∷◌, map, flat_map, filter, filter_map, zip, codes, Option, Some, None, option_map}
use Rattle.std.specs.List.{enumerate_from}
use Rattle.lk_model.specs.declared.layouts.Class.TheVariants as class
use Rattle.lk_model.specs.declared.layouts.PieceId.TheVariants as piece
use Rattle.lk_model.specs.declared.layouts.SectionKey.{SectionKey}
use Rattle.lk_model.specs.declared.summaries.Contributions.{Contributions}
use Rattle.lk_model.specs.declared.summaries.Global.{Global}
use Rattle.lk_model.specs.declared.summaries.PieceInfo.{PieceInfo}
use Rattle.lk_model.specs.declared.summaries.Winner.{Winner}
use Rattle.lk_model.specs.declared.summaries.Winner.TheVariants as winner
use Rattle.lk_model.specs.Groups.{is_left, with_claims}
use Rattle.lk_model.specs.Numbered.{Numbered, is_number_in}
use Rattle.lk_model.specs.Winners.{symbol_among}
use Rattle.lk_model.specs.Views.{KeptPiece}
use Rattle.lk_model.specs.SectionKeys.{is_alloc}

-- a section of an input as a piece
abbrev pub section_piece : ℕ → PieceInfo → KeptPiece
section_piece input p = record { piece = piece.Section input p.section; key = p.key; name = p.name; size = p.size; align = p.align; terminator = p.terminator }

-- the pieces of an input that the signatures claimed before it leave in the link
abbrev pub pieces_left : List (List ℕ) → Numbered → List KeptPiece
pieces_left claimed x = map (section_piece x.number) (filter (λ (p : PieceInfo). is_left claimed x.summary p.section) x.summary.pieces)

-- the kept sections of the added inputs, in adding order and by section
abbrev pub kept_sections : List Numbered → List KeptPiece
kept_sections added = flat_map (λ (c : List (List ℕ) × Numbered). pieces_left c.0 c.1) (with_claims [] added)

-- the names of the loaded output sections that kept pieces go to
abbrev pub loaded_names : List KeptPiece → List (List ℕ)
loaded_names kept = map (λ (k : KeptPiece). k.key.name) (filter (λ (k : KeptPiece). is_alloc k.key.class) kept)

-- the output section of common blocks and copies
abbrev pub bss_key : SectionKey
bss_key = record { name = codes ".bss"; class = class.Bss }

-- the common block of a name as a piece
abbrev pub common_piece : ℕ → ℕ → ℕ → KeptPiece
common_piece name size align = record { piece = piece.Common name; key = bss_key; name = []; size = size; align = align; terminator = false }

-- the first of some powers of two that divides a number, or 1
abbrev pub first_dividing : List ℕ → ℕ → ℕ
first_dividing [] n = 1
first_dividing (p ∷ ps) n = cond (n % p == 0) p (first_dividing ps n)

-- the alignment of a copy: the greatest power of two up to 64 that divides the import's value
abbrev pub copy_align : ℕ → ℕ
copy_align value = first_dividing (64 ∷ 32 ∷ 16 ∷ 8 ∷ 4 ∷ 2 ∷ []) value

-- the copy of an imported object as a piece
abbrev pub copy_piece : ℕ → Global → KeptPiece
copy_piece name g = record { piece = piece.Copy name; key = bss_key; name = []; size = g.size; align = copy_align g.value; terminator = false }

-- the piece that a name has of its own, where it has one: its common block, or its copy where it is
-- among the copied names
abbrev pub name_piece : List ℕ → ℕ → Contributions → Winner → Option KeptPiece
name_piece copies name cs (winner.Common size align) = Some (common_piece name size align)
name_piece copies name cs (winner.Import input symbol) = cond (is_number_in copies name) (option_map (copy_piece name) (symbol_among cs.list input symbol)) None
name_piece copies name cs winner.Nothing = None
name_piece copies name cs (winner.Strong input symbol) = None
name_piece copies name cs (winner.Weak input symbol) = None
name_piece copies name cs winner.Made = None

-- the common blocks and copies, in order of names
abbrev pub name_pieces : List ℕ → List Contributions → List Winner → List KeptPiece
name_pieces copies names winners = filter_map (λ (x : ℕ × (Contributions × Winner)). name_piece copies x.0 x.1.0 x.1.1) (enumerate_from 0 (zip names winners))

-- whether a kept piece is this section of this input
abbrev pub is_section_piece : ℕ → ℕ → KeptPiece → Bool
is_section_piece input section k = elim k.piece [ piece.Section i s ↦ (i == input) && (s == section) | piece.Common name ↦ false | piece.Copy name ↦ false ]

-- whether a kept piece is a section of an input
abbrev pub is_input_piece : KeptPiece → Bool
is_input_piece k = elim k.piece [ piece.Section i s ↦ true | piece.Common name ↦ false | piece.Copy name ↦ false ]
