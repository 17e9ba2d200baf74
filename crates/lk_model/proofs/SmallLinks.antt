-- Small links for worked examples: what resolution found of a few pieces, and rows by their numbers.
use Rattle.std.specs.Prelude.{ℕ, true, false, List, [], ◌∷◌, ◌-◌, ◌+◌, codes}
use Rattle.lk_model.specs.SectionKeys.{named}
use Rattle.lk_model.specs.Views.{KeptPiece, Resolved}
use Rattle.lk_model.specs.declared.layouts.Class.{Class}
use Rattle.lk_model.specs.declared.layouts.Class.TheVariants.{R, X, W, N}
use Rattle.lk_model.specs.declared.layouts.PieceId.TheVariants as piece
use Rattle.lk_model.specs.declared.layouts.PieceRow.{PieceRow}
use Rattle.lk_model.specs.declared.layouts.SectionRow.{SectionRow}
use Rattle.lk_model.specs.declared.layouts.SlotTable.{SlotTable}

-- a link that keeps these pieces and needs no slots
abbrev pub link : List KeptPiece → Resolved
link kept =
    record {
      options = record { entry = codes "_start"; interp = []; runpath = []; patch = 10; export_dynamic = false; dynamic = false };
      inputs = [];
      added = [];
      names = [];
      winners = [];
      visibilities = [];
      kept = kept;
      references = [];
      needs = record { got = []; plt = []; address = []; copies = [] };
    }

-- a piece of an input's section that is named as its output section
abbrev pub kept : ℕ → ℕ → List ℕ → Class → ℕ → ℕ → KeptPiece
kept input section name class size align =
    record {
      piece = piece.Section input section;
      key = named name class;
      name = name;
      size = size;
      align = align;
      terminator = false;
    }

-- a row of a loaded section
abbrev pub row : List ℕ → Class → ℕ → ℕ → ℕ → ℕ → SectionRow
row name class addr size room align =
    record { key = named name class; addr = addr; offset = addr - 0x400000; size = size; room = room; align = align }

-- the smallest link: one empty piece of code
abbrev pub smallest : Resolved
smallest = link (kept 0 1 (codes ".text") X 0 1 ∷ [])

-- a piece with a name of its own
abbrev pub called : List ℕ → KeptPiece → KeptPiece
called name kept_piece = record kept_piece { name = name }

-- a terminator of the frame table
abbrev pub terminator : ℕ → ℕ → ℕ → KeptPiece
terminator input section align =
    record {
      piece = piece.Section input section;
      key = named (codes ".eh_frame") R;
      name = codes ".eh_frame";
      size = 0;
      align = align;
      terminator = true;
    }

-- a row of a section that is not loaded, at its offset in the file
abbrev pub unloaded : List ℕ → ℕ → ℕ → ℕ → SectionRow
unloaded name offset room align =
    record { key = named name N; addr = 0; offset = offset; size = room; room = room; align = align }

-- a placed piece of an input's section
abbrev pub placed : ℕ → ℕ → ℕ → ℕ → ℕ → ℕ → PieceRow
placed input section number addr size align =
    record { piece = piece.Section input section; section = number; addr = addr; size = size; align = align }

-- the last two rows of a link without slots and without data: the GOT at its page
abbrev pub got_rows : ℕ → List SectionRow
got_rows at = row (codes ".got") W at 0 64 16 ∷ row (codes ".got.plt") W (at + 64) 24 64 16 ∷ []

-- no slots
abbrev pub no_slots : SlotTable
no_slots = record { got = []; plt = [] }
