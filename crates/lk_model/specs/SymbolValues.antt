-- The values of symbols at a placement, and the numbers of a reference (gABI "Symbol Table",
-- "Relocation"; psABI x86-64 "Relocation Types", "Thread-Local Storage").
use Rattle.std.specs.Prelude.{ℕ, ◌+◌, ◌*◌, ◌==◌, Bool, true, false, List, [], Option, Some, None, find, slice_get, option_map, unwrap_or, if◌then◌else◌, codes}
use Rattle.lk_model.specs.Amounts.{plus, minus}
use Rattle.lk_model.specs.Keys.{row_of, piece_row_of, slot_number, plt_number}
use Rattle.lk_model.specs.SectionKeys.{named}
use Rattle.lk_model.specs.MadeSymbols.{made_value}
use Rattle.lk_model.specs.Objects.{local_in}
use Rattle.lk_model.specs.Segments.{tls_start, tls_end}
use Rattle.lk_model.specs.Values.{value_of, fits}
use Rattle.lk_model.specs.Views.{Resolved, Ref, Through}
use Rattle.lk_model.specs.Views.Through.{ByName, ByLocal}
use Rattle.lk_model.specs.declared.layouts.Class.TheVariants.{W, X}
use Rattle.lk_model.specs.declared.layouts.GotKey.{GotKey}
use Rattle.lk_model.specs.declared.layouts.GotOwner.{GotOwner}
use Rattle.lk_model.specs.declared.layouts.GotOwner.TheVariants as owner
use Rattle.lk_model.specs.declared.layouts.Numbers.{Numbers}
use Rattle.lk_model.specs.declared.layouts.PieceId.{PieceId}
use Rattle.lk_model.specs.declared.layouts.PieceId.TheVariants as id
use Rattle.lk_model.specs.declared.layouts.Placement.{Placement}
use Rattle.lk_model.specs.declared.summaries.Global.{Global}
use Rattle.lk_model.specs.declared.summaries.Home.{Home}
use Rattle.lk_model.specs.declared.summaries.Home.TheVariants as home
use Rattle.lk_model.specs.declared.summaries.Local.{Local}
use Rattle.lk_model.specs.declared.summaries.Winner.{Winner}
use Rattle.lk_model.specs.declared.summaries.Winner.TheVariants as winner

-- the address of the GOT, which is that of `.got.plt`
abbrev pub got_address : Placement → ℕ
got_address place = elim (row_of place (named (codes ".got.plt") W)) [ None ↦ 0 | Some row ↦ row.addr ]

-- the address of a GOT slot
abbrev pub slot_address : Placement → GotKey → ℕ
slot_address place k =
    elim (slot_number place k) [ None ↦ 0 | Some n ↦ elim (row_of place (named (codes ".got") W)) [ None ↦ 0 | Some row ↦ row.addr + 8 * n ] ]

-- a symbol of an input that is not LOCAL, by its number
abbrev pub symbol_of : Resolved → ℕ → ℕ → Option Global
symbol_of r input symbol =
    elim (slice_get r.inputs input) [ None ↦ None | Some i ↦ find (λ g. g.symbol == symbol) i.summary.globals ]

-- the address of an offset in a section of an input; 0 where the section is no kept piece
abbrev pub section_address : Placement → ℕ → ℕ → ℕ → ℕ
section_address place input section offset =
    elim (piece_row_of place (id.Section input section)) [ None ↦ 0 | Some row ↦ plus row.addr offset ]

-- the value of a definition: an address in its section, or an absolute value
abbrev pub home_value : Placement → ℕ → Home → ℕ → ℕ
home_value place input home.Undefined value = 0
home_value place input (home.Section n) value = section_address place input n value
home_value place input home.Absolute value = value
home_value place input home.Common value = 0
home_value place input home.Shared value = 0

-- the value of a symbol of an input that is not LOCAL
abbrev pub definition_value : Resolved → Placement → ℕ → ℕ → ℕ
definition_value r place input symbol =
    elim (symbol_of r input symbol) [ None ↦ 0 | Some g ↦ home_value place input g.home g.value ]

-- the address of the PLT entry of a name, the first of which follows the entry that calls the loader
abbrev pub plt_address : Placement → ℕ → Option ℕ
plt_address place n =
    elim (plt_number place n) [ None ↦ None | Some k ↦ option_map (λ row. row.addr + 16 * (k + 1)) (row_of place (named (codes ".plt") X)) ]

-- the address of a common block or of a copy
abbrev pub placed_address : Placement → PieceId → ℕ
placed_address place p = elim (piece_row_of place p) [ None ↦ 0 | Some row ↦ row.addr ]

-- the value of an import: its copy, else its PLT entry, else 0
abbrev pub import_value : Placement → ℕ → ℕ
import_value place n =
    elim (piece_row_of place (id.Copy n)) [ Some row ↦ row.addr | None ↦ unwrap_or (plt_address place n) 0 ]

-- S of a name, by its winner
abbrev pub winner_value : Resolved → Placement → ℕ → List ℕ → Winner → ℕ
winner_value r place n name winner.Nothing = 0
winner_value r place n name (winner.Strong i k) = definition_value r place i k
winner_value r place n name (winner.Common size align) = placed_address place (id.Common n)
winner_value r place n name (winner.Weak i k) = definition_value r place i k
winner_value r place n name winner.Made = made_value r place name
winner_value r place n name (winner.Import i k) = import_value place n

-- the name and the winner of a name's number
abbrev pub name_of : Resolved → ℕ → List ℕ
name_of r n = elim (slice_get r.names n) [ None ↦ [] | Some c ↦ c.name ]

abbrev pub winner_of_name : Resolved → ℕ → Winner
winner_of_name r n = elim (slice_get r.winners n) [ None ↦ winner.Nothing | Some w ↦ w ]

-- a LOCAL symbol of an input; one that no section holds for an input that is not there
abbrev pub local_of : Resolved → ℕ → ℕ → Local
local_of r input symbol =
    elim (slice_get r.inputs input) [ None ↦ record { home = home.Undefined; value = 0; size = 0; code = 0 } | Some i ↦ local_in i.elf symbol ]

-- S of a name and of a LOCAL symbol; 0 for one of a dropped section or of a section that is no piece
abbrev pub name_value : Resolved → Placement → ℕ → ℕ
name_value r place n = winner_value r place n (name_of r n) (winner_of_name r n)

abbrev pub local_value : Resolved → Placement → ℕ → ℕ → ℕ
local_value r place input symbol = let l = local_of r input symbol in home_value place input l.home l.value

-- the PLT entry of an import, and S otherwise
abbrev pub call_value : Placement → Winner → ℕ → ℕ → ℕ
call_value place (winner.Import i k) n s = unwrap_or (plt_address place n) s
call_value place _ n s = s

-- the size of what a name means
abbrev pub symbol_size : Resolved → ℕ → ℕ → ℕ
symbol_size r input symbol = elim (symbol_of r input symbol) [ None ↦ 0 | Some g ↦ g.size ]

abbrev pub winner_size : Resolved → Winner → ℕ
winner_size r winner.Nothing = 0
winner_size r (winner.Strong i k) = symbol_size r i k
winner_size r (winner.Common size align) = size
winner_size r (winner.Weak i k) = symbol_size r i k
winner_size r winner.Made = 0
winner_size r (winner.Import i k) = symbol_size r i k

-- whether a symbol has a place in this image, so that an offset in the thread-local block is one of its
abbrev pub is_placed_winner : Winner → Bool
is_placed_winner winner.Nothing = false
is_placed_winner (winner.Strong i k) = true
is_placed_winner (winner.Common size align) = true
is_placed_winner (winner.Weak i k) = true
is_placed_winner winner.Made = true
is_placed_winner (winner.Import i k) = false

abbrev pub is_placed_home : Placement → ℕ → Home → Bool
is_placed_home place input (home.Section n) = elim (piece_row_of place (id.Section input n)) [ None ↦ false | Some row ↦ true ]
is_placed_home place input _ = false

-- the block that a thread offset is counted from: that of the image, and none (0) for a symbol without
-- a place in it
abbrev pub block_edge : Bool → ℕ → ℕ
block_edge true edge = edge
block_edge false edge = 0

-- the GOT key of a reference
abbrev pub got_key : Bool → ℕ → Through → GotKey
got_key thread input (ByName n weak) = record { owner = owner.Global n; thread = thread }
got_key thread input (ByLocal k) = record { owner = owner.Local input k; thread = thread }

abbrev pub is_thread_slot : ℕ → Bool
is_thread_slot code = code == 22

-- the numbers of a reference at a placement
abbrev pub numbers_through : Resolved → Placement → Ref → Through → Numbers
numbers_through r place ref (ByName n weak) =
    let s = name_value r place n in
    let w = winner_of_name r n in
    let here = is_placed_winner w in
    record {
      s = s;
      a = ref.addend;
      p = section_address place ref.input ref.section ref.offset;
      l = call_value place w n s;
      slot = slot_address place (got_key (is_thread_slot ref.code) ref.input (ByName n weak));
      got = got_address place;
      z = winner_size r w;
      tls_start = block_edge here (tls_start place);
      tls_end = block_edge here (tls_end place);
    }
numbers_through r place ref (ByLocal k) =
    let s = local_value r place ref.input k in
    let l = local_of r ref.input k in
    let here = is_placed_home place ref.input l.home in
    record {
      s = s;
      a = ref.addend;
      p = section_address place ref.input ref.section ref.offset;
      l = s;
      slot = slot_address place (got_key (is_thread_slot ref.code) ref.input (ByLocal k));
      got = got_address place;
      z = l.size;
      tls_start = block_edge here (tls_start place);
      tls_end = block_edge here (tls_end place);
    }

abbrev pub numbers_of : Resolved → Placement → Ref → Numbers
numbers_of r place ref = numbers_through r place ref ref.through

-- the value of a reference at a placement, and whether it fits its field
unfoldable pub reference_value : Resolved → Placement → Ref → ℕ
reference_value r place ref = value_of ref.code (numbers_of r place ref)

unfoldable pub reference_fits : Resolved → Placement → Ref → Bool
reference_fits r place ref = fits ref.code (reference_value r place ref)

-- what a GOT slot holds: S, or the offset of the symbol from the end of the thread-local block; 0 for
-- an import without a copy and in a slot that is free
abbrev pub owner_value : Resolved → Placement → GotOwner → ℕ
owner_value r place (owner.Global n) =
    elim (winner_of_name r n) [
      | winner.Import i k ↦ placed_address place (id.Copy n)
      | _ ↦ name_value r place n
    ]
owner_value r place (owner.Local i k) = local_value r place i k

abbrev pub is_placed_owner : Resolved → Placement → GotOwner → Bool
is_placed_owner r place (owner.Global n) = is_placed_winner (winner_of_name r n)
is_placed_owner r place (owner.Local i k) = is_placed_home place i (local_of r i k).home

abbrev pub slot_value : Resolved → Placement → Option GotKey → ℕ
slot_value r place None = 0
slot_value r place (Some k) =
    if k.thread then (if is_placed_owner r place k.owner then minus (owner_value r place k.owner) (tls_end place) else 0)
    else owner_value r place k.owner
