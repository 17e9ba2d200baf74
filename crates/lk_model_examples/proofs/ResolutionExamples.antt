-- Links whose resolution is computed.
use mathlib.Core.Path.{ap}
use native.Mathlib.Omega.{arith}
use Rattle.std.specs.Prelude.{true, get_or, ◌≡◌, refl, ℕ, false, List, [], ◌∷◌, map, codes, Some}
use Rattle.lk_elf.specs.Numbers.{stt_tls, stt_func, stb_global, stv_default, stv_internal, stv_hidden, stv_protected}
use Rattle.lk_report.specs.declared.faults.Fault.TheVariants as fault
use Rattle.lk_model.specs.declared.layouts.Class.TheVariants as class
use Rattle.lk_model.specs.declared.layouts.PieceId.TheVariants as piece
use Rattle.lk_model.specs.declared.summaries.Contributions.{Contributions}
use Rattle.lk_model.specs.declared.summaries.Global.{Global}
use Rattle.lk_model.specs.declared.summaries.Home.TheVariants as home
use Rattle.lk_model.specs.declared.summaries.Winner.TheVariants as winner
use Rattle.lk_model.specs.Adding.{IsAdded, added_inputs, added_of}
use Rattle.lk_model.specs.Finding.{found_of}
use Rattle.lk_model.specs.Groups.{is_dropped}
use Rattle.lk_model.specs.Numbered.{Numbered}
use Rattle.lk_model.specs.NeedsOf.{needs_of}
use Rattle.lk_model.specs.ResolveFaults.{faults_of, resolve_faults}
use Rattle.lk_model.specs.Resolving.{resolve, is_kept, name_number_of}
use Rattle.lk_model.specs.Views.{Input, KeptPiece, Resolved}
use Rattle.lk_model.specs.Winners.{winner_of}
use Rattle.lk_model.proofs.Adding.{added_of-only}
use Rattle.lk_model_examples.proofs.ResolutionInputs.{common, exported, member, no_elf, object, object_in, piece_named, plain_options, shared, strong, symbol, text, undefined, weak, weak_undefined}

-- what resolution finds of inputs
link : List Input → Resolved
unfolding resolve found_of added_inputs needs_of winner_of
link inputs = resolve plain_options inputs

abbrev start : List ℕ
start = codes "_start"

abbrev f : List ℕ
f = codes "f"

abbrev a : List ℕ
a = codes "a.o"

abbrev b : List ℕ
b = codes "b.o"

abbrev c : List ℕ
c = codes "c.o"

-- two strong definitions of one name are a fault of the name, with both paths
two_strong : resolve_faults (link (object a (strong 1 start 1 ∷ strong 2 f 1 ∷ []) ∷ object b (strong 1 f 1 ∷ []) ∷ [])) ≡ fault.MultipleDefinition f a b ∷ []
unfolding link resolve_faults faults_of
two_strong = refl

-- each later strong definition is reported against the first, and names come in their order
three_strong :
    resolve_faults (link (object a (strong 1 start 1 ∷ strong 2 f 1 ∷ []) ∷ object b (strong 1 f 1 ∷ strong 2 start 1 ∷ []) ∷ object c (strong 1 f 1 ∷ []) ∷ []))
    ≡ fault.MultipleDefinition start a b ∷ fault.MultipleDefinition f a b ∷ fault.MultipleDefinition f a c ∷ []
unfolding link resolve_faults faults_of
three_strong = refl

-- a weak definition yields to common blocks, of which the greatest size and alignment count
weak_and_commons : (link (object a (weak 1 f 1 ∷ []) ∷ object b (common 1 f 4 4 ∷ []) ∷ object c (common 1 f 8 2 ∷ []) ∷ [])).winners ≡ winner.Common 8 4 ∷ []
unfolding link
weak_and_commons = refl

-- the merged block is a piece after the sections, with the number of its name
merged_piece :
    map (λ (k : KeptPiece). k.piece) (link (object a (strong 1 start 1 ∷ common 2 f 4 4 ∷ []) ∷ object b (common 1 f 8 2 ∷ []) ∷ [])).kept
    ≡ piece.Section 0 1 ∷ piece.Section 1 1 ∷ piece.Common 1 ∷ []
unfolding link
merged_piece = refl

-- a strong definition is before common blocks
strong_and_common : (link (object a (common 1 f 8 8 ∷ []) ∷ object b (strong 1 f 1 ∷ []) ∷ [])).winners ≡ winner.Strong 1 1 ∷ []
unfolding link
strong_and_common = refl

-- of two weak definitions the first counts
two_weak : (link (object a (undefined 3 f ∷ []) ∷ object b (weak 7 f 1 ∷ []) ∷ object c (weak 5 f 1 ∷ []) ∷ [])).winners ≡ winner.Weak 1 7 ∷ []
unfolding link
two_weak = refl

-- a lib group whose second member is wanted first, and then its first
group_of_two : List Input
group_of_two = object (codes "m.o") (strong 1 start 1 ∷ undefined 2 (codes "gy") ∷ []) ∷ member 1 (codes "x.o") (strong 1 (codes "gx") 1 ∷ []) ∷ member 1 (codes "y.o") (strong 1 (codes "gy") 1 ∷ undefined 2 (codes "gx") ∷ []) ∷ []

second_then_first : added_of start group_of_two ≡ 0 ∷ 2 ∷ 1 ∷ []
unfolding group_of_two added_of added_inputs
second_then_first = refl

-- in command order they are not added
not_in_order : IsAdded start group_of_two (0 ∷ 1 ∷ 2 ∷ []) → ⊥
unfolding group_of_two added_of added_inputs
not_in_order h = let second : ◌≡◌ {A = ℕ} 1 2 = ap (λ (xs : List ℕ). get_or xs 1 0) (added_of-only start group_of_two (0 ∷ 1 ∷ 2 ∷ []) h) in absurd (omega arith)

-- a weak reference adds no member
weak_adds_none : added_of start (object (codes "m.o") (strong 1 start 1 ∷ weak_undefined 2 (codes "gy") ∷ []) ∷ member 1 (codes "y.o") (strong 1 (codes "gy") 1 ∷ []) ∷ []) ≡ 0 ∷ []
unfolding added_of added_inputs
weak_adds_none = refl

-- the search goes on after the member that was added last: the third before the first
goes_round :
    added_of start (object (codes "m.o") (strong 1 start 1 ∷ undefined 2 (codes "q") ∷ []) ∷ member 1 (codes "p.o") (strong 1 (codes "p") 1 ∷ []) ∷ member 1 (codes "q.o") (strong 1 (codes "q") 1 ∷ undefined 2 (codes "p") ∷ undefined 3 (codes "r") ∷ []) ∷ member 1 (codes "r.o") (strong 1 (codes "r") 1 ∷ []) ∷ [])
    ≡ 0 ∷ 2 ∷ 3 ∷ 1 ∷ []
unfolding added_of added_inputs
goes_round = refl

-- a common block is no reason to add a member, and one that is there wants no other
commons_add_none : added_of start (object (codes "m.o") (strong 1 start 1 ∷ undefined 2 f ∷ []) ∷ member 1 a (common 1 f 8 8 ∷ []) ∷ object b (common 1 f 8 8 ∷ []) ∷ member 2 c (strong 1 f 1 ∷ []) ∷ []) ≡ 0 ∷ 2 ∷ []
unfolding added_of added_inputs
commons_add_none = refl

-- the entry name is wanted from the first
entry_is_wanted : added_of start (member 1 a (strong 1 f 1 ∷ []) ∷ member 1 b (strong 1 start 1 ∷ []) ∷ []) ≡ 1 ∷ []
unfolding added_of added_inputs
entry_is_wanted = refl

-- an object with a section in a group of this signature
grouped : ℕ → List ℕ → List Global → Input
grouped lib path globals = object_in lib path (text 1 ∷ piece_named 2 (codes ".text.t") class.X ∷ []) globals (record { signature = codes "t"; members = 2 ∷ [] } ∷ []) no_elf

-- of two groups with one signature the first added is kept, and what the other defines is a reference
two_objects : List Input
two_objects = grouped 0 a (strong 1 start 1 ∷ strong 2 (codes "t") 2 ∷ []) ∷ grouped 0 b (strong 1 (codes "t") 2 ∷ []) ∷ []

two_groups : Resolved
unfolding link grouped two_objects
two_groups = link two_objects

-- the inputs of a command that are added
numbered : List Input → List Numbered
unfolding added_inputs
numbered inputs = added_inputs start inputs

first_group_kept : map (λ (k : KeptPiece). k.piece) two_groups.kept ≡ piece.Section 0 1 ∷ piece.Section 0 2 ∷ piece.Section 1 1 ∷ []
unfolding two_groups
first_group_kept = refl

second_group_dropped : is_kept two_groups 1 2 ≡ false
unfolding two_groups
second_group_dropped = refl

dropped_member : is_dropped (numbered two_objects) 1 2 ≡ true
unfolding numbered two_objects grouped
dropped_member = refl

kept_member : is_dropped (numbered two_objects) 0 2 ≡ false
unfolding numbered two_objects grouped
kept_member = refl

first_group_wins : two_groups.winners ≡ winner.Strong 0 1 ∷ winner.Strong 0 2 ∷ []
unfolding two_groups
first_group_wins = refl

groups_no_fault : resolve_faults two_groups ≡ []
unfolding two_groups resolve_faults faults_of
groups_no_fault = refl

-- a member whose group is claimed already defines nothing that is wanted
claimed_member : added_of start (grouped 0 a (strong 1 start 1 ∷ undefined 2 f ∷ []) ∷ grouped 1 b (strong 1 f 2 ∷ []) ∷ []) ≡ 0 ∷ []
unfolding grouped added_of added_inputs
claimed_member = refl

-- a definition in a section that is no piece is a reference
no_piece : (link (object a (strong 1 f 9 ∷ []) ∷ [])).winners ≡ winner.Nothing ∷ []
unfolding link
no_piece = refl

-- the most constraining visibility counts
seen_as : List ℕ → ℕ → Global → Input
seen_as path visibility g = object path (record g { visibility = visibility } ∷ [])

visibilities_merge : (link (seen_as a stv_default (strong 1 f 1) ∷ seen_as b stv_protected (undefined 1 f) ∷ seen_as c stv_hidden (undefined 1 f) ∷ [])).visibilities ≡ stv_hidden ∷ []
unfolding link seen_as
visibilities_merge = refl

internal_before_hidden : (link (seen_as a stv_internal (strong 1 f 1) ∷ seen_as b stv_hidden (undefined 1 f) ∷ [])).visibilities ≡ stv_internal ∷ []
unfolding link seen_as
internal_before_hidden = refl

-- a name that is thread-local where it is defined and a function elsewhere
tls_definition : resolve_faults (link (object a (strong 1 start 1 ∷ symbol 2 f stb_global stt_tls (home.Section 1) ∷ []) ∷ object b (symbol 1 f stb_global stt_func home.Undefined ∷ []) ∷ [])) ≡ fault.TlsMismatch f ∷ []
unfolding link resolve_faults faults_of
tls_definition = refl

-- and the other way round; a reference without type fits both
tls_reference :
    resolve_faults (link (object a (strong 1 start 1 ∷ strong 2 f 1 ∷ symbol 3 (codes "g") stb_global stt_tls (home.Section 1) ∷ []) ∷ object b (symbol 1 f stb_global stt_tls home.Undefined ∷ undefined 2 (codes "g") ∷ []) ∷ []))
    ≡ fault.TlsMismatch f ∷ []
unfolding link resolve_faults faults_of
tls_reference = refl

-- an entry that nothing defines, that the linker makes, and that is a common block
no_entry : resolve_faults (link (object a (undefined 1 start ∷ []) ∷ [])) ≡ fault.NoEntry start ∷ []
unfolding link resolve_faults faults_of
no_entry = refl

made_entry : resolve_faults (resolve (record plain_options { entry = codes "end" }) (object a (undefined 1 (codes "end") ∷ []) ∷ [])) ≡ fault.NoEntry (codes "end") ∷ []
unfolding link resolve_faults faults_of
made_entry = refl

common_entry : resolve_faults (link (object a (common 1 start 8 8 ∷ []) ∷ [])) ≡ []
unfolding link resolve_faults faults_of
common_entry = refl

-- a name that the linker makes where an object refers to it; a definition of it is before
made_end : (link (object a (undefined 1 (codes "end") ∷ []) ∷ [])).winners ≡ winner.Made ∷ []
unfolding link
made_end = refl

defined_end : (link (object a (undefined 1 (codes "end") ∷ []) ∷ object b (weak 1 (codes "end") 1 ∷ []) ∷ [])).winners ≡ winner.Weak 1 1 ∷ []
unfolding link
defined_end = refl

-- the bounds of a section whose name is an identifier, where a piece goes to it
bounds : (link (object_in 0 a (piece_named 1 (codes "foo") class.W ∷ []) (undefined 1 (codes "__start_foo") ∷ undefined 2 (codes "__stop_foo") ∷ undefined 3 (codes "__start_bar") ∷ []) [] no_elf ∷ [])).winners
    ≡ winner.Made ∷ winner.Made ∷ winner.Nothing ∷ []
unfolding link
bounds = refl

-- a section that is not loaded has none, nor one whose name is no identifier
no_bounds :
    (link (object_in 0 a (piece_named 1 (codes "foo") class.N ∷ piece_named 2 (codes ".foo") class.W ∷ []) (undefined 1 (codes "__start_foo") ∷ undefined 2 (codes "__start_.foo") ∷ []) [] no_elf ∷ [])).winners
    ≡ winner.Nothing ∷ winner.Nothing ∷ []
unfolding link
no_bounds = refl

-- `_DYNAMIC` is made in dynamic links alone
static_dynamic : (link (object a (undefined 1 (codes "_DYNAMIC") ∷ []) ∷ [])).winners ≡ winner.Nothing ∷ []
unfolding link
static_dynamic = refl

dynamic_dynamic : (link (object a (undefined 1 (codes "_DYNAMIC") ∷ []) ∷ shared (codes "l.so") [] ∷ [])).winners ≡ winner.Made ∷ []
unfolding link
dynamic_dynamic = refl

-- a name in a shared input is an import where its visibility is default, and a hidden one is none
import_wins : (link (object a (undefined 1 f ∷ []) ∷ shared (codes "l.so") (exported 4 f stt_func 16 8 ∷ []) ∷ [])).winners ≡ winner.Import 1 4 ∷ []
unfolding link
import_wins = refl

hidden_import : (link (seen_as a stv_hidden (undefined 1 f) ∷ shared (codes "l.so") (exported 4 f stt_func 16 8 ∷ []) ∷ [])).winners ≡ winner.Nothing ∷ []
unfolding link seen_as
hidden_import = refl

-- names come in order of their first symbol over the added inputs
names_in_adding_order : map (λ (cs : Contributions). cs.name) (link group_of_two).names ≡ start ∷ codes "gy" ∷ codes "gx" ∷ []
unfolding link group_of_two
names_in_adding_order = refl

number_of_gx : name_number_of (link group_of_two) (codes "gx") ≡ Some 2
unfolding link group_of_two
number_of_gx = refl
