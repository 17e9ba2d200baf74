-- What the references of a link need (psABI x86-64, "Global Offset Table", "Procedure Linkage Table"):
-- slots, entries and copies, each at its first reference. Which form needs which is this project's own.
use Rattle.std.specs.Prelude.{ℕ, nat_eq, ◌==◌, Bool, true, false, ◌&&◌, not, cond, List, [], ◌∷◌, ◌++◌, flat_map, Option, Some, None, option_map, option_and_then}
use Rattle.std.specs.Bool.{beq}
use Rattle.lk_elf.specs.Numbers.{stt_object, stt_tls}
use Rattle.lk_model.specs.declared.layouts.GotKey.{GotKey}
use Rattle.lk_model.specs.declared.layouts.GotOwner.{GotOwner}
use Rattle.lk_model.specs.declared.layouts.GotOwner.TheVariants as owner
use Rattle.lk_model.specs.declared.layouts.Needs.{Needs}
use Rattle.lk_model.specs.declared.summaries.Contributions.{Contributions}
use Rattle.lk_model.specs.declared.summaries.Global.{Global}
use Rattle.lk_model.specs.Finding.{Found, contributions_in, winner_in}
use Rattle.lk_model.specs.Forms.{is_got_form, is_address_form, r_x86_64_gottpoff, r_x86_64_plt32}
use Rattle.lk_model.specs.Numbered.{distinct}
use Rattle.lk_model.specs.References.{Sited}
use Rattle.lk_model.specs.Views.{Ref, Through}
use Rattle.lk_model.specs.Winners.{import_symbol}
use Rattle.lk_model.specs.SectionKeys.{is_alloc}

-- whose slot a reference needs
abbrev pub slot_owner : Ref → GotOwner
slot_owner r = elim r.through [ Through.ByName name weak ↦ owner.Global name | Through.ByLocal symbol ↦ owner.Local r.input symbol ]

-- the GOT slots that a reference in a loaded piece needs
abbrev pub got_needs : Ref → List GotKey
got_needs r =
    cond (is_got_form r.code) (record { owner = slot_owner r; thread = false } ∷ []) []
    ++ cond (r.code == r_x86_64_gottpoff) (record { owner = slot_owner r; thread = true } ∷ []) []

-- the symbol in a shared input that a name means, where it means an import
abbrev pub import_named : Found → ℕ → Option Global
import_named found name = option_and_then (λ (cs : Contributions). option_and_then (import_symbol cs) (winner_in found name)) (contributions_in found name)

-- the import that a reference goes to: the number of its name and its symbol in the shared input
abbrev pub import_of : Found → Ref → Option (ℕ × Global)
import_of found r = elim r.through [
  | Through.ByName name weak ↦ option_map (λ (g : Global). (name, g)) (import_named found name)
  | Through.ByLocal symbol ↦ None
]

-- the name of a reference to an import where the import's symbol passes
abbrev pub import_where : Found → (Global → Bool) → Ref → List ℕ
import_where found passes r = elim (import_of found r) [ None ↦ [] | Some import ↦ cond (passes import.1) (import.0 ∷ []) [] ]

-- whether an import is a variable, which is copied
abbrev pub is_variable : Global → Bool
is_variable g = g.code == stt_object

-- whether an import is neither a variable nor thread-local, so that a PLT entry can be its address
abbrev pub is_callable : Global → Bool
is_callable g = not (g.code == stt_object) && not (g.code == stt_tls)

-- the imports that a reference in a loaded piece needs to be copied
abbrev pub copy_needs : Found → Ref → List ℕ
copy_needs found r = cond (is_address_form r.code) (import_where found is_variable r) []

-- the imports whose address a reference in a loaded piece needs a PLT entry to be
abbrev pub address_needs : Found → Ref → List ℕ
address_needs found r = cond (is_address_form r.code) (import_where found is_callable r) []

-- the imports that a reference in a loaded piece needs a PLT entry of
abbrev pub plt_needs : Found → Ref → List ℕ
plt_needs found r = cond (r.code == r_x86_64_plt32) (import_where found (λ g. true) r) [] ++ address_needs found r

-- whether two owners are the same
abbrev pub owner_eq : GotOwner → GotOwner → Bool
owner_eq (owner.Global n) (owner.Global m) = n == m
owner_eq (owner.Local i s) (owner.Local j t) = (i == j) && (s == t)
owner_eq (owner.Global n) (owner.Local j t) = false
owner_eq (owner.Local i s) (owner.Global m) = false

-- whether two slots are the same
abbrev pub got_key_eq : GotKey → GotKey → Bool
got_key_eq a b = owner_eq a.owner b.owner && beq a.thread b.thread

-- the references that are in loaded pieces, which alone need something
abbrev pub loaded_references : List Sited → List Ref
loaded_references sited = flat_map (λ (x : Sited). cond (is_alloc x.0.class) (x.1 ∷ []) []) sited

-- what references need, each in order of its first reference
unfoldable pub needs_of : Found → List Sited → Needs
needs_of found sited =
    let loaded = loaded_references sited in
    record {
      got = distinct got_key_eq (flat_map got_needs loaded);
      plt = distinct nat_eq (flat_map (plt_needs found) loaded);
      address = distinct nat_eq (flat_map (address_needs found) loaded);
      copies = distinct nat_eq (flat_map (copy_needs found) loaded);
    }
