-- What a reference needs by what it goes to (psABI x86-64, "Global Offset Table", "Procedure Linkage
-- Table"), and what of it an image records.
use Rattle.std.specs.Prelude.{ℕ, nat_eq, ◌==◌, Bool, true, false, ◌&&◌, not, cond, List, [], ◌∷◌, ◌++◌, fold, Option, Some, None}
use Rattle.lk_elf.specs.Numbers.{stt_object, stt_tls}
use Rattle.lk_model.specs.declared.layouts.GotKey.{GotKey}
use Rattle.lk_model.specs.declared.layouts.GotOwner.TheVariants as owner
use Rattle.lk_model.specs.declared.layouts.Needs.{Needs}
use Rattle.lk_model.specs.declared.records.Reference.{Reference}
use Rattle.lk_model.specs.Forms.{is_address_form, is_got_form, r_x86_64_gottpoff, r_x86_64_plt32}
use Rattle.lk_model.specs.NeedsOf.{got_key_eq}
use Rattle.lk_model.specs.Numbered.{with_new}
use Rattle.lk_scan.specs.declared.slots.Slot.{Slot}
use Rattle.lk_scan.specs.declared.slots.Slot.TheVariants as slot
use Rattle.lk_scan.specs.declared.targets.Import.{Import}
use Rattle.lk_scan.specs.declared.targets.Referral.{Referral}
use Rattle.lk_scan.specs.declared.targets.Way.{Way}
use Rattle.lk_scan.specs.declared.targets.Way.TheVariants as way

-- a slot as a key
abbrev pub key_of : Slot → GotKey
key_of (slot.OfName number thread) = record { owner = owner.Global number; thread = thread }
key_of (slot.OfLocal input symbol thread) = record { owner = owner.Local input symbol; thread = thread }

-- the slot of the symbol that a reference names
abbrev pub slot_of : ℕ → Bool → Way → Slot
slot_of input thread (way.Name number weak) = slot.OfName number thread
slot_of input thread (way.Local symbol) = slot.OfLocal input symbol thread

-- the slots that a reference needs
abbrev pub slots_on : Referral → List GotKey
slots_on r =
    cond (is_got_form r.code) (key_of (slot_of r.input false r.target.way) ∷ []) []
    ++ cond (r.code == r_x86_64_gottpoff) (key_of (slot_of r.input true r.target.way) ∷ []) []

-- what a reference of a type to an import needs: a copy, a PLT entry to be its address, a PLT entry
abbrev pub is_copied : ℕ → Import → Bool
is_copied code import = is_address_form code && (import.code == stt_object)

abbrev pub is_addressed : ℕ → Import → Bool
is_addressed code import = is_address_form code && (not (import.code == stt_object) && not (import.code == stt_tls))

abbrev pub copies_of : ℕ → Import → List ℕ
copies_of code import = cond (is_copied code import) (import.name ∷ []) []

abbrev pub address_of : ℕ → Import → List ℕ
address_of code import = cond (is_addressed code import) (import.name ∷ []) []

abbrev pub plt_of : ℕ → Import → List ℕ
plt_of code import = cond (code == r_x86_64_plt32) (import.name ∷ []) [] ++ address_of code import

-- needs with those of one more reference to an import
abbrev pub needs_of_import : Needs → ℕ → Import → Needs
needs_of_import n code import = record {
  got = n.got;
  plt = fold (with_new nat_eq) n.plt (plt_of code import);
  address = fold (with_new nat_eq) n.address (address_of code import);
  copies = fold (with_new nat_eq) n.copies (copies_of code import);
}

abbrev pub needs_of_some : Needs → ℕ → Option Import → Needs
needs_of_some n code None = n
needs_of_some n code (Some import) = needs_of_import n code import

-- needs with the slots of one more reference, and with all that it needs
abbrev pub needs_with_slots : Needs → Referral → Needs
needs_with_slots n r = record { got = fold (with_new got_key_eq) n.got (slots_on r); plt = n.plt; address = n.address; copies = n.copies }

abbrev pub needs_with : Needs → Referral → Needs
needs_with n r = needs_of_some (needs_with_slots n r) r.code r.target.import

-- what an image records of a reference
abbrev pub recorded_on : Referral → List Reference
recorded_on r = elim r.target.way [
  | way.Name number weak ↦ record { input = r.input; section = r.section; offset = r.offset; code = r.code; name = number; addend = r.addend; weak = weak } ∷ []
  | way.Local symbol ↦ []
]
