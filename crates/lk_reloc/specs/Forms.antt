-- What a reference goes to, by what its value is made of, and what lk_model says of a type by its number
-- (psABI x86-64, "Relocation Types").
use Rattle.std.specs.Prelude.{◌≡◌, ℕ, ◌==◌, Bool, true, false, ◌||◌, Option, is_some}
use Rattle.lk_model.specs.Checks.{is_some_with}
use Rattle.lk_model.specs.Forms.{is_address_form, is_block_offset, is_got_form, is_size_form, is_thread_form, is_thread_offset, r_x86_64_gottpoff, r_x86_64_none, r_x86_64_plt32}
use Rattle.lk_model.specs.RelocationTypes.{relocation_type_of}
use Rattle.lk_reloc.specs.declared.rules.Form.{Form}
use Rattle.lk_reloc.specs.declared.rules.Form.TheVariants as form
use Rattle.lk_reloc.specs.declared.rules.Formula.{Formula}
use Rattle.lk_reloc.specs.declared.rules.Formula.TheVariants as formula

-- what a reference goes to whose value is made of this
abbrev pub form_by : Formula → Form
form_by formula.NoValue = form.NoReference
form_by formula.Absolute = form.Address
form_by formula.Relative = form.Address
form_by formula.GotOffset = form.Address
form_by formula.PltRelative = form.PltEntry
form_by formula.SlotRelative = form.AddressSlot
form_by formula.ThreadSlotRelative = form.ThreadSlot
form_by formula.GotRelative = form.Got
form_by formula.SymbolSize = form.Size
form_by formula.DtpOffset = form.BlockOffset
form_by formula.TpOffset = form.ThreadOffset

-- whether a form is this one
abbrev pub is_no_reference : Form → Bool
is_no_reference form.NoReference = true
is_no_reference _ = false

abbrev pub is_address : Form → Bool
is_address form.Address = true
is_address _ = false

abbrev pub is_plt_entry : Form → Bool
is_plt_entry form.PltEntry = true
is_plt_entry _ = false

abbrev pub is_address_slot : Form → Bool
is_address_slot form.AddressSlot = true
is_address_slot _ = false

abbrev pub is_thread_slot : Form → Bool
is_thread_slot form.ThreadSlot = true
is_thread_slot _ = false

abbrev pub is_in_block : Form → Bool
is_in_block form.BlockOffset = true
is_in_block _ = false

abbrev pub is_from_thread : Form → Bool
is_from_thread form.ThreadOffset = true
is_from_thread _ = false

abbrev pub is_size : Form → Bool
is_size form.Size = true
is_size _ = false

-- whether a form is one of thread-local symbols
abbrev pub is_of_thread : Form → Bool
is_of_thread f = is_thread_slot f || is_in_block f || is_from_thread f

-- what lk_model says of a type by its number is what this form says, or none where no type has the number
pub record IsFormOf (code : ℕ) (f : Option Form) : Type 0 where
  pub known : is_some (relocation_type_of code) ≡ is_some f
  pub none : (code == r_x86_64_none) ≡ is_some_with is_no_reference f
  pub address : is_address_form code ≡ is_some_with is_address f
  pub plt : (code == r_x86_64_plt32) ≡ is_some_with is_plt_entry f
  pub got : is_got_form code ≡ is_some_with is_address_slot f
  pub thread_slot : (code == r_x86_64_gottpoff) ≡ is_some_with is_thread_slot f
  pub block : is_block_offset code ≡ is_some_with is_in_block f
  pub offset : is_thread_offset code ≡ is_some_with is_from_thread f
  pub thread : is_thread_form code ≡ is_some_with is_of_thread f
  pub size : is_size_form code ≡ is_some_with is_size f
