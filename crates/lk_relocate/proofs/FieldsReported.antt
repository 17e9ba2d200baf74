-- A field is filled where its value fits, and else its fault is reported.
use Rattle.std.proofs.Common.{◌≡◌, sym, ap, ◌∙◌, ℕ, Bool, true, false, cond, List, [], ◌∷◌, ◌++◌, Some, None}
use Rattle.std.proofs.lemmas.List.{append-nil}
use Rattle.std.specs.Option.{option_to_list}
use Rattle.lk_elf.specs.Fields.{bytes_of}
use Rattle.lk_report.specs.declared.faults.Fault.{Fault}
use Rattle.lk_model.specs.declared.layouts.Numbers.{Numbers}
use Rattle.lk_model.specs.declared.layouts.Placement.{Placement}
use Rattle.lk_model.specs.LinkedBytes.{patch}
use Rattle.lk_model.specs.Overflows.{overflow_of, path_of_input}
use Rattle.lk_model.specs.RelocationTypes.{width_of}
use Rattle.lk_model.specs.SymbolValues.{numbers_of, reference_fits, reference_value}
use Rattle.lk_model.specs.Values.{fits, value_of}
use Rattle.lk_model.specs.Views.{Ref, Resolved}
use Rattle.lk_symbol_values.specs.SymbolNumbering.{low_numbers}
use Rattle.lk_symbol_values.proofs.LowNumbers.{reference_low}
use Rattle.lk_relocate.specs.Faults.{overflow_at}
use Rattle.lk_relocate.specs.Fields.{filled_at}

module _ (r : Resolved) (place : Placement) (ref : Ref) (code : ℕ) (coded : code ≡ ref.code) (n : Numbers) (value : ℕ) (numbers : n ≡ low_numbers (numbers_of r place ref)) (valued : value ≡ value_of code n) where
  value_is : value ≡ reference_value r place ref
  value_is = valued ∙ (λ i. value_of (coded i) (numbers i)) ∙ sym (reference_low r place ref)

  fits_is : (b : Bool) → b ≡ fits code value → reference_fits r place ref ≡ b
  unfolding reference_fits
  fits_is b e = (λ i. fits (sym coded i) (sym value_is i)) ∙ sym e

  -- a value that fits
  pub filled_ok : (at : ℕ) (old new : List ℕ) → true ≡ fits code value → new ≡ patch old at (bytes_of (width_of code) value) → new ≡ filled_at r place at old ref
  filled_ok at old new e put =
      put
      ∙ (λ i. patch old at (bytes_of (width_of (coded i)) (value_is i)))
      ∙ ap (λ b. cond b (patch old at (bytes_of (width_of ref.code) (reference_value r place ref))) old) (sym (fits_is true e))

  pub reported_ok : (faults : List Fault) → true ≡ fits code value → faults ≡ faults ++ option_to_list (overflow_of r place ref)
  reported_ok faults e =
      sym (append-nil faults)
      ∙ ap (λ b. faults ++ option_to_list (cond b None (Some (overflow_at (path_of_input r ref.input) ref.section ref.offset (numbers_of r place ref).p (numbers_of r place ref).s (numbers_of r place ref).a (reference_value r place ref))))) (sym (fits_is true e))

  -- a value that does not fit
  pub filled_not : (at : ℕ) (old new : List ℕ) → false ≡ fits code value → new ≡ old → new ≡ filled_at r place at old ref
  filled_not at old new e same =
      same ∙ ap (λ b. cond b (patch old at (bytes_of (width_of ref.code) (reference_value r place ref))) old) (sym (fits_is false e))

  pub reported_not : (old new : List Fault) (refused : ℕ) → false ≡ fits code value → refused ≡ value → n.s ≡ (numbers_of r place ref).s → new ≡ old ++ overflow_at (path_of_input r ref.input) ref.section ref.offset n.p n.s n.a refused ∷ [] → new ≡ old ++ option_to_list (overflow_of r place ref)
  reported_not old new refused e same exact put =
      put
      ∙ (λ i. old ++ overflow_at (path_of_input r ref.input) ref.section ref.offset (numbers i).p (exact i) (numbers i).a ((same ∙ value_is) i) ∷ [])
      ∙ ap (λ b. old ++ option_to_list (cond b None (Some (overflow_at (path_of_input r ref.input) ref.section ref.offset (numbers_of r place ref).p (numbers_of r place ref).s (numbers_of r place ref).a (reference_value r place ref))))) (sym (fits_is false e))
