-- The rule of a number, by the row of the table that has the number.
use Rattle.std.specs.Prelude.{◌≡◌, ◌≤◌, ℕ, Bool, true, Option, Some, None, unwrap_or, option_map}
use Rattle.std.proofs.Common.{ap, sym, ◌∙◌, arith}
use Rattle.lk_model.specs.RelocationTypes.{RelocationType as Row, relocation_type_of, width_of}
use Rattle.lk_model.specs.Values.{fits_by, value_by}
use Rattle.lk_reloc.specs.Rules.{row_with, IsNarrow, IsRuleOf}
use Rattle.lk_reloc.specs.declared.rules.Form.TheVariants as form
use Rattle.lk_reloc.specs.declared.rules.Formula.TheVariants as formula
use Rattle.lk_reloc.specs.declared.rules.RangeTest.{RangeTest}
use Rattle.lk_reloc.specs.declared.rules.RangeTest.TheVariants as test
use Rattle.lk_reloc.specs.declared.rules.Rule.{Rule}

by_own_row : (code : ℕ) (rule : Rule) → relocation_type_of code ≡ Some (row_with code rule) → IsNarrow rule.test rule.width → IsRuleOf code rule
unfolding width_of
by_own_row code rule e narrow = record {
  value = λ n. ap (λ (o : Option Row). elim o [ None ↦ 0 | Some t ↦ value_by t.formula n ]) e;
  fits = λ v. ap (λ (o : Option Row). elim o as (λ _. Bool) [ None ↦ true | Some t ↦ fits_by t.test t.width v ]) e;
  width = ap (λ (o : Option Row). unwrap_or (option_map (λ (t : Row). t.width) o) 0) e;
  narrow = narrow;
}

-- the number is that of a row
pub by_row : (code number : ℕ) (rule : Rule) → code ≡ number → relocation_type_of number ≡ Some (row_with number rule) → IsNarrow rule.test rule.width → IsRuleOf code rule
by_row code number rule same e narrow =
    by_own_row code rule (ap relocation_type_of same ∙ e ∙ ap (λ n. Some (row_with n rule)) (sym same)) narrow

-- the number is that of no row
pub by_none : (code : ℕ) → relocation_type_of code ≡ None → IsRuleOf code (record { width = 0; formula = formula.NoValue; test = test.Any; form = form.NoReference })
unfolding width_of
by_none code e = record {
  value = λ n. ap (λ (o : Option Row). elim o [ None ↦ 0 | Some t ↦ value_by t.formula n ]) e;
  fits = λ v. ap (λ (o : Option Row). elim o as (λ _. Bool) [ None ↦ true | Some t ↦ fits_by t.test t.width v ]) e;
  width = ap (λ (o : Option Row). unwrap_or (option_map (λ (t : Row). t.width) o) 0) e;
  narrow = omega arith;
}

-- a field has at most eight bytes
narrow_short : (t : RangeTest) (width : ℕ) → IsNarrow t width → width ≤ 8
narrow_short test.Any width h = h
narrow_short test.BySign width h = let few = h.1 in omega (arith, few)
narrow_short test.ByZeros width h = let few = h.1 in omega (arith, few)
narrow_short test.Either width h = let few = h.1 in omega (arith, few)

pub short : (code : ℕ) (rule : Rule) → IsRuleOf code rule → rule.width ≤ 8
short code rule h = narrow_short rule.test rule.width h.narrow
