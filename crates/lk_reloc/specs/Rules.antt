-- The relocation types by name, and a type's rule as a row of lk_model's table (psABI x86-64, "Relocation
-- Types").
use Rattle.std.specs.Prelude.{◌≡◌, ℕ, ◌<◌, ◌≤◌}
use Rattle.lk_model.specs.RelocationTypes.{RelocationType as Row, Formula as RowFormula, RangeTest as RowTest, width_of}
use Rattle.lk_model.specs.RelocationTypes.Formula.{NoValue, Absolute, Relative, PltRelative, SlotRelative, GotOffset, GotRelative, SymbolSize, DtpOffset, TpOffset}
use Rattle.lk_model.specs.RelocationTypes.RangeTest.{AnyValue, SignExtended, ZeroExtended, EitherExtended}
use Rattle.lk_model.specs.Values.{value_of, value_by, fits, fits_by}
use Rattle.lk_model.specs.declared.layouts.Numbers.{Numbers}
use Rattle.lk_reloc.specs.declared.relocation_types.RelocationType.{RelocationType}
use Rattle.lk_reloc.specs.declared.relocation_types.RelocationType.TheVariants as type
use Rattle.lk_reloc.specs.declared.rules.Formula.{Formula}
use Rattle.lk_reloc.specs.declared.rules.Formula.TheVariants as formula
use Rattle.lk_reloc.specs.declared.rules.RangeTest.{RangeTest}
use Rattle.lk_reloc.specs.declared.rules.RangeTest.TheVariants as test
use Rattle.lk_reloc.specs.declared.rules.Rule.{Rule}

-- the number of a type
abbrev pub number_of : RelocationType → ℕ
number_of type.NoRelocation = 0
number_of type.Word64 = 1
number_of type.Pc32 = 2
number_of type.Plt32 = 4
number_of type.GotPcRel = 9
number_of type.Word32 = 10
number_of type.Signed32 = 11
number_of type.Word16 = 12
number_of type.Pc16 = 13
number_of type.Word8 = 14
number_of type.Pc8 = 15
number_of type.DtpOff64 = 17
number_of type.TpOff64 = 18
number_of type.DtpOff32 = 21
number_of type.GotTpOff = 22
number_of type.TpOff32 = 23
number_of type.Pc64 = 24
number_of type.GotOff64 = 25
number_of type.GotPc32 = 26
number_of type.Size32 = 32
number_of type.Size64 = 33
number_of type.GotPcRelX = 41
number_of type.RexGotPcRelX = 42

-- what a value is made of, as a formula of lk_model
abbrev pub formula_in_model : Formula → RowFormula
formula_in_model formula.NoValue = NoValue
formula_in_model formula.Absolute = Absolute
formula_in_model formula.Relative = Relative
formula_in_model formula.PltRelative = PltRelative
formula_in_model formula.SlotRelative = SlotRelative
formula_in_model formula.ThreadSlotRelative = SlotRelative
formula_in_model formula.GotOffset = GotOffset
formula_in_model formula.GotRelative = GotRelative
formula_in_model formula.SymbolSize = SymbolSize
formula_in_model formula.DtpOffset = DtpOffset
formula_in_model formula.TpOffset = TpOffset

-- which values a field takes, as a test of lk_model
abbrev pub test_in_model : RangeTest → RowTest
test_in_model test.Any = AnyValue
test_in_model test.BySign = SignExtended
test_in_model test.ByZeros = ZeroExtended
test_in_model test.Either = EitherExtended

-- the row of a number with this rule
abbrev pub row_with : ℕ → Rule → Row
row_with code rule = record { code = code; width = rule.width; formula = formula_in_model rule.formula; test = test_in_model rule.test }

-- a field that is tested has one to four bytes
abbrev pub IsNarrow : RangeTest → ℕ → Type 0
IsNarrow test.Any width = width ≤ 8
IsNarrow test.BySign width = (0 < width) × (width ≤ 4)
IsNarrow test.ByZeros width = (0 < width) × (width ≤ 4)
IsNarrow test.Either width = (0 < width) × (width ≤ 4)

-- the values, the fields and the tests of a number are those of this rule
pub record IsRuleOf (code : ℕ) (rule : Rule) : Type 0 where
  pub value : (n : Numbers) → value_of code n ≡ value_by (formula_in_model rule.formula) n
  pub fits : (v : ℕ) → fits code v ≡ fits_by (test_in_model rule.test) rule.width v
  pub width : width_of code ≡ rule.width
  pub narrow : IsNarrow rule.test rule.width
