-- The value of a relocation and whether it fits its field (psABI x86-64, "Relocation Types"). Values
-- are whole numbers modulo 2^64.
use Rattle.std.specs.Prelude.{ℕ, ◌-◌, ◌*◌, ◌^◌, Bool, true, nat_lt, nat_le, ◌||◌, Some, None}
use Rattle.lk_elf.specs.Fields.{unsigned64}
use Rattle.lk_model.specs.Amounts.{plus, minus}
use Rattle.lk_model.specs.RelocationTypes.{Formula, RangeTest, relocation_type_of}
use Rattle.lk_model.specs.RelocationTypes.Formula.{NoValue, Absolute, Relative, PltRelative, SlotRelative, DtpOffset, TpOffset, GotOffset, GotRelative, SymbolSize}
use Rattle.lk_model.specs.RelocationTypes.RangeTest.{AnyValue, ZeroExtended, SignExtended, EitherExtended}
use Rattle.lk_model.specs.declared.layouts.Numbers.{Numbers}

-- one formula per kind of relocation, over the numbers of its reference
abbrev pub value_by : Formula → Numbers → ℕ
value_by NoValue n = 0
value_by Absolute n = plus n.s (unsigned64 n.a)
value_by Relative n = minus (plus n.s (unsigned64 n.a)) n.p
value_by PltRelative n = minus (plus n.l (unsigned64 n.a)) n.p
value_by SlotRelative n = minus (plus n.slot (unsigned64 n.a)) n.p
value_by DtpOffset n = minus (plus n.s (unsigned64 n.a)) n.tls_start
value_by TpOffset n = minus (plus n.s (unsigned64 n.a)) n.tls_end
value_by GotOffset n = minus (plus n.s (unsigned64 n.a)) n.got
value_by GotRelative n = minus (plus n.got (unsigned64 n.a)) n.p
value_by SymbolSize n = plus n.z (unsigned64 n.a)

-- the value of a relocation of this type; 0 for a type that is not listed
abbrev pub value_of : ℕ → Numbers → ℕ
value_of code n = elim (relocation_type_of code) [ None ↦ 0 | Some t ↦ value_by t.formula n ]

-- a field of so many bytes, extended by zeros to 64 bits, is the value
abbrev pub fits_by_zeros : ℕ → ℕ → Bool
fits_by_zeros width v = nat_lt v (2 ^ (8 * width))

-- a field of so many bytes, extended by its sign to 64 bits, is the value
abbrev pub fits_by_sign : ℕ → ℕ → Bool
fits_by_sign width v = nat_lt v (2 ^ (8 * width - 1)) || nat_le (2 ^ 64 - 2 ^ (8 * width - 1)) v

-- the range test of a type
abbrev pub fits_by : RangeTest → ℕ → ℕ → Bool
fits_by AnyValue width v = true
fits_by ZeroExtended width v = fits_by_zeros width v
fits_by SignExtended width v = fits_by_sign width v
fits_by EitherExtended width v = fits_by_zeros width v || fits_by_sign width v

-- whether a value fits the field of its type
abbrev pub fits : ℕ → ℕ → Bool
fits code v = elim (relocation_type_of code) [ None ↦ true | Some t ↦ fits_by t.test t.width v ]
