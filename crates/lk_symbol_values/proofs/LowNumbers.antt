-- Values of relocations are the same by the low bits of their numbers.
use Rattle.std.proofs.Common.{◌≡◌, refl, sym, ap, ◌∙◌, arith, ℕ, ◌+◌, ◌-◌, ◌%◌, ◌^◌, Option, Some, None}
use Rattle.std.proofs.Math.Nat.{add-mod-mod, mod-mod}
use Rattle.lk_elf.specs.Fields.{unsigned64}
use Rattle.lk_model.specs.Amounts.{minus, plus}
use Rattle.lk_model.specs.RelocationTypes.{Formula, RelocationType, relocation_type_of}
use Rattle.lk_model.specs.RelocationTypes.Formula.{NoValue, Absolute, Relative, PltRelative, SlotRelative, DtpOffset, TpOffset, GotOffset, GotRelative, SymbolSize}
use Rattle.lk_model.specs.SymbolValues.{numbers_of, reference_value}
use Rattle.lk_model.specs.Values.{value_by, value_of}
use Rattle.lk_model.specs.Views.{Ref, Resolved}
use Rattle.lk_model.specs.declared.layouts.Numbers.{Numbers}
use Rattle.lk_model.specs.declared.layouts.Placement.{Placement}
use Rattle.lk_symbol_values.specs.Sections.{low_64}
use Rattle.lk_symbol_values.specs.SymbolNumbering.{low_numbers}

-- sums and differences
pub plus_low : (a b : ℕ) → plus (low_64 a) b ≡ plus a b
plus_low a b =
    let first : low_64 a + b ≡ b + low_64 a = omega arith in
    let last : b + a ≡ a + b = omega arith in
    ap low_64 first ∙ add-mod-mod b a (2 ^ 64) ∙ ap low_64 last

pub minus_low : (a b : ℕ) → minus a (low_64 b) ≡ minus a b
minus_low a b = ap (λ k. (a + (2 ^ 64 - k)) % 2 ^ 64) (mod-mod b (2 ^ 64))

-- each formula
by_formula : (f : Formula) (n : Numbers) → value_by f (low_numbers n) ≡ value_by f n
by_formula NoValue n = refl
by_formula Absolute n = plus_low n.s (unsigned64 n.a)
by_formula Relative n = ap (λ k. minus k n.p) (plus_low n.s (unsigned64 n.a))
by_formula PltRelative n = ap (λ k. minus k n.p) (plus_low n.l (unsigned64 n.a))
by_formula SlotRelative n = ap (λ k. minus k n.p) (plus_low n.slot (unsigned64 n.a))
by_formula DtpOffset n = ap (λ k. minus k n.tls_start) (plus_low n.s (unsigned64 n.a))
by_formula TpOffset n = ap (λ k. minus k (low_64 n.tls_end)) (plus_low n.s (unsigned64 n.a)) ∙ minus_low (plus n.s (unsigned64 n.a)) n.tls_end
by_formula GotOffset n = ap (λ k. minus k n.got) (plus_low n.s (unsigned64 n.a))
by_formula GotRelative n = refl
by_formula SymbolSize n = refl

pub value_low : (code : ℕ) (n : Numbers) → value_of code (low_numbers n) ≡ value_of code n
value_low code n = by (relocation_type_of code)
  where
    by : (o : Option RelocationType) → ◌≡◌ {A = ℕ} (elim o [ None ↦ 0 | Some t ↦ value_by t.formula (low_numbers n) ]) (elim o [ None ↦ 0 | Some t ↦ value_by t.formula n ])
    by None = refl
    by (Some t) = by_formula t.formula n

pub reference_low : (r : Resolved) (place : Placement) (ref : Ref) → reference_value r place ref ≡ value_of ref.code (low_numbers (numbers_of r place ref))
unfolding reference_value
reference_low r place ref = sym (value_low ref.code (numbers_of r place ref))
