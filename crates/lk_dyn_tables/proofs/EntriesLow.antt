-- The bytes of an entry are those of the low bits of its fields.
use Rattle.std.proofs.Common.{◌≡◌, refl, sym, ap, ◌∙◌, arith, ℕ, ◌+◌, ◌-◌, ◌%◌, ◌^◌, ◌==◌, Bool, true, false, cond, ◌++◌}
use Rattle.std.proofs.Math.Nat.{add-mod-mod, mod-mod}
use Rattle.lk_elf.proofs.LowBits.{low-bytes, low-half, low-long, low-word}
use Rattle.lk_elf.specs.Fields.{bytes_of}
use Rattle.lk_elf.specs.Numbers.{stt_tls}
use Rattle.lk_elf.specs.Records.{sym_bytes}
use Rattle.lk_elf.specs.declared.symbol.Sym.{Sym}
use Rattle.lk_model.specs.Amounts.{minus}
use Rattle.lk_model.specs.Segments.{tls_start}
use Rattle.lk_model.specs.SymbolEntries.{tabled_value}
use Rattle.lk_model.specs.declared.layouts.Placement.{Placement}
use Rattle.lk_dyn.specs.LowBits.{low_64}

-- every field but the value and the size
pub low_symbol : (x : Sym) (name info other shndx : ℕ) → name ≡ x.st_name % 2 ^ 32 → info ≡ x.st_info % 2 ^ 8 → other ≡ x.st_other % 2 ^ 8 → shndx ≡ x.st_shndx % 2 ^ 16
    → sym_bytes (record x { st_name = name; st_info = info; st_other = other; st_shndx = shndx }) ≡ sym_bytes x
unfolding sym_bytes
low_symbol x name info other shndx names infos others numbers =
    let a : bytes_of 4 name ≡ bytes_of 4 x.st_name = ap (bytes_of 4) names ∙ low-word x.st_name in
    let b : bytes_of 1 info ≡ bytes_of 1 x.st_info = ap (bytes_of 1) infos ∙ low-bytes 1 x.st_info in
    let c : bytes_of 1 other ≡ bytes_of 1 x.st_other = ap (bytes_of 1) others ∙ low-bytes 1 x.st_other in
    let d : bytes_of 2 shndx ≡ bytes_of 2 x.st_shndx = ap (bytes_of 2) numbers ∙ low-half x.st_shndx in
    λ i. a i ++ b i ++ c i ++ d i ++ bytes_of 8 x.st_value ++ bytes_of 8 x.st_size

-- the value
pub low_value : (x : Sym) (value : ℕ) → bytes_of 8 value ≡ bytes_of 8 x.st_value → sym_bytes (record x { st_value = value }) ≡ sym_bytes x
unfolding sym_bytes
low_value x value same =
    λ i. bytes_of 4 x.st_name ++ bytes_of 1 x.st_info ++ bytes_of 1 x.st_other ++ bytes_of 2 x.st_shndx ++ same i ++ bytes_of 8 x.st_size

-- a distance from low bits
minus_low : (a b : ℕ) → minus (low_64 a) b ≡ minus a b
minus_low a b =
    let c = 2 ^ 64 - b % 2 ^ 64 in
    let first : low_64 a + c ≡ c + low_64 a = omega arith in
    let last : c + a ≡ a + c = omega arith in
    ap low_64 first ∙ add-mod-mod c a (2 ^ 64) ∙ ap low_64 last

by_type : (thread : Bool) (value start : ℕ) → bytes_of 8 (cond thread (minus (low_64 value) start) (low_64 value)) ≡ bytes_of 8 (cond thread (minus value start) value)
by_type true value start = ap (bytes_of 8) (minus_low value start)
by_type false value start = low-long value

pub tabled_low : (place : Placement) (code value : ℕ) → bytes_of 8 (tabled_value place code (low_64 value)) ≡ bytes_of 8 (tabled_value place code value)
tabled_low place code value = by_type (code == stt_tls) value (tls_start place)
