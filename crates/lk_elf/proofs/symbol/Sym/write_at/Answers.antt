use Rattle.std.proofs.Common.{◌≡◌, ℕ, ◌+◌, ◌<◌, ◌^◌, ◌++◌, ◌∙◌, length, take, drop, List, ap, refl, arith}
use Rattle.lk_elf.specs.Records.{sym_at, sym_bytes}
use Rattle.lk_elf.proofs.SymBack.{sym_at-sym_bytes}
use Rattle.lk_elf.proofs.Writing.{first_num, then_num}
use Rattle.std.proofs.lemmas.List.{length-take-le}
use Rattle.lk_elf.proofs.symbol.Sym.write_at.Goals as goal

pub returns : goal.returns
unfolding sym_bytes
returns c =
    let st_name-fits : c.args.self.now.st_name < 2 ^ 32 = c.fits-self.0.1 in
    let st_info-fits : c.args.self.now.st_info < 2 ^ 8 = c.fits-self.1.0.1 in
    let st_other-fits : c.args.self.now.st_other < 2 ^ 8 = c.fits-self.1.1.0.1 in
    let st_shndx-fits : c.args.self.now.st_shndx < 2 ^ 16 = c.fits-self.1.1.1.0.1 in
    let st_value-fits : c.args.self.now.st_value < 2 ^ 64 = c.fits-self.1.1.1.1.0.1 in
    let st_size-fits : c.args.self.now.st_size < 2 ^ 64 = c.fits-self.1.1.1.1.1.0.1 in
    let st_name-put = first_num {at = c.args.at} {old = c.args.bytes.now} (c.args.at + 4) 4 c.args.self.now.st_name c.put_u32.ensures refl in
    let st_info-put = then_num (c.args.at + 5) 1 c.args.self.now.st_info st_name-put c.put_u8.ensures (omega arith) (omega arith) in
    let st_other-put = then_num (c.args.at + 6) 1 c.args.self.now.st_other st_info-put c.put_u8-2.ensures (omega arith) (omega arith) in
    let st_shndx-put = then_num (c.args.at + 8) 2 c.args.self.now.st_shndx st_other-put c.put_u16.ensures (omega arith) (omega arith) in
    let st_value-put = then_num (c.args.at + 16) 8 c.args.self.now.st_value st_shndx-put c.put_u64.ensures (omega arith) (omega arith) in
    let st_size-put = then_num (c.args.at + 24) 8 c.args.self.now.st_size st_value-put c.put_u64-2.ensures (omega arith) (omega arith) in
    let changes : c.put_u64-2.new.bytes ≡ take c.args.at c.args.bytes.now ++ sym_bytes c.args.self.now ++ drop (c.args.at + 24) c.args.bytes.now = st_size-put.bytes in
    let len : length (take c.args.at c.args.bytes.now) ≡ c.args.at = length-take-le c.args.at c.args.bytes.now (omega arith) in
    record {
      changes = changes;
      reads_back = ap (λ (bytes : List ℕ). sym_at bytes c.args.at) changes ∙ sym_at-sym_bytes c.args.at (take c.args.at c.args.bytes.now) (drop (c.args.at + 24) c.args.bytes.now) c.args.self.now len st_name-fits st_info-fits st_other-fits st_shndx-fits st_value-fits st_size-fits;
    }
