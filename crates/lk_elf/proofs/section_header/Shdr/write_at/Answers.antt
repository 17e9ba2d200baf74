use Rattle.std.proofs.Common.{◌≡◌, ℕ, ◌+◌, ◌<◌, ◌^◌, ◌++◌, ◌∙◌, length, take, drop, List, ap, refl, arith}
use Rattle.lk_elf.specs.Records.{shdr_at, shdr_bytes}
use Rattle.lk_elf.proofs.ShdrBack.{shdr_at-shdr_bytes}
use Rattle.lk_elf.proofs.Writing.{first_num, then_num}
use Rattle.std.proofs.lemmas.List.{length-take-le}
use Rattle.lk_elf.proofs.section_header.Shdr.write_at.Goals as goal

pub returns : goal.returns
unfolding shdr_bytes
returns c =
    let sh_name-fits : c.args.self.now.sh_name < 2 ^ 32 = c.fits-self.0.1 in
    let sh_type-fits : c.args.self.now.sh_type < 2 ^ 32 = c.fits-self.1.0.1 in
    let sh_flags-fits : c.args.self.now.sh_flags < 2 ^ 64 = c.fits-self.1.1.0.1 in
    let sh_addr-fits : c.args.self.now.sh_addr < 2 ^ 64 = c.fits-self.1.1.1.0.1 in
    let sh_offset-fits : c.args.self.now.sh_offset < 2 ^ 64 = c.fits-self.1.1.1.1.0.1 in
    let sh_size-fits : c.args.self.now.sh_size < 2 ^ 64 = c.fits-self.1.1.1.1.1.0.1 in
    let sh_link-fits : c.args.self.now.sh_link < 2 ^ 32 = c.fits-self.1.1.1.1.1.1.0.1 in
    let sh_info-fits : c.args.self.now.sh_info < 2 ^ 32 = c.fits-self.1.1.1.1.1.1.1.0.1 in
    let sh_addralign-fits : c.args.self.now.sh_addralign < 2 ^ 64 = c.fits-self.1.1.1.1.1.1.1.1.0.1 in
    let sh_entsize-fits : c.args.self.now.sh_entsize < 2 ^ 64 = c.fits-self.1.1.1.1.1.1.1.1.1.0.1 in
    let sh_name-put = first_num {at = c.args.at} {old = c.args.bytes.now} (c.args.at + 4) 4 c.args.self.now.sh_name c.put_u32.ensures refl in
    let sh_type-put = then_num (c.args.at + 8) 4 c.args.self.now.sh_type sh_name-put c.put_u32-2.ensures (omega arith) (omega arith) in
    let sh_flags-put = then_num (c.args.at + 16) 8 c.args.self.now.sh_flags sh_type-put c.put_u64.ensures (omega arith) (omega arith) in
    let sh_addr-put = then_num (c.args.at + 24) 8 c.args.self.now.sh_addr sh_flags-put c.put_u64-2.ensures (omega arith) (omega arith) in
    let sh_offset-put = then_num (c.args.at + 32) 8 c.args.self.now.sh_offset sh_addr-put c.put_u64-3.ensures (omega arith) (omega arith) in
    let sh_size-put = then_num (c.args.at + 40) 8 c.args.self.now.sh_size sh_offset-put c.put_u64-4.ensures (omega arith) (omega arith) in
    let sh_link-put = then_num (c.args.at + 44) 4 c.args.self.now.sh_link sh_size-put c.put_u32-3.ensures (omega arith) (omega arith) in
    let sh_info-put = then_num (c.args.at + 48) 4 c.args.self.now.sh_info sh_link-put c.put_u32-4.ensures (omega arith) (omega arith) in
    let sh_addralign-put = then_num (c.args.at + 56) 8 c.args.self.now.sh_addralign sh_info-put c.put_u64-5.ensures (omega arith) (omega arith) in
    let sh_entsize-put = then_num (c.args.at + 64) 8 c.args.self.now.sh_entsize sh_addralign-put c.put_u64-6.ensures (omega arith) (omega arith) in
    let changes : c.put_u64-6.new.bytes ≡ take c.args.at c.args.bytes.now ++ shdr_bytes c.args.self.now ++ drop (c.args.at + 64) c.args.bytes.now = sh_entsize-put.bytes in
    let len : length (take c.args.at c.args.bytes.now) ≡ c.args.at = length-take-le c.args.at c.args.bytes.now (omega arith) in
    record {
      changes = changes;
      reads_back = ap (λ (bytes : List ℕ). shdr_at bytes c.args.at) changes ∙ shdr_at-shdr_bytes c.args.at (take c.args.at c.args.bytes.now) (drop (c.args.at + 64) c.args.bytes.now) c.args.self.now len sh_name-fits sh_type-fits sh_flags-fits sh_addr-fits sh_offset-fits sh_size-fits sh_link-fits sh_info-fits sh_addralign-fits sh_entsize-fits;
    }
