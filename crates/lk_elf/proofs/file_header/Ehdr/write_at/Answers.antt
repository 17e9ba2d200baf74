use Rattle.std.proofs.Common.{◌≡◌, ℕ, ◌+◌, ◌<◌, ◌^◌, ◌++◌, ◌∙◌, length, take, drop, List, ap, refl, arith}
use Rattle.std.proofs.lemmas.List.{length-take-le}
use Rattle.lk_elf.specs.Records.{ehdr_at, ehdr_bytes}
use Rattle.lk_elf.proofs.EhdrBack.{ehdr_at-ehdr_bytes}
use Rattle.lk_elf.proofs.Writing.{first_put, then_num}
use Rattle.lk_elf.proofs.file_header.Ehdr.write_at.Goals as goal

pub returns : goal.returns
unfolding ehdr_bytes
returns c =
    let e_ident-fits : length c.args.self.now.e_ident ≡ 16 = omega (arith, c.fits-self.0) in
    let e_type-fits : c.args.self.now.e_type < 2 ^ 16 = c.fits-self.1.0.1 in
    let e_machine-fits : c.args.self.now.e_machine < 2 ^ 16 = c.fits-self.1.1.0.1 in
    let e_version-fits : c.args.self.now.e_version < 2 ^ 32 = c.fits-self.1.1.1.0.1 in
    let e_entry-fits : c.args.self.now.e_entry < 2 ^ 64 = c.fits-self.1.1.1.1.0.1 in
    let e_phoff-fits : c.args.self.now.e_phoff < 2 ^ 64 = c.fits-self.1.1.1.1.1.0.1 in
    let e_shoff-fits : c.args.self.now.e_shoff < 2 ^ 64 = c.fits-self.1.1.1.1.1.1.0.1 in
    let e_flags-fits : c.args.self.now.e_flags < 2 ^ 32 = c.fits-self.1.1.1.1.1.1.1.0.1 in
    let e_ehsize-fits : c.args.self.now.e_ehsize < 2 ^ 16 = c.fits-self.1.1.1.1.1.1.1.1.0.1 in
    let e_phentsize-fits : c.args.self.now.e_phentsize < 2 ^ 16 = c.fits-self.1.1.1.1.1.1.1.1.1.0.1 in
    let e_phnum-fits : c.args.self.now.e_phnum < 2 ^ 16 = c.fits-self.1.1.1.1.1.1.1.1.1.1.0.1 in
    let e_shentsize-fits : c.args.self.now.e_shentsize < 2 ^ 16 = c.fits-self.1.1.1.1.1.1.1.1.1.1.1.0.1 in
    let e_shnum-fits : c.args.self.now.e_shnum < 2 ^ 16 = c.fits-self.1.1.1.1.1.1.1.1.1.1.1.1.0.1 in
    let e_shstrndx-fits : c.args.self.now.e_shstrndx < 2 ^ 16 = c.fits-self.1.1.1.1.1.1.1.1.1.1.1.1.1.0.1 in
    let e_ident-put = first_put {at = c.args.at} {old = c.args.bytes.now} (c.args.at + 16) 16 c.args.self.now.e_ident c.put_ident.ensures e_ident-fits refl in
    let e_type-put = then_num (c.args.at + 18) 2 c.args.self.now.e_type e_ident-put c.put_u16.ensures (omega arith) (omega arith) in
    let e_machine-put = then_num (c.args.at + 20) 2 c.args.self.now.e_machine e_type-put c.put_u16-2.ensures (omega arith) (omega arith) in
    let e_version-put = then_num (c.args.at + 24) 4 c.args.self.now.e_version e_machine-put c.put_u32.ensures (omega arith) (omega arith) in
    let e_entry-put = then_num (c.args.at + 32) 8 c.args.self.now.e_entry e_version-put c.put_u64.ensures (omega arith) (omega arith) in
    let e_phoff-put = then_num (c.args.at + 40) 8 c.args.self.now.e_phoff e_entry-put c.put_u64-2.ensures (omega arith) (omega arith) in
    let e_shoff-put = then_num (c.args.at + 48) 8 c.args.self.now.e_shoff e_phoff-put c.put_u64-3.ensures (omega arith) (omega arith) in
    let e_flags-put = then_num (c.args.at + 52) 4 c.args.self.now.e_flags e_shoff-put c.put_u32-2.ensures (omega arith) (omega arith) in
    let e_ehsize-put = then_num (c.args.at + 54) 2 c.args.self.now.e_ehsize e_flags-put c.put_u16-3.ensures (omega arith) (omega arith) in
    let e_phentsize-put = then_num (c.args.at + 56) 2 c.args.self.now.e_phentsize e_ehsize-put c.put_u16-4.ensures (omega arith) (omega arith) in
    let e_phnum-put = then_num (c.args.at + 58) 2 c.args.self.now.e_phnum e_phentsize-put c.put_u16-5.ensures (omega arith) (omega arith) in
    let e_shentsize-put = then_num (c.args.at + 60) 2 c.args.self.now.e_shentsize e_phnum-put c.put_u16-6.ensures (omega arith) (omega arith) in
    let e_shnum-put = then_num (c.args.at + 62) 2 c.args.self.now.e_shnum e_shentsize-put c.put_u16-7.ensures (omega arith) (omega arith) in
    let e_shstrndx-put = then_num (c.args.at + 64) 2 c.args.self.now.e_shstrndx e_shnum-put c.put_u16-8.ensures (omega arith) (omega arith) in
    let changes : c.put_u16-8.new.bytes ≡ take c.args.at c.args.bytes.now ++ ehdr_bytes c.args.self.now ++ drop (c.args.at + 64) c.args.bytes.now = e_shstrndx-put.bytes in
    let len : length (take c.args.at c.args.bytes.now) ≡ c.args.at = length-take-le c.args.at c.args.bytes.now (omega arith) in
    record {
      changes = changes;
      reads_back = ap (λ (bytes : List ℕ). ehdr_at bytes c.args.at) changes ∙ ehdr_at-ehdr_bytes c.args.at (take c.args.at c.args.bytes.now) (drop (c.args.at + 64) c.args.bytes.now) c.args.self.now len e_ident-fits e_type-fits e_machine-fits e_version-fits e_entry-fits e_phoff-fits e_shoff-fits e_flags-fits e_ehsize-fits e_phentsize-fits e_phnum-fits e_shentsize-fits e_shnum-fits e_shstrndx-fits;
    }
