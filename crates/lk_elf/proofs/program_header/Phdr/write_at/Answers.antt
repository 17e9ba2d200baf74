use Rattle.std.proofs.Common.{◌≡◌, ℕ, ◌+◌, ◌<◌, ◌^◌, ◌++◌, ◌∙◌, length, take, drop, List, ap, refl, arith}
use Rattle.lk_elf.specs.Records.{phdr_at, phdr_bytes}
use Rattle.lk_elf.proofs.PhdrBack.{phdr_at-phdr_bytes}
use Rattle.lk_elf.proofs.Writing.{first_num, then_num}
use Rattle.std.proofs.lemmas.List.{length-take-le}
use Rattle.lk_elf.proofs.program_header.Phdr.write_at.Goals as goal

pub returns : goal.returns
unfolding phdr_bytes
returns c =
    let p_type-fits : c.args.self.now.p_type < 2 ^ 32 = c.fits-self.0.1 in
    let p_flags-fits : c.args.self.now.p_flags < 2 ^ 32 = c.fits-self.1.0.1 in
    let p_offset-fits : c.args.self.now.p_offset < 2 ^ 64 = c.fits-self.1.1.0.1 in
    let p_vaddr-fits : c.args.self.now.p_vaddr < 2 ^ 64 = c.fits-self.1.1.1.0.1 in
    let p_paddr-fits : c.args.self.now.p_paddr < 2 ^ 64 = c.fits-self.1.1.1.1.0.1 in
    let p_filesz-fits : c.args.self.now.p_filesz < 2 ^ 64 = c.fits-self.1.1.1.1.1.0.1 in
    let p_memsz-fits : c.args.self.now.p_memsz < 2 ^ 64 = c.fits-self.1.1.1.1.1.1.0.1 in
    let p_align-fits : c.args.self.now.p_align < 2 ^ 64 = c.fits-self.1.1.1.1.1.1.1.0.1 in
    let p_type-put = first_num {at = c.args.at} {old = c.args.bytes.now} (c.args.at + 4) 4 c.args.self.now.p_type c.put_u32.ensures refl in
    let p_flags-put = then_num (c.args.at + 8) 4 c.args.self.now.p_flags p_type-put c.put_u32-2.ensures (omega arith) (omega arith) in
    let p_offset-put = then_num (c.args.at + 16) 8 c.args.self.now.p_offset p_flags-put c.put_u64.ensures (omega arith) (omega arith) in
    let p_vaddr-put = then_num (c.args.at + 24) 8 c.args.self.now.p_vaddr p_offset-put c.put_u64-2.ensures (omega arith) (omega arith) in
    let p_paddr-put = then_num (c.args.at + 32) 8 c.args.self.now.p_paddr p_vaddr-put c.put_u64-3.ensures (omega arith) (omega arith) in
    let p_filesz-put = then_num (c.args.at + 40) 8 c.args.self.now.p_filesz p_paddr-put c.put_u64-4.ensures (omega arith) (omega arith) in
    let p_memsz-put = then_num (c.args.at + 48) 8 c.args.self.now.p_memsz p_filesz-put c.put_u64-5.ensures (omega arith) (omega arith) in
    let p_align-put = then_num (c.args.at + 56) 8 c.args.self.now.p_align p_memsz-put c.put_u64-6.ensures (omega arith) (omega arith) in
    let changes : c.put_u64-6.new.bytes ≡ take c.args.at c.args.bytes.now ++ phdr_bytes c.args.self.now ++ drop (c.args.at + 56) c.args.bytes.now = p_align-put.bytes in
    let len : length (take c.args.at c.args.bytes.now) ≡ c.args.at = length-take-le c.args.at c.args.bytes.now (omega arith) in
    record {
      changes = changes;
      reads_back = ap (λ (bytes : List ℕ). phdr_at bytes c.args.at) changes ∙ phdr_at-phdr_bytes c.args.at (take c.args.at c.args.bytes.now) (drop (c.args.at + 56) c.args.bytes.now) c.args.self.now len p_type-fits p_flags-fits p_offset-fits p_vaddr-fits p_paddr-fits p_filesz-fits p_memsz-fits p_align-fits;
    }
