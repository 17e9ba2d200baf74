use Rattle.std.proofs.Common.{◌≡◌, ℕ, ◌+◌, ◌<◌, ◌^◌, ◌++◌, ◌∙◌, length, take, drop, List, ap, refl, arith, rules, to_z, of_z, w64}
use Rattle.std.proofs.lemmas.Int.{to_z-of_z}
use mir.Val.{SFits}
use Rattle.lk_elf.specs.Fields.{unsigned64}
use Rattle.lk_elf.specs.Records.{rela_at, rela_bytes}
use Rattle.lk_elf.proofs.RelaBack.{rela_at-rela_bytes}
use Rattle.lk_elf.proofs.Writing.{first_num, then_num}
use Rattle.std.proofs.lemmas.List.{length-take-le}
use Rattle.lk_elf.proofs.relocation.Rela.write_at.Goals as goal

pub returns : goal.returns
unfolding rela_bytes
returns c =
    let r_offset-fits : c.args.self.now.r_offset < 2 ^ 64 = c.fits-self.0.1 in
    let r_info-fits : c.args.self.now.r_info < 2 ^ 64 = c.fits-self.1.0.1 in
    let r_addend-fits : SFits w64 c.args.self.now.r_addend = search rules in
    let r_offset-put = first_num {at = c.args.at} {old = c.args.bytes.now} (c.args.at + 8) 8 c.args.self.now.r_offset c.put_u64.ensures refl in
    let r_info-put = then_num (c.args.at + 16) 8 c.args.self.now.r_info r_offset-put c.put_u64-2.ensures (omega arith) (omega arith) in
    let r_addend-is : to_z w64 (of_z w64 c.args.self.now.r_addend) ≡ c.args.self.now.r_addend = to_z-of_z w64 c.args.self.now.r_addend r_addend-fits in
    let r_addend-put = then_num (c.args.at + 24) 8 (unsigned64 c.args.self.now.r_addend) r_info-put (rw r_addend-is at c.put_i64.ensures) (omega arith) (omega arith) in
    let changes : c.put_i64.new.bytes ≡ take c.args.at c.args.bytes.now ++ rela_bytes c.args.self.now ++ drop (c.args.at + 24) c.args.bytes.now = r_addend-put.bytes in
    let len : length (take c.args.at c.args.bytes.now) ≡ c.args.at = length-take-le c.args.at c.args.bytes.now (omega arith) in
    record {
      changes = changes;
      reads_back = ap (λ (bytes : List ℕ). rela_at bytes c.args.at) changes ∙ rela_at-rela_bytes c.args.at (take c.args.at c.args.bytes.now) (drop (c.args.at + 24) c.args.bytes.now) c.args.self.now len r_offset-fits r_info-fits r_addend-fits;
    }
