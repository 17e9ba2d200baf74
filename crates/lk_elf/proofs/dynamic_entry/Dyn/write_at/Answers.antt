use Rattle.std.proofs.Common.{◌≡◌, ℕ, ◌+◌, ◌<◌, ◌^◌, ◌++◌, ◌∙◌, length, take, drop, List, ap, refl, arith, rules, to_z, of_z, w64}
use Rattle.std.proofs.lemmas.Int.{to_z-of_z}
use mir.Val.{SFits}
use Rattle.lk_elf.specs.Fields.{unsigned64}
use Rattle.lk_elf.specs.Records.{dyn_at, dyn_bytes}
use Rattle.lk_elf.proofs.DynBack.{dyn_at-dyn_bytes}
use Rattle.lk_elf.proofs.Writing.{first_num, then_num}
use Rattle.std.proofs.lemmas.List.{length-take-le}
use Rattle.lk_elf.proofs.dynamic_entry.Dyn.write_at.Goals as goal

pub returns : goal.returns
unfolding dyn_bytes
returns c =
    let d_tag-fits : SFits w64 c.args.self.now.d_tag = search rules in
    let d_un-fits : c.args.self.now.d_un < 2 ^ 64 = c.fits-self.1.0.1 in
    let d_tag-is : to_z w64 (of_z w64 c.args.self.now.d_tag) ≡ c.args.self.now.d_tag = to_z-of_z w64 c.args.self.now.d_tag d_tag-fits in
    let d_tag-put = first_num {at = c.args.at} {old = c.args.bytes.now} (c.args.at + 8) 8 (unsigned64 c.args.self.now.d_tag) (rw d_tag-is at c.put_i64.ensures) refl in
    let d_un-put = then_num (c.args.at + 16) 8 c.args.self.now.d_un d_tag-put c.put_u64.ensures (omega arith) (omega arith) in
    let changes : c.put_u64.new.bytes ≡ take c.args.at c.args.bytes.now ++ dyn_bytes c.args.self.now ++ drop (c.args.at + 16) c.args.bytes.now = d_un-put.bytes in
    let len : length (take c.args.at c.args.bytes.now) ≡ c.args.at = length-take-le c.args.at c.args.bytes.now (omega arith) in
    record {
      changes = changes;
      reads_back = ap (λ (bytes : List ℕ). dyn_at bytes c.args.at) changes ∙ dyn_at-dyn_bytes c.args.at (take c.args.at c.args.bytes.now) (drop (c.args.at + 16) c.args.bytes.now) c.args.self.now len d_tag-fits d_un-fits;
    }
