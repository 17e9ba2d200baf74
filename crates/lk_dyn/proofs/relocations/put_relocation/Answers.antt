use Rattle.std.proofs.Common.{◌∙◌, ap}
use Rattle.std.specs.Prelude.{ℕ, List, pos, ◌+◌, ◌*◌, ◌^◌, ◌++◌}
use Rattle.std.proofs.lemmas.Result.{on_ok_weaker}
use Rattle.lk_elf.specs.Records.{rela_bytes}
use Rattle.lk_model.specs.DynamicNames.{dynsym_number}
use Rattle.lk_dyn.specs.LowBits.{low_64}
use Rattle.lk_dyn.proofs.RelocationsPut.{low-rela}
use Rattle.lk_dyn.proofs.relocations.put_relocation.Goals as goal

pub returns : goal.returns
returns c =
    on_ok_weaker c.put_rela.result
    (λ put whole low.
    put
    ∙ ap (λ (l : List ℕ). c.args.out.now.items ++ l) (
    (λ i. rela_bytes (record {
      r_offset = low i;
      r_info = (c.low_64.ensures ∙ (λ j. low_64 (c.number.ensures.number j * 2 ^ 32 + c.from.ensures j))) i;
      r_addend = pos 0;
    }))
    ∙ low-rela whole (dynsym_number c.args.numbers.now c.args.name * 2 ^ 32 + c.args.code) (pos 0)
    ))
    c.put_rela.ensures
