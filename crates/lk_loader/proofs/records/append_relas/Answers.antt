-- One relocation more is at the end.
use Rattle.std.specs.Prelude.{if◌then◌else◌, map}
use Rattle.std.specs.List.{range_with_len}
use Rattle.std.proofs.Common.{ap, ◌∙◌, ◌*◌, [], ◌∷◌, ◌++◌}
use Rattle.lk_elf.specs.Records.{rela_at}
use Rattle.lk_loader.proofs.AllOf.{rela_more}
use Rattle.lk_loader.proofs.records.append_relas.Goals as goal

pub loop-k-preserved : goal.loop-k-preserved
loop-k-preserved c =
    c.push.ensures.items
    ∙ (ap (λ b. if b then c.loop-k.relas.items ++ c.rela_at.result ∷ [] else c.loop-k.relas.items) c.if-is_err.ensures.negation
    ∙ (ap (λ xs. xs ++ c.rela_at.result ∷ []) c.loop-k.invariant
    ∙ (ap (λ r. (c.args.relas.now.items ++ map (λ j. rela_at c.args.bytes.now (24 * j)) (range_with_len 0 c.loop-k.k)) ++ r ∷ []) c.rela_at.ensures
    ∙ rela_more c.args.relas.now.items c.args.bytes.now c.loop-k.k)))
