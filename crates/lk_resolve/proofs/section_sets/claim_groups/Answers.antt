use Rattle.std.proofs.Common.{◌≡◌, sym, ap, ◌∙◌, ℕ, ◌+◌, nat_eq, cond, is_some, List, [], ◌∷◌, map, fold, drop}
use Rattle.lk_comdat.specs.Claims.{holder_of, signatures_of}
use Rattle.lk_comdat.specs.ClaimLaws.{with_claim}
use Rattle.lk_model.specs.declared.summaries.Group.{Group}
use Rattle.lk_model.specs.Groups.{dropped_by}
use Rattle.lk_model.specs.Numbered.{with_new}
use Rattle.lk_resolve.specs.States.{asked_for}
use Rattle.lk_resolve.proofs.ClaimSteps.{group_drops, next_item}
use Rattle.lk_resolve.proofs.section_sets.claim_groups.Goals as goal

-- one more group is claimed, and drops its part
pub loop-group-preserved : goal.loop-group-preserved
loop-group-preserved c =
    let rest : List Group = drop (c.loop-group.group-index + 1) c.args.groups.now in
    let next : drop c.loop-group.group-index c.args.groups.now ≡ c.group-item.result ∷ rest = next_item c.args.groups.now c.loop-group.group-index c.group-item.result c.loop-group-test.true c.group-item.is in
    record {
      claimed =
          ap (λ (claims : List (List ℕ × ℕ)). fold with_claim claims (map (asked_for c.args.input) rest)) c.in_ok-claim_group.ensures.claimed
          ∙ ap (λ (gs : List Group). fold with_claim c.loop-group.claims (map (asked_for c.args.input) gs)) (sym next)
          ∙ c.loop-group.invariant.claimed;
      dropped =
          ap (λ (seen : List ℕ). fold (with_new nat_eq) seen (dropped_by (signatures_of c.claim_group.new.claims) rest)) c.in_ok-claim_group.ensures.dropped
          ∙ ap (λ (claims : List (List ℕ × ℕ)). fold (with_new nat_eq) (fold (with_new nat_eq) c.loop-group.dropped.keys (cond (is_some (holder_of c.loop-group.claims c.group-item.result.signature)) c.group-item.result.members [])) (dropped_by (signatures_of claims) rest)) c.in_ok-claim_group.ensures.claimed
          ∙ sym (group_drops c.loop-group.dropped.keys c.loop-group.claims c.group-item.result rest c.args.input)
          ∙ ap (λ (gs : List Group). fold (with_new nat_eq) c.loop-group.dropped.keys (dropped_by (signatures_of c.loop-group.claims) gs)) (sym next)
          ∙ c.loop-group.invariant.dropped;
    }
