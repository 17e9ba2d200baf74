use Rattle.std.proofs.Common.{◌≡◌, nat_eq, fold, map, drop}
use Rattle.lk_comdat.specs.Claims.{signatures_of}
use Rattle.lk_comdat.specs.ClaimLaws.{with_claim}
use Rattle.lk_model.specs.Groups.{dropped_by}
use Rattle.lk_model.specs.Numbered.{with_new}
use Rattle.lk_resolve.specs.LeftSections.{dropped_once}
use Rattle.lk_resolve.specs.States.{asked_for}
use Rattle.lk_resolve.proofs.section_sets.claim_groups.Given as goal

abbrev pub invariant-loop-group : goal.invariant-loop-group
invariant-loop-group l = record {
  claimed : fold with_claim l.claims (map (asked_for l.input) (drop l.group-index l.groups)) ≡ fold with_claim l.initial.claims (map (asked_for l.input) l.groups);
  dropped : fold (with_new nat_eq) l.dropped.keys (dropped_by (signatures_of l.claims) (drop l.group-index l.groups)) ≡ dropped_once (signatures_of l.initial.claims) l.groups;
}
