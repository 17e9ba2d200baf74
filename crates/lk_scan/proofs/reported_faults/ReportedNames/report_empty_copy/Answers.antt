use Rattle.std.proofs.Common.{◌≡◌, sym, subst, ap, ◌∙◌, false, List, [], ◌∷◌, ◌++◌}
use Rattle.std.specs.List.{list_any}
use Rattle.std.specs.Str.{bytes_eq}
use Rattle.indexmap.specs.IndexSet.{insert_key}
use Rattle.lk_report.specs.declared.faults.Fault.{Fault}
use Rattle.lk_report.specs.declared.faults.Fault.TheVariants as fault
use Rattle.lk_model.specs.ScanFaults.{with_fault}
use Rattle.lk_scan.specs.ReferralFaults.{site_in}
use Rattle.lk_scan.proofs.OncePerName.{copy_reported, copy_anew, copy_indexed}
use Rattle.lk_scan.proofs.reported_faults.ReportedNames.report_empty_copy.Goals as goal

-- it was reported
pub returns-then-contains : goal.returns-then-contains
returns-then-contains c =
    sym (subst (λ (fs : List Fault). with_fault fs (fault.CopyOfZero c.args.name.now (site_in c.args.path.now c.args.referral.now)) ≡ fs) c.self.view_is
    (copy_reported c.self.inside.faults c.self.inside.undefined.keys c.self.inside.copied.keys c.args.name.now (site_in c.args.path.now c.args.referral.now) c.self.invariant (sym c.contains.ensures ∙ c.if-contains.true)))

-- it is reported anew
pub invariant_of-self-2 : goal.invariant_of-self-2
invariant_of-self-2 c =
    let lacks : list_any (bytes_eq c.args.name.now) c.self.inside.copied.keys ≡ false = sym c.contains.ensures ∙ c.if-contains.false in
    let pushed : c.push.new.self ≡ c.self.inside.faults ++ fault.CopyOfZero c.args.name.now (site_in c.args.path.now c.args.referral.now) ∷ [] =
    c.in_ok-push.ensures.pushed ∙ (λ i. c.self.inside.faults ++ fault.CopyOfZero (c.in_ok-name.ensures i) (c.in_ok-site.ensures i) ∷ []) in
    let keys : c.put.new.names.keys ≡ insert_key bytes_eq c.self.inside.copied.keys c.args.name.now =
    c.put.ensures ∙ (λ i. insert_key bytes_eq (c.make_room.ensures.kept i) (c.in_ok-key.ensures i)) in
    copy_indexed c.self.inside.faults c.self.inside.undefined.keys c.self.inside.copied.keys c.args.name.now (site_in c.args.path.now c.args.referral.now) c.self.invariant c.push.new.self c.put.new.names.keys lacks keys pushed

pub returns : goal.returns
returns c =
    let lacks : list_any (bytes_eq c.args.name.now) c.self.inside.copied.keys ≡ false = sym c.contains.ensures ∙ c.if-contains.false in
    c.in_ok-push.ensures.pushed
    ∙ (λ i. c.self.inside.faults ++ fault.CopyOfZero (c.in_ok-name.ensures i) (c.in_ok-site.ensures i) ∷ [])
    ∙ sym (copy_anew c.self.inside.faults c.self.inside.undefined.keys c.self.inside.copied.keys c.args.name.now (site_in c.args.path.now c.args.referral.now) c.self.invariant lacks)
    ∙ ap (λ (fs : List Fault). with_fault fs (fault.CopyOfZero c.args.name.now (site_in c.args.path.now c.args.referral.now))) c.self.view_is
