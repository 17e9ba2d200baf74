use Rattle.std.proofs.Common.{ap, sym, subst, ◌∙◌, Err}
use Rattle.std.proofs.lemmas.Result.{err_from_is_err_and}
use Rattle.lk_model.specs.Resolving.{resolve}
use Rattle.lk_model.specs.LayoutStatuses.{layout_status}
use Rattle.lk_model.specs.declared.layouts.LayoutFault.{LayoutFault}
use Rattle.lk_model.specs.declared.layouts.LayoutFault.TheVariants as layout
use Rattle.lk_resolve.specs.SettleStatuses.{settle_status}
use Rattle.lk_resolve.specs.declared.settle_faults.SettleFault.{SettleFault}
use Rattle.lk_resolve.specs.declared.settle_faults.SettleFault.TheVariants as settle
use Rattle.lk_scan.specs.ScanStatuses.{scan_status}
use Rattle.lk_scan.specs.declared.scans.ScanFailure.{ScanFailure}
use Rattle.lk_scan.specs.declared.scans.ScanFailure.TheVariants as scan
use Rattle.lk_probe.specs.Laying.{InputsLaid, IsOfLayout}
use Rattle.lk_probe.proofs.InputsPlaced.{inputs_given, laid_reported, unlaid_reported, unscanned_reported, unresolved_reported}
use Rattle.lk_probe.proofs.placing.place_inputs.Goals as goal

pub returns-in_err-resolution-clause-laid : goal.returns-in_err-resolution-clause-laid
returns-in_err-resolution-clause-laid c = λ xs are sound.
    let p = err_from_is_err_and c.from_residual.result c.from_residual.ensures.1 in
    subst (InputsLaid (resolve c.args.command.now.options xs)) (sym p.1)
    (unresolved_reported c.args.command.now.options xs c.in_err-resolution.field-0.0 p.0 (c.in_err-resolution.ensures.resolution xs are) p.2)

pub returns-in_err-scanned-clause-laid : goal.returns-in_err-scanned-clause-laid
returns-in_err-scanned-clause-laid c = λ xs are sound.
    let p = err_from_is_err_and c.from_residual-in_err-scanned.result c.from_residual-in_err-scanned.ensures.1 in
    let found = c.in_ok-resolution.ensures.resolution xs are in
    subst (InputsLaid (resolve c.args.command.now.options xs)) (sym p.1)
    (unscanned_reported c.args.command.now.options xs c.in_ok-resolution.resolution c.args.inputs.files c.in_err-scanned.field-0.0 p.0 found (c.in_err-scanned.ensures.scanned c.args.command.now.options xs are.files sound found.2) p.2)

pub returns-in_err-placement-clause-laid : goal.returns-in_err-placement-clause-laid
returns-in_err-placement-clause-laid c = λ xs are sound.
    let p = err_from_is_err_and c.from_residual-in_err-placement.result c.from_residual-in_err-placement.ensures.1 in
    let found = c.in_ok-resolution.ensures.resolution xs are in
    let scanned = c.in_ok-scanned.ensures.scanned c.args.command.now.options xs are.files sound found.2 in
    let given = inputs_given c.args.command.now.options xs c.in_ok-resolution.resolution c.args.inputs.files c.args.inputs.summaries c.in_ok-scanned.scanned are.summaries found scanned in
    subst (InputsLaid (resolve c.args.command.now.options xs)) (sym p.1)
    (unlaid_reported c.args.command.now.options xs c.in_ok-resolution.resolution c.args.inputs.files c.in_ok-scanned.scanned c.in_err-placement.field-0.0 p.0 found scanned (c.in_err-placement.ensures.placed xs given) p.2)

pub returns-clause-laid : goal.returns-clause-laid
returns-clause-laid c = λ xs are sound.
    let found = c.in_ok-resolution.ensures.resolution xs are in
    let scanned = c.in_ok-scanned.ensures.scanned c.args.command.now.options xs are.files sound found.2 in
    let given = inputs_given c.args.command.now.options xs c.in_ok-resolution.resolution c.args.inputs.files c.args.inputs.summaries c.in_ok-scanned.scanned are.summaries found scanned in
    laid_reported c.args.command.now.options xs c.in_ok-resolution.resolution c.args.inputs.files c.in_ok-scanned.scanned c.in_ok-placement.placement found scanned (c.in_ok-placement.ensures.placed xs given)

-- no failure of these passes is one of a read
settled_kind : (f : SettleFault) → IsOfLayout (Err (settle_status f))
settled_kind (settle.Faults faults) = tt
settled_kind (settle.Limit l) = tt
settled_kind settle.NoMemory = tt

scanned_kind : (f : ScanFailure) → IsOfLayout (Err (scan_status f))
scanned_kind (scan.Faults faults) = tt
scanned_kind scan.NoMemory = tt

laid_kind : (f : LayoutFault) → IsOfLayout (Err (layout_status f))
laid_kind (layout.Limit l) = tt
laid_kind layout.NoMemory = tt

pub returns-in_err-resolution-clause-kinds : goal.returns-in_err-resolution-clause-kinds
returns-in_err-resolution-clause-kinds c =
    let p = err_from_is_err_and c.from_residual.result c.from_residual.ensures.1 in
    subst IsOfLayout (sym (p.1 ∙ ap (λ s. Err s) p.2)) (settled_kind c.in_err-resolution.field-0.0)

pub returns-in_err-scanned-clause-kinds : goal.returns-in_err-scanned-clause-kinds
returns-in_err-scanned-clause-kinds c =
    let p = err_from_is_err_and c.from_residual-in_err-scanned.result c.from_residual-in_err-scanned.ensures.1 in
    subst IsOfLayout (sym (p.1 ∙ ap (λ s. Err s) p.2)) (scanned_kind c.in_err-scanned.field-0.0)

pub returns-in_err-placement-clause-kinds : goal.returns-in_err-placement-clause-kinds
returns-in_err-placement-clause-kinds c =
    let p = err_from_is_err_and c.from_residual-in_err-placement.result c.from_residual-in_err-placement.ensures.1 in
    subst IsOfLayout (sym (p.1 ∙ ap (λ s. Err s) p.2)) (laid_kind c.in_err-placement.field-0.0)
