use Rattle.std.proofs.Common.{refl, ap, ◌∙◌, Ok, Err}
use Rattle.std.proofs.lemmas.Result.{err_from_is_err_and}
use Rattle.lk_model.specs.Resolving.{resolve}
use Rattle.lk_resolve.specs.Given.{found_in}
use Rattle.lk_scan.proofs.LinkScanned.{scans_are_the_links}
use Rattle.lk_scan_inputs.proofs.ObjectsNamed.{named_objects}
use Rattle.lk_scan_inputs.proofs.LinkScanned.{known_failed, one_name_each, scanned_reported, whole_answers}
use Rattle.lk_scan_inputs.proofs.link_scanning.scan_inputs.Goals as goal

pub returns-in_err-scanned-clause-scanned : goal.returns-in_err-scanned-clause-scanned
returns-in_err-scanned-clause-scanned c = λ options xs are sound is.
    let p = err_from_is_err_and c.from_residual.result c.from_residual.ensures.1 in
    known_failed (resolve options xs) c.args.files _ c.from_residual.result
    (whole_answers scans_are_the_links options xs c.args.resolution.now c.args.files c.as_slice.result.now (Err c.in_err-scanned.field-0.0) are sound is (c.as_slice.ensures ∙ c.in-Ok.ensures.read.1) (c.in_err-scanned.ensures (found_in options.entry xs) is (named_objects options xs c.args.resolution.now c.args.files c.as_slice.result.now are sound is (c.as_slice.ensures ∙ c.in-Ok.ensures.read.1))))
    (p.1 ∙ ap (λ f. Err f) p.2)

pub returns-clause-scanned : goal.returns-clause-scanned
returns-clause-scanned c = λ options xs are sound is.
    scanned_reported options xs c.args.resolution.now c.args.files c.in-Ok.read c.in_ok-scanned.scanned _ is c.in-Ok.ensures.read
    (whole_answers scans_are_the_links options xs c.args.resolution.now c.args.files c.as_slice.result.now (Ok c.in_ok-scanned.scanned) are sound is (c.as_slice.ensures ∙ c.in-Ok.ensures.read.1) (c.in_ok-scanned.ensures (found_in options.entry xs) is (named_objects options xs c.args.resolution.now c.args.files c.as_slice.result.now are sound is (c.as_slice.ensures ∙ c.in-Ok.ensures.read.1))))
    refl

-- each file has its name
pub returns-clause-count : goal.returns-clause-count
returns-clause-count c = one_name_each c.args.files c.in-Ok.read.names c.in-Ok.ensures.read.0
