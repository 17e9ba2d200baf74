use Rattle.std.proofs.Common.{ap, sym, subst, ◌∙◌, Err}
use Rattle.std.proofs.lemmas.Result.{err_from_is_err_and}
use Rattle.lk_model.specs.Answers.{needs_nothing, placed_answer, resolved_answer}
use Rattle.lk_model.specs.FullPlace.{full_place}
use Rattle.lk_model.specs.Resolving.{resolve}
use Rattle.lk_inputs.specs.AnswerLaws.{scanned_answer}
use Rattle.lk_image.specs.PlacedLinks.{IsPlacedLink}
use Rattle.lk_model.specs.LayoutStatuses.{layout_status}
use Rattle.lk_resolve.specs.SettleStatuses.{settle_status}
use Rattle.lk_scan.specs.ScanStatuses.{scan_status}
use Rattle.lk_driver.specs.LinkAnswers.{LinkAnswers}
use Rattle.lk_driver.specs.LinkPasses.{NeedsAnswer, needs_answer}
use Rattle.lk_driver.proofs.LinksReported.{IsScannedLink, given, image_reported, link_answers, needs_refused}
use Rattle.lk_driver.proofs.OuterLinked.{linked}
use Rattle.lk_driver.proofs.OuterRefused.{refused, words-refused}
use Rattle.lk_driver.proofs.PassAnswers.{names_refused, needs_go_on, place_goes_on, place_refused, resolution_answers, scan_goes_on, scan_refused}
use Rattle.lk_driver.proofs.run.image_of_words.Goals as goal

-- words that are refused
pub returns-in_err-command : goal.returns-in_err-command
returns-in_err-command g c =
    let p = err_from_is_err_and c.from_residual.result c.from_residual.ensures.1 in
    words-refused c.args.words.now (g.F.Files.state c.args.files.now) c.in_err-command.field-0.0 c.from_residual.result c.in_err-command.ensures (p.1 ∙ ap (λ s. Err s) p.2)

-- inputs that are refused
pub returns-in_err-inputs : goal.returns-in_err-inputs
returns-in_err-inputs g c =
    let p = err_from_is_err_and c.from_residual-in_err-inputs.result c.from_residual-in_err-inputs.ensures.1 in
    refused c.args.words.now c.in_ok-command.command (g.F.Files.state c.args.files.now) (g.F.Files.state c.read_command.new.files) c.in_err-inputs.field-0.0 c.from_residual-in_err-inputs.result
    c.in_ok-command.ensures c.in_err-inputs.ensures (p.1 ∙ ap (λ s. Err s) p.2)

-- names that are refused
pub returns-in_err-resolution : goal.returns-in_err-resolution
returns-in_err-resolution g c =
    let p = err_from_is_err_and c.from_residual-in_err-resolution.result c.from_residual-in_err-resolution.ensures.1 in
    let command = c.in_ok-command.command in
    let options = command.options in
    let inputs = c.in_ok-inputs.inputs in
    linked c.args.words.now command (g.F.Files.state c.args.files.now) (g.F.Files.state c.read_command.new.files) inputs c.from_residual-in_err-resolution.result c.in_ok-command.ensures c.in_ok-inputs.ensures (λ xs read.
    let r = resolve options xs in
    let f = c.in_err-resolution.field-0.0 in
    subst (LinkAnswers r) (sym (p.1 ∙ ap (λ s. Err s) p.2))
    (link_answers r (resolved_answer r) (Err (settle_status f)) (λ i. resolved_answer r) (names_refused options xs f (c.in_err-resolution.ensures.resolution xs read.given))))

-- references that are refused
pub returns-in_err-scanned : goal.returns-in_err-scanned
returns-in_err-scanned g c =
    let p = err_from_is_err_and c.from_residual-in_err-scanned.result c.from_residual-in_err-scanned.ensures.1 in
    let command = c.in_ok-command.command in
    let options = command.options in
    let inputs = c.in_ok-inputs.inputs in
    linked c.args.words.now command (g.F.Files.state c.args.files.now) (g.F.Files.state c.read_command.new.files) inputs c.from_residual-in_err-scanned.result c.in_ok-command.ensures c.in_ok-inputs.ensures (λ xs read.
    let r = resolve options xs in
    let f = c.in_err-scanned.field-0.0 in
    let names = resolution_answers options xs c.in_ok-resolution.resolution (c.in_ok-resolution.ensures.resolution xs read.given) in
    subst (LinkAnswers r) (sym (p.1 ∙ ap (λ s. Err s) p.2))
    (link_answers r (scanned_answer r) (Err (scan_status f)) names.0 (scan_refused r inputs.files f (c.in_err-scanned.ensures.scanned options xs read.given.files read.objects names.1))))

-- needs that wait
pub returns-in_err-check_needs : goal.returns-in_err-check_needs
returns-in_err-check_needs g c =
    let p = err_from_is_err_and c.from_residual-in_err-check_needs.result c.from_residual-in_err-check_needs.ensures.1 in
    let command = c.in_ok-command.command in
    let options = command.options in
    let inputs = c.in_ok-inputs.inputs in
    let resolution = c.in_ok-resolution.resolution in
    let scanned = c.in_ok-scanned.scanned in
    linked c.args.words.now command (g.F.Files.state c.args.files.now) (g.F.Files.state c.read_command.new.files) inputs c.from_residual-in_err-check_needs.result c.in_ok-command.ensures c.in_ok-inputs.ensures (λ xs read.
    let r = resolve options xs in
    let s = c.in_err-check_needs.field-0.0 in
    let names = resolution_answers options xs resolution (c.in_ok-resolution.ensures.resolution xs read.given) in
    let scan = scan_goes_on r inputs.files scanned (c.in_ok-scanned.ensures.scanned options xs read.given.files read.objects names.1) in
    let link : IsScannedLink options xs inputs resolution scanned = record { read = read; fit = c.in_ok-inputs.ensures.fit; found = names.1; scan = scan.1 } in
    let reported = subst (λ names. NeedsAnswer scanned.needs names (Err s)) c.as_slice-known.ensures c.in_err-check_needs.ensures in
    subst (LinkAnswers r) (sym (p.1 ∙ ap (λ s. Err s) p.2))
    (link_answers r (needs_answer r) (Err s) (names.0 ∙ scan.0) (needs_refused options xs inputs resolution scanned link s reported)))

-- a placement that exceeds a limit
pub returns-in_err-placement : goal.returns-in_err-placement
returns-in_err-placement g c =
    let p = err_from_is_err_and c.from_residual-in_err-placement.result c.from_residual-in_err-placement.ensures.1 in
    let command = c.in_ok-command.command in
    let options = command.options in
    let inputs = c.in_ok-inputs.inputs in
    let resolution = c.in_ok-resolution.resolution in
    let scanned = c.in_ok-scanned.scanned in
    linked c.args.words.now command (g.F.Files.state c.args.files.now) (g.F.Files.state c.read_command.new.files) inputs c.from_residual-in_err-placement.result c.in_ok-command.ensures c.in_ok-inputs.ensures (λ xs read.
    let r = resolve options xs in
    let f = c.in_err-placement.field-0.0 in
    let names = resolution_answers options xs resolution (c.in_ok-resolution.ensures.resolution xs read.given) in
    let scan = scan_goes_on r inputs.files scanned (c.in_ok-scanned.ensures.scanned options xs read.given.files read.objects names.1) in
    let link : IsScannedLink options xs inputs resolution scanned = record { read = read; fit = c.in_ok-inputs.ensures.fit; found = names.1; scan = scan.1 } in
    let needs = needs_go_on r (ap needs_nothing (sym scan.1.1) ∙ c.in_ok-check_needs.ensures) in
    subst (LinkAnswers r) (sym (p.1 ∙ ap (λ s. Err s) p.2))
    (link_answers r (placed_answer r (full_place r)) (Err (layout_status f)) (names.0 ∙ scan.0 ∙ needs) (place_refused r f (c.in_err-placement.ensures.placed xs (given options xs inputs resolution scanned link)))))

-- the image
pub returns : goal.returns
returns g c =
    let command = c.in_ok-command.command in
    let options = command.options in
    let inputs = c.in_ok-inputs.inputs in
    let resolution = c.in_ok-resolution.resolution in
    let scanned = c.in_ok-scanned.scanned in
    let placement = c.in_ok-placement.placement in
    linked c.args.words.now command (g.F.Files.state c.args.files.now) (g.F.Files.state c.read_command.new.files) inputs c.link_image-image.result c.in_ok-command.ensures c.in_ok-inputs.ensures (λ xs read.
    let r = resolve options xs in
    let names = resolution_answers options xs resolution (c.in_ok-resolution.ensures.resolution xs read.given) in
    let scan = scan_goes_on r inputs.files scanned (c.in_ok-scanned.ensures.scanned options xs read.given.files read.objects names.1) in
    let link : IsScannedLink options xs inputs resolution scanned = record { read = read; fit = c.in_ok-inputs.ensures.fit; found = names.1; scan = scan.1 } in
    let place = place_goes_on r placement (c.in_ok-placement.ensures.placed xs (given options xs inputs resolution scanned link)) in
    link_answers r (needs_answer r) c.link_image-image.result (names.0 ∙ scan.0)
    (image_reported options xs inputs resolution scanned link c.in_ok-check_needs.ensures placement place c.link_image-image.result
    (λ ys placed are.
    c.link_image-image.ensures ys
    (subst (λ objects. IsPlacedLink resolution inputs.summaries objects options ys placement) (sym c.as_slice-made.ensures) placed)
    (c.as_slice-known.ensures ∙ are))))
