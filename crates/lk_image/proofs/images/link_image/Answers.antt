use Rattle.std.proofs.Common.{ap, sym, ◌∙◌}
use Rattle.std.specs.Prelude.{ℕ, List, length, Err}
use Rattle.std.proofs.lemmas.Result.{err_from_is_err_and}
use Rattle.lk_model.specs.Resolving.{resolve}
use Rattle.lk_image.proofs.BytesPut.{whole_put}
use Rattle.lk_image.proofs.ImageReported.{headers_refused, image_reported, long_refused, no_memory, overflows_refused}
use Rattle.lk_image.proofs.images.link_image.Goals as goal

pub returns-in_err-tail : goal.returns-in_err-tail
returns-in_err-tail c = λ xs placed named counted references.
    let p = err_from_is_err_and c.from_residual.result c.from_residual.ensures.1 in
    no_memory (resolve c.args.options.now xs) c.args.placement.now p.0 c.from_residual.result p.1 p.2

pub returns-in_err-values : goal.returns-in_err-values
returns-in_err-values c = λ xs placed named counted references.
    let p = err_from_is_err_and c.from_residual-in_err-values.result c.from_residual-in_err-values.ensures.1 in
    no_memory (resolve c.args.options.now xs) c.args.placement.now p.0 c.from_residual-in_err-values.result p.1 p.2

pub returns-in_err-front : goal.returns-in_err-front
returns-in_err-front c = λ xs placed named counted references.
    let summed = sym placed.given.summarized in
    let tail_is = c.in_ok-tail.ensures xs named (c.as_slice-read.ensures ∙ summed) counted placed.given.found in
    let stack_is = c.exec_stack-stack.ensures c.args.options.now xs (c.as_slice-read.ensures ∙ summed) placed.given.found in
    let p = err_from_is_err_and c.from_residual-in_err-front.result c.from_residual-in_err-front.ensures.1 in
    headers_refused c.args.resolution.now c.args.summaries.now c.args.objects.now c.args.options.now xs c.args.placement.now placed c.in_ok-tail.tail tail_is c.in_ok-values.values c.in_ok-values.ensures
    c.entry-entry.result c.entry-entry.ensures c.exec_stack-stack.result stack_is
    _ p.0 c.from_residual-in_err-front.result c.in_err-front.ensures p.1 p.2

pub returns-in_err-check_length : goal.returns-in_err-check_length
returns-in_err-check_length c = λ xs placed named counted references.
    let summed = sym placed.given.summarized in
    let tail_is = c.in_ok-tail.ensures xs named (c.as_slice-read.ensures ∙ summed) counted placed.given.found in
    let stack_is = c.exec_stack-stack.ensures c.args.options.now xs (c.as_slice-read.ensures ∙ summed) placed.given.found in
    let p = err_from_is_err_and c.from_residual-in_err-check_length.result c.from_residual-in_err-check_length.ensures.1 in
    long_refused c.args.resolution.now c.args.summaries.now c.args.objects.now c.args.options.now xs c.args.placement.now placed c.in_ok-tail.tail tail_is c.in_ok-values.values c.in_ok-values.ensures
    c.entry-entry.result c.entry-entry.ensures c.exec_stack-stack.result stack_is
    c.in_ok-front.front c.in_ok-front.ensures _ c.from_residual-in_err-check_length.result c.in_err-check_length.ensures (p.1 ∙ ap (λ s. Err s) p.2)

pub returns-in_err-image : goal.returns-in_err-image
returns-in_err-image c = λ xs placed named counted references.
    let p = err_from_is_err_and c.from_residual-in_err-image.result c.from_residual-in_err-image.ensures.1 in
    no_memory (resolve c.args.options.now xs) c.args.placement.now p.0 c.from_residual-in_err-image.result p.1 p.2

pub returns-in_err-fill_image : goal.returns-in_err-fill_image
returns-in_err-fill_image c = λ xs placed named counted references.
    let summed = sym placed.given.summarized in
    let tail_is = c.in_ok-tail.ensures xs named (c.as_slice-read.ensures ∙ summed) counted placed.given.found in
    let stack_is = c.exec_stack-stack.ensures c.args.options.now xs (c.as_slice-read.ensures ∙ summed) placed.given.found in
    let p = err_from_is_err_and c.from_residual-in_err-fill_image.result c.from_residual-in_err-fill_image.ensures.1 in
    overflows_refused c.args.resolution.now c.args.summaries.now c.args.objects.now c.args.options.now xs c.args.placement.now placed c.in_ok-tail.tail tail_is c.in_ok-values.values c.in_ok-values.ensures
    c.entry-entry.result c.entry-entry.ensures c.exec_stack-stack.result stack_is
    c.in_ok-front.front c.in_ok-front.ensures c.in_ok-check_length.ensures c.as_slice.result.now c.as_slice.ensures c.deref_mut.result.now c.fill_image.new.image (c.deref_mut.ensures.value ∙ c.in_ok-image.ensures)
    _ c.from_residual-in_err-fill_image.result c.in_err-fill_image.ensures (p.1 ∙ ap (λ s. Err s) p.2)

pub returns : goal.returns
returns c = λ xs placed named counted references.
    let summed = sym placed.given.summarized in
    let tail_is = c.in_ok-tail.ensures xs named (c.as_slice-read.ensures ∙ summed) counted placed.given.found in
    let stack_is = c.exec_stack-stack.ensures c.args.options.now xs (c.as_slice-read.ensures ∙ summed) placed.given.found in
    let old = c.in_ok-image.image.items in
    let new = c.fill_image.new.image in
    let sized = sym (ap (λ (bytes : List ℕ). length bytes) c.deref_mut.ensures.value) ∙ c.deref_mut.ensures.len in
    let same = c.fill_image.auto.image ∙ ap (λ (bytes : List ℕ). length bytes) c.deref_mut.ensures.value in
    let written = whole_put c.in_ok-image.image.len old new sized same in
    image_reported c.args.resolution.now c.args.summaries.now c.args.objects.now c.args.options.now xs c.args.placement.now placed c.in_ok-tail.tail tail_is c.in_ok-values.values c.in_ok-values.ensures
    c.entry-entry.result c.entry-entry.ensures c.exec_stack-stack.result stack_is
    c.in_ok-front.front c.in_ok-front.ensures c.in_ok-check_length.ensures c.as_slice.result.now c.as_slice.ensures c.deref_mut.result.now c.fill_image.new.image (c.deref_mut.ensures.value ∙ c.in_ok-image.ensures)
    c.in_ok-bytes.bytes _ c.in_ok-fill_image.ensures (c.in_ok-bytes.ensures ∙ written)

pub returns-in_err-bytes : goal.returns-in_err-bytes
returns-in_err-bytes c = λ xs placed named counted references.
    let p = err_from_is_err_and c.from_residual-in_err-bytes.result c.from_residual-in_err-bytes.ensures.1 in
    no_memory (resolve c.args.options.now xs) c.args.placement.now p.0 c.from_residual-in_err-bytes.result p.1 p.2
