-- The checks row by row, and the first overlap, are those of the image.
use Rattle.std.specs.Prelude.{Err, length, option_map}
use Rattle.std.proofs.Common.{ap, ◌∙◌, sym, arith}
use Rattle.std.proofs.lemmas.Result.{err_from_is_err_and}
use Rattle.lk_model.specs.Loading.{headers_in}
use Rattle.lk_model.specs.Loads.{LoadRefusal}
use Rattle.lk_loader.specs.HeaderRows.{headers_refusal, overlap_from, rows_refusal}
use Rattle.lk_loader.proofs.HeaderRefusals.{headers_overlap, headers_refused}
use Rattle.lk_loader.proofs.ImagesLoaded.{refused_so}
use Rattle.lk_loader.proofs.loading.checked_headers.Goals as goal

pub returns-in_err-headers : goal.returns-in_err-headers
returns-in_err-headers c =
    let h = c.args.header.now in
    let p = err_from_is_err_and c.from_residual.result c.from_residual.ensures.1 in
    refused_so (rows_refusal c.args.image.now h.e_phoff 0 h.e_phnum) (headers_refusal c.args.image.now) (headers_in c.args.image.now) _ c.from_residual.result
    (λ refusal e. headers_refused c.args.image.now h refusal c.requires e)
    c.in_err-headers.ensures.value
    (p.1 ∙ ap (λ s. Err s) p.2)

pub find_overlap-requires : goal.find_overlap-requires
find_overlap-requires c =
    let size = ap length c.as_slice.ensures in
    let few = c.in_ok-headers.ensures.few in
    record { few = omega (arith, size, few) }

pub returns-in-None : goal.returns-in-None
returns-in-None c =
    let both = headers_overlap c.args.image.now c.args.header.now c.in_ok-headers.headers c.requires c.in_ok-headers.ensures.value.0 c.in_ok-headers.ensures.value.1 in
    let none = ap (overlap_from 0 0) (sym c.as_slice.ensures) ∙ (sym c.find_overlap.ensures ∙ c.in-None.is) in
    (both.0 ∙ ap (option_map LoadRefusal.Overlap) none, both.1)

pub returns-in-Some : goal.returns-in-Some
returns-in-Some c =
    let both = headers_overlap c.args.image.now c.args.header.now c.in_ok-headers.headers c.requires c.in_ok-headers.ensures.value.0 c.in_ok-headers.ensures.value.1 in
    let here = ap (overlap_from 0 0) (sym c.as_slice.ensures) ∙ (sym c.find_overlap.ensures ∙ c.in-Some.is) in
    both.0 ∙ ap (option_map LoadRefusal.Overlap) here
