-- The refusals in their order, and what is made where there is none.
use Rattle.std.specs.Prelude.{Err, not}
use Rattle.std.specs.Bool.{then_some}
use Rattle.std.proofs.Common.{ap, ◌∙◌}
use Rattle.std.proofs.lemmas.Result.{err_from_is_err_and}
use Rattle.lk_elf.specs.declared.file_header.Ehdr.{Ehdr}
use Rattle.lk_model.specs.Loads.{LoadRefusal, entry_in, is_executable_file, load_refusal}
use Rattle.lk_loader.specs.HeaderRows.{headers_refusal}
use Rattle.lk_loader.specs.LoadedImages.{loaded_image}
use Rattle.lk_loader.proofs.ImagesLoaded.{headers_pass, headers_refuse, maps_same, not_executable, refused_so}
use Rattle.lk_loader.proofs.loading.load.Goals as goal

pub returns-in_err-header-clause-value : goal.returns-in_err-header-clause-value
returns-in_err-header-clause-value c =
    let p = err_from_is_err_and c.from_residual.result c.from_residual.ensures.1 in
    refused_so (then_some (not (is_executable_file c.args.bytes.now)) LoadRefusal.NotElf) (load_refusal c.args.bytes.now) (loaded_image c.args.bytes.now) _ c.from_residual.result
    (λ refusal e. not_executable c.args.bytes.now refusal e)
    c.in_err-header.ensures
    (p.1 ∙ ap (λ s. Err s) p.2)

pub returns-in_err-headers-clause-value : goal.returns-in_err-headers-clause-value
returns-in_err-headers-clause-value c =
    let p = err_from_is_err_and c.from_residual-in_err-headers.result c.from_residual-in_err-headers.ensures.1 in
    refused_so (headers_refusal c.args.bytes.now) (load_refusal c.args.bytes.now) (loaded_image c.args.bytes.now) _ c.from_residual-in_err-headers.result
    (λ refusal e. headers_refuse c.args.bytes.now refusal c.in_ok-header.ensures.0 e)
    c.in_err-headers.ensures
    (p.1 ∙ ap (λ s. Err s) p.2)

pub loaded_under-requires-clause-entry : goal.loaded_under-requires-clause-entry
unfolding entry_in
loaded_under-requires-clause-entry c = ap (λ (h : Ehdr). h.e_entry) c.in_ok-header.ensures.1

pub loaded_under-requires-clause-checks : goal.loaded_under-requires-clause-checks
loaded_under-requires-clause-checks c = headers_pass c.args.bytes.now c.in_ok-header.ensures.0 c.in_ok-headers.ensures.0

pub returns-clause-mapped : goal.returns-clause-mapped
returns-clause-mapped c =
    maps_same c.args.bytes.now c.loaded_under.result (headers_pass c.args.bytes.now c.in_ok-header.ensures.0 c.in_ok-headers.ensures.0) c.loaded_under.ensures
