-- What the runs and the segment that were found name is what the image names.
use Rattle.std.specs.Prelude.{◌≡◌, ◌==◌, List, find, option_map}
use Rattle.std.proofs.Common.{ap, ◌∙◌, sym, subst}
use Rattle.lk_elf.specs.declared.program_header.Phdr.{Phdr}
use Rattle.lk_model.specs.Loading.{headers_in, is_tls}
use Rattle.lk_loader.specs.LoadedImages.{tls_under}
use Rattle.lk_loader.specs.NamedTables.{reported}
use Rattle.lk_loader.specs.Runs.{RiseFrom, run_memory, runs_of}
use Rattle.lk_loader.specs.declared.loads.Run.{Run}
use Rattle.lk_loader.proofs.ImagesLoaded.{dynamic_found, dynamic_missing, loaded_with, named_through, runs_rise}
use Rattle.lk_loader.proofs.loading.loaded_under.Goals as goal

pub named_under-requires : goal.named_under-requires
named_under-requires c =
    let runs = c.as_slice.ensures ∙ (c.in_ok-runs.ensures ∙ ap (runs_of c.args.image.now) c.requires.headers) in
    record { rising = subst (RiseFrom 0) (sym runs) (runs_rise c.args.image.now c.requires.checks) }

pub returns-in_default : goal.returns-in_default
returns-in_default c =
    let runs = c.as_slice.ensures ∙ (c.in_ok-runs.ensures ∙ ap (runs_of c.args.image.now) c.requires.headers) in
    let segment = c.find_header-dynamic.ensures ∙ ap (find (λ (h : Phdr). h.p_type == 2)) c.requires.headers in
    dynamic_missing c.args.image.now c.requires.checks
    (sym c.in_default.is
    ∙ (c.in_ok-named.ensures
    ∙ (ap (λ (rs : List Run). option_map reported (named_through (run_memory rs) c.find_header-dynamic.result)) runs
    ∙ ap (λ s. option_map reported (named_through (run_memory (runs_of c.args.image.now (headers_in c.args.image.now))) s)) segment)))

pub returns : goal.returns
returns c =
    let made = c.in_ok-runs.ensures ∙ ap (runs_of c.args.image.now) c.requires.headers in
    let runs = c.as_slice.ensures ∙ made in
    let segment = c.find_header-dynamic.ensures ∙ ap (find (λ (h : Phdr). h.p_type == 2)) c.requires.headers in
    let tls = c.tls_under.ensures ∙ ap (option_map tls_under) (c.find_header.ensures ∙ ap (find is_tls) c.requires.headers) in
    let found =
    dynamic_found c.args.image.now c.in-Some.named c.requires.checks
    (sym c.in-Some.is
    ∙ (c.in_ok-named.ensures
    ∙ (ap (λ (rs : List Run). option_map reported (named_through (run_memory rs) c.find_header-dynamic.result)) runs
    ∙ ap (λ s. option_map reported (named_through (run_memory (runs_of c.args.image.now (headers_in c.args.image.now))) s)) segment))) in
    let same : record { runs = c.in_ok-runs.runs; needs = c.in-Some.named.needed; symbols = c.in-Some.named.symbols; relocations = c.in-Some.named.relocations; tls = c.tls_under.result; entry = c.args.entry } ≡ loaded_with c.args.image.now c.in-Some.named =
    λ i. record { runs = made i; needs = c.in-Some.named.needed; symbols = c.in-Some.named.symbols; relocations = c.in-Some.named.relocations; tls = tls i; entry = c.requires.entry i } in
    (found.0, same ∙ found.1)
