-- Any files and summaries are those of some inputs.
use Rattle.std.proofs.Common.{◌≡◌, refl, sym, ap, ◌∙◌, arith, ℕ, List, [], ◌∷◌, length, map, Result, Ok, Err}
use Rattle.std.specs.Prelude.{IfOk}
use Rattle.lk_model.specs.declared.summaries.InputSummary.{InputSummary}
use Rattle.lk_model.specs.Elf as elf
use Rattle.lk_model.specs.Elf.{elf_of}
use Rattle.lk_model.specs.Finding.{found_of}
use Rattle.lk_model.specs.Resolving.{paths_of}
use Rattle.lk_model.specs.Views.{Input}
use Rattle.lk_model.specs.InputNames.{input_summary}
use Rattle.lk_resolve.specs.Given.{found_in}
use Rattle.lk_resolve.specs.Settling.{SettleGives, ResolutionValue}
use Rattle.lk_resolve.specs.declared.settle_faults.SettleFault.{SettleFault}
use Rattle.lk_inputs.specs.declared.input_files.InputFile.{InputFile}
use Rattle.lk_inputs.specs.Named.{file_path, files_of}
use Rattle.lk_inputs.proofs.InputsReported.{paths_are}

made_inputs : List InputFile → List InputSummary → List Input
made_inputs [] summaries = []
made_inputs (file ∷ files) [] = []
made_inputs (file ∷ files) (summary ∷ summaries) =
    record { path = file.name.path; occurrence = 0; lib = file.name.lib; mark = file.name.mark; stamp = file.name.stamp; elf = elf_of file.bytes; summary = summary } ∷ made_inputs files summaries

files_made : (files : List InputFile) (summaries : List InputSummary) → length files ≡ length summaries → files ≡ files_of (made_inputs files summaries)
unfolding made_inputs elf_of elf.elf_under elf.elf_with
files_made [] summaries h = refl
files_made (file ∷ files) [] h = absurd (cc)
files_made (file ∷ files) (summary ∷ summaries) h =
    ap (λ (fs : List InputFile). file ∷ fs) (files_made files summaries (let e : length files ≡ length summaries = omega (arith, h) in e))

summaries_made : (files : List InputFile) (summaries : List InputSummary) → length files ≡ length summaries → summaries ≡ map input_summary (made_inputs files summaries)
unfolding made_inputs
summaries_made [] [] h = refl
summaries_made [] (summary ∷ summaries) h = absurd (cc)
summaries_made (file ∷ files) [] h = absurd (cc)
summaries_made (file ∷ files) (summary ∷ summaries) h =
    ap (λ (ss : List InputSummary). summary ∷ ss) (summaries_made files summaries (let e : length files ≡ length summaries = omega (arith, h) in e))

resolution_paths : (entry : List ℕ) (xs : List Input) (resolution : ResolutionValue) → SettleGives (found_in entry xs) (Ok resolution) → resolution.paths ≡ paths_of xs
unfolding found_of
resolution_paths entry xs resolution h = h.2.paths

-- so the resolution has their paths
paths_resolved : (entry : List ℕ) (files : List InputFile) (summaries : List InputSummary) (resolution : ResolutionValue) → length files ≡ length summaries
    → ((xs : List Input) → files ≡ files_of xs → summaries ≡ map input_summary xs → SettleGives (found_in entry xs) (Ok resolution))
    → resolution.paths ≡ map file_path files
paths_resolved entry files summaries resolution alike gives =
    let xs : List Input = made_inputs files summaries in
    resolution_paths entry xs resolution (gives xs (files_made files summaries alike) (summaries_made files summaries alike))
    ∙ sym (paths_are xs) ∙ ap (map file_path) (sym (files_made files summaries alike))

pub paths_if_ok : (entry : List ℕ) (files : List InputFile) (summaries : List InputSummary) (r : Result ResolutionValue SettleFault) → length files ≡ length summaries
    → ((xs : List Input) → files ≡ files_of xs → summaries ≡ map input_summary xs → SettleGives (found_in entry xs) r)
    → IfOk r (λ resolution. resolution.paths ≡ map file_path files)
paths_if_ok entry files summaries (Ok resolution) alike gives = paths_resolved entry files summaries resolution alike gives
paths_if_ok entry files summaries (Err fault) alike gives = tt
