use Rattle.std.proofs.Common.{rules, ap, length, sym, ◌∙◌, map, Err}
use Rattle.std.proofs.lemmas.Result.{err_from_is_err_and}
use Rattle.std.proofs.lemmas.List.{length-map}
use Rattle.lk_inputs.specs.Asked.{name_path}
use Rattle.lk_inputs.specs.FilesRead.{summary_of}
use Rattle.lk_inputs.specs.FileAnswers.{known_reads}
use Rattle.lk_inputs.proofs.FilesAskedFor.{objects_asked, objects_files, objects_last, objects_missed, objects_named, reads_files, reads_refused}
use Rattle.lk_inputs.proofs.inputs.read_named.Goals as goal

-- the reads answer in the inputs' place
pub returns-in_err-inputs : goal.returns-in_err-inputs
returns-in_err-inputs g c =
    let p = err_from_is_err_and c.from_residual.result c.from_residual.ensures.1 in
    let is = p.1 ∙ ap (λ s. Err s) p.2 in
    let old = known_reads (g.F.Files.state c.args.files.now) in
    let new = known_reads (g.F.Files.state c.read_inputs.new.files) in
    record {
      kept = c.in_err-inputs.ensures.kept;
      unlooked = c.in_err-inputs.ensures.unlooked;
      reported = search (rules, c.in_err-inputs.ensures.reported);
      kinds = reads_files _ c.from_residual.result is c.in_err-inputs.ensures.kinds;
      faults = search (rules, c.in_err-inputs.ensures.faults);
      named = search (rules, c.in_err-inputs.ensures.named);
      last = search (rules, c.in_err-inputs.ensures.last);
      misses = search (rules, c.in_err-inputs.ensures.misses);
      asked = reads_refused old new (map name_path c.args.names) _ c.from_residual.result is c.in_err-inputs.ensures.kinds c.in_err-inputs.ensures.asked;
      reads = search rules;
      files = search rules;
      sound = search rules;
      alike = search rules;
      short = search rules;
      fit = search rules;
    }

-- the files are refused
pub returns-in_err-summaries : goal.returns-in_err-summaries
returns-in_err-summaries g c =
    let p = err_from_is_err_and c.from_residual-in_err-summaries.result c.from_residual-in_err-summaries.ensures.1 in
    let is = p.1 ∙ ap (λ s. Err s) p.2 in
    let old = g.F.Files.state c.args.files.now in
    let new = g.F.Files.state c.read_inputs.new.files in
    let result = c.from_residual-in_err-summaries.result in
    record {
      kept = c.in_ok-inputs.ensures.kept;
      unlooked = c.in_ok-inputs.ensures.unlooked;
      reported = search (rules, c.in_ok-inputs.ensures.reported);
      kinds = objects_files _ result is c.in_err-summaries.ensures.kinds;
      faults = search (rules, c.in_ok-inputs.ensures.faults);
      named = objects_named (map name_path c.args.names) _ result is c.in_err-summaries.ensures.kinds;
      last = objects_last old new _ result is c.in_err-summaries.ensures.kinds c.in_ok-inputs.ensures.last;
      misses = objects_missed old new _ result is c.in_err-summaries.ensures.kinds c.in_ok-inputs.ensures.misses;
      asked = objects_asked (known_reads old) (known_reads new) (map name_path c.args.names) _ result is c.in_err-summaries.ensures.kinds c.in_ok-inputs.ensures.asked;
      reads = search rules;
      files = search rules;
      sound = search rules;
      alike = search rules;
      short = search rules;
      fit = search rules;
    }

pub returns : goal.returns
returns g c = record {
  kept = c.in_ok-inputs.ensures.kept;
  unlooked = c.in_ok-inputs.ensures.unlooked;
  reported = search (rules, c.in_ok-inputs.ensures.reported);
  kinds = search rules;
  faults = c.in_ok-inputs.ensures.faults;
  named = search rules;
  last = c.in_ok-inputs.ensures.last;
  misses = c.in_ok-inputs.ensures.misses;
  asked = c.in_ok-inputs.ensures.asked;
  reads = c.in_ok-inputs.ensures.reads;
  files = c.in_ok-inputs.ensures.files;
  sound = search (rules, c.in_ok-inputs.ensures.short);
  alike = sym (ap length c.in_ok-summaries.ensures.reported.2 ∙ length-map c.as_slice.result.now summary_of ∙ ap length c.as_slice.ensures);
  short = c.in_ok-inputs.ensures.short;
  fit = c.in_ok-inputs.ensures.fit;
}
