use Rattle.std.proofs.Common.{rules, ◌≡◌, ◌<◌, ◌≤◌, ◌^◌, ap, sym, subst, ◌∙◌, arith, ℕ, List, ◌++◌, ◌∷◌, [], length, map, Err}
use Rattle.std.specs.Prelude.{All}
use Rattle.std.proofs.lemmas.Grind.{common_steps}
use Rattle.std.proofs.lemmas.List.Elements.{All-push, All-same}
use Rattle.std.proofs.lemmas.Result.{err_from_is_err_and}
use Rattle.std.specs.Vec.Iter.{into_iter_items}
use Rattle.lk_inputs.specs.declared.input_files.InputFile.{InputFile}
use Rattle.lk_inputs.specs.Asked.{file_name, name_path}
use Rattle.lk_inputs.specs.FileAnswers.{known_reads}
use Rattle.lk_inputs.specs.FileNumbers.{FileFits}
use Rattle.lk_inputs.proofs.FilesAskedFor.{all_read, done, next_limit, next_there, put_files, put_names, put_reads, reads_ended, reads_named, reads_stopped, status_in_turn}
use Rattle.lk_inputs.proofs.PassesReported.{reads_given}
use Rattle.lk_inputs.proofs.reading.read_inputs.Goals as goal

pub returns-in_err-bytes : goal.returns-in_err-bytes
returns-in_err-bytes g c =
    let p = err_from_is_err_and c.from_residual.result c.from_residual.ensures.1 in
    record {
      kept = search rules;
      unlooked = search rules;
      reported = search rules;
      kinds = search rules;
      faults = search rules;
      named = reads_named c.args.names (into_iter_items c.loop-name.name-iterator) (into_iter_items c.next.new.self) c.in-Some.name c.loop-name.inputs _ c.from_residual.result
          c.in-Some.ensures.steps.0 c.loop-name.invariant.names c.in_err-bytes.ensures.named (p.1 ∙ ap (λ s. Err s) p.2);
      last = search rules;
      misses = search rules;
      asked = status_in_turn (known_reads (g.F.Files.state c.args.files.now)) (known_reads (g.F.Files.state c.read_file.new.files)) (map name_path c.args.names) p.0 c.from_residual.result p.1
          (reads_stopped (known_reads (g.F.Files.state c.args.files.now)) (known_reads (g.F.Files.state c.loop-name.files)) (known_reads (g.F.Files.state c.read_file.new.files)) c.args.names (into_iter_items c.loop-name.name-iterator) (into_iter_items c.next.new.self) c.in-Some.name c.loop-name.inputs
          c.in-Some.ensures.steps.0 c.loop-name.invariant.names c.loop-name.invariant.reads c.in_err-bytes.ensures.asked);
      reads = search rules;
      files = search rules;
      short = search rules;
      fit = search rules;
    }

pub returns-in-Err : goal.returns-in-Err
returns-in-Err g c = record {
  kept = search rules;
  unlooked = search rules;
  reported = search rules;
  kinds = search rules;
  faults = search rules;
  named = search rules;
  last = search rules;
  misses = search rules;
  asked = reads_ended (known_reads (g.F.Files.state c.args.files.now)) (known_reads (g.F.Files.state c.loop-name.files)) (known_reads (g.F.Files.state c.read_file.new.files)) c.args.names (into_iter_items c.loop-name.name-iterator) (into_iter_items c.next.new.self) c.in-Some.name c.loop-name.inputs
      c.in-Some.ensures.steps.0 c.loop-name.invariant.names c.loop-name.invariant.reads c.in_ok-bytes.ensures.asked;
  reads = search rules;
  files = search rules;
  short = search rules;
  fit = search rules;
}

pub returns-then-is_err : goal.returns-then-is_err
returns-then-is_err g c = record {
  kept = search rules;
  unlooked = search rules;
  reported = search rules;
  kinds = search rules;
  faults = search rules;
  named = search rules;
  last = search rules;
  misses = search rules;
  asked = reads_ended (known_reads (g.F.Files.state c.args.files.now)) (known_reads (g.F.Files.state c.loop-name.files)) (known_reads (g.F.Files.state c.read_file.new.files)) c.args.names (into_iter_items c.loop-name.name-iterator) (into_iter_items c.next.new.self) c.in-Some.name c.loop-name.inputs
      c.in-Some.ensures.steps.0 c.loop-name.invariant.names c.loop-name.invariant.reads c.in_ok-bytes.ensures.asked;
  reads = search rules;
  files = search rules;
  short = search rules;
  fit = search rules;
}

pub loop-name-preserved : goal.loop-name-preserved
loop-name-preserved g c =
    let left : into_iter_items c.loop-name.name-iterator ≡ c.in-Some.name ∷ into_iter_items c.next.new.self = c.in-Some.ensures.steps.0 in
    let put : c.push.new.self ≡ c.loop-name.inputs ++ c.input_of.result ∷ [] = done c.push.result _ (sym c.is_err.ensures.value ∙ c.if-is_err.false) c.push.ensures.pushed in
    let pushed : c.push.new.self ≡ c.loop-name.inputs ++ record { name = c.in-Some.name; bytes = c.in_ok-bytes.bytes } ∷ [] = put ∙ ap (λ (input : InputFile). c.loop-name.inputs ++ input ∷ []) c.input_of.ensures.is in
    let small : length c.in_ok-bytes.bytes ≤ 2 ^ 26 = grind (arith, common_steps) in
    record {
      kept = c.in_ok-bytes.ensures.kept ∙ c.loop-name.invariant.kept;
      reads =
          put_reads (known_reads (g.F.Files.state c.args.files.now)) (known_reads (g.F.Files.state c.loop-name.files)) (known_reads (g.F.Files.state c.read_file.new.files)) c.loop-name.inputs c.push.new.self c.in-Some.name c.in_ok-bytes.bytes
          pushed c.loop-name.invariant.reads c.in_ok-bytes.ensures.asked;
      inputs = λ there e.
          put_files there c.args.names (into_iter_items c.loop-name.name-iterator) (into_iter_items c.next.new.self) c.loop-name.inputs c.push.new.self c.in-Some.name c.in_ok-bytes.bytes
          left pushed (c.in_ok-bytes.ensures.reported there (c.loop-name.invariant.kept ∙ e)) (c.loop-name.invariant.inputs there e);
      limit = λ there e.
          next_limit there c.args.names (into_iter_items c.loop-name.name-iterator) (into_iter_items c.next.new.self) c.in-Some.name c.in_ok-bytes.bytes c.loop-name.total c.in-Ok.total
          left (c.in_ok-bytes.ensures.reported there (c.loop-name.invariant.kept ∙ e)) (search rules) (search rules) (c.loop-name.invariant.limit there e);
      all = λ there e.
          next_there there c.args.names (into_iter_items c.loop-name.name-iterator) (into_iter_items c.next.new.self) c.in-Some.name c.in_ok-bytes.bytes
          left (c.in_ok-bytes.ensures.reported there (c.loop-name.invariant.kept ∙ e)) (c.loop-name.invariant.all there e);
      total = c.in-Ok.ensures.short;
      short = All-same (λ (input : InputFile). length input.bytes ≤ 2 ^ 26) c.push.new.self (c.loop-name.inputs ++ record { name = c.in-Some.name; bytes = c.in_ok-bytes.bytes } ∷ []) pushed
          (All-push (λ (input : InputFile). length input.bytes ≤ 2 ^ 26) c.loop-name.inputs (record { name = c.in-Some.name; bytes = c.in_ok-bytes.bytes }) c.loop-name.invariant.short small);
      fit = All-same FileFits c.push.new.self (c.loop-name.inputs ++ record { name = c.in-Some.name; bytes = c.in_ok-bytes.bytes } ∷ []) pushed
          (All-push FileFits c.loop-name.inputs (record { name = c.in-Some.name; bytes = c.in_ok-bytes.bytes }) c.loop-name.invariant.fit
          (record { name = c.input_of.ensures.fits; bytes = subst (λ (bytes : List ℕ). All (λ b. b < 256) bytes) c.as_slice.ensures c.in-Ok.ensures.bytes; size = omega (arith, small) }));
      unlooked = c.in_ok-bytes.ensures.unlooked ∙ c.loop-name.invariant.unlooked;
      last = c.in_ok-bytes.ensures.last ∙ c.loop-name.invariant.last;
      misses = c.in_ok-bytes.ensures.misses ∙ c.loop-name.invariant.misses;
      names = put_names c.args.names (into_iter_items c.loop-name.name-iterator) (into_iter_items c.next.new.self) c.loop-name.inputs c.push.new.self c.in-Some.name c.in_ok-bytes.bytes left pushed c.loop-name.invariant.names;
      faults = c.in_ok-bytes.ensures.faults ∙ c.loop-name.invariant.faults;
    }

pub returns : goal.returns
returns g c =
    let read : map file_name c.loop-name.inputs ≡ c.args.names = grind (arith, common_steps) in
    let none : into_iter_items c.loop-name.name-iterator ≡ [] = grind (arith, common_steps) in
    record {
      kept = c.loop-name.invariant.kept;
      unlooked = c.loop-name.invariant.unlooked;
      reported = λ there e. reads_given there c.args.names (into_iter_items c.loop-name.name-iterator) c.loop-name.total c.loop-name.inputs none (c.loop-name.invariant.inputs there e) (c.loop-name.invariant.limit there e);
      kinds = search rules;
      faults = c.loop-name.invariant.faults;
      named = search rules;
      last = c.loop-name.invariant.last;
      misses = c.loop-name.invariant.misses;
      asked = all_read (known_reads (g.F.Files.state c.args.files.now)) (known_reads (g.F.Files.state c.loop-name.files)) c.args.names c.loop-name.inputs read c.loop-name.invariant.reads;
      reads = c.loop-name.invariant.reads;
      files = read;
      short = c.loop-name.invariant.short;
      fit = c.loop-name.invariant.fit;
    }
