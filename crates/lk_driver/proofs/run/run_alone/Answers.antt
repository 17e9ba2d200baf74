-- The image was made and committed: what that says of words, answer, output and files.
use Rattle.std.proofs.Common.{sym, subst}
use Rattle.lk_report.specs.declared.statuses.Status.{Status}
use Rattle.lk_driver.specs.Outer.{DoneLeaves, FilesKept, IsDue, StopLeaves, WordsFirst, words_answer}
use Rattle.lk_driver.proofs.ImagesCommitted.{done-leaves, files-kept, is-due, stop-leaves, words-first}
use Rattle.lk_driver.proofs.run.run_alone.Goals as goal

pub returns-in-Ok-clause-words_first : goal.returns-in-Ok-clause-words_first
returns-in-Ok-clause-words_first g c =
    let files = g.F.Files.state c.args.files.now in
    let files_after = g.F.Files.state c.image_of_words.new.files in
    let disk = g.D.Device.disk c.args.out.now in
    let disk_after = g.D.Device.disk c.commit_image.new.out in
    subst (λ (s : Status). WordsFirst (words_answer c.args.words.now) files disk s files_after disk_after) (sym c.say_status.ensures.same)
    (words-first c.args.words.now files files_after disk disk_after c.in-Ok.image c.commit_image.result c.in-Ok.ensures c.commit_image.ensures)

pub returns-in-Ok-clause-answer : goal.returns-in-Ok-clause-answer
returns-in-Ok-clause-answer g c =
    let files = g.F.Files.state c.args.files.now in
    let files_after = g.F.Files.state c.image_of_words.new.files in
    let disk = g.D.Device.disk c.args.out.now in
    let disk_after = g.D.Device.disk c.commit_image.new.out in
    subst (λ (s : Status). IsDue c.args.words.now files s) (sym c.say_status.ensures.same)
    (is-due c.args.words.now files files_after disk disk_after c.in-Ok.image c.commit_image.result c.in-Ok.ensures c.commit_image.ensures)

pub returns-in-Ok-clause-done : goal.returns-in-Ok-clause-done
returns-in-Ok-clause-done g c =
    let files = g.F.Files.state c.args.files.now in
    let files_after = g.F.Files.state c.image_of_words.new.files in
    let disk = g.D.Device.disk c.args.out.now in
    let disk_after = g.D.Device.disk c.commit_image.new.out in
    subst (λ (s : Status). DoneLeaves c.args.words.now files s disk_after) (sym c.say_status.ensures.same)
    (done-leaves c.args.words.now files files_after disk disk_after c.in-Ok.image c.commit_image.result c.in-Ok.ensures c.commit_image.ensures)

pub returns-in-Ok-clause-stopped : goal.returns-in-Ok-clause-stopped
returns-in-Ok-clause-stopped g c =
    let files = g.F.Files.state c.args.files.now in
    let files_after = g.F.Files.state c.image_of_words.new.files in
    let disk = g.D.Device.disk c.args.out.now in
    let disk_after = g.D.Device.disk c.commit_image.new.out in
    subst (λ (s : Status). StopLeaves c.args.words.now files disk s disk_after) (sym c.say_status.ensures.same)
    (stop-leaves c.args.words.now files files_after disk disk_after c.in-Ok.image c.commit_image.result c.in-Ok.ensures c.commit_image.ensures)

pub returns-in-Ok-clause-files_kept : goal.returns-in-Ok-clause-files_kept
returns-in-Ok-clause-files_kept g c =
    let files = g.F.Files.state c.args.files.now in
    let files_after = g.F.Files.state c.image_of_words.new.files in
    let disk = g.D.Device.disk c.args.out.now in
    let disk_after = g.D.Device.disk c.commit_image.new.out in
    subst (λ (s : Status). FilesKept (words_answer c.args.words.now) c.args.words.now files s files_after) (sym c.say_status.ensures.same)
    (files-kept c.args.words.now files files_after disk disk_after c.in-Ok.image c.commit_image.result c.in-Ok.ensures c.commit_image.ensures)
