-- The part before the seal is written, and then the part behind it.
use Rattle.std.proofs.Common.{◌≡◌, ◌≤◌, length, drop, sym, ◌∙◌, ap, subst, inl, arith}
use Rattle.std.proofs.lemmas.List.{drop-drop}
use Rattle.lk_commit.specs.Stages.{IsPartWritten, IsUnsealed, StaysOpen}
use Rattle.lk_commit.proofs.ImageWritten.{IsHeadWritten, failed_stays, head_written, part_failed, part_written}
use Rattle.lk_commit.proofs.Reported.{reported_after, write_done, write_failed, write_stage}
use Rattle.lk_commit.proofs.contents.write_image.Goals as goal

pub write_at-requires-in-Done : goal.write_at-requires-in-Done
write_at-requires-in-Done g c =
    let before = g.D.Device.disk c.args.device.now in
    let between = g.D.Device.disk c.write_at.new.self in
    let head = c.split_at.result.0.now in
    let put = write_done (IsHeadWritten head) IsUnsealed 0 head before between c.requires.unsealed (λ s unsealed. head_written head s c.split_at.ensures.front_len unsealed) c.in-Done.ensures in
    record { begins_at_most_at_the_end = reported_after (λ s t (w : IsHeadWritten head s t). w.stays.unsealed.file.0) before.stored between.stored put }

pub returns-in-Done : goal.returns-in-Done
returns-in-Done g c =
    let image = c.args.image.now in
    let before = g.D.Device.disk c.args.device.now in
    let between = g.D.Device.disk c.write_at.new.self in
    let after = g.D.Device.disk c.write_at-in-Done.new.self in
    let head = c.split_at.result.0.now in
    let rest = c.split_at-2.result.1.now in
    let long : 4096 ≤ length image = let more = c.requires.long in omega (arith, more) in
    let is_rest : rest ≡ drop 4096 image = c.split_at-2.ensures.back ∙ (ap (drop 8) c.split_at.ensures.back ∙ drop-drop 8 4088 image) in
    let put = write_done (IsHeadWritten head) IsUnsealed 0 head before between c.requires.unsealed (λ s unsealed. head_written head s c.split_at.ensures.front_len unsealed) c.in-Done.ensures in
    write_stage (IsPartWritten image) StaysOpen 4096 rest before between after c.write_at-in-Done.result (IsHeadWritten head)
    (λ s t u w e. subst (IsPartWritten image s) (sym e) (part_written image head rest s t long c.split_at.ensures.front is_rest w))
    (λ s t u w failed. part_failed head rest s t u w failed)
    c.in-Done.ensures.1 put c.write_at-in-Done.ensures

pub returns-in-Failed : goal.returns-in-Failed
returns-in-Failed g c =
    let before = g.D.Device.disk c.args.device.now in
    let after = g.D.Device.disk c.write_at.new.self in
    let head = c.split_at.result.0.now in
    let size = c.split_at.ensures.front_len in (
      c.in-Failed.ensures.1,
      write_failed StaysOpen IsUnsealed 0 head before after c.requires.unsealed (λ s t unsealed failed. failed_stays 0 (length head) s t (inl (omega (arith, size))) unsealed failed) c.in-Failed.ensures,
    )
