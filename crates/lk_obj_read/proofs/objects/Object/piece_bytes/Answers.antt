use Rattle.std.proofs.Common.{◌≡◌, IfSome, None, ap, length, subst, sym, ◌∙◌}
use Rattle.lk_model.specs.Elf.{elf_of, section_at}
use Rattle.lk_model.specs.ObjectChecks.{object_fault}
use Rattle.lk_model.specs.Objects.{piece_bytes_in}
use Rattle.lk_obj_parts.specs.TargetRows.{room_of}
use Rattle.lk_obj_read.specs.PieceParts.{stored_bytes}
use Rattle.lk_obj_read.proofs.ObjectsStored.{stored_reported}
use Rattle.lk_obj_read.proofs.SoundParts.{bytes_there}
use Rattle.lk_obj_read.proofs.objects.Object.piece_bytes.Goals as goal

pub returns-clause-whole : goal.returns-clause-whole
returns-clause-whole c =
    let value : c.stored_bytes.result.now ≡ piece_bytes_in (elf_of c.args.self.now) c.args.section =
    c.stored_bytes.ensures
    ∙ ap (λ bytes. stored_bytes bytes c.index.result.now) (c.as_slice.ensures ∙ c.self.view_is)
    ∙ sym
    (stored_reported c.args.self.now c.args.section c.self.inside.sections.items c.index.result.now c.requires
    (subst (λ bytes. c.self.inside.sections.items ≡ (elf_of bytes).sections) c.self.view_is c.self.invariant.sections) c.index.ensures) in
    subst (λ bytes. IfSome (section_at (elf_of c.args.self.now) c.args.section) (λ header. length bytes ≡ room_of header)) (sym value)
    (bytes_there c.args.self.now c.args.section (subst (λ bytes. object_fault bytes ≡ None) c.self.view_is c.self.invariant.sound) c.requires)
