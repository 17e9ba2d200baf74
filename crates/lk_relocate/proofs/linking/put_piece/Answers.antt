use Rattle.std.proofs.Common.{sym, ◌∙◌, length}
use Rattle.lk_relocate.proofs.PiecePut.{known_listed, known_object, known_section, known_there, section_reported}
use Rattle.lk_relocate.proofs.PlacesReported.{piece_put}
use Rattle.lk_relocate.proofs.TablesReported.{tables_current}
use Rattle.lk_relocate.proofs.linking.put_piece.Goals as goal

pub get_ready-requires : goal.get_ready-requires
get_ready-requires c = λ at. c.requires c.in-Section.input at c.in-Some.object.now (sym c.in-Some.ensures)

pub link_section-requires : goal.link_section-requires
link_section-requires c = record { tables_are = c.in_ok-get_ready-in-Some.ensures.tables; begins = c.piece_start.ensures }

pub returns-in-None-clause-linked : goal.returns-in-None-clause-linked
returns-in-None-clause-linked c = λ r link known within.
    known_there c.args.objects.now r c.in-Section.input c.in-Section.section
    (known_section c.args.objects.now r c.args.values.now.place c.args.piece.now c.in-Section.input c.in-Section.section c.in-Section.is known) c.in-None.ensures

pub returns-in-None-clause-reported : goal.returns-in-None-clause-reported
returns-in-None-clause-reported c = λ r link known.
    known_there c.args.objects.now r c.in-Section.input c.in-Section.section
    (known_section c.args.objects.now r c.args.values.now.place c.args.piece.now c.in-Section.input c.in-Section.section c.in-Section.is known) c.in-None.ensures

pub returns-in_ok-link_section-in-Some-clause-current : goal.returns-in_ok-link_section-in-Some-clause-current
returns-in_ok-link_section-in-Some-clause-current c =
    tables_current c.args.values.now c.args.objects.now c.in-Section.input c.in-Some.object.now c.get_ready.new.self c.in-Some.ensures c.in_ok-get_ready-in-Some.ensures.tables c.in_ok-get_ready-in-Some.ensures.at

pub returns-in_ok-link_section-in-Some-clause-linked : goal.returns-in_ok-link_section-in-Some-clause-linked
returns-in_ok-link_section-in-Some-clause-linked c = λ r link known within.
    let objects = c.args.objects.now in
    let place = c.args.values.now.place in
    let piece = c.args.piece.now in
    let n = c.in-Section.input in
    let s = c.in-Section.section in
    let bytes = c.in-Some.object.now in
    let section = known_section objects r place piece n s c.in-Section.is known in
    let object = known_object objects r n s bytes section c.in-Some.ensures in
    c.in_ok-link_section-in-Some.ensures.linked r (record { link = link; object = object; listed = known_listed objects r n s bytes section c.in-Some.ensures })
    ∙ piece_put r place c.args.image.now piece n s bytes (length c.args.image.now) c.in-Section.is object known.lies within

pub returns-in_ok-link_section-in-Some-clause-reported : goal.returns-in_ok-link_section-in-Some-clause-reported
returns-in_ok-link_section-in-Some-clause-reported c = λ r link known.
    let objects = c.args.objects.now in
    let place = c.args.values.now.place in
    let piece = c.args.piece.now in
    let n = c.in-Section.input in
    let s = c.in-Section.section in
    let bytes = c.in-Some.object.now in
    let section = known_section objects r place piece n s c.in-Section.is known in
    let object = known_object objects r n s bytes section c.in-Some.ensures in
    section_reported r place piece.piece n s bytes c.args.faults.now c.link_section.new.faults c.in-Section.is object
    (c.in_ok-link_section-in-Some.ensures.reported r (record { link = link; object = object; listed = known_listed objects r n s bytes section c.in-Some.ensures }))
