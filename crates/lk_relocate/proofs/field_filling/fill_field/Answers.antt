use Rattle.lk_relocate.specs.ObjectSections.{section_reference}
use Rattle.lk_relocate.proofs.FieldsReported.{filled_not, filled_ok, reported_not, reported_ok}
use Rattle.lk_relocate.proofs.field_filling.fill_field.Goals as goal

pub returns-in-Ok-clause-filled : goal.returns-in-Ok-clause-filled
returns-in-Ok-clause-filled c = λ r is.
    let s = c.args.section.now in
    filled_ok r s.values.now.place (section_reference r s c.args.rela.now) c.r_type-code.result c.r_type-code.ensures c.relocation_numbers-numbers.result c.value-value.result
    (c.relocation_numbers-numbers.ensures.numbers r is) c.value-value.ensures c.args.at c.args.bytes.now c.apply.new.bytes c.in-Ok.ensures.fits c.in-Ok.ensures.written

pub returns-in-Ok-clause-reported : goal.returns-in-Ok-clause-reported
returns-in-Ok-clause-reported c = λ r is.
    let s = c.args.section.now in
    reported_ok r s.values.now.place (section_reference r s c.args.rela.now) c.r_type-code.result c.r_type-code.ensures c.relocation_numbers-numbers.result c.value-value.result
    (c.relocation_numbers-numbers.ensures.numbers r is) c.value-value.ensures c.args.faults.now c.in-Ok.ensures.fits

pub returns-in_ok-report_overflow-in-Err-clause-filled : goal.returns-in_ok-report_overflow-in-Err-clause-filled
returns-in_ok-report_overflow-in-Err-clause-filled c = λ r is.
    let s = c.args.section.now in
    filled_not r s.values.now.place (section_reference r s c.args.rela.now) c.r_type-code.result c.r_type-code.ensures c.relocation_numbers-numbers.result c.value-value.result
    (c.relocation_numbers-numbers.ensures.numbers r is) c.value-value.ensures c.args.at c.args.bytes.now c.apply.new.bytes c.in-Err.ensures.fits c.in-Err.ensures.unchanged

pub returns-in_ok-report_overflow-in-Err-clause-reported : goal.returns-in_ok-report_overflow-in-Err-clause-reported
returns-in_ok-report_overflow-in-Err-clause-reported c = λ r is.
    let s = c.args.section.now in
    reported_not r s.values.now.place (section_reference r s c.args.rela.now) c.r_type-code.result c.r_type-code.ensures c.relocation_numbers-numbers.result c.value-value.result
    (c.relocation_numbers-numbers.ensures.numbers r is) c.value-value.ensures c.args.faults.now c.report_overflow.new.faults c.in-Err.refused.value c.in-Err.ensures.fits c.in-Err.ensures.reported (c.relocation_numbers-numbers.ensures.exact r is) (c.in_ok-report_overflow-in-Err.ensures r is)
