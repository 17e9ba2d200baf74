use Rattle.std.proofs.Common.{refl, ◌∙◌}
use Rattle.lk_model.specs.Segments.{tls_segment}
use Rattle.lk_headers.proofs.thread_block.thread_segment.Goals as goal

pub returns : goal.returns
unfolding tls_segment
returns c = c.segment_over.ensures ∙ rw (c.row_of_class.ensures, c.row_of_class-2.ensures, c.as_slice-rows.ensures) refl
