use Rattle.lk_headers.proofs.SectionsPut.{table_put}
use Rattle.lk_headers.proofs.section_table.put_table.Goals as goal

pub returns : goal.returns
returns c =
    table_put c.args.out.now.items _ _ _ c.null_header.result c.args.names.now c.links_of-links.result c.args.place.now c.as_slice.result.now c.args.tail.now c.as_slice-2.result.now
    c.requires c.links_of-links.ensures c.as_slice.ensures c.as_slice-2.ensures c.in_ok-put_section_header.ensures c.null_header.ensures c.in_ok-put_rows.ensures c.in_ok-put_parts.ensures
