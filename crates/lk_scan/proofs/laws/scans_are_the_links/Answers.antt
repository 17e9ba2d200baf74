use Rattle.lk_scan.proofs.LinkScanned as link
use Rattle.lk_scan.proofs.laws.scans_are_the_links.Goals as goal

pub returns-clause-references : goal.returns-clause-references
returns-clause-references c = link.references_by_input

pub returns-clause-scans : goal.returns-clause-scans
returns-clause-scans c = link.scans_are_the_links

pub returns-clause-objects : goal.returns-clause-objects
returns-clause-objects c = link.objects_are_scanned

pub returns-clause-shared : goal.returns-clause-shared
returns-clause-shared c = link.shared_are_empty
