-- A file without a fault has a whole ELF header.
use Rattle.std.specs.Prelude.{◌≡◌, ◌<◌, refl, ℕ, List, length, Option, Some, None, Result, Ok, Err}
use Rattle.std.proofs.Common.{ap, subst, sym, ◌∙◌}
use Rattle.lk_report.specs.declared.faults.InputFault.{InputFault}
use Rattle.lk_model.specs.Kinds.{kind_of}
use Rattle.lk_model.specs.ObjectChecks.{object_fault}
use Rattle.lk_model.specs.declared.summaries.Kind.{Kind}
use Rattle.lk_summary.proofs.KindsKnown.{no_header}
use Rattle.lk_obj_read.proofs.ObjectFaults.{kind_reported}

some_none : (f : InputFault) → Some f ≡ None → ⊥
some_none f e = subst (λ t. t) (ap (λ (o : Option InputFault). elim o [ Some x ↦ Unit {0} | None ↦ ⊥ ]) e) tt

by_kind : (bytes : List ℕ) (r : Result Kind InputFault) → kind_of bytes ≡ r → object_fault bytes ≡ None → length bytes < 64 → ⊥
by_kind bytes (Ok k) e none short = no_header bytes k e short
by_kind bytes (Err f) e none short = some_none f (sym (kind_reported bytes f e) ∙ none)

pub has_header : (bytes : List ℕ) → object_fault bytes ≡ None → length bytes < 64 → ⊥
has_header bytes none short = by_kind bytes (kind_of bytes) refl none short
