-- Needs that go on by references: one after another, and put behind others as they are.
use Rattle.std.proofs.Common.{◌≡◌, nat_eq, List, fold, flat_map}
use Rattle.lk_model.specs.declared.layouts.Needs.{Needs}
use Rattle.lk_model.specs.Finding.{Found}
use Rattle.lk_model.specs.NeedsOf.{address_needs, copy_needs, got_key_eq, got_needs, loaded_references, needs_of, plt_needs}
use Rattle.lk_model.specs.Numbered.{with_new}
use Rattle.lk_model.specs.References.{Sited}
use Rattle.lk_model.specs.Views.{Ref}
use Rattle.lk_scan.specs.LinkScans.{needs_joined}
use Rattle.lk_scan.proofs.Joined.{numbers-again, slots-again}

-- needs after references of loaded pieces
abbrev pub needs_after : Found → Needs → List Ref → Needs
needs_after f n loaded = record {
  got = fold (with_new got_key_eq) n.got (flat_map got_needs loaded);
  plt = fold (with_new nat_eq) n.plt (flat_map (plt_needs f) loaded);
  address = fold (with_new nat_eq) n.address (flat_map (address_needs f) loaded);
  copies = fold (with_new nat_eq) n.copies (flat_map (copy_needs f) loaded);
}

pub needs-again : (f : Found) (n : Needs) (sited : List Sited) → needs_joined n (needs_of f sited) ≡ needs_after f n (loaded_references sited)
unfolding needs_of
needs-again f n sited = λ i. record {
  got = slots-again n.got (flat_map got_needs (loaded_references sited)) i;
  plt = numbers-again n.plt (flat_map (plt_needs f) (loaded_references sited)) i;
  address = numbers-again n.address (flat_map (address_needs f) (loaded_references sited)) i;
  copies = numbers-again n.copies (flat_map (copy_needs f) (loaded_references sited)) i;
}
