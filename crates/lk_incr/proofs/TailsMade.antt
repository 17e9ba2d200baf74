-- The parts that the code puts together are the parts of the tail, of any records with these parts.
use Rattle.std.proofs.Common.{◌≡◌, ℕ, List, [], ◌∷◌, ◌++◌, ap, ◌∙◌}
use Rattle.std.specs.Prelude.{codes}
use Rattle.lk_model.specs.InputsSection.{inputs_fields}
use Rattle.lk_model.specs.RecordFields.{Field, spelled, texts_of}
use Rattle.lk_model.specs.RecordsOf.{records_of}
use Rattle.lk_model.specs.Tail.{Part, header_names, record_parts, tail_parts}
use Rattle.lk_model.specs.Texts.{offset_in, table_bytes, table_of}
use Rattle.lk_model.specs.Views.{Resolved}
use Rattle.lk_model.specs.declared.layouts.Placement.{Placement}
use Rattle.lk_model.specs.declared.records.Records.{Records}
use Rattle.lk_incr.specs.RecordParts.{RecordPartsValue, nameless, parts_of}
use Rattle.lk_incr.specs.TailParts.{part_with, records_with, tail_of, tail_with}

-- the fields of the inputs section have nothing of names and references
same_fields : (p : RecordPartsValue) (r : Records) → p ≡ parts_of r → inputs_fields (nameless p) ≡ inputs_fields r
unfolding inputs_fields
same_fields p r is = ap (λ (q : RecordPartsValue). inputs_fields (nameless q)) is

pub sections_made : (p : RecordPartsValue) (r : Records) (table : List (List ℕ)) (inputs texts : List ℕ) → p ≡ parts_of r
    → table ≡ table_of (texts_of (inputs_fields (nameless p))) → inputs ≡ spelled (offset_in table) (inputs_fields (nameless p)) → texts ≡ table_bytes table
    → records_with inputs texts ≡ record_parts r
unfolding record_parts
sections_made p r table inputs texts is table_is inputs_are texts_are =
    let same : inputs_fields (nameless p) ≡ inputs_fields r = same_fields p r is in
    let named : table ≡ table_of (texts_of (inputs_fields r)) = table_is ∙ ap (λ (fs : List Field). table_of (texts_of fs)) same in
    let spelled_so : inputs ≡ spelled (offset_in (table_of (texts_of (inputs_fields r)))) (inputs_fields r) = inputs_are ∙ (λ i. spelled (offset_in (named i)) (same i)) in
    let put : texts ≡ table_bytes (table_of (texts_of (inputs_fields r))) = texts_are ∙ ap table_bytes named in
    λ i. records_with (spelled_so i) (put i)

pub tail_made : (r : Records) (place : Placement) (inputs texts names : List ℕ) (parts : List Part) → place ≡ r.placement → records_with inputs texts ≡ record_parts r
    → names ≡ table_bytes (table_of (header_names place (record_parts r))) → parts ≡ tail_with inputs texts names → parts ≡ tail_of r
unfolding tail_of
tail_made r place inputs texts names parts at made named put =
    put ∙ ap (λ l. l ++ part_with (codes ".shstrtab") names ∷ []) made
    ∙ ap (λ b. record_parts r ++ part_with (codes ".shstrtab") b ∷ []) named
    ∙ ap (λ (p : Placement). record_parts r ++ part_with (codes ".shstrtab") (table_bytes (table_of (header_names p (record_parts r)))) ∷ []) at

pub tail_linked : (r : Resolved) (place : Placement) (parts : List Part) → parts ≡ tail_of (records_of r place) → parts ≡ tail_parts r place
unfolding tail_of tail_parts records_of
tail_linked r place parts made = made
