-- The names that are noted are those of all sections, and the headers that are put are those of the table.
use Rattle.std.proofs.Common.{◌≡◌, ℕ, List, [], ◌∷◌, ◌++◌, refl, sym, ap, ◌∙◌, append_assoc, map}
use Rattle.std.specs.Prelude.{fold}
use Rattle.std.specs.List.{flat_map}
use Rattle.std.proofs.lemmas.Grind.{flat_map-append}
use Rattle.lk_elf.specs.Records.{shdr_bytes}
use Rattle.lk_elf.specs.declared.section_header.Shdr.{Shdr}
use Rattle.lk_model.specs.Tail.{null_header, row_name}
use Rattle.lk_model.specs.Texts.{with_text}
use Rattle.lk_model.specs.declared.layouts.Placement.{Placement}
use Rattle.lk_model.specs.declared.layouts.SectionRow.{SectionRow}
use Rattle.lk_headers.specs.SectionTable.{header_of_part, header_of_row, links_of, names_of, section_table, section_table_bytes}
use Rattle.lk_headers.specs.declared.links.Links.{Links}

fold-both : (start : List (List ℕ)) (xs ys : List (List ℕ)) → fold with_text (fold with_text start xs) ys ≡ fold with_text start (xs ++ ys)
fold-both start [] ys = refl
fold-both start (x ∷ xs) ys = fold-both (with_text start x) xs ys

pub both_noted : (a b c : List (List ℕ)) (place : Placement) (rows tail parts : List SectionRow) → a ≡ [] ∷ [] → rows ≡ place.sections → parts ≡ tail
    → b ≡ fold with_text a (map row_name rows) → c ≡ fold with_text b (map row_name parts) → c ≡ names_of place tail
both_noted a b c place rows tail parts new same also first second =
    second ∙ ap (λ l. fold with_text b (map row_name l)) also
    ∙ ap (λ l. fold with_text l (map row_name tail)) (first ∙ ap (λ l. fold with_text a (map row_name l)) same ∙ ap (λ l. fold with_text l (map row_name place.sections)) new)
    ∙ fold-both ([] ∷ []) (map row_name place.sections) (map row_name tail)

three : (a x y z : List ℕ) → ((a ++ x) ++ y) ++ z ≡ a ++ (x ++ (y ++ z))
three a x y z = append_assoc (a ++ x) y z ∙ append_assoc a x (y ++ z)

pub table_put : (a b c d : List ℕ) (null : Shdr) (names : List (List ℕ)) (links : Links) (place : Placement) (rows tail parts : List SectionRow)
    → names ≡ names_of place tail → links ≡ links_of place tail → rows ≡ place.sections → parts ≡ tail
    → b ≡ a ++ shdr_bytes null → null ≡ null_header
    → c ≡ b ++ flat_map shdr_bytes (map (header_of_row names links) rows)
    → d ≡ c ++ flat_map shdr_bytes (map (header_of_part names links) parts)
    → d ≡ a ++ section_table_bytes place tail
unfolding section_table_bytes section_table
table_put a b c d null names links place rows tail parts are linked same also first is second third =
    let x : List ℕ = shdr_bytes null_header in
    let ys : List Shdr = map (header_of_row (names_of place tail) (links_of place tail)) place.sections in
    let zs : List Shdr = map (header_of_part (names_of place tail) (links_of place tail)) tail in
    let one : b ≡ a ++ x = first ∙ ap (λ h. a ++ shdr_bytes h) is in
    let two : c ≡ b ++ flat_map shdr_bytes ys = second ∙ ap (λ (ns : List (List ℕ)). b ++ flat_map shdr_bytes (map (header_of_row ns links) rows)) are ∙ ap (λ (ls : Links). b ++ flat_map shdr_bytes (map (header_of_row (names_of place tail) ls) rows)) linked ∙ ap (λ (rs : List SectionRow). b ++ flat_map shdr_bytes (map (header_of_row (names_of place tail) (links_of place tail)) rs)) same in
    let more : d ≡ c ++ flat_map shdr_bytes zs = third ∙ ap (λ (ns : List (List ℕ)). c ++ flat_map shdr_bytes (map (header_of_part ns links) parts)) are ∙ ap (λ (ls : Links). c ++ flat_map shdr_bytes (map (header_of_part (names_of place tail) ls) parts)) linked ∙ ap (λ (rs : List SectionRow). c ++ flat_map shdr_bytes (map (header_of_part (names_of place tail) (links_of place tail)) rs)) also in
    more ∙ ap (λ l. l ++ flat_map shdr_bytes zs) (two ∙ ap (λ l. l ++ flat_map shdr_bytes ys) one)
    ∙ three a x (flat_map shdr_bytes ys) (flat_map shdr_bytes zs)
    ∙ ap (λ l. a ++ (x ++ l)) (sym (flat_map-append shdr_bytes ys zs))
