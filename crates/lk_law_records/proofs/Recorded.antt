-- An image that has the stretches of a full link is read back as its placement.
use Rattle.std.proofs.Common.{◌≡◌, ℕ, suc, ◌+◌, ◌*◌, ◌^◌, ◌<◌, List, [], ◌∷◌, ◌++◌, length, drop, refl, sym, ap, ◌∙◌, arith, append_assoc, subst}
use Rattle.std.specs.Prelude.{Some, map, filter, slice_get}
use Rattle.std.specs.List.{flat_map, AllByRecursion, enumerate_from}
use Rattle.std.proofs.lemmas.List.{length-map}
use Rattle.lk_elf.specs.Numbers.{et_exec, em_x86_64}
use Rattle.lk_elf.specs.Records.{ehdr_at, ehdr_bytes, shdr_bytes, phdr_bytes}
use Rattle.lk_elf.specs.declared.file_header.Ehdr.{Ehdr}
use Rattle.lk_elf.specs.declared.section_header.Shdr.{Shdr}
use Rattle.lk_model.specs.Elf.{elf_of, elf_under, elf_with, section_headers_of}
use Rattle.lk_model.specs.FileHeader.{file_header, header_bytes, entry_value, exec_stack_of}
use Rattle.lk_model.specs.FullPlace.{full_place, tail_start}
use Rattle.lk_model.specs.Images.{stretch, seal_offset, seal, row_stretches, part_stretch, stretches_of}
use Rattle.lk_model.specs.RecordedPlace.{named_bytes, only_bytes, recorded_place, records_in}
use Rattle.lk_model.specs.RecordsOf.{records_of}
use Rattle.lk_model.specs.Resolving.{resolve}
use Rattle.lk_model.specs.Segments.{program_headers}
use Rattle.lk_model.specs.Stretches.{IsAt, AllAreAt, IsLaidOut}
use Rattle.lk_model.specs.Tail.{Part, headers_offset, parts_from, row_header, section_headers, tail_parts}
use Rattle.lk_model.specs.Texts.{offset_in, table_of}
use Rattle.lk_model.specs.Views.{Elf, Resolved}
use Rattle.lk_model.specs.declared.layouts.Placement.{Placement}
use Rattle.lk_law_records.specs.Recordable.{IsRecordable, RowFits}
use Rattle.lk_law_records.specs.RecordedLaws.{FullPlaceIsRecorded}
use Rattle.lk_law_records.proofs.InputsRead.{read_of_records}
use Rattle.lk_law_records.proofs.LinkRead.{IsFull, full-link, link-read, link_inputs, link_texts, rows-in-order}
use Rattle.lk_law_records.proofs.NamedParts.{only-inputs, only-texts, strings-there}
use Rattle.lk_model.proofs.FileHeaderBack.{header-back}
use Rattle.lk_law_records.proofs.SectionsBack.{around, end-last, headers-back, is_named_among, named-is, are_at-first, are_at-second}
use Rattle.lk_law_records.proofs.TailHeaders.{headers-are, headers-fit, headers_at, inputs_name, length-headers, link_shdrs, names_of, part_shdr, parts-are, parts-below, strings_name, strings_of, texts_name, third_at, three_parts}

-- ---- the stretches that are looked at

-- the headers, the tail's parts and the section headers are, and the last end the image
abbrev TailIsAt : Resolved → Placement → List ℕ → List Part → Type 0
TailIsAt r place image parts =
    IsAt image (stretch 0 (header_bytes r place parts))
    × AllAreAt image (map part_stretch (parts_from (tail_start place) parts))
    × IsAt image (stretch (headers_offset place parts) (flat_map shdr_bytes (section_headers place parts)))
    × (length image ≡ headers_offset place parts + length (flat_map shdr_bytes (section_headers place parts)))

tail-is_at : (r : Resolved) (place : Placement) (image : List ℕ) → IsLaidOut (stretches_of r place) image → TailIsAt r place image (tail_parts r place)
unfolding stretches_of
tail-is_at r place image laid =
    let parts = tail_parts r place in
    let last = stretch (headers_offset place parts) (flat_map shdr_bytes (section_headers place parts)) in
    let rooms = flat_map (row_stretches r place) (enumerate_from 0 place.sections) in
    let front = stretch 0 (header_bytes r place parts) ∷ stretch seal_offset seal ∷ rooms in
    let tail = map part_stretch (parts_from (tail_start place) parts) in
    let all = laid.is_at in (
      all.0,
      are_at-second image front tail (are_at-first image (front ++ tail) (last ∷ []) all),
      (are_at-second image (front ++ tail) (last ∷ []) all).0,
      laid.ends ∙ end-last (front ++ tail) last,
    )

-- ---- the file that the image is

-- what the file header reports of the section headers
header-reports : (image : List ℕ) (r : Resolved) (place : Placement) (parts : List Part) → IsAt image (stretch 0 (header_bytes r place parts))
    → headers_offset place parts < 2 ^ 64 → length place.sections + length parts + 1 < 2 ^ 16
    → ((ehdr_at image 0).e_shoff ≡ headers_offset place parts) × ((ehdr_at image 0).e_shnum ≡ length place.sections + length parts + 1)
    × ((ehdr_at image 0).e_shstrndx ≡ length place.sections + length parts)
unfolding header_bytes file_header
header-reports image r place parts is_at low few =
    let headers = program_headers place (exec_stack_of r) in
    let behind = drop (length (header_bytes r place parts)) image in
    let bytes = ehdr_bytes (file_header r place parts) in
    let others = flat_map phdr_bytes headers in
    let whole : image ≡ bytes ++ (others ++ behind) = around image (stretch 0 (header_bytes r place parts)) is_at ∙ append_assoc bytes others behind in
    subst (λ l. ((ehdr_at l 0).e_shoff ≡ headers_offset place parts) × ((ehdr_at l 0).e_shnum ≡ length place.sections + length parts + 1)
    × ((ehdr_at l 0).e_shstrndx ≡ length place.sections + length parts)) (sym whole)
    (header-back et_exec em_x86_64 1 (entry_value r place) 64 (headers_offset place parts) 0 64 56 (length headers) 64
    (length place.sections + length parts + 1) (length place.sections + length parts) (others ++ behind) low few (omega (arith, few)))

-- a file with these section headers
elf-is : (image : List ℕ) (hs : List Shdr) → section_headers_of image (ehdr_at image 0) ≡ hs → elf_of image ≡ elf_with image (ehdr_at image 0) hs
unfolding elf_of elf_under
elf-is image hs read = ap (elf_with image (ehdr_at image 0)) read

with-sections : (image : List ℕ) (header : Ehdr) (hs : List Shdr) → ((elf_with image header hs).sections ≡ hs) × ((elf_with image header hs).header ≡ header) × ((elf_with image header hs).bytes ≡ image)
unfolding elf_with
with-sections image header hs = (refl, refl, refl)

-- the bytes of the two sections of records of a file of these sections
record-bytes : (elf : Elf) (place : Placement) (inputs texts : List ℕ) → let strings = strings_of place in
    elf.sections ≡ link_shdrs place (offset_in (table_of (names_of place))) (length inputs) (length texts) (length strings)
    → elf.header.e_shstrndx ≡ length place.sections + 3 → AllByRecursion RowFits place.sections
    → AllAreAt elf.bytes (map part_stretch (parts_from (tail_start place) (three_parts inputs texts strings)))
    → (named_bytes elf inputs_name ≡ Some inputs) × (named_bytes elf texts_name ≡ Some texts)
record-bytes elf place inputs texts sections index fits (first, (second, (third, none))) =
    let strings = strings_of place in
    let offset = offset_in (table_of (names_of place)) in
    let n = length inputs in
    let m = length texts in
    let k = length strings in
    let hs = link_shdrs place offset n m k in
    let rows = map (row_header place offset) place.sections in
    let last = length rows + 2 in
    let counted : length rows ≡ length place.sections = length-map place.sections (row_header place offset) in
    let index' : elf.header.e_shstrndx ≡ suc last = index ∙ omega (arith, counted) in
    let table = part_shdr (offset strings_name) 3 (third_at (tail_start place) n m) k in
    let there : slice_get elf.sections (suc last) ≡ Some table = ap (λ l. slice_get l (suc last)) sections ∙ strings-there place offset n m k in
    let named : (name : List ℕ) → named_bytes elf name ≡ only_bytes elf (filter (is_named_among hs strings name) (enumerate_from 0 hs)) =
    λ name. named-is elf strings name last table index' there third ∙ ap (λ l. only_bytes elf (filter (is_named_among l strings name) (enumerate_from 0 l))) sections in (
      named inputs_name ∙ only-inputs elf place strings n m k refl fits ∙ ap Some first,
      named texts_name ∙ only-texts elf place strings n m k refl fits ∙ ap Some second,
    )

-- the two sections of records of an image
sections-found : (r : Resolved) (place : Placement) (image : List ℕ) → IsLaidOut (stretches_of r place) image → IsRecordable r place
    → (named_bytes (elf_of image) inputs_name ≡ Some (link_inputs r place)) × (named_bytes (elf_of image) texts_name ≡ Some (link_texts r place))
    × (length (link_texts r place) < 2 ^ 32)
sections-found r place image laid ok =
    let inputs = link_inputs r place in
    let texts = link_texts r place in
    let strings = strings_of place in
    let parts = three_parts inputs texts strings in
    let n = length inputs in
    let m = length texts in
    let k = length strings in
    let tail = tail_start place in
    let offset = offset_in (table_of (names_of place)) in
    let hs = link_shdrs place offset n m k in
    let are = parts-are r place in
    let at = headers_at tail n m k in
    let reports : TailIsAt r place image parts = subst (TailIsAt r place image) are (tail-is_at r place image laid) in
    let shdrs = headers-are place inputs texts strings in
    let is_at : IsAt image (stretch at (flat_map shdr_bytes hs)) = subst (λ l. IsAt image (stretch at (flat_map shdr_bytes l))) shdrs reports.2 in
    let ends : length image ≡ at + length (flat_map shdr_bytes hs) = subst (λ l. length image ≡ at + length (flat_map shdr_bytes l)) shdrs reports.3 in
    let size = subst (λ (l : List Part). headers_offset place l + 64 * (length place.sections + length l + 1) < 2 ^ 32) are ok.image in
    let below : at < 2 ^ 32 = omega (arith, size) in
    let few = ok.section_count in
    let ends-below = parts-below tail n m k in
    let texts-end = ends-below.second in
    let strings-end = ends-below.third in
    let low : length strings < 2 ^ 32 = omega (arith, strings-end, below) in
    let head = header-reports image r place parts reports.0 (omega (arith, below)) (omega (arith, few)) in
    let long = length-headers place offset n m k in
    let count : (ehdr_at image 0).e_shnum ≡ length hs = head.1 ∙ omega (arith, long) in
    let index : (ehdr_at image 0).e_shstrndx ≡ length place.sections + 3 = head.2 in
    let read = headers-back image (ehdr_at image 0) at hs head.0 count (headers-fit place n m k low few ok.sections below) is_at ends in
    let file = elf_with image (ehdr_at image 0) hs in
    let made = with-sections image (ehdr_at image 0) hs in
    let found = record-bytes file place inputs texts made.0 (ap (λ (h : Ehdr). h.e_shstrndx) made.1 ∙ index) ok.sections
    (subst (λ l. AllAreAt l (map part_stretch (parts_from tail parts))) (sym made.2) reports.1) in
    let is = elf-is image hs read in (
      ap (λ e. named_bytes e inputs_name) is ∙ found.0,
      ap (λ e. named_bytes e texts_name) is ∙ found.1,
      omega (arith, texts-end, below),
    )

-- ---- the placement that it records

-- the records read from the record sections of an image
pub records-reported : (r : Resolved) (place : Placement) (image : List ℕ) → IsFull r place → IsLaidOut (stretches_of r place) image → IsRecordable r place
    → records_in image ≡ Some (read_of_records (records_of r place))
unfolding records_in
records-reported r place image full laid ok =
    let found = sections-found r place image laid ok in
    let back = link-read r place full ok found.2 in
    rw (found.0, found.1, back) refl

place-read : (r : Resolved) (place : Placement) (image : List ℕ) → IsFull r place → IsRecordable r place → full_place r ≡ place
    → records_in image ≡ Some (read_of_records (records_of r place)) → recorded_place r image ≡ Some place
unfolding recorded_place records_of
place-read r place image full ok same reported =
    let x = read_of_records (records_of r place) in
    let rows = rows-in-order r place full ok.inputs x refl refl in
    rw (reported, same) (ap (λ pieces. Some (record { sections = place.sections; pieces = pieces; slots = place.slots })) rows)

pub full-place-recorded : FullPlaceIsRecorded
full-place-recorded options inputs image ok laid =
    let r = resolve options inputs in
    let place = full_place r in
    let full = full-link options inputs in
    place-read r place image full ok refl (records-reported r place image full laid ok)
