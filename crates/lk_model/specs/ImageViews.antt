-- This project's own: what a link is beside its addresses: which pieces are together in an output
-- section, what each name means, and what a dynamic linker is given. All links of one command and its
-- files have the same view, however they were made: it is read from the image alone.
use Rattle.std.specs.Prelude.{◌≡◌, ℕ, Bool, List, map, drop, filter, filter_map, zip, find, Option, Some, None, option_map, Ok, Err, slice_get}
use Rattle.std.specs.Str.{bytes_eq}
use Rattle.lk_model.specs.Bases.{records_of_image}
use Rattle.lk_model.specs.Checks.{is_some_with}
use Rattle.lk_model.specs.DynamicNames.{dynamic_names}
use Rattle.lk_model.specs.DynamicTexts.{needed_names}
use Rattle.lk_model.specs.Loads.{LoadedSymbol, dynamic_symbols_in, needed_in}
use Rattle.lk_model.specs.RecordsOf.{name_row}
use Rattle.lk_model.specs.SectionKeys.{same_key}
use Rattle.lk_model.specs.SectionOrder.{each_once}
use Rattle.lk_model.specs.SymbolValues.{name_of}
use Rattle.lk_model.specs.Views.{KeptPiece, Resolved}
use Rattle.lk_model.specs.WholeLinks.{IsWholeLinkAt}
use Rattle.lk_model.specs.declared.layouts.PieceId.{PieceId}
use Rattle.lk_model.specs.declared.layouts.PieceRow.{PieceRow}
use Rattle.lk_model.specs.declared.layouts.Placement.{Placement}
use Rattle.lk_model.specs.declared.layouts.SectionKey.{SectionKey}
use Rattle.lk_model.specs.declared.layouts.SectionRow.{SectionRow}
use Rattle.lk_model.specs.declared.records.NameRow.{NameRow}
use Rattle.lk_model.specs.declared.records.Records.{Records}

-- an output section that holds a piece, with its pieces in adding order and by section, then commons and
-- copies in order of names. Their order there is no part of it.
pub record SectionPieces : Type 0 where
  pub key : SectionKey
  pub pieces : List PieceId

-- the view of a link. Its sets are lists in an order that the inputs alone decide: the output sections in
-- order of their first piece, all names in order of names, each with the kind of its winner and the
-- winner's input; the sonames that it needs; the names of its dynamic symbols; the symbol at which the
-- program begins.
pub record View : Type 0 where
  pub sections : List SectionPieces
  pub names : List NameRow
  pub needed : List (List ℕ)
  pub dynamic_names : List (List ℕ)
  pub entry : Option NameRow

-- whether a name is the entry's
abbrev pub is_entry : List ℕ → NameRow → Bool
is_entry entry row = bytes_eq row.name entry

-- ---- of an image

-- the key of the output section in which a placed piece is
abbrev pub key_of_piece : Placement → PieceRow → Option SectionKey
key_of_piece place row = option_map (λ (s : SectionRow). s.key) (slice_get place.sections row.section)

-- whether a placed piece is in this output section
abbrev pub is_in : Placement → SectionKey → PieceRow → Bool
is_in place key row = is_some_with (same_key key) (key_of_piece place row)

-- an output section with the pieces that are in it
abbrev pub section_of_key : Placement → SectionKey → SectionPieces
section_of_key place key = record {
  key = key;
  pieces = map (λ (row : PieceRow). row.piece) (filter (is_in place key) place.pieces);
}

-- the output sections of a placement that hold a piece; those without one, which an update leaves over,
-- do not count
unfoldable pub sections_with_pieces_of : Placement → List SectionPieces
sections_with_pieces_of place = map (section_of_key place) (each_once (filter_map (key_of_piece place) place.pieces))

-- the names of an image's dynamic symbols, without the null symbol
abbrev pub dynamic_names_in : List ℕ → List (List ℕ)
dynamic_names_in image = drop 1 (map (λ (s : LoadedSymbol). s.name) (dynamic_symbols_in image))

-- the view that the records and the dynamic section of an image give
abbrev pub view_with : List ℕ → Records → View
view_with image r = record {
  sections = sections_with_pieces_of r.placement;
  names = r.names;
  needed = needed_in image;
  dynamic_names = dynamic_names_in image;
  entry = find (is_entry r.options.entry) r.names;
}

-- the view of an image; none where its records are not read
unfoldable pub view_in : List ℕ → Option View
view_in image = elim (records_of_image image) [ Err c ↦ None | Ok r ↦ Some (view_with image r) ]

-- ---- of what resolution finds

-- an output section with the pieces that resolution sends to it
abbrev pub section_pieces : Resolved → SectionKey → SectionPieces
section_pieces r key = record {
  key = key;
  pieces = map (λ (k : KeptPiece). k.piece) (filter (λ (k : KeptPiece). same_key k.key key) r.kept);
}

-- the output sections that a link's pieces go to
unfoldable pub sections_kept : Resolved → List SectionPieces
sections_kept r = map (section_pieces r) (each_once (map (λ (k : KeptPiece). k.key) r.kept))

-- the names with their winners
abbrev pub name_rows : Resolved → List NameRow
name_rows r = map name_row (zip r.names r.winners)

-- the view of a link of these inputs
unfoldable pub view_of : Resolved → View
view_of r = record {
  sections = sections_kept r;
  names = name_rows r;
  needed = needed_names r;
  dynamic_names = map (name_of r) (dynamic_names r);
  entry = find (is_entry r.options.entry) (name_rows r);
}

-- ---- the law

-- an image that is a link has the view of its inputs, so that two links of one command and its files have
-- equal views
abbrev pub ViewIsOfInputs : Type 0
ViewIsOfInputs = (r : Resolved) (place : Placement) (image : List ℕ) → IsWholeLinkAt r place image → view_in image ≡ Some (view_of r)
