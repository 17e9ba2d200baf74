-- Worked examples: the placements of small links are lawful.
use Rattle.std.specs.Prelude.{◌≡◌, ◌==◌, ℕ, Bool, true, false, slice_index, map, List, [], ◌∷◌, codes, refl}
use Rattle.std.specs.List.{IsDistinct}
use Rattle.std.proofs.Common.{arith, ap}
use Rattle.std.proofs.lemmas.Bool.Decides.{nat_tests}
use Rattle.lk_model.proofs.SmallLinks.{link, kept, terminator, smallest, row, placed, got_rows, no_slots}
use Rattle.lk_model.specs.declared.layouts.PieceRow.{PieceRow}
use Rattle.lk_model.specs.declared.layouts.Placement.{Placement}
use Rattle.lk_model.specs.declared.layouts.SectionRow.{SectionRow}
use Rattle.lk_model.specs.SectionKeys.{is_patched}
use Rattle.lk_model.specs.SectionOrder.{section_rank, in_order, section_keys, table_sizes}
use Rattle.lk_model.specs.Rooms.{room_of, step_to, patched_room}
use Rattle.lk_model.specs.FullPlace.{full_place, extent_of, rows_of, piece_rows}
use Rattle.lk_model.specs.Holes.{holes_of}
use Rattle.lk_model.specs.Lawful.{Lawful}
use Rattle.lk_model.specs.declared.layouts.Class.TheVariants.{R, X, W, Tbss, N}

-- the smallest link
smallest_is_lawful : Lawful smallest (full_place smallest)
unfolding full_place extent_of rows_of piece_rows section_keys table_sizes in_order section_rank is_patched room_of step_to patched_room holes_of IsDistinct
smallest_is_lawful =
    record {
      kept = refl;
      slots = refl;
      entries = refl;
      in_section = (refl, tt);
      in_room = (refl, tt);
      aligned = (refl, tt);
      pieces_share_nothing = (tt, tt);
      fillable = (refl, (refl, (refl, tt)));
      empties = (refl, tt);
      end_is_free = (refl, tt);
      sequences = (refl, tt);
      sizes = (refl, (refl, (refl, tt)));
      tables = (refl, (refl, tt));
      no_other_tables = (refl, (refl, (refl, tt)));
      alignments = (refl, (refl, (refl, tt)));
      addresses_share_nothing = ((refl, (refl, tt)), ((refl, tt), (tt, tt)));
      offsets_share_nothing = ((refl, (refl, tt)), ((refl, tt), (tt, tt)));
      distinct = ((refl, (refl, tt)), ((refl, tt), (tt, tt)));
      ordered = refl;
      places = refl;
    }

-- two objects: code, a sequence of functions, a frame table with its terminator, and a comment
pair_is_lawful :
    Lawful
    (link
    (kept 0 1 (codes ".text") X 16 16
    ∷ kept 0 2 (codes ".init_array") W 8 8
    ∷ kept 0 3 (codes ".eh_frame") R 40 8
    ∷ kept 1 1 (codes ".text") X 16 16
    ∷ kept 1 2 (codes ".comment") N 5 1
    ∷ kept 1 3 (codes ".init_array") W 8 8
    ∷ terminator 1 4 4
    ∷ []))
    (full_place
    (link
    (kept 0 1 (codes ".text") X 16 16
    ∷ kept 0 2 (codes ".init_array") W 8 8
    ∷ kept 0 3 (codes ".eh_frame") R 40 8
    ∷ kept 1 1 (codes ".text") X 16 16
    ∷ kept 1 2 (codes ".comment") N 5 1
    ∷ kept 1 3 (codes ".init_array") W 8 8
    ∷ terminator 1 4 4
    ∷ [])))
unfolding full_place extent_of rows_of piece_rows section_keys table_sizes in_order section_rank is_patched room_of step_to patched_room holes_of IsDistinct
pair_is_lawful =
    record {
      kept = refl;
      slots = refl;
      entries = refl;
      in_section = (refl, (refl, (refl, (refl, (refl, (refl, (refl, tt)))))));
      in_room = (refl, (refl, (refl, (refl, (refl, (refl, (refl, tt)))))));
      aligned = (refl, (refl, (refl, (refl, (refl, (refl, (refl, tt)))))));
      pieces_share_nothing = ((refl, (refl, (refl, (refl, (refl, (refl, tt)))))), ((refl, (refl, (refl, (refl, (refl, tt))))), ((refl, (refl, (refl, (refl, tt)))), ((refl, (refl, (refl, tt))), ((refl, (refl, tt)), ((refl, tt), (tt, tt)))))));
      fillable = (refl, (refl, (refl, (refl, (refl, (refl, tt))))));
      empties = (refl, (refl, (refl, (refl, (refl, (refl, (refl, tt)))))));
      end_is_free = (refl, (refl, (refl, (refl, (refl, (refl, (refl, tt)))))));
      sequences = (refl, (refl, (refl, (refl, (refl, (refl, (refl, tt)))))));
      sizes = (refl, (refl, (refl, (refl, (refl, (refl, tt))))));
      tables = (refl, (refl, tt));
      no_other_tables = (refl, (refl, (refl, (refl, (refl, (refl, tt))))));
      alignments = (refl, (refl, (refl, (refl, (refl, (refl, tt))))));
      addresses_share_nothing = ((refl, (refl, (refl, (refl, tt)))), ((refl, (refl, (refl, tt))), ((refl, (refl, tt)), ((refl, tt), (tt, tt)))));
      offsets_share_nothing = ((refl, (refl, (refl, (refl, (refl, tt))))), ((refl, (refl, (refl, (refl, tt)))), ((refl, (refl, (refl, tt))), ((refl, (refl, tt)), ((refl, tt), (tt, tt))))));
      distinct = ((refl, (refl, (refl, (refl, (refl, tt))))), ((refl, (refl, (refl, (refl, tt)))), ((refl, (refl, (refl, tt))), ((refl, (refl, tt)), ((refl, tt), (tt, tt))))));
      ordered = refl;
      places = refl;
    }

-- ---- what is not lawful

-- a link of these pieces with these rows and places
abbrev placing : List SectionRow → List PieceRow → Placement
placing rows pieces = record { sections = rows; pieces = pieces; slots = no_slots }

-- a test does not answer both ways
differ : (b : Bool) → b ≡ false → b ≡ true → ⊥
differ b fails passes = grind (arith)

different : (a b : ℕ) → (a == b) ≡ false → a ≡ b → ⊥
different a b apart same = grind (arith, nat_tests)

-- the address of the second row
abbrev second_address : List SectionRow → ℕ
second_address rows = slice_index (map (λ (r : SectionRow). r.addr) rows) 1

-- two pieces that share their last and first byte
sharing : Lawful (link (kept 0 1 (codes ".text") X 16 1 ∷ kept 1 1 (codes ".text") X 16 1 ∷ [])) (placing (row (codes ".text") X 0x401000 64 64 16 ∷ got_rows 0x402000) (placed 0 1 0 0x401000 16 1 ∷ placed 1 1 0 0x40100f 16 1 ∷ [])) → ⊥
unfolding full_place extent_of rows_of piece_rows section_keys table_sizes in_order section_rank is_patched room_of step_to patched_room holes_of IsDistinct
sharing lawful = differ false refl lawful.pieces_share_nothing.0.0

-- a piece beside its alignment
askew : Lawful (link (kept 0 1 (codes ".text") X 16 16 ∷ [])) (placing (row (codes ".text") X 0x401000 64 64 16 ∷ got_rows 0x402000) (placed 0 1 0 0x401008 16 16 ∷ [])) → ⊥
unfolding full_place extent_of rows_of piece_rows section_keys table_sizes in_order section_rank is_patched room_of step_to patched_room holes_of IsDistinct
askew lawful = differ false refl lawful.aligned.0

-- a hole of 8 bytes in a frame table
small_hole : Lawful (link (kept 0 1 (codes ".eh_frame") R 16 8 ∷ [])) (placing (row (codes ".eh_frame") R 0x401000 64 64 16 ∷ got_rows 0x402000) (placed 0 1 0 0x401008 16 8 ∷ [])) → ⊥
unfolding full_place extent_of rows_of piece_rows section_keys table_sizes in_order section_rank is_patched room_of step_to patched_room holes_of IsDistinct
small_hole lawful = differ false refl lawful.fillable.0

-- a piece over the reserved end
over_the_end : Lawful (link (kept 0 1 (codes ".eh_frame") R 16 8 ∷ [])) (placing (row (codes ".eh_frame") R 0x401000 64 64 16 ∷ got_rows 0x402000) (placed 0 1 0 0x401030 16 8 ∷ [])) → ⊥
unfolding full_place extent_of rows_of piece_rows section_keys table_sizes in_order section_rank is_patched room_of step_to patched_room holes_of IsDistinct
over_the_end lawful = differ false refl lawful.end_is_free.0

-- a sequence with a gap that its alignments do not ask for
loose : Lawful (link (kept 0 1 (codes ".init") X 4 4 ∷ kept 1 1 (codes ".init") X 4 4 ∷ [])) (placing (row (codes ".init") X 0x401000 12 64 16 ∷ got_rows 0x402000) (placed 0 1 0 0x401000 4 4 ∷ placed 1 1 0 0x401008 4 4 ∷ [])) → ⊥
unfolding full_place extent_of rows_of piece_rows section_keys table_sizes in_order section_rank is_patched room_of step_to patched_room holes_of IsDistinct
loose lawful = differ false refl lawful.sequences.1.0

-- a section after the thread-local zeros that leaves their addresses out
after_zeros : Lawful (link (kept 0 1 (codes ".tbss") Tbss 8 8 ∷ kept 0 2 (codes ".ctors") W 8 8 ∷ [])) (placing (row (codes ".tbss") Tbss 0x401000 64 64 16 ∷ row (codes ".ctors") W 0x401040 8 64 16 ∷ got_rows 0x401080) (placed 0 1 0 0x401000 8 8 ∷ placed 0 2 1 0x401040 8 8 ∷ [])) → ⊥
unfolding full_place extent_of rows_of piece_rows section_keys table_sizes in_order section_rank is_patched room_of step_to patched_room holes_of IsDistinct
after_zeros lawful =
    different 0x401000 0x401040 refl (ap second_address lawful.places)

-- a segment that does not begin at its page
off_its_page : Lawful smallest (placing (row (codes ".text") X 0x401000 64 64 16 ∷ got_rows 0x401040) (placed 0 1 0 0x401000 0 1 ∷ [])) → ⊥
unfolding full_place extent_of rows_of piece_rows section_keys table_sizes in_order section_rank is_patched room_of step_to patched_room holes_of IsDistinct
off_its_page lawful =
    different 0x402000 0x401040 refl (ap second_address lawful.places)
