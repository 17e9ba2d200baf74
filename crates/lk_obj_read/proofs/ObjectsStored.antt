-- What an object holds of a piece.
use Rattle.std.specs.Prelude.{◌≡◌, refl, Bool, true, false, ℕ, zero, suc, ◌<◌, ◌==◌, IsTrue, All, List, [], flat_map, if◌then◌else◌, is_some, length, option_to_list, slice_get, Option}
use mathlib.Core.Logic.{⊎_elim}
use Rattle.std.proofs.Common.{ap, get_or, subst, sym, ◌∙◌}
use Rattle.std.proofs.lemmas.List.{append-nil}
use Rattle.std.proofs.lemmas.Option.{slice_get-get_or, slice_get_cases}
use Rattle.lk_elf.specs.Numbers.{sht_nobits}
use Rattle.lk_elf.specs.declared.section_header.Shdr.{Shdr}
use Rattle.lk_model.specs.Checks.{is_some_with}
use Rattle.lk_model.specs.Elf.{bytes_under, elf_of, elf_under, elf_with}
use Rattle.lk_model.specs.Objects.{is_piece_in, key_in, piece_bytes_in, summary_in}
use Rattle.lk_model.specs.Views.{Elf}
use Rattle.lk_model.specs.declared.summaries.InputSummary.{InputSummary}
use Rattle.lk_model.specs.declared.summaries.PieceInfo.{PieceInfo}
use Rattle.lk_obj_read.specs.PieceParts.{stored_bytes}
use Rattle.lk_obj_read.proofs.PiecesListed.{listed}

there : (test : Shdr → Bool) (hs : List Shdr) (n : ℕ) → IsTrue (is_some_with test (slice_get hs n)) → n < length hs
there test hs n e = ⊎_elim (λ p. p.1) (λ p. not_there (subst (λ (o : Option Shdr). IsTrue (is_some_with test o)) p.1 e)) (slice_get_cases hs n).1
  where
    not_there : false ≡ true → n < length hs
    not_there e = cc

-- a piece is one of the sections
pub is_there : (elf : Elf) (n : ℕ) → IsTrue (is_piece_in elf n) → n < length elf.sections
is_there elf zero e = cc
is_there elf (suc n) e = there (λ (header : Shdr). is_some (key_in elf (suc n) header)) elf.sections (suc n) e

-- its bytes are those that its header names
bytes_reported : (elf : Elf) (n : ℕ) (d : Shdr) → IsTrue (is_piece_in elf n) → piece_bytes_in elf n ≡ stored_bytes elf.bytes (get_or elf.sections n d)
unfolding piece_bytes_in
bytes_reported elf zero d e = cc
bytes_reported elf (suc n) d e =
    ap (λ (o : Option Shdr). flat_map (λ (header : Shdr). if header.sh_type == sht_nobits then [] else bytes_under elf header) (option_to_list o))
    (slice_get-get_or elf.sections (suc n) d (is_there elf (suc n) e))
    ∙ append-nil (stored_bytes elf.bytes (get_or elf.sections (suc n) d))

pub bytes_of : (bytes : List ℕ) → (elf_of bytes).bytes ≡ bytes
unfolding elf_of elf_under elf_with
bytes_of bytes = refl

pub stored_reported : (bytes : List ℕ) (n : ℕ) (headers : List Shdr) (h : Shdr) → IsTrue (is_piece_in (elf_of bytes) n) → headers ≡ (elf_of bytes).sections → h ≡ get_or headers n h → piece_bytes_in (elf_of bytes) n ≡ stored_bytes bytes h
stored_reported bytes n headers h piece e is =
    bytes_reported (elf_of bytes) n h piece
    ∙ ap (λ b. stored_bytes b (get_or (elf_of bytes).sections n h)) (bytes_of bytes)
    ∙ ap (λ (hs : List Shdr). stored_bytes bytes (get_or hs n h)) (sym e)
    ∙ ap (λ x. stored_bytes bytes x) (sym is)

-- ---- the pieces of its summary

pub pieces_reported : (bytes : List ℕ) (summary : InputSummary) → summary ≡ summary_in (elf_of bytes) → All (λ (piece : PieceInfo). IsTrue (is_piece_in (elf_of bytes) piece.section)) summary.pieces
unfolding summary_in
pieces_reported bytes summary e = subst (λ (s : InputSummary). All (λ (piece : PieceInfo). IsTrue (is_piece_in (elf_of bytes) piece.section)) s.pieces) (sym e) (listed (elf_of bytes))
