-- Each piece that a summary lists is a piece of the file.
use Rattle.std.specs.Prelude.{◌≡◌, refl, ℕ, zero, suc, ◌+◌, IsTrue, List, [], ◌∷◌, All, drop, filter_map, is_some, slice_get, Option, Some, None, option_and_then, option_map}
use Rattle.std.specs.List.{cons_option, enumerate_from}
use Rattle.std.proofs.Common.{add-one, ap, rules, subst, sym, ◌∙◌}
use Rattle.std.proofs.lemmas.List.Elements.{All-cons}
use Rattle.lk_elf.specs.declared.section_header.Shdr.{Shdr}
use Rattle.lk_model.specs.declared.layouts.SectionKey.{SectionKey}
use Rattle.lk_model.specs.declared.summaries.PieceInfo.{PieceInfo}
use Rattle.lk_model.specs.Checks.{is_some_with}
use Rattle.lk_model.specs.Elf.{section_at, section_name}
use Rattle.lk_model.specs.Objects.{is_piece_in, is_terminator, key_in, piece_named, piece_with, pieces_in}
use Rattle.lk_model.specs.Pieces.{key_of}
use Rattle.lk_model.specs.Views.{Elf}

-- ---- the sections of a list from one on

head_of : {X : Type 0} (xs : List X) (k : ℕ) (x : X) (rest : List X) → drop k xs ≡ x ∷ rest → slice_get xs k ≡ Some x
head_of [] zero x rest e = cc
head_of [] (suc k) x rest e = cc
head_of (y ∷ ys) zero x rest e = cc
head_of (y ∷ ys) (suc k) x rest e = head_of ys k x rest e

tail_of : {X : Type 0} (xs : List X) (k : ℕ) (x : X) (rest : List X) → drop k xs ≡ x ∷ rest → drop (suc k) xs ≡ rest
tail_of [] zero x rest e = cc
tail_of [] (suc k) x rest e = cc
tail_of (y ∷ ys) zero x rest e = cc
tail_of (y ∷ ys) (suc k) x rest e = tail_of ys k x rest e

-- ---- a section as a piece

module _ (elf : Elf) where
  abbrev IsPiece : PieceInfo → Type 0
  IsPiece piece = IsTrue (is_piece_in elf piece.section)

  with_key : (k : ℕ) (header : Shdr) (name : List ℕ) (key : Option SectionKey) (rest : List PieceInfo) → section_at elf k ≡ Some header → section_name elf k ≡ Some name → key_of name header.sh_type header.sh_flags ≡ key → All IsPiece rest → All IsPiece (cons_option (option_map (λ (x : SectionKey). piece_with k header name (is_terminator elf k x) x) key) rest)
  unfolding piece_with
  with_key k header name None rest at named e after = after
  with_key k header name (Some key) rest at named e after =
      All-cons IsPiece (piece_with k header name (is_terminator elf k key) key) rest
      (ap (is_some_with (λ (x : Shdr). is_some (key_in elf k x))) at
      ∙ ap (λ (o : Option (List ℕ)). is_some (option_and_then (λ (n : List ℕ). key_of n header.sh_type header.sh_flags) o)) named
      ∙ ap (λ (o : Option SectionKey). is_some o) e)
      after

  with_name : (k : ℕ) (header : Shdr) (name : Option (List ℕ)) (rest : List PieceInfo) → section_at elf k ≡ Some header → section_name elf k ≡ name → All IsPiece rest → All IsPiece (cons_option (option_and_then (piece_named elf k header) name) rest)
  unfolding piece_named
  with_name k header None rest at named after = after
  with_name k header (Some name) rest at named after = with_key k header name (key_of name header.sh_type header.sh_flags) rest at named refl after

  each : (k : ℕ) (headers : List Shdr) → drop (suc k) elf.sections ≡ headers → All IsPiece (filter_map (λ (row : ℕ × Shdr). option_and_then (piece_named elf row.0 row.1) (section_name elf row.0)) (enumerate_from (suc k) headers))
  each k [] e = search rules
  each k (header ∷ headers) e =
      with_name (suc k) header (section_name elf (suc k)) (filter_map (λ (row : ℕ × Shdr). option_and_then (piece_named elf row.0 row.1) (section_name elf row.0)) (enumerate_from (suc k + 1) headers))
      (head_of elf.sections (suc k) header headers e) refl
      (subst (λ n. All IsPiece (filter_map (λ (row : ℕ × Shdr). option_and_then (piece_named elf row.0 row.1) (section_name elf row.0)) (enumerate_from n headers))) (sym (add-one (suc k)))
      (each (suc k) headers (tail_of elf.sections (suc k) header headers e)))

  pub listed : All IsPiece (pieces_in elf)
  unfolding pieces_in
  listed = each 0 (drop 1 elf.sections) refl
