-- A section whose type and flags rule a piece out is none, whatever its name is.
use Rattle.std.specs.Prelude.{◌≡◌, refl, ℕ, Bool, true, false, not, ◌&&◌, ◌||◌, cond, ◌==◌, bytes_eq, codes, List, None}
use Rattle.std.specs.Bool.{then_some}
use Rattle.std.proofs.Common.{ap}
use Rattle.lk_elf.specs.Numbers.{sht_progbits, shf_alloc}
use Rattle.lk_model.specs.Amounts.{has_flag}
use Rattle.lk_model.specs.Pieces.{class_of, is_piece, is_reading_type, key_of, output_name}
use Rattle.lk_outsec.specs.PieceTypes.{may_be_piece}

ruled-out : (read alloc code x y : Bool) → (not read && (alloc || code)) ≡ false → (not read && cond alloc x (code && y)) ≡ false
ruled-out true alloc code x y e = refl
ruled-out false true code x y e = cc
ruled-out false false true x y e = cc
ruled-out false false false x y e = refl

pub no_piece : (name : List ℕ) (code flags : ℕ) → may_be_piece code flags ≡ false → is_piece name code flags ≡ false
unfolding is_piece
no_piece name code flags e =
    ruled-out (is_reading_type code) (has_flag flags shf_alloc) (code == sht_progbits) (not (bytes_eq name (codes ".note.gnu.property"))) (not (bytes_eq name (codes ".note.GNU-stack"))) e

pub no_key : (name : List ℕ) (code flags : ℕ) → may_be_piece code flags ≡ false → key_of name code flags ≡ None
unfolding key_of
no_key name code flags e =
    ap (λ b. then_some b (record { name = output_name (class_of code flags) name; class = class_of code flags })) (no_piece name code flags e)
