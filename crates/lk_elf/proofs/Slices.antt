-- What a read or a write of one field over the rest of a slice does to the whole of it.
use Rattle.std.proofs.Common.{◌≡◌, ℕ, suc, ◌+◌, ◌-◌, ◌%◌, ◌≤◌, ◌<◌, get_or, set, List, [], ◌∷◌, ◌++◌, length, take, drop, sym, ap, ◌∙◌, arith, append_assoc}
use Rattle.std.proofs.Math.Nat.{mod-eq_of_lt}
use Rattle.std.proofs.Math.Seq.{drop-cons}
use Rattle.std.proofs.lemmas.List.{append-nil, drop-drop, drop-set, take-set, take-append-drop, drop_all, length-drop, take_all}
use Rattle.std.specs.Int.{bytes_low_first}
use Rattle.byteorder.specs.Endian.{little_from}
use borrow.Rule.Slice.PartMut.{put_mid}
use Rattle.lk_elf.specs.Fields.{bytes_of, num, number_of}
use Rattle.lk_elf.proofs.Widths.{little_bytes-bytes_of, little_from-number_of}

-- the rest of a slice from a place, cut as a range
rest_all : (at : ℕ) (bytes : List ℕ) → take (length bytes - at) (drop at bytes) ≡ drop at bytes
rest_all at bytes = let e = length-drop at bytes in take_all (length bytes - at) (drop at bytes) (omega arith)

-- a number read at the start of the rest of a slice
pub read_num : (w at : ℕ) (bytes : List ℕ) → at + w ≤ length bytes
    → little_from 0 w (take (length bytes - at) (drop at bytes)) ≡ num bytes at w
unfolding num
read_num w at bytes room =
    let e = length-drop at bytes in
    ap (little_from 0 w) (rest_all at bytes) ∙ little_from-number_of w (drop at bytes) (omega arith)

-- bytes written at the start of the rest of a slice
pub put_start : (w at : ℕ) (bytes field part : List ℕ) → at ≤ length bytes
    → part ≡ field ++ drop w (take (length bytes - at) (drop at bytes))
    → put_mid at (length bytes - at) bytes part ≡ take at bytes ++ field ++ drop (at + w) bytes
put_start w at bytes field part room is =
    let e = length-drop at bytes in
    let none : drop (length bytes - at) (drop at bytes) ≡ [] = drop_all (length bytes - at) (drop at bytes) (omega arith) in
    let back : drop w (take (length bytes - at) (drop at bytes)) ≡ drop (at + w) bytes = ap (drop w) (rest_all at bytes) ∙ drop-drop w at bytes in
    rw (is, none, append-nil, back) (sym (append_assoc (take at bytes) field (drop (at + w) bytes)))

-- a number written at the start of the rest of a slice
pub put_num : (w n at : ℕ) (bytes part : List ℕ) → at ≤ length bytes
    → part ≡ bytes_low_first 0 w n ++ drop w (take (length bytes - at) (drop at bytes))
    → put_mid at (length bytes - at) bytes part ≡ take at bytes ++ bytes_of w n ++ drop (at + w) bytes
put_num w n at bytes part room is =
    put_start w at bytes (bytes_of w n) part room (is ∙ ap (λ (field : List ℕ). field ++ drop w (take (length bytes - at) (drop at bytes))) (little_bytes-bytes_of w n))

-- one byte read
pub read_byte : (at : ℕ) (bytes : List ℕ) → at + 1 ≤ length bytes → get_or bytes at 0 ≡ num bytes at 1
unfolding num number_of
read_byte at bytes room =
    let e : drop at bytes ≡ get_or bytes at 0 ∷ drop (suc at) bytes = drop-cons bytes at 0 (omega arith) in
    rw e (omega arith)

-- one byte written
pub put_byte : (n at : ℕ) (bytes : List ℕ) → n < 256 → at + 1 ≤ length bytes
    → set bytes at n ≡ take at bytes ++ bytes_of 1 n ++ drop (at + 1) bytes
unfolding bytes_of
put_byte n at bytes fits room =
    let byte : n % 256 ≡ n = mod-eq_of_lt fits in
    rw byte (sym (take-append-drop at (set bytes at n)) ∙ rw (take-set bytes at n, drop-set bytes at n (omega arith)) (sym (append_assoc (take at bytes) (n ∷ []) (drop (at + 1) bytes))))
