-- Entries of relocations by number, and those of several sections one after another.
use Rattle.std.specs.Prelude.{◌≡◌, refl, ℕ, zero, suc, ◌+◌, ◌*◌, ◌-◌, ◌<◌, ◌≤◌, List, [], ◌∷◌, ◌++◌, drop, length, map, take}
use Rattle.std.specs.List.{range_with_len}
use Rattle.std.proofs.Common.{ap, arith, get_or, sym, ◌∙◌}
use Rattle.std.proofs.lemmas.List.{drop-append-le, drop-drop, drop-take, drop_at, length-append, length-drop, length-take-le, take-append-le, take-take}
use Rattle.std.proofs.lemmas.List.FromFn.{get_or-map-range_with_len, length-map-range_with_len}
use Rattle.lk_elf.specs.Fields.{num, number_of, signed64}
use Rattle.lk_elf.specs.Records.{rela_at}
use Rattle.lk_elf.specs.declared.relocation.Rela.{Rela}
use Rattle.lk_obj_read.specs.declared.rela_lists.Entries.{Entries}
use Rattle.lk_obj_read.specs.declared.rela_lists.Entries.TheVariants.{InFile, Joined}
use Rattle.lk_obj_read.specs.RelaLists.{AreThere, count_of, entries_of, packed, relas_at}

-- ---- by number

pub counted : (entries : Entries) → length (entries_of entries) ≡ count_of entries
counted (InFile file start count) = length-map-range_with_len (λ k. rela_at file (start + 24 * k)) 0 count
counted (Joined bytes count) = length-map-range_with_len (λ k. rela_at bytes.items (0 + 24 * k)) 0 count

pub in_file : (bytes : List ℕ) (start count k : ℕ) (d : Rela) → k < count → get_or (relas_at bytes start count) k d ≡ rela_at bytes (start + 24 * k)
in_file bytes start count k d l = get_or-map-range_with_len (λ i. rela_at bytes (start + 24 * i)) 0 count k k d l (omega arith)

-- ---- an entry is its 24 bytes

within : (o w n : ℕ) (xs : List ℕ) → o + w ≤ n → take w (drop o (take n xs)) ≡ take w (drop o xs)
within o w n xs l =
    let e : o + (n - o) ≡ n = omega (arith, l) in
    ap (λ m. take w (drop o (take m xs))) (sym e) ∙ ap (take w) (drop-take o (n - o) xs) ∙ take-take w (n - o) (drop o xs) (omega (arith, l))

field : (xs ys : List ℕ) (i j o w : ℕ) → o + w ≤ 24 → take 24 (drop i xs) ≡ take 24 (drop j ys) → num xs (i + o) w ≡ num ys (j + o) w
unfolding num
field xs ys i j o w l e =
    ap (λ b. number_of (take w b)) (sym (drop-drop o i xs))
    ∙ ap number_of (sym (within o w 24 (drop i xs) l) ∙ ap (λ b. take w (drop o b)) e ∙ within o w 24 (drop j ys) l)
    ∙ ap (λ b. number_of (take w b)) (drop-drop o j ys)

abbrev of_fields : ℕ → ℕ → ℕ → Rela
of_fields offset info addend = record { r_offset = offset; r_info = info; r_addend = signed64 addend }

first : (xs ys : List ℕ) (i j : ℕ) → take 24 (drop i xs) ≡ take 24 (drop j ys) → num xs i 8 ≡ num ys j 8
first xs ys i j e =
    let a : i ≡ i + 0 = omega arith in
    let b : j + 0 ≡ j = omega arith in
    ap (λ at. num xs at 8) a ∙ field xs ys i j 0 8 (omega arith) e ∙ ap (λ at. num ys at 8) b

same_entry : (xs ys : List ℕ) (i j : ℕ) → take 24 (drop i xs) ≡ take 24 (drop j ys) → rela_at xs i ≡ rela_at ys j
unfolding rela_at
same_entry xs ys i j e =
    ap (λ n. of_fields n (num xs (i + 8) 8) (num xs (i + 16) 8)) (first xs ys i j e)
    ∙ ap (λ n. of_fields (num ys j 8) n (num xs (i + 16) 8)) (field xs ys i j 8 8 (omega arith) e)
    ∙ ap (λ n. of_fields (num ys j 8) (num ys (j + 8) 8) n) (field xs ys i j 16 8 (omega arith) e)

-- ---- entries side by side

shifted : (f g : ℕ → Rela) (a b n : ℕ) → ((k : ℕ) → k < n → f (a + k) ≡ g (b + k)) → map f (range_with_len a n) ≡ map g (range_with_len b n)
shifted f g a b zero h = refl
shifted f g a b (suc n) h =
    let fa : a ≡ a + 0 = omega arith in
    let gb : b + 0 ≡ b = omega arith in
    let here : f a ≡ g b = ap f fa ∙ h 0 (omega arith) ∙ ap g gb in
    ap (λ (r : Rela). r ∷ map f (range_with_len (a + 1) n)) here
    ∙ ap (λ (rs : List Rela). g b ∷ rs) (shifted f g (a + 1) (b + 1) n (λ k l. later k l))
  where
    later : (k : ℕ) → k < n → f (a + 1 + k) ≡ g (b + 1 + k)
    later k l =
        let fk : a + 1 + k ≡ a + suc k = omega arith in
        let gk : b + suc k ≡ b + 1 + k = omega arith in
        ap f fk ∙ h (suc k) (omega (arith, l)) ∙ ap g gk

divided : (f : ℕ → Rela) (a c d : ℕ) → map f (range_with_len a (c + d)) ≡ map f (range_with_len a c) ++ map f (range_with_len (a + c) d)
divided f a zero d =
    let n : 0 + d ≡ d = omega arith in
    let b : a ≡ a + 0 = omega arith in
    ap (λ m. map f (range_with_len a m)) n ∙ ap (λ m. map f (range_with_len m d)) b
divided f a (suc c) d =
    let n : suc c + d ≡ suc (c + d) = omega arith in
    let b : a + 1 + c ≡ a + suc c = omega arith in
    ap (λ m. map f (range_with_len a m)) n
    ∙ ap (λ (rs : List Rela). f a ∷ rs) (divided f (a + 1) c d)
    ∙ ap (λ m. f a ∷ map f (range_with_len (a + 1) c) ++ map f (range_with_len m d)) b

same_entries : (xs ys : List ℕ) (i j a b n : ℕ) → ((k : ℕ) → k < n → take 24 (drop (i + 24 * (a + k)) xs) ≡ take 24 (drop (j + 24 * (b + k)) ys)) → map (λ k. rela_at xs (i + 24 * k)) (range_with_len a n) ≡ map (λ k. rela_at ys (j + 24 * k)) (range_with_len b n)
same_entries xs ys i j a b n h =
    shifted (λ k. rela_at xs (i + 24 * k)) (λ k. rela_at ys (j + 24 * k)) a b n (λ k l. same_entry xs ys (i + 24 * (a + k)) (j + 24 * (b + k)) (h k l))

before : (xs ys : List ℕ) (m n : ℕ) → m ≡ n → n + 24 ≤ length xs → take 24 (drop m (xs ++ ys)) ≡ take 24 (drop n xs)
before xs ys m n e l =
    ap (λ at. take 24 (drop at (xs ++ ys))) e
    ∙ ap (take 24) (drop-append-le n xs ys (omega (arith, l)))
    ∙ take-append-le 24 (drop n xs) ys (omega (arith, l, length-drop n xs))

behind : (xs ys : List ℕ) (m n : ℕ) → m ≡ length xs + n → take 24 (drop m (xs ++ ys)) ≡ take 24 (drop n ys)
behind xs ys m n e =
    ap (λ at. take 24 (drop at (xs ++ ys))) e
    ∙ ap (take 24) (sym (drop-drop n (length xs) (xs ++ ys)))
    ∙ ap (λ b. take 24 (drop n b)) (drop_at xs ys (length xs) refl)

appended : (xs ys : List ℕ) (c d : ℕ) → length xs ≡ 24 * c → relas_at (xs ++ ys) 0 (c + d) ≡ relas_at xs 0 c ++ relas_at ys 0 d
appended xs ys c d e =
    divided (λ k. rela_at (xs ++ ys) (0 + 24 * k)) 0 c d
    ∙ ap (λ (rs : List Rela). rs ++ map (λ k. rela_at (xs ++ ys) (0 + 24 * k)) (range_with_len (0 + c) d))
    (same_entries (xs ++ ys) xs 0 0 0 0 c (λ k l. before xs ys (0 + 24 * (0 + k)) (0 + 24 * (0 + k)) refl (omega (arith, e, l))))
    ∙ ap (λ (rs : List Rela). relas_at xs 0 c ++ rs)
    (same_entries (xs ++ ys) ys 0 0 (0 + c) 0 d (λ k l. behind xs ys (0 + 24 * (0 + c + k)) (0 + 24 * (0 + k)) (omega (arith, e))))

-- ---- entries by their own bytes

cut : (file : List ℕ) (start count k : ℕ) → k < count → take 24 (drop (0 + 24 * (0 + k)) (take (24 * count) (drop start file))) ≡ take 24 (drop (start + 24 * (0 + k)) file)
cut file start count k l =
    let m : 0 + 24 * (0 + k) ≡ 24 * k = omega arith in
    let n : start + 24 * k ≡ start + 24 * (0 + k) = omega arith in
    ap (λ at. take 24 (drop at (take (24 * count) (drop start file)))) m
    ∙ within (24 * k) 24 (24 * count) (drop start file) (omega (arith, l))
    ∙ ap (take 24) (drop-drop (24 * k) start file)
    ∙ ap (λ at. take 24 (drop at file)) n

alone : (entries : Entries) → relas_at (packed entries) 0 (count_of entries) ≡ entries_of entries
alone (InFile file start count) =
    same_entries (take (24 * count) (drop start file)) file 0 start 0 0 count (λ k l. cut file start count k l)
alone (Joined bytes count) = refl

packed_length : (entries : Entries) → AreThere entries → length (packed entries) ≡ 24 * count_of entries
packed_length (InFile file start count) there = length-take-le (24 * count) (drop start file) (omega (arith, there, length-drop start file))
packed_length (Joined bytes count) there = there

-- entries with those of a file behind them
pub joined : (entries : Entries) (file : List ℕ) (start count : ℕ) → AreThere entries → start + 24 * count ≤ length file → relas_at (packed entries ++ take (24 * count) (drop start file)) 0 (count_of entries + count) ≡ entries_of entries ++ relas_at file start count
joined entries file start count there inside =
    appended (packed entries) (take (24 * count) (drop start file)) (count_of entries) count (packed_length entries there)
    ∙ ap (λ (rs : List Rela). rs ++ relas_at (take (24 * count) (drop start file)) 0 count) (alone entries)
    ∙ ap (λ (rs : List Rela). entries_of entries ++ rs) (alone (InFile file start count))

pub joined_there : (entries : Entries) (file : List ℕ) (start count : ℕ) → AreThere entries → start + 24 * count ≤ length file → length (packed entries ++ take (24 * count) (drop start file)) ≡ 24 * (count_of entries + count)
joined_there entries file start count there inside =
    length-append (packed entries) (take (24 * count) (drop start file))
    ∙ omega (arith, packed_length entries there, packed_length (InFile file start count) inside)
