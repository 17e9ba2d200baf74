-- The refusals of program headers, row by row, are those of the image.
use Rattle.std.specs.Prelude.{◌≡◌, refl, ℕ, zero, suc, ◌+◌, ◌-◌, ◌*◌, ◌==◌, ◌&&◌, ◌||◌, ◌<◌, ◌≤◌, Bool, true, false, nat_lt, nat_le, List, [], ◌∷◌, ◌++◌, cond, filter, flat_map, length, map, take, Option, Some, None, option_map, if◌then◌else◌}
use Rattle.std.specs.List.{enumerate_from, list_any, range_with_len}
use Rattle.std.proofs.Common.{ap, ◌∙◌, sym, subst, arith}
use Rattle.std.proofs.lemmas.Bool.Decides.{nat_tests}
use Rattle.std.proofs.lemmas.List.{append_assoc, length_push, take_at}
use Rattle.std.proofs.lemmas.List.FromFn.{length-map-range_with_len}
use Rattle.lk_elf.specs.Records.{ehdr_at}
use Rattle.lk_elf.specs.declared.file_header.Ehdr.{Ehdr}
use Rattle.lk_elf.specs.declared.program_header.Phdr.{Phdr}
use Rattle.lk_model.specs.Checks.{first_fault}
use Rattle.lk_model.specs.Elf.{lies_in}
use Rattle.lk_model.specs.Loading.{headers_in}
use Rattle.lk_model.specs.Loads.{LoadRefusal, header_refusals, numbered_loads, overlap_refusals, reaches_into}
use Rattle.lk_model.proofs.Checks.{first_fault-after, first_fault-before}
use Rattle.lk_loader.specs.HeaderRows.{end_with, header_at, headers_refusal, overlap_from, row_refusals, rows_from, rows_refusal}
use Rattle.lk_loader.specs.Runs.{is_load}

-- ---- one header

-- where the bytes of a header end
pub same_end : (image : List ℕ) (table n : ℕ) → lies_in image (table + 56 * n) 56 ≡ lies_in image table (56 * (n + 1))
same_end image table n = let e : table + 56 * n + 56 ≡ table + 56 * (n + 1) = omega arith in ap (λ k. nat_le k (length image)) e

-- ---- header after header

rows_next : (image : List ℕ) (table k m : ℕ) → k < m → rows_from image table k (m - k) ≡ (k, header_at image table k) ∷ rows_from image table (k + 1) (m - (k + 1))
rows_next image table k m l = let e : m - k ≡ suc (m - (k + 1)) = omega arith in ap (rows_from image table k) e

pub row_refused :
    (image : List ℕ) (table k m : ℕ) (refusal : LoadRefusal)
    → k < m
    → first_fault (row_refusals image table (k, header_at image table k)) ≡ Some refusal
    → rows_refusal image table k (m - k) ≡ Some refusal
row_refused image table k m refusal l e =
    ap (λ rows. first_fault (flat_map (row_refusals image table) rows)) (rows_next image table k m l)
    ∙ first_fault-before (row_refusals image table (k, header_at image table k)) (flat_map (row_refusals image table) (rows_from image table (k + 1) (m - (k + 1)))) refusal e

pub row_passes :
    (image : List ℕ) (table k m : ℕ)
    → k < m
    → first_fault (row_refusals image table (k, header_at image table k)) ≡ None
    → rows_refusal image table k (m - k) ≡ rows_refusal image table (k + 1) (m - (k + 1))
row_passes image table k m l e =
    ap (λ rows. first_fault (flat_map (row_refusals image table) rows)) (rows_next image table k m l)
    ∙ first_fault-after (row_refusals image table (k, header_at image table k)) (flat_map (row_refusals image table) (rows_from image table (k + 1) (m - (k + 1)))) e

pub rows_done : (image : List ℕ) (table k m : ℕ) → m ≤ k → rows_refusal image table k (m - k) ≡ None
rows_done image table k m l = let e : m - k ≡ 0 = omega arith in ap (rows_refusal image table k) e

-- ---- all headers of an image

numbered : (image : List ℕ) (table k m : ℕ) → enumerate_from k (map (header_at image table) (range_with_len k m)) ≡ rows_from image table k m
numbered image table k zero = refl
numbered image table k (suc m) = ap (λ (rest : List (ℕ × Phdr)). (k, header_at image table k) ∷ rest) (numbered image table (k + 1) m)

-- the headers of an image by its file header
pub headers_are : (image : List ℕ) (h : Ehdr) → h ≡ ehdr_at image 0 → map (header_at image h.e_phoff) (range_with_len 0 h.e_phnum) ≡ headers_in image
unfolding headers_in ehdr_at
headers_are image h e = ap (λ (x : Ehdr). map (header_at image x.e_phoff) (range_with_len 0 x.e_phnum)) e

rows_of_image : (image : List ℕ) (h : Ehdr) → h ≡ ehdr_at image 0 → rows_refusal image h.e_phoff 0 h.e_phnum ≡ first_fault (flat_map (header_refusals image) (enumerate_from 0 (headers_in image)))
unfolding row_refusals
rows_of_image image h e =
    ap (λ rows. first_fault (flat_map (row_refusals image h.e_phoff) rows)) (sym (numbered image h.e_phoff 0 h.e_phnum))
    ∙ ap (λ hs. first_fault (flat_map (row_refusals image h.e_phoff) (enumerate_from 0 hs))) (headers_are image h e)
    ∙ ap (λ (x : Ehdr). first_fault (flat_map (row_refusals image x.e_phoff) (enumerate_from 0 (headers_in image)))) e

-- ---- overlaps

-- a LOAD among the first n that ends above an address
abbrev ends_above : ℕ → Phdr → Bool
ends_above v h = is_load h && nat_lt v (h.p_vaddr + h.p_memsz)

below_one : (t : Bool) (k : ℕ) (h : Phdr) (v n : ℕ) (rest : List (ℕ × Phdr)) (others : Bool) → is_load h ≡ t
    → list_any (λ (e : ℕ × Phdr). nat_lt e.0 (k + 1 + n) && nat_lt v (e.1.p_vaddr + e.1.p_memsz)) rest ≡ others
    → list_any (λ (e : ℕ × Phdr). nat_lt e.0 (k + 1 + n) && nat_lt v (e.1.p_vaddr + e.1.p_memsz)) (cond t ((k, h) ∷ rest) rest) ≡ ((t && nat_lt v (h.p_vaddr + h.p_memsz)) || others)
below_one false k h v n rest others is e = e
below_one true k h v n rest others is e =
    let low : nat_lt k (k + 1 + n) ≡ true = grind (arith, nat_tests) in
    rw (low, e) refl

none_below : (k : ℕ) (v m : ℕ) (hs : List Phdr) → m ≤ k → list_any (λ (e : ℕ × Phdr). nat_lt e.0 m && nat_lt v (e.1.p_vaddr + e.1.p_memsz)) (filter (λ (row : ℕ × Phdr). row.1.p_type == 1) (enumerate_from k hs)) ≡ false
none_below k v m [] l = refl
none_below k v m (h ∷ hs) l = go (is_load h) refl (none_below (k + 1) v m hs (omega (arith, l)))
  where
    go :
        (t : Bool)
        → is_load h ≡ t
        → list_any (λ (e : ℕ × Phdr). nat_lt e.0 m && nat_lt v (e.1.p_vaddr + e.1.p_memsz)) (filter (λ (row : ℕ × Phdr). row.1.p_type == 1) (enumerate_from (k + 1) hs)) ≡ false
        → list_any (λ (e : ℕ × Phdr). nat_lt e.0 m && nat_lt v (e.1.p_vaddr + e.1.p_memsz)) (filter (λ (row : ℕ × Phdr). row.1.p_type == 1) (enumerate_from k (h ∷ hs))) ≡ false
    go false e rest = rw e rest
    go true e rest =
        let high : nat_lt k m ≡ false = grind (arith, nat_tests) in
        rw (e, high) rest

-- the LOADs with a number below k + n are those among the first n
below_are_first : (k n v : ℕ) (hs : List Phdr) → list_any (λ (e : ℕ × Phdr). nat_lt e.0 (k + n) && nat_lt v (e.1.p_vaddr + e.1.p_memsz)) (filter (λ (row : ℕ × Phdr). row.1.p_type == 1) (enumerate_from k hs)) ≡ list_any (ends_above v) (take n hs)
below_are_first k zero v hs = none_below k v (k + zero) hs (omega arith)
below_are_first k (suc n) v [] = refl
below_are_first k (suc n) v (h ∷ hs) =
    let same : k + suc n ≡ k + 1 + n = omega arith in
    subst
    (λ (m : ℕ). list_any (λ (e : ℕ × Phdr). nat_lt e.0 m && nat_lt v (e.1.p_vaddr + e.1.p_memsz)) (filter (λ (row : ℕ × Phdr). row.1.p_type == 1) (enumerate_from k (h ∷ hs))) ≡ list_any (ends_above v) (take (suc n) (h ∷ hs)))
    (sym same)
    (below_one (is_load h) k h v n (filter (λ (row : ℕ × Phdr). row.1.p_type == 1) (enumerate_from (k + 1) hs)) (list_any (ends_above v) (take n hs)) refl (below_are_first (k + 1) n v hs))

any_joined : {X : Type 0} (p : X → Bool) (xs : List X) (x : X) → list_any p (xs ++ x ∷ []) ≡ (list_any p xs || p x)
any_joined p [] x = go (p x)
  where
    go : (b : Bool) → (b || false) ≡ b
    go true = refl
    go false = refl
any_joined {X} p (y ∷ ys) x = go (p y) (any_joined p ys x)
  where
    go : (b : Bool) → list_any p (ys ++ x ∷ []) ≡ (list_any p ys || p x) → (b || list_any p (ys ++ x ∷ [])) ≡ ((b || list_any p ys) || p x)
    go true rest = refl
    go false rest = rest

-- the LOADs before a place end at most here, and the greatest end is this one
abbrev Ends : List Phdr → ℕ → Type 0
Ends done end = (v : ℕ) → list_any (ends_above v) done ≡ nat_lt v end

ends_with : (done : List Phdr) (h : Phdr) (end : ℕ) → Ends done end → (is_load h && nat_lt h.p_vaddr end) ≡ false → Ends (done ++ h ∷ []) (end_with end h)
ends_with done h end ends clear v = any_joined (ends_above v) done h ∙ (ap (λ b. b || ends_above v h) (ends v) ∙ go (is_load h) refl)
  where
    go : (t : Bool) → is_load h ≡ t → (nat_lt v end || ends_above v h) ≡ nat_lt v (end_with end h)
    go false e = rw e (or_false (nat_lt v end))
      where
        or_false : (b : Bool) → (b || false) ≡ b
        or_false true = refl
        or_false false = refl
    go true e =
        let above : nat_lt h.p_vaddr end ≡ false = rw e at clear in
        rw e (grind (arith, nat_tests))

-- the checks of each LOAD against those before it
abbrev against : List Phdr → ℕ × Phdr → Bool × LoadRefusal
against hs row = (list_any (reaches_into row) (numbered_loads hs), LoadRefusal.Overlap row.0)

reached : (hs : List Phdr) (n : ℕ) (h : Phdr) → list_any (reaches_into (n, h)) (numbered_loads hs) ≡ list_any (ends_above h.p_vaddr) (take n hs)
reached hs n h =
    let same : n ≡ 0 + n = omega arith in
    subst
    (λ (m : ℕ). list_any (λ (e : ℕ × Phdr). nat_lt e.0 m && nat_lt h.p_vaddr (e.1.p_vaddr + e.1.p_memsz)) (filter (λ (row : ℕ × Phdr). row.1.p_type == 1) (enumerate_from 0 hs)) ≡ list_any (ends_above h.p_vaddr) (take n hs))
    (sym same)
    (below_are_first 0 n h.p_vaddr hs)

next_or_here :
    (load below : Bool) (hs : List Phdr) (n : ℕ) (h : Phdr) (rest : Option ℕ) (rows : List (ℕ × Phdr))
    → list_any (reaches_into (n, h)) (numbered_loads hs) ≡ below
    → ((load && below) ≡ false → option_map LoadRefusal.Overlap rest ≡ first_fault (map (against hs) rows))
    → option_map LoadRefusal.Overlap (if load && below then Some n else rest) ≡ first_fault (map (against hs) (cond load ((n, h) ∷ rows) rows))
next_or_here false below hs n h rest rows hit next = next refl
next_or_here true true hs n h rest rows hit next = rw hit refl
next_or_here true false hs n h rest rows hit next = rw hit (next refl)

walk : (done rest : List Phdr) (end : ℕ) → Ends done end → option_map LoadRefusal.Overlap (overlap_from end (length done) rest) ≡ first_fault (map (against (done ++ rest)) (filter (λ (row : ℕ × Phdr). row.1.p_type == 1) (enumerate_from (length done) rest)))
walk done [] end ends = refl
walk done (h ∷ rest) end ends =
    let hs : List Phdr = done ++ h ∷ rest in
    let hit : list_any (reaches_into (length done, h)) (numbered_loads hs) ≡ nat_lt h.p_vaddr end =
    reached hs (length done) h ∙ (ap (list_any (ends_above h.p_vaddr)) (take_at done (h ∷ rest) (length done) refl) ∙ ends h.p_vaddr) in
    let longer : length (done ++ h ∷ []) ≡ length done + 1 = length_push done h in
    let joined : (done ++ h ∷ []) ++ rest ≡ hs = append_assoc done (h ∷ []) rest in
    next_or_here (is_load h) (nat_lt h.p_vaddr end) hs (length done) h (overlap_from (end_with end h) (length done + 1) rest) (filter (λ (row : ℕ × Phdr). row.1.p_type == 1) (enumerate_from (length done + 1) rest)) hit
    (λ clear.
    subst
    (λ (n : ℕ). option_map LoadRefusal.Overlap (overlap_from (end_with end h) n rest) ≡ first_fault (map (against hs) (filter (λ (row : ℕ × Phdr). row.1.p_type == 1) (enumerate_from n rest))))
    longer
    (subst
    (λ (all : List Phdr). option_map LoadRefusal.Overlap (overlap_from (end_with end h) (length (done ++ h ∷ [])) rest) ≡ first_fault (map (against all) (filter (λ (row : ℕ × Phdr). row.1.p_type == 1) (enumerate_from (length (done ++ h ∷ [])) rest))))
    joined
    (walk (done ++ h ∷ []) rest (end_with end h) (ends_with done h end ends clear))))

none_ends : Ends [] 0
none_ends v = grind (arith, nat_tests)

-- the first overlap by ends is that of each LOAD against all earlier ones
pub overlaps_are : (hs : List Phdr) → option_map LoadRefusal.Overlap (overlap_from 0 0 hs) ≡ first_fault (overlap_refusals (numbered_loads hs))
overlaps_are hs = walk [] hs 0 none_ends

-- ---- together

pub headers_refused : (image : List ℕ) (h : Ehdr) (refusal : LoadRefusal) → h ≡ ehdr_at image 0 → rows_refusal image h.e_phoff 0 h.e_phnum ≡ Some refusal → headers_refusal image ≡ Some refusal
headers_refused image h refusal is e =
    first_fault-before (flat_map (header_refusals image) (enumerate_from 0 (headers_in image))) (overlap_refusals (numbered_loads (headers_in image))) refusal (sym (rows_of_image image h is) ∙ e)

-- where each header and its range lie in the file, the first overlap decides
pub headers_overlap :
    (image : List ℕ) (h : Ehdr) (hs : List Phdr)
    → h ≡ ehdr_at image 0
    → rows_refusal image h.e_phoff 0 h.e_phnum ≡ None
    → hs ≡ map (header_at image h.e_phoff) (range_with_len 0 h.e_phnum)
    → (headers_refusal image ≡ option_map LoadRefusal.Overlap (overlap_from 0 0 hs)) × (hs ≡ headers_in image)
headers_overlap image h hs is e are =
    let same : hs ≡ headers_in image = are ∙ headers_are image h is in (
      first_fault-after (flat_map (header_refusals image) (enumerate_from 0 (headers_in image))) (overlap_refusals (numbered_loads (headers_in image))) (sym (rows_of_image image h is) ∙ e)
          ∙ (sym (overlaps_are (headers_in image)) ∙ ap (λ xs. option_map LoadRefusal.Overlap (overlap_from 0 0 xs)) (sym same)),
      same,
    )

-- so many headers are few
pub headers_few : (image : List ℕ) (table count : ℕ) (hs : List Phdr) → hs ≡ map (header_at image table) (range_with_len 0 count) → length hs ≡ count
headers_few image table count hs e = ap length e ∙ length-map-range_with_len (header_at image table) 0 count
