-- What the code does at a number of the list puts the range among the holes.
use Rattle.std.proofs.Common.{◌≡◌, ◌≢◌, ℕ, Bool, true, if◌then◌else◌, zero, suc, ◌+◌, ◌^◌, ◌<◌, ◌≤◌, List, [], ◌∷◌, ◌++◌, length, take, drop, get_or, refl, sym, ap, ◌∙◌, arith, add-one}
use Rattle.std.proofs.Math.ListN.{set}
use Rattle.std.specs.List.{insert, remove}
use Rattle.std.proofs.lemmas.Bool.Decides.{nat_tests}
use Rattle.std.proofs.lemmas.Grind.{common_steps}
use Rattle.lk_model.specs.declared.layouts.Hole.{Hole}
use Rattle.lk_freelist.specs.FreeBytes.{AreHoles, end_of}
use Rattle.lk_freelist.specs.TakingBack.{put_among, put_before}
use Rattle.lk_freelist.proofs.Searching.{is_placed_at, hole_below}
use Rattle.lk_freelist.proofs.Splitting.{replaced}

-- a hole that an index reads is there
pub is_at_read : (holes : List Hole) (i : ℕ) (h : Hole) → i < length holes → h ≡ get_or holes i h → drop i holes ≡ h ∷ drop (suc i) holes
is_at_read holes i h within read =
    is_placed_at holes i h within
    ∙ ap (λ y. y ∷ drop (i + 1) holes) (sym read)
    ∙ ap (λ k. h ∷ drop k holes) (add-one i)

-- and it ends below 2^64
pub read_below : (holes : List Hole) (i : ℕ) (h : Hole) → AreHoles holes → i < length holes → h ≡ get_or holes i h → h.start + h.length < 2 ^ 64
read_below holes i h are within read =
    let same : end_of (get_or holes i h) ≡ end_of h = ap end_of (sym read) in
    omega (arith, same, hole_below holes 0 i h are within)

-- a hole goes before others that it does not touch, or as one with the first
pub before_apart : (start length : ℕ) (h : Hole) (hs : List Hole) → start + length ≢ h.start → put_before start length (h ∷ hs) ≡ record { start = start; length = length } ∷ h ∷ hs
before_apart start length h hs apart = grind (arith, nat_tests)

pub before_touching : (start length : ℕ) (h : Hole) (hs : List Hole) → start + length ≡ h.start → put_before start length (h ∷ hs) ≡ record { start = start; length = length + h.length } ∷ hs
before_touching start length h hs touch = grind (arith, nat_tests)

-- a range that begins at a hole's end, or below it
pub among_behind : (start size : ℕ) (h : Hole) (hs : List Hole) → end_of h ≡ start → put_among start size (h ∷ hs) ≡ put_before h.start (h.length + size) hs
among_behind start size h hs touch = grind (arith, nat_tests)

pub among_before : (start size : ℕ) (h : Hole) (hs : List Hole) → start < end_of h → put_among start size (h ∷ hs) ≡ put_before start size (h ∷ hs)
among_before start size h hs below = grind (arith, nat_tests)

pub among_past : (start size : ℕ) (h : Hole) (hs : List Hole) → end_of h < start → put_among start size (h ∷ hs) ≡ h ∷ put_among start size hs
among_past start size h hs past = grind (arith, nat_tests)

-- the holes that end below the range stay
among_at :
    (start size i : ℕ) (holes : List Hole)
    → i ≤ length holes
    → ((k : ℕ) (d : Hole) → k < i → end_of (get_or holes k d) < start)
    → put_among start size holes ≡ take i holes ++ put_among start size (drop i holes)
among_at start size zero holes within below = refl
among_at start size (suc i) [] within below = absurd (omega arith)
among_at start size (suc i) (x ∷ xs) within below =
    among_past start size x xs (below 0 x (omega arith))
    ∙ ap (λ ys. x ∷ ys) (among_at start size i xs (omega arith) (λ k d less. below (suc k) d (omega arith)))

-- the range goes after all holes
put_last_from :
    (start size : ℕ) (holes : List Hole)
    → ((k : ℕ) (d : Hole) → k < length holes → end_of (get_or holes k d) < start)
    → holes ++ record { start = start; length = size } ∷ [] ≡ put_among start size holes
put_last_from start size [] below = refl
put_last_from start size (x ∷ xs) below =
    ap (λ ys. x ∷ ys) (put_last_from start size xs (λ k d less. below (suc k) d (omega arith)))
    ∙ sym (among_past start size x xs (below 0 x (omega arith)))

pub put_last :
    (holes seen : List Hole) (start size i : ℕ)
    → seen ≡ holes
    → i ≡ length holes
    → ((k : ℕ) (d : Hole) → k < i → end_of (get_or seen k d) < start)
    → holes ++ record { start = start; length = size } ∷ [] ≡ put_among start size holes
put_last holes seen start size i same all below =
    put_last_from start size holes (λ k d less. rw (← same) (below k d (omega (arith, all, less))))

-- where there was room, the list is the longer one
pub had_room : (done : Bool) (longer old : List Hole) → done ≡ true → (if done then longer else old) ≡ longer
had_room done longer old room = ap (λ b. if b then longer else old) room

-- the hole that an index reads is the first that ends at the range or above it
pub record IsReached (holes : List Hole) (start i : ℕ) (h : Hole) : Type 0 where
  pub within : i < length holes
  pub read : h ≡ get_or holes i h
  pub below : (k : ℕ) (d : Hole) → k < i → end_of (get_or holes k d) < start
  pub reaches : (d : Hole) → i < length holes → start ≤ end_of (get_or holes i d)

pub reached_at :
    (holes seen : List Hole) (start i : ℕ) (h : Hole)
    → seen ≡ holes
    → i < length holes
    → h ≡ get_or holes i h
    → ((k : ℕ) (d : Hole) → k < i → end_of (get_or seen k d) < start)
    → ((d : Hole) → i < length seen → start ≤ end_of (get_or seen i d))
    → IsReached holes start i h
reached_at holes seen start i h same within read below reaches =
    record { within = within; read = read; below = rw same at below; reaches = rw same at reaches }

-- the holes from there on
at_reached : {holes : List Hole} {start i : ℕ} {h : Hole} (size : ℕ) → IsReached holes start i h → put_among start size holes ≡ take i holes ++ put_among start size (h ∷ drop (suc i) holes)
at_reached {holes} {start} {i} {h} size reached =
    among_at start size i holes (omega (arith, reached.within)) reached.below
    ∙ ap (λ ys. take i holes ++ put_among start size ys) (is_at_read holes i h reached.within reached.read)

ends_at : {holes : List Hole} {start i : ℕ} {h : Hole} → IsReached holes start i h → start ≤ end_of h
ends_at {holes} {start} {i} {h} reached =
    let same : end_of (get_or holes i h) ≡ end_of h = ap end_of (sym reached.read) in
    omega (arith, same, reached.reaches h reached.within)

-- it ends where the range begins
pub put_behind :
    {holes : List Hole} {start i : ℕ} {h : Hole} (size : ℕ)
    → IsReached holes start i h
    → h.start + h.length ≡ start
    → take i holes ++ put_before h.start (h.length + size) (drop (i + 1) holes) ≡ put_among start size holes
put_behind {holes} {start} {i} {h} size reached touch =
    ap (λ k. take i holes ++ put_before h.start (h.length + size) (drop k holes)) (add-one i)
    ∙ sym (at_reached size reached ∙ ap (λ ys. take i holes ++ ys) (among_behind start size h (drop (suc i) holes) touch))

-- it begins where the range ends
pub put_touching :
    {holes : List Hole} {start i : ℕ} {h : Hole} (size : ℕ)
    → IsReached holes start i h
    → h.start + h.length ≢ start
    → start + size ≡ h.start
    → set holes i (record { start = start; length = size + h.length }) ≡ put_among start size holes
put_touching {holes} {start} {i} {h} size reached apart touch =
    let ends = ends_at reached in
    replaced holes i (record { start = start; length = size + h.length }) reached.within
    ∙ sym (at_reached size reached
    ∙ ap (λ ys. take i holes ++ ys) (among_before start size h (drop (suc i) holes) (omega (arith, ends)) ∙ before_touching start size h (drop (suc i) holes) touch))

-- the range lies apart before it
pub put_apart :
    {holes : List Hole} {start i : ℕ} {h : Hole} (size : ℕ)
    → IsReached holes start i h
    → h.start + h.length ≢ start
    → start + size ≢ h.start
    → insert holes i (record { start = start; length = size }) ≡ put_among start size holes
put_apart {holes} {start} {i} {h} size reached apart other =
    let ends = ends_at reached in
    ap (λ ys. take i holes ++ (record { start = start; length = size } ∷ ys)) (is_at_read holes i h reached.within reached.read)
    ∙ sym (at_reached size reached
    ∙ ap (λ ys. take i holes ++ ys) (among_before start size h (drop (suc i) holes) (omega (arith, ends)) ∙ before_apart start size h (drop (suc i) holes) other))

-- one hole replaces two
set_removed : (xs : List Hole) (i : ℕ) (y : Hole) → suc i < length xs → set (remove xs (suc i)) i y ≡ take i xs ++ (y ∷ drop (suc (suc i)) xs)
set_removed [] i y within = absurd (omega arith)
set_removed (x ∷ xs) zero y within = refl
set_removed (x ∷ xs) (suc i) y within = ap (λ ys. x ∷ ys) (set_removed xs i y (omega arith))

-- one hole replaces another, joined with the next
pub joined_next :
    (holes : List Hole) (i : ℕ) (hole next : Hole)
    → i + 1 < length holes
    → next ≡ get_or holes (i + 1) next
    → hole.start + hole.length ≡ next.start
    → set (remove holes (i + 1)) i (record { start = hole.start; length = hole.length + next.length }) ≡ take i holes ++ put_before hole.start hole.length (drop (i + 1) holes)
joined_next holes i hole next within read touch =
    let both : Hole = record { start = hole.start; length = hole.length + next.length } in
    ap (λ k. set (remove holes k) i both) (add-one i)
    ∙ set_removed holes i both (omega arith)
    ∙ sym (ap (λ ys. take i holes ++ put_before hole.start hole.length ys) (is_at_read holes (i + 1) next within read ∙ ap (λ k. next ∷ drop (suc k) holes) (add-one i))
    ∙ ap (λ ys. take i holes ++ ys) (before_touching hole.start hole.length next (drop (suc (suc i)) holes) touch))

-- one hole replaces another, apart from the next
pub joined_none :
    (holes : List Hole) (i : ℕ) (hole next : Hole)
    → i + 1 < length holes
    → next ≡ get_or holes (i + 1) next
    → hole.start + hole.length ≢ next.start
    → set holes i hole ≡ take i holes ++ put_before hole.start hole.length (drop (i + 1) holes)
joined_none holes i hole next within read apart =
    let there = is_at_read holes (i + 1) next within read in
    replaced holes i hole (omega arith)
    ∙ ap (λ k. take i holes ++ (hole ∷ drop k holes)) (sym (add-one i))
    ∙ ap (λ ys. take i holes ++ (hole ∷ ys)) there
    ∙ sym (ap (λ ys. take i holes ++ put_before hole.start hole.length ys) there
    ∙ ap (λ ys. take i holes ++ ys) (before_apart hole.start hole.length next (drop (suc (i + 1)) holes) apart))

-- one hole replaces the last
pub joined_last :
    (holes : List Hole) (i : ℕ) (hole : Hole)
    → i < length holes
    → length holes ≤ i + 1
    → set holes i hole ≡ take i holes ++ put_before hole.start hole.length (drop (i + 1) holes)
joined_last holes i hole within last =
    let none : drop (i + 1) holes ≡ [] = grind (arith, common_steps) in
    replaced holes i hole within
    ∙ ap (λ k. take i holes ++ (hole ∷ drop k holes)) (sym (add-one i))
    ∙ ap (λ ys. take i holes ++ (hole ∷ ys)) none
    ∙ sym (ap (λ ys. take i holes ++ put_before hole.start hole.length ys) none)
