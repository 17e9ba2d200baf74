-- What is gathered from runs that rise is what is in memory.
use Rattle.std.specs.Prelude.{◌≡◌, refl, ℕ, zero, suc, ◌+◌, ◌-◌, ◌==◌, ◌<◌, ◌≤◌, Bool, true, false, min, nat_le, List, [], ◌∷◌, ◌++◌, drop, length, map, slice_index, take, Option, Some, None, option_map, if◌then◌else◌}
use Rattle.std.specs.List.{range_with_len}
use Rattle.std.proofs.Common.{ap, ◌∙◌, sym, subst, arith, ⊎_elim}
use Rattle.std.proofs.lemmas.Bool.{cases_lt}
use Rattle.std.proofs.lemmas.Bool.Decides.{nat_tests}
use Rattle.std.proofs.lemmas.List.{drop_all, get_or-drop, get_or-take, length-append, length-drop, length-take}
use Rattle.lk_model.specs.Loads.{all_of, bytes_in_memory}
use Rattle.lk_loader.specs.Gathering.{gathered, part_of}
use Rattle.lk_loader.specs.Runs.{RiseFrom, has_address, run_memory}
use Rattle.lk_loader.specs.declared.loads.Run.{Run}
use Rattle.lk_loader.proofs.AllOf.{all_next}

-- ---- one run

here : (run : Run) (runs : List Run) (a : ℕ) → has_address a run ≡ true → run_memory (run ∷ runs) a ≡ Some (slice_index run.bytes (a - run.addr))
here run runs a e = rw e refl

later : (run : Run) (runs : List Run) (a : ℕ) → has_address a run ≡ false → run_memory (run ∷ runs) a ≡ run_memory runs a
later run runs a e = rw e refl

inside : (run : Run) (a : ℕ) → run.addr ≤ a → a < run.addr + length run.bytes → has_address a run ≡ true
inside run a from below = grind (arith, nat_tests)

under : (run : Run) (a : ℕ) → a < run.addr → has_address a run ≡ false
under run a low = grind (arith, nat_tests)

over : (run : Run) (a : ℕ) → run.addr + length run.bytes ≤ a → has_address a run ≡ false
over run a high = grind (arith, nat_tests)

-- nothing is below runs that rise
below_all : (runs : List Run) (end a : ℕ) → RiseFrom end runs → a < end → run_memory runs a ≡ None
below_all [] end a rise low = refl
below_all (run ∷ runs) end a rise low =
    let first = rise.0 in
    later run runs a (under run a (omega (arith, first))) ∙ below_all runs (run.addr + length run.bytes) a rise.1 (omega (arith, first))

-- ---- ranges

-- a byte that is not there leaves nothing
missing : (memory : ℕ → Option ℕ) (a n : ℕ) → memory a ≡ None → 0 < n → bytes_in_memory memory a n ≡ None
missing memory a zero none some = absurd (omega (arith, some))
missing memory a (suc n) none some = rw none refl

mapped : (f : List ℕ → List ℕ) (o : Option (List ℕ)) (g : List ℕ → List ℕ) → ((xs : List ℕ) → f xs ≡ g xs) → option_map f o ≡ option_map g o
mapped f None g h = refl
mapped f (Some xs) g h = ap Some (h xs)

mapped_twice : (b : ℕ) (bs : List ℕ) (o : Option (List ℕ)) → option_map (λ xs. b ∷ xs) (option_map (λ xs. bs ++ xs) o) ≡ option_map (λ xs. (b ∷ bs) ++ xs) o
mapped_twice b bs None = refl
mapped_twice b bs (Some xs) = refl

mapped_none : (o : Option (List ℕ)) → o ≡ option_map (λ xs. [] ++ xs) o
mapped_none None = refl
mapped_none (Some xs) = refl

-- bytes that are there, and so many after them
present :
    (memory : ℕ → Option ℕ) (bytes : List ℕ) (a n : ℕ)
    → ((k : ℕ) → k < length bytes → memory (a + k) ≡ Some (slice_index bytes k))
    → bytes_in_memory memory a (length bytes + n) ≡ option_map (λ xs. bytes ++ xs) (bytes_in_memory memory (a + length bytes) n)
present memory [] a n h =
    let size : 0 + n ≡ n = omega arith in
    let place : a ≡ a + 0 = omega arith in
    ap (bytes_in_memory memory a) size ∙ (ap (λ p. bytes_in_memory memory p n) place ∙ mapped_none (bytes_in_memory memory (a + 0) n))
present memory (b ∷ bs) a n h =
    let size : length (b ∷ bs) + n ≡ suc (length bs + n) = omega arith in
    let place : a + 0 ≡ a = omega arith in
    let first : memory a ≡ Some b = subst (λ p. memory p ≡ Some b) place (h 0 (omega arith)) in
    let rest = present memory bs (a + 1) n (λ k l. let p : a + suc k ≡ a + 1 + k = omega arith in subst (λ q. memory q ≡ Some (slice_index bs k)) p (h (suc k) (omega (arith, l)))) in
    let next : a + 1 + length bs ≡ a + length (b ∷ bs) = omega arith in
    ap (bytes_in_memory memory a) size
    ∙ (ap (λ (o : Option ℕ). all_of (o ∷ map memory (range_with_len (a + 1) (length bs + n)))) first
    ∙ (all_next b (map memory (range_with_len (a + 1) (length bs + n)))
    ∙ (ap (option_map (λ xs. b ∷ xs)) (rest ∙ ap (λ p. option_map (λ xs. bs ++ xs) (bytes_in_memory memory p n)) next)
    ∙ mapped_twice b bs (bytes_in_memory memory (a + length (b ∷ bs)) n))))

-- two memories that are the same from an address on
same_range : (f g : ℕ → Option ℕ) (a n : ℕ) → ((p : ℕ) → a ≤ p → f p ≡ g p) → bytes_in_memory f a n ≡ bytes_in_memory g a n
same_range f g a n h = ap all_of (go a n (omega arith))
  where
    go : (p m : ℕ) → a ≤ p → map f (range_with_len p m) ≡ map g (range_with_len p m)
    go p zero from = refl
    go p (suc m) from = ap (λ x. x ∷ map f (range_with_len (p + 1) m)) (h p from) ∙ ap (λ xs. g p ∷ xs) (go (p + 1) m (omega (arith, from)))

-- a run below a range does not count
passed : (run : Run) (runs : List Run) (a n : ℕ) → run.addr + length run.bytes ≤ a → bytes_in_memory (run_memory (run ∷ runs)) a n ≡ bytes_in_memory (run_memory runs) a n
passed run runs a n high = same_range (run_memory (run ∷ runs)) (run_memory runs) a n (λ p from. later run runs p (over run p (omega (arith, high, from))))

-- ---- all runs

-- bytes that are as many as were asked for
abbrev whole : ℕ → List ℕ → Option (List ℕ)
whole left bytes = if length bytes == left then Some bytes else None

joined_whole : (front : List ℕ) (left : ℕ) (bytes : List ℕ) → length front ≤ left → option_map (λ xs. front ++ xs) (whole (left - length front) bytes) ≡ whole left (front ++ bytes)
joined_whole front left bytes most = go (length bytes == left - length front) refl
  where
    go : (b : Bool) → (length bytes == left - length front) ≡ b → option_map (λ xs. front ++ xs) (whole (left - length front) bytes) ≡ whole left (front ++ bytes)
    go true e =
        let size = length-append front bytes in
        let same : (length (front ++ bytes) == left) ≡ true = grind (arith, nat_tests) in
        rw (e, same) refl
    go false e =
        let size = length-append front bytes in
        let other : (length (front ++ bytes) == left) ≡ false = grind (arith, nat_tests) in
        rw (e, other) refl

-- a run with nothing of the range
skipped : (run : Run) (runs : List Run) (next left : ℕ) → part_of run next left ≡ [] → gathered (run ∷ runs) next left ≡ gathered runs next left
skipped run runs next left e =
    let place : next + 0 ≡ next = omega arith in
    let size : left - 0 ≡ left = omega arith in
    ap (λ (p : List ℕ). p ++ gathered runs (next + length p) (left - length p)) e ∙ (ap (λ p. gathered runs p (left - 0)) place ∙ ap (gathered runs next) size)

part_low : (run : Run) (next left : ℕ) → next < run.addr → part_of run next left ≡ []
part_low run next left low =
    let e : nat_le run.addr next ≡ false = grind (arith, nat_tests) in
    rw e refl

take_none : (n : ℕ) → take n (let none : List ℕ = [] in none) ≡ []
take_none zero = refl
take_none (suc n) = refl

part_high : (run : Run) (next left : ℕ) → run.addr + length run.bytes ≤ next → part_of run next left ≡ []
part_high run next left high =
    let e : nat_le run.addr next ≡ true = grind (arith, nat_tests) in
    rw e (ap (take left) (drop_all (next - run.addr) run.bytes (omega (arith, high))) ∙ take_none left)

part_in : (run : Run) (next left : ℕ) → run.addr ≤ next → part_of run next left ≡ take left (drop (next - run.addr) run.bytes)
part_in run next left from =
    let e : nat_le run.addr next ≡ true = grind (arith, nat_tests) in
    rw e refl

-- a range that begins below a run
low_none : (run : Run) (runs : List Run) (next left : ℕ) → next < run.addr → RiseFrom (run.addr + length run.bytes) runs → bytes_in_memory (run_memory (run ∷ runs)) next left ≡ bytes_in_memory (run_memory runs) next left
low_none run runs next zero low rise = refl
low_none run runs next (suc left) low rise =
    let none : run_memory runs next ≡ None = below_all runs (run.addr + length run.bytes) next rise (omega (arith, low)) in
    missing (run_memory (run ∷ runs)) next (suc left) (later run runs next (under run next low) ∙ none) (omega arith)
    ∙ sym (missing (run_memory runs) next (suc left) none (omega arith))

-- the bytes of a run's part
part_byte :
    (run : Run) (runs : List Run) (next left k : ℕ)
    → run.addr ≤ next
    → k < length (take left (drop (next - run.addr) run.bytes))
    → run_memory (run ∷ runs) (next + k) ≡ Some (slice_index (take left (drop (next - run.addr) run.bytes)) k)
part_byte run runs next left k from l =
    let size = length-take left (drop (next - run.addr) run.bytes) in
    let rest = length-drop (next - run.addr) run.bytes in
    let place : next + k - run.addr ≡ next - run.addr + k = omega (arith, from) in
    here run runs (next + k) (inside run (next + k) (omega (arith, from)) (omega (arith, size, rest, l, from)))
    ∙ ap Some
    (ap (slice_index run.bytes) place
    ∙ (sym (get_or-drop (next - run.addr) run.bytes k 0)
    ∙ sym (get_or-take left (drop (next - run.addr) run.bytes) k 0 (omega (arith, size, l)))))

-- behind a run's part the run does not count
behind_part : (run : Run) (runs : List Run) (next left size : ℕ) → run.addr ≤ next → next < run.addr + length run.bytes → size ≡ min left (run.addr + length run.bytes - next) → bytes_in_memory (run_memory (run ∷ runs)) (next + size) (left - size) ≡ bytes_in_memory (run_memory runs) (next + size) (left - size)
behind_part run runs next left size from below is = go (left - size) refl
  where
    go : (m : ℕ) → left - size ≡ m → bytes_in_memory (run_memory (run ∷ runs)) (next + size) m ≡ bytes_in_memory (run_memory runs) (next + size) m
    go zero e = refl
    go (suc m) e = passed run runs (next + size) (suc m) (omega (arith, is, e, below))

-- a range that begins in a run
begins_in :
    (run : Run) (runs : List Run) (next left : ℕ)
    → ((p m : ℕ) → bytes_in_memory (run_memory runs) p m ≡ whole m (gathered runs p m))
    → run.addr ≤ next
    → next < run.addr + length run.bytes
    → bytes_in_memory (run_memory (run ∷ runs)) next left ≡ whole left (gathered (run ∷ runs) next left)
begins_in run runs next left rest from below =
    let p : List ℕ = take left (drop (next - run.addr) run.bytes) in
    let size = length-take left (drop (next - run.addr) run.bytes) in
    let under_it = length-drop (next - run.addr) run.bytes in
    let long : length p ≡ min left (run.addr + length run.bytes - next) = omega (arith, size, under_it, from, below) in
    let most : length p ≤ left = omega (arith, long) in
    let all : left ≡ length p + (left - length p) = omega (arith, most) in
    ap (bytes_in_memory (run_memory (run ∷ runs)) next) all
    ∙ (present (run_memory (run ∷ runs)) p next (left - length p) (λ k l. part_byte run runs next left k from l)
    ∙ (ap (option_map (λ xs. p ++ xs)) (behind_part run runs next left (length p) from below long ∙ rest (next + length p) (left - length p))
    ∙ (joined_whole p left (gathered runs (next + length p) (left - length p)) most
    ∙ ap (λ (q : List ℕ). whole left (q ++ gathered runs (next + length q) (left - length q))) (sym (part_in run next left from)))))

-- any range
one_more :
    (run : Run) (runs : List Run) (next left : ℕ)
    → ((p m : ℕ) → bytes_in_memory (run_memory runs) p m ≡ whole m (gathered runs p m))
    → RiseFrom (run.addr + length run.bytes) runs
    → bytes_in_memory (run_memory (run ∷ runs)) next left ≡ whole left (gathered (run ∷ runs) next left)
one_more run runs next left rest rise =
    ⊎_elim
    (λ (l : next < run.addr). low_none run runs next left l rise ∙ (rest next left ∙ ap (whole left) (sym (skipped run runs next left (part_low run next left l)))))
    (λ (from : run.addr ≤ next).
    ⊎_elim
    (λ (below : next < run.addr + length run.bytes). begins_in run runs next left rest from below)
    (λ (high : run.addr + length run.bytes ≤ next). passed run runs next left high ∙ (rest next left ∙ ap (whole left) (sym (skipped run runs next left (part_high run next left high)))))
    (cases_lt next (run.addr + length run.bytes)))
    (cases_lt next run.addr)

pub gathered_all : (runs : List Run) (end next left : ℕ) → RiseFrom end runs → bytes_in_memory (run_memory runs) next left ≡ whole left (gathered runs next left)
gathered_all [] end next zero rise = refl
gathered_all [] end next (suc left) rise = let other : (0 == suc left) ≡ false = grind (arith, nat_tests) in rw other refl
gathered_all (run ∷ runs) end next left rise = one_more run runs next left (λ p m. gathered_all runs (run.addr + length run.bytes) p m rise.1) rise.1

-- bytes that are all there, and bytes of which some are not
pub all_gathered : (runs : List Run) (next left : ℕ) (found : List ℕ) → RiseFrom 0 runs → found ≡ gathered runs next left → length found ≡ left → bytes_in_memory (run_memory runs) next left ≡ Some found
all_gathered runs next left found rise is size =
    let same : (length found == left) ≡ true = grind (arith, nat_tests) in
    gathered_all runs 0 next left rise ∙ (ap (whole left) (sym is) ∙ rw same refl)

pub not_gathered : (runs : List Run) (next left : ℕ) (found : List ℕ) → RiseFrom 0 runs → found ≡ gathered runs next left → (length found == left) ≡ false → bytes_in_memory (run_memory runs) next left ≡ None
not_gathered runs next left found rise is other = gathered_all runs 0 next left rise ∙ (ap (whole left) (sym is) ∙ rw other refl)
