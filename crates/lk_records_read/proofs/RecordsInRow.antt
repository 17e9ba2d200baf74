-- Records one after another: what is read of them all, by what is read of each.
use Rattle.std.specs.Prelude.{◌≡◌, ℕ, zero, suc, ◌+◌, ◌-◌, ◌<◌, ◌≤◌, List, [], ◌∷◌, ◌++◌, length, Result, Ok, Err}
use Rattle.std.proofs.Common.{refl, sym, ◌∙◌, ap, arith, append_assoc, append-nil, subst}
use Rattle.lk_model.specs.RecordForms.{Given, given_then, read_many}
use Rattle.lk_model.specs.RecordReaders.{read_among, finished}
use Rattle.lk_records_read.specs.ReadAnswers.{ReadGives, ReadGivesWhole}
use Rattle.lk_records_read.specs.declared.refusals.Refusal.{Refusal}
use Rattle.lk_records_read.specs.declared.refusals.Refusal.TheVariants as refusal

module _ {X : Type 0} where
  -- what is answered of one reading is answered of an equal one
  pub gives_same : (g h : Given X) (r : Result X Refusal) (rest : List ℕ) → g ≡ h → ReadGives h r rest → ReadGives g r rest
  gives_same g h (Ok x) rest e p = e ∙ p
  gives_same g h (Err (refusal.Bad left)) rest e p = e ∙ p
  gives_same g h (Err refusal.NoMemory) rest e p = tt

module _ {X : Type 0} where
  -- what is read behind these
  abbrev behind : List X → Given (List X) → Given (List X)
  behind before h = given_then h (λ xs left. Ok (before ++ xs, left))

  -- one, and what is read behind it
  abbrev first_of_all : X → Given (List X) → Given (List X)
  first_of_all x h = given_then h (λ xs left. Ok (x ∷ xs, left))

  behind-one : (before : List X) (x : X) (h : Given (List X)) → behind (before ++ x ∷ []) h ≡ behind before (first_of_all x h)
  behind-one before x (Err e) = refl
  behind-one before x (Ok (xs, left)) = ap (λ (ys : List X). Ok (ys, left)) (append_assoc before (x ∷ []) xs)

  behind-none : (h : Given (List X)) → behind [] h ≡ h
  behind-none (Err e) = refl
  behind-none (Ok (xs, left)) = refl

  many-step : (one : List ℕ → Given X) (before : List X) (n : ℕ) (g : Given X)
      → ((x : X) (rest : List ℕ) → read_among (λ _ b. one b) (before ++ x ∷ []) n rest ≡ behind (before ++ x ∷ []) (read_many one n rest))
      → given_then g (λ x rest. read_among (λ _ b. one b) (before ++ x ∷ []) n rest) ≡ behind before (given_then g (λ x rest. first_of_all x (read_many one n rest)))
  many-step one before n (Err e) more = refl
  many-step one before n (Ok (x, rest)) more = more x rest ∙ behind-one before x (read_many one n rest)

  many-behind : (one : List ℕ → Given X) (before : List X) (n : ℕ) (bytes : List ℕ) → read_among (λ _ b. one b) before n bytes ≡ behind before (read_many one n bytes)
  many-behind one before zero bytes = ap (λ (ys : List X). Ok (ys, bytes)) (sym (append-nil before))
  many-behind one before (suc n) bytes = many-step one before n (one bytes) (λ x rest. many-behind one (before ++ x ∷ []) n rest)

  -- records that are read each for itself
  pub many_among : (one : List ℕ → Given X) (n : ℕ) (bytes : List ℕ) → read_among (λ _ b. one b) [] n bytes ≡ read_many one n bytes
  many_among one n bytes = many-behind one [] n bytes ∙ behind-none (read_many one n bytes)

  -- before the first of them
  pub many_begun : (one : List ℕ → Given X) (before : List X) (n : ℕ) (bytes : List ℕ) → before ≡ [] → read_among (λ _ b. one b) before (n - 0) bytes ≡ read_many one n bytes
  many_begun one before n bytes e =
      let all : n - 0 ≡ n = omega arith in
      ap (λ m. read_among (λ _ b. one b) before m bytes) all ∙ ap (λ (xs : List X). read_among (λ _ b. one b) xs n bytes) e ∙ many_among one n bytes

  -- before the first of those that are read beside one another
  pub among_begun : (one : List X → List ℕ → Given X) (before : List X) (n : ℕ) (bytes : List ℕ) → before ≡ [] → read_among one before (n - 0) bytes ≡ read_among one [] n bytes
  among_begun one before n bytes e =
      let all : n - 0 ≡ n = omega arith in
      ap (λ m. read_among one before m bytes) all ∙ ap (λ (xs : List X). read_among one xs n bytes) e

  -- one record more
  pub among_next :
      (one : List X → List ℕ → Given X) (before now : List X) (x : X) (k n : ℕ) (bytes rest : List ℕ)
      → k < n
      → one before bytes ≡ Ok (x, rest)
      → now ≡ before ++ x ∷ []
      → read_among one before (n - k) bytes ≡ read_among one now (n - (k + 1)) rest
  among_next one before now x k n bytes rest l e p =
      let more : n - k ≡ suc (n - (k + 1)) = omega (arith, l) in
      ap (λ m. read_among one before m bytes) more
      ∙ ap (λ (g : Given X). given_then g (λ y left. read_among one (before ++ y ∷ []) (n - (k + 1)) left)) e
      ∙ ap (λ (xs : List X). read_among one xs (n - (k + 1)) rest) (sym p)

  -- a record that is refused
  pub among_stops :
      (one : List X → List ℕ → Given X) (before : List X) (k n : ℕ) (bytes rest after : List ℕ) (r : Refusal)
      → k < n
      → ReadGives (one before bytes) (Err r) rest
      → ReadGives (read_among one before (n - k) bytes) (Err r) after
  among_stops one before k n bytes rest after (refusal.Bad left) l e =
      let more : n - k ≡ suc (n - (k + 1)) = omega (arith, l) in
      ap (λ m. read_among one before m bytes) more
      ∙ ap (λ (g : Given X). given_then g (λ y left. read_among one (before ++ y ∷ []) (n - (k + 1)) left)) e
  among_stops one before k n bytes rest after refusal.NoMemory l e = tt

  -- all records are read
  pub among_done : (one : List X → List ℕ → Given X) (before : List X) (k n : ℕ) (bytes : List ℕ) → n ≤ k → read_among one before (n - k) bytes ≡ Ok (before, bytes)
  among_done one before k n bytes l = let none : n - k ≡ 0 = omega (arith, l) in ap (λ m. read_among one before m bytes) none

  -- so is the refusal of one record that of all
  pub among_refused :
      (one : List X → List ℕ → Given X) (before : List X) (k n : ℕ) (bytes rest after : List ℕ) (whole : Given (List X)) (e : Refusal) (r : Result (List X) Refusal)
      → k < n
      → read_among one before (n - k) bytes ≡ whole
      → ReadGives (one before bytes) (Err e) rest
      → r ≡ Err e
      → ReadGives whole r after
  among_refused one before k n bytes rest after whole e r l inv bad q =
      subst (λ (s : Result (List X) Refusal). ReadGives whole s after) (sym q)
      (gives_same whole (read_among one before (n - k) bytes) (Err e) after (sym inv) (among_stops one before k n bytes rest after e l bad))

  -- ---- a whole section

  pub whole_stops : (g : Given X) (r : Refusal) (rest : List ℕ) → ReadGives g (Err r) rest → ReadGivesWhole (finished g) (Err r)
  whole_stops g (refusal.Bad left) rest e = ap (λ (h : Given X). finished h) e
  whole_stops g refusal.NoMemory rest e = tt

  pub whole_read : (g : Given X) (x : X) (rest : List ℕ) → g ≡ Ok (x, rest) → rest ≡ [] → finished g ≡ Ok x
  whole_read g x rest e n = ap (λ (h : Given X). finished h) e ∙ ap (λ (left : List ℕ). finished (Ok (x, left))) n

  left-over : (x : X) (rest : List ℕ) → 0 < length rest → finished (Ok (x, rest)) ≡ Err (length rest)
  left-over x [] l = absurd (omega (arith, l))
  left-over x (b ∷ bs) l = refl

  pub whole_left : (g : Given X) (x : X) (rest : List ℕ) → g ≡ Ok (x, rest) → 0 < length rest → finished g ≡ Err (length rest)
  whole_left g x rest e l = ap (λ (h : Given X). finished h) e ∙ left-over x rest l
