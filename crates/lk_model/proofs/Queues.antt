-- Laws of the search round a list: what it lists meets its meaning, and how it goes on by one member.
use Rattle.std.specs.Prelude.{◌≡◌, refl, ℕ, zero, suc, ◌+◌, ◌≤◌, Bool, true, false, cond, ◌||◌, List, [], ◌∷◌, ◌++◌, length, Option, Some, None}
use Rattle.std.specs.List.{list_any}
use Rattle.std.proofs.lemmas.List.{append-nil, append_assoc, length-append}
use mathlib.Core.Path.{sym, subst, ap, ◌∙◌}
use native.Mathlib.Omega.{arith}
use Rattle.lk_model.specs.Queues.{turn, next, NextIs, IsListed, listed_within, listed_of}

-- the queue after a member has all the others
pub turn-length : {M : Type 0} (p : M → Bool) (past ms : List M) (m : M) (rest : List M) → turn p past ms ≡ Some (m, rest) → suc (length rest) ≡ length past + length ms
turn-length p past [] m rest e = absurd (let h : Unit {0} ≡ ⊥ = ap (λ o. elim o [ None ↦ Unit {0} | Some x ↦ ⊥ ]) e in subst (λ t. t) h tt)
turn-length {M} p past (x ∷ xs) m rest e = go (p x) e (turn-length p (past ++ x ∷ []) xs m rest)
  where
    go : (b : Bool) → cond b (Some (x, xs ++ past)) (turn p (past ++ x ∷ []) xs) ≡ Some (m, rest) → (turn p (past ++ x ∷ []) xs ≡ Some (m, rest) → suc (length rest) ≡ length (past ++ x ∷ []) + length xs) → suc (length rest) ≡ length past + suc (length xs)
    go true h later =
        let same : xs ++ past ≡ rest = ap (λ (o : Option (M × List M)). elim o [ None ↦ rest | Some found ↦ found.1 ]) h in
        let size : length (xs ++ past) ≡ length xs + length past = length-append xs past in
        let sizes : length (xs ++ past) ≡ length rest = ap length same in
        omega arith
    go false h later =
        let size : length (past ++ x ∷ []) ≡ length past + 1 = length-append past (x ∷ []) in
        let sizes : suc (length rest) ≡ length (past ++ x ∷ []) + length xs = later h in
        omega arith

-- a member that does not pass is as well at the end of the queue
pub turn-skips : {M : Type 0} (p : M → Bool) (m : M) (past ms : List M) → p m ≡ false → turn p (m ∷ past) ms ≡ turn p past (ms ++ m ∷ [])
turn-skips p m past [] e = rw e refl
turn-skips {M} p m past (x ∷ xs) e = go (p x) (turn-skips p m (past ++ x ∷ []) xs e)
  where
    go : (b : Bool) → turn p (m ∷ past ++ x ∷ []) xs ≡ turn p (past ++ x ∷ []) (xs ++ m ∷ []) → cond b (Some (x, xs ++ m ∷ past)) (turn p (m ∷ past ++ x ∷ []) xs) ≡ cond b (Some (x, (xs ++ m ∷ []) ++ past)) (turn p (past ++ x ∷ []) (xs ++ m ∷ []))
    go true later = ap (λ (ys : List M). Some (x, ys)) (sym (append_assoc xs (m ∷ []) past))
    go false later = later

-- where none passes there is no next member
pub turn-none : {M : Type 0} (p : M → Bool) (past ms : List M) → list_any p ms ≡ false → turn p past ms ≡ None
turn-none p past [] e = refl
turn-none p past (x ∷ xs) e = go (p x) e (turn-none p (past ++ x ∷ []) xs)
  where
    go : (b : Bool) → (b || list_any p xs) ≡ false → (list_any p xs ≡ false → turn p (past ++ x ∷ []) xs ≡ None) → cond b (Some (x, xs ++ past)) (turn p (past ++ x ∷ []) xs) ≡ None
    go true h later = absurd (let k : Unit {0} ≡ ⊥ = ap (λ b. elim b [ true ↦ Unit {0} | false ↦ ⊥ ]) h in subst (λ t. t) k tt)
    go false h later = later h

module _ {S M : Type 0} (wants : S → M → Bool) (step : S → M → S) where
  -- what the search lists meets its meaning
  pub listed_within-holds : (n : ℕ) (s : S) (waiting : List M) → length waiting ≤ n → IsListed wants step s waiting (listed_within wants step n s waiting)
  listed_within-holds zero s [] h = refl
  listed_within-holds zero s (m ∷ ms) h = absurd (omega arith)
  listed_within-holds (suc n) s waiting h = go (next (wants s) waiting) refl (listed_within-holds n)
    where
      go : (o : Option (M × List M)) → next (wants s) waiting ≡ o → ((t : S) (rest : List M) → length rest ≤ n → IsListed wants step t rest (listed_within wants step n t rest)) → IsListed wants step s waiting (elim o [ None ↦ [] | Some found ↦ found.0 ∷ listed_within wants step n (step s found.0) found.1 ])
      go None e later = e
      go (Some (m, rest)) e later =
          let size : suc (length rest) ≡ length {A = M} [] + length waiting = turn-length (wants s) [] waiting m rest e in
          let fits : length rest ≤ n = omega arith in
          subst (λ (o : Option (M × List M)). NextIs o m (λ r. IsListed wants step (step s m) r (listed_within wants step n (step s m) rest))) (sym e) (refl, later (step s m) rest fits)

  pub listed_of-holds : (s : S) (waiting : List M) → IsListed wants step s waiting (listed_of wants step s waiting)
  listed_of-holds s waiting = listed_within-holds (length waiting) s waiting (omega arith)

  -- the head of a queue that is wanted is listed
  pub listed_of-takes : (s : S) (m : M) (ms : List M) → wants s m ≡ true → listed_of wants step s (m ∷ ms) ≡ m ∷ listed_of wants step (step s m) ms
  listed_of-takes s m ms e =
      let after : Option (M × List M) → List M = λ o. elim o [ None ↦ [] | Some found ↦ found.0 ∷ listed_within wants step (length ms) (step s found.0) found.1 ] in
      let found : turn (wants s) [] (m ∷ ms) ≡ Some (m, ms) = rw e (ap (λ (q : List M). Some (m, q)) (append-nil ms)) in
      ap after found

  -- one that is not goes to the end
  pub listed_of-skips : (s : S) (m : M) (ms : List M) → wants s m ≡ false → listed_of wants step s (m ∷ ms) ≡ listed_of wants step s (ms ++ m ∷ [])
  listed_of-skips s m ms e =
      let after : Option (M × List M) → List M = λ o. elim o [ None ↦ [] | Some found ↦ found.0 ∷ listed_within wants step (length ms) (step s found.0) found.1 ] in
      let first : turn (wants s) [] (m ∷ ms) ≡ turn (wants s) (m ∷ []) ms = rw e refl in
      let moved : turn (wants s) [] (m ∷ ms) ≡ turn (wants s) [] (ms ++ m ∷ []) = first ∙ turn-skips (wants s) m [] ms e in
      let sum : length (ms ++ m ∷ []) ≡ length ms + 1 = length-append ms (m ∷ []) in
      let size : suc (length ms) ≡ length (ms ++ m ∷ []) = omega arith in
      ap after moved ∙ ap (λ n. listed_within wants step n s (ms ++ m ∷ [])) size

  -- where none is wanted the search ends
  pub listed_of-ends : (s : S) (ms : List M) → list_any (wants s) ms ≡ false → listed_of wants step s ms ≡ []
  listed_of-ends s [] e = refl
  listed_of-ends s (x ∷ xs) e = ap (λ (o : Option (M × List M)). elim o [ None ↦ [] | Some found ↦ found.0 ∷ listed_within wants step (length xs) (step s found.0) found.1 ]) (turn-none (wants s) [] (x ∷ xs) e)

  -- and no other list meets it
  pub listed_within-only : (n : ℕ) (s : S) (waiting listed : List M) → length waiting ≤ n → IsListed wants step s waiting listed → listed ≡ listed_within wants step n s waiting
  listed_within-only zero s [] [] fits h = refl
  listed_within-only zero s [] (m ∷ ms) fits h = absurd h
  listed_within-only zero s (x ∷ xs) listed fits h = absurd (omega arith)
  listed_within-only (suc n) s waiting [] fits h = sym (ap (λ (o : Option (M × List M)). elim o [ None ↦ [] | Some found ↦ found.0 ∷ listed_within wants step n (step s found.0) found.1 ]) h)
  listed_within-only (suc n) s waiting (m ∷ ms) fits h = go (next (wants s) waiting) refl h (listed_within-only n (step s m))
    where
      go : (o : Option (M × List M)) → next (wants s) waiting ≡ o → NextIs o m (λ rest. IsListed wants step (step s m) rest ms) → ((rest : List M) (later : List M) → length rest ≤ n → IsListed wants step (step s m) rest later → later ≡ listed_within wants step n (step s m) rest) → m ∷ ms ≡ elim o [ None ↦ [] | Some found ↦ found.0 ∷ listed_within wants step n (step s found.0) found.1 ]
      go None e k later = absurd k
      go (Some (found, rest)) e k later =
          let size : suc (length rest) ≡ length {A = M} [] + length waiting = turn-length (wants s) [] waiting found rest e in
          let small : length rest ≤ n = omega arith in
          ap (λ (q : List M). m ∷ q) (later rest ms small k.1) ∙ ap (λ (x : M). x ∷ listed_within wants step n (step s x) rest) (sym k.0)

  pub listed_of-only : (s : S) (waiting listed : List M) → IsListed wants step s waiting listed → listed ≡ listed_of wants step s waiting
  listed_of-only s waiting listed h = listed_within-only (length waiting) s waiting listed (omega arith) h
