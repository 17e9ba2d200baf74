-- A walk over heads, one after another.
use Rattle.std.specs.Prelude.{◌≡◌, ℕ, suc, ◌+◌, ◌-◌, ◌*◌, ◌<◌, ◌≤◌, Bool, true, false, List, length, nat_le, Ok, Err}
use Rattle.std.proofs.Common.{sym, ◌∙◌, ap, arith}
use Rattle.lk_model.specs.InputsCounts.{after_group, after_input}
use Rattle.lk_model.specs.RecordReaders.{After, after_many, after_then}
use Rattle.lk_records_read.specs.CountsRead.{after_groups, after_many_inputs}

module _ (one : List ℕ → After) (left width : ℕ) where
  -- what is behind one more, where its heads are there or not
  abbrev step : Bool → ℕ → List ℕ → After
  step b n bytes = elim b [ true ↦ after_then (one bytes) (λ rest. after_many left width one n rest) | false ↦ Err left ]

  stepped : (k n : ℕ) (bytes : List ℕ) → k < n → after_many left width one (n - k) bytes ≡ step (nat_le ((n - k) * width) (length bytes)) (n - (k + 1)) bytes
  stepped k n bytes l =
      let more : n - k ≡ suc (n - (k + 1)) = omega (arith, l) in
      ap (λ m. after_many left width one m bytes) more ∙ ap (λ m. step (nat_le (m * width) (length bytes)) (n - (k + 1)) bytes) (sym more)

  short : (k n : ℕ) (bytes : List ℕ) → k < n → nat_le ((n - k) * width) (length bytes) ≡ false → after_many left width one (n - k) bytes ≡ Err left
  short k n bytes l e = stepped k n bytes l ∙ ap (λ b. step b (n - (k + 1)) bytes) e

  refused : (k n e : ℕ) (bytes : List ℕ) → k < n → nat_le ((n - k) * width) (length bytes) ≡ true → one bytes ≡ Err e → after_many left width one (n - k) bytes ≡ Err e
  refused k n e bytes l t p = stepped k n bytes l ∙ ap (λ b. step b (n - (k + 1)) bytes) t ∙ ap (λ (a : After). after_then a (λ rest. after_many left width one (n - (k + 1)) rest)) p

  next : (k n : ℕ) (bytes rest : List ℕ) → k < n → nat_le ((n - k) * width) (length bytes) ≡ true → one bytes ≡ Ok rest → after_many left width one (n - k) bytes ≡ after_many left width one (n - (k + 1)) rest
  next k n bytes rest l t p = stepped k n bytes l ∙ ap (λ b. step b (n - (k + 1)) bytes) t ∙ ap (λ (a : After). after_then a (λ more. after_many left width one (n - (k + 1)) more)) p

  done : (k n : ℕ) (bytes : List ℕ) → n ≤ k → after_many left width one (n - k) bytes ≡ Ok bytes
  done k n bytes l = let none : n - k ≡ 0 = omega (arith, l) in ap (λ m. after_many left width one m bytes) none

module _ (left k n : ℕ) (bytes : List ℕ) where
  pub groups_short : k < n → nat_le ((n - k) * 8) (length bytes) ≡ false → after_groups left (n - k) bytes ≡ Err left
  unfolding after_groups
  groups_short l e = short after_group left 8 k n bytes l e

  pub groups_refused : (e : ℕ) → k < n → nat_le ((n - k) * 8) (length bytes) ≡ true → after_group bytes ≡ Err e → after_groups left (n - k) bytes ≡ Err e
  unfolding after_groups
  groups_refused e l t p = refused after_group left 8 k n e bytes l t p

  pub groups_next : (rest : List ℕ) → k < n → nat_le ((n - k) * 8) (length bytes) ≡ true → after_group bytes ≡ Ok rest → after_groups left (n - k) bytes ≡ after_groups left (n - (k + 1)) rest
  unfolding after_groups
  groups_next rest l t p = next after_group left 8 k n bytes rest l t p

  pub groups_done : n ≤ k → after_groups left (n - k) bytes ≡ Ok bytes
  unfolding after_groups
  groups_done l = done after_group left 8 k n bytes l

  pub inputs_short : k < n → nat_le ((n - k) * 56) (length bytes) ≡ false → after_many_inputs left (n - k) bytes ≡ Err left
  unfolding after_many_inputs
  inputs_short l e = short after_input left 56 k n bytes l e

  pub inputs_refused : (e : ℕ) → k < n → nat_le ((n - k) * 56) (length bytes) ≡ true → after_input bytes ≡ Err e → after_many_inputs left (n - k) bytes ≡ Err e
  unfolding after_many_inputs
  inputs_refused e l t p = refused after_input left 56 k n e bytes l t p

  pub inputs_next : (rest : List ℕ) → k < n → nat_le ((n - k) * 56) (length bytes) ≡ true → after_input bytes ≡ Ok rest → after_many_inputs left (n - k) bytes ≡ after_many_inputs left (n - (k + 1)) rest
  unfolding after_many_inputs
  inputs_next rest l t p = next after_input left 56 k n bytes rest l t p

  pub inputs_done : n ≤ k → after_many_inputs left (n - k) bytes ≡ Ok bytes
  unfolding after_many_inputs
  inputs_done l = done after_input left 56 k n bytes l
