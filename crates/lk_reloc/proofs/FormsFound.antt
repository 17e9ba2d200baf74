-- The form of a type, by its number.
use Rattle.std.specs.Prelude.{◌≡◌, refl, ℕ, ◌==◌, Bool, true, false, not, ◌||◌, ◌&&◌, List, [], ◌∷◌, Some, None, is_some}
use Rattle.std.specs.List.{AllByRecursion}
use Rattle.std.proofs.Common.{ap, sym, ◌∙◌, arith, subst}
use Rattle.std.proofs.lemmas.Bool.Decides.{nat_tests}
use Rattle.lk_model.specs.Forms.{r_x86_64_16, r_x86_64_32, r_x86_64_32s, r_x86_64_64, r_x86_64_8, r_x86_64_dtpoff32, r_x86_64_dtpoff64, r_x86_64_gotoff64, r_x86_64_gotpcrel, r_x86_64_gotpcrelx, r_x86_64_gottpoff, r_x86_64_none, r_x86_64_pc16, r_x86_64_pc32, r_x86_64_pc64, r_x86_64_pc8, r_x86_64_plt32, r_x86_64_rex_gotpcrelx, r_x86_64_size32, r_x86_64_size64, r_x86_64_tpoff32, r_x86_64_tpoff64}
use Rattle.lk_model.specs.Numbered.{is_number_in}
use Rattle.lk_model.specs.RelocationTypes.{relocation_type_of, relocation_types}
use Rattle.lk_reloc.specs.Forms.{IsFormOf}
use Rattle.lk_reloc.specs.declared.rules.Form.{Form}

-- a number that is that of a type
pub by_number : (code number : ℕ) (f : Form) → code ≡ number → IsFormOf number (Some f) → IsFormOf code (Some f)
by_number code number f same e = subst (λ n. IsFormOf n (Some f)) (sym same) e

-- a number that a type has
abbrev pub IsListed : ℕ → Type 0
IsListed k = is_some (relocation_type_of k) ≡ true

-- two numbers that are the same by the test
same_number : (a b : ℕ) → (a == b) ≡ true → a ≡ b
same_number a b e = grind (arith, nat_tests)

clash : (code k : ℕ) → code ≡ k → IsListed k → relocation_type_of code ≡ None → true ≡ false
clash code k same listed none = sym listed ∙ ap (λ n. is_some (relocation_type_of n)) (sym same) ∙ ap is_some none

-- a number that no type has is none that a type has
pub unlike : (code k : ℕ) → IsListed k → relocation_type_of code ≡ None → (code == k) ≡ false
unlike code k listed none = go (code == k) refl (λ e. clash code k (same_number code k e) listed none)
  where
    go : (b : Bool) → (code == k) ≡ b → ((code == k) ≡ true → true ≡ false) → (code == k) ≡ false
    go false e later = e
    go true e later = let wrong = later e in absurd (cc)

orb : (a b : Bool) → a ≡ false → b ≡ false → (a || b) ≡ false
orb a b ea eb = ap (λ x. x || b) ea ∙ eb

-- so it is in no list of such numbers
pub unlisted : (ks : List ℕ) (code : ℕ) → AllByRecursion IsListed ks → relocation_type_of code ≡ None → is_number_in ks code ≡ false
unlisted [] code all none = refl
unlisted (k ∷ ks) code all none = orb (code == k) (is_number_in ks code) (unlike code k all.0 none) (unlisted ks code all.1 none)

-- a number that no type has has no form
pub no_form : (code : ℕ) → relocation_type_of code ≡ None → IsFormOf code None
unfolding relocation_type_of relocation_types
no_form code none = record {
  known = ap is_some none;
  none = unlike code r_x86_64_none refl none;
  address = ap (λ b. b && not (code == r_x86_64_plt32)) (unlisted (r_x86_64_64 ∷ r_x86_64_pc32 ∷ r_x86_64_plt32 ∷ r_x86_64_32 ∷ r_x86_64_32s ∷ r_x86_64_16 ∷ r_x86_64_pc16 ∷ r_x86_64_8 ∷ r_x86_64_pc8 ∷ r_x86_64_pc64 ∷ r_x86_64_gotoff64 ∷ []) code (refl, (refl, (refl, (refl, (refl, (refl, (refl, (refl, (refl, (refl, (refl, tt))))))))))) none);
  plt = unlike code r_x86_64_plt32 refl none;
  got = unlisted (r_x86_64_gotpcrel ∷ r_x86_64_gotpcrelx ∷ r_x86_64_rex_gotpcrelx ∷ []) code (refl, (refl, (refl, tt))) none;
  thread_slot = unlike code r_x86_64_gottpoff refl none;
  block = unlisted (r_x86_64_dtpoff64 ∷ r_x86_64_dtpoff32 ∷ []) code (refl, (refl, tt)) none;
  offset = unlisted (r_x86_64_tpoff64 ∷ r_x86_64_tpoff32 ∷ []) code (refl, (refl, tt)) none;
  thread = unlisted (r_x86_64_dtpoff64 ∷ r_x86_64_tpoff64 ∷ r_x86_64_dtpoff32 ∷ r_x86_64_gottpoff ∷ r_x86_64_tpoff32 ∷ []) code (refl, (refl, (refl, (refl, (refl, tt))))) none;
  size = unlisted (r_x86_64_size32 ∷ r_x86_64_size64 ∷ []) code (refl, (refl, tt)) none;
}
