-- Texts that are noted, as a set.
use Rattle.std.specs.Prelude.{◌≡◌, refl, ℕ, ◌+◌, ◌-◌, ◌<◌, ◌≤◌, Bool, true, false, if◌then◌else◌, not, ◌||◌, List, [], ◌∷◌, ◌++◌, bytes_eq, count_by, drop, length, Result, Ok, Err, MatchResult}
use Rattle.std.specs.Borrow.{Bor}
use Rattle.std.specs.List.{before_first, list_any}
use Rattle.std.proofs.Common.{ap, sym, subst, ◌∙◌}
use Rattle.indexmap.specs.IndexSet.{insert_key}
use Rattle.lk_model.specs.Texts.{with_text}
use Rattle.lk_model.specs.RecordForms.{Given}
use Rattle.lk_model.specs.RecordReaders.{finished, read_among}
use Rattle.lk_model.specs.TextsReading.{checked_text, is_end, texts_read}
use Rattle.lk_records_read.specs.DistinctTexts.{IsNoted, TextNoted, texts_in}
use Rattle.lk_records_read.specs.ReadAnswers.{IsPassed, ReadGives}
use Rattle.lk_records_read.specs.declared.refusals.Refusal.{Refusal}
use Rattle.lk_records_read.specs.declared.refusals.Refusal.TheVariants as refusal
use Rattle.lk_records_read.proofs.RecordsInRow.{among_refused, among_done, whole_left, whole_read}

-- whether two references are to one text
abbrev same_text : Bor (List ℕ) → Bor (List ℕ) → Bool
same_text x y = bytes_eq x.now y.now

pub text_known : (texts : List (Bor (List ℕ))) (text : Bor (List ℕ)) → list_any (same_text text) texts ≡ list_any (bytes_eq text.now) (texts_in texts)
text_known [] text = refl
text_known (x ∷ xs) text = ap (λ b. bytes_eq text.now x.now || b) (text_known xs text)

texts-push : (texts : List (Bor (List ℕ))) (text : Bor (List ℕ)) → texts_in (texts ++ text ∷ []) ≡ texts_in texts ++ text.now ∷ []
texts-push [] text = refl
texts-push (x ∷ xs) text = ap (λ (rest : List (List ℕ)). x.now ∷ rest) (texts-push xs text)

either : (b : Bool) (texts : List (Bor (List ℕ))) (text : Bor (List ℕ)) → texts_in (if b then texts else texts ++ text ∷ []) ≡ (if b then texts_in texts else texts_in texts ++ text.now ∷ [])
either true texts text = refl
either false texts text = texts-push texts text

pub text_added : (texts : List (Bor (List ℕ))) (text : Bor (List ℕ)) → texts_in (insert_key same_text texts text) ≡ with_text (texts_in texts) text.now
text_added texts text =
    either (list_any (same_text text) texts) texts text
    ∙ ap (λ (b : Bool). if b then texts_in texts else texts_in texts ++ text.now ∷ []) (text_known texts text)

-- ---- the next text

on-test : (before : List (List ℕ)) (bytes t : List ℕ) (b : Bool) → list_any (bytes_eq t) before ≡ b → t ≡ before_first is_end bytes → checked_text before bytes ≡ (if b then Err (length bytes) else Ok (before_first is_end bytes, drop (length (before_first is_end bytes) + 1) bytes))
on-test before bytes t b e same =
    ap (λ c. if c then Err (length bytes) else Ok (before_first is_end bytes, drop (length (before_first is_end bytes) + 1) bytes)) (ap (λ (u : List ℕ). list_any (bytes_eq u) before) (sym same) ∙ e)

known : (d : Bool) → false ≡ not d → d ≡ true
known true e = refl
known false e = absurd (cc)

unknown : (d : Bool) → true ≡ not d → d ≡ false
unknown true e = absurd (cc)
unknown false e = refl

pub text_again : (before after : List (List ℕ)) (bytes t : List ℕ) (is_first : Bool) → IsNoted before t is_first after → is_first ≡ false → t ≡ before_first is_end bytes → checked_text before bytes ≡ Err (length bytes)
text_again before after bytes t is_first noted f same =
    on-test before bytes t true (known (list_any (bytes_eq t) before) (sym f ∙ noted.0)) same

pub text_new : (before after : List (List ℕ)) (bytes rest t : List ℕ) (is_first : Bool) → IsNoted before t is_first after → is_first ≡ true → t ≡ before_first is_end bytes → rest ≡ drop (length (before_first is_end bytes) + 1) bytes → TextNoted before bytes (Ok tt) after rest
text_new before after bytes rest t is_first noted f same passed =
    let new = unknown (list_any (bytes_eq t) before) (sym f ∙ noted.0) in (
      on-test before bytes t false new same ∙ ap (λ (left : List ℕ). Ok (before_first is_end bytes, left)) (sym passed),
      noted.1 ∙ ap (λ (b : Bool). if b then before else before ++ t ∷ []) new ∙ ap (λ (u : List ℕ). before ++ u ∷ []) same,
    )

-- ---- all texts

-- what is refused of the next text is refused of the section
refused-given : (before after : List (List ℕ)) (bytes rest : List ℕ) (e : Refusal) → TextNoted before bytes (Err e) after rest → ReadGives (checked_text before bytes) (Err e) rest
refused-given before after bytes rest (refusal.Bad left) noted = noted
refused-given before after bytes rest refusal.NoMemory noted = tt

whole-refused : (bytes rest : List ℕ) (e : Refusal) → ReadGives (read_among checked_text [] (count_by is_end bytes) bytes) (Err e) rest → IsPassed (texts_read bytes) (Err e)
unfolding texts_read
whole-refused bytes rest (refusal.Bad left) bad = ap (λ (g : Given (List (List ℕ))). finished g) bad
whole-refused bytes rest refusal.NoMemory bad = tt

pub texts_refused :
    (strtab bytes rest : List ℕ) (before after : List (List ℕ)) (k n : ℕ) (e : Refusal) (r : Result (Unit {0}) Refusal)
    → k < n
    → read_among checked_text before (n - k) bytes ≡ read_among checked_text [] (count_by is_end strtab) strtab
    → TextNoted before bytes (Err e) after rest
    → r ≡ Err e
    → IsPassed (texts_read strtab) r
texts_refused strtab bytes rest before after k n e r l inv bad q =
    subst (λ (s : Result (Unit {0}) Refusal). IsPassed (texts_read strtab) s) (sym q)
    (whole-refused strtab rest e
    (among_refused checked_text before k n bytes rest rest (read_among checked_text [] (count_by is_end strtab) strtab) e (Err e) l inv (refused-given before after bytes rest e bad) refl))

module _ (strtab bytes : List ℕ) (before : List (List ℕ)) (k n : ℕ) (l : n ≤ k) (inv : read_among checked_text before (n - k) bytes ≡ read_among checked_text [] (count_by is_end strtab) strtab) where
  all-read : read_among checked_text [] (count_by is_end strtab) strtab ≡ Ok (before, bytes)
  all-read = sym inv ∙ among_done checked_text before k n bytes l

  pub texts_end : bytes ≡ [] → texts_read strtab ≡ Ok before
  unfolding texts_read
  texts_end e = whole_read (read_among checked_text [] (count_by is_end strtab) strtab) before bytes all-read e

  pub texts_left : 0 < length bytes → texts_read strtab ≡ Err (length bytes)
  unfolding texts_read
  texts_left e = whole_left (read_among checked_text [] (count_by is_end strtab) strtab) before bytes all-read e

  pub texts_finish : (r : Result (Unit {0}) Refusal) → MatchResult r (λ u. bytes ≡ []) (λ e. (0 < length bytes) × (e ≡ refusal.Bad (length bytes))) → IsPassed (texts_read strtab) r
  texts_finish (Ok u) m = (before, texts_end m)
  texts_finish (Err e) m = subst (λ (x : Refusal). IsPassed (texts_read strtab) (Err x)) (sym m.1) (texts_left m.0)
