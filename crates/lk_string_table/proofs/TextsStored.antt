-- The table of texts as a map: look-ups give the places of the texts, and a text that is new goes last.
use Rattle.std.proofs.Common.{◌≡◌, ℕ, ◌+◌, Bool, true, false, cond, ◌||◌, if◌then◌else◌, List, [], ◌∷◌, ◌++◌, length, Option, Some, refl, sym, ap, ◌∙◌, arith, length-append, append_assoc, is_some, subst}
use Rattle.std.proofs.lemmas.Grind.{common_steps}
use Rattle.std.specs.Option.{unwrap_or}
use Rattle.std.specs.List.{list_any}
use Rattle.std.specs.Str.{bytes_eq}
use Rattle.std.specs.Map.{lookup}
use Rattle.std.specs.Borrow.{Bor}
use Rattle.indexmap.specs.IndexMap.{insert_entry}
use Rattle.lk_model.specs.Texts.{ended, with_text, table_bytes, offset_from, offset_in}
use Rattle.lk_string_table.specs.StringTables.{texts_in, OffsetsAre, IsStringTable}

-- the bytes of a table with a text at its front, and at its end
table-front : (t : List ℕ) (ts : List (List ℕ)) → length (table_bytes (t ∷ ts)) ≡ length t + 1 + length (table_bytes ts)
unfolding table_bytes
table-front t ts = let a = length-append (ended t) (table_bytes ts) in let b = length-append t (0 ∷ []) in omega (arith, a, b)

pub table-push : (ts : List (List ℕ)) (t : List ℕ) → table_bytes (ts ++ t ∷ []) ≡ table_bytes ts ++ ended t
unfolding table_bytes
table-push [] t = grind (arith, common_steps)
table-push (x ∷ xs) t = ap (λ l. ended x ++ l) (table-push xs t) ∙ sym (append_assoc (ended x) (table_bytes xs) (ended t))

pub length-push : (ts : List (List ℕ)) (t : List ℕ) → length (table_bytes (ts ++ t ∷ [])) ≡ length (table_bytes ts) + length t + 1
length-push ts t =
    let a = ap length (table-push ts t) in
    let b = length-append (table_bytes ts) (ended t) in
    let d = length-append t (0 ∷ []) in omega (arith, a, b, d)

pub texts-push : (es : List (Bor (List ℕ) × ℕ)) (k : Bor (List ℕ)) (v : ℕ) → texts_in (es ++ (k, v) ∷ []) ≡ texts_in es ++ k.now ∷ []
texts-push [] k v = refl
texts-push (e ∷ es) k v = ap (λ l. e.0.now ∷ l) (texts-push es k v)

-- what the map gives at a text
chosen : (b : Bool) (v at d o : ℕ) (rest : Option ℕ) → v ≡ at → unwrap_or rest d ≡ o → unwrap_or (cond b (Some v) rest) d ≡ (if b then at else o)
chosen true v at d o rest same more = same
chosen false v at d o rest same more = more

found-from : (es : List (Bor (List ℕ) × ℕ)) (at d : ℕ) (t : List ℕ) → OffsetsAre at es → d ≡ at + length (table_bytes (texts_in es))
    → unwrap_or (lookup (λ (k : Bor (List ℕ)). bytes_eq t k.now) es) d ≡ offset_from at (texts_in es) t
unfolding table_bytes
found-from [] at d t starts ends = omega (arith, ends)
found-from (e ∷ es) at d t starts ends =
    let f = table-front e.0.now (texts_in es) in
    chosen (bytes_eq t e.0.now) e.1 at d (offset_from (at + length e.0.now + 1) (texts_in es) t) (lookup (λ (k : Bor (List ℕ)). bytes_eq t k.now) es)
    starts.0 (found-from es (at + length e.0.now + 1) d t starts.1 (omega (arith, ends, f)))

pub found : (es : List (Bor (List ℕ) × ℕ)) (end : ℕ) (t : List ℕ) → IsStringTable es end
    → unwrap_or (lookup (λ (k : Bor (List ℕ)). bytes_eq t k.now) es) end ≡ offset_in (texts_in es) t
found es end t h = let ends = h.size_is in found-from es 0 end t h.offsets (omega (arith, ends))

either-found : (b x : Bool) (v : ℕ) (r : Option ℕ) → x ≡ is_some r → (b || x) ≡ is_some (cond b (Some v) r)
either-found true x v r h = refl
either-found false x v r h = h

pub any-found : (es : List (Bor (List ℕ) × ℕ)) (t : List ℕ) → list_any (bytes_eq t) (texts_in es) ≡ is_some (lookup (λ (k : Bor (List ℕ)). bytes_eq t k.now) es)
any-found [] t = refl
any-found (e ∷ es) t =
    either-found (bytes_eq t e.0.now) (list_any (bytes_eq t) (texts_in es)) e.1 (lookup (λ (k : Bor (List ℕ)). bytes_eq t k.now) es) (any-found es t)

-- a text that is new goes last
or-first : (a b : Bool) → (a || b) ≡ false → a ≡ false
or-first true b h = h
or-first false b h = refl

or-second : (a b : Bool) → (a || b) ≡ false → b ≡ false
or-second true b h = absurd (cc)
or-second false b h = h

pub insert-new : (es : List (Bor (List ℕ) × ℕ)) (k : Bor (List ℕ)) (v : ℕ) → list_any (bytes_eq k.now) (texts_in es) ≡ false
    → insert_entry (λ (x y : Bor (List ℕ)). bytes_eq x.now y.now) es k v ≡ es ++ (k, v) ∷ []
insert-new [] k v h = refl
insert-new (e ∷ es) k v h =
    let here : bytes_eq k.now e.0.now ≡ false = or-first (bytes_eq k.now e.0.now) (list_any (bytes_eq k.now) (texts_in es)) h in
    let there = insert-new es k v (or-second (bytes_eq k.now e.0.now) (list_any (bytes_eq k.now) (texts_in es)) h) in
    ap (λ b. if b then (e.0, v) ∷ es else e ∷ insert_entry (λ (x y : Bor (List ℕ)). bytes_eq x.now y.now) es k v) here ∙ ap (λ l. e ∷ l) there

offsets-push : (es : List (Bor (List ℕ) × ℕ)) (at : ℕ) (k : Bor (List ℕ)) (v : ℕ) → OffsetsAre at es → v ≡ at + length (table_bytes (texts_in es))
    → OffsetsAre at (es ++ (k, v) ∷ [])
unfolding table_bytes
offsets-push [] at k v starts place = (omega (arith, place), tt)
offsets-push (e ∷ es) at k v starts place =
    let f = table-front e.0.now (texts_in es) in
    (starts.0, offsets-push es (at + length e.0.now + 1) k v starts.1 (omega (arith, place, f)))

pub holds-push : (es : List (Bor (List ℕ) × ℕ)) (k : Bor (List ℕ)) (end next : ℕ) → IsStringTable es end → next ≡ end + length k.now + 1
    → IsStringTable (es ++ (k, end) ∷ []) next
holds-push es k end next h ends = record {
  offsets = let e = h.size_is in offsets-push es 0 k end h.offsets (omega (arith, e));
  size_is = let a = ap (λ l. length (table_bytes l)) (texts-push es k end) in let b = length-push (texts_in es) k.now in let c = h.size_is in omega (arith, a, b, c, ends);
}

-- a table that has a text stays, and one that has it not takes it last
pub with-old : (ts : List (List ℕ)) (t : List ℕ) → list_any (bytes_eq t) ts ≡ true → with_text ts t ≡ ts
with-old ts t h = ap (λ b. if b then ts else ts ++ t ∷ []) h

pub with-new : (ts : List (List ℕ)) (t : List ℕ) → list_any (bytes_eq t) ts ≡ false → with_text ts t ≡ ts ++ t ∷ []
with-new ts t h = ap (λ b. if b then ts else ts ++ t ∷ []) h

-- the table of no text
pub holds-none : (es : List (Bor (List ℕ) × ℕ)) → es ≡ [] → IsStringTable es 0
unfolding table_bytes
holds-none es none = subst (λ l. IsStringTable l 0) (sym none) (record { offsets = tt; size_is = refl })
