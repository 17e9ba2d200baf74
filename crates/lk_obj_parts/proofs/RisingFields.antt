-- Fields that rise, entry by entry and section by section; and that no two of them share a byte.
use Rattle.std.specs.Prelude.{◌≡◌, refl, ℕ, zero, suc, ◌+◌, ◌-◌, ◌==◌, ◌<◌, ◌≤◌, Bool, true, false, not, ◌&&◌, ◌||◌, cond, nat_le, List, [], ◌∷◌, drop, filter, length, Option, Some, None}
use Rattle.std.specs.List.{enumerate_from, list_all, list_any}
use Rattle.std.proofs.Common.{sym, ◌∙◌, ap, arith, get_or, drop-cons, add-one}
use Rattle.std.proofs.lemmas.Bool.{eqb-true}
use Rattle.std.proofs.lemmas.Bool.Decides.{nat_tests}
use Rattle.std.proofs.lemmas.List.{append-nil, drop_all}
use Rattle.lk_elf.specs.Numbers.{sht_rela}
use Rattle.lk_elf.specs.declared.relocation.Rela.{Rela}
use Rattle.lk_elf.specs.declared.section_header.Shdr.{Shdr}
use Rattle.lk_report.specs.declared.faults.InputFault.{InputFault}
use Rattle.lk_report.specs.declared.faults.InputFault.TheVariants.{BadRela}
use Rattle.lk_model.specs.Checks.{first_fault}
use Rattle.lk_model.specs.ObjectChecks.{overlap_checks_after, share_a_byte, share_field}
use Rattle.lk_obj_parts.specs.FieldMarks.{field_width, sites_from, sites_of, sites_of_row}
use Rattle.lk_obj_parts.specs.RelocationEntries.{entry_at, entry_count}
use Rattle.lk_obj_parts.specs.RisingFields.{entries_rise, fields_rise, is_apart, least_after, targets_rise}

-- ---- entry by entry

step : (bytes : List ℕ) (header : Shdr) (least k m : ℕ) (rela : Rela) → k < m → rela ≡ entry_at bytes header k → entries_rise bytes header least k (m - k) ≡ (nat_le least rela.r_offset && entries_rise bytes header (rela.r_offset + field_width rela) (k + 1) (m - (k + 1)))
step bytes header least k m rela l r =
    let e : m - k ≡ suc (m - (k + 1)) = omega arith in
    ap (entries_rise bytes header least k) e
    ∙ ap (λ (x : Rela). nat_le least x.r_offset && entries_rise bytes header (x.r_offset + field_width x) (k + 1) (m - (k + 1))) (sym r)

pub entry_rises : (bytes : List ℕ) (header : Shdr) (least k m : ℕ) (rela : Rela) (width : ℕ) → k < m → rela ≡ entry_at bytes header k → width ≡ field_width rela → nat_le least rela.r_offset ≡ true → entries_rise bytes header least k (m - k) ≡ entries_rise bytes header (rela.r_offset + width) (k + 1) (m - (k + 1))
entry_rises bytes header least k m rela width l r w e =
    step bytes header least k m rela l r
    ∙ ap (λ t. t && entries_rise bytes header (rela.r_offset + field_width rela) (k + 1) (m - (k + 1))) e
    ∙ ap (λ v. entries_rise bytes header (rela.r_offset + v) (k + 1) (m - (k + 1))) (sym w)

pub entry_falls : (bytes : List ℕ) (header : Shdr) (least k m : ℕ) (rela : Rela) → k < m → rela ≡ entry_at bytes header k → nat_le least rela.r_offset ≡ false → entries_rise bytes header least k (m - k) ≡ false
entry_falls bytes header least k m rela l r e =
    step bytes header least k m rela l r
    ∙ ap (λ t. t && entries_rise bytes header (rela.r_offset + field_width rela) (k + 1) (m - (k + 1))) e

pub no_entry_left : (bytes : List ℕ) (header : Shdr) (least k m : ℕ) → m ≤ k → entries_rise bytes header least k (m - k) ≡ true
no_entry_left bytes header least k m l =
    let e : m - k ≡ 0 = omega arith in
    ap (entries_rise bytes header least k) e

-- ---- section by section

next : (least i : ℕ) (headers : List Shdr) (d : Shdr) → i < length headers → targets_rise least (drop i headers) ≡ targets_rise least (get_or headers i d ∷ drop (i + 1) headers)
next least i headers d l =
    ap (targets_rise least) (drop-cons headers i d l) ∙ ap (λ n. targets_rise least (get_or headers i d ∷ drop n headers)) (sym (add-one i))

some-same : (a b : ℕ) → Some a ≡ Some b → a ≡ b
some-same a b e = cc

goes-on : (t u : Bool) (after least next : ℕ) (f : ℕ → Bool) → cond t (cond u (Some after) None) (Some least) ≡ Some next → cond t (u && f after) (f least) ≡ f next
goes-on true true after least next f e = ap f (some-same after next e)
goes-on true false after least next f e = cc
goes-on false u after least next f e = ap f (some-same least next e)

stops : (t u : Bool) (after least : ℕ) (f : ℕ → Bool) → cond t (cond u (Some after) None) (Some least) ≡ None → cond t (u && f after) (f least) ≡ false
stops true true after least f e = cc
stops true false after least f e = refl
stops false u after least f e = cc

pub target_rises : (least after i : ℕ) (headers : List Shdr) (d : Shdr) → i < length headers → least_after least (get_or headers i d) ≡ Some after → targets_rise least (drop i headers) ≡ targets_rise after (drop (i + 1) headers)
target_rises least after i headers d l e =
    let row : Shdr = get_or headers i d in
    next least i headers d l
    ∙ goes-on (row.sh_type == sht_rela) (nat_le least row.sh_info) (row.sh_info + 1) least after (λ n. targets_rise n (drop (i + 1) headers)) e

pub target_falls : (least i : ℕ) (headers : List Shdr) (d : Shdr) → i < length headers → least_after least (get_or headers i d) ≡ None → targets_rise least (drop i headers) ≡ false
target_falls least i headers d l e =
    let row : Shdr = get_or headers i d in
    next least i headers d l
    ∙ stops (row.sh_type == sht_rela) (nat_le least row.sh_info) (row.sh_info + 1) least (λ n. targets_rise n (drop (i + 1) headers)) e

pub no_target_left : (least i : ℕ) (headers : List Shdr) → length headers ≤ i → targets_rise least (drop i headers) ≡ true
no_target_left least i headers l = ap (targets_rise least) (drop_all i headers l)

-- ---- the fields of a section share no byte

pub either : {P : Type 0} (b : Bool) → (b ≡ true → P) → (b ≡ false → P) → P
either true f g = f refl
either false f g = g refl

pub both : (a b : Bool) → (a && b) ≡ true → (a ≡ true) × (b ≡ true)
both true true e = (refl, refl)
both true false e = cc
both false b e = cc

at-least : (a b : ℕ) → nat_le a b ≡ true → a ≤ b
at-least a b e = grind (arith, nat_tests, e)

-- these fields end before this byte
abbrev EndBefore : ℕ → List Rela → Type 0
EndBefore least [] = Unit {0}
EndBefore least (rela ∷ relas) = (rela.r_offset + field_width rela ≤ least) × EndBefore least relas

end-before : (a b : ℕ) (relas : List Rela) → a ≤ b → EndBefore a relas → EndBefore b relas
end-before a b [] l h = tt
end-before a b (rela ∷ relas) l h = (omega (arith, l, h.0), end-before a b relas l h.1)

apart : (a v b w least : ℕ) → b + w ≤ least → least ≤ a → share_a_byte a v b w ≡ false
apart a v b w least l m = grind (arith, nat_tests)

none-shared : (rela : Rela) (least : ℕ) (earlier : List Rela) → EndBefore least earlier → least ≤ rela.r_offset → list_any (share_field rela) earlier ≡ false
none-shared rela least [] h l = refl
none-shared rela least (other ∷ earlier) h l =
    ap (λ t. t || list_any (share_field rela) earlier) (apart rela.r_offset (field_width rela) other.r_offset (field_width other) least h.0 l)
    ∙ none-shared rela least earlier h.1 l

no-overlap : (bytes : List ℕ) (n : ℕ) (header : Shdr) (earlier : List Rela) (least k m : ℕ) → EndBefore least earlier → entries_rise bytes header least k m ≡ true → first_fault (overlap_checks_after earlier (sites_from bytes n header k m)) ≡ None
unfolding overlap_checks_after
no-overlap bytes n header earlier least k zero h e = refl
no-overlap bytes n header earlier least k (suc m) h e =
    let rela : Rela = entry_at bytes header k in
    let after : ℕ = rela.r_offset + field_width rela in
    let parts : (nat_le least rela.r_offset ≡ true) × (entries_rise bytes header after (k + 1) m ≡ true) = both (nat_le least rela.r_offset) (entries_rise bytes header after (k + 1) m) e in
    let behind : least ≤ rela.r_offset = at-least least rela.r_offset parts.0 in
    let more : least ≤ after = omega (arith, behind) in
    let here : after ≤ after = omega arith in
    ap (λ t. cond t (Some (BadRela n k)) (first_fault (overlap_checks_after (rela ∷ earlier) (sites_from bytes n header (k + 1) m)))) (none-shared rela least earlier h behind)
    ∙ no-overlap bytes n header (rela ∷ earlier) after (k + 1) m (here, end-before least after earlier more h) parts.1

-- the first field of a target with these sections of relocations that shares a byte with an earlier one
abbrev pub overlap_of : List ℕ → List (ℕ × Shdr) → Option InputFault
overlap_of bytes rows = first_fault (overlap_checks_after [] (sites_of bytes rows))

pub row_apart : (bytes : List ℕ) (row : ℕ × Shdr) → fields_rise bytes row.1 ≡ true → overlap_of bytes (row ∷ []) ≡ None
row_apart bytes row e =
    ap (λ (sites : List (ℕ × ℕ × Rela)). first_fault (overlap_checks_after [] sites)) (append-nil (sites_of_row bytes row))
    ∙ no-overlap bytes row.0 row.1 [] 0 0 (entry_count bytes row.1) tt e

-- ---- a target has at most one section of relocations

-- a section with its number holds relocations on this target
abbrev pub is_on : ℕ → ℕ × Shdr → Bool
is_on t row = row.1.sh_type == sht_rela && row.1.sh_info == t

another : (a b : ℕ) → b < a → (a == b) ≡ false
another a b l = grind (arith, nat_tests)

pub with-relocations : (least : ℕ) (header : Shdr) (headers : List Shdr) → targets_rise least (header ∷ headers) ≡ true → (header.sh_type == sht_rela) ≡ true → (nat_le least header.sh_info ≡ true) × (targets_rise (header.sh_info + 1) headers ≡ true)
with-relocations least header headers e s =
    both (nat_le least header.sh_info) (targets_rise (header.sh_info + 1) headers)
    (ap (λ t. cond t (nat_le least header.sh_info && targets_rise (header.sh_info + 1) headers) (targets_rise least headers)) (sym s) ∙ e)

pub without : (least : ℕ) (header : Shdr) (headers : List Shdr) → targets_rise least (header ∷ headers) ≡ true → (header.sh_type == sht_rela) ≡ false → targets_rise least headers ≡ true
without least header headers e s =
    ap (λ t. cond t (nat_le least header.sh_info && targets_rise (header.sh_info + 1) headers) (targets_rise least headers)) (sym s) ∙ e

pub on_it : (t n : ℕ) (header : Shdr) → (header.sh_type == sht_rela) ≡ true → (header.sh_info == t) ≡ true → is_on t (n, header) ≡ true
on_it t n header s i = ap (λ b. b && (header.sh_info == t)) s ∙ i

pub on_other : (t n : ℕ) (header : Shdr) → (header.sh_type == sht_rela) ≡ true → (header.sh_info == t) ≡ false → is_on t (n, header) ≡ false
on_other t n header s i = ap (λ b. b && (header.sh_info == t)) s ∙ i

pub on_none : (t n : ℕ) (header : Shdr) → (header.sh_type == sht_rela) ≡ false → is_on t (n, header) ≡ false
on_none t n header s = ap (λ b. b && (header.sh_info == t)) s

-- where the targets rise from this number on, no section of relocations is on one below it
pub none_before : (p : ℕ × Shdr → Bool) (t : ℕ) → ((row : ℕ × Shdr) → is_on t row ≡ false → p row ≡ false) → (n least : ℕ) (headers : List Shdr) → t < least → targets_rise least headers ≡ true → filter p (enumerate_from n headers) ≡ []
none_before p t h n least [] l e = refl
none_before p t h n least (header ∷ headers) l e =
    let rest : List (ℕ × Shdr) = filter p (enumerate_from (n + 1) headers) in
    either
    (header.sh_type == sht_rela)
    (λ s. let parts : (nat_le least header.sh_info ≡ true) × (targets_rise (header.sh_info + 1) headers ≡ true) = with-relocations least header headers e s in
    let there : least ≤ header.sh_info = at-least least header.sh_info parts.0 in
    let below : t < header.sh_info = omega (arith, l, there) in
    let before : t < header.sh_info + 1 = omega (arith, below) in
    ap (λ b. cond b ((n, header) ∷ rest) rest) (h (n, header) (on_other t n header s (another header.sh_info t below)))
    ∙ none_before p t h (n + 1) (header.sh_info + 1) headers before parts.1)
    (λ s. ap (λ b. cond b ((n, header) ∷ rest) rest) (h (n, header) (on_none t n header s))
    ∙ none_before p t h (n + 1) least headers l (without least header headers e s))

rises : (bytes : List ℕ) (header : Shdr) → (header.sh_type == sht_rela) ≡ true → is_apart bytes header ≡ true → fields_rise bytes header ≡ true
rises bytes header s e = ap (λ b. not b || fields_rise bytes header) (sym s) ∙ e

pub target_apart : (bytes : List ℕ) (t n least : ℕ) (headers : List Shdr) → targets_rise least headers ≡ true → list_all (is_apart bytes) headers ≡ true → overlap_of bytes (filter (is_on t) (enumerate_from n headers)) ≡ None
unfolding overlap_checks_after
target_apart bytes t n least [] e a = refl
target_apart bytes t n least (header ∷ headers) e a =
    let rest : List (ℕ × Shdr) = filter (is_on t) (enumerate_from (n + 1) headers) in
    let all : (is_apart bytes header ≡ true) × (list_all (is_apart bytes) headers ≡ true) = both (is_apart bytes header) (list_all (is_apart bytes) headers) a in
    either
    (header.sh_type == sht_rela)
    (λ s. let parts : (nat_le least header.sh_info ≡ true) × (targets_rise (header.sh_info + 1) headers ≡ true) = with-relocations least header headers e s in
    either
    (header.sh_info == t)
    (λ i. let same : header.sh_info ≡ t = eqb-true header.sh_info t i in
    let before : t < header.sh_info + 1 = omega (arith, same) in
    ap (λ b. overlap_of bytes (cond b ((n, header) ∷ rest) rest)) (on_it t n header s i)
    ∙ ap (λ (rows : List (ℕ × Shdr)). overlap_of bytes ((n, header) ∷ rows)) (none_before (is_on t) t (λ row o. o) (n + 1) (header.sh_info + 1) headers before parts.1)
    ∙ row_apart bytes (n, header) (rises bytes header s all.0))
    (λ i. ap (λ b. overlap_of bytes (cond b ((n, header) ∷ rest) rest)) (on_other t n header s i)
    ∙ target_apart bytes t (n + 1) (header.sh_info + 1) headers parts.1 all.1))
    (λ s. ap (λ b. overlap_of bytes (cond b ((n, header) ∷ rest) rest)) (on_none t n header s)
    ∙ target_apart bytes t (n + 1) least headers (without least header headers e s) all.1)
