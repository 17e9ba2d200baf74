-- Thread-local pieces lie in the thread-local segment: those with bytes in its file part, zeros in the rest.
use Rattle.std.specs.Prelude.{◌≡◌, ℕ, Bool, true, false, List, [], ◌∷◌, Option, Some, None, ◌+◌, ◌≤◌, find, refl}
use Rattle.std.specs.List.{AllByRecursion}
use Rattle.std.proofs.Common.{ap, arith, subst, sym, ◌∙◌}
use Rattle.std.proofs.lemmas.Bool.{both_ways}
use Rattle.lk_model.specs.Lawful.{Lawful}
use Rattle.lk_model.specs.Links.{LiesInTlsFile, LiesInTlsRest}
use Rattle.lk_model.specs.Loading.{headers_in, is_tls, tls_in}
use Rattle.lk_model.specs.SectionKeys.{same_class, same_key}
use Rattle.lk_model.specs.Segments.{program_headers, row_of_class, thread_segment, tls_segment}
use Rattle.lk_model.specs.Views.{Resolved}
use Rattle.lk_model.specs.declared.layouts.Class.{Class}
use Rattle.lk_model.specs.declared.layouts.Class.TheVariants.{R, X, W, WX, Tdata, Tbss, Bss, N}
use Rattle.lk_model.specs.declared.layouts.PieceRow.{PieceRow}
use Rattle.lk_model.specs.declared.layouts.Placement.{Placement}
use Rattle.lk_model.specs.declared.layouts.SectionKey.{SectionKey}
use Rattle.lk_model.specs.declared.layouts.SectionRow.{SectionRow}
use Rattle.lk_model.proofs.KeysFound.{same_key_self}
use Rattle.lk_law_placement.proofs.HolesRows.{one_number}
use Rattle.lk_law_loading.specs.Loadable.{ThreadNamed}
use Rattle.lk_law_loading.proofs.ClassRows.{ClassRow, class_row}
use Rattle.lk_law_loading.proofs.HeadersFound.{tls_found, tls_shown}
use Rattle.lk_law_loading.proofs.RowsOfPlace.{IsRow, of_row, thread_zeros_behind}

-- ---- the row of a thread-local class

tdata_class : (c : Class) → same_class c Tdata ≡ true → c ≡ Tdata
tdata_class Tdata same = refl
tdata_class R same = absurd (both_ways false refl same)
tdata_class X same = absurd (both_ways false refl same)
tdata_class W same = absurd (both_ways false refl same)
tdata_class WX same = absurd (both_ways false refl same)
tdata_class Tbss same = absurd (both_ways false refl same)
tdata_class Bss same = absurd (both_ways false refl same)
tdata_class N same = absurd (both_ways false refl same)

tbss_class : (c : Class) → same_class c Tbss ≡ true → c ≡ Tbss
tbss_class Tbss same = refl
tbss_class R same = absurd (both_ways false refl same)
tbss_class X same = absurd (both_ways false refl same)
tbss_class W same = absurd (both_ways false refl same)
tbss_class WX same = absurd (both_ways false refl same)
tbss_class Tdata same = absurd (both_ways false refl same)
tbss_class Bss same = absurd (both_ways false refl same)
tbss_class N same = absurd (both_ways false refl same)

-- where none is found, every item fails
none_found : {A : Type 0} (test : A → Bool) (xs : List A) → find test xs ≡ None → AllByRecursion (λ x. test x ≡ false) xs
none_found test [] none = tt
none_found {A} test (x ∷ xs) none = go (test x) refl (none_found test xs)
  where
    go : (b : Bool) → test x ≡ b → (find test xs ≡ None → AllByRecursion (λ y. test y ≡ false) xs) → AllByRecursion (λ y. test y ≡ false) (x ∷ xs)
    go true e rest = let some : Some x ≡ None = rw e at none in absurd (cc)
    go false e rest = (e, rest (rw e at none))

-- rows of one key are one row
one_row :
    (r : Resolved) (place : Placement)
    → Lawful r place
    → (a b : SectionRow)
    → IsRow place a
    → IsRow place b
    → a.key ≡ b.key
    → a ≡ b
one_row r place l a b first second keys =
    let same : same_key a.key b.key ≡ true = subst (λ (k : SectionKey). same_key a.key k ≡ true) keys (same_key_self a.key) in
    let number : first.number ≡ second.number = one_number place.sections first.number second.number a b l.distinct first.there second.there same in
    let there = first.there in
    let other = second.there in
    cc

-- the row of a class is the only one of it, where its key is
only_row :
    (r : Resolved) (place : Placement) (class : Class) (key : SectionKey)
    → Lawful r place
    → ((row : SectionRow) → IsRow place row → same_class row.key.class class ≡ true → row.key ≡ key)
    → (row : SectionRow)
    → IsRow place row
    → same_class row.key.class class ≡ true
    → row_of_class class place ≡ Some row
only_row r place class key l keyed row is same = go (row_of_class class place) refl
  where
    go : (o : Option SectionRow) → row_of_class class place ≡ o → row_of_class class place ≡ Some row
    go None e =
        let fails = of_row (λ (w : SectionRow). same_class w.key.class class ≡ false) place row is (none_found (λ (w : SectionRow). same_class w.key.class class) place.sections e) in
        absurd (both_ways (same_class row.key.class class) fails same)
    go (Some found) e =
        let f : ClassRow place class found = class_row place class found e in
        let keys : found.key ≡ row.key = keyed found f.is f.same ∙ sym (keyed row is same) in
        e ∙ ap Some (one_row r place l found row f.is is keys)

-- thread-local sections of a placement are one of each class
abbrev AreThreads : Placement → Type 0
AreThreads place = AllByRecursion (λ (row : SectionRow). ThreadNamed row.key) place.sections

named_row : (place : Placement) → AreThreads place → (row : SectionRow) → IsRow place row → ThreadNamed row.key
named_row place threads row is = of_row (λ (w : SectionRow). ThreadNamed w.key) place row is threads

bytes_row : (r : Resolved) (place : Placement) → Lawful r place → AreThreads place → (row : SectionRow) → IsRow place row → row.key.class ≡ Tdata → row_of_class Tdata place ≡ Some row
bytes_row r place l threads row is class =
    only_row r place Tdata row.key l
    (λ w other same. (named_row place threads w other).bytes (tdata_class w.key.class same) ∙ sym ((named_row place threads row is).bytes class))
    row is (ap (λ c. same_class c Tdata) class)

zeros_row : (r : Resolved) (place : Placement) → Lawful r place → AreThreads place → (row : SectionRow) → IsRow place row → row.key.class ≡ Tbss → row_of_class Tbss place ≡ Some row
zeros_row r place l threads row is class =
    only_row r place Tbss row.key l
    (λ w other same. (named_row place threads w other).zeros (tbss_class w.key.class same) ∙ sym ((named_row place threads row is).zeros class))
    row is (ap (λ c. same_class c Tbss) class)

-- ---- the segment

-- the segment that an image shows
shown : (place : Placement) (image : List ℕ) (exec_stack : Bool) → headers_in image ≡ program_headers place exec_stack → tls_in image ≡ tls_shown (thread_segment (row_of_class Tdata place) (row_of_class Tbss place))
unfolding tls_in tls_segment
shown place image exec_stack back = ap (find is_tls) back ∙ tls_found place exec_stack

lies_in_file : (row : SectionRow) (zeros : Option SectionRow) (p : PieceRow) → row.addr ≤ p.addr → p.addr + p.size ≤ row.addr + row.room → LiesInTlsFile (tls_shown (thread_segment (Some row) zeros)) p
lies_in_file row None p from to = (from, to)
lies_in_file row (Some z) p from to = (from, to)

-- a piece of the thread-local bytes lies in its file part
pub thread_bytes_lie :
    (r : Resolved) (place : Placement) (image : List ℕ) (exec_stack : Bool)
    → Lawful r place
    → AreThreads place
    → headers_in image ≡ program_headers place exec_stack
    → (row : SectionRow)
    → IsRow place row
    → row.key.class ≡ Tdata
    → (p : PieceRow)
    → row.addr ≤ p.addr
    → p.addr + p.size ≤ row.addr + row.room
    → LiesInTlsFile (tls_in image) p
thread_bytes_lie r place image exec_stack l threads back row is class p from to =
    let found = bytes_row r place l threads row is class in
    let same : tls_in image ≡ tls_shown (thread_segment (Some row) (row_of_class Tbss place)) =
    shown place image exec_stack back ∙ ap (λ o. tls_shown (thread_segment o (row_of_class Tbss place))) found in
    subst (λ o. LiesInTlsFile o p) (sym same) (lies_in_file row (row_of_class Tbss place) p from to)

-- the bytes, where there are some, end below the zeros
abbrev EndsBelow : Option SectionRow → SectionRow → Type 0
EndsBelow None row = Unit {0}
EndsBelow (Some d) row = d.addr + d.room ≤ row.addr

lies_in_rest : (row : SectionRow) (bytes : Option SectionRow) (p : PieceRow) → EndsBelow bytes row → row.addr ≤ p.addr → p.addr + p.size ≤ row.addr + row.room → LiesInTlsRest (tls_shown (thread_segment bytes (Some row))) p
lies_in_rest row None p below from to = (omega (arith, from), to)
lies_in_rest row (Some d) p below from to = (omega (arith, below, from), omega (arith, below, from, to))

-- a piece of the thread-local zeros lies in the rest
pub thread_zeros_lie :
    (r : Resolved) (place : Placement) (image : List ℕ) (exec_stack : Bool)
    → Lawful r place
    → AreThreads place
    → headers_in image ≡ program_headers place exec_stack
    → (row : SectionRow)
    → IsRow place row
    → row.key.class ≡ Tbss
    → (p : PieceRow)
    → row.addr ≤ p.addr
    → p.addr + p.size ≤ row.addr + row.room
    → LiesInTlsRest (tls_in image) p
thread_zeros_lie r place image exec_stack l threads back row is class p from to =
    let found = zeros_row r place l threads row is class in
    let same : tls_in image ≡ tls_shown (thread_segment (row_of_class Tdata place) (Some row)) =
    shown place image exec_stack back ∙ ap (λ o. tls_shown (thread_segment (row_of_class Tdata place) o)) found in
    subst (λ o. LiesInTlsRest o p) (sym same) (lies_in_rest row (row_of_class Tdata place) p (below (row_of_class Tdata place) refl) from to)
  where
    below : (o : Option SectionRow) → row_of_class Tdata place ≡ o → EndsBelow o row
    below None e = tt
    below (Some d) e =
        let f : ClassRow place Tdata d = class_row place Tdata d e in
        thread_zeros_behind r place l d row f.is is (tdata_class d.key.class f.same) class
