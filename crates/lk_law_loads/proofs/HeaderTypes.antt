-- Which program headers are LOADs, and which are DYNAMIC.
use Rattle.std.specs.Prelude.{◌≡◌, ℕ, Bool, false, List, [], ◌∷◌, ◌++◌, Option, Some, None, ◌==◌, ◌+◌, codes, filter, find, length, map, refl}
use Rattle.std.specs.List.{AllByRecursion}
use Rattle.std.proofs.Common.{ap, subst, sym, ◌∙◌}
use Rattle.lk_elf.specs.Numbers.{pt_dynamic, pt_interp, pt_note, pf_r, pf_w}
use Rattle.lk_elf.specs.declared.program_header.Phdr.{Phdr}
use Rattle.lk_model.specs.SectionKeys.{same_key, named, is_note}
use Rattle.lk_model.specs.SectionOrder.{Second}
use Rattle.lk_model.specs.Segments.{headers_from_loads, headers_where, note_headers, program_headers, second_load, section_header_of, segment_rows, stack_header, table_header, third_load, tls_header, tls_segment}
use Rattle.lk_model.specs.declared.layouts.Class.TheVariants.{R, W}
use Rattle.lk_model.specs.declared.layouts.Placement.{Placement}
use Rattle.lk_model.specs.declared.layouts.SectionRow.{SectionRow}
use Rattle.lk_model.specs.declared.layouts.TlsSegment.{TlsSegment}
use Rattle.lk_law_placement.proofs.DistinctLists.{all_joined}
use Rattle.lk_law_loading.proofs.HeadersFound.{NoneOf, before_loads, behind_loads, dynamic_headers, in_groups, interp_headers, loads}

-- ---- headers of other types

none_where : (wanted type flags : ℕ) (test : SectionRow → Bool) (place : Placement) → (type == wanted) ≡ false → NoneOf wanted (headers_where type flags test place)
none_where wanted type flags test place other = go (filter test place.sections)
  where
    go : (rows : List SectionRow) → NoneOf wanted (map (section_header_of type flags) rows)
    go [] = tt
    go (row ∷ rows) = (other, go rows)

none_table : (wanted : ℕ) (interps : List Phdr) (others : ℕ) → (6 == wanted) ≡ false → NoneOf wanted (table_header interps others)
none_table wanted [] others other = tt
none_table wanted (interp ∷ interps) others other = (other, tt)

none_tls : (wanted : ℕ) (o : Option TlsSegment) → (7 == wanted) ≡ false → NoneOf wanted (tls_header o)
none_tls wanted None other = tt
none_tls wanted (Some segment) other = (other, tt)

-- none of those before the segments
pub none_before : (wanted : ℕ) (place : Placement) (exec_stack : Bool) → (6 == wanted) ≡ false → (3 == wanted) ≡ false → NoneOf wanted (before_loads place exec_stack)
none_before wanted place exec_stack table interp =
    all_joined (λ (h : Phdr). (h.p_type == wanted) ≡ false) (table_header (interp_headers place) (length (interp_headers place ++ headers_from_loads place exec_stack))) (interp_headers place)
    (none_table wanted (interp_headers place) (length (interp_headers place ++ headers_from_loads place exec_stack)) table)
    (none_where wanted pt_interp pf_r (λ (row : SectionRow). same_key row.key (named (codes ".interp") R)) place interp)

-- none of those behind them but DYNAMIC
none_last : (wanted : ℕ) (place : Placement) (exec_stack : Bool) → (4 == wanted) ≡ false → (7 == wanted) ≡ false → (1685382481 == wanted) ≡ false → NoneOf wanted (note_headers place ++ (tls_header (tls_segment place) ++ stack_header exec_stack ∷ []))
none_last wanted place exec_stack note tls stack =
    all_joined (λ (h : Phdr). (h.p_type == wanted) ≡ false) (note_headers place) (tls_header (tls_segment place) ++ stack_header exec_stack ∷ [])
    (none_where wanted pt_note pf_r (λ (row : SectionRow). is_note row.key) place note)
    (all_joined (λ (h : Phdr). (h.p_type == wanted) ≡ false) (tls_header (tls_segment place)) (stack_header exec_stack ∷ []) (none_tls wanted (tls_segment place) tls) (stack, tt))

-- no LOAD is behind the segments
pub no_load_behind : (place : Placement) (exec_stack : Bool) → NoneOf 1 (behind_loads place exec_stack)
no_load_behind place exec_stack =
    all_joined (λ (h : Phdr). (h.p_type == 1) ≡ false) (dynamic_headers place) (note_headers place ++ (tls_header (tls_segment place) ++ stack_header exec_stack ∷ []))
    (none_where 1 pt_dynamic (pf_r + pf_w) (λ (row : SectionRow). same_key row.key (named (codes ".dynamic") W)) place refl)
    (none_last 1 place exec_stack refl refl refl)

-- ---- images without a dynamic section

-- no section of a placement is the dynamic section
abbrev pub HasNoDynamic : Placement → Type 0
HasNoDynamic place = AllByRecursion (λ (row : SectionRow). same_key row.key (named (codes ".dynamic") W) ≡ false) place.sections

no_row : (rows : List SectionRow) → AllByRecursion (λ (row : SectionRow). same_key row.key (named (codes ".dynamic") W) ≡ false) rows → filter (λ (row : SectionRow). same_key row.key (named (codes ".dynamic") W)) rows ≡ []
no_row [] none = refl
no_row (row ∷ rows) none = rw (none.0) (no_row rows none.1)

no_dynamic : (place : Placement) → HasNoDynamic place → NoneOf 2 (dynamic_headers place)
no_dynamic place none = subst (λ (rows : List SectionRow). NoneOf 2 (map (section_header_of pt_dynamic (pf_r + pf_w)) rows)) (sym (no_row place.sections none)) tt

pub none_second : (place : Placement) (rows : List SectionRow) → NoneOf 2 (second_load place rows)
none_second place [] = tt
none_second place (row ∷ rows) = (refl, tt)

none_loads : (place : Placement) (exec_stack : Bool) → HasNoDynamic place → NoneOf 2 (loads place exec_stack)
none_loads place exec_stack none =
    let behind : NoneOf 2 (behind_loads place exec_stack) =
    all_joined (λ (h : Phdr). (h.p_type == 2) ≡ false) (dynamic_headers place) (note_headers place ++ (tls_header (tls_segment place) ++ stack_header exec_stack ∷ []))
    (no_dynamic place none)
    (none_last 2 place exec_stack refl refl refl) in
    let rest : NoneOf 2 (third_load place ∷ behind_loads place exec_stack) = (refl, behind) in
    (refl, all_joined (λ (h : Phdr). (h.p_type == 2) ≡ false) (second_load place (segment_rows Second place)) (third_load place ∷ behind_loads place exec_stack) (none_second place (segment_rows Second place)) rest)

find_none : (hs : List Phdr) → NoneOf 2 hs → find (λ (h : Phdr). h.p_type == 2) hs ≡ None
find_none [] none = refl
find_none (h ∷ hs) none = rw (none.0) (find_none hs none.1)

-- no header is DYNAMIC
pub no_dynamic_header : (place : Placement) (exec_stack : Bool) → HasNoDynamic place → find (λ (h : Phdr). h.p_type == 2) (program_headers place exec_stack) ≡ None
no_dynamic_header place exec_stack none =
    ap (find (λ (h : Phdr). h.p_type == 2)) (in_groups place exec_stack)
    ∙ find_none (before_loads place exec_stack ++ loads place exec_stack)
    (all_joined (λ (h : Phdr). (h.p_type == 2) ≡ false) (before_loads place exec_stack) (loads place exec_stack) (none_before 2 place exec_stack refl refl) (none_loads place exec_stack none))
