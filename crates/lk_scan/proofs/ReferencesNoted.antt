-- References that are noted by their targets have the faults, the needs and the records that lk_model has of them.
use Rattle.std.proofs.Common.{◌≡◌, refl, sym, ap, ◌∙◌, ℕ, ℤ, nat_eq, ◌==◌, ◌&&◌, not, Bool, true, false, cond, List, [], ◌∷◌, ◌++◌, fold, map, get_or, Option, Some, None, option_map, option_and_then, slice_get}
use Rattle.std.proofs.lemmas.Option.{slice_get-map}
use Rattle.std.specs.List.{cons_option}
use Rattle.lk_report.specs.declared.faults.Fault.{Fault}
use Rattle.lk_report.specs.declared.faults.Fault.TheVariants as fault
use Rattle.lk_report.specs.declared.faults.Site.{Site}
use Rattle.lk_model.specs.declared.layouts.Needs.{Needs}
use Rattle.lk_model.specs.declared.layouts.SectionKey.{SectionKey}
use Rattle.lk_model.specs.declared.records.Reference.{Reference}
use Rattle.lk_model.specs.declared.summaries.Contributions.{Contributions}
use Rattle.lk_model.specs.declared.summaries.Global.{Global}
use Rattle.lk_model.specs.declared.summaries.Winner.{Winner}
use Rattle.lk_model.specs.Finding.{Found, contributions_in, is_kept_in}
use Rattle.lk_model.specs.Forms.{is_address_form, is_thread_offset, r_x86_64_plt32}
use Rattle.lk_model.specs.NeedsOf.{address_needs, copy_needs, got_key_eq, got_needs, import_named, is_callable, is_variable, plt_needs}
use Rattle.lk_model.specs.Numbered.{with_new}
use Rattle.lk_model.specs.Objects.{local_in}
use Rattle.lk_model.specs.References.{recorded}
use Rattle.lk_model.specs.ScanFaults.{faults_at, is_unsupported, needs_local_sections, of_local_section, of_name}
use Rattle.lk_model.specs.Views.{Elf, Ref, Through}
use Rattle.lk_model.specs.Winners.{import_symbol, is_nothing, is_tls_winner}
use Rattle.lk_resolve.specs.Settling.{ResolutionValue, is_place_kept}
use Rattle.lk_symtab.specs.NameRows.{NameRow, all_symbols, row_winner, symbols_in}
use Rattle.lk_scan.specs.declared.targets.Import.{Import}
use Rattle.lk_scan.specs.declared.targets.Referral.{Referral}
use Rattle.lk_scan.specs.declared.targets.Target.{Target}
use Rattle.lk_scan.specs.declared.targets.Way.TheVariants as way
use Rattle.lk_scan.specs.ReferralFaults.{faults_on, is_empty_copy, of_import, undefined_name_at}
use Rattle.lk_scan.specs.ReferralNeeds.{needs_of_some, needs_with, needs_with_slots, recorded_on}
use Rattle.lk_scan.specs.Targets.{import_in, import_seen, name_target, row_import, setting_of, target_at, target_with, unknown_target}
use Rattle.lk_model.specs.SectionKeys.{is_alloc}

-- two nested choices in the other order
swapped : (b : Bool) (o : Option Contributions) (h : Contributions → List Fault) → cond {A = List Fault} b (elim o [ None ↦ [] | Some cs ↦ h cs ]) [] ≡ elim o [ None ↦ [] | Some cs ↦ cond b (h cs) [] ]
swapped true None h = refl
swapped true (Some cs) h = refl
swapped false None h = refl
swapped false (Some cs) h = refl

abbrev no_numbers : List ℕ
no_numbers = []

nothing : (b : Bool) → cond b no_numbers no_numbers ≡ no_numbers
nothing true = refl
nothing false = refl

nested : (a b : Bool) (xs : List ℕ) → cond (a && b) xs [] ≡ cond a (cond b xs []) []
nested true b xs = refl
nested false b xs = refl

-- an import with the number of its name
abbrev paired : ℕ → Option Global → Option (ℕ × Global)
paired n m = option_map (λ (g : Global). (n, g)) m

-- what resolution finds, with the paths, names and winners of the code's `Resolution`
abbrev pub resolution_in : ResolutionValue → Found → Found
resolution_in resolution found = record found { paths = resolution.paths; names = all_symbols resolution.rows; winners = map row_winner resolution.rows }

module _ (resolution : ResolutionValue) (found : Found) (elf : Elf) (input : ℕ) (kept : (i s : ℕ) → is_place_kept resolution.kept i s ≡ is_kept_in found i s) where
  abbrev rows : List NameRow
  rows = resolution.rows

  abbrev path : List ℕ
  path = get_or resolution.paths input []

  abbrev here : Found
  here = resolution_in resolution found

  -- the symbols and the winner of the name with a number
  symbols_is : (n : ℕ) → option_map symbols_in (slice_get resolution.rows n) ≡ slice_get (map symbols_in resolution.rows) n
  symbols_is n = sym (slice_get-map symbols_in resolution.rows n)

  winner_is : (n : ℕ) → option_map row_winner (slice_get resolution.rows n) ≡ slice_get (map row_winner resolution.rows) n
  winner_is n = sym (slice_get-map row_winner resolution.rows n)

  -- the import of the name with a number
  abbrev import_by : Option Contributions → Option Winner → Option Global
  import_by on ow = option_and_then (λ (cs : Contributions). option_and_then (import_symbol cs) ow) on

  import_row : (o : Option NameRow) → option_and_then row_import o ≡ import_by (option_map symbols_in o) (option_map row_winner o)
  import_row None = refl
  import_row (Some row) = refl

  import_is : (n : ℕ) → import_in resolution.rows n ≡ import_named here n
  import_is n = import_row (slice_get resolution.rows n) ∙ (λ i. import_by (symbols_is n i) (winner_is n i))

  -- a test of the symbols and the winner of the name with a number
  abbrev passes_by : Option Contributions → Option Winner → (Contributions → Winner → Bool) → Bool
  passes_by on ow passes = elim on [ None ↦ false | Some cs ↦ elim ow [ None ↦ false | Some w ↦ passes cs w ] ]

  abbrev target_by : ℕ → Bool → Option Contributions → Option Winner → Target
  target_by n weak on ow = record {
    way = way.Name n weak;
    is_undefined = not weak && passes_by on ow (λ cs w. is_nothing w);
    is_dropped = false;
    is_tls = passes_by on ow is_tls_winner;
    is_no_tls = passes_by on ow (λ cs w. not (is_nothing w) && not (is_tls_winner cs w));
    import = option_map (import_seen n) (import_by on ow);
  }

  target_row : (n : ℕ) (weak : Bool) (o : Option NameRow) → elim o [ None ↦ unknown_target n weak | Some row ↦ target_with n weak row.contributions (row_winner row) ] ≡ target_by n weak (option_map symbols_in o) (option_map row_winner o)
  target_row n true None = refl
  target_row n false None = refl
  target_row n weak (Some row) = refl

  abbrev target_here : ℕ → Bool → Target
  target_here n weak = target_by n weak (slice_get (map symbols_in resolution.rows) n) (slice_get (map row_winner resolution.rows) n)

  target_is : (n : ℕ) (weak : Bool) → name_target resolution.rows n weak ≡ target_here n weak
  target_is n weak = target_row n weak (slice_get resolution.rows n) ∙ (λ i. target_by n weak (symbols_is n i) (winner_is n i))

  -- the fault of an undefined name
  abbrev named_by : Site → Option Contributions → List Fault
  named_by site on = elim on [ None ↦ [] | Some cs ↦ fault.Undefined cs.name site ∷ [] ]

  named_row : (site : Site) (o : Option NameRow) → elim o [ None ↦ [] | Some row ↦ fault.Undefined row.contributions.name site ∷ [] ] ≡ named_by site (option_map symbols_in o)
  named_row site None = refl
  named_row site (Some row) = refl

  named_is : (n : ℕ) (weak : Bool) (site : Site) → undefined_name_at resolution.rows (way.Name n weak) site ≡ named_by site (slice_get (map symbols_in resolution.rows) n)
  named_is n weak site = named_row site (slice_get resolution.rows n) ∙ ap (named_by site) (symbols_is n)

  -- a relocation by its target in the code, and by lk_model's reference
  module _ (section offset code : ℕ) (addend : ℤ) where
    abbrev referral : Target → Referral
    referral t = record { input = input; section = section; offset = offset; code = code; addend = addend; target = t }

    abbrev ref : Through → Ref
    ref T = record { input = input; section = section; offset = offset; code = code; addend = addend; through = T }

    abbrev site : Site
    site = record { path = get_or resolution.paths input []; section = section; offset = offset }

    -- the faults of a reference to an import
    imported : (n : ℕ) (weak : Bool) (t : Target) (m : Option Global) → import_in resolution.rows n ≡ m
        → elim (option_map (import_seen n) m) [ None ↦ [] | Some import ↦ of_import resolution.rows (get_or resolution.paths input []) (referral t) import ]
        ≡ ◌++◌ {A = Fault}
        (elim (paired n m) [ None ↦ [] | Some import ↦ cond (is_address_form code && (is_variable import.1 && (import.1.size == 0))) (fault.CopyOfZero import.1.name site ∷ []) [] ])
        (elim (paired n m) [ None ↦ [] | Some import ↦ cond (is_thread_offset code) (fault.ImportedTlsDirect import.1.name site ∷ []) [] ])
    imported n weak t None e = refl
    imported n weak t (Some g) e =
        λ i. cond (is_empty_copy code (import_seen n g)) (elim (e i) [ None ↦ [] | Some h ↦ fault.CopyOfZero h.name site ∷ [] ]) []
        ++ cond (is_thread_offset code) (elim (e i) [ None ↦ [] | Some h ↦ fault.ImportedTlsDirect h.name site ∷ [] ]) []

    pub faults_noted : (key : SectionKey) (T : Through) → faults_on resolution.rows (get_or resolution.paths input []) (setting_of key) (referral (target_at resolution elf input T)) ≡ faults_at here elf (key, ref T)
    faults_noted key (Through.ByLocal s) =
        λ i. cond (needs_local_sections key && of_local_section (local_in elf s) (λ k. not (kept input k i))) (fault.DroppedLocal site ∷ []) []
        ++ cond (is_unsupported here elf (is_alloc key.class) (ref (Through.ByLocal s))) (fault.Unsupported code site ∷ []) []
        ++ cond (is_alloc key.class) [] []
    faults_noted key (Through.ByName n weak) =
        (λ i. faults_on resolution.rows (get_or resolution.paths input []) (setting_of key) (referral (target_is n weak i)))
        ∙ (λ i. undefined i
        ++ cond (needs_local_sections key && false) (fault.DroppedLocal site ∷ []) []
        ++ cond (is_unsupported here elf (is_alloc key.class) (ref (Through.ByName n weak))) (fault.Unsupported code site ∷ []) []
        ++ cond (is_alloc key.class) (imported n weak (target_here n weak) (import_named here n) (import_is n) i) [])
      where
        is_undefined : Bool
        is_undefined = not weak && of_name here n (λ others w. is_nothing w)

        undefined : cond is_undefined (undefined_name_at resolution.rows (way.Name n weak) site) [] ≡ elim (contributions_in here n) [ None ↦ [] | Some cs ↦ cond is_undefined (fault.Undefined cs.name site ∷ []) [] ]
        undefined = ap (λ l. cond is_undefined l []) (named_is n weak site) ∙ swapped is_undefined (contributions_in here n) (λ (cs : Contributions). fault.Undefined cs.name site ∷ [])

    -- what the reference needs
    abbrev needs_for : Needs → Ref → Needs
    needs_for n x = record {
      got = fold (with_new got_key_eq) n.got (got_needs x);
      plt = fold (with_new nat_eq) n.plt (plt_needs here x);
      address = fold (with_new nat_eq) n.address (address_needs here x);
      copies = fold (with_new nat_eq) n.copies (copy_needs here x);
    }

    abbrev where_ : (Global → Bool) → Option (ℕ × Global) → List ℕ
    where_ passes m = elim m [ None ↦ [] | Some import ↦ cond (passes import.1) (import.0 ∷ []) [] ]

    abbrev needs_by : Needs → Option (ℕ × Global) → Needs
    needs_by n m = record {
      got = n.got;
      plt = fold (with_new nat_eq) n.plt (cond (code == r_x86_64_plt32) (where_ (λ g. true) m) [] ++ cond (is_address_form code) (where_ is_callable m) []);
      address = fold (with_new nat_eq) n.address (cond (is_address_form code) (where_ is_callable m) []);
      copies = fold (with_new nat_eq) n.copies (cond (is_address_form code) (where_ is_variable m) []);
    }

    needs_import : (n : Needs) (m : Option (ℕ × Global)) → needs_of_some n code (option_map (λ (p : ℕ × Global). import_seen p.0 p.1) m) ≡ needs_by n m
    needs_import n None = λ i. record {
      got = n.got;
      plt = fold (with_new nat_eq) n.plt (sym (nothing (code == r_x86_64_plt32)) i ++ sym (nothing (is_address_form code)) i);
      address = fold (with_new nat_eq) n.address (sym (nothing (is_address_form code)) i);
      copies = fold (with_new nat_eq) n.copies (sym (nothing (is_address_form code)) i);
    }
    needs_import n (Some p) = λ i. record {
      got = n.got;
      plt = fold (with_new nat_eq) n.plt (cond (code == r_x86_64_plt32) (p.0 ∷ []) [] ++ nested (is_address_form code) (is_callable p.1) (p.0 ∷ []) i);
      address = fold (with_new nat_eq) n.address (nested (is_address_form code) (is_callable p.1) (p.0 ∷ []) i);
      copies = fold (with_new nat_eq) n.copies (nested (is_address_form code) (is_variable p.1) (p.0 ∷ []) i);
    }

    seen_twice : (n : ℕ) (o : Option Global) → option_map (import_seen n) o ≡ option_map (λ (p : ℕ × Global). import_seen p.0 p.1) (option_map (λ (g : Global). (n, g)) o)
    seen_twice n None = refl
    seen_twice n (Some g) = refl

    pub needs_noted : (n : Needs) (T : Through) → needs_with n (referral (target_at resolution elf input T)) ≡ needs_for n (ref T)
    needs_noted n (Through.ByLocal s) = needs_import (needs_with_slots n (referral (target_at resolution elf input (Through.ByLocal s)))) None
    needs_noted n (Through.ByName k weak) =
        (λ i. needs_with n (referral (target_is k weak i)))
        ∙ ap (λ (o : Option Import). needs_of_some (needs_with_slots n (referral (target_here k weak))) code o) (seen_twice k (import_named here k))
        ∙ needs_import (needs_with_slots n (referral (target_here k weak))) (option_map (λ (g : Global). (k, g)) (import_named here k))

    -- what an image records of the reference
    pub recorded_noted : (T : Through) (rest : List Reference) → recorded_on (referral (target_at resolution elf input T)) ++ rest ≡ cons_option (recorded (ref T)) rest
    recorded_noted (Through.ByLocal s) rest = refl
    recorded_noted (Through.ByName n weak) rest = λ i. recorded_on (referral (target_is n weak i)) ++ rest
