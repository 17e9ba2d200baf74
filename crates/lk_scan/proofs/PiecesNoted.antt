-- Noting references one after another, piece by piece, gives what lk_model finds of them.
use Rattle.std.proofs.Common.{◌≡◌, refl, sym, ap, subst, ◌∙◌, ℕ, nat_eq, ◌==◌, Bool, true, false, cond, List, [], ◌∷◌, ◌++◌, find, fold, length, map, flat_map, filter, get_or, Option, None, Some, unwrap_or, Result, Ok, Err}
use Rattle.std.proofs.lemmas.List.{append_assoc, append-nil}
use Rattle.std.proofs.lemmas.List.Sums.{fold-append}
use Rattle.lk_elf.specs.Numbers.{stb_weak}
use Rattle.lk_elf.specs.declared.relocation.Rela.{Rela}
use Rattle.lk_report.specs.declared.faults.Fault.{Fault}
use Rattle.lk_model.specs.declared.layouts.Needs.{Needs}
use Rattle.lk_model.specs.declared.summaries.Contributions.{Contributions}
use Rattle.lk_model.specs.declared.summaries.Global.{Global}
use Rattle.lk_model.specs.declared.summaries.InputSummary.{InputSummary}
use Rattle.lk_model.specs.declared.summaries.PieceInfo.{PieceInfo}
use Rattle.lk_model.specs.Finding.{Found, is_kept_in}
use Rattle.lk_model.specs.NeedsOf.{address_needs, copy_needs, got_key_eq, got_needs, loaded_references, needs_of, plt_needs}
use Rattle.lk_model.specs.Numbered.{with_new}
use Rattle.lk_model.specs.Objects.{pieces_in, relocations_in, summary_in}
use Rattle.lk_model.specs.References.{Sited, number_of_name, recorded_of, reference_of, references_of, sited_in, through_of}
use Rattle.lk_model.specs.ScanFaults.{faults_at, faults_in, reported_once, with_fault}
use Rattle.lk_model.specs.Views.{Elf, Ref, Through}
use Rattle.lk_resolve.specs.NamedSymbols.{AreNamed}
use Rattle.lk_resolve.specs.Settling.{IsFound, ResolutionValue, is_place_kept}
use Rattle.lk_symtab.specs.NameRows.{all_symbols}
use Rattle.lk_scan.specs.declared.noting.Scan.{Scan}
use Rattle.lk_scan.specs.declared.scans.Scanned.{Scanned}
use Rattle.lk_scan.specs.declared.scans.ScanFailure.{ScanFailure}
use Rattle.lk_scan.specs.declared.scans.ScanFailure.TheVariants as failure
use Rattle.lk_scan.specs.Noted.{nothing_noted, with_piece, with_pieces, with_referral, with_relas}
use Rattle.lk_scan.specs.ReferralFaults.{faults_on}
use Rattle.lk_scan.specs.ReferralNeeds.{needs_with, recorded_on}
use Rattle.lk_scan.specs.Scans.{Answers, ScanGives, object_references, references_in}
use Rattle.lk_scan.specs.declared.targets.Referral.{Referral}
use Rattle.lk_scan.specs.Targets.{number_of_symbol, referral_of, setting_of, target_at, through_symbol}
use Rattle.lk_scan.specs.LinkScans.{joined, scan_of}
use Rattle.lk_scan.proofs.Joined.{faults-again}
use Rattle.lk_scan.proofs.NeedsJoined.{needs-again, needs_after}
use Rattle.lk_scan.proofs.ReferencesNoted.{faults_noted, needs_noted, recorded_noted, resolution_in}
use Rattle.lk_model.specs.SectionKeys.{is_alloc}
use Rattle.lk_elf.specs.RelocationInfo.{r_type_of}
use Rattle.lk_elf.specs.RelocationInfo.{r_symbol_of}

-- a scan followed by references as lk_model has them
abbrev after : Found → Elf → Scan → List Sited → Scan
after f elf s sited = record {
  needs = needs_after f s.needs (loaded_references sited);
  reported = fold with_fault s.reported (faults_in f elf sited);
  references = s.references ++ recorded_of (references_of sited);
}

abbrev needs_for : Found → Needs → Ref → Needs
needs_for f n x = record {
  got = fold (with_new got_key_eq) n.got (got_needs x);
  plt = fold (with_new nat_eq) n.plt (plt_needs f x);
  address = fold (with_new nat_eq) n.address (address_needs f x);
  copies = fold (with_new nat_eq) n.copies (copy_needs f x);
}

needs_next : (f : Found) (b : Bool) (n m : Needs) (x : Ref) (rest : List Ref) → m ≡ needs_for f n x → needs_after f (cond b m n) rest ≡ needs_after f n (cond b (x ∷ []) [] ++ rest)
needs_next f true n m x rest h =
    ap (λ (k : Needs). needs_after f k rest) h
    ∙ (λ i. record {
      got = sym (fold-append (with_new got_key_eq) n.got (got_needs x) (flat_map got_needs rest)) i;
      plt = sym (fold-append (with_new nat_eq) n.plt (plt_needs f x) (flat_map (plt_needs f) rest)) i;
      address = sym (fold-append (with_new nat_eq) n.address (address_needs f x) (flat_map (address_needs f) rest)) i;
      copies = sym (fold-append (with_new nat_eq) n.copies (copy_needs f x) (flat_map (copy_needs f) rest)) i;
    })
needs_next f false n m x rest h = refl

module _ (resolution : ResolutionValue) (found : Found) (elf : Elf) (summary : InputSummary) (input : ℕ) (kept : (i s : ℕ) → is_place_kept resolution.kept i s ≡ is_kept_in found i s) (named : (symbol : ℕ) → through_symbol resolution.rows summary input symbol ≡ through_of (all_symbols resolution.rows) summary symbol) where
  abbrev here : Found
  here = resolution_in resolution found

  abbrev sited : PieceInfo → Rela → Sited
  sited p rela = (p.key, reference_of (all_symbols resolution.rows) summary input p.section rela)

  -- a relocation as it is looked at, by what it goes through
  abbrev referral_to : PieceInfo → Rela → Through → Referral
  referral_to p rela through = record {
    input = input;
    section = p.section;
    offset = rela.r_offset;
    code = r_type_of rela;
    addend = rela.r_addend;
    target = target_at resolution elf input through;
  }

  -- one more reference, by the name of its symbol
  next_by_name : (p : PieceInfo) (s : Scan) (rela : Rela) (rest : List Sited)
      → after here elf (with_referral resolution.rows (get_or resolution.paths input []) (setting_of p.key) s (referral_to p rela (through_of (all_symbols resolution.rows) summary (r_symbol_of rela)))) rest ≡ after here elf s (sited p rela ∷ rest)
  next_by_name p s rela rest = λ i. record {
    needs = needs_next here (is_alloc p.key.class) s.needs (needs_with s.needs (referral_to p rela T)) (reference_of (all_symbols resolution.rows) summary input p.section rela) (loaded_references rest)
        (needs_noted resolution found elf input kept p.section rela.r_offset (r_type_of rela) rela.r_addend s.needs T) i;
    reported = reported i;
    references = references i;
  }
    where
      T : Through
      T = through_of (all_symbols resolution.rows) summary (r_symbol_of rela)

      reported : fold with_fault (fold with_fault s.reported (faults_on resolution.rows (get_or resolution.paths input []) (setting_of p.key) (referral_to p rela T))) (faults_in here elf rest) ≡ fold with_fault s.reported (faults_at here elf (sited p rela) ++ faults_in here elf rest)
      reported =
          ap (λ (l : List Fault). fold with_fault (fold with_fault s.reported l) (faults_in here elf rest)) (faults_noted resolution found elf input kept p.section rela.r_offset (r_type_of rela) rela.r_addend p.key T)
          ∙ sym (fold-append with_fault s.reported (faults_at here elf (sited p rela)) (faults_in here elf rest))

      references : (s.references ++ recorded_on (referral_to p rela T)) ++ recorded_of (references_of rest) ≡ s.references ++ recorded_of (references_of (sited p rela ∷ rest))
      references =
          append_assoc s.references (recorded_on (referral_to p rela T)) (recorded_of (references_of rest))
          ∙ ap (λ l. s.references ++ l) (recorded_noted resolution found elf input kept p.section rela.r_offset (r_type_of rela) rela.r_addend T (recorded_of (references_of rest)))

  -- one more reference, by the number of its symbol
  next : (p : PieceInfo) (s : Scan) (rela : Rela) (rest : List Sited) → after here elf (with_referral resolution.rows (get_or resolution.paths input []) (setting_of p.key) s (referral_of resolution elf summary input p.section rela)) rest ≡ after here elf s (sited p rela ∷ rest)
  next p s rela rest =
      ap (λ (through : Through). after here elf (with_referral resolution.rows (get_or resolution.paths input []) (setting_of p.key) s (referral_to p rela through)) rest) (named (r_symbol_of rela))
      ∙ next_by_name p s rela rest

  -- the references of one piece, then those of several
  relas : (p : PieceInfo) (s : Scan) (rs : List Rela) (rest : List Sited) → after here elf (with_relas resolution elf summary input p s rs) rest ≡ after here elf s (map (sited p) rs ++ rest)
  relas p s [] rest = refl
  relas p s (r ∷ rs) rest =
      relas p (with_referral resolution.rows (get_or resolution.paths input []) (setting_of p.key) s (referral_of resolution elf summary input p.section r)) rs rest
      ∙ next p s r (map (sited p) rs ++ rest)

  pieces : (s : Scan) (ps : List PieceInfo) → after here elf (with_pieces resolution elf summary input s ps) [] ≡ after here elf s (references_in here elf summary input ps)
  pieces s [] = refl
  pieces s (p ∷ ps) =
      pieces (with_piece resolution elf summary input s p) ps
      ∙ by (is_place_kept resolution.kept input p.section)
      ∙ ap (λ b. after here elf s (flat_map of (cond b (p ∷ others) others))) (kept input p.section)
    where
      of : PieceInfo → List Sited
      of q = sited_in (all_symbols resolution.rows) elf summary q.key input q.section

      others : List PieceInfo
      others = filter (λ (q : PieceInfo). is_kept_in found input q.section) ps

      by : (b : Bool) → after here elf (cond b (with_relas resolution elf summary input p s (relocations_in elf p.section)) s) (references_in here elf summary input ps) ≡ after here elf s (flat_map of (cond b (p ∷ others) others))
      by true = relas p s (relocations_in elf p.section) (references_in here elf summary input ps)
      by false = refl

  all_noted : (s : Scan) (ps : List PieceInfo) → with_pieces resolution elf summary input s ps ≡ after here elf s (references_in here elf summary input ps)
  all_noted s ps = ended (with_pieces resolution elf summary input s ps) ∙ pieces s ps
    where
      ended : (t : Scan) → t ≡ after here elf t []
      ended t = λ i. record { needs = t.needs; reported = t.reported; references = sym (append-nil t.references) i }

-- what is noted of all kept pieces is what lk_model finds of their references
abbrev pub IsNoted : ResolutionValue → Elf → ℕ → Found → Type 0
IsNoted resolution elf input f =
    let refs = object_references f elf input in
    let whole : Scan = record { needs = needs_of f refs; reported = reported_once (faults_in f elf refs); references = recorded_of (references_of refs) } in
    with_pieces resolution elf (summary_in elf) input nothing_noted (summary_in elf).pieces ≡ whole

-- through what each relocation of an object goes, by the number of its symbol, where the symbols are named
abbrev pub GoesByNumber : ResolutionValue → Elf → ℕ → Type 0
GoesByNumber resolution elf input = (symbol : ℕ) → through_symbol resolution.rows (summary_in elf) input symbol ≡ through_of (all_symbols resolution.rows) (summary_in elf) symbol

-- through what a relocation goes, by the first global of its symbol's number, with the name's number by the symbol
abbrev by_symbol : ResolutionValue → ℕ → ℕ → Option Global → Through
by_symbol resolution input symbol o = elim o [ None ↦ Through.ByLocal symbol | Some g ↦ Through.ByName (number_of_symbol resolution.rows input g.symbol) (g.binding == stb_weak) ]

-- the same, with the name's number by its text
abbrev by_text : ResolutionValue → ℕ → Option Global → Through
by_text resolution symbol o = elim o [ None ↦ Through.ByLocal symbol | Some g ↦ Through.ByName (number_of_name (all_symbols resolution.rows) g.name) (g.binding == stb_weak) ]

goes_by_number : (resolution : ResolutionValue) (found : Found) (elf : Elf) (input : ℕ) → IsFound resolution found → AreNamed found.names input (summary_in elf).globals → GoesByNumber resolution elf input
goes_by_number resolution found elf input h named = λ symbol. by symbol (find (λ (g : Global). g.symbol == symbol) (summary_in elf).globals) refl
  where
    own : AreNamed (all_symbols resolution.rows) input (summary_in elf).globals
    own = subst (λ (names : List Contributions). AreNamed names input (summary_in elf).globals) (sym h.names) named

    by : (symbol : ℕ) (o : Option Global) → find (λ (g : Global). g.symbol == symbol) (summary_in elf).globals ≡ o
        → by_symbol resolution input symbol o ≡ by_text resolution symbol o
    by symbol None e = refl
    by symbol (Some g) e = ap (λ (o : Option ℕ). Through.ByName (unwrap_or o (length resolution.rows)) (g.binding == stb_weak)) (own symbol g e)

noted_here : (resolution : ResolutionValue) (found : Found) (elf : Elf) (input : ℕ) → ((i s : ℕ) → is_place_kept resolution.kept i s ≡ is_kept_in found i s) → GoesByNumber resolution elf input → IsNoted resolution elf input (resolution_in resolution found)
unfolding needs_of summary_in
noted_here resolution found elf input kept named = all_noted resolution found elf (summary_in elf) input kept named nothing_noted (pieces_in elf)

is_resolution : (resolution : ResolutionValue) (found : Found) → IsFound resolution found → resolution_in resolution found ≡ found
is_resolution resolution found h = λ i. record {
  paths = h.paths i;
  entry = found.entry;
  added = found.added;
  dynamic = found.dynamic;
  names = h.names i;
  winners = h.winners i;
  visibilities = found.visibilities;
  sections = found.sections;
}

noted : (resolution : ResolutionValue) (found : Found) (elf : Elf) (input : ℕ) → IsFound resolution found → AreNamed found.names input (summary_in elf).globals → IsNoted resolution elf input found
noted resolution found elf input h named = subst (IsNoted resolution elf input) (is_resolution resolution found h) (noted_here resolution found elf input h.kept (goes_by_number resolution found elf input h named))

pub scan_answers : (resolution : ResolutionValue) (found : Found) (elf : Elf) (input : ℕ) (scan : Scan) (result : Result Scanned ScanFailure) → IsFound resolution found → AreNamed found.names input (summary_in elf).globals → scan ≡ with_pieces resolution elf (summary_in elf) input nothing_noted (summary_in elf).pieces → Answers scan result → ScanGives found elf (object_references found elf input) result
scan_answers resolution found elf input scan result h named e answers = by result answers
  where
    refs : List Sited
    refs = object_references found elf input

    reported : scan.reported ≡ reported_once (faults_in found elf refs)
    reported = ap (λ (s : Scan). s.reported) (e ∙ noted resolution found elf input h named)

    needs : scan.needs ≡ needs_of found refs
    needs = ap (λ (s : Scan). s.needs) (e ∙ noted resolution found elf input h named)

    references : scan.references ≡ recorded_of (references_of refs)
    references = ap (λ (s : Scan). s.references) (e ∙ noted resolution found elf input h named)

    by : (r : Result Scanned ScanFailure) → Answers scan r → ScanGives found elf refs r
    by (Ok s) a = (sym reported ∙ a.0, a.1 ∙ needs, a.2 ∙ references)
    by (Err (failure.Faults faults)) a = (a.0 ∙ reported, a.1)
    by (Err failure.NoMemory) a = a

-- the scan of an object, made after others, is joined to theirs
abbrev pub JoinsObject : ResolutionValue → Elf → ℕ → Scan → Found → Type 0
JoinsObject resolution elf input before f =
    with_pieces resolution elf (summary_in elf) input before (summary_in elf).pieces ≡ joined before (scan_of f elf (object_references f elf input))

after_again : (f : Found) (elf : Elf) (before : Scan) (sited : List Sited) → after f elf before sited ≡ joined before (scan_of f elf sited)
after_again f elf before sited = λ i. record {
  needs = sym (needs-again f before.needs sited) i;
  reported = sym (faults-again before.reported (faults_in f elf sited)) i;
  references = before.references ++ recorded_of (references_of sited);
}

joins_here : (resolution : ResolutionValue) (found : Found) (elf : Elf) (input : ℕ) (before : Scan) → ((i s : ℕ) → is_place_kept resolution.kept i s ≡ is_kept_in found i s) → GoesByNumber resolution elf input → JoinsObject resolution elf input before (resolution_in resolution found)
unfolding summary_in
joins_here resolution found elf input before kept named =
    all_noted resolution found elf (summary_in elf) input kept named before (pieces_in elf) ∙ after_again (resolution_in resolution found) elf before (object_references (resolution_in resolution found) elf input)

pub object_joins : (resolution : ResolutionValue) (found : Found) (elf : Elf) (input : ℕ) (before now : Scan) → IsFound resolution found → AreNamed found.names input (summary_in elf).globals → now ≡ with_pieces resolution elf (summary_in elf) input before (summary_in elf).pieces → now ≡ joined before (scan_of found elf (object_references found elf input))
object_joins resolution found elf input before now h named e =
    e ∙ subst (JoinsObject resolution elf input before) (is_resolution resolution found h) (joins_here resolution found elf input before h.kept (goes_by_number resolution found elf input h named))

pub some_scan : (a b : Scan) → Some a ≡ Some b → a ≡ b
some_scan a b e = cc
