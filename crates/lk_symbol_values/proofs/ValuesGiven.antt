-- The values of names and the numbers of relocations are lk_model's.
use Rattle.std.proofs.Common.{◌≡◌, refl, sym, ap, ◌∙◌, arith, ℕ, ◌+◌, ◌-◌, ◌%◌, ◌^◌, ◌==◌, Bool, true, false, if◌then◌else◌, List, [], find, position, slice_get, unwrap_or, Option, Some, None, option_map}
use Rattle.std.proofs.Math.Nat.{add-mod-mod, mod-mod}
use Rattle.std.proofs.lemmas.Option.{slice_get-map}
use Rattle.std.specs.Str.{bytes_eq}
use Rattle.lk_report.specs.declared.causes.OptionRecord.{OptionRecord}
use Rattle.lk_model.specs.Amounts.{minus}
use Rattle.lk_model.specs.FileHeader.{entry_value}
use Rattle.lk_model.specs.Lawful.{Lawful}
use Rattle.lk_model.specs.MadeSymbols.{made_value}
use Rattle.lk_model.specs.Segments.{tls_end, tls_start}
use Rattle.lk_model.specs.SymbolValues.{block_edge, call_value, got_address, home_value, is_placed_winner, is_thread_slot, name_of, name_value, numbers_of, owner_value, placed_address, plt_address, section_address, slot_address, slot_value, symbol_of, winner_of_name, winner_size, winner_value}
use Rattle.lk_model.specs.Views.{Input, Resolved}
use Rattle.lk_model.specs.Views.Through.{ByName}
use Rattle.lk_model.specs.declared.layouts.GotOwner.TheVariants as owner
use Rattle.lk_model.specs.declared.layouts.Needs.{Needs}
use Rattle.lk_model.specs.declared.layouts.PieceId.TheVariants as id
use Rattle.lk_model.specs.declared.layouts.Placement.{Placement}
use Rattle.lk_model.specs.declared.summaries.Contributions.{Contributions}
use Rattle.lk_model.specs.declared.summaries.Global.{Global}
use Rattle.lk_model.specs.declared.summaries.InputSummary.{InputSummary}
use Rattle.lk_model.specs.declared.summaries.Winner.{Winner}
use Rattle.lk_model.specs.declared.summaries.Winner.TheVariants as winner
use Rattle.lk_model.specs.InputNames.{input_summary}
use Rattle.lk_symtab.specs.NameRows.{NameRow, number_of, row_winner, symbols_in}
use Rattle.lk_resolve.proofs.Seen.{Sees}
use Rattle.lk_symbol_values.specs.InputSymbols.{has_number, symbol_in}
use Rattle.lk_symbol_values.specs.NameValues.{call_in, given_in, slot_content_by, made_by, size_in, value_in}
use Rattle.lk_symbol_values.specs.Sections.{low_64}
use Rattle.lk_symbol_values.specs.SymbolNumbering.{ValueInputs, content_of, owner_slot, value_at, value_with, symbol_numbers_by, symbol_numbers_of}
use Rattle.lk_symbol_values.specs.declared.name_values.SymbolValue.{SymbolValue}
use Rattle.lk_symbol_values.proofs.MadeGiven.{made_reported}

abbrev pub winner_with : Option NameRow → Winner
winner_with None = winner.Nothing
winner_with (Some row) = row_winner row

abbrev pub name_with : Option NameRow → List ℕ
name_with None = []
name_with (Some row) = row.contributions.name

low_again : (n : ℕ) → low_64 (low_64 n) ≡ low_64 n
low_again n = mod-mod n (2 ^ 64)

-- what a GOT slot holds of a name
abbrev slot_content : Placement → Winner → ℕ → ℕ → ℕ
slot_content place w n s = elim w [ winner.Import i k ↦ placed_address place (id.Copy n) | _ ↦ s ]

call_low : (place : Placement) (w : Winner) (n s : ℕ) → call_in place w n (low_64 s) ≡ low_64 (call_value place w n s)
call_low place winner.Nothing n s = refl
call_low place (winner.Strong i k) n s = refl
call_low place (winner.Common size align) n s = refl
call_low place (winner.Weak i k) n s = refl
call_low place winner.Made n s = refl
call_low place (winner.Import i k) n s = by (plt_address place n)
  where
    by : (o : Option ℕ) → unwrap_or (option_map low_64 o) (low_64 s) ≡ low_64 (unwrap_or o s)
    by None = refl
    by (Some a) = refl

stored_low : (summaries : List InputSummary) (place : Placement) (w : Winner) (n s : ℕ) → slot_content_by (given_in summaries place n w) w (low_64 s) ≡ low_64 (slot_content place w n s)
stored_low summaries place winner.Nothing n s = refl
stored_low summaries place (winner.Strong i k) n s = refl
stored_low summaries place (winner.Common size align) n s = refl
stored_low summaries place (winner.Weak i k) n s = refl
stored_low summaries place winner.Made n s = refl
stored_low summaries place (winner.Import i k) n s = refl

-- a symbol of an input with a number
abbrev symbol_with : ℕ → Option InputSummary → Option Global
symbol_with symbol None = None
symbol_with symbol (Some x) = find (has_number symbol) x.globals

abbrev symbol_by : ℕ → Option Input → Option Global
symbol_by symbol None = None
symbol_by symbol (Some x) = find (λ g. g.symbol == symbol) x.summary.globals

symbol_there : (symbol : ℕ) (o : Option Input) → symbol_with symbol (option_map input_summary o) ≡ symbol_by symbol o
symbol_there symbol None = refl
symbol_there symbol (Some x) = refl

-- what a value has to do with the model's value, PLT entry, size, place and slot of a name
record Reports (v : SymbolValue) (s l z : ℕ) (here : Bool) (h : ℕ) : Type 0 where
  value : v.value ≡ low_64 s
  call : v.call ≡ low_64 l
  size : v.size ≡ z
  placed : v.placed ≡ here
  got_content : v.got_content ≡ low_64 h

module _ (known : ValueInputs) (needs : Needs) (options : OptionRecord) (r : Resolved) (s : Sees known.resolution known.summaries needs options r) (lawful : Lawful r known.place) where
  pub symbol_seen : (input symbol : ℕ) → symbol_in known.summaries input symbol ≡ symbol_of r input symbol
  symbol_seen input symbol =
      ap (symbol_with symbol) (ap (λ l. slice_get l input) (sym s.summarized) ∙ slice_get-map input_summary r.inputs input)
      ∙ symbol_there symbol (slice_get r.inputs input)

  pub winner_seen : (n : ℕ) → winner_with (slice_get known.resolution.rows n) ≡ winner_of_name r n
  winner_seen n =
      by (slice_get known.resolution.rows n)
      ∙ ap (λ o. elim o [ None ↦ winner.Nothing | Some w ↦ w ]) (sym (ap (λ l. slice_get l n) s.winners ∙ slice_get-map row_winner known.resolution.rows n))
    where
      by : (o : Option NameRow) → winner_with o ≡ elim (option_map row_winner o) [ None ↦ winner.Nothing | Some w ↦ w ]
      by None = refl
      by (Some row) = refl

  name_seen : (n : ℕ) → name_with (slice_get known.resolution.rows n) ≡ name_of r n
  name_seen n =
      by (slice_get known.resolution.rows n)
      ∙ ap (λ o. elim o [ None ↦ [] | Some c ↦ c.name ]) (sym (ap (λ l. slice_get l n) s.names ∙ slice_get-map symbols_in known.resolution.rows n))
    where
      by : (o : Option NameRow) → name_with o ≡ elim (option_map symbols_in o) [ None ↦ [] | Some c ↦ c.name ]
      by None = refl
      by (Some row) = refl

  value_low : (n : ℕ) (name : List ℕ) (w : Winner) → low_64 (value_in known.summaries known.place (made_by known.place name w) n w) ≡ low_64 (winner_value r known.place n name w)
  value_low n name winner.Nothing = refl
  value_low n name (winner.Strong i k) = ap (λ (o : Option Global). low_64 (elim o [ None ↦ 0 | Some g ↦ home_value known.place i g.home g.value ])) (symbol_seen i k)
  value_low n name (winner.Common size align) = refl
  value_low n name (winner.Weak i k) = ap (λ (o : Option Global). low_64 (elim o [ None ↦ 0 | Some g ↦ home_value known.place i g.home g.value ])) (symbol_seen i k)
  value_low n name winner.Made = ap low_64 (made_reported r known.place lawful name) ∙ low_again (made_value r known.place name)
  value_low n name (winner.Import i k) = refl

  size_seen : (w : Winner) → size_in known.summaries w ≡ winner_size r w
  size_seen winner.Nothing = refl
  size_seen (winner.Strong i k) = ap (λ (o : Option Global). elim o [ None ↦ 0 | Some g ↦ g.size ]) (symbol_seen i k)
  size_seen (winner.Common size align) = refl
  size_seen (winner.Weak i k) = ap (λ (o : Option Global). elim o [ None ↦ 0 | Some g ↦ g.size ]) (symbol_seen i k)
  size_seen winner.Made = refl
  size_seen (winner.Import i k) = ap (λ (o : Option Global). elim o [ None ↦ 0 | Some g ↦ g.size ]) (symbol_seen i k)

  row_reports : (n : ℕ) (o : Option NameRow) → (let w = winner_with o in let v = winner_value r known.place n (name_with o) w in
      Reports (value_with known.summaries known.place n o) v (call_value known.place w n v) (winner_size r w) (is_placed_winner w) (slot_content known.place w n v))
  row_reports n None = record { value = refl; call = refl; size = refl; placed = refl; got_content = refl }
  row_reports n (Some row) =
      let w = row_winner row in
      let v = winner_value r known.place n row.contributions.name w in
      let same = value_low n row.contributions.name w in
      record {
        value = same;
        call = ap (call_in known.place w n) same ∙ call_low known.place w n v;
        size = size_seen w;
        placed = refl;
        got_content = ap (slot_content_by (given_in known.summaries known.place n w) w) same ∙ stored_low known.summaries known.place w n v;
      }

  name_reports : (n : ℕ) → (let w = winner_of_name r n in let v = name_value r known.place n in
      Reports (value_at known n) v (call_value known.place w n v) (winner_size r w) (is_placed_winner w) (slot_content known.place w n v))
  name_reports n =
      let o = slice_get known.resolution.rows n in
      let t = row_reports n o in
      let e : winner_value r known.place n (name_with o) (winner_with o) ≡ name_value r known.place n = (λ i. winner_value r known.place n (name_seen n i) (winner_seen n i)) in
      record {
        value = t.value ∙ ap low_64 e;
        call = t.call ∙ (λ i. low_64 (call_value known.place (winner_seen n i) n (e i)));
        size = t.size ∙ ap (winner_size r) (winner_seen n);
        placed = t.placed ∙ ap is_placed_winner (winner_seen n);
        got_content = t.got_content ∙ (λ i. low_64 (slot_content known.place (winner_seen n i) n (e i)));
      }

  pub value_of_name : (n : ℕ) → (value_at known n).value ≡ low_64 (name_value r known.place n)
  value_of_name n = (name_reports n).value

  -- the value of a name to the relocations through it
  pub name_numbers_reported : (place : Placement) → place ≡ known.place → (v : SymbolValue) (n : ℕ) → v ≡ value_at known n → (input : ℕ) (weak : Bool) → symbol_numbers_by place v (owner.Global n) ≡ symbol_numbers_of r known.place input (ByName n weak)
  name_numbers_reported place here v n is input weak =
      let t = name_reports n in
      (λ i. symbol_numbers_by (here i) (is i) (owner.Global n))
      ∙ (λ i. record {
        value = t.value i;
        call = t.call i;
        size = t.size i;
        placed = t.placed i;
        slot = owner_slot known.place (owner.Global n) false;
        thread_slot = owner_slot known.place (owner.Global n) true;
      })

  minus_low : (a b : ℕ) → minus (low_64 a) (low_64 b) ≡ low_64 (minus a b)
  minus_low a b =
      let c = 2 ^ 64 - b % 2 ^ 64 in
      let first : low_64 a + c ≡ c + low_64 a = omega arith in
      let last : c + a ≡ a + c = omega arith in
      (λ i. (low_64 a + (2 ^ 64 - low_again b i)) % 2 ^ 64)
      ∙ ap low_64 first
      ∙ add-mod-mod c a (2 ^ 64)
      ∙ ap low_64 last
      ∙ sym (low_again (a + c))

  stored_owner : (n : ℕ) → slot_content known.place (winner_of_name r n) n (name_value r known.place n) ≡ owner_value r known.place (owner.Global n)
  stored_owner n = refl

  content_low : (v : SymbolValue) (h : ℕ) (here thread : Bool) → v.got_content ≡ low_64 h → v.placed ≡ here
      → content_of known.place thread v ≡ low_64 (if thread then (if here then minus h (tls_end known.place) else 0) else h)
  content_low v h here false holds placed = holds
  content_low v h true true holds placed =
      (λ i. if placed i then minus (holds i) (low_64 (tls_end known.place)) else 0) ∙ minus_low h (tls_end known.place)
  content_low v h false true holds placed = ap (λ b. if b then minus v.got_content (low_64 (tls_end known.place)) else 0) placed

  pub name_slot_reported : (place : Placement) → place ≡ known.place → (v : SymbolValue) (n : ℕ) → v ≡ value_at known n → (thread : Bool)
      → content_of place thread v ≡ low_64 (slot_value r known.place (Some (record { owner = owner.Global n; thread = thread })))
  name_slot_reported place here v n is thread =
      let t = name_reports n in
      (λ i. content_of (here i) thread (is i))
      ∙ content_low (value_at known n) (owner_value r known.place (owner.Global n)) (is_placed_winner (winner_of_name r n)) thread (t.got_content ∙ ap low_64 (stored_owner n)) t.placed

  -- the entry symbol
  entry_number : (name : List ℕ) → options.entry ≡ name → number_of known.resolution.rows name ≡ position (λ (c : Contributions). bytes_eq c.name r.options.entry) r.names
  entry_number name is =
      let entry : r.options.entry ≡ name = ap (λ (o : OptionRecord). o.entry) s.chosen ∙ is in
      λ i. position (λ (c : Contributions). bytes_eq c.name (sym entry i)) (sym s.names i)

  pub entry_reported : (name : List ℕ) → options.entry ≡ name → (o : Option ℕ) → number_of known.resolution.rows name ≡ o → elim o [ None ↦ 0 | Some n ↦ (value_at known n).value ] ≡ low_64 (entry_value r known.place)
  entry_reported name is o found =
      by o ∙ ap (λ x. low_64 (elim x [ None ↦ 0 | Some n ↦ name_value r known.place n ])) (sym found ∙ entry_number name is)
    where
      by : (o : Option ℕ) → elim o [ None ↦ 0 | Some n ↦ (value_at known n).value ] ≡ low_64 (elim o [ None ↦ 0 | Some n ↦ name_value r known.place n ])
      by None = refl
      by (Some n) = (name_reports n).value
