-- Lists in which nothing is missing, item by item.
use Rattle.std.specs.Prelude.{◌≡◌, refl, ℕ, ◌+◌, ◌-◌, ◌*◌, ◌<◌, ◌≤◌, Bool, true, false, List, [], ◌∷◌, ◌++◌, map, Option, Some, None, option_map, filter_map, is_some}
use Rattle.std.specs.Bool.{then_some}
use Rattle.std.specs.List.{list_all, range_with_len}
use Rattle.std.proofs.Common.{ap, ◌∙◌, sym}
use Rattle.std.proofs.lemmas.List.{append_assoc, append-nil}
use Rattle.lk_elf.specs.Numbers.{sym_size}
use Rattle.lk_elf.specs.Records.{rela_at, sym_at}
use Rattle.lk_elf.specs.declared.relocation.Rela.{Rela}
use Rattle.lk_elf.specs.declared.symbol.Sym.{Sym}
use Rattle.lk_model.specs.Loads.{LoadedSymbol, all_of, loaded_symbol}
use Rattle.lk_loader.specs.LoadedImages.{load_symbol}
use Rattle.lk_loader.specs.declared.loads.LoadSymbol.{LoadSymbol}
use Rattle.lk_loader.proofs.Ranges.{range_done, range_next, table_more}

module _ {X : Type 0} where
  -- a list behind these items, where there is one
  abbrev pub joined : List X → Option (List X) → Option (List X)
  joined front rest = option_map (λ xs. front ++ xs) rest

  -- one item more, where it is there
  pub all_next : (x : X) (xs : List (Option X)) → all_of (Some x ∷ xs) ≡ option_map (λ rest. x ∷ rest) (all_of xs)
  all_next x xs = go (list_all is_some xs)
    where
      go : (b : Bool) → then_some b (x ∷ filter_map (λ o. o) xs) ≡ option_map (λ rest. x ∷ rest) (then_some b (filter_map (λ o. o) xs))
      go true = refl
      go false = refl

  pub joined_next : (front : List X) (x : X) (rest : Option (List X)) → joined front (option_map (λ xs. x ∷ xs) rest) ≡ joined (front ++ x ∷ []) rest
  joined_next front x None = refl
  joined_next front x (Some xs) = ap Some (sym (append_assoc front (x ∷ []) xs))

  pub joined_end : (front : List X) → joined front (Some []) ≡ Some front
  joined_end front = ap Some (append-nil front)

-- the symbols among so many records from record k on
abbrev pub symbols_from : List ℕ → List ℕ → ℕ → ℕ → Option (List LoadedSymbol)
symbols_from strings records k m = all_of (map (λ j. loaded_symbol strings (sym_at records (sym_size * j))) (range_with_len k m))

next_of :
    (o : Option LoadedSymbol) (front : List LoadSymbol) (found : LoadSymbol) (rest : List (Option LoadedSymbol))
    → Some found ≡ option_map load_symbol o
    → joined (front ++ found ∷ []) (option_map (map load_symbol) (all_of rest)) ≡ joined front (option_map (map load_symbol) (all_of (o ∷ rest)))
next_of None front found rest e = absurd (cc)
next_of (Some s) front found rest e =
    let same : found ≡ load_symbol s = cc in
    ap (λ x. joined (front ++ x ∷ []) (option_map (map load_symbol) (all_of rest))) same
    ∙ (go (all_of rest) ∙ ap (λ o. joined front (option_map (map load_symbol) o)) (sym (all_next s rest)))
  where
    go : (o : Option (List LoadedSymbol)) → joined (front ++ load_symbol s ∷ []) (option_map (map load_symbol) o) ≡ joined front (option_map (map load_symbol) (option_map (λ xs. s ∷ xs) o))
    go None = refl
    go (Some xs) = ap Some (append_assoc front (load_symbol s ∷ []) (map load_symbol xs))

missing_of : (o : Option LoadedSymbol) (rest : List (Option LoadedSymbol)) → None ≡ option_map load_symbol o → all_of (o ∷ rest) ≡ None
missing_of None rest e = refl
missing_of (Some s) rest e = absurd (cc)

-- the next symbol
pub symbol_next :
    (strings records : List ℕ) (k n : ℕ) (front : List LoadSymbol) (found : LoadSymbol) (symbol : Sym)
    → k < n
    → symbol ≡ sym_at records (24 * k)
    → Some found ≡ option_map load_symbol (loaded_symbol strings symbol)
    → joined (front ++ found ∷ []) (option_map (map load_symbol) (symbols_from strings records (k + 1) (n - (k + 1)))) ≡ joined front (option_map (map load_symbol) (symbols_from strings records k (n - k)))
symbol_next strings records k n front found symbol l is e =
    next_of (loaded_symbol strings (sym_at records (24 * k))) front found (map (λ j. loaded_symbol strings (sym_at records (24 * j))) (range_with_len (k + 1) (n - (k + 1)))) (e ∙ ap (λ s. option_map load_symbol (loaded_symbol strings s)) is)
    ∙ ap (λ ks. joined front (option_map (map load_symbol) (all_of (map (λ j. loaded_symbol strings (sym_at records (24 * j))) ks)))) (sym (range_next k n l))

-- one whose name does not end
pub symbol_missing :
    (strings records : List ℕ) (k n : ℕ) (symbol : Sym)
    → k < n
    → symbol ≡ sym_at records (24 * k)
    → None ≡ option_map load_symbol (loaded_symbol strings symbol)
    → symbols_from strings records k (n - k) ≡ None
symbol_missing strings records k n symbol l is e =
    ap (λ ks. all_of (map (λ j. loaded_symbol strings (sym_at records (24 * j))) ks)) (range_next k n l)
    ∙ missing_of (loaded_symbol strings (sym_at records (24 * k))) (map (λ j. loaded_symbol strings (sym_at records (24 * j))) (range_with_len (k + 1) (n - (k + 1)))) (e ∙ ap (λ s. option_map load_symbol (loaded_symbol strings s)) is)

pub no_symbol_left : (strings records : List ℕ) (k n : ℕ) (front : List LoadSymbol) → n ≤ k → joined front (option_map (map load_symbol) (symbols_from strings records k (n - k))) ≡ Some front
no_symbol_left strings records k n front l =
    ap (λ ks. joined front (option_map (map load_symbol) (all_of (map (λ j. loaded_symbol strings (sym_at records (24 * j))) ks)))) (range_done k n l)
    ∙ ap Some (append-nil front)

-- one relocation more
pub rela_more : (relas : List Rela) (bytes : List ℕ) (k : ℕ) → (relas ++ map (λ j. rela_at bytes (24 * j)) (range_with_len 0 k)) ++ rela_at bytes (24 * k) ∷ [] ≡ relas ++ map (λ j. rela_at bytes (24 * j)) (range_with_len 0 (k + 1))
rela_more relas bytes k =
    append_assoc relas (map (λ j. rela_at bytes (24 * j)) (range_with_len 0 k)) (rela_at bytes (24 * k) ∷ [])
    ∙ ap (λ xs. relas ++ xs) (sym (table_more (λ j. rela_at bytes (24 * j)) k))
