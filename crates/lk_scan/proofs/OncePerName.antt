-- Faults that are reported once per name, and the lists of names that were already reported.
use Rattle.std.proofs.Common.{◌≡◌, refl, sym, ap, ◌∙◌, ℕ, Bool, true, false, cond, ◌||◌, if◌then◌else◌, List, [], ◌∷◌, ◌++◌, Option, Some, None, filter_map}
use Rattle.std.proofs.lemmas.List.{append-nil}
use Rattle.std.proofs.lemmas.List.Elements.{filter_map-append}
use Rattle.std.specs.List.{list_any, cons_option}
use Rattle.std.specs.Str.{bytes_eq}
use Rattle.std.specs.Cmp.Lexicographic.{nat_list_eq_equiv}
use Rattle.indexmap.specs.IndexSet.{insert_key}
use Rattle.lk_report.specs.declared.faults.Fault.{Fault}
use Rattle.lk_report.specs.declared.faults.Fault.TheVariants as fault
use Rattle.lk_report.specs.declared.faults.Site.{Site}
use Rattle.lk_model.specs.ScanFaults.{is_empty_copy_of, is_undefined_of, with_fault}
use Rattle.lk_scan.specs.ReferralFaults.{IsIndexed, empty_copy_name, undefined_name}

abbrev named : List ℕ → Option (List ℕ) → Bool
named name None = false
named name (Some other) = bytes_eq name other

-- a fault reports a name as undefined exactly where this is its undefined name
undefined_alike : (name : List ℕ) (f : Fault) → is_undefined_of name f ≡ named name (undefined_name f)
undefined_alike name (fault.Missing a) = refl
undefined_alike name (fault.Input a b) = refl
undefined_alike name (fault.MultipleDefinition a b c) = refl
undefined_alike name (fault.TlsMismatch a) = refl
undefined_alike name (fault.NoEntry a) = refl
undefined_alike name (fault.Undefined other site) = nat_list_eq_equiv.symm other name
undefined_alike name (fault.DroppedLocal a) = refl
undefined_alike name (fault.Unsupported a b) = refl
undefined_alike name (fault.CopyOfZero a b) = refl
undefined_alike name (fault.ImportedTlsDirect a b) = refl
undefined_alike name (fault.Overflow a b c d e) = refl

copied_alike : (name : List ℕ) (f : Fault) → is_empty_copy_of name f ≡ named name (empty_copy_name f)
copied_alike name (fault.Missing a) = refl
copied_alike name (fault.Input a b) = refl
copied_alike name (fault.MultipleDefinition a b c) = refl
copied_alike name (fault.TlsMismatch a) = refl
copied_alike name (fault.NoEntry a) = refl
copied_alike name (fault.Undefined a b) = refl
copied_alike name (fault.DroppedLocal a) = refl
copied_alike name (fault.Unsupported a b) = refl
copied_alike name (fault.CopyOfZero other site) = nat_list_eq_equiv.symm other name
copied_alike name (fault.ImportedTlsDirect a b) = refl
copied_alike name (fault.Overflow a b c d e) = refl

-- a fault of this kind was reported for a name exactly where the name is in the list of reported names
module _ (test : Fault → Bool) (of : Fault → Option (List ℕ)) (name : List ℕ) (alike : (f : Fault) → test f ≡ named name (of f)) where
  split : (o : Option (List ℕ)) (rest : List (List ℕ)) → (named name o || list_any (bytes_eq name) rest) ≡ list_any (bytes_eq name) (cons_option o rest)
  split None rest = refl
  split (Some other) rest = refl

  any_named : (faults : List Fault) → list_any test faults ≡ list_any (bytes_eq name) (filter_map of faults)
  any_named [] = refl
  any_named (f ∷ fs) =
      ap (λ b. b || list_any test fs) (alike f)
      ∙ ap (λ b. named name (of f) || b) (any_named fs)
      ∙ split (of f) (filter_map of fs)

-- the list of reported names, with that of one more fault
module _ (of : Fault → Option (List ℕ)) (names : List (List ℕ)) (faults : List Fault) (f : Fault) (listed : names ≡ filter_map of faults) where
  one_more : (o : Option (List ℕ)) → of f ≡ o → names ++ cons_option o [] ≡ filter_map of (faults ++ f ∷ [])
  one_more o e =
      ap (λ ns. ns ++ cons_option o []) listed
      ∙ ap (λ p. filter_map of faults ++ cons_option p []) (sym e)
      ∙ sym (filter_map-append of faults (f ∷ []))

  no_more : of f ≡ None → names ≡ filter_map of (faults ++ f ∷ [])
  no_more e = sym (append-nil names) ∙ one_more None e

-- a fault that is neither of an undefined name nor of an empty copy adds no name to the lists
pub index_stays : (faults new : List Fault) (undefined copies : List (List ℕ)) (f : Fault) → IsIndexed faults undefined copies → undefined_name f ≡ None → empty_copy_name f ≡ None → new ≡ faults ++ f ∷ [] → IsIndexed new undefined copies
index_stays faults new undefined copies f h u c e = record {
  undefined_names = no_more undefined_name undefined faults f h.undefined_names u ∙ ap (filter_map undefined_name) (sym e);
  copied_names = no_more empty_copy_name copies faults f h.copied_names c ∙ ap (filter_map empty_copy_name) (sym e);
}

-- the fault of an undefined name
module _ (faults : List Fault) (undefined copies : List (List ℕ)) (name : List ℕ) (site : Site) (h : IsIndexed faults undefined copies) where
  undefined_any : list_any (is_undefined_of name) faults ≡ list_any (bytes_eq name) undefined
  undefined_any = any_named (is_undefined_of name) undefined_name name (undefined_alike name) faults ∙ ap (list_any (bytes_eq name)) (sym h.undefined_names)

  pub undefined_reported : list_any (bytes_eq name) undefined ≡ true → with_fault faults (fault.Undefined name site) ≡ faults
  undefined_reported e = ap (λ b. cond b faults (faults ++ fault.Undefined name site ∷ [])) (undefined_any ∙ e)

  pub undefined_anew : list_any (bytes_eq name) undefined ≡ false → with_fault faults (fault.Undefined name site) ≡ faults ++ fault.Undefined name site ∷ []
  undefined_anew e = ap (λ b. cond b faults (faults ++ fault.Undefined name site ∷ [])) (undefined_any ∙ e)

  pub undefined_indexed : (new : List Fault) (keys : List (List ℕ)) → list_any (bytes_eq name) undefined ≡ false → keys ≡ insert_key bytes_eq undefined name → new ≡ faults ++ fault.Undefined name site ∷ [] → IsIndexed new keys copies
  undefined_indexed new keys e put pushed =
      let last : keys ≡ undefined ++ name ∷ [] = put ∙ ap (λ b. if b then undefined else undefined ++ name ∷ []) e in
      record {
        undefined_names = last ∙ one_more undefined_name undefined faults (fault.Undefined name site) h.undefined_names (Some name) refl ∙ ap (filter_map undefined_name) (sym pushed);
        copied_names = no_more empty_copy_name copies faults (fault.Undefined name site) h.copied_names refl ∙ ap (filter_map empty_copy_name) (sym pushed);
      }

  copied_any : list_any (is_empty_copy_of name) faults ≡ list_any (bytes_eq name) copies
  copied_any = any_named (is_empty_copy_of name) empty_copy_name name (copied_alike name) faults ∙ ap (list_any (bytes_eq name)) (sym h.copied_names)

  pub copy_reported : list_any (bytes_eq name) copies ≡ true → with_fault faults (fault.CopyOfZero name site) ≡ faults
  copy_reported e = ap (λ b. cond b faults (faults ++ fault.CopyOfZero name site ∷ [])) (copied_any ∙ e)

  pub copy_anew : list_any (bytes_eq name) copies ≡ false → with_fault faults (fault.CopyOfZero name site) ≡ faults ++ fault.CopyOfZero name site ∷ []
  copy_anew e = ap (λ b. cond b faults (faults ++ fault.CopyOfZero name site ∷ [])) (copied_any ∙ e)

  pub copy_indexed : (new : List Fault) (keys : List (List ℕ)) → list_any (bytes_eq name) copies ≡ false → keys ≡ insert_key bytes_eq copies name → new ≡ faults ++ fault.CopyOfZero name site ∷ [] → IsIndexed new undefined keys
  copy_indexed new keys e put pushed =
      let last : keys ≡ copies ++ name ∷ [] = put ∙ ap (λ b. if b then copies else copies ++ name ∷ []) e in
      record {
        undefined_names = no_more undefined_name undefined faults (fault.CopyOfZero name site) h.undefined_names refl ∙ ap (filter_map undefined_name) (sym pushed);
        copied_names = last ∙ one_more empty_copy_name copies faults (fault.CopyOfZero name site) h.copied_names (Some name) refl ∙ ap (filter_map empty_copy_name) (sym pushed);
      }
