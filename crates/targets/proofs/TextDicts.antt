-- The entries that are read of a dict have its keys, and are those of the frozen dict that is made of them.
use Rattle.std.proofs.Common.{◌≡◌, ℕ, List, [], ◌∷◌, Option, Some, None, map, length, refl, sym, ap, ◌∙◌, subst}
use Rattle.std.proofs.lemmas.List.{length-map}
use Rattle.std.specs.Prelude.{option_map, option_and_then}
use Rattle.values.specs.Keyed.{AreDistinct}
use Rattle.values.specs.Shape.{Shape, shape}
use Rattle.values.specs.Tree.{branch, dict, pairs}
use Rattle.values.specs.View.{FrozenTree}
use Rattle.values.specs.Visits.{keys_of}
use Rattle.values.specs.declared.cells.Cell.{Cell}
use Rattle.keys.specs.declared.key.Key.{Key}
use Rattle.keys.specs.declared.key.Key.TheVariants as index
use Rattle.values.specs.declared.value.Value.{Value}
use Rattle.operations.specs.Reading.{string_in}
use Rattle.targets.specs.RuleCalls.{each_of}
use Rattle.targets.specs.TextDicts.{entry_of, text_shown, text_entry, entry_key, entry_tree, AreEntries, dict_of_texts, text_entries_in, value_shown, value_frozen}
use Rattle.targets.specs.TextLists.{text_tree}
use Rattle.targets.specs.declared.text_dict.TextEntry.{TextEntry}
use Rattle.targets.proofs.EachMade.{found, none_made, are_found, made_of_found}

shown_key : (k : Key) (s : Shape) (t : TextEntry) → text_shown k s ≡ Some t → k ≡ entry_key t
shown_key (index.Text x) s t e = at (string_in s) e
  where
    at : (o : Option (List ℕ)) → option_map (entry_of x) o ≡ Some t → index.Text x ≡ entry_key t
    at None h = absurd (cc)
    at (Some v) h = let w : entry_of x v ≡ t = cc in ap entry_key w
shown_key (index.Number n) s t e = absurd (cc)
shown_key (index.Truth b) s t e = absurd (cc)

module _ (h : List Cell) where
  keys_are : (es : List (Key × Value)) (ts : List TextEntry) → each_of (text_entry h) es ≡ Some ts → keys_of es ≡ map entry_key ts
  keys_are [] [] e = refl
  keys_are [] (t ∷ ts) e = absurd (cc)
  keys_are (e ∷ es) ts p = at_first (text_entry h e) (shown_key e.0 (shape h e.1)) (keys_are es) p
    where
      at_rest : (o : Option (List TextEntry)) (t : TextEntry) → e.0 ≡ entry_key t → ((us : List TextEntry) → o ≡ Some us → keys_of es ≡ map entry_key us)
          → option_map (λ us. t ∷ us) o ≡ Some ts → keys_of (e ∷ es) ≡ map entry_key ts
      at_rest None t k i q = absurd (cc)
      at_rest (Some us) t k i q =
          let w : t ∷ us ≡ ts = cc in
          (λ j. k j ∷ i us refl j) ∙ ap (map entry_key) w

      at_first : (o : Option TextEntry) → ((t : TextEntry) → o ≡ Some t → e.0 ≡ entry_key t) → ((us : List TextEntry) → each_of (text_entry h) es ≡ Some us → keys_of es ≡ map entry_key us)
          → option_and_then (λ t. option_map (λ us. t ∷ us) (each_of (text_entry h) es)) o ≡ Some ts → keys_of (e ∷ es) ≡ map entry_key ts
      at_first None k i q = absurd (cc)
      at_first (Some t) k i q = at_rest (each_of (text_entry h) es) t (k t refl) i q

  pub entries_distinct : (es : List (Key × Value)) (ts : List TextEntry) → AreDistinct (keys_of es) → each_of (text_entry h) es ≡ Some ts → AreEntries ts
  entries_distinct es ts d e = subst (λ (ks : List Key). AreDistinct ks) (keys_are es ts e) d

-- ---- the entries of a frozen dict

entries_back : (es : List TextEntry) → text_entries_in (branch (dict_of_texts es)) ≡ es
entries_back [] = refl
entries_back (e ∷ es) = ap (λ us. e ∷ us) (entries_back es)

module _ (t : FrozenTree) (es : List TextEntry) (is : t ≡ branch (dict_of_texts es)) where
  pub entries_of_dict : text_entries_in t ≡ es
  entries_of_dict = ap text_entries_in is ∙ entries_back es

  -- the frozen dict of entries is that of its entries, and no two have one key
  pub is_of_its_entries : AreEntries es → (t ≡ branch (dict_of_texts (text_entries_in t))) × AreEntries (text_entries_in t)
  is_of_its_entries d = (
    is ∙ ap (λ us. branch (dict_of_texts us)) (sym entries_of_dict),
    subst (λ (us : List TextEntry). AreEntries us) (sym entries_of_dict) d,
  )

-- ---- the values that are read

value_is : (k : Key) (s : Shape) → value_shown k s ≡ option_map entry_tree (text_shown k s)
value_is (index.Text x) s = at (string_in s)
  where
    at : (o : Option (List ℕ)) → option_map text_tree o ≡ option_map entry_tree (option_map (entry_of x) o)
    at None = refl
    at (Some v) = refl
value_is (index.Number n) s = refl
value_is (index.Truth b) s = refl

module _ (h : List Cell) (xs : List (Key × Value)) where
  pub no_entries : each_of (value_frozen h) xs ≡ None → each_of (text_entry h) xs ≡ None
  no_entries = none_made (text_entry h) entry_tree (value_frozen h) (λ e. value_is e.0 (shape h e.1)) xs

  -- those that were read
  abbrev pub entries_read : List TextEntry
  entries_read = found (each_of (text_entry h) xs)

  module _ (ts : List FrozenTree) (e : each_of (value_frozen h) xs ≡ Some ts) where
    pub are_read : each_of (text_entry h) xs ≡ Some entries_read
    are_read = are_found (text_entry h) entry_tree (value_frozen h) (λ e. value_is e.0 (shape h e.1)) xs ts e

    pub values_of_read : ts ≡ map entry_tree entries_read
    values_of_read = made_of_found (text_entry h) entry_tree (value_frozen h) (λ e. value_is e.0 (shape h e.1)) xs ts e

    pub keys_of_read : keys_of xs ≡ map entry_key entries_read
    keys_of_read = keys_are h xs entries_read are_read

    -- a dict of the keys and of the values that were read
    pub dict_read : (ks : List Key) → ks ≡ keys_of xs → dict (pairs ks ts) ≡ dict_of_texts entries_read
    dict_read ks k = (λ j. dict (pairs ((k ∙ keys_of_read) j) (values_of_read j)))

    pub as_many : (ks : List Key) → ks ≡ keys_of xs → length ks ≡ length ts
    as_many ks k =
        ap length (k ∙ keys_of_read) ∙ length-map entries_read entry_key ∙ sym (length-map entries_read entry_tree) ∙ ap length (sym values_of_read)
