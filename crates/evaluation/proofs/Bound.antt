-- A name is handed on exactly where a load finds a value for it.
use Rattle.std.proofs.Common.{◌≡◌, ℕ, ◌+◌, Bool, true, false, ◌&&◌, ◌||◌, List, [], ◌∷◌, Option, Some, None, cond, refl, sym, ap, ◌∙◌}
use Rattle.std.specs.Prelude.{bytes_eq, is_some, option_and_then, position}
use Rattle.std.specs.List.{list_any, position_from}
use Rattle.std.proofs.lemmas.Iterator.Adapters.{position_from-zero}
use Rattle.std.proofs.lemmas.Map.Views.{any-filter_same}
use Rattle.std.proofs.lemmas.Slice.Eq.{bytes_eq-Decides}
use Rattle.values.specs.Seeing.{option_value}
use Rattle.values.specs.declared.sees.Item.{Item}
use Rattle.loading.specs.Loads.{Name}
use Rattle.evaluation.specs.Evaluated.{Module, frozen_value, global_named, global_names}

at_cond : (b : Bool) (i : ℕ) (o : Option ℕ) (rest : Bool) → is_some o ≡ rest → is_some (cond b (Some i) o) ≡ (b || rest)
at_cond true i o rest h = refl
at_cond false i o rest h = h

is_there : (t : Name → Bool) (i : ℕ) (xs : List Name) → is_some (position_from t i xs) ≡ list_any t xs
is_there t i [] = refl
is_there t i (x ∷ xs) = at_cond (t x) i (position_from t (i + 1) xs) (list_any t xs) (is_there t (i + 1) xs)

-- what has a value is among the names
only_found : {A : Type 0} (f : ℕ → Option A) (o : Option ℕ) → (is_some (option_and_then f o) && is_some o) ≡ is_some (option_and_then f o)
only_found f (Some n) = at (is_some (f n))
  where
    at : (b : Bool) → (b && true) ≡ b
    at true = refl
    at false = refl
only_found f None = refl

pub handed_on : (x : Name) (m : Module) → is_some (global_named x m) ≡ list_any (bytes_eq x) (global_names m)
handed_on x m =
    sym (any-filter_same (bytes_eq x) (λ y. is_some (global_named y m)) (is_some (global_named x m))
    (λ y e. ap (λ z. is_some (global_named z m)) (sym ((bytes_eq-Decides x y).0 e))) m.names
    ∙ ap (λ b. is_some (global_named x m) && b) (sym (ap is_some (position_from-zero (bytes_eq x) m.names) ∙ is_there (bytes_eq x) 0 m.names))
    ∙ only_found (frozen_value m.globals) (position (bytes_eq x) m.names))

pub seen_some : (o : Option Item) → is_some o ≡ is_some (option_value o)
seen_some (Some i) = refl
seen_some None = refl
