-- Visits of all parts of a value, from left to right. (docs/PROFILE.md, "Ticks" and "Freezing";
-- this project's own.)
use Rattle.std.specs.Prelude.{List, [], ◌∷◌, Ok, map}
use Rattle.ticks.specs.Ticking.{Count, Ticking, then_on}
use Rattle.keys.specs.declared.key.Key.{Key}
use Rattle.values.specs.declared.value.Value.{Value}
use Rattle.values.specs.declared.value.Value.TheVariants as value

-- what the visits of all give, in order, or the first fault
abbrev pub all_of : {A B : Type 0} → (A → Count → Ticking B) → List A → Count → Ticking (List B)
all_of f [] c = Ok ([], c)
all_of f (x ∷ xs) c = then_on (f x c) (λ y d. then_on (all_of f xs d) (λ ys e. Ok (y ∷ ys, e)))

-- the keys of the entries of a dict, in order of insertion
abbrev pub keys_of : List (Key × Value) → List Key
keys_of es = map (λ e. e.0) es

-- the same, as values
abbrev pub keys_as_values : List (Key × Value) → List Value
keys_as_values es = map value.Key (keys_of es)

-- the values of the entries of a dict, in order of insertion
abbrev pub values_of : List (Key × Value) → List Value
values_of es = map (λ e. e.1) es
