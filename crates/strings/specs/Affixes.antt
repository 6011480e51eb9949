-- How a text begins and ends. (Starlark's specification, "string·startswith", "string·endswith".)
use Rattle.std.specs.Prelude.{ℕ, ◌-◌, Bool, true, false, ◌&&◌, nat_eq, List, [], ◌∷◌, length, drop}
use Rattle.std.specs.Str.{bytes_eq}

-- a text begins with these bytes
abbrev pub begins : List ℕ → List ℕ → Bool
begins [] t = true
begins (x ∷ p) [] = false
begins (x ∷ p) (y ∷ t) = nat_eq x y && begins p t

-- a text ends with these bytes: they are what is left where the rest is taken off its front
abbrev pub ends : List ℕ → List ℕ → Bool
ends p t = bytes_eq (drop (length t - length p) t) p
