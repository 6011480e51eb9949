-- Worked conflicts and shared actions, by computation.
use Rattle.std.specs.Prelude.{◌≡◌, ℕ, List, [], ◌∷◌, map, Some, refl, codes}
use Rattle.depsets.specs.Listed.{flat}
use Rattle.actions.specs.declared.action.Inputs.TheVariants as inputs
use Rattle.claims.specs.Conflicts.{conflicts_of}
use Rattle.claims.specs.Owned.{Owned}
use Rattle.claims.specs.Telling.{telling}
use Rattle.claims.specs.declared.clashes.Conflict.{Conflict}
use Rattle.claims.specs.declared.telling.Telling.{Telling}
use Rattle.claims.specs.declared.telling.Telling.TheVariants.{Alone, Owners, Elsewhere}

abbrev x : List ℕ
x = codes "//a:x"

abbrev y : List ℕ
y = codes "//a:y"

abbrev q : List ℕ
q = codes "//a:q"

-- the target of the label makes files of these paths, and writes the text
abbrev makes : List ℕ → List (List ℕ) → List ℕ → Owned
makes label paths text = record {
  label = label;
  action = record {
    mnemonic = codes "FileWrite";
    outputs = map (λ p. record { path = p; owner = label }) paths;
    inputs = inputs.Files [];
    words = [];
    content = Some text;
  };
}

-- it writes the text to the one file that all speak of
abbrev writes : List ℕ → List ℕ → Owned
writes label text = makes label (codes "a/o" ∷ []) text

abbrev tellings : List Owned → List Telling
tellings os = map (telling flat os) os

abbrev conflict : List (List ℕ) → Conflict
conflict labels = record { path = codes "a/o"; labels = labels }

-- two targets write the same
abbrev alike : List Owned
alike = writes x (codes "") ∷ writes y (codes "") ∷ []

alike_told : tellings alike ≡ Owners (x ∷ y ∷ []) ∷ Elsewhere ∷ []
alike_told = refl

alike_agree : conflicts_of flat alike ≡ []
alike_agree = refl

-- each writes its own name
abbrev unlike : List Owned
unlike = writes x (codes "x") ∷ writes y (codes "y") ∷ []

unlike_told : tellings unlike ≡ Alone ∷ Alone ∷ []
unlike_told = refl

unlike_conflict : conflicts_of flat unlike ≡ conflict (x ∷ y ∷ []) ∷ []
unlike_conflict = refl

-- two write the same, and a third something else
abbrev mixed : List Owned
mixed = writes q (codes "q") ∷ writes x (codes "") ∷ writes y (codes "") ∷ []

mixed_told : tellings mixed ≡ Alone ∷ Owners (x ∷ y ∷ []) ∷ Elsewhere ∷ []
mixed_told = refl

mixed_conflict : conflicts_of flat mixed ≡ conflict (q ∷ x ∷ y ∷ []) ∷ []
mixed_conflict = refl

-- one target writes the same twice
abbrev twice : List Owned
twice = writes x (codes "") ∷ writes x (codes "") ∷ []

twice_told : tellings twice ≡ Alone ∷ Alone ∷ []
twice_told = refl

twice_conflict : conflicts_of flat twice ≡ conflict (x ∷ x ∷ []) ∷ []
twice_conflict = refl

-- one that makes a file more is another action, wherever it stands
abbrev wider : List Owned
wider = writes y (codes "") ∷ writes x (codes "") ∷ makes x (codes "a/o" ∷ codes "a/p" ∷ []) (codes "") ∷ []

wider_told : tellings wider ≡ Elsewhere ∷ Owners (x ∷ y ∷ []) ∷ Alone ∷ []
wider_told = refl

wider_conflict : conflicts_of flat wider ≡ conflict (x ∷ x ∷ y ∷ []) ∷ []
wider_conflict = refl
