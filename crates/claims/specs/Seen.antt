-- What a contract sees of what is compared. (This project's own.)
use Rattle.std.specs.Prelude.{ℕ, List, map}
use Rattle.claims.specs.Same.{Compared}
use Rattle.claims.specs.Leaders.{Firsts}
use Rattle.claims.specs.declared.comparable.Comparable.{Comparable}

-- what is compared of an action, as a program has gathered it
abbrev pub parts_of : Comparable → Compared
parts_of c = record {
  mnemonic = c.mnemonic;
  outputs = c.outputs.items;
  inputs = c.inputs.items;
  words = c.words.items;
  content = c.content;
}

-- what was compared so far, as a program keeps it, with the places
abbrev pub noted : List (Comparable × ℕ) → Firsts
noted es = map (λ e. (parts_of e.0, e.1)) es
