-- What stands for a list with one more, and for a record whose parts stand for the same.
use Rattle.std.specs.Prelude.{ℕ, ◌≡◌, List, [], ◌∷◌, ◌++◌, ◌==◌, ◌&&◌, length, map, Bool, true, false}
use Rattle.std.proofs.Common.{arith}
use Rattle.std.proofs.lemmas.Grind.{common_steps}
use Rattle.std.proofs.lemmas.List.{map-append}
use Rattle.grammar.specs.Bare.{Tree, Rest}
use Rattle.grammar.specs.Descent.{Arguments, Conditions, Pairs, none_named}
use Rattle.grammar.specs.TreeView.{keyword_of}
use Rattle.grammar.specs.declared.tree.Keyword.{Keyword}

pub seen_more : {A B : Type 0} (f : A → B) {new : List A} (old : List A) (a : A) {b : B} → new ≡ old ++ a ∷ [] → f a ≡ b → map f new ≡ map f old ++ b ∷ []
seen_more f old a e g = rw (e, map-append f old (a ∷ []), g)

abbrev arguments_of : List Tree → List (List ℕ × Tree) → ℕ → Bool → Arguments
arguments_of ts ks d o = record { trees = ts; named = ks; depth = d; in_order = o }

pub arguments_same : {ts us : List Tree} {ks ls : List (List ℕ × Tree)} {d e : ℕ} {o p : Bool} → ts ≡ us → ks ≡ ls → d ≡ e → o ≡ p
    → arguments_of ts ks d o ≡ arguments_of us ls e p
arguments_same a b c d = rw (a, b, c, d)

abbrev conditions_of : List (Rest → Rest) → ℕ → Conditions
conditions_of rs d = record { clauses = rs; depth = d }

pub conditions_same : {rs ss : List (Rest → Rest)} {d e : ℕ} → rs ≡ ss → d ≡ e → conditions_of rs d ≡ conditions_of ss e
conditions_same a b = rw (a, b)

abbrev pairs_of : List (Tree × Tree) → ℕ → Pairs
pairs_of es d = record { entries = es; depth = d }

pub pairs_same : {rs ss : List (Tree × Tree)} {d e : ℕ} → rs ≡ ss → d ≡ e → pairs_of rs d ≡ pairs_of ss e
pairs_same a b = rw (a, b)

-- the test whether positional arguments may still come
pub in_order_true : (ks : List Keyword) {a b : Bool} {n : ℕ} → a ≡ true → b ≡ (n == 0) → n ≡ length ks → b ≡ a && none_named (map keyword_of ks)
in_order_true [] e f g = rw (e, f, g)
in_order_true (k ∷ ks) e f g = rw (e, f, g) (grind (arith, common_steps))

pub in_order_false : {a b : Bool} (k : Bool) → a ≡ false → b ≡ a → b ≡ a && k
in_order_false k e f = rw (f, e)
