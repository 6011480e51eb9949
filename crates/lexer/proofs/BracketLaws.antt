-- What a token makes of the open brackets: the definition by steps and the relation say the same.
use Rattle.std.proofs.Common.{ℕ, ◌≡◌, ◌<◌, Bool, true, false, List, [], ◌∷◌, map, length, refl, sym, ap, nat_le, Option, Some, None, Result, Ok, Err, arith, if◌then◌else◌}
use Rattle.std.proofs.lemmas.List.{length-map}
use Rattle.std.proofs.lemmas.Bool.Decides.{nat_tests}
use Rattle.lexer.specs.declared.token.Mark.{Mark}
use Rattle.lexer.specs.declared.layout.Bracket.{Bracket}
use Rattle.lexer.specs.declared.layout.Bracket.TheVariants.{Round, Square, Curly}
use Rattle.lexer.specs.declared.layout.Open.{Open}
use Rattle.lexer.specs.Layout.{same_bracket, opened, closed, opening, closing, after_token}
use Rattle.lexer.specs.LaidOut.{BracketChanges, BracketsBehind}

-- the kinds of the open brackets
abbrev pub kinds : List Open → List Bracket
kinds unclosed = map (λ o. o.bracket) unclosed

-- what passes a test for a fault
pub passed : {A : Type 0} (b : Bool) (line : ℕ) (x y : A) → (if b then Err line else Ok x) ≡ Ok y → (b ≡ false) × (x ≡ y)
passed true line x y e = absurd cc
passed false line x y e = (refl, cc)

-- what passes a test for its right
pub allowed : {A : Type 0} (b : Bool) (line : ℕ) (x y : A) → (if b then Ok x else Err line) ≡ Ok y → (b ≡ true) × (x ≡ y)
allowed true line x y e = (refl, cc)
allowed false line x y e = absurd cc

-- brackets of one kind are the same
same_kind : (a b : Bracket) → same_bracket a b ≡ true → a ≡ b
same_kind Round Round e = refl
same_kind Square Square e = refl
same_kind Curly Curly e = refl
same_kind Round Square e = cc
same_kind Round Curly e = cc
same_kind Square Round e = cc
same_kind Square Curly e = cc
same_kind Curly Round e = cc
same_kind Curly Square e = cc

-- a bracket is of its own kind
kind_alike : (a : Bracket) → same_bracket a a ≡ true
kind_alike Round = refl
kind_alike Square = refl
kind_alike Curly = refl

-- where a bracket could be opened fewer than 100 were open
opened_is : (unclosed after : List Open) (bracket : Bracket) (line : ℕ) → opened unclosed bracket line ≡ Ok after
    → (length (kinds unclosed) < 100) × (kinds after ≡ bracket ∷ kinds unclosed)
opened_is unclosed after bracket line e =
    let g = passed (nat_le 100 (length unclosed)) line _ after e in
    let test : nat_le 100 (length unclosed) ≡ false = g.0 in
    let few : length unclosed < 100 = grind (arith, nat_tests) in
    (rw length-map few, ap kinds (sym g.1))

-- where fewer than 100 are open a bracket can be opened
opened_as : (unclosed : List Open) (bracket : Bracket) (line : ℕ) (kept : List Bracket) → length (kinds unclosed) < 100
    → kept ≡ bracket ∷ kinds unclosed → (after : List Open) × (opened unclosed bracket line ≡ Ok after) × (kinds after ≡ kept)
opened_as unclosed bracket line kept h e =
    let few : length unclosed < 100 = rw length-map at h in
    let test : nat_le 100 (length unclosed) ≡ false = grind (arith, nat_tests) in
    (record { bracket = bracket; line = line } ∷ unclosed, rw test refl, sym e)

-- where a bracket could be closed it was the innermost
closed_is : (unclosed after : List Open) (bracket : Bracket) (line : ℕ) → closed unclosed bracket line ≡ Ok after
    → kinds unclosed ≡ bracket ∷ kinds after
closed_is [] after bracket line e = absurd cc
closed_is (o ∷ unclosed) after bracket line e =
    let g = allowed (same_bracket o.bracket bracket) line unclosed after e in
    let k : o.bracket ≡ bracket = same_kind o.bracket bracket g.0 in
    let r : unclosed ≡ after = g.1 in
    rw (k, r) refl

-- the innermost bracket can be closed
closed_as : (unclosed : List Open) (bracket : Bracket) (line : ℕ) (kept : List Bracket) → kinds unclosed ≡ bracket ∷ kept
    → (after : List Open) × (closed unclosed bracket line ≡ Ok after) × (kinds after ≡ kept)
closed_as [] bracket line kept e = absurd cc
closed_as (o ∷ unclosed) bracket line kept e =
    let k : o.bracket ≡ bracket = cc in
    let r : kinds unclosed ≡ kept = cc in
    (unclosed, rw (k, kind_alike bracket) refl, r)

-- the brackets after what opens one, closes one, or does neither
abbrev after_change : Option Bracket → Option Bracket → List Open → ℕ → Result (List Open) ℕ
after_change opens closes unclosed line = elim opens [
  | Some bracket ↦ opened unclosed bracket line
  | None ↦ elim closes [
    | Some bracket ↦ closed unclosed bracket line
    | None ↦ Ok unclosed
  ]
]

-- where a change of the brackets was without fault it is that of the relation
change_is : (opens closes : Option Bracket) (unclosed after : List Open) (line : ℕ)
    → after_change opens closes unclosed line ≡ Ok after → BracketChanges opens closes (kinds unclosed) (kinds after)
change_is (Some bracket) closes unclosed after line e = opened_is unclosed after bracket line e
change_is None (Some bracket) unclosed after line e = closed_is unclosed after bracket line e
change_is None None unclosed after line e = let r : unclosed ≡ after = cc in ap kinds (sym r)

-- a change that the relation has is without fault
change_as : (opens closes : Option Bracket) (unclosed : List Open) (line : ℕ) (kept : List Bracket)
    → BracketChanges opens closes (kinds unclosed) kept
    → (after : List Open) × (after_change opens closes unclosed line ≡ Ok after) × (kinds after ≡ kept)
change_as (Some bracket) closes unclosed line kept h = opened_as unclosed bracket line kept h.0 h.1
change_as None (Some bracket) unclosed line kept h = closed_as unclosed bracket line kept h
change_as None None unclosed line kept h = (unclosed, refl, sym h)

-- the brackets that are open after a token are those of the relation
pub brackets_are : (m : Option Mark) (unclosed after : List Open) (line : ℕ) → after_token unclosed m line ≡ Ok after
    → BracketsBehind m (kinds unclosed) (kinds after)
brackets_are None unclosed after line e = let r : unclosed ≡ after = cc in ap kinds (sym r)
brackets_are (Some m) unclosed after line e = change_is (opening m) (closing m) unclosed after line e

-- where the relation has brackets after a token the token stands without fault
pub brackets_as : (m : Option Mark) (unclosed : List Open) (line : ℕ) (kept : List Bracket)
    → BracketsBehind m (kinds unclosed) kept
    → (after : List Open) × (after_token unclosed m line ≡ Ok after) × (kinds after ≡ kept)
brackets_as None unclosed line kept h = (unclosed, refl, sym h)
brackets_as (Some m) unclosed line kept h = change_as (opening m) (closing m) unclosed line kept h
