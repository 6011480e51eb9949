-- What a token makes of the open brackets with their lines: the definition by steps and the relation say the same.
use Rattle.std.proofs.Common.{ℕ, ◌≡◌, ◌<◌, ◌≤◌, Bool, true, false, List, [], ◌∷◌, length, refl, sym, ap, subst, ◌∙◌, nat_le, Option, Some, None, Result, Ok, Err, arith, if◌then◌else◌}
use Rattle.std.proofs.lemmas.List.{length-map}
use Rattle.std.proofs.lemmas.Bool.Decides.{nat_tests}
use Rattle.lexer.specs.declared.token.Mark.{Mark}
use Rattle.lexer.specs.declared.layout.Bracket.{Bracket}
use Rattle.lexer.specs.declared.layout.Bracket.TheVariants.{Round, Square, Curly}
use Rattle.lexer.specs.Tokens.{Placed}
use Rattle.lexer.specs.Layout.{same_bracket, opened, closed, opening, closing, after_token, mark_of}
use Rattle.lexer.specs.LaidOut.{GoesOn}
use Rattle.lexer.proofs.BracketLaws.{kinds, brackets_are, brackets_as}
use Rattle.file_syntax.specs.IndentFault.{OpenBracket, OpenChanges, OpenBehindMark, OpenBehind, MissesBrackets, IsBracketFault}
use Rattle.file_syntax.proofs.Steps.{Open, held, all_held}

-- brackets of one kind are the same
same_kind : (a b : Bracket) → same_bracket a b ≡ true → a ≡ b
same_kind Round Round e = refl
same_kind Square Square e = refl
same_kind Curly Curly e = refl
same_kind Round Square e = cc
same_kind Round Curly e = cc
same_kind Square Round e = cc
same_kind Square Curly e = cc
same_kind Curly Round e = cc
same_kind Curly Square e = cc

-- a bracket is of its own kind
kind_alike : (a : Bracket) → same_bracket a a ≡ true
kind_alike Round = refl
kind_alike Square = refl
kind_alike Curly = refl

-- what opens a bracket, closes one, or does neither
abbrev after_change : Option Bracket → Option Bracket → List Open → ℕ → Result (List Open) ℕ
after_change opens closes unclosed line = elim opens [
  | Some bracket ↦ opened unclosed bracket line
  | None ↦ elim closes [
    | Some bracket ↦ closed unclosed bracket line
    | None ↦ Ok unclosed
  ]
]

-- what passes a test for a fault
tested_ok : {A : Type 0} (b : Bool) (line : ℕ) (x y : A) → (if b then Err line else Ok x) ≡ Ok y → (b ≡ false) × (y ≡ x)
tested_ok true line x y e = absurd cc
tested_ok false line x y e = (refl, let same : x ≡ y = cc in sym same)

-- what fails it
tested_err : {A : Type 0} (b : Bool) (line n : ℕ) (x : A) → (if b then Err line else Ok x) ≡ Err n → (b ≡ true) × (n ≡ line)
tested_err true line n x e = (refl, let same : line ≡ n = cc in sym same)
tested_err false line n x e = absurd cc

-- what passes a test for its right
right_ok : {A : Type 0} (b : Bool) (line : ℕ) (x y : A) → (if b then Ok x else Err line) ≡ Ok y → (b ≡ true) × (y ≡ x)
right_ok true line x y e = (refl, let same : x ≡ y = cc in sym same)
right_ok false line x y e = absurd cc

-- what fails it
right_err : {A : Type 0} (b : Bool) (line n : ℕ) (x : A) → (if b then Ok x else Err line) ≡ Err n → (b ≡ false) × (n ≡ line)
right_err true line n x e = absurd cc
right_err false line n x e = (refl, let same : line ≡ n = cc in sym same)

-- the brackets that are open behind a change
abbrev Leaves : Option Bracket → Option Bracket → ℕ → List OpenBracket → List Open → Type 0
Leaves opens closes line us after = (vs : List OpenBracket) × (after ≡ all_held vs) × OpenChanges opens closes line us vs

-- a bracket that was opened
opened_ok : (us : List OpenBracket) (after : List Open) (bracket : Bracket) (closes : Option Bracket) (line : ℕ) → opened (all_held us) bracket line ≡ Ok after
    → Leaves (Some bracket) closes line us after
opened_ok us after bracket closes line e =
    let g = tested_ok (nat_le 100 (length (all_held us))) line (record { bracket = bracket; line = line } ∷ all_held us) after e in
    let test : nat_le 100 (length (all_held us)) ≡ false = g.0 in
    let long : length (all_held us) ≡ length us = length-map us held in
    (record { kind = bracket; line = line } ∷ us, g.1, (grind (arith, nat_tests), refl))

-- a bracket that was one too many
opened_err : (us : List OpenBracket) (bracket : Bracket) (line n : ℕ) → opened (all_held us) bracket line ≡ Err n
    → (100 ≤ length us) × (n ≡ line)
opened_err us bracket line n e =
    let g = tested_err (nat_le 100 (length (all_held us))) line n (record { bracket = bracket; line = line } ∷ all_held us) e in
    let test : nat_le 100 (length (all_held us)) ≡ true = g.0 in
    let long : length (all_held us) ≡ length us = length-map us held in
    (grind (arith, nat_tests), g.1)

-- a bracket that was closed
closed_ok : (us : List OpenBracket) (after : List Open) (bracket : Bracket) (line : ℕ) → closed (all_held us) bracket line ≡ Ok after
    → Leaves None (Some bracket) line us after
closed_ok [] after bracket line e = absurd cc
closed_ok (u ∷ us) after bracket line e =
    let g = right_ok (same_bracket u.kind bracket) line (all_held us) after e in
    let k : u.kind ≡ bracket = same_kind u.kind bracket g.0 in
    (us, g.1, (u.line, ap (λ (b : Bracket). record { kind = b; line = u.line } ∷ us) k))

-- a bracket that closes none
closed_err : (us : List OpenBracket) (bracket : Bracket) (line n : ℕ) → closed (all_held us) bracket line ≡ Err n
    → MissesBrackets None (Some bracket) us × (n ≡ line)
closed_err [] bracket line n e = (λ at others h. absurd cc, let same : line ≡ n = cc in sym same)
closed_err (u ∷ us) bracket line n e =
    let g = right_err (same_bracket u.kind bracket) line n (all_held us) e in (
      λ at others h.
          let one : u ≡ record { kind = bracket; line = at } = cc in
          let kind : same_bracket u.kind bracket ≡ true = ap (λ (p : OpenBracket). same_bracket p.kind bracket) one ∙ kind_alike bracket in
          let no = g.0 in
          absurd cc,
      g.1,
    )

-- a change of the brackets without fault
change_ok : (opens closes : Option Bracket) (us : List OpenBracket) (after : List Open) (line : ℕ)
    → after_change opens closes (all_held us) line ≡ Ok after → Leaves opens closes line us after
change_ok (Some bracket) closes us after line e = opened_ok us after bracket closes line e
change_ok None (Some bracket) us after line e = closed_ok us after bracket line e
change_ok None None us after line e = let r : all_held us ≡ after = cc in (us, sym r, refl)

-- a change that is refused
change_err : (opens closes : Option Bracket) (us : List OpenBracket) (line n : ℕ)
    → after_change opens closes (all_held us) line ≡ Err n → MissesBrackets opens closes us × (n ≡ line)
change_err (Some bracket) closes us line n e = opened_err us bracket line n e
change_err None (Some bracket) us line n e = closed_err us bracket line n e
change_err None None us line n e = absurd cc

-- a token without fault changes the open brackets so
pub open_is : (m : Option Mark) (us : List OpenBracket) (after : List Open) (line : ℕ) → after_token (all_held us) m line ≡ Ok after
    → (vs : List OpenBracket) × (after ≡ all_held vs) × OpenBehindMark m line us vs
open_is None us after line e = let r : all_held us ≡ after = cc in (us, sym r, refl)
open_is (Some m) us after line e = change_ok (opening m) (closing m) us after line e

-- a token that is refused is a bracket that may not stand there
pub misses_is : (m : Option Mark) (us : List OpenBracket) (line n : ℕ) → after_token (all_held us) m line ≡ Err n
    → IsBracketFault m us × (n ≡ line)
misses_is None us line n e = absurd cc
misses_is (Some m) us line n e = change_err (opening m) (closing m) us line n e

-- a change of the relation is without fault
change_as : (opens closes : Option Bracket) (us vs : List OpenBracket) (line : ℕ) → OpenChanges opens closes line us vs
    → after_change opens closes (all_held us) line ≡ Ok (all_held vs)
change_as (Some bracket) closes us vs line h =
    let few : length us < 100 = h.0 in
    let long : length (all_held us) ≡ length us = length-map us held in
    let test : nat_le 100 (length (all_held us)) ≡ false = grind (arith, nat_tests) in
    rw test (ap (λ l. Ok (all_held l)) (sym h.1))
change_as None (Some bracket) us vs line h = ap (λ l. closed (all_held l) bracket line) h.1 ∙ rw (kind_alike bracket) refl
change_as None None us vs line h = ap (λ l. Ok (all_held l)) (sym h)

-- a token that changes the open brackets as the relation says is without fault
pub open_as : (m : Option Mark) (us vs : List OpenBracket) (line : ℕ) → OpenBehindMark m line us vs
    → after_token (all_held us) m line ≡ Ok (all_held vs)
open_as None us vs line h = ap (λ l. Ok (all_held l)) (sym h)
open_as (Some m) us vs line h = change_as (opening m) (closing m) us vs line h

-- a change that the relation refuses is refused
missed_as : (opens closes : Option Bracket) (us : List OpenBracket) (line : ℕ) → MissesBrackets opens closes us
    → after_change opens closes (all_held us) line ≡ Err line
missed_as (Some bracket) closes us line h =
    let long : length (all_held us) ≡ length us = length-map us held in
    let test : nat_le 100 (length (all_held us)) ≡ true = grind (arith, nat_tests) in
    rw test refl
missed_as None (Some bracket) us line h = by_result (closed (all_held us) bracket line) refl
  where
    by_result : (r : Result (List Open) ℕ) → closed (all_held us) bracket line ≡ r → closed (all_held us) bracket line ≡ Err line
    by_result (Ok after) e = let c = closed_ok us after bracket line e in absurd (h c.2.0 c.0 c.2.1)
    by_result (Err n) e = e ∙ ap Err (closed_err us bracket line n e).1
missed_as None None us line h = absurd h

-- a bracket that may not stand there is refused
pub misses_as : (m : Option Mark) (us : List OpenBracket) (line : ℕ) → IsBracketFault m us
    → after_token (all_held us) m line ≡ Err line
misses_as None us line h = absurd h
misses_as (Some m) us line h = missed_as (opening m) (closing m) us line h

-- none is open
pub none_held : (us : List OpenBracket) → kinds (all_held us) ≡ [] → us ≡ []
none_held [] e = refl
none_held (u ∷ us) e = absurd cc

-- a logical line closes its brackets, and the other way round
pub open_logical : (ts : List Placed) (us : List OpenBracket) (line : ℕ) → OpenBehind us line ts []
    → GoesOn (kinds (all_held us)) line ts
open_logical [] us line h = ap (λ l. kinds (all_held l)) (sym h)
open_logical (t ∷ ts) us line h = (
  λ e. h.0 (none_held us e),
  (
    kinds (all_held h.1.0),
    brackets_are (mark_of t.token) (all_held us) (all_held h.1.0) t.line (open_as (mark_of t.token) us h.1.0 t.line h.1.1),
    open_logical ts h.1.0 t.line h.1.2,
  ),
)

-- the same the other way round
pub logical_open : (ts : List Placed) (us : List OpenBracket) (line : ℕ) → GoesOn (kinds (all_held us)) line ts
    → OpenBehind us line ts []
logical_open [] us line h = sym (none_held us h)
logical_open (t ∷ ts) us line h =
    let b = brackets_as (mark_of t.token) (all_held us) t.line h.1.0 h.1.1 in
    let o = open_is (mark_of t.token) us b.0 t.line b.1 in
    let same : h.1.0 ≡ kinds (all_held o.0) = sym b.2 ∙ ap kinds o.1 in
    (λ e. h.0 (ap (λ l. kinds (all_held l)) e), (o.0, o.2, logical_open ts o.0 t.line (subst (λ (k : List Bracket). GoesOn k t.line ts) same h.1.2)))
