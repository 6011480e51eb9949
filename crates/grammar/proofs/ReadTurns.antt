-- The reading of an expression, by one turn.
use Rattle.std.proofs.Common.{◌≡◌, ℕ, zero, suc, ◌-◌, ◌<◌, List, None, refl, ap, arith}
use Rattle.grammar.specs.declared.parts.Row.{Row}
use Rattle.lexer.specs.Tokens.{Token}
use Rattle.grammar.specs.Descent.{read, row}

pub no_turns : (n : ℕ) (w : Row) (r : ℕ) (ts : List Token) → n ≡ 0 → read n w r ts ≡ None
unfolding read
no_turns zero w r ts e = refl
no_turns (suc n) w r ts e = absurd (Prim.omega (arith, e))

pub no_room : (n : ℕ) (w : Row) (r : ℕ) (ts : List Token) → r ≡ 0 → read n w r ts ≡ None
unfolding read
no_room zero w r ts e = refl
no_room (suc n) w zero ts e = refl
no_room (suc n) w (suc r) ts e = absurd (Prim.omega (arith, e))

pub read_is : (n : ℕ) (w : Row) (r : ℕ) (ts : List Token) → 0 < n → 0 < r → read n w r ts ≡ row (read (n - 1)) n w r ts
unfolding read
read_is zero w r ts h k = absurd (Prim.omega (arith, h))
read_is (suc n) w zero ts h k = absurd (Prim.omega (arith, k))
read_is (suc n) w (suc r) ts h k = let e : n ≡ suc n - 1 = Prim.omega arith in ap (λ m. row (read m) (suc n) w (suc r) ts) e
