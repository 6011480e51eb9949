-- How large an expression is, and how many turns a loop makes for it.
use Rattle.std.proofs.Common.{◌≡◌, ℕ, suc, ◌+◌, ◌≤◌, Bool, true, false, List, [], ◌∷◌, refl, ap, arith, length}
use Rattle.std.specs.Prelude.{◌==◌}
use Rattle.std.proofs.lemmas.Bool.{eqb-true}
use Rattle.lexer.specs.declared.token.Mark.TheVariants.{Comma, CloseParen, CloseBracket, OpenBracket, OpenParen, Dot, Colon}
use Rattle.lexer.specs.declared.token.Word.TheVariants.{Else, If, In}
use Rattle.lexer.specs.Tokens.{Token, name, mark, word}
use Rattle.grammar.specs.Tree.{Operator, either, both, equal, not_equal, less, greater, less_equal, greater_equal, within, not_within, add, subtract, multiply, divide, remainder, Expr, identifier, integer, text, display, comprehension, conditional, operation, signed, field, index, call, Member, plain, keyword, entry, Members, no_members, last_member, next_member, Clauses, no_clauses, for_clause, if_clause}
use Rattle.grammar.specs.Levels.{operator_level, left_level, level}
use Rattle.grammar.specs.Spelling.{spelled, member_spelled, members_spelled, clauses_spelled, names_spelled, operator_spelled, close_mark}

abbrev mutual
  pub size : Expr → ℕ
  size (identifier x) = 1
  size (integer n) = 1
  size (text s) = 1
  size (display b ms) = suc (sizes ms)
  size (comprehension b m cs) = suc (member_size m + clauses_size cs)
  size (conditional a c b) = suc (size a + size c + size b)
  size (operation o a b) = suc (size a + size b)
  size (signed s a) = suc (size a)
  size (field f x) = suc (size f)
  size (index f a) = suc (size f + size a)
  size (call f ms) = suc (size f + sizes ms)

  pub member_size : Member → ℕ
  member_size (plain a) = size a
  member_size (keyword x a) = size a
  member_size (entry k v) = size k + size v

  pub sizes : Members → ℕ
  sizes no_members = 1
  sizes (last_member m) = suc (member_size m)
  sizes (next_member m ms) = suc (member_size m + sizes ms)

  pub clauses_size : Clauses → ℕ
  clauses_size no_clauses = 1
  clauses_size (for_clause x xs a cs) = suc (size a + clauses_size cs)
  clauses_size (if_clause a cs) = suc (size a + clauses_size cs)

abbrev pub turns_step : Bool → ℕ → ℕ
turns_step true n = suc n
turns_step false n = 0

-- the turns of a loop over operators of a level
abbrev pub turns : ℕ → Expr → ℕ
turns l (operation o a b) = turns_step (operator_level o == l) (turns l a)
turns l _ = 0

-- the turns of the loop over fields, indexes and calls
abbrev pub suffixes_in : Expr → ℕ
suffixes_in (field f x) = suc (suffixes_in f)
suffixes_in (index f a) = suc (suffixes_in f)
suffixes_in (call f ms) = suc (suffixes_in f)
suffixes_in _ = 0

pub size_some : (t : Expr) → 1 ≤ size t
size_some (identifier x) = Prim.omega arith
size_some (integer x) = Prim.omega arith
size_some (text x) = Prim.omega arith
size_some (display b ms) = Prim.omega arith
size_some (comprehension b m cs) = Prim.omega arith
size_some (conditional a c b) = Prim.omega arith
size_some (operation o a b) = Prim.omega arith
size_some (signed s a) = Prim.omega arith
size_some (field f x) = Prim.omega arith
size_some (index f a) = Prim.omega arith
size_some (call f ms) = Prim.omega arith

step_small : (b : Bool) (n m : ℕ) → suc n ≤ m → suc (turns_step b n) ≤ suc m
step_small true n m h = Prim.omega (arith, h)
step_small false n m h = Prim.omega arith

pub turns_fewer : (l : ℕ) (t : Expr) → suc (turns l t) ≤ size t
turns_fewer l (operation o a b) = let h = turns_fewer l a in let k = step_small (operator_level o == l) (turns l a) (size a) h in Prim.omega (arith, k)
turns_fewer l (identifier x) = Prim.omega arith
turns_fewer l (integer x) = Prim.omega arith
turns_fewer l (text x) = Prim.omega arith
turns_fewer l (display b ms) = Prim.omega arith
turns_fewer l (comprehension b m cs) = Prim.omega arith
turns_fewer l (conditional a c b) = Prim.omega arith
turns_fewer l (signed s a) = Prim.omega arith
turns_fewer l (field f x) = Prim.omega arith
turns_fewer l (index f a) = Prim.omega arith
turns_fewer l (call f ms) = Prim.omega arith

pub suffixes_fewer : (t : Expr) → suc (suffixes_in t) ≤ size t
suffixes_fewer (field f x) = let h = suffixes_fewer f in Prim.omega (arith, h)
suffixes_fewer (index f a) = let h = suffixes_fewer f in Prim.omega (arith, h)
suffixes_fewer (call f ms) = let h = suffixes_fewer f in Prim.omega (arith, h)
suffixes_fewer (identifier x) = Prim.omega arith
suffixes_fewer (integer x) = Prim.omega arith
suffixes_fewer (text x) = Prim.omega arith
suffixes_fewer (display b ms) = Prim.omega arith
suffixes_fewer (comprehension b m cs) = Prim.omega arith
suffixes_fewer (conditional a c b) = Prim.omega arith
suffixes_fewer (operation o a b) = Prim.omega arith
suffixes_fewer (signed s a) = Prim.omega arith

-- numbers of which one is smaller are not the same
pub differ : (a b : ℕ) → (a ≡ b → ⊥) → (a == b) ≡ false
differ a b h = go (a == b) refl
  where
    go : (r : Bool) → (a == b) ≡ r → r ≡ false
    go true e = absurd (h (eqb-true a b e))
    go false e = refl

-- an expression that binds more tightly than a level has no operator of that level outside
pub no_turns : (l : ℕ) (t : Expr) → suc l ≤ level t → turns l t ≡ 0
no_turns l (operation o a b) h = ap (λ r. turns_step r (turns l a)) (differ (operator_level o) l (λ e. Prim.omega (arith, e, h)))
no_turns l (identifier x) h = refl
no_turns l (integer x) h = refl
no_turns l (text x) h = refl
no_turns l (display b ms) h = refl
no_turns l (comprehension b m cs) h = refl
no_turns l (conditional a c b) h = refl
no_turns l (signed s a) h = refl
no_turns l (field f x) h = refl
no_turns l (index f a) h = refl
no_turns l (call f ms) h = refl

-- what holds of the five levels of operators holds of each operator's
pub by_level : (P : ℕ → Type 0) → P 2 → P 3 → P 5 → P 6 → P 7 → (o : Operator) → P (operator_level o)
by_level P p2 p3 p5 p6 p7 either = p2
by_level P p2 p3 p5 p6 p7 both = p3
by_level P p2 p3 p5 p6 p7 equal = p5
by_level P p2 p3 p5 p6 p7 not_equal = p5
by_level P p2 p3 p5 p6 p7 less = p5
by_level P p2 p3 p5 p6 p7 greater = p5
by_level P p2 p3 p5 p6 p7 less_equal = p5
by_level P p2 p3 p5 p6 p7 greater_equal = p5
by_level P p2 p3 p5 p6 p7 within = p5
by_level P p2 p3 p5 p6 p7 not_within = p5
by_level P p2 p3 p5 p6 p7 add = p6
by_level P p2 p3 p5 p6 p7 subtract = p6
by_level P p2 p3 p5 p6 p7 multiply = p7
by_level P p2 p3 p5 p6 p7 divide = p7
by_level P p2 p3 p5 p6 p7 remainder = p7

-- the left part of an operator is at its level or above, and above that of a comparison
pub left_high : (o : Operator) → operator_level o ≤ left_level o
left_high either = Prim.omega arith
left_high both = Prim.omega arith
left_high equal = Prim.omega arith
left_high not_equal = Prim.omega arith
left_high less = Prim.omega arith
left_high greater = Prim.omega arith
left_high less_equal = Prim.omega arith
left_high greater_equal = Prim.omega arith
left_high within = Prim.omega arith
left_high not_within = Prim.omega arith
left_high add = Prim.omega arith
left_high subtract = Prim.omega arith
left_high multiply = Prim.omega arith
left_high divide = Prim.omega arith
left_high remainder = Prim.omega arith

pub left_comparison : (o : Operator) → operator_level o ≡ 5 → left_level o ≡ 6
left_comparison either e = absurd (Prim.omega (arith, e))
left_comparison both e = absurd (Prim.omega (arith, e))
left_comparison multiply e = absurd (Prim.omega (arith, e))
left_comparison divide e = absurd (Prim.omega (arith, e))
left_comparison remainder e = absurd (Prim.omega (arith, e))
left_comparison _ e = refl

pub left_own : (o : Operator) → (operator_level o ≡ 5 → ⊥) → left_level o ≤ operator_level o
left_own either e = Prim.omega arith
left_own both e = Prim.omega arith
left_own add e = Prim.omega arith
left_own subtract e = Prim.omega arith
left_own multiply e = Prim.omega arith
left_own divide e = Prim.omega arith
left_own remainder e = Prim.omega arith
left_own _ e = absurd (e refl)

operator_length : (o : Operator) (ts : List Token) → suc (length ts) ≤ length (operator_spelled o ts)
operator_length either ts = Prim.omega arith
operator_length both ts = Prim.omega arith
operator_length equal ts = Prim.omega arith
operator_length not_equal ts = Prim.omega arith
operator_length less ts = Prim.omega arith
operator_length greater ts = Prim.omega arith
operator_length less_equal ts = Prim.omega arith
operator_length greater_equal ts = Prim.omega arith
operator_length within ts = Prim.omega arith
operator_length not_within ts = Prim.omega arith
operator_length add ts = Prim.omega arith
operator_length subtract ts = Prim.omega arith
operator_length multiply ts = Prim.omega arith
operator_length divide ts = Prim.omega arith
operator_length remainder ts = Prim.omega arith

pub names_length : (xs : List (List ℕ)) (ts : List Token) → length ts ≤ length (names_spelled xs ts)
names_length [] ts = Prim.omega arith
names_length (x ∷ xs) ts = let h = names_length xs ts in Prim.omega (arith, h)

-- each part of an expression has a token of its own
mutual
  pub sized : (t : Expr) (ts : List Token) → size t + length ts ≤ length (spelled t ts)
  sized (identifier x) ts = Prim.omega arith
  sized (integer x) ts = Prim.omega arith
  sized (text x) ts = Prim.omega arith
  sized (display b ms) ts = let h = members_sized ms (mark (close_mark b) ∷ ts) in Prim.omega (arith, h)
  sized (comprehension b m cs) ts =
      let u = mark (close_mark b) ∷ ts in
      let h = member_sized m (clauses_spelled cs u) in
      let k = clauses_sized cs u in
      Prim.omega (arith, h, k)
  sized (conditional a c b) ts =
      let h = sized b ts in
      let k = sized c (word Else ∷ spelled b ts) in
      let i = sized a (word If ∷ spelled c (word Else ∷ spelled b ts)) in
      Prim.omega (arith, h, k, i)
  sized (operation o a b) ts =
      let h = sized b ts in
      let k = operator_length o (spelled b ts) in
      let i = sized a (operator_spelled o (spelled b ts)) in
      Prim.omega (arith, h, k, i)
  sized (signed s a) ts = let h = sized a ts in Prim.omega (arith, h)
  sized (field f x) ts = let h = sized f (mark Dot ∷ name x ∷ ts) in Prim.omega (arith, h)
  sized (index f a) ts =
      let h = sized a (mark CloseBracket ∷ ts) in
      let k = sized f (mark OpenBracket ∷ spelled a (mark CloseBracket ∷ ts)) in
      Prim.omega (arith, h, k)
  sized (call f ms) ts =
      let h = members_sized ms (mark CloseParen ∷ ts) in
      let k = sized f (mark OpenParen ∷ members_spelled ms (mark CloseParen ∷ ts)) in
      Prim.omega (arith, h, k)

  member_sized : (m : Member) (ts : List Token) → member_size m + length ts ≤ length (member_spelled m ts)
  member_sized (plain a) ts = sized a ts
  member_sized (keyword x a) ts = let h = sized a ts in Prim.omega (arith, h)
  member_sized (entry k v) ts = let h = sized v ts in let i = sized k (mark Colon ∷ spelled v ts) in Prim.omega (arith, h, i)

  members_sized : (ms : Members) (ts : List Token) → sizes ms + length ts ≤ suc (length (members_spelled ms ts))
  members_sized no_members ts = Prim.omega arith
  members_sized (last_member m) ts = let h = member_sized m ts in Prim.omega (arith, h)
  members_sized (next_member m ms) ts = let h = members_sized ms ts in let i = member_sized m (mark Comma ∷ members_spelled ms ts) in Prim.omega (arith, h, i)

  clauses_sized : (cs : Clauses) (ts : List Token) → clauses_size cs + length ts ≤ suc (length (clauses_spelled cs ts))
  clauses_sized no_clauses ts = Prim.omega arith
  clauses_sized (for_clause x xs a cs) ts =
      let h = clauses_sized cs ts in
      let i = sized a (clauses_spelled cs ts) in
      let j = names_length xs (word In ∷ spelled a (clauses_spelled cs ts)) in
      Prim.omega (arith, h, i, j)
  clauses_sized (if_clause a cs) ts = let h = clauses_sized cs ts in let i = sized a (clauses_spelled cs ts) in Prim.omega (arith, h, i)
