-- Statements without a head, with a limit on the depth.
use Rattle.std.proofs.Common.{◌≡◌, ℕ, ◌<◌, ◌≤◌, List, [], ◌∷◌, Option, Some, None, refl, sym, ap, subst, arith}
use Rattle.grammar.specs.declared.parts.Row.TheVariants.{Whole}
use Rattle.lexer.specs.declared.token.Word.TheVariants.{And, Break, Continue, Def, Elif, Else, For, If, In, Load, Not, Or, Pass, Reserved, Return}
use Rattle.lexer.specs.declared.token.Mark.TheVariants.{Comma, Assign, AddAssign}
use Rattle.lexer.specs.Tokens.{Token, name, number, string, word, mark}
use Rattle.grammar.specs.Tree.{Expr, identifier, integer, text, display, comprehension, conditional, operation, signed, field, index, call}
use Rattle.grammar.specs.Bare.{bare}
use Rattle.grammar.specs.Depth.{depth, listed_depth, simple_depth, body_depth}
use Rattle.grammar.specs.Statements as W
use Rattle.grammar.specs.Statements.{Listed, Simple}
use Rattle.grammar.specs.BareLines.{Form, passes, breaks, continues, returns, listed_tree, bare_simple}
use Rattle.grammar.specs.Built.{body_made, statement}
use Rattle.grammar.specs.Front.{behind_colon}
use Rattle.grammar.specs.Reading as R
use Rattle.grammar.specs.Reading.{if_last}
use Rattle.grammar.specs.FormReading as F
use Rattle.grammar.specs.FormReading.{then_found, Then, ended, assigned, increased, listing, other, then_at, names_to, lead}
use Rattle.grammar.specs.Descent as D
use Rattle.grammar.specs.Descent.{if_all}
use Rattle.grammar.specs.Ahead.{given, is_done}
use Rattle.grammar.specs.FormDescent as FD
use Rattle.grammar.specs.FormDescent.{opening_at, behind_assign, behind_add}
use Rattle.grammar.proofs.CappedForms.{CappedO, DeepO, deep_found, is_so, found, found_whole}
use Rattle.grammar.proofs.Descends.{part_of}
use Rattle.grammar.proofs.Gathers.{over_left, over_right, under_both}
use Rattle.grammar.proofs.ListedForms.{value_same, only_same}
use Rattle.grammar.proofs.Limited.{read_same}

assigned_same : (e : Expr) (xs : List (List ℕ)) (l : Listed) → depth e ≤ 200 → listed_depth l ≤ 200 → CappedO simple_depth bare_simple 200 (F.assign_to e xs l) (FD.assigned (part_of e) xs (listed_tree l))
assigned_same (identifier x) xs l le m = is_so simple_depth bare_simple 200 (W.assigns x xs l) m
assigned_same (integer k) xs l le m = refl
assigned_same (text s) xs l le m = refl
assigned_same (display b ms) xs l le m = refl
assigned_same (comprehension b k cs) xs l le m = refl
assigned_same (conditional a c b) xs l le m = refl
assigned_same (operation o a b) xs l le m = refl
assigned_same (signed s a) xs l le m = refl
assigned_same (field f x) xs l le m = refl
assigned_same (index f a) [] l le m = is_so simple_depth bare_simple 200 (W.assigns_at f a l) (under_both (depth (index f a)) (listed_depth l) 200 le m)
assigned_same (index f a) (x ∷ xs) l le m = refl
assigned_same (call f ms) xs l le m = refl

-- what is assigned is too deep
value_deep : (e : Expr) (xs : List (List ℕ)) (l : Listed) → 200 < listed_depth l → DeepO simple_depth 200 (F.assign_to e xs l)
value_deep (identifier x) xs l lt = lt
value_deep (integer k) xs l lt = tt
value_deep (text s) xs l lt = tt
value_deep (display b ms) xs l lt = tt
value_deep (comprehension b k cs) xs l lt = tt
value_deep (conditional a c b) xs l lt = tt
value_deep (operation o a b) xs l lt = tt
value_deep (signed s a) xs l lt = tt
value_deep (field f x) xs l lt = tt
value_deep (index f a) [] l lt = over_right (depth (index f a)) (listed_depth l) 200 lt
value_deep (index f a) (x ∷ xs) l lt = tt
value_deep (call f ms) xs l lt = tt

-- what is assigned to is too deep
target_deep : (e : Expr) (xs : List (List ℕ)) (l : Listed) → 200 < depth e → DeepO simple_depth 200 (F.assign_to e xs l)
target_deep (identifier x) xs l lt = absurd (Prim.omega (arith, lt))
target_deep (integer k) xs l lt = tt
target_deep (text s) xs l lt = tt
target_deep (display b ms) xs l lt = tt
target_deep (comprehension b k cs) xs l lt = tt
target_deep (conditional a c b) xs l lt = tt
target_deep (operation o a b) xs l lt = tt
target_deep (signed s a) xs l lt = tt
target_deep (field f x) xs l lt = tt
target_deep (index f a) [] l lt = over_left (depth (index f a)) (listed_depth l) 200 lt
target_deep (index f a) (x ∷ xs) l lt = tt
target_deep (call f ms) xs l lt = tt

increased_same : (e : Expr) (b : Expr) → depth e ≤ 200 → depth b ≤ 200 → CappedO simple_depth bare_simple 200 (F.increase e b) (FD.increased (part_of e) (bare b))
increased_same (identifier x) b le m = is_so simple_depth bare_simple 200 (W.increases x b) m
increased_same (integer k) b le m = refl
increased_same (text s) b le m = refl
increased_same (display c ms) b le m = refl
increased_same (comprehension c k cs) b le m = refl
increased_same (conditional a c d) b le m = refl
increased_same (operation o a c) b le m = refl
increased_same (signed s a) b le m = refl
increased_same (field f x) b le m = refl
increased_same (index f a) b le m = is_so simple_depth bare_simple 200 (W.increases_at f a b) (under_both (depth (index f a)) (depth b) 200 le m)
increased_same (call f ms) b le m = refl

added_deep : (e b : Expr) → 200 < depth b → DeepO simple_depth 200 (F.increase e b)
added_deep (identifier x) b lt = lt
added_deep (integer k) b lt = tt
added_deep (text s) b lt = tt
added_deep (display c ms) b lt = tt
added_deep (comprehension c k cs) b lt = tt
added_deep (conditional a c d) b lt = tt
added_deep (operation o a c) b lt = tt
added_deep (signed s a) b lt = tt
added_deep (field f x) b lt = tt
added_deep (index f a) b lt = over_right (depth (index f a)) (depth b) 200 lt
added_deep (call f ms) b lt = tt

increased_deep : (e b : Expr) → 200 < depth e → DeepO simple_depth 200 (F.increase e b)
increased_deep (identifier x) b lt = absurd (Prim.omega (arith, lt))
increased_deep (integer k) b lt = tt
increased_deep (text s) b lt = tt
increased_deep (display c ms) b lt = tt
increased_deep (comprehension c k cs) b lt = tt
increased_deep (conditional a c d) b lt = tt
increased_deep (operation o a c) b lt = tt
increased_deep (signed s a) b lt = tt
increased_deep (field f x) b lt = tt
increased_deep (index f a) b lt = over_left (depth (index f a)) (depth b) 200 lt
increased_deep (call f ms) b lt = tt

-- with so many turns
module _ (n : ℕ) where
  assign_same : (e : Expr) (xs : List (List ℕ)) (v : List Token) → depth e ≤ 200 → CappedO simple_depth bare_simple 200 (then_found (F.listed (R.read n) n n v) (F.assign_to e xs)) (then_found (FD.value n v) (FD.assigned (part_of e) xs))
  assign_same e xs v le =
      found_whole listed_depth listed_tree 200 simple_depth bare_simple 200 (F.listed (R.read n) n n v) (FD.value n v) (F.assign_to e xs) (FD.assigned (part_of e) xs) (value_same n v)
      (λ l m. assigned_same e xs l le m) (λ l lt. value_deep e xs l lt)

  names_same : (e : Expr) (o : Option (List (List ℕ) × List Token)) → depth e ≤ 200 → CappedO simple_depth bare_simple 200 (F.names_step (R.read n) n e o) (FD.names_step n (part_of e) o)
  names_same e None le = refl
  names_same e (Some r) le = assign_same e r.0 r.1 le

  names_deep : (e : Expr) (o : Option (List (List ℕ) × List Token)) → 200 < depth e → DeepO simple_depth 200 (F.names_step (R.read n) n e o)
  names_deep e None lt = tt
  names_deep e (Some r) lt = deep_found simple_depth 200 (F.listed (R.read n) n n r.1) (F.assign_to e r.0) (λ l. target_deep e r.0 l lt)

  target_same : (e : Expr) → depth e ≤ 200 → (u : List Token) → CappedO simple_depth bare_simple 200 (F.target_step (R.read n) n e u (then_at u)) (FD.target_step n (part_of e) u (is_done u))
  unfolding then_at behind_assign behind_add names_to
  target_same e le [] = is_so simple_depth bare_simple 200 (W.evaluates e) le
  target_same e le (mark Assign ∷ v) = assign_same e [] v le
  target_same e le (mark AddAssign ∷ v) =
      found_whole depth bare 200 simple_depth bare_simple 200 (if_last (R.read n R.whole v)) (if_all (D.read n Whole 200 v)) (F.increase e) (FD.increased (part_of e)) (only_same (R.read n R.whole v) (D.read n Whole 200 v) (read_same n Whole 200 v))
      (λ b m. increased_same e b le m) (λ b lt. added_deep e b lt)
  target_same e le (mark Comma ∷ v) = names_same e (names_to (mark Comma ∷ v)) le
  target_same e le _ = refl

  target_step_deep : (e : Expr) → 200 < depth e → (u : List Token) (t : Then) → DeepO simple_depth 200 (F.target_step (R.read n) n e u t)
  target_step_deep e lt u ended = lt
  target_step_deep e lt u (assigned v) = names_deep e (Some ([], v)) lt
  target_step_deep e lt u (increased v) = deep_found simple_depth 200 (if_last (R.read n R.whole v)) (F.increase e) (λ b. increased_deep e b lt)
  target_step_deep e lt u (listing v) = names_deep e (names_to u) lt
  target_step_deep e lt u other = tt

  expression_same : (ts : List Token) → CappedO simple_depth bare_simple 200 (then_found (R.read n R.whole ts) (λ r. F.target_step (R.read n) n r.0 r.1 (then_at r.1))) (FD.expression_line n ts)
  unfolding FD.expression_line
  expression_same ts =
      found depth part_of 200 simple_depth bare_simple 200 (R.read n R.whole ts) (D.read n Whole 200 ts) (λ r. F.target_step (R.read n) n r.0 r.1 (then_at r.1)) (λ p. FD.target_step n p.0 p.1 (is_done p.1)) (read_same n Whole 200 ts)
      (λ a u le. target_same a le u) (λ a u lt. target_step_deep a lt u (then_at u))

  pass_same : (u : List Token) → CappedO simple_depth bare_simple 200 (F.simple_word (R.read n) n Pass u) (given (is_done u) passes)
  pass_same [] = is_so simple_depth bare_simple 200 W.passes (Prim.omega arith)
  pass_same (t ∷ u) = refl

  break_same : (u : List Token) → CappedO simple_depth bare_simple 200 (F.simple_word (R.read n) n Break u) (given (is_done u) breaks)
  break_same [] = is_so simple_depth bare_simple 200 W.breaks (Prim.omega arith)
  break_same (t ∷ u) = refl

  continue_same : (u : List Token) → CappedO simple_depth bare_simple 200 (F.simple_word (R.read n) n Continue u) (given (is_done u) continues)
  continue_same [] = is_so simple_depth bare_simple 200 W.continues (Prim.omega arith)
  continue_same (t ∷ u) = refl

  return_same : (u : List Token) → CappedO simple_depth bare_simple 200 (F.simple_word (R.read n) n Return u) (FD.return_step n u (is_done u))
  return_same [] = is_so simple_depth bare_simple 200 W.returns (Prim.omega arith)
  return_same (t ∷ u) =
      found_whole listed_depth listed_tree 200 simple_depth bare_simple 200 (F.listed (R.read n) n n (t ∷ u)) (FD.value n (t ∷ u)) (λ l. Some (W.returns_list l)) (λ t. Some (returns (Some t))) (value_same n (t ∷ u))
      (λ l le. is_so simple_depth bare_simple 200 (W.returns_list l) le) (λ l lt. lt)

  pub simple_same : (ts : List Token) → CappedO simple_depth bare_simple 200 (F.simple_at (R.read n) n ts) (FD.simple n ts)
  unfolding F.simple_at FD.simple lead opening_at
  simple_same [] = refl
  simple_same (word Load ∷ ts) = refl
  simple_same (word Def ∷ ts) = refl
  simple_same (word If ∷ ts) = refl
  simple_same (word Elif ∷ ts) = refl
  simple_same (word Else ∷ ts) = refl
  simple_same (word For ∷ ts) = refl
  simple_same (word And ∷ ts) = refl
  simple_same (word In ∷ ts) = refl
  simple_same (word Or ∷ ts) = refl
  simple_same (word Reserved ∷ ts) = refl
  simple_same (word Pass ∷ ts) = pass_same ts
  simple_same (word Break ∷ ts) = break_same ts
  simple_same (word Continue ∷ ts) = continue_same ts
  simple_same (word Return ∷ ts) = return_same ts
  simple_same (word Not ∷ ts) = expression_same (word Not ∷ ts)
  simple_same (name x ∷ ts) = expression_same (name x ∷ ts)
  simple_same (number x ∷ ts) = expression_same (number x ∷ ts)
  simple_same (string x ∷ ts) = expression_same (string x ∷ ts)
  simple_same (mark x ∷ ts) = expression_same (mark x ∷ ts)

  inline_same : (t : Token) (u : List Token) (o : Option Simple) (o' : Option Form) → CappedO simple_depth bare_simple 200 o o' → CappedO body_depth body_made 200 (F.inline_step (R.read n) n (t ∷ u) o) (then_found o' (λ f. Some (statement f)))
  inline_same t u None o' c = subst (λ x. then_found x (λ f. Some (statement f)) ≡ None) (sym c) refl
  inline_same t u (Some s) o' c = ((λ le. ap (λ x. then_found x (λ f. Some (statement f))) (c.0 le)), λ lt. ap (λ x. then_found x (λ f. Some (statement f))) (c.1 lt))

  body_step_same : (o : Option (List Token)) → CappedO body_depth body_made 200 (F.body_step (R.read n) n o) (FD.body_step n o)
  unfolding F.simple_at lead
  body_step_same None = refl
  body_step_same (Some []) = is_so body_depth body_made 200 W.block (Prim.omega arith)
  body_step_same (Some (t ∷ u)) = inline_same t u (F.simple_at (R.read n) n (t ∷ u)) (FD.simple n (t ∷ u)) (simple_same (t ∷ u))

  pub body_same : (ts : List Token) → CappedO body_depth body_made 200 (F.body_at (R.read n) n ts) (FD.body n ts)
  unfolding FD.body
  body_same ts = body_step_same (behind_colon ts)
