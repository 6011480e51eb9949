-- Members and clauses that are read one after the other, with a limit on the depth and without one.
use Rattle.std.proofs.Common.{◌≡◌, ℕ, zero, suc, ◌<◌, ◌≤◌, max, List, Option, Some, None, refl, sym, subst, arith, inl, inr, ◌⊎◌}
use Rattle.std.specs.Prelude.{◌&&◌}
use Rattle.std.proofs.Math.Nat.{le-max_left, le-max_right, max-eq_left, max-eq_right}
use Rattle.lexer.specs.declared.layout.Bracket.{Bracket}
use Rattle.lexer.specs.declared.layout.Bracket.TheVariants.{Round, Curly}
use Rattle.grammar.specs.declared.parts.Row.{Row}
use Rattle.grammar.specs.declared.parts.Row.TheVariants.{Whole, Operand}
use Rattle.lexer.specs.Tokens.{Token}
use Rattle.grammar.specs.Tree.{Expr, Member, plain, keyword, entry, Members, no_members, last_member, next_member, Clauses, no_clauses, for_clause, if_clause}
use Rattle.grammar.specs.Levels.{Held, items, entries, arguments}
use Rattle.grammar.specs.Depth.{depth, member_depth, members_depth, clauses_depth}
use Rattle.grammar.specs.Front.{behind_close, behind_comma, behind_colon, keyword_at, Head, for_head, if_head, no_head, head_at}
use Rattle.grammar.specs.Reading as R
use Rattle.grammar.specs.Reading.{Parse, then_read}
use Rattle.grammar.specs.Descent as D
use Rattle.grammar.specs.Descent.{Part}
use Rattle.grammar.proofs.Capped.{Capped, Deep, deep_then, bind, stays, wrapped, either_way}
use Rattle.grammar.proofs.FrontSame.{named_same}
use Rattle.grammar.proofs.Descends.{part_of, row_of, Same}

pub over_left : (a b r : ℕ) → r < a → r < max a b
over_left a b r lt = let m = le-max_left a b in Prim.omega (arith, lt, m)

pub over_right : (a b r : ℕ) → r < b → r < max a b
over_right a b r lt = let m = le-max_right a b in Prim.omega (arith, lt, m)

pub under_left : (a b r : ℕ) → max a b ≤ r → a ≤ r
under_left a b r le = let m = le-max_left a b in Prim.omega (arith, le, m)

pub under_right : (a b r : ℕ) → max a b ≤ r → b ≤ r
under_right a b r le = let m = le-max_right a b in Prim.omega (arith, le, m)

pub under_both : (a b r : ℕ) → a ≤ r → b ≤ r → max a b ≤ r
under_both a b r la lb = elim (either_way a b) [
  | inl le ↦ subst (λ m. m ≤ r) (sym (max-eq_right le)) lb
  | inr lt ↦ subst (λ m. m ≤ r) (sym (max-eq_left (Prim.omega (arith, lt)))) la
]

pub right_is_over : (a b r : ℕ) → a ≤ r → r < max a b → r < b
right_is_over a b r la lt = elim (either_way b r) [
  | inl le ↦ absurd (let m = under_both a b r la le in Prim.omega (arith, lt, m))
  | inr more ↦ more
]

-- members that are taken up one after the other
abbrev pub onto : {S : Type 0} → (S → Member → S) → S → Members → S
onto add s no_members = s
onto add s (last_member m) = add s m
onto add s (next_member m ms) = onto add (add s m) ms

pub read_twice : {A B C : Type 0} (o : Option (A × List Token)) (g : A → B) (f : B → Parse C) → then_read (then_read o (λ a u. Some (g a, u))) f ≡ then_read o (λ a u. f (g a) u)
read_twice None g f = refl
read_twice (Some p) g f = refl

abbrev pub add_item : D.Several → Member → D.Several
add_item s (plain a) = D.with_item s (part_of a)
add_item s m = record { trees = s.trees; depth = max s.depth (member_depth m) }

abbrev pub entry_of : Expr × Expr → Member
entry_of p = entry p.0 p.1

abbrev pub pair_of : Expr × Expr → Part × Part
pair_of p = (part_of p.0, part_of p.1)

abbrev pub add_pair : D.Pairs → Member → D.Pairs
add_pair s (entry k v) = D.with_pair s (part_of k, part_of v)
add_pair s m = record { entries = s.entries; depth = max s.depth (member_depth m) }

abbrev pub argument_of : (List ℕ × Expr) ⊎ Expr → Member
argument_of (inl p) = keyword p.0 p.1
argument_of (inr a) = plain a

abbrev pub given_of : (List ℕ × Expr) ⊎ Expr → D.Argument
given_of (inl p) = D.keyword p.0 (part_of p.1)
given_of (inr a) = D.positional (part_of a)

abbrev pub add_argument : D.Arguments → Member → D.Arguments
add_argument s (plain a) = D.with_argument s (D.positional (part_of a))
add_argument s (keyword x a) = D.with_argument s (D.keyword x (part_of a))
add_argument s (entry k v) = record { trees = s.trees; named = s.named; depth = max s.depth (max (depth k) (depth v)); in_order = s.in_order && D.none_named s.named }

abbrev pub add_clauses : D.Conditions → Clauses → D.Conditions
add_clauses s no_clauses = s
add_clauses s (for_clause x xs a cs) = add_clauses (D.with_for s x xs (part_of a)) cs
add_clauses s (if_clause a cs) = add_clauses (D.with_if s (part_of a)) cs

abbrev pub pair_depth : Expr × Expr → ℕ
pair_depth p = max (depth p.0) (depth p.1)

abbrev pub argument_depth : (List ℕ × Expr) ⊎ Expr → ℕ
argument_depth a = member_depth (argument_of a)

-- with what reads the expressions inside
module _ (inside : R.Row → Parse Expr) (inside' : Row → ℕ → Parse Part) (most : ℕ) (same : (w : Row) → Same (inside (row_of w)) (inside' w)) where
  after_deep : (more : Parse Members) (m : Member) (r : ℕ) → r < member_depth m → (c e : Option (List Token)) → Deep members_depth r (R.after_member inside most more m c e)
  after_deep more m r lt (Some u) e = lt
  after_deep more m r lt None (Some u) = deep_then members_depth r (more u) (λ ms v. Some (next_member m ms, v)) (λ ms v. over_left (member_depth m) (members_depth ms) r lt)
  after_deep more m r lt None None = tt

  pub after_same : {S : Type 0} (add : S → Member → S) (more : Parse Members) (more' : S → Parse S) (r : ℕ) → ((s : S) (u : List Token) → Capped members_depth (onto add s) r (more u) (more' s u))
      → (s : S) (m : Member) → member_depth m ≤ r → (c e : Option (List Token)) → Capped members_depth (onto add s) r (R.after_member inside most more m c e) (D.after_one more' (add s m) c e)
  after_same add more more' r h s m le (Some u) e = stays members_depth (onto add s) r (last_member m) u le
  after_same add more more' r h s m le None (Some u) =
      wrapped members_depth (onto add (add s m)) members_depth (onto add s) r (next_member m) (more u) (more' (add s m) u) (h (add s m) u)
      (λ ms k. under_right (member_depth m) (members_depth ms) r k)
      (λ ms k. right_is_over (member_depth m) (members_depth ms) r le k)
      (λ ms. refl)
  after_same add more more' r h s m le None None = refl

  members_step_same : {S M A : Type 0} (b : Bracket) (h : Held) (r : ℕ) (add : S → Member → S) (one : Parse M) (add' : S → M → S) (one_r : Parse A) (g : A → Member) (v : A → M)
      → ((ts : List Token) → R.member inside most h ts ≡ then_read (one_r ts) (λ a u. Some (g a, u)))
      → ((s : S) (a : A) → add s (g a) ≡ add' s (v a))
      → ((ts : List Token) → Capped (λ a. member_depth (g a)) v r (one_r ts) (one ts))
      → (more : Parse Members) (more' : S → Parse S) → ((s : S) (u : List Token) → Capped members_depth (onto add s) r (more u) (more' s u))
      → (s : S) (ts : List Token) (c : Option (List Token)) → Capped members_depth (onto add s) r (R.members_step inside most more h b ts c) (D.gather_step one add' more' b s ts c)
  members_step_same b h r add one add' one_r g v e1 e2 e3 more more' k s ts (Some u) = stays members_depth (onto add s) r no_members u (Prim.omega arith)
  members_step_same b h r add one add' one_r g v e1 e2 e3 more more' k s ts None =
      subst (λ o. Capped members_depth (onto add s) r (then_read o (λ m u. R.after_member inside most more m (behind_close b u) (behind_comma u))) (D.gather_step one add' more' b s ts None)) (sym (e1 ts))
      (subst (λ o. Capped members_depth (onto add s) r o (D.gather_step one add' more' b s ts None)) (sym (read_twice (one_r ts) g (λ m u. R.after_member inside most more m (behind_close b u) (behind_comma u))))
      (bind (λ a. member_depth (g a)) v r members_depth (onto add s) r (one_r ts) (one ts) (λ a u. R.after_member inside most more (g a) (behind_close b u) (behind_comma u)) (λ m u. D.after_one more' (add' s m) (behind_close b u) (behind_comma u)) (e3 ts)
      (λ a u le. subst (λ x. Capped members_depth (onto add s) r (R.after_member inside most more (g a) (behind_close b u) (behind_comma u)) (D.after_one more' x (behind_close b u) (behind_comma u))) (e2 s a)
      (after_same add more more' r k s (g a) le (behind_close b u) (behind_comma u)))
      (λ a u lt. after_deep more (g a) r lt (behind_close b u) (behind_comma u))))

  pub gather_same : {S M A : Type 0} (b : Bracket) (h : Held) (r : ℕ) (add : S → Member → S) (one : Parse M) (add' : S → M → S) (one_r : Parse A) (g : A → Member) (v : A → M)
      → ((ts : List Token) → R.member inside most h ts ≡ then_read (one_r ts) (λ a u. Some (g a, u)))
      → ((s : S) (a : A) → add s (g a) ≡ add' s (v a))
      → ((ts : List Token) → Capped (λ a. member_depth (g a)) v r (one_r ts) (one ts))
      → (k : ℕ) (s : S) (ts : List Token) → Capped members_depth (onto add s) r (R.members inside most h b k ts) (D.gather one add' b k s ts)
  unfolding R.members D.gather
  gather_same b h r add one add' one_r g v e1 e2 e3 zero s ts = refl
  gather_same b h r add one add' one_r g v e1 e2 e3 (suc k) s ts =
      members_step_same b h r add one add' one_r g v e1 e2 e3 (R.members inside most h b k) (λ s. D.gather one add' b k s) (gather_same b h r add one add' one_r g v e1 e2 e3 k) s ts (behind_close b ts)

  -- items
  pub item_is : (ts : List Token) → R.member inside most items ts ≡ then_read (inside R.whole ts) (λ a u. Some (plain a, u))
  unfolding R.member
  item_is ts = refl

  pub items_same : (b : Bracket) (r k : ℕ) (s : D.Several) (ts : List Token) → Capped members_depth (onto add_item s) r (R.members inside most items b k ts) (D.gather (inside' Whole r) D.with_item b k s ts)
  items_same b r k s ts = gather_same b items r add_item (inside' Whole r) D.with_item (inside R.whole) plain part_of item_is (λ s a. refl) (same Whole r) k s ts

  -- entries
  abbrev pub pair_step : Expr → Option (List Token) → Option ((Expr × Expr) × List Token)
  pair_step k None = None
  pair_step k (Some u) = then_read (inside R.whole u) (λ v w. Some ((k, v), w))

  abbrev pub pair_r : Parse (Expr × Expr)
  pair_r ts = then_read (inside R.whole ts) (λ k u. pair_step k (behind_colon u))

  value_is : (k : Expr) (o : Option (Expr × List Token)) → then_read o (λ v w. Some (entry k v, w)) ≡ then_read (then_read o (λ v w. Some ((k, v), w))) (λ p w. Some (entry_of p, w))
  value_is k None = refl
  value_is k (Some p) = refl

  entry_step_is : (k : Expr) (c : Option (List Token)) → R.value_step inside most k c ≡ then_read (pair_step k c) (λ p w. Some (entry_of p, w))
  entry_step_is k None = refl
  entry_step_is k (Some u) = value_is k (inside R.whole u)

  entry_is_step : (o : Option (Expr × List Token)) → then_read o (λ k u. R.value_step inside most k (behind_colon u)) ≡ then_read (then_read o (λ k u. pair_step k (behind_colon u))) (λ p w. Some (entry_of p, w))
  entry_is_step None = refl
  entry_is_step (Some p) = entry_step_is p.0 (behind_colon p.1)

  pub entry_is : (ts : List Token) → R.member inside most entries ts ≡ then_read (pair_r ts) (λ p w. Some (entry_of p, w))
  unfolding R.member
  entry_is ts = entry_is_step (inside R.whole ts)

  pair_step_same : (r : ℕ) (k : Expr) → depth k ≤ r → (c : Option (List Token)) → Capped pair_depth pair_of r (pair_step k c) (D.value_step inside' most r (part_of k) c)
  pair_step_same r k le None = refl
  pair_step_same r k le (Some u) =
      bind depth part_of r pair_depth pair_of r (inside R.whole u) (inside' Whole r u) (λ v w. Some ((k, v), w)) (λ v w. Some ((part_of k, v), w)) (same Whole r u)
      (λ v w lv. stays pair_depth pair_of r (k, v) w (under_both (depth k) (depth v) r le lv))
      (λ v w lt. over_right (depth k) (depth v) r lt)

  pair_step_deep : (r : ℕ) (k : Expr) → r < depth k → (c : Option (List Token)) → Deep pair_depth r (pair_step k c)
  pair_step_deep r k lt None = tt
  pair_step_deep r k lt (Some u) = deep_then pair_depth r (inside R.whole u) (λ v w. Some ((k, v), w)) (λ v w. over_left (depth k) (depth v) r lt)

  pub pair_same : (r : ℕ) (ts : List Token) → Capped pair_depth pair_of r (pair_r ts) (D.pair inside' most r ts)
  unfolding D.pair
  pair_same r ts =
      bind depth part_of r pair_depth pair_of r (inside R.whole ts) (inside' Whole r ts) (λ k u. pair_step k (behind_colon u)) (λ k u. D.value_step inside' most r k (behind_colon u)) (same Whole r ts)
      (λ k u le. pair_step_same r k le (behind_colon u))
      (λ k u lt. pair_step_deep r k lt (behind_colon u))

  pub pairs_same : (r k : ℕ) (s : D.Pairs) (ts : List Token) → Capped members_depth (onto add_pair s) r (R.members inside most entries Curly k ts) (D.gather (D.pair inside' most r) D.with_pair Curly k s ts)
  pairs_same r k s ts = gather_same Curly entries r add_pair (D.pair inside' most r) D.with_pair pair_r entry_of pair_of entry_is (λ s p. refl) (pair_same r) k s ts

  -- arguments
  abbrev pub argument_r_step : List Token → Option (List ℕ × List Token) → Option (((List ℕ × Expr) ⊎ Expr) × List Token)
  argument_r_step ts None = then_read (inside R.whole ts) (λ a u. Some (inr a, u))
  argument_r_step ts (Some p) = then_read (inside R.whole p.1) (λ a u. Some (inl (p.0, a), u))

  abbrev pub argument_r : Parse ((List ℕ × Expr) ⊎ Expr)
  argument_r ts = argument_r_step ts (keyword_at ts)

  argument_step_is : (ts : List Token) (o : Option (List ℕ × List Token)) → R.argument_step inside most ts o ≡ then_read (argument_r_step ts o) (λ a u. Some (argument_of a, u))
  argument_step_is ts None = sym (read_twice (inside R.whole ts) inr (λ a u. Some (argument_of a, u)))
  argument_step_is ts (Some p) = sym (read_twice (inside R.whole p.1) (λ a. inl (p.0, a)) (λ a u. Some (argument_of a, u)))

  pub argument_is : (ts : List Token) → R.member inside most arguments ts ≡ then_read (argument_r ts) (λ a u. Some (argument_of a, u))
  unfolding R.member
  argument_is ts = argument_step_is ts (keyword_at ts)

  added : (s : D.Arguments) (a : (List ℕ × Expr) ⊎ Expr) → add_argument s (argument_of a) ≡ D.with_argument s (given_of a)
  added s (inl p) = refl
  added s (inr a) = refl

  argument_step_same : (r : ℕ) (ts : List Token) (o : Option (List ℕ × List Token)) → Capped argument_depth given_of r (argument_r_step ts o) (D.argument_step inside' most r ts o)
  argument_step_same r ts None =
      bind depth part_of r argument_depth given_of r (inside R.whole ts) (inside' Whole r ts) (λ a u. Some (inr a, u)) (λ a u. Some (D.positional a, u)) (same Whole r ts)
      (λ a u le. stays argument_depth given_of r (inr a) u le)
      (λ a u lt. lt)
  argument_step_same r ts (Some p) =
      bind depth part_of r argument_depth given_of r (inside R.whole p.1) (inside' Whole r p.1) (λ a u. Some (inl (p.0, a), u)) (λ a u. Some (D.keyword p.0 a, u)) (same Whole r p.1)
      (λ a u le. stays argument_depth given_of r (inl (p.0, a)) u le)
      (λ a u lt. lt)

  pub argument_same : (r : ℕ) (ts : List Token) → Capped argument_depth given_of r (argument_r ts) (D.argument inside' most r ts)
  unfolding D.argument
  argument_same r ts = subst (λ o. Capped argument_depth given_of r (argument_r ts) (D.argument_step inside' most r ts o)) (sym (named_same ts)) (argument_step_same r ts (keyword_at ts))

  pub arguments_same : (r k : ℕ) (s : D.Arguments) (ts : List Token) → Capped members_depth (onto add_argument s) r (R.members inside most arguments Round k ts) (D.gather (D.argument inside' most r) D.with_argument Round k s ts)
  arguments_same r k s ts = gather_same Round arguments r add_argument (D.argument inside' most r) D.with_argument argument_r argument_of given_of argument_is added (argument_same r) k s ts

  -- clauses
  clauses_step_same : (more : Parse Clauses) (more' : D.Conditions → Parse D.Conditions) (r : ℕ) → ((s : D.Conditions) (u : List Token) → Capped clauses_depth (add_clauses s) r (more u) (more' s u))
      → (s : D.Conditions) (ts : List Token) (h : Head) → Capped clauses_depth (add_clauses s) r (R.clauses_step inside most more ts h) (D.clauses_step inside' most more' r s ts h)
  clauses_step_same more more' r h s ts (for_head x xs u) =
      bind depth part_of r clauses_depth (add_clauses s) r (inside R.operand u) (inside' Operand r u) (λ a v. then_read (more v) (λ cs w. Some (for_clause x xs a cs, w))) (λ a. more' (D.with_for s x xs a)) (same Operand r u)
      (λ a v le. wrapped clauses_depth (add_clauses (D.with_for s x xs (part_of a))) clauses_depth (add_clauses s) r (for_clause x xs a) (more v) (more' (D.with_for s x xs (part_of a)) v) (h (D.with_for s x xs (part_of a)) v)
      (λ cs k. under_right (depth a) (clauses_depth cs) r k) (λ cs k. right_is_over (depth a) (clauses_depth cs) r le k) (λ cs. refl))
      (λ a v lt. deep_then clauses_depth r (more v) (λ cs w. Some (for_clause x xs a cs, w)) (λ cs w. over_left (depth a) (clauses_depth cs) r lt))
  clauses_step_same more more' r h s ts (if_head u) =
      bind depth part_of r clauses_depth (add_clauses s) r (inside R.operand u) (inside' Operand r u) (λ a v. then_read (more v) (λ cs w. Some (if_clause a cs, w))) (λ a. more' (D.with_if s a)) (same Operand r u)
      (λ a v le. wrapped clauses_depth (add_clauses (D.with_if s (part_of a))) clauses_depth (add_clauses s) r (if_clause a) (more v) (more' (D.with_if s (part_of a)) v) (h (D.with_if s (part_of a)) v)
      (λ cs k. under_right (depth a) (clauses_depth cs) r k) (λ cs k. right_is_over (depth a) (clauses_depth cs) r le k) (λ cs. refl))
      (λ a v lt. deep_then clauses_depth r (more v) (λ cs w. Some (if_clause a cs, w)) (λ cs w. over_left (depth a) (clauses_depth cs) r lt))
  clauses_step_same more more' r h s ts no_head = stays clauses_depth (add_clauses s) r no_clauses ts (Prim.omega arith)

  pub clauses_same : (r k : ℕ) (s : D.Conditions) (ts : List Token) → Capped clauses_depth (add_clauses s) r (R.clauses inside most k ts) (D.clauses inside' most r k s ts)
  unfolding R.clauses D.clauses
  clauses_same r zero s ts = refl
  clauses_same r (suc k) s ts = clauses_step_same (R.clauses inside most k) (λ s. D.clauses inside' most r k s) r (clauses_same r k) s ts (head_at ts)
