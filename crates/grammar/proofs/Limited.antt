-- Reading a whole expression with a limit on the depth gives its tree, unless that is too deep.
use Rattle.std.proofs.Common.{◌≡◌, ℕ, zero, suc, ◌-◌, ◌<◌, ◌≤◌, max, Bool, true, false, List, [], ◌∷◌, Option, Some, None, refl, sym, ap, ◌∙◌, subst, arith, inl, inr, ◌⊎◌}
use Rattle.std.specs.Prelude.{◌&&◌, nat_lt}
use Rattle.std.proofs.lemmas.Bool.Decides.{leb_tells}
use Rattle.std.proofs.Math.Nat.{le-max_left}
use Rattle.lexer.specs.declared.layout.Bracket.{Bracket}
use Rattle.lexer.specs.declared.layout.Bracket.TheVariants.{Round, Square, Curly}
use Rattle.grammar.specs.declared.parts.Row.{Row}
use Rattle.grammar.specs.declared.parts.Row.TheVariants.{Whole, Operand, Negated, Opposed}
use Rattle.lexer.specs.Layout.{opening}
use Rattle.lexer.specs.Tokens.{Token, name, number, string, word, mark}
use Rattle.grammar.specs.Tree.{Sign, negation, opposite, Expr, identifier, integer, text, display, comprehension, conditional, operation, signed, field, index, call, Member, plain, keyword, entry, Members, no_members, last_member, next_member, Clauses}
use Rattle.grammar.specs.Levels.{items, entries, arguments, in_order, may_comprehend}
use Rattle.grammar.specs.Bare.{Tree, bare, tuple, listing, dict, invokes, each, each_entry, plain_of, keywords_of, entries_of}
use Rattle.grammar.specs.TreeView as V
use Rattle.grammar.specs.Depth.{depth, member_depth, members_depth, clauses_depth}
use Rattle.grammar.specs.Front.{Next, operator, dot_next, index_next, call_next, if_next, assign_next, nothing, next, sign_at, name_at, behind_close, behind_comma, behind_else, is_for}
use Rattle.grammar.specs.Reading as R
use Rattle.grammar.specs.Reading.{Parse, then_read}
use Rattle.grammar.specs.FormReading.{then_found}
use Rattle.grammar.specs.Descent as D
use Rattle.grammar.specs.Descent.{Part}
use Rattle.grammar.specs.Ahead.{given, with_rest, behind_if, number_at, string_at, bracket_at}
use Rattle.grammar.proofs.Capped.{Capped, Deep, deep_then, bind, passes, made, stays}
use Rattle.grammar.proofs.FrontSame.{if_of, suffix_of, not_of, minus_of, if_same, suffix_same, not_same, minus_same}
use Rattle.grammar.proofs.Descends.{part_of, row_of, left_over, right_over, Same, GoesOn, Deepens, then_same, chained_same}
use Rattle.grammar.proofs.Gathers.{onto, read_twice, after_same, add_item, add_pair, add_argument, add_clauses, entry_of, pair_of, pair_depth, items_same, pairs_same, pair_r, entry_is, pair_same, arguments_same, clauses_same}
use Rattle.grammar.proofs.Onto.{items_are, items_are_deep, pairs_are, pairs_are_deep, positional_are, keywords_are, arguments_depth, order_is, clauses_are, conditions_depth}

left_over_one : (a b r : ℕ) → r - 1 < a → r < suc (max a b)
left_over_one a b r lt = let m = le-max_left a b in Prim.omega (arith, lt, m)

-- an expression is at least 1 deep
mutual
  pos : (t : Expr) → 1 ≤ depth t
  pos (identifier x) = Prim.omega arith
  pos (integer n) = Prim.omega arith
  pos (text s) = Prim.omega arith
  pos (display Round no_members) = Prim.omega arith
  pos (display Round (last_member m)) = member_pos m
  pos (display Round (next_member m ms)) = Prim.omega arith
  pos (display Square ms) = Prim.omega arith
  pos (display Curly ms) = Prim.omega arith
  pos (comprehension b m cs) = Prim.omega arith
  pos (conditional a c b) = Prim.omega arith
  pos (operation o a b) = Prim.omega arith
  pos (signed s a) = Prim.omega arith
  pos (field f x) = Prim.omega arith
  pos (index f a) = Prim.omega arith
  pos (call f ms) = Prim.omega arith

  member_pos : (m : Member) → 1 ≤ member_depth m
  member_pos (plain a) = pos a
  member_pos (keyword x a) = pos a
  member_pos (entry k v) = let h = pos k in let m = le-max_left (depth k) (depth v) in Prim.omega (arith, h, m)

nothing_flat : (o : Option (Expr × List Token)) → Capped depth part_of 0 o None
nothing_flat None = refl
nothing_flat (Some p) = ((λ le. absurd (let h = pos p.0 in Prim.omega (arith, le, h))), λ lt. refl)

made_rest_step : {A B : Type 0} (d : A → ℕ) (v : A → B) (r n : ℕ) (x : A) (b : B) (u : List Token) → d x ≡ suc n → v x ≡ b
    → ((nat_lt n r ≡ true) × (suc n ≤ r)) ⊎ ((nat_lt n r ≡ false) × (r < suc n)) → Capped d v r (Some (x, u)) (with_rest (given (nat_lt n r) b) u)
made_rest_step d v r n x b u e f (inl t) =
    subst (λ y. Capped d v r (Some (x, u)) (with_rest (given y b) u)) (sym t.0) ((λ le. ap (λ y. Some (y, u)) (sym f)), λ lt. absurd (let k = t.1 in Prim.omega (arith, e, lt, k)))
made_rest_step d v r n x b u e f (inr t) =
    subst (λ y. Capped d v r (Some (x, u)) (with_rest (given y b) u)) (sym t.0) ((λ le. absurd (let k = t.1 in Prim.omega (arith, e, le, k))), λ lt. refl)

-- a form that was read is made, if that leaves room
pub made_rest : {A B : Type 0} (d : A → ℕ) (v : A → B) (r n : ℕ) (x : A) (b : B) (u : List Token) → d x ≡ suc n → v x ≡ b → Capped d v r (Some (x, u)) (with_rest (given (nat_lt n r) b) u)
made_rest d v r n x b u e f = made_rest_step d v r n x b u e f (leb_tells (suc n) r)

closed_same : (r n : ℕ) (x : Expr) (b : Part) → depth x ≡ suc n → part_of x ≡ b → (c : Option (List Token)) → Capped depth part_of r (R.at_close x c) (D.closed_with (given (nat_lt n r) b) c)
closed_same r n x b e f None = refl
closed_same r n x b e f (Some u) = made_rest depth part_of r n x b u e f

closed_deep : (r : ℕ) (x : Expr) → r < depth x → (c : Option (List Token)) → Deep depth r (R.at_close x c)
closed_deep r x lt None = tt
closed_deep r x lt (Some u) = lt

rest_then : {A B : Type 0} (x : Option A) (u : List Token) (q : A → Parse B) → then_found x (λ c. q c u) ≡ then_read (with_rest x u) q
rest_then None u q = refl
rest_then (Some a) u q = refl

-- a form is made and goes on
made_then : (r n : ℕ) (b : Part) (o : Option (Expr × List Token)) (u : List Token) (q : Part → Parse Part)
    → (n < r → Capped depth part_of r o (q b u)) → (r ≤ n → Deep depth r o) → Capped depth part_of r o (then_read (with_rest (given (nat_lt n r) b) u) q)
made_then r n b o u q h g = subst (λ y. Capped depth part_of r o y) (rest_then (given (nat_lt n r) b) u q) (made depth part_of r n b o (λ c. q c u) h g)

read_on : {A B C : Type 0} (o : Option (A × List Token)) (f : A → Parse B) (g : B → Parse C) → then_read (then_read o f) g ≡ then_read o (λ a u. then_read (f a u) g)
read_on None f g = refl
read_on (Some p) f g = refl

abbrev form_of : Tree → ℕ → Bool → Part
form_of t n x = record { tree = t; depth = n; is_target = x }

part_is : (t u : Tree) (m n : ℕ) (x : Bool) → t ≡ u → m ≡ n → form_of t m x ≡ form_of u n x
part_is t u m n x e f = ap (λ y. form_of y m x) e ∙ ap (λ k. form_of u k x) f

-- with what reads the expressions inside
module _ (inside : R.Row → Parse Expr) (inside' : Row → ℕ → Parse Part) (most : ℕ) (same : (w : Row) → Same (inside (row_of w)) (inside' w)) where
  -- displays
  tuple_made : (r : ℕ) (m : Member) (ms : Members) (v : List Token) → Capped depth part_of r (Some (display Round (next_member m ms), v)) (with_rest (D.tuple_part r (onto add_item D.no_items (next_member m ms))) v)
  tuple_made r m ms v =
      let s = onto add_item D.no_items (next_member m ms) in
      made_rest depth part_of r s.depth (display Round (next_member m ms)) (record { tree = tuple (V.trees_of s.trees); depth = suc s.depth; is_target = false }) v
      (ap (λ n. suc n) (sym (items_are_deep (next_member m ms))))
      (part_is (tuple (plain_of (next_member m ms))) (tuple (V.trees_of s.trees)) (suc (members_depth (next_member m ms))) (suc s.depth) false (ap tuple (sym (items_are (next_member m ms)))) (ap (λ n. suc n) (sym (items_are_deep (next_member m ms)))))

  round_after : (r : ℕ) (a : Expr) → depth a ≤ r → (c e : Option (List Token))
      → Capped depth part_of r (then_read (R.after_member inside most (R.members inside most items Round most) (plain a) c e) (λ ms v. Some (display Round ms, v))) (D.round_step inside' most r (part_of a) c e)
  unfolding D.items
  round_after r a le (Some u) e = stays depth part_of r (display Round (last_member (plain a))) u le
  round_after r a le None (Some u) =
      subst (λ o. Capped depth part_of r o (D.round_step inside' most r (part_of a) None (Some u))) (sym (read_twice (R.members inside most items Round most u) (next_member (plain a)) (λ ms v. Some (display Round ms, v))))
      (bind members_depth (onto add_item (D.with_item D.no_items (part_of a))) (r - 1) depth part_of r
      (R.members inside most items Round most u) (D.items inside' most (r - 1) Round (D.with_item D.no_items (part_of a)) u)
      (λ ms v. Some (display Round (next_member (plain a) ms), v)) (λ s v. with_rest (D.tuple_part r s) v)
      (items_same inside inside' most same Round (r - 1) most (D.with_item D.no_items (part_of a)) u)
      (λ ms v lm. tuple_made r (plain a) ms v)
      (λ ms v lt. right_over (depth a) (members_depth ms) r lt))
  round_after r a le None None = refl

  round_after_deep : (r : ℕ) (a : Expr) → r < depth a → (c e : Option (List Token))
      → Deep depth r (then_read (R.after_member inside most (R.members inside most items Round most) (plain a) c e) (λ ms v. Some (display Round ms, v)))
  round_after_deep r a lt (Some u) e = lt
  round_after_deep r a lt None (Some u) =
      subst (λ o. Deep depth r o) (sym (read_twice (R.members inside most items Round most u) (next_member (plain a)) (λ ms v. Some (display Round ms, v))))
      (deep_then depth r (R.members inside most items Round most u) (λ ms v. Some (display Round (next_member (plain a) ms), v)) (λ ms v. left_over (depth a) (members_depth ms) r lt))
  round_after_deep r a lt None None = tt

  round_first : (r : ℕ) (a : Expr) (u : List Token) → depth a ≤ r → (c : Bool) → Capped depth part_of r (R.first_step inside most Round (plain a) u (c && may_comprehend Round)) (D.round_step inside' most r (part_of a) (behind_close Round u) (behind_comma u))
  round_first r a u le true = round_after r a le (behind_close Round u) (behind_comma u)
  round_first r a u le false = round_after r a le (behind_close Round u) (behind_comma u)

  round_first_deep : (r : ℕ) (a : Expr) (u : List Token) → r < depth a → (c : Bool) → Deep depth r (R.first_step inside most Round (plain a) u (c && may_comprehend Round))
  round_first_deep r a u lt true = round_after_deep r a lt (behind_close Round u) (behind_comma u)
  round_first_deep r a u lt false = round_after_deep r a lt (behind_close Round u) (behind_comma u)

  round_open_same : (r : ℕ) (ts : List Token) (c : Option (List Token)) → Capped depth part_of r (R.display_step inside most Round ts c) (D.round_open inside' most r ts c)
  unfolding R.member
  round_open_same r ts (Some u) = made_rest depth part_of r 0 (display Round no_members) (part_of (display Round no_members)) u refl refl
  round_open_same r ts None =
      subst (λ o. Capped depth part_of r o (D.round_open inside' most r ts None)) (sym (read_twice (inside R.whole ts) plain (λ m u. R.first_step inside most Round m u (is_for u && may_comprehend Round))))
      (bind depth part_of r depth part_of r (inside R.whole ts) (inside' Whole r ts)
      (λ a u. R.first_step inside most Round (plain a) u (is_for u && may_comprehend Round)) (λ a u. D.round_step inside' most r a (behind_close Round u) (behind_comma u)) (same Whole r ts)
      (λ a u le. round_first r a u le (is_for u)) (λ a u lt. round_first_deep r a u lt (is_for u)))

  round_same : (r : ℕ) (ts : List Token) → Capped depth part_of r (R.display_step inside most Round ts (behind_close Round ts)) (D.round inside' most r ts)
  unfolding D.round
  round_same r ts = round_open_same r ts (behind_close Round ts)

  item_is : (ts : List Token) → R.member inside most items ts ≡ then_read (inside R.whole ts) (λ a u. Some (plain a, u))
  unfolding R.member
  item_is ts = refl

  square_made : (r : ℕ) (ms : Members) (v : List Token) → Capped depth part_of r (Some (display Square ms, v)) (with_rest (D.list_part r (onto add_item D.no_items ms)) v)
  square_made r ms v =
      let s = onto add_item D.no_items ms in
      made_rest depth part_of r s.depth (display Square ms) (record { tree = listing (V.trees_of s.trees); depth = suc s.depth; is_target = false }) v
      (ap (λ n. suc n) (sym (items_are_deep ms)))
      (part_is (listing (plain_of ms)) (listing (V.trees_of s.trees)) (suc (members_depth ms)) (suc s.depth) false (ap listing (sym (items_are ms))) (ap (λ n. suc n) (sym (items_are_deep ms))))

  square_each : (r : ℕ) (a : Expr) (cs : Clauses) (v : List Token) → Capped depth part_of r (R.shut Square (comprehension Square (plain a) cs) v) (D.closed_with (D.list_each_part r (part_of a) (add_clauses D.no_conditions cs)) (behind_close Square v))
  square_each r a cs v =
      let s = add_clauses D.no_conditions cs in
      closed_same r (max (depth a) s.depth) (comprehension Square (plain a) cs) (record { tree = each (bare a) (V.rests_of s.clauses); depth = suc (max (depth a) s.depth); is_target = false })
      (ap (λ n. suc (max (depth a) n)) (sym (conditions_depth cs)))
      (part_is (bare (comprehension Square (plain a) cs)) (each (bare a) (V.rests_of s.clauses)) (suc (max (depth a) (clauses_depth cs))) (suc (max (depth a) s.depth)) false (ap (each (bare a)) (sym (clauses_are cs))) (ap (λ n. suc (max (depth a) n)) (sym (conditions_depth cs))))
      (behind_close Square v)

  square_items : (r : ℕ) (s : D.Several) (u : List Token) → Capped members_depth (onto add_item s) (r - 1) (R.members inside most items Square most u) (D.items inside' most (r - 1) Square s u)
  unfolding D.items
  square_items r s u = items_same inside inside' most same Square (r - 1) most s u

  square_first : (r : ℕ) (a : Expr) (u : List Token) → depth a ≤ r - 1 → (c : Bool) → Capped depth part_of r (R.first_step inside most Square (plain a) u (c && may_comprehend Square)) (D.square_step inside' most r (part_of a) u c)
  unfolding D.items
  square_first r a u le true =
      bind clauses_depth (add_clauses D.no_conditions) (r - 1) depth part_of r (R.clauses inside most most u) (D.clauses inside' most (r - 1) most D.no_conditions u)
      (λ cs. R.shut Square (comprehension Square (plain a) cs)) (λ c v. D.closed_with (D.list_each_part r (part_of a) c) (behind_close Square v))
      (clauses_same inside inside' most same (r - 1) most D.no_conditions u)
      (λ cs v lc. square_each r a cs v)
      (λ cs v lt. closed_deep r (comprehension Square (plain a) cs) (right_over (depth a) (clauses_depth cs) r lt) (behind_close Square v))
  square_first r a u le false =
      bind members_depth (onto add_item D.no_items) (r - 1) depth part_of r
      (R.after_member inside most (R.members inside most items Square most) (plain a) (behind_close Square u) (behind_comma u))
      (D.after_one (D.items inside' most (r - 1) Square) (D.with_item D.no_items (part_of a)) (behind_close Square u) (behind_comma u))
      (λ ms v. Some (display Square ms, v)) (λ s v. with_rest (D.list_part r s) v)
      (after_same inside inside' most same add_item (R.members inside most items Square most) (D.items inside' most (r - 1) Square) (r - 1) (square_items r) D.no_items (plain a) le (behind_close Square u) (behind_comma u))
      (λ ms v lm. square_made r ms v)
      (λ ms v lt. Prim.omega (arith, lt))

  square_after_deep : (r : ℕ) (a : Expr) → r - 1 < depth a → (c e : Option (List Token))
      → Deep depth r (then_read (R.after_member inside most (R.members inside most items Square most) (plain a) c e) (λ ms v. Some (display Square ms, v)))
  square_after_deep r a lt (Some u) e = Prim.omega (arith, lt)
  square_after_deep r a lt None (Some u) =
      subst (λ o. Deep depth r o) (sym (read_twice (R.members inside most items Square most u) (next_member (plain a)) (λ ms v. Some (display Square ms, v))))
      (deep_then depth r (R.members inside most items Square most u) (λ ms v. Some (display Square (next_member (plain a) ms), v)) (λ ms v. left_over_one (depth a) (members_depth ms) r lt))
  square_after_deep r a lt None None = tt

  square_first_deep : (r : ℕ) (a : Expr) (u : List Token) → r - 1 < depth a → (c : Bool) → Deep depth r (R.first_step inside most Square (plain a) u (c && may_comprehend Square))
  square_first_deep r a u lt true =
      deep_then depth r (R.clauses inside most most u) (λ cs. R.shut Square (comprehension Square (plain a) cs)) (λ cs v. closed_deep r (comprehension Square (plain a) cs) (left_over_one (depth a) (clauses_depth cs) r lt) (behind_close Square v))
  square_first_deep r a u lt false = square_after_deep r a lt (behind_close Square u) (behind_comma u)

  square_open_same : (r : ℕ) (ts : List Token) (c : Option (List Token)) → Capped depth part_of r (R.display_step inside most Square ts c) (D.square_open inside' most r ts c)
  square_open_same r ts (Some u) = made_rest depth part_of r 0 (display Square no_members) (part_of (display Square no_members)) u refl refl
  square_open_same r ts None =
      subst (λ o. Capped depth part_of r (then_read o (λ m u. R.first_step inside most Square m u (is_for u && may_comprehend Square))) (D.square_open inside' most r ts None)) (sym (item_is ts))
      (subst (λ o. Capped depth part_of r o (D.square_open inside' most r ts None)) (sym (read_twice (inside R.whole ts) plain (λ m u. R.first_step inside most Square m u (is_for u && may_comprehend Square))))
      (bind depth part_of (r - 1) depth part_of r (inside R.whole ts) (inside' Whole (r - 1) ts)
      (λ a u. R.first_step inside most Square (plain a) u (is_for u && may_comprehend Square)) (λ a u. D.square_step inside' most r a u (is_for u)) (same Whole (r - 1) ts)
      (λ a u le. square_first r a u le (is_for u)) (λ a u lt. square_first_deep r a u lt (is_for u))))

  square_same : (r : ℕ) (ts : List Token) → Capped depth part_of r (R.display_step inside most Square ts (behind_close Square ts)) (D.square inside' most r ts)
  unfolding D.square
  square_same r ts = square_open_same r ts (behind_close Square ts)

  curly_made : (r : ℕ) (ms : Members) (v : List Token) → Capped depth part_of r (Some (display Curly ms, v)) (with_rest (D.dict_part r (onto add_pair D.no_pairs ms)) v)
  curly_made r ms v =
      let s = onto add_pair D.no_pairs ms in
      made_rest depth part_of r s.depth (display Curly ms) (record { tree = dict (V.entries_of s.entries); depth = suc s.depth; is_target = false }) v
      (ap (λ n. suc n) (sym (pairs_are_deep ms)))
      (part_is (dict (entries_of ms)) (dict (V.entries_of s.entries)) (suc (members_depth ms)) (suc s.depth) false (ap dict (sym (pairs_are ms))) (ap (λ n. suc n) (sym (pairs_are_deep ms))))

  curly_each : (r : ℕ) (a : Expr × Expr) (cs : Clauses) (v : List Token) → Capped depth part_of r (R.shut Curly (comprehension Curly (entry_of a) cs) v) (D.closed_with (D.dict_each_part r (pair_of a) (add_clauses D.no_conditions cs)) (behind_close Curly v))
  curly_each r a cs v =
      let s = add_clauses D.no_conditions cs in
      closed_same r (max (pair_depth a) s.depth) (comprehension Curly (entry_of a) cs) (record { tree = each_entry (bare a.0) (bare a.1) (V.rests_of s.clauses); depth = suc (max (pair_depth a) s.depth); is_target = false })
      (ap (λ n. suc (max (pair_depth a) n)) (sym (conditions_depth cs)))
      (part_is (bare (comprehension Curly (entry_of a) cs)) (each_entry (bare a.0) (bare a.1) (V.rests_of s.clauses)) (suc (max (pair_depth a) (clauses_depth cs))) (suc (max (pair_depth a) s.depth)) false (ap (each_entry (bare a.0) (bare a.1)) (sym (clauses_are cs))) (ap (λ n. suc (max (pair_depth a) n)) (sym (conditions_depth cs))))
      (behind_close Curly v)

  curly_pairs : (r : ℕ) (s : D.Pairs) (u : List Token) → Capped members_depth (onto add_pair s) (r - 1) (R.members inside most entries Curly most u) (D.pairs inside' most (r - 1) s u)
  unfolding D.pairs
  curly_pairs r s u = pairs_same inside inside' most same (r - 1) most s u

  curly_first : (r : ℕ) (a : Expr × Expr) (u : List Token) → pair_depth a ≤ r - 1 → (c : Bool) → Capped depth part_of r (R.first_step inside most Curly (entry_of a) u (c && may_comprehend Curly)) (D.curly_step inside' most r (pair_of a) u c)
  unfolding D.pairs
  curly_first r a u le true =
      bind clauses_depth (add_clauses D.no_conditions) (r - 1) depth part_of r (R.clauses inside most most u) (D.clauses inside' most (r - 1) most D.no_conditions u)
      (λ cs. R.shut Curly (comprehension Curly (entry_of a) cs)) (λ c v. D.closed_with (D.dict_each_part r (pair_of a) c) (behind_close Curly v))
      (clauses_same inside inside' most same (r - 1) most D.no_conditions u)
      (λ cs v lc. curly_each r a cs v)
      (λ cs v lt. closed_deep r (comprehension Curly (entry_of a) cs) (right_over (pair_depth a) (clauses_depth cs) r lt) (behind_close Curly v))
  curly_first r a u le false =
      bind members_depth (onto add_pair D.no_pairs) (r - 1) depth part_of r
      (R.after_member inside most (R.members inside most entries Curly most) (entry_of a) (behind_close Curly u) (behind_comma u))
      (D.after_one (D.pairs inside' most (r - 1)) (D.with_pair D.no_pairs (pair_of a)) (behind_close Curly u) (behind_comma u))
      (λ ms v. Some (display Curly ms, v)) (λ s v. with_rest (D.dict_part r s) v)
      (after_same inside inside' most same add_pair (R.members inside most entries Curly most) (D.pairs inside' most (r - 1)) (r - 1) (curly_pairs r) D.no_pairs (entry_of a) le (behind_close Curly u) (behind_comma u))
      (λ ms v lm. curly_made r ms v)
      (λ ms v lt. Prim.omega (arith, lt))

  curly_after_deep : (r : ℕ) (a : Expr × Expr) → r - 1 < pair_depth a → (c e : Option (List Token))
      → Deep depth r (then_read (R.after_member inside most (R.members inside most entries Curly most) (entry_of a) c e) (λ ms v. Some (display Curly ms, v)))
  curly_after_deep r a lt (Some u) e = Prim.omega (arith, lt)
  curly_after_deep r a lt None (Some u) =
      subst (λ o. Deep depth r o) (sym (read_twice (R.members inside most entries Curly most u) (next_member (entry_of a)) (λ ms v. Some (display Curly ms, v))))
      (deep_then depth r (R.members inside most entries Curly most u) (λ ms v. Some (display Curly (next_member (entry_of a) ms), v)) (λ ms v. left_over_one (pair_depth a) (members_depth ms) r lt))
  curly_after_deep r a lt None None = tt

  curly_first_deep : (r : ℕ) (a : Expr × Expr) (u : List Token) → r - 1 < pair_depth a → (c : Bool) → Deep depth r (R.first_step inside most Curly (entry_of a) u (c && may_comprehend Curly))
  curly_first_deep r a u lt true =
      deep_then depth r (R.clauses inside most most u) (λ cs. R.shut Curly (comprehension Curly (entry_of a) cs)) (λ cs v. closed_deep r (comprehension Curly (entry_of a) cs) (left_over_one (pair_depth a) (clauses_depth cs) r lt) (behind_close Curly v))
  curly_first_deep r a u lt false = curly_after_deep r a lt (behind_close Curly u) (behind_comma u)

  curly_open_same : (r : ℕ) (ts : List Token) (c : Option (List Token)) → Capped depth part_of r (R.display_step inside most Curly ts c) (D.curly_open inside' most r ts c)
  curly_open_same r ts (Some u) = made_rest depth part_of r 0 (display Curly no_members) (part_of (display Curly no_members)) u refl refl
  curly_open_same r ts None =
      subst (λ o. Capped depth part_of r (then_read o (λ m u. R.first_step inside most Curly m u (is_for u && may_comprehend Curly))) (D.curly_open inside' most r ts None)) (sym (entry_is inside inside' most same ts))
      (subst (λ o. Capped depth part_of r o (D.curly_open inside' most r ts None)) (sym (read_twice (pair_r inside inside' most same ts) entry_of (λ m u. R.first_step inside most Curly m u (is_for u && may_comprehend Curly))))
      (bind pair_depth pair_of (r - 1) depth part_of r (pair_r inside inside' most same ts) (D.pair inside' most (r - 1) ts)
      (λ a u. R.first_step inside most Curly (entry_of a) u (is_for u && may_comprehend Curly)) (λ a u. D.curly_step inside' most r a u (is_for u)) (pair_same inside inside' most same (r - 1) ts)
      (λ a u le. curly_first r a u le (is_for u)) (λ a u lt. curly_first_deep r a u lt (is_for u))))

  curly_same : (r : ℕ) (ts : List Token) → Capped depth part_of r (R.display_step inside most Curly ts (behind_close Curly ts)) (D.curly inside' most r ts)
  unfolding D.curly
  curly_same r ts = curly_open_same r ts (behind_close Curly ts)

  mark_same : (r : ℕ) (ts : List Token) (o : Option Bracket) → Capped depth part_of r (R.open_step inside most ts o) (D.display_step inside' most r (with_rest o ts))
  mark_same r ts None = refl
  mark_same r ts (Some Round) = round_same r ts
  mark_same r ts (Some Square) = square_same r ts
  mark_same r ts (Some Curly) = curly_same r ts

  atom_same : Same (R.atom inside most) (D.atom inside' most)
  unfolding R.atom D.atom name_at number_at string_at bracket_at
  atom_same r [] = refl
  atom_same r (name x ∷ ts) = made_rest depth part_of r 0 (identifier x) (part_of (identifier x)) ts refl refl
  atom_same r (number n ∷ ts) = made_rest depth part_of r 0 (integer n) (part_of (integer n)) ts refl refl
  atom_same r (string s ∷ ts) = made_rest depth part_of r 0 (text s) (part_of (text s)) ts refl refl
  atom_same r (word w ∷ ts) = refl
  atom_same r (mark m ∷ ts) = mark_same r ts (opening m)

  -- fields, indexes and calls
  call_deepens : (more : Expr → Parse Expr) → Deepens more → (r : ℕ) (f : Expr) (ms : Members) (v : List Token) → r < depth (call f ms) → (b : Bool) → Deep depth r (R.call_step inside most more f ms v b)
  call_deepens more h r f ms v lt true = h r (call f ms) v lt
  call_deepens more h r f ms v lt false = tt

  index_deepens : (more : Expr → Parse Expr) → Deepens more → (r : ℕ) (f a : Expr) → r < depth (index f a) → (c : Option (List Token)) → Deep depth r (then_read (R.at_close (index f a) c) more)
  index_deepens more h r f a lt None = tt
  index_deepens more h r f a lt (Some v) = h r (index f a) v lt

  suffix_step_deepens : (more : Expr → Parse Expr) → Deepens more → (n : Next) → Deepens (λ f ts. R.suffix_step inside most more f ts n)
  suffix_step_deepens more h (operator o u) r f ts lt = lt
  suffix_step_deepens more h (dot_next u) r f ts lt = deep_then depth r (name_at u) (λ x. more (field f x)) (λ x v. h r (field f x) v (Prim.omega (arith, lt)))
  suffix_step_deepens more h (index_next u) r f ts lt =
      deep_then depth r (inside R.whole u) (λ a v. then_read (R.shut Square (index f a) v) more) (λ a v. index_deepens more h r f a (left_over (depth f) (depth a) r lt) (behind_close Square v))
  suffix_step_deepens more h (call_next u) r f ts lt =
      deep_then depth r (R.members inside most arguments Round most u) (λ ms v. R.call_step inside most more f ms v (in_order ms)) (λ ms v. call_deepens more h r f ms v (left_over (depth f) (members_depth ms) r lt) (in_order ms))
  suffix_step_deepens more h (if_next u) r f ts lt = lt
  suffix_step_deepens more h (assign_next u) r f ts lt = lt
  suffix_step_deepens more h nothing r f ts lt = lt

  suffixes_deepens : (k : ℕ) → Deepens (R.suffixes inside most k)
  unfolding R.suffixes
  suffixes_deepens zero r f ts lt = lt
  suffixes_deepens (suc k) r f ts lt = suffix_step_deepens (R.suffixes inside most k) (suffixes_deepens k) (next ts) r f ts lt

  index_made : (more : Expr → Parse Expr) (more' : ℕ → Part → Parse Part) → GoesOn more more' → Deepens more → (r : ℕ) (f a : Expr) (c : Option (List Token))
      → Capped depth part_of r (then_read (R.at_close (index f a) c) more) (then_read (D.closed_with (D.subscripted r (part_of f) (part_of a)) c) (more' r))
  index_made more more' h k r f a None = refl
  index_made more more' h k r f a (Some v) =
      made_then r (max (depth f) (depth a)) (part_of (index f a)) (more (index f a) v) v (more' r) (λ lt. h r (index f a) v lt) (λ le. k r (index f a) v (Prim.omega (arith, le)))

  call_part : (f : Expr) (ms : Members) → part_of (call f ms) ≡ form_of (invokes (bare f) (V.trees_of (onto add_argument D.no_arguments ms).trees) (V.keywords_of (onto add_argument D.no_arguments ms).named)) (suc (max (depth f) (onto add_argument D.no_arguments ms).depth)) false
  call_part f ms =
      part_is (invokes (bare f) (plain_of ms) (keywords_of ms)) (invokes (bare f) (V.trees_of (onto add_argument D.no_arguments ms).trees) (V.keywords_of (onto add_argument D.no_arguments ms).named))
      (suc (max (depth f) (members_depth ms))) (suc (max (depth f) (onto add_argument D.no_arguments ms).depth)) false
      (ap (λ t. invokes (bare f) t (keywords_of ms)) (sym (positional_are ms)) ∙ ap (λ t. invokes (bare f) (V.trees_of (onto add_argument D.no_arguments ms).trees) t) (sym (keywords_are ms)))
      (ap (λ n. suc (max (depth f) n)) (sym (arguments_depth ms)))

  call_made : (more : Expr → Parse Expr) (more' : ℕ → Part → Parse Part) → GoesOn more more' → Deepens more → (r : ℕ) (f : Expr) (ms : Members) (v : List Token) (b : Bool)
      → Capped depth part_of r (R.call_step inside most more f ms v b) (then_read (D.call_step inside' most r (part_of f) (onto add_argument D.no_arguments ms) v b) (more' r))
  call_made more more' h k r f ms v true =
      let e = arguments_depth ms in
      made_then r (max (depth f) (onto add_argument D.no_arguments ms).depth) (record { tree = invokes (bare f) (V.trees_of (onto add_argument D.no_arguments ms).trees) (V.keywords_of (onto add_argument D.no_arguments ms).named); depth = suc (max (depth f) (onto add_argument D.no_arguments ms).depth); is_target = false })
      (more (call f ms) v) v (more' r)
      (λ lt. subst (λ p. Capped depth part_of r (more (call f ms) v) (more' r p v)) (call_part f ms) (h r (call f ms) v (subst (λ n. max (depth f) n < r) e lt)))
      (λ le. k r (call f ms) v (let l = subst (λ n. r ≤ max (depth f) n) e le in Prim.omega (arith, l)))
  call_made more more' h k r f ms v false = refl

  suffix_step_same : (more : Expr → Parse Expr) (more' : ℕ → Part → Parse Part) → GoesOn more more' → Deepens more → (n : Next) (r : ℕ) (f : Expr) (ts : List Token) → depth f ≤ r
      → Capped depth part_of r (R.suffix_step inside most more f ts n) (D.suffix_step inside' most (more' r) r (part_of f) ts (suffix_of n))
  unfolding D.suffixed D.arguments
  suffix_step_same more more' h k (operator o u) r f ts le = stays depth part_of r f ts le
  suffix_step_same more more' h k (dot_next u) r f ts le =
      subst (λ o. Capped depth part_of r (then_read (name_at u) (λ x. more (field f x))) o) (sym (read_on (name_at u) (λ x v. with_rest (D.selected r (part_of f) x) v) (more' r)))
      (passes depth part_of r (name_at u) (λ x. more (field f x)) (λ x v. then_read (with_rest (D.selected r (part_of f) x) v) (more' r))
      (λ x v. made_then r (depth f) (part_of (field f x)) (more (field f x) v) v (more' r) (λ lt. h r (field f x) v lt) (λ l. k r (field f x) v (Prim.omega (arith, l)))))
  suffix_step_same more more' h k (index_next u) r f ts le =
      subst (λ o. Capped depth part_of r (then_read (inside R.whole u) (λ a v. then_read (R.shut Square (index f a) v) more)) o) (sym (read_on (inside' Whole (r - 1) u) (λ a v. D.closed_with (D.subscripted r (part_of f) a) (behind_close Square v)) (more' r)))
      (bind depth part_of (r - 1) depth part_of r (inside R.whole u) (inside' Whole (r - 1) u) (λ a v. then_read (R.shut Square (index f a) v) more) (λ a v. then_read (D.closed_with (D.subscripted r (part_of f) a) (behind_close Square v)) (more' r)) (same Whole (r - 1) u)
      (λ a v la. index_made more more' h k r f a (behind_close Square v))
      (λ a v lt. index_deepens more k r f a (right_over (depth f) (depth a) r lt) (behind_close Square v)))
  suffix_step_same more more' h k (call_next u) r f ts le =
      subst (λ o. Capped depth part_of r (then_read (R.members inside most arguments Round most u) (λ ms v. R.call_step inside most more f ms v (in_order ms))) o) (sym (read_on (D.arguments inside' most (r - 1) u) (λ s v. D.call_step inside' most r (part_of f) s v s.in_order) (more' r)))
      (bind members_depth (onto add_argument D.no_arguments) (r - 1) depth part_of r (R.members inside most arguments Round most u) (D.arguments inside' most (r - 1) u) (λ ms v. R.call_step inside most more f ms v (in_order ms)) (λ s v. then_read (D.call_step inside' most r (part_of f) s v s.in_order) (more' r))
      (arguments_same inside inside' most same (r - 1) most D.no_arguments u)
      (λ ms v lm. subst (λ b. Capped depth part_of r (R.call_step inside most more f ms v b) (then_read (D.call_step inside' most r (part_of f) (onto add_argument D.no_arguments ms) v (onto add_argument D.no_arguments ms).in_order) (more' r))) (order_is ms) (call_made more more' h k r f ms v (onto add_argument D.no_arguments ms).in_order))
      (λ ms v lt. call_deepens more k r f ms v (right_over (depth f) (members_depth ms) r lt) (in_order ms)))
  suffix_step_same more more' h k (if_next u) r f ts le = stays depth part_of r f ts le
  suffix_step_same more more' h k (assign_next u) r f ts le = stays depth part_of r f ts le
  suffix_step_same more more' h k nothing r f ts le = stays depth part_of r f ts le

  suffixes_same : (k : ℕ) → GoesOn (R.suffixes inside most k) (λ r f. D.suffixes inside' most r k f)
  unfolding R.suffixes D.suffixes
  suffixes_same zero r f ts le = stays depth part_of r f ts le
  suffixes_same (suc k) r f ts le =
      subst (λ x. Capped depth part_of r (R.suffix_step inside most (R.suffixes inside most k) f ts (next ts)) (D.suffix_step inside' most (D.suffixes inside' most r k) r (part_of f) ts x)) (sym (suffix_same ts))
      (suffix_step_same (R.suffixes inside most k) (λ r f. D.suffixes inside' most r k f) (suffixes_same k) (suffixes_deepens k) (next ts) r f ts le)

  -- the levels
  e9_same : Same (R.e9 inside most) (D.e9 inside' most)
  unfolding R.e9 D.e9
  e9_same r ts = then_same (R.atom inside most) (D.atom inside' most) (R.suffixes inside most most) (λ r f. D.suffixes inside' most r most f) atom_same (suffixes_same most) (suffixes_deepens most) r ts

  signed_same : (s : Sign) (w : Row) → R.sign_row s ≡ row_of w → (r : ℕ) (u : List Token)
      → Capped depth part_of r (then_read (inside (row_of w) u) (λ a v. Some (signed s a, v))) (then_read (inside' w (r - 1) u) (λ a v. with_rest (D.signed_part r s a) v))
  signed_same s w e r u =
      bind depth part_of (r - 1) depth part_of r (inside (row_of w) u) (inside' w (r - 1) u) (λ a v. Some (signed s a, v)) (λ a v. with_rest (D.signed_part r s a) v) (same w (r - 1) u)
      (λ a v le. made_rest depth part_of r (depth a) (signed s a) (part_of (signed s a)) v refl refl)
      (λ a v lt. Prim.omega (arith, lt))

  minus_step : (up : Parse Expr) (up' : ℕ → Parse Part) → Same up up' → (r : ℕ) (ts : List Token) (o : Option (Sign × List Token))
      → Capped depth part_of r (R.prefix_step inside most 8 up ts o) (D.sign_step inside' most opposite Opposed up' r ts (minus_of o))
  minus_step up up' s r ts None = s r ts
  minus_step up up' s r ts (Some (negation, u)) = s r ts
  minus_step up up' s r ts (Some (opposite, u)) = signed_same opposite Opposed refl r u

  not_step : (up : Parse Expr) (up' : ℕ → Parse Part) → Same up up' → (r : ℕ) (ts : List Token) (o : Option (Sign × List Token))
      → Capped depth part_of r (R.prefix_step inside most 4 up ts o) (D.sign_step inside' most negation Negated up' r ts (not_of o))
  not_step up up' s r ts None = s r ts
  not_step up up' s r ts (Some (negation, u)) = signed_same negation Negated refl r u
  not_step up up' s r ts (Some (opposite, u)) = s r ts

  e8_same : Same (R.e8 inside most) (D.e8 inside' most)
  unfolding R.e8 D.e8
  e8_same r ts = subst (λ o. Capped depth part_of r (R.prefix_step inside most 8 (R.e9 inside most) ts (sign_at ts)) (D.sign_step inside' most opposite Opposed (D.e9 inside' most) r ts o)) (sym (minus_same ts)) (minus_step (R.e9 inside most) (D.e9 inside' most) e9_same r ts (sign_at ts))

  e7_same : Same (R.e7 inside most) (D.e7 inside' most)
  unfolding R.e7 D.e7
  e7_same r ts = chained_same 7 (R.e8 inside most) (D.e8 inside' most) e8_same most r ts

  e6_same : Same (R.e6 inside most) (D.e6 inside' most)
  unfolding R.e6 D.e6
  e6_same r ts = chained_same 6 (R.e7 inside most) (D.e7 inside' most) e7_same most r ts

  e5_same : Same (R.e5 inside most) (D.e5 inside' most)
  unfolding R.e5 D.e5
  e5_same r ts = chained_same 5 (R.e6 inside most) (D.e6 inside' most) e6_same 1 r ts

  e4_same : Same (R.e4 inside most) (D.e4 inside' most)
  unfolding R.e4 D.e4
  e4_same r ts = subst (λ o. Capped depth part_of r (R.prefix_step inside most 4 (R.e5 inside most) ts (sign_at ts)) (D.sign_step inside' most negation Negated (D.e5 inside' most) r ts o)) (sym (not_same ts)) (not_step (R.e5 inside most) (D.e5 inside' most) e5_same r ts (sign_at ts))

  e3_same : Same (R.e3 inside most) (D.e3 inside' most)
  unfolding R.e3 D.e3
  e3_same r ts = chained_same 3 (R.e4 inside most) (D.e4 inside' most) e4_same most r ts

  e2_same : Same (R.e2 inside most) (D.e2 inside' most)
  unfolding R.e2 D.e2
  e2_same r ts = chained_same 2 (R.e3 inside most) (D.e3 inside' most) e3_same most r ts

  else_same : (r : ℕ) (a c : Expr) (o : Option (List Token)) → Capped depth part_of r (R.else_step inside most a c o) (D.else_step inside' most r (part_of a) (part_of c) o)
  else_same r a c None = refl
  else_same r a c (Some u) =
      bind depth part_of (r - 1) depth part_of r (inside R.whole u) (inside' Whole (r - 1) u) (λ b v. Some (conditional a c b, v)) (λ b v. with_rest (D.chosen r (part_of a) (part_of c) b) v) (same Whole (r - 1) u)
      (λ b v le. made_rest depth part_of r (max (depth a) (max (depth c) (depth b))) (conditional a c b) (part_of (conditional a c b)) v refl refl)
      (λ b v lt. let m = right_over (depth c) (depth b) r lt in right_over (depth a) (max (depth c) (depth b)) r (Prim.omega (arith, m)))

  else_deep : (r : ℕ) (a c : Expr) → ((b : Expr) → r < depth (conditional a c b)) → (o : Option (List Token)) → Deep depth r (R.else_step inside most a c o)
  else_deep r a c h None = tt
  else_deep r a c h (Some u) = deep_then depth r (inside R.whole u) (λ b v. Some (conditional a c b, v)) (λ b v. h b)

  if_step_same : (n : Next) (r : ℕ) (a : Expr) (ts : List Token) → depth a ≤ r → Capped depth part_of r (R.if_step inside most a ts n) (D.if_step inside' most r (part_of a) ts (if_of n))
  if_step_same (operator o u) r a ts le = stays depth part_of r a ts le
  if_step_same (dot_next u) r a ts le = stays depth part_of r a ts le
  if_step_same (index_next u) r a ts le = stays depth part_of r a ts le
  if_step_same (call_next u) r a ts le = stays depth part_of r a ts le
  if_step_same (if_next u) r a ts le =
      bind depth part_of (r - 1) depth part_of r (R.e2 inside most u) (D.e2 inside' most (r - 1) u) (λ c v. R.else_step inside most a c (behind_else v)) (λ c v. D.else_step inside' most r (part_of a) c (behind_else v)) (e2_same (r - 1) u)
      (λ c v lc. else_same r a c (behind_else v))
      (λ c v lt. else_deep r a c (λ b. let m = left_over_one (depth c) (depth b) r lt in right_over (depth a) (max (depth c) (depth b)) r (Prim.omega (arith, m))) (behind_else v))
  if_step_same (assign_next u) r a ts le = stays depth part_of r a ts le
  if_step_same nothing r a ts le = stays depth part_of r a ts le

  if_step_deepens : (n : Next) → Deepens (λ a ts. R.if_step inside most a ts n)
  if_step_deepens (operator o u) r a ts lt = lt
  if_step_deepens (dot_next u) r a ts lt = lt
  if_step_deepens (index_next u) r a ts lt = lt
  if_step_deepens (call_next u) r a ts lt = lt
  if_step_deepens (if_next u) r a ts lt = deep_then depth r (R.e2 inside most u) (λ c v. R.else_step inside most a c (behind_else v)) (λ c v. else_deep r a c (λ b. left_over (depth a) (max (depth c) (depth b)) r lt) (behind_else v))
  if_step_deepens (assign_next u) r a ts lt = lt
  if_step_deepens nothing r a ts lt = lt

  e1_same : Same (R.e1 inside most) (D.e1 inside' most)
  unfolding R.e1 D.e1
  e1_same r ts =
      bind depth part_of r depth part_of r (R.e2 inside most ts) (D.e2 inside' most r ts) (λ a u. R.if_step inside most a u (next u)) (λ a u. D.if_step inside' most r a u (behind_if u)) (e2_same r ts)
      (λ a u le. subst (λ o. Capped depth part_of r (R.if_step inside most a u (next u)) (D.if_step inside' most r (part_of a) u o)) (sym (if_same u)) (if_step_same (next u) r a u le))
      (λ a u lt. if_step_deepens (next u) r a u lt)

-- an expression is read as the tree that it has, where that is not too deep
pub read_same : (n : ℕ) (w : Row) → Same (R.read n (row_of w)) (D.read n w)
unfolding R.read D.read
read_same zero Whole r ts = refl
read_same zero Operand r ts = refl
read_same zero Negated r ts = refl
read_same zero Opposed r ts = refl
read_same (suc n) w zero ts = nothing_flat (R.read (suc n) (row_of w) ts)
read_same (suc n) Whole (suc r) ts = e1_same (R.read n) (D.read n) (suc n) (read_same n) (suc r) ts
read_same (suc n) Operand (suc r) ts = e2_same (R.read n) (D.read n) (suc n) (read_same n) (suc r) ts
read_same (suc n) Negated (suc r) ts = e4_same (R.read n) (D.read n) (suc n) (read_same n) (suc r) ts
read_same (suc n) Opposed (suc r) ts = e8_same (R.read n) (D.read n) (suc n) (read_same n) (suc r) ts
