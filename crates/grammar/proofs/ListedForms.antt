-- What is assigned or returned, with a limit on the depth.
use Rattle.std.proofs.Common.{◌≡◌, ℕ, zero, suc, ◌-◌, ◌<◌, ◌≤◌, max, true, false, List, [], ◌∷◌, ◌++◌, Option, Some, None, refl, sym, ap, ◌∙◌, subst, arith, inl, inr, ◌⊎◌}
use Rattle.std.specs.Prelude.{nat_lt}
use Rattle.std.proofs.lemmas.Bool.Decides.{leb_tells}
use Rattle.std.proofs.Math.Nat.{zero-max, le-max_left, le-max_right}
use Rattle.grammar.specs.declared.parts.Row.TheVariants.{Whole}
use Rattle.lexer.specs.declared.token.Mark.TheVariants.{Comma, Assign, AddAssign}
use Rattle.lexer.specs.Tokens.{Token, mark}
use Rattle.grammar.specs.Tree.{Expr}
use Rattle.grammar.specs.Bare.{Trees, bare, tuple}
use Rattle.grammar.specs.Depth.{depth, deepest, listed_depth}
use Rattle.grammar.specs.Statements.{Listed, alone, followed}
use Rattle.grammar.specs.BareLines.{listed_trees, listed_tree}
use Rattle.grammar.specs.Front.{behind_comma}
use Rattle.grammar.specs.Reading as R
use Rattle.grammar.specs.Reading.{if_last}
use Rattle.grammar.specs.FormReading as F
use Rattle.grammar.specs.FormReading.{then_found, Then, ended, assigned, increased, listing, other, then_at}
use Rattle.grammar.specs.Descent as D
use Rattle.grammar.specs.Ahead.{given}
use Rattle.grammar.specs.Descent.{if_all}
use Rattle.grammar.specs.TreeView as V
use Rattle.grammar.specs.FormDescent as FD
use Rattle.grammar.proofs.Capped.{Capped, either_way}
use Rattle.grammar.proofs.CappedForms.{CappedO, DeepO, deep_found, is_so, found, found_whole, wrapped_whole}
use Rattle.grammar.proofs.Descends.{part_of}
use Rattle.grammar.proofs.Gathers.{over_left, under_right, right_is_over}
use Rattle.grammar.proofs.Onto.{max_assoc, trees_onto, trees_base, trees_snoc}
use Rattle.grammar.proofs.Limited.{read_same}

abbrev pub onto_listed : D.Several → Listed → D.Several
onto_listed s (alone a) = D.with_item s (part_of a)
onto_listed s (followed a l) = onto_listed (D.with_item s (part_of a)) l

listed_depth_onto : (l : Listed) (s : D.Several) → (onto_listed s l).depth ≡ max s.depth (deepest l)
listed_depth_onto (alone a) s = refl
listed_depth_onto (followed a l) s = listed_depth_onto l (D.with_item s (part_of a)) ∙ max_assoc s.depth (depth a) (deepest l)

listed_trees_onto : (l : Listed) (s : D.Several) → V.trees_of (onto_listed s l).trees ≡ trees_onto s.trees (listed_trees l)
listed_trees_onto (alone a) s = trees_base (s.trees ++ bare a ∷ []) ∙ trees_snoc s.trees (bare a) _
listed_trees_onto (followed a l) s = listed_trees_onto l (D.with_item s (part_of a)) ∙ trees_snoc s.trees (bare a) (listed_trees l)

over_deep : (a b : ℕ) → 199 < b → 200 < suc (max a b)
over_deep a b lt = let m = le-max_right a b in Prim.omega (arith, lt, m)

abbrev tuple_of : Trees → ℕ → D.Part
tuple_of t m = record { tree = tuple t; depth = suc m; is_target = false }

over_left_one : (a b : ℕ) → 200 < a → 200 < suc (max a b)
over_left_one a b lt = let m = le-max_left a b in Prim.omega (arith, lt, m)

-- with so many turns
module _ (n : ℕ) where
  listed_step_deep : (more : List Token → Option Listed) (d : Listed → ℕ) (r : ℕ) (a : Expr) → r < d (alone a) → ((l : Listed) → r < d (followed a l)) → (t : Then) → DeepO d r (F.listed_step (R.read n) n more a t)
  listed_step_deep more d r a lt h ended = lt
  listed_step_deep more d r a lt h (assigned u) = tt
  listed_step_deep more d r a lt h (increased u) = tt
  listed_step_deep more d r a lt h (listing u) = deep_found d r (more u) (λ l. Some (followed a l)) h
  listed_step_deep more d r a lt h other = tt

  more_step_same : (k : ℕ) → ((s : D.Several) (ts : List Token) → CappedO deepest (onto_listed s) 199 (F.listed (R.read n) n k ts) (FD.more_values n k s ts))
      → (s : D.Several) (a : Expr) → depth a ≤ 199 → (u : List Token) → CappedO deepest (onto_listed s) 199 (F.listed_step (R.read n) n (F.listed (R.read n) n k) a (then_at u)) (FD.more_step n (FD.more_values n k) (D.with_item s (part_of a)) u (behind_comma u))
  unfolding then_at behind_comma
  more_step_same k h s a le [] = is_so deepest (onto_listed s) 199 (alone a) le
  more_step_same k h s a le (mark Comma ∷ v) =
      wrapped_whole deepest (onto_listed (D.with_item s (part_of a))) deepest (onto_listed s) 199 (followed a) (F.listed (R.read n) n k v) (FD.more_values n k (D.with_item s (part_of a)) v) (h (D.with_item s (part_of a)) v)
      (λ l m. under_right (depth a) (deepest l) 199 m) (λ l m. right_is_over (depth a) (deepest l) 199 le m) (λ l. refl)
  more_step_same k h s a le (mark Assign ∷ v) = refl
  more_step_same k h s a le (mark AddAssign ∷ v) = refl
  more_step_same k h s a le _ = refl

  more_same : (k : ℕ) (s : D.Several) (ts : List Token) → CappedO deepest (onto_listed s) 199 (F.listed (R.read n) n k ts) (FD.more_values n k s ts)
  unfolding F.listed FD.more_values
  more_same zero s ts = refl
  more_same (suc k) s ts =
      found depth part_of 199 deepest (onto_listed s) 199 (R.read n R.whole ts) (D.read n Whole 199 ts) (λ r. F.listed_step (R.read n) n (F.listed (R.read n) n k) r.0 (then_at r.1)) (λ p. FD.more_step n (FD.more_values n k) (D.with_item s p.0) p.1 (behind_comma p.1)) (read_same n Whole 199 ts)
      (λ a u le. more_step_same k (more_same k) s a le u)
      (λ a u lt. listed_step_deep (F.listed (R.read n) n k) deepest 199 a lt (λ l. over_left (depth a) (deepest l) 199 lt) (then_at u))

  tuple_step : (a : Expr) (l : Listed) (m : ℕ) (t : Trees) → m ≡ max (depth a) (deepest l) → t ≡ listed_trees (followed a l)
      → ((nat_lt m 200 ≡ true) × (suc m ≤ 200)) ⊎ ((nat_lt m 200 ≡ false) × (200 < suc m))
      → CappedO listed_depth listed_tree 200 (Some (followed a l)) (then_found (given (nat_lt m 200) (tuple_of t m)) (λ p. Some p.tree))
  tuple_step a l m t e f (inl h) =
      subst (λ b. CappedO listed_depth listed_tree 200 (Some (followed a l)) (then_found (given b (tuple_of t m)) (λ p. Some p.tree))) (sym h.0)
      ((λ le. ap (λ x. Some (tuple x)) f), λ lt. absurd (let k = h.1 in Prim.omega (arith, e, lt, k)))
  tuple_step a l m t e f (inr h) =
      subst (λ b. CappedO listed_depth listed_tree 200 (Some (followed a l)) (then_found (given b (tuple_of t m)) (λ p. Some p.tree))) (sym h.0)
      ((λ le. absurd (let k = h.1 in Prim.omega (arith, e, le, k))), λ lt. refl)

  tuple_value : (a : Expr) (l : Listed) → CappedO listed_depth listed_tree 200 (Some (followed a l)) (then_found (D.tuple_part 200 (onto_listed (D.with_item D.no_items (part_of a)) l)) (λ p. Some p.tree))
  tuple_value a l =
      let s = onto_listed (D.with_item D.no_items (part_of a)) l in
      tuple_step a l s.depth (V.trees_of s.trees) (listed_depth_onto l (D.with_item D.no_items (part_of a)) ∙ ap (λ d. max d (deepest l)) (zero-max (depth a))) (listed_trees_onto l (D.with_item D.no_items (part_of a))) (leb_tells (suc s.depth) 200)

  value_step_same : (k : ℕ) (a : Expr) → depth a ≤ 200 → (u : List Token) → CappedO listed_depth listed_tree 200 (F.listed_step (R.read n) n (F.listed (R.read n) n k) a (then_at u)) (FD.value_step n k (part_of a) u (behind_comma u))
  unfolding then_at behind_comma
  value_step_same k a le [] = is_so listed_depth listed_tree 200 (alone a) le
  value_step_same k a le (mark Comma ∷ v) =
      found_whole deepest (onto_listed (D.with_item D.no_items (part_of a))) 199 listed_depth listed_tree 200 (F.listed (R.read n) n k v) (FD.more_values n k (D.with_item D.no_items (part_of a)) v) (λ l. Some (followed a l)) (λ s. then_found (D.tuple_part 200 s) (λ p. Some p.tree)) (more_same k (D.with_item D.no_items (part_of a)) v)
      (λ l m. tuple_value a l)
      (λ l lt. over_deep (depth a) (deepest l) lt)
  value_step_same k a le (mark Assign ∷ v) = refl
  value_step_same k a le (mark AddAssign ∷ v) = refl
  value_step_same k a le _ = refl

-- what is assigned or returned
value_turns : (n k : ℕ) (ts : List Token) → k ≡ n - 1 → CappedO listed_depth listed_tree 200 (then_found (R.read n R.whole ts) (λ r. F.listed_step (R.read n) n (F.listed (R.read n) n k) r.0 (then_at r.1))) (FD.value n ts)
unfolding FD.value
value_turns n k ts e =
    subst (λ m. CappedO listed_depth listed_tree 200 (then_found (R.read n R.whole ts) (λ r. F.listed_step (R.read n) n (F.listed (R.read n) n k) r.0 (then_at r.1))) (then_found (D.read n Whole 200 ts) (λ p. FD.value_step n m p.0 p.1 (behind_comma p.1)))) e
    (found depth part_of 200 listed_depth listed_tree 200 (R.read n R.whole ts) (D.read n Whole 200 ts) (λ r. F.listed_step (R.read n) n (F.listed (R.read n) n k) r.0 (then_at r.1)) (λ p. FD.value_step n k p.0 p.1 (behind_comma p.1)) (read_same n Whole 200 ts)
    (λ a u le. value_step_same n k a le u)
    (λ a u lt. listed_step_deep n (F.listed (R.read n) n k) listed_depth 200 a lt (λ l. over_left_one (depth a) (deepest l) lt) (then_at u)))

pub value_same : (n : ℕ) (ts : List Token) → CappedO listed_depth listed_tree 200 (F.listed (R.read n) n n ts) (FD.value n ts)
unfolding F.listed FD.value D.read
value_same zero ts = refl
value_same (suc k) ts = value_turns (suc k) k ts (Prim.omega arith)

-- one expression up to the end
some_only : (p : Expr × List Token) (o : Option (D.Part × List Token)) → Capped depth part_of 200 (Some p) o → (depth p.0 ≤ 200) ⊎ (200 < depth p.0) → CappedO depth bare 200 (if_last (Some p)) (if_all o)
some_only (t, []) o c (inl le) = subst (λ x. CappedO depth bare 200 (Some t) (if_all x)) (sym (c.0 le)) (is_so depth bare 200 t le)
some_only (t, []) o c (inr lt) = subst (λ x. CappedO depth bare 200 (Some t) (if_all x)) (sym (c.1 lt)) ((λ le. absurd (Prim.omega (arith, le, lt))), λ _. refl)
some_only (t, x ∷ u) o c (inl le) = subst (λ y. if_all y ≡ None) (sym (c.0 le)) refl
some_only (t, x ∷ u) o c (inr lt) = subst (λ y. if_all y ≡ None) (sym (c.1 lt)) refl

pub only_same : (r : Option (Expr × List Token)) (o : Option (D.Part × List Token)) → Capped depth part_of 200 r o → CappedO depth bare 200 (if_last r) (if_all o)
only_same None o c = subst (λ x. if_all x ≡ None) (sym c) refl
only_same (Some p) o c = some_only p o c (either_way (depth p.0) 200)
