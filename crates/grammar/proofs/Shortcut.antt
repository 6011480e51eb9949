-- A level is its first part, and then what goes on from it, from the tightest operators on.
use Rattle.std.proofs.Common.{◌≡◌, ℕ, zero, suc, ◌+◌, ◌-◌, ◌≤◌, ◌<◌, Bool, true, false, List, Option, Some, None, refl, sym, ap, ◌∙◌, arith, inl, inr}
use Rattle.std.specs.Prelude.{nat_le}
use Rattle.std.proofs.lemmas.Bool.Decides.{leb_tells}
use Rattle.lexer.specs.Tokens.{Token}
use Rattle.grammar.specs.declared.parts.Row.{Row}
use Rattle.grammar.specs.declared.parts.Row.TheVariants.{Negated}
use Rattle.grammar.specs.Tree.{Operator, either, both, equal, not_equal, less, greater, less_equal, greater_equal, within, not_within, add, subtract, multiply, divide, remainder, negation}
use Rattle.grammar.specs.Front.{Next, operator, dot_next, index_next, call_next, if_next, assign_next, nothing, next}
use Rattle.grammar.specs.Reading.{Parse, then_read}
use Rattle.grammar.specs.FormReading.{then_found}
use Rattle.grammar.specs.Ahead.{Ends, of_level, operator_at, behind_not}
use Rattle.grammar.specs.Descent.{Part, chain, join_step, operated, sign_step, e2, e3, e4, e5, e6, e7, e8, level, in_a_row, joined, onward, negated}

read_back : {A : Type 0} (o : Option (A × List Token)) → then_read o (λ a u. Some (a, u)) ≡ o
read_back None = refl
read_back (Some p) = refl

read_on : {A B C : Type 0} (o : Option (A × List Token)) (f : A → Parse B) (g : B → Parse C) → then_read (then_read o f) g ≡ then_read o (λ a u. then_read (f a u) g)
read_on None f g = refl
read_on (Some p) f g = refl

same_on : {A B : Type 0} (o : Option (A × List Token)) (f g : A → Parse B) → ((a : A) (u : List Token) → f a u ≡ g a u) → then_read o f ≡ then_read o g
same_on None f g h = refl
same_on (Some p) f g h = h p.0 p.1

at_least : (l k : ℕ) → l ≤ k → nat_le l k ≡ true
at_least l k h = elim (leb_tells l k) [ inl e ↦ e.0 | inr e ↦ absurd (let f = e.1 in omega (arith, f, h)) ]

less_than : (l k : ℕ) → k < l → nat_le l k ≡ false
less_than l k h = elim (leb_tells l k) [ inl e ↦ absurd (let f = e.1 in omega (arith, f, h)) | inr e ↦ e.0 ]

chain_ends : (l : ℕ) (up : ℕ → Parse Part) (r k : ℕ) (a : Part) (u : List Token) → operator_at l u ≡ None → chain l up r k a u ≡ Some (a, u)
unfolding chain
chain_ends l up r zero a u e = refl
chain_ends l up r (suc k) a u e = ap (λ o. join_step up (chain l up r k) r a o u) e

-- one operator and its right part
abbrev pub joins : ℕ → (ℕ → Parse Part) → ℕ → ℕ → Part → Operator → Part → Parse Part
joins l up r k a o b w = then_found (operated r o a b) (λ c. chain l up r k c w)

pub chain_turn : (l : ℕ) (up : ℕ → Parse Part) (r k : ℕ) (a : Part) (u v : List Token) (o : Operator) → operator_at l u ≡ Some (o, v)
    → chain l up r (suc k) a u ≡ then_read (up (r - 1) v) (joins l up r k a o)
unfolding chain
chain_turn l up r k a u v o e = ap (λ x. join_step up (chain l up r k) r a x u) e

-- `not` stands before a part
none_between : (n : Next) → of_level 4 n ≡ None
none_between (operator either u) = refl
none_between (operator both u) = refl
none_between (operator equal u) = refl
none_between (operator not_equal u) = refl
none_between (operator less u) = refl
none_between (operator greater u) = refl
none_between (operator less_equal u) = refl
none_between (operator greater_equal u) = refl
none_between (operator within u) = refl
none_between (operator not_within u) = refl
none_between (operator add u) = refl
none_between (operator subtract u) = refl
none_between (operator multiply u) = refl
none_between (operator divide u) = refl
none_between (operator remainder u) = refl
none_between (dot_next u) = refl
none_between (index_next u) = refl
none_between (call_next u) = refl
none_between (if_next u) = refl
none_between (assign_next u) = refl
none_between nothing = refl

module _ (inside : Row → ℕ → Parse Part) (most : ℕ) where
  -- one level of those that are left
  pub onward_step : (l r k : ℕ) (a : Part) (u : List Token) → l ≤ k → onward inside most l r (suc k) a u ≡ then_read (joined inside most k r a u) (onward inside most l r k)
  unfolding onward
  onward_step l r k a u h = ap (λ b. elim b [ true ↦ then_read (joined inside most k r a u) (onward inside most l r k) | false ↦ Some (a, u) ]) (at_least l k h)

  pub onward_done : (l r k : ℕ) (a : Part) (u : List Token) → k ≤ l → onward inside most l r k a u ≡ Some (a, u)
  unfolding onward
  onward_done l r zero a u h = refl
  onward_done l r (suc k) a u h = ap (λ b. elim b [ true ↦ then_read (joined inside most k r a u) (onward inside most l r k) | false ↦ Some (a, u) ]) (less_than l k (omega (arith, h)))

  pub onward_next : (l r n : ℕ) (a : Part) (u : List Token) → l < n → onward inside most l r n a u ≡ then_read (joined inside most (n - 1) r a u) (onward inside most l r (n - 1))
  onward_next l r zero a u h = absurd (omega (arith, h))
  onward_next l r (suc k) a u h =
      let same : k ≡ suc k - 1 = omega arith in
      onward_step l r k a u (omega (arith, h)) ∙ ap (λ n. then_read (joined inside most n r a u) (onward inside most l r n)) same

  -- nothing goes on where no operator comes next
  pub nothing_on : (l r k : ℕ) (a : Part) (u : List Token) → Ends u → onward inside most l r k a u ≡ Some (a, u)
  unfolding onward
  nothing_on l r zero a u h = refl
  nothing_on l r (suc k) a u h = by_rest (nat_le l k) (nothing_on l r k a u h)
    where
      by_rest : (b : Bool) → onward inside most l r k a u ≡ Some (a, u) → Path (Option (Part × List Token)) (elim b [ true ↦ then_read (joined inside most k r a u) (onward inside most l r k) | false ↦ Some (a, u) ]) (Some (a, u))
      by_rest true e = ap (λ o. then_read o (onward inside most l r k)) (chain_ends k (level inside most (k + 1)) r (in_a_row inside most k) a u (h k)) ∙ e
      by_rest false e = refl

  -- the loosest level is the last
  onward_more : (l r k : ℕ) (a : Part) (u : List Token) → l < k → onward inside most l r k a u ≡ then_read (onward inside most (suc l) r k a u) (joined inside most l r)
  onward_more l r zero a u h = absurd (omega (arith, h))
  onward_more l r (suc k) a u h = elim (leb_tells (suc l) k) [
    | inl e ↦ let f = e.1 in
        onward_step l r k a u (omega (arith, h))
        ∙ same_on (joined inside most k r a u) (onward inside most l r k) (λ b v. then_read (onward inside most (suc l) r k b v) (joined inside most l r)) (λ b v. onward_more l r k b v f)
        ∙ sym (read_on (joined inside most k r a u) (onward inside most (suc l) r k) (joined inside most l r))
        ∙ ap (λ o. then_read o (joined inside most l r)) (sym (onward_step (suc l) r k a u f))
    | inr e ↦ let f = e.1 in
        let same : k ≡ l = omega (arith, f, h) in
        onward_step l r k a u (omega (arith, h))
        ∙ same_on (joined inside most k r a u) (onward inside most l r k) (λ b v. Some (b, v)) (λ b v. onward_done l r k b v (omega (arith, f)))
        ∙ read_back (joined inside most k r a u)
        ∙ ap (λ n. joined inside most n r a u) same
        ∙ ap (λ o. then_read o (joined inside most l r)) (sym (onward_done (suc l) r (suc k) a u (omega (arith, f))))
  ]

  -- a level whose first part is read, and what goes on from it up to another level
  abbrev Begins : ℕ → ℕ → ℕ → List Token → Option (Part × List Token) → Type 0
  Begins l top r ts o = level inside most l r ts ≡ then_read o (onward inside most l r top)

  looser : (l top r : ℕ) (ts : List Token) (o : Option (Part × List Token)) → l < top → level inside most l r ts ≡ then_read (level inside most (suc l) r ts) (joined inside most l r) → Begins (suc l) top r ts o → Begins l top r ts o
  looser l top r ts o h e f =
      e
      ∙ ap (λ x. then_read x (joined inside most l r)) f
      ∙ read_on o (onward inside most (suc l) r top) (joined inside most l r)
      ∙ same_on o (λ a u. then_read (onward inside most (suc l) r top a u) (joined inside most l r)) (onward inside most l r top) (λ a u. sym (onward_more l r top a u h))

  tightest : (l r : ℕ) (o : Option (Part × List Token)) → o ≡ then_read o (onward inside most l r l)
  tightest l r o = sym (read_back o) ∙ same_on o (λ a u. Some (a, u)) (onward inside most l r l) (λ a u. sym (onward_done l r l a u (omega arith)))

  from8 : (r : ℕ) (ts : List Token) → Begins 8 8 r ts (e8 inside most r ts)
  from8 r ts = tightest 8 r (e8 inside most r ts)

  from7 : (r : ℕ) (ts : List Token) → Begins 7 8 r ts (e8 inside most r ts)
  unfolding e7
  from7 r ts = looser 7 8 r ts (e8 inside most r ts) (omega arith) refl (from8 r ts)

  from6 : (r : ℕ) (ts : List Token) → Begins 6 8 r ts (e8 inside most r ts)
  unfolding e6
  from6 r ts = looser 6 8 r ts (e8 inside most r ts) (omega arith) refl (from7 r ts)

  from5 : (r : ℕ) (ts : List Token) → Begins 5 8 r ts (e8 inside most r ts)
  unfolding e5
  from5 r ts = looser 5 8 r ts (e8 inside most r ts) (omega arith) refl (from6 r ts)

  nothing_there : (r : ℕ) (o : Option (Part × List Token)) → o ≡ then_read o (joined inside most 4 r)
  nothing_there r o = sym (read_back o) ∙ same_on o (λ a u. Some (a, u)) (joined inside most 4 r) (λ a u. sym (chain_ends 4 (level inside most 5) r (in_a_row inside most 4) a u (none_between (next u))))

  unsigned4 : (r : ℕ) (ts : List Token) → behind_not ts ≡ None → e4 inside most r ts ≡ e5 inside most r ts
  unfolding e4
  unsigned4 r ts h = ap (sign_step inside most negation Negated (e5 inside most) r ts) h

  from4 : (r : ℕ) (ts : List Token) → behind_not ts ≡ None → Begins 4 8 r ts (e8 inside most r ts)
  from4 r ts h = looser 4 8 r ts (e8 inside most r ts) (omega arith) (unsigned4 r ts h ∙ nothing_there r (e5 inside most r ts)) (from5 r ts)

  from3 : (r : ℕ) (ts : List Token) → behind_not ts ≡ None → Begins 3 8 r ts (e8 inside most r ts)
  unfolding e3
  from3 r ts h = looser 3 8 r ts (e8 inside most r ts) (omega arith) refl (from4 r ts h)

  from2 : (r : ℕ) (ts : List Token) → behind_not ts ≡ None → Begins 2 8 r ts (e8 inside most r ts)
  unfolding e2
  from2 r ts h = looser 2 8 r ts (e8 inside most r ts) (omega arith) refl (from3 r ts h)

  -- without `not` before it
  pub from_operand : (l r : ℕ) (ts : List Token) → 2 ≤ l → l ≤ 8 → (l ≤ 4 → behind_not ts ≡ None) → Begins l 8 r ts (e8 inside most r ts)
  from_operand zero r ts h k n = absurd (omega (arith, h))
  from_operand (suc zero) r ts h k n = absurd (omega (arith, h))
  from_operand (suc (suc zero)) r ts h k n = from2 r ts (n (omega arith))
  from_operand (suc (suc (suc zero))) r ts h k n = from3 r ts (n (omega arith))
  from_operand (suc (suc (suc (suc zero)))) r ts h k n = from4 r ts (n (omega arith))
  from_operand (suc (suc (suc (suc (suc zero))))) r ts h k n = from5 r ts
  from_operand (suc (suc (suc (suc (suc (suc zero)))))) r ts h k n = from6 r ts
  from_operand (suc (suc (suc (suc (suc (suc (suc zero))))))) r ts h k n = from7 r ts
  from_operand (suc (suc (suc (suc (suc (suc (suc (suc zero)))))))) r ts h k n = from8 r ts
  from_operand (suc (suc (suc (suc (suc (suc (suc (suc (suc l))))))))) r ts h k n = absurd (omega (arith, k))

  -- with it
  not4 : (r : ℕ) (ts u : List Token) → behind_not ts ≡ Some u → Begins 4 4 r ts (negated inside most r u)
  unfolding e4
  not4 r ts u e = ap (sign_step inside most negation Negated (e5 inside most) r ts) e ∙ tightest 4 r (negated inside most r u)

  not3 : (r : ℕ) (ts u : List Token) → behind_not ts ≡ Some u → Begins 3 4 r ts (negated inside most r u)
  unfolding e3
  not3 r ts u e = looser 3 4 r ts (negated inside most r u) (omega arith) refl (not4 r ts u e)

  not2 : (r : ℕ) (ts u : List Token) → behind_not ts ≡ Some u → Begins 2 4 r ts (negated inside most r u)
  unfolding e2
  not2 r ts u e = looser 2 4 r ts (negated inside most r u) (omega arith) refl (not3 r ts u e)

  pub from_negation : (l r : ℕ) (ts u : List Token) → 2 ≤ l → l ≤ 4 → behind_not ts ≡ Some u → Begins l 4 r ts (negated inside most r u)
  from_negation zero r ts u h k e = absurd (omega (arith, h))
  from_negation (suc zero) r ts u h k e = absurd (omega (arith, h))
  from_negation (suc (suc zero)) r ts u h k e = not2 r ts u e
  from_negation (suc (suc (suc zero))) r ts u h k e = not3 r ts u e
  from_negation (suc (suc (suc (suc zero)))) r ts u h k e = not4 r ts u e
  from_negation (suc (suc (suc (suc (suc l))))) r ts u h k e = absurd (omega (arith, k))
