-- What a reading with a limit on the depth gives, beside one without.
use Rattle.std.proofs.Common.{◌≡◌, ℕ, suc, ◌<◌, ◌≤◌, true, false, List, Option, Some, None, refl, sym, ap, ◌∙◌, subst, arith, nat_lt, inl, inr, ◌⊎◌}
use Rattle.std.proofs.lemmas.Bool.Decides.{leb_tells}
use Rattle.lexer.specs.Tokens.{Token}
use Rattle.grammar.specs.Reading.{Parse, then_read}
use Rattle.grammar.specs.FormReading.{then_found}
use Rattle.grammar.specs.Ahead.{given}
use Rattle.grammar.specs.Descent.{}

-- the second reading is the first, seen otherwise, but gives nothing where the first is too deep
abbrev pub Capped : {A B : Type 0} → (A → ℕ) → (A → B) → ℕ → Option (A × List Token) → Option (B × List Token) → Type 0
Capped d v r None o = o ≡ None
Capped d v r (Some p) o = (d p.0 ≤ r → o ≡ Some (v p.0, p.1)) × (r < d p.0 → o ≡ None)

-- all that is read is too deep
abbrev pub Deep : {A : Type 0} → (A → ℕ) → ℕ → Option (A × List Token) → Type 0
Deep d r None = Unit {0}
Deep d r (Some p) = r < d p.0

pub capped_deep : {A B : Type 0} (d : A → ℕ) (v : A → B) (r : ℕ) (o : Option (A × List Token)) → Deep d r o → Capped d v r o None
capped_deep d v r None h = refl
capped_deep d v r (Some p) h = ((λ le. absurd (Prim.omega (arith, le, h))), λ lt. refl)

pub deep_then : {A B : Type 0} (d : B → ℕ) (r : ℕ) (o : Option (A × List Token)) (f : A → Parse B) → ((a : A) (u : List Token) → Deep d r (f a u)) → Deep d r (then_read o f)
deep_then d r None f h = tt
deep_then d r (Some p) f h = h p.0 p.1

pub either_way : (a r : ℕ) → (a ≤ r) ⊎ (r < a)
either_way a r = elim (leb_tells a r) [ inl h ↦ inl h.1 | inr h ↦ inr h.1 ]

bind_some : {A A' B B' : Type 0} (d : A → ℕ) (v : A → A') (r : ℕ) (d' : B → ℕ) (v' : B → B') (r' : ℕ) (p : A × List Token) (o' : Option (A' × List Token)) (f : A → Parse B) (f' : A' → Parse B')
    → Capped d v r (Some p) o'
    → ((a : A) (u : List Token) → d a ≤ r → Capped d' v' r' (f a u) (f' (v a) u))
    → ((a : A) (u : List Token) → r < d a → Deep d' r' (f a u))
    → (d p.0 ≤ r) ⊎ (r < d p.0)
    → Capped d' v' r' (then_read (Some p) f) (then_read o' f')
bind_some d v r d' v' r' p o' f f' c h g (inl le) = subst (λ o. Capped d' v' r' (f p.0 p.1) (then_read o f')) (sym (c.0 le)) (h p.0 p.1 le)
bind_some d v r d' v' r' p o' f f' c h g (inr lt) = subst (λ o. Capped d' v' r' (f p.0 p.1) (then_read o f')) (sym (c.1 lt)) (capped_deep d' v' r' (f p.0 p.1) (g p.0 p.1 lt))

pub bind : {A A' B B' : Type 0} (d : A → ℕ) (v : A → A') (r : ℕ) (d' : B → ℕ) (v' : B → B') (r' : ℕ) (o : Option (A × List Token)) (o' : Option (A' × List Token)) (f : A → Parse B) (f' : A' → Parse B')
    → Capped d v r o o'
    → ((a : A) (u : List Token) → d a ≤ r → Capped d' v' r' (f a u) (f' (v a) u))
    → ((a : A) (u : List Token) → r < d a → Deep d' r' (f a u))
    → Capped d' v' r' (then_read o f) (then_read o' f')
bind d v r d' v' r' None o' f f' c h g = subst (λ o. then_read o f' ≡ None) (sym c) refl
bind d v r d' v' r' (Some p) o' f f' c h g = bind_some d v r d' v' r' p o' f f' c h g (either_way (d p.0) r)

-- something of no depth was read before
pub passes : {A B B' : Type 0} (d : B → ℕ) (v : B → B') (r : ℕ) (o : Option (A × List Token)) (f : A → Parse B) (f' : A → Parse B')
    → ((a : A) (u : List Token) → Capped d v r (f a u) (f' a u)) → Capped d v r (then_read o f) (then_read o f')
passes d v r None f f' h = refl
passes d v r (Some p) f f' h = h p.0 p.1

-- a form is made over its parts, if that leaves room
made_step : {A B B' : Type 0} (d : B → ℕ) (v : B → B') (r n : ℕ) (b : A) (o : Option (B × List Token)) (q : A → Option (B' × List Token))
    → (n < r → Capped d v r o (q b)) → (r ≤ n → Deep d r o)
    → ((nat_lt n r ≡ true) × (suc n ≤ r)) ⊎ ((nat_lt n r ≡ false) × (r < suc n))
    → Capped d v r o (then_found (given (nat_lt n r) b) q)
made_step d v r n b o q h g (inl t) = subst (λ x. Capped d v r o (then_found (given x b) q)) (sym t.0) (h t.1)
made_step d v r n b o q h g (inr t) = subst (λ x. Capped d v r o (then_found (given x b) q)) (sym t.0) (capped_deep d v r o (g (let e = t.1 in Prim.omega (arith, e))))

pub made : {A B B' : Type 0} (d : B → ℕ) (v : B → B') (r n : ℕ) (b : A) (o : Option (B × List Token)) (q : A → Option (B' × List Token))
    → (n < r → Capped d v r o (q b)) → (r ≤ n → Deep d r o) → Capped d v r o (then_found (given (nat_lt n r) b) q)
made d v r n b o q h g = made_step d v r n b o q h g (leb_tells (suc n) r)

-- what was read, as it is
pub stays : {A B : Type 0} (d : A → ℕ) (v : A → B) (r : ℕ) (a : A) (u : List Token) → d a ≤ r → Capped d v r (Some (a, u)) (Some (v a, u))
stays d v r a u le = ((λ _. refl), λ lt. absurd (Prim.omega (arith, le, lt)))

-- what was read, seen as something of the same depth
pub wrapped : {A A' B : Type 0} (d : A → ℕ) (v : A → B) (d' : A' → ℕ) (v' : A' → B) (r : ℕ) (g : A → A') (o : Option (A × List Token)) (o' : Option (B × List Token))
    → Capped d v r o o' → ((a : A) → d' (g a) ≤ r → d a ≤ r) → ((a : A) → r < d' (g a) → r < d a) → ((a : A) → v' (g a) ≡ v a)
    → Capped d' v' r (then_read o (λ a u. Some (g a, u))) o'
wrapped d v d' v' r g None o' c h k e = c
wrapped d v d' v' r g (Some p) o' c h k e = ((λ le. c.0 (h p.0 le) ∙ ap (λ x. Some (x, p.1)) (sym (e p.0))), λ lt. c.1 (k p.0 lt))
