-- What a reading of a whole line with a limit on the depth gives, beside one without.
use Rattle.std.proofs.Common.{◌≡◌, ℕ, ◌<◌, ◌≤◌, List, Option, Some, None, refl, sym, ap, ◌∙◌, subst, arith, inl, inr, ◌⊎◌}
use Rattle.lexer.specs.Tokens.{Token}
use Rattle.grammar.specs.FormReading.{then_found}
use Rattle.grammar.proofs.Capped.{Capped, either_way}

abbrev pub CappedO : {A B : Type 0} → (A → ℕ) → (A → B) → ℕ → Option A → Option B → Type 0
CappedO d v r None o = o ≡ None
CappedO d v r (Some a) o = (d a ≤ r → o ≡ Some (v a)) × (r < d a → o ≡ None)

abbrev pub DeepO : {A : Type 0} → (A → ℕ) → ℕ → Option A → Type 0
DeepO d r None = Unit {0}
DeepO d r (Some a) = r < d a

pub deep_none : {A B : Type 0} (d : A → ℕ) (v : A → B) (r : ℕ) (o : Option A) → DeepO d r o → CappedO d v r o None
deep_none d v r None h = refl
deep_none d v r (Some a) h = ((λ le. absurd (Prim.omega (arith, le, h))), λ lt. refl)

pub deep_found : {A B : Type 0} (d : B → ℕ) (r : ℕ) (o : Option A) (f : A → Option B) → ((a : A) → DeepO d r (f a)) → DeepO d r (then_found o f)
deep_found d r None f h = tt
deep_found d r (Some a) f h = h a

pub is_so : {A B : Type 0} (d : A → ℕ) (v : A → B) (r : ℕ) (a : A) → d a ≤ r → CappedO d v r (Some a) (Some (v a))
is_so d v r a le = ((λ _. refl), λ lt. absurd (Prim.omega (arith, le, lt)))

found_some : {A A' B B' : Type 0} (d : A → ℕ) (v : A → A') (r : ℕ) (d' : B → ℕ) (v' : B → B') (r' : ℕ) (p : A × List Token) (o' : Option (A' × List Token)) (f : A × List Token → Option B) (f' : A' × List Token → Option B')
    → Capped d v r (Some p) o' → ((a : A) (u : List Token) → d a ≤ r → CappedO d' v' r' (f (a, u)) (f' (v a, u))) → ((a : A) (u : List Token) → r < d a → DeepO d' r' (f (a, u)))
    → (d p.0 ≤ r) ⊎ (r < d p.0) → CappedO d' v' r' (f p) (then_found o' f')
found_some d v r d' v' r' p o' f f' c h g (inl le) = subst (λ o. CappedO d' v' r' (f p) (then_found o f')) (sym (c.0 le)) (h p.0 p.1 le)
found_some d v r d' v' r' p o' f f' c h g (inr lt) = subst (λ o. CappedO d' v' r' (f p) (then_found o f')) (sym (c.1 lt)) (deep_none d' v' r' (f p) (g p.0 p.1 lt))

pub found : {A A' B B' : Type 0} (d : A → ℕ) (v : A → A') (r : ℕ) (d' : B → ℕ) (v' : B → B') (r' : ℕ) (o : Option (A × List Token)) (o' : Option (A' × List Token)) (f : A × List Token → Option B) (f' : A' × List Token → Option B')
    → Capped d v r o o' → ((a : A) (u : List Token) → d a ≤ r → CappedO d' v' r' (f (a, u)) (f' (v a, u))) → ((a : A) (u : List Token) → r < d a → DeepO d' r' (f (a, u)))
    → CappedO d' v' r' (then_found o f) (then_found o' f')
found d v r d' v' r' None o' f f' c h g = subst (λ o. then_found o f' ≡ None) (sym c) refl
found d v r d' v' r' (Some p) o' f f' c h g = found_some d v r d' v' r' p o' f f' c h g (either_way (d p.0) r)

whole_some : {A A' B B' : Type 0} (d : A → ℕ) (v : A → A') (r : ℕ) (d' : B → ℕ) (v' : B → B') (r' : ℕ) (a : A) (o' : Option A') (f : A → Option B) (f' : A' → Option B')
    → CappedO d v r (Some a) o' → ((a : A) → d a ≤ r → CappedO d' v' r' (f a) (f' (v a))) → ((a : A) → r < d a → DeepO d' r' (f a))
    → (d a ≤ r) ⊎ (r < d a) → CappedO d' v' r' (f a) (then_found o' f')
whole_some d v r d' v' r' a o' f f' c h g (inl le) = subst (λ o. CappedO d' v' r' (f a) (then_found o f')) (sym (c.0 le)) (h a le)
whole_some d v r d' v' r' a o' f f' c h g (inr lt) = subst (λ o. CappedO d' v' r' (f a) (then_found o f')) (sym (c.1 lt)) (deep_none d' v' r' (f a) (g a lt))

pub found_whole : {A A' B B' : Type 0} (d : A → ℕ) (v : A → A') (r : ℕ) (d' : B → ℕ) (v' : B → B') (r' : ℕ) (o : Option A) (o' : Option A') (f : A → Option B) (f' : A' → Option B')
    → CappedO d v r o o' → ((a : A) → d a ≤ r → CappedO d' v' r' (f a) (f' (v a))) → ((a : A) → r < d a → DeepO d' r' (f a))
    → CappedO d' v' r' (then_found o f) (then_found o' f')
found_whole d v r d' v' r' None o' f f' c h g = subst (λ o. then_found o f' ≡ None) (sym c) refl
found_whole d v r d' v' r' (Some a) o' f f' c h g = whole_some d v r d' v' r' a o' f f' c h g (either_way (d a) r)

-- what was read without an expression
pub found_same : {A B B' : Type 0} (d : B → ℕ) (v : B → B') (r : ℕ) (o : Option A) (f : A → Option B) (f' : A → Option B') → ((a : A) → CappedO d v r (f a) (f' a)) → CappedO d v r (then_found o f) (then_found o f')
found_same d v r None f f' h = refl
found_same d v r (Some a) f f' h = h a

pub wrapped_whole : {A A' B : Type 0} (d : A → ℕ) (v : A → B) (d' : A' → ℕ) (v' : A' → B) (r : ℕ) (g : A → A') (o : Option A) (o' : Option B)
    → CappedO d v r o o' → ((a : A) → d' (g a) ≤ r → d a ≤ r) → ((a : A) → r < d' (g a) → r < d a) → ((a : A) → v' (g a) ≡ v a) → CappedO d' v' r (then_found o (λ a. Some (g a))) o'
wrapped_whole d v d' v' r g None o' c h k e = c
wrapped_whole d v d' v' r g (Some a) o' c h k e = ((λ le. c.0 (h a le) ∙ ap Some (sym (e a))), λ lt. c.1 (k a lt))
