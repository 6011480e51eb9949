-- What walks lead to, as a list: the ends of walks whose edges go from nodes of a list, one node after the other being allowed.
use Rattle.std.proofs.Common.{◌≡◌, ℕ, zero, suc, ◌≤◌, inl, inr, ◌⊎◌, Bool, true, false, List, [], ◌∷◌, ◌++◌, Contains, Decides, sym, subst, arith, refl, true≢false}
use Rattle.std.specs.List.{flat_map, list_any}
use Rattle.std.specs.Cmp.{decided}
use Rattle.std.proofs.lemmas.Map.Views.{Contains-from_any, list_any-from_Contains}
use Rattle.std.proofs.lemmas.List.Elements.{Contains-append_left, Contains-append_right, Contains-append_cases}
use Rattle.edges.specs.Walks.{Walk, Leads}
use Rattle.actions.proofs.Ascending.{head_in, tail_in}

-- what is in a list that has an item in front
pub in_cases : {X : Type 0} (x : X) (xs : List X) (y : X) → Contains (x ∷ xs) y → (x ≡ y) ⊎ Contains xs y
in_cases x xs y (zero, low, is) = inl is
in_cases x xs y (suc k, low, is) = inr (k, omega (arith, low), is)

pub none_in : {X : Type 0} {A : Type 0} (y : X) → Contains [] y → A
none_in y (k, low, is) = absurd (omega (arith, low))

module _ {A B : Type 0} (f : A → List B) where
  pub into_all : (xs : List A) (x : A) (y : B) → Contains xs x → Contains (f x) y → Contains (flat_map f xs) y
  into_all [] x y h g = none_in x h
  into_all (z ∷ xs) x y h g = elim (in_cases z xs x h) [
    | inl is ↦ Contains-append_left (f z) (flat_map f xs) y (subst (λ u. Contains (f u) y) (sym is) g)
    | inr later ↦ Contains-append_right (f z) (flat_map f xs) y (into_all xs x y later g)
  ]

  pub out_of_all : (xs : List A) (y : B) → Contains (flat_map f xs) y → (x : A) × Contains xs x × Contains (f x) y
  out_of_all [] y h = none_in y h
  out_of_all (z ∷ xs) y h = elim (Contains-append_cases (f z) (flat_map f xs) y h) [
    | inl here ↦ (z, head_in z xs, here)
    | inr there ↦ let r = out_of_all xs y there in (r.0, tail_in z xs r.0 r.1, r.2)
  ]

-- a walk, and one that goes on from its end
pub lead_on : {L : Type 0} (needs : L → List L) (n : ℕ) (a b c : L) → Walk needs n a b → Leads needs b c → Leads needs a c
lead_on needs zero a b c v on = subst (λ x. Leads needs x c) (sym v) on
lead_on needs (suc n) a b c v on =
    let r = lead_on needs n v.0 b c v.2 on in
    (suc r.0, (v.0, v.1, r.1))

module _ {L : Type 0} (same : L → L → Bool) (decides : (a b : L) → Decides (same a b) (a ≡ b)) (needs : L → List L) where
  -- a list, if the test holds
  abbrev only_if : Bool → List L → List L
  only_if true xs = xs
  only_if false xs = []

  -- the ends of walks from a whose edges go from these nodes
  abbrev ends : List L → L → List L
  ends [] a = a ∷ []
  ends (d ∷ ds) a = ends ds a ++ only_if (list_any (same d) (ends ds a)) (flat_map (ends ds) (needs d))

  -- a walk of n edges, each of which goes from one of these nodes
  abbrev Inside : List L → ℕ → L → L → Type 0
  Inside ds zero a b = a ≡ b
  Inside ds (suc n) a b = Contains ds a × ((c : L) × Contains (needs a) c × Inside ds n c b)

  in_only : (b : Bool) (xs : List L) (x : L) → Contains (only_if b xs) x → (b ≡ true) × Contains xs x
  in_only true xs x h = (refl, h)
  in_only false xs x h = none_in x h

  into_only : (b : Bool) (xs : List L) (x : L) → b ≡ true → Contains xs x → Contains (only_if b xs) x
  into_only true xs x e h = h
  into_only false xs x e h = absurd (true≢false (sym e))

  ends_led : (ds : List L) (a x : L) → Contains (ends ds a) x → Leads needs a x
  ends_led [] a x h = elim (in_cases a [] x h) [
    | inl is ↦ (zero, is)
    | inr later ↦ none_in x later
  ]
  ends_led (d ∷ ds) a x h = elim (Contains-append_cases (ends ds a) (only_if (list_any (same d) (ends ds a)) (flat_map (ends ds) (needs d))) x h) [
    | inl here ↦ ends_led ds a x here
    | inr there ↦
        let r = in_only (list_any (same d) (ends ds a)) (flat_map (ends ds) (needs d)) x there in
        let e = out_of_all (ends ds) (needs d) x r.1 in
        let to = ends_led ds a d (Contains-from_any (λ p q t. (decides p q).0 t) d (ends ds a) r.0) in
        let on = ends_led ds e.0 x e.2 in
        lead_on needs to.0 a d x to.1 (suc on.0, (e.0, e.1, on.1))
  ]

  module _ (d : L) (ds : List L) where
    -- a walk doesn't come to d before its end, or it comes to d for the first time and goes on
    first : (n : ℕ) (a x : L) → Inside (d ∷ ds) n a x
        → ((k : ℕ) × Inside ds k a x) ⊎ ((k : ℕ) × (m : ℕ) × Inside ds k a d × Inside (d ∷ ds) m d x × (m ≤ n))
    first zero a x w = inl (zero, w)
    first (suc n) a x w = elim (in_cases d ds a w.0) [
      | inl is ↦ inr (zero, suc n, sym is, subst (λ u. Inside (d ∷ ds) (suc n) u x) (sym is) w, omega arith)
      | inr there ↦ elim (first n w.1.0 x w.1.2) [
        | inl r ↦ inl (suc r.0, (there, (w.1.0, w.1.1, r.1)))
        | inr r ↦ inr (suc r.0, r.1, (there, (w.1.0, w.1.1, r.2)), r.3, omega (arith, r.4))
      ]
    ]

    -- a walk from d ends there, or it leaves d for the last time
    last : (most n : ℕ) (x : L) → n ≤ most → Inside (d ∷ ds) n d x → (d ≡ x) ⊎ ((e : L) × Contains (needs d) e × (k : ℕ) × Inside ds k e x)
    last most zero x low w = inl w
    last zero (suc n) x low w = absurd (omega (arith, low))
    last (suc most) (suc n) x low w = elim (first n w.1.0 x w.1.2) [
      | inl r ↦ inr (w.1.0, w.1.1, r.0, r.1)
      | inr r ↦ last most r.1 x (omega (arith, low, r.4)) r.3
    ]

  ends_all : (ds : List L) (n : ℕ) (a x : L) → Inside ds n a x → Contains (ends ds a) x
  ends_all [] zero a x w = subst (λ u. Contains (a ∷ []) u) w (head_in a [])
  ends_all [] (suc n) a x w = none_in a w.0
  ends_all (d ∷ ds) n a x w = elim (first d ds n a x w) [
    | inl r ↦ Contains-append_left (ends ds a) (only_if (list_any (same d) (ends ds a)) (flat_map (ends ds) (needs d))) x (ends_all ds r.0 a x r.1)
    | inr r ↦
        let to = ends_all ds r.0 a d r.2 in
        elim (last d ds r.1 r.1 x (omega arith) r.3) [
          | inl is ↦
              Contains-append_left (ends ds a) (only_if (list_any (same d) (ends ds a)) (flat_map (ends ds) (needs d))) x
              (subst (Contains (ends ds a)) is to)
          | inr e ↦
              Contains-append_right (ends ds a) (only_if (list_any (same d) (ends ds a)) (flat_map (ends ds) (needs d))) x
              (into_only (list_any (same d) (ends ds a)) (flat_map (ends ds) (needs d)) x (list_any-from_Contains (decided same decides) d (ends ds a) to)
              (into_all (ends ds) (needs d) e.0 x e.1 (ends_all ds e.2 e.0 x e.3)))
        ]
  ]

  module _ (declared : List L) (finite : (t d : L) → Contains (needs t) d → list_any (same t) declared ≡ true) where
    inside : (n : ℕ) (a b : L) → Walk needs n a b → Inside declared n a b
    inside zero a b w = w
    inside (suc n) a b w =
        (Contains-from_any (λ p q t. (decides p q).0 t) a declared (finite a w.0 w.1), (w.0, w.1, inside n w.0 b w.2))

    -- all that walks from a lead to
    abbrev pub led_to : L → List L
    led_to = ends declared

    pub led_to-is : (a x : L) → Contains (led_to a) x → Leads needs a x
    led_to-is = ends_led declared

    pub led_to-all : (a x : L) → Leads needs a x → Contains (led_to a) x
    led_to-all a x w = ends_all declared w.0 a x (inside w.0 a x w.1)
