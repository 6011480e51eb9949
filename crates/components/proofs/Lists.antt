-- Lists with something more behind, places that are set, and walks that go on.
use Rattle.std.proofs.Common.{◌≡◌, ℕ, zero, suc, ◌+◌, ◌-◌, ◌<◌, ◌⊎◌, inl, inr, true, List, [], ◌∷◌, ◌++◌, length, get_or, sym, ap, ◌∙◌, subst, arith, refl, length-append, Contains, eqb-true}
use Rattle.std.specs.Prelude.{nat_eq, slice_set}
use Rattle.edges.specs.Walks.{Walk, Leads}
use Rattle.edges.proofs.Tests.{cases_of}
use Rattle.edges.proofs.Lists.{below_or_past, apart_of}
use Rattle.components.specs.declared.search.Place.{Place}
use Rattle.components.specs.declared.search.Place.TheVariants.{Unmet, Open, Closed}
use Rattle.components.specs.Search.{place_of}

-- ---- places

abbrev pub tag : Place → ℕ
tag Unmet = 0
tag (Open k) = 1
tag (Closed c) = 2

abbrev number : Place → ℕ
number Unmet = 0
number (Open k) = k
number (Closed c) = c

pub unmet_open : {P : Type 0} (p : Place) (k : ℕ) → p ≡ Unmet → p ≡ Open k → P
unmet_open p k e f = absurd (omega (arith, ap tag (sym e ∙ f)))

pub unmet_closed : {P : Type 0} (p : Place) (c : ℕ) → p ≡ Unmet → p ≡ Closed c → P
unmet_closed p c e f = absurd (omega (arith, ap tag (sym e ∙ f)))

pub open_closed : {P : Type 0} (p : Place) (k c : ℕ) → p ≡ Open k → p ≡ Closed c → P
open_closed p k c e f = absurd (omega (arith, ap tag (sym e ∙ f)))

pub open_same : (p : Place) (k l : ℕ) → p ≡ Open k → p ≡ Open l → k ≡ l
open_same p k l e f = ap number (sym e ∙ f)

pub closed_same : (p : Place) (c e : ℕ) → p ≡ Closed c → p ≡ Closed e → c ≡ e
closed_same p c e f g = ap number (sym f ∙ g)

pub set_at : (ps : List Place) (n : ℕ) (x : Place) → n < length ps → place_of (slice_set ps n x) n ≡ x
set_at [] n x low = absurd (omega (arith, low))
set_at (p ∷ ps) zero x low = refl
set_at (p ∷ ps) (suc n) x low = set_at ps n x (omega (arith, low))

pub set_other : (ps : List Place) (n m : ℕ) (x : Place) → (m ≡ n → ⊥) → place_of (slice_set ps n x) m ≡ place_of ps m
set_other [] n m x apart = refl
set_other (p ∷ ps) zero zero x apart = absurd (apart refl)
set_other (p ∷ ps) zero (suc m) x apart = refl
set_other (p ∷ ps) (suc n) zero x apart = refl
set_other (p ∷ ps) (suc n) (suc m) x apart = set_other ps n m x (λ e. apart (ap suc e))

pub length-slice_set : (ps : List Place) (n : ℕ) (x : Place) → length (slice_set ps n x) ≡ length ps
length-slice_set [] n x = refl
length-slice_set (p ∷ ps) zero x = refl
length-slice_set (p ∷ ps) (suc n) x = ap suc (length-slice_set ps n x)

-- what is told of a node has it within
pub inside_by : (ps : List Place) (n : ℕ) (p : Place) → place_of ps n ≡ p → (p ≡ Unmet → ⊥) → n < length ps
inside_by [] n p e apart = absurd (apart (sym e))
inside_by (q ∷ ps) zero p e apart = omega arith
inside_by (q ∷ ps) (suc n) p e apart = let r = inside_by ps n p e apart in omega (arith, r)

pub same_or : (m n : ℕ) → (m ≡ n) ⊎ (m ≡ n → ⊥)
same_or m n = elim (cases_of (nat_eq m n)) [
  | inl is ↦ inl (nat_eq_same m n is)
  | inr not ↦ inr (apart_of m n not)
]
  where
    nat_eq_same : (m n : ℕ) → nat_eq m n ≡ true → m ≡ n
    nat_eq_same m n e = eqb-true m n e

-- ---- something more behind a list

module _ {A : Type 0} (d : A) where
  pub before : (xs ys : List A) (i : ℕ) → i < length xs → get_or (xs ++ ys) i d ≡ get_or xs i d
  before [] ys i low = absurd (omega (arith, low))
  before (x ∷ xs) ys zero low = refl
  before (x ∷ xs) ys (suc i) low = before xs ys i (omega (arith, low))

  pub last_at : (xs : List A) (y : A) → get_or (xs ++ y ∷ []) (length xs) d ≡ y
  last_at [] y = refl
  last_at (x ∷ xs) y = last_at xs y

  pub in_pushed : (xs : List A) (y : A) (i : ℕ) → i < length (xs ++ y ∷ []) → (i < length xs) ⊎ (i ≡ length xs)
  in_pushed xs y i low = elim (below_or_past i (length xs)) [
    | inl old ↦ inl old
    | inr new ↦ let e = length-append xs (y ∷ []) in inr (omega (arith, new, low, e))
  ]

  pub in_joined : (xs ys : List A) (i : ℕ) → i < length (xs ++ ys) → (i < length xs) ⊎ ((j : ℕ) × (j < length ys) × (i ≡ length xs + j))
  in_joined xs ys i low = elim (below_or_past i (length xs)) [
    | inl old ↦ inl old
    | inr new ↦ let e = length-append xs ys in inr (i - length xs, omega (arith, new, low, e), omega (arith, new))
  ]

-- ---- walks

module _ (deps : ℕ → List ℕ) where
  leads_on : (n : ℕ) (a b c : ℕ) → Walk deps n a b → Leads deps b c → Leads deps a c
  leads_on zero a b c w l = subst (λ x. Leads deps x c) (sym w) l
  leads_on (suc n) a b c w l = let r = leads_on n w.0 b c w.2 l in (suc r.0, (w.0, w.1, r.1))

  pub leads_trans : (a b c : ℕ) → Leads deps a b → Leads deps b c → Leads deps a c
  leads_trans a b c w l = leads_on w.0 a b c w.1 l

  pub leads_edge : (a b : ℕ) → Contains (deps a) b → Leads deps a b
  leads_edge a b has = (1, (b, has, refl))

  pub leads_itself : (a b : ℕ) → a ≡ b → Leads deps a b
  leads_itself a b e = (0, e)
