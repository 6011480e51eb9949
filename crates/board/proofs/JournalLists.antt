-- Lists of journals, where one view changes.
use Rattle.std.proofs.Common.{◌≡◌, inl, inr, ℕ, zero, suc, ◌+◌, ◌≤◌, List, [], ◌∷◌, ◌++◌, length, set, get_or, sym, refl, ap, subst, arith}
use mathlib.Core.Option.{some, some-injective, some-ne-none}
use lib.ListN.{get_elem?}
use Rattle.board.specs.declared.journal.Journal.{Journal}
use Rattle.board.specs.Journal.{Among, tally, Each}
use Rattle.board.specs.Rule.{all_journals}

pub append_none : {X : Type 0} (l : List X) → l ++ [] ≡ l
append_none [] = refl
append_none (x ∷ xs) = λ i. x ∷ append_none xs i

pub tally-append : (f : Journal → ℕ) (a b : List Journal) → tally f (a ++ b) ≡ tally f a + tally f b
tally-append f [] b = omega arith
tally-append f (h ∷ hs) b = let r = tally-append f hs b in omega arith

pub tally_set : (f : Journal → ℕ) (vs : List (List Journal)) (id : ℕ) (v w : List Journal) → get_elem? vs id ≡ some v → tally f (all_journals (set vs id w)) + tally f v ≡ tally f (all_journals vs) + tally f w
tally_set f [] id v w e = absurd (some-ne-none v (sym e))
tally_set f (x ∷ xs) zero v w e =
    let is : tally f x ≡ tally f v = ap (tally f) (some-injective x v e) in
    let a = tally-append f w (all_journals xs) in let b = tally-append f x (all_journals xs) in omega arith
tally_set f (x ∷ xs) (suc id) v w e =
    let r = tally_set f xs id v w e in
    let a = tally-append f x (all_journals (set xs id w)) in let b = tally-append f x (all_journals xs) in omega arith

pub tally_length : (hs : List Journal) → tally (λ _. 1) hs ≡ length hs
tally_length [] = refl
tally_length (h ∷ hs) = let r = tally_length hs in omega arith

module _ (P : Journal → Type 0) where
  pub each-append : (a b : List Journal) → Each P a → Each P b → Each P (a ++ b)
  each-append [] b p q = q
  each-append (h ∷ hs) b p q = (p.0, each-append hs b p.1 q)

  pub each_left : (a b : List Journal) → Each P (a ++ b) → Each P a
  each_left [] b p = tt
  each_left (h ∷ hs) b p = (p.0, each_left hs b p.1)

  pub each_right : (a b : List Journal) → Each P (a ++ b) → Each P b
  each_right [] b p = p
  each_right (h ∷ hs) b p = each_right hs b p.1

  pub each_at : (vs : List (List Journal)) (id : ℕ) (v : List Journal) → get_elem? vs id ≡ some v → Each P (all_journals vs) → Each P v
  each_at [] id v e p = absurd (some-ne-none v (sym e))
  each_at (x ∷ xs) zero v e p = subst (Each P) (some-injective x v e) (each_left x (all_journals xs) p)
  each_at (x ∷ xs) (suc id) v e p = each_at xs id v e (each_right x (all_journals xs) p)

  pub each_set : (vs : List (List Journal)) (id : ℕ) (w : List Journal) → Each P (all_journals vs) → Each P w → Each P (all_journals (set vs id w))
  each_set [] id w p q = p
  each_set (x ∷ xs) zero w p q = each-append w (all_journals xs) q (each_right x (all_journals xs) p)
  each_set (x ∷ xs) (suc id) w p q = each-append x (all_journals (set xs id w)) (each_left x (all_journals xs) p) (each_set xs id w (each_right x (all_journals xs) p) q)

pub each_on : (P Q : Journal → Type 0) (hs : List Journal) → ((h : Journal) → P h → Q h) → Each P hs → Each Q hs
each_on P Q [] f p = tt
each_on P Q (h ∷ hs) f p = (f h p.0, each_on P Q hs f p.1)

-- what one journal adds is part of the whole
pub tally_at : (f : Journal → ℕ) (vs : List (List Journal)) (id : ℕ) (h : Journal) → get_elem? vs id ≡ some (h ∷ []) → f h ≤ tally f (all_journals vs)
tally_at f vs id h e = let r = tally_set f vs id (h ∷ []) [] e in omega arith

-- the other journals, where one view is one journal
abbrev pub others : List (List Journal) → ℕ → List Journal
others vs id = all_journals (set vs id [])

-- where g of a journal is 0, so is f. So where g of all is 0, f of all is
pub quiet : (f g : Journal → ℕ) (hs : List Journal) → Each (λ h. g h ≡ 0 → f h ≡ 0) hs → tally g hs ≡ 0 → tally f hs ≡ 0
quiet f g [] p z = refl
quiet f g (h ∷ hs) p z = let a : f h ≡ 0 = p.0 (omega arith) in let b : tally f hs ≡ 0 = quiet f g hs p.1 (omega arith) in omega arith

pub tally_snoc : (f : Journal → ℕ) (vs : List (List Journal)) (r : List Journal) → tally f (all_journals (vs ++ r ∷ [])) ≡ tally f (all_journals vs) + tally f r
tally_snoc f [] r = let a = tally-append f r [] in omega arith
tally_snoc f (v ∷ vs) r = let a = tally-append f v (all_journals (vs ++ r ∷ [])) in let b = tally-append f v (all_journals vs) in let c = tally_snoc f vs r in omega arith

pub each_snoc : (P : Journal → Type 0) (vs : List (List Journal)) (r : List Journal) → Each P (all_journals vs) → Each P r → Each P (all_journals (vs ++ r ∷ []))
each_snoc P [] r p q = each-append P r [] q tt
each_snoc P (v ∷ vs) r p q = each-append P v (all_journals (vs ++ r ∷ [])) (each_left P v (all_journals vs) p) (each_snoc P vs r (each_right P v (all_journals vs) p) q)

pub tally_none : (f : Journal → ℕ) (hs : List Journal) → tally (λ _. 1) hs ≡ 0 → tally f hs ≡ 0
tally_none f [] e = refl
tally_none f (h ∷ hs) e = absurd (omega arith)

pub index_at : (l : List ℕ) (i a : ℕ) → get_elem? l i ≡ some a → get_or l i 0 ≡ a
index_at [] i a e = absurd (some-ne-none a (sym e))
index_at (x ∷ xs) zero a e = some-injective x a e
index_at (x ∷ xs) (suc i) a e = index_at xs i a e

among_left : (h : Journal) (a b : List Journal) → Among h a → Among h (a ++ b)
among_left h [] b p = absurd p
among_left h (x ∷ xs) b (inl e) = inl e
among_left h (x ∷ xs) b (inr p) = inr (among_left h xs b p)

among_right : (h : Journal) (a b : List Journal) → Among h b → Among h (a ++ b)
among_right h [] b p = p
among_right h (x ∷ xs) b p = inr (among_right h xs b p)

-- the journal of a view of one is among all
pub among_at : (vs : List (List Journal)) (id : ℕ) (h : Journal) → get_elem? vs id ≡ some (h ∷ []) → Among h (all_journals vs)
among_at [] id h e = absurd (some-ne-none (h ∷ []) (sym e))
among_at (x ∷ xs) zero h e = among_left h x (all_journals xs) (subst (Among h) (sym (some-injective x (h ∷ []) e)) (inl refl))
among_at (x ∷ xs) (suc id) h e = among_right h x (all_journals xs) (among_at xs id h e)
