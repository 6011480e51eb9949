-- Trees whose nodes have labels, and a code of them. (This project's own.)
use Rattle.std.specs.Prelude.{◌≡◌, ℕ, zero, suc, ◌+◌, ◌<◌, ◌≤◌, max, List, [], ◌∷◌, slice_get, Some}
use Rattle.std.specs.Prelude.{refl}
use Rattle.std.specs.Coded.{Coded}
use Rattle.std.proofs.Common.{ap, sym, subst, arith}
use base.Stored.{Gv, gnil, gnum, gcons}
use denote.Param.Weighed.{most}

mutual
  -- A tree: a label, and the trees directly below. Of a depset the label is what stands at it
  -- itself.
  pub data Rose (X : Type 0) : Type 0 where
    node : X → Roses X → Rose X

  -- the trees directly below a node, from left to right
  pub data Roses (X : Type 0) : Type 0 where
    none : Roses X
    more : Rose X → Roses X → Roses X

module _ {X : Type 0} where
  -- a list of trees, as the children of a node
  abbrev pub roses : List (Rose X) → Roses X
  roses [] = none
  roses (t ∷ ts) = more t (roses ts)

  -- and back
  abbrev pub rose_list : Roses X → List (Rose X)
  rose_list none = []
  rose_list (more t ts) = t ∷ rose_list ts

  -- the label of a tree's root
  abbrev pub label : Rose X → X
  label (node x ts) = x

  -- the trees directly below the root
  abbrev pub children : Rose X → List (Rose X)
  children (node x ts) = rose_list ts

  abbrev mutual
    -- how many nodes a tree has
    pub weight : Rose X → ℕ
    weight (node x ts) = weights ts + 1

    -- how many nodes these trees have together
    pub weights : Roses X → ℕ
    weights none = 0
    weights (more t ts) = weight t + weights ts

  abbrev mutual
    -- how many levels a tree has
    pub depth : Rose X → ℕ
    depth (node x ts) = depths ts + 1

    -- the most levels that one of these has, 0 where there is none
    pub depths : Roses X → ℕ
    depths none = 0
    depths (more t ts) = max (depth t) (depths ts)

  -- None of the trees has more nodes than all have together, so a child is smaller than its parent.
  pub most_le-weights : (ts : List (Rose X)) → most (λ t. weight t + 1) ts ≤ weights (roses ts) + 1
  most_le-weights [] = omega arith
  most_le-weights (t ∷ ts) = omega (arith, most_le-weights ts)

-- the first part of a pair in stored data, and nothing of other data
abbrev head : Gv → Gv
head gnil = gnil
head (gnum n) = gnil
head (gcons a b) = a

-- the second part
abbrev tail : Gv → Gv
tail gnil = gnil
tail (gnum n) = gnil
tail (gcons a b) = b

-- the data is a pair
abbrev IsCons : Gv → Type 0
IsCons gnil = ⊥
IsCons (gnum n) = ⊥
IsCons (gcons a b) = Unit {0}

module _ {X : Type 0} (c : Coded X) where
  mutual
    -- a tree as stored data: the code of its label, and those of the trees below
    pub rose_gv : Rose X → Gv
    rose_gv (node x ts) = gcons (c.code x) (roses_gv ts)

    -- these trees as stored data, a list
    pub roses_gv : Roses X → Gv
    roses_gv none = gnil
    roses_gv (more t ts) = gcons (rose_gv t) (roses_gv ts)

  mutual
    unfolding rose_gv roses_gv

    -- Trees that are stored alike are equal.
    pub rose_inj : (t u : Rose X) → rose_gv t ≡ rose_gv u → t ≡ u
    rose_inj (node x ts) (node y us) p =
        λ i. node (c.inj x y (ap head p) i) (roses_inj ts us (ap tail p) i)

    -- Lists of trees that are stored alike are equal.
    pub roses_inj : (ts us : Roses X) → roses_gv ts ≡ roses_gv us → ts ≡ us
    roses_inj none none p = refl
    roses_inj none (more u us) p = absurd (subst IsCons (sym p) tt)
    roses_inj (more t ts) none p = absurd (subst IsCons p tt)
    roses_inj (more t ts) (more u us) p =
        λ i. more (rose_inj t u (ap head p) i) (roses_inj ts us (ap tail p) i)

  -- the code of trees, where labels have one: it tells each two trees apart
  abbrev pub coded_rose : Coded (Rose X)
  coded_rose = record { code = rose_gv; inj = rose_inj }

-- Children put in a node and listed again are the same children.
pub rose_list-roses : {X : Type 0} (ts : List (Rose X)) → rose_list (roses ts) ≡ ts
rose_list-roses [] = refl
rose_list-roses (t ∷ ts) = ap (λ l. t ∷ l) (rose_list-roses ts)

-- Children listed and put in a node again are the same children.
pub roses-rose_list : {X : Type 0} (ts : Roses X) → roses (rose_list ts) ≡ ts
roses-rose_list none = refl
roses-rose_list (more t ts) = ap (λ l. more t l) (roses-rose_list ts)

-- A child has fewer nodes than its parent, so that going down a depset ends.
pub child_lighter : {X : Type 0} (t : Rose X) (i : ℕ) (c : Rose X)
    → slice_get (children t) i ≡ Some c → weight c < weight t
child_lighter {X} (node x ts) i c h = let e = at ts i h in omega arith
  where
    at : (us : Roses X) (j : ℕ) → slice_get (rose_list us) j ≡ Some c → weight c ≤ weights us
    at none j e = absurd (cc)
    at (more u us) zero e = let p : u ≡ c = cc in let q = ap weight p in omega arith
    at (more u us) (suc j) e = let q : weight c ≤ weights us = at us j e in omega arith
