-- Frozen values as trees: keys, leaves, and branches. A branch is a list, a tuple, a dict with its
-- entries in order, or a provider instance with its fields by the places of their names in the
-- provider. Generic in leaves, keys and providers. And a code of them. (Starlark specification,
-- "Freezing a value"; that they are trees, and the code, is this project's own.)
use Rattle.std.specs.Prelude.{◌≡◌, ℕ, ◌+◌, List, [], ◌∷◌, Option, Some, None, refl}
use Rattle.std.specs.Coded.{Coded}
use Rattle.std.proofs.Common.{ap, sym, subst, arith}
use base.Stored.{Gv, gnil, gnum, gcons}

mutual
  -- a frozen value: a key, a leaf, or a value with parts
  pub data Tree (L K P : Type 0) : Type 0 where
    key : K → Tree L K P
    leaf : L → Tree L K P
    branch : Branch L K P → Tree L K P

  -- a frozen value with parts
  pub data Branch (L K P : Type 0) : Type 0 where
    list : Trees L K P → Branch L K P
    tuple : Trees L K P → Branch L K P
    dict : Pairs L K P → Branch L K P
    instance : P → Slots L K P → Branch L K P

  -- the items of a list or a tuple, in order
  pub data Trees (L K P : Type 0) : Type 0 where
    none : Trees L K P
    more : Tree L K P → Trees L K P → Trees L K P

  -- the entries of a dict, each a key and its value, in order of insertion
  pub data Pairs (L K P : Type 0) : Type 0 where
    stop : Pairs L K P
    pair : K → Tree L K P → Pairs L K P → Pairs L K P

  -- the fields of an instance by place: one that wasn't given is missing
  pub data Slots (L K P : Type 0) : Type 0 where
    end : Slots L K P
    missing : Slots L K P → Slots L K P
    given : Tree L K P → Slots L K P → Slots L K P

module _ {L K P : Type 0} where
  -- a list of trees, as the items of a tree
  abbrev pub trees : List (Tree L K P) → Trees L K P
  trees [] = none
  trees (t ∷ ts) = more t (trees ts)

  -- and back
  abbrev pub tree_list : Trees L K P → List (Tree L K P)
  tree_list none = []
  tree_list (more t ts) = t ∷ tree_list ts

  -- keys and values by place, as the entries of a tree
  abbrev pub pairs : List K → List (Tree L K P) → Pairs L K P
  pairs [] ts = stop
  pairs (k ∷ ks) [] = stop
  pairs (k ∷ ks) (t ∷ ts) = pair k t (pairs ks ts)

  -- the entries as a list
  abbrev pub pair_list : Pairs L K P → List (K × Tree L K P)
  pair_list stop = []
  pair_list (pair k t ps) = (k, t) ∷ pair_list ps

  -- fields by place, as those of a tree
  abbrev pub slots : List (Option (Tree L K P)) → Slots L K P
  slots [] = end
  slots (None ∷ os) = missing (slots os)
  slots (Some t ∷ os) = given t (slots os)

  -- and back
  abbrev pub slot_list : Slots L K P → List (Option (Tree L K P))
  slot_list end = []
  slot_list (missing ss) = None ∷ slot_list ss
  slot_list (given t ss) = Some t ∷ slot_list ss

  abbrev mutual
    -- How large a frozen value is, by which calls over its parts are seen to end: 1 for a key or a
    -- leaf, and for a value with parts 2 and what the parts have. The keys of a dict count for
    -- nothing.
    pub weight : Tree L K P → ℕ
    weight (key x) = 1
    weight (leaf x) = 1
    weight (branch b) = branch_weight b + 1

    -- the same of a value with parts by itself: 1 and what the parts have
    pub branch_weight : Branch L K P → ℕ
    branch_weight (list ts) = weights ts + 1
    branch_weight (tuple ts) = weights ts + 1
    branch_weight (dict ps) = pair_weights ps + 1
    branch_weight (instance p ss) = slot_weights ss + 1

    -- what the items have together
    pub weights : Trees L K P → ℕ
    weights none = 0
    weights (more t ts) = weight t + weights ts

    -- what the values of a dict have together
    pub pair_weights : Pairs L K P → ℕ
    pair_weights stop = 0
    pair_weights (pair k t ps) = weight t + pair_weights ps

    -- what the fields that were given have together
    pub slot_weights : Slots L K P → ℕ
    slot_weights end = 0
    slot_weights (missing ss) = slot_weights ss
    slot_weights (given t ss) = weight t + slot_weights ss

-- the first part of a stored pair, and nothing of what is no pair
abbrev head : Gv → Gv
head gnil = gnil
head (gnum n) = gnil
head (gcons a b) = a

-- the second part of a stored pair, and nothing of what is no pair
abbrev tail : Gv → Gv
tail gnil = gnil
tail (gnum n) = gnil
tail (gcons a b) = b

-- what is stored is a pair
abbrev IsCons : Gv → Type 0
IsCons gnil = ⊥
IsCons (gnum n) = ⊥
IsCons (gcons a b) = Unit {0}

-- the number that stands first in a stored pair, which tells the kind of what is stored; 0 where
-- none stands there
abbrev tag : Gv → ℕ
tag gnil = 0
tag (gnum n) = 0
tag (gcons gnil b) = 0
tag (gcons (gnum n) b) = n
tag (gcons (gcons a c) b) = 0

module _ {L K P : Type 0} (l : Coded L) (k : Coded K) (p : Coded P) where
  mutual
    -- how a frozen value is stored: a number for its kind, and the code of what it has
    pub tree_gv : Tree L K P → Gv
    tree_gv (key x) = gcons (gnum 0) (k.code x)
    tree_gv (leaf x) = gcons (gnum 1) (l.code x)
    tree_gv (branch b) = gcons (gnum 2) (branch_gv b)

    -- how a list, a tuple, a dict or an instance is stored
    pub branch_gv : Branch L K P → Gv
    branch_gv (list ts) = gcons (gnum 1) (trees_gv ts)
    branch_gv (tuple ts) = gcons (gnum 2) (trees_gv ts)
    branch_gv (dict ps) = gcons (gnum 3) (pairs_gv ps)
    branch_gv (instance x ss) = gcons (gnum 4) (gcons (p.code x) (slots_gv ss))

    -- how items are stored
    pub trees_gv : Trees L K P → Gv
    trees_gv none = gnil
    trees_gv (more t ts) = gcons (tree_gv t) (trees_gv ts)

    -- how the entries of a dict are stored
    pub pairs_gv : Pairs L K P → Gv
    pairs_gv stop = gnil
    pairs_gv (pair x t ps) = gcons (k.code x) (gcons (tree_gv t) (pairs_gv ps))

    -- how the fields of an instance are stored
    pub slots_gv : Slots L K P → Gv
    slots_gv end = gcons (gnum 0) gnil
    slots_gv (missing ss) = gcons (gnum 1) (slots_gv ss)
    slots_gv (given t ss) = gcons (gnum 2) (gcons (tree_gv t) (slots_gv ss))

  mutual
    unfolding tree_gv branch_gv trees_gv pairs_gv slots_gv

    -- two frozen values that are stored alike are the same
    pub tree_inj : (t u : Tree L K P) → tree_gv t ≡ tree_gv u → t ≡ u
    tree_inj (key x) (key y) e = ap key (k.inj x y (ap tail e))
    tree_inj (leaf x) (leaf y) e = ap leaf (l.inj x y (ap tail e))
    tree_inj (branch b) (branch c) e = ap branch (branch_inj b c (ap tail e))
    tree_inj _ _ e = let h = ap tag e in absurd (omega (arith, h))

    -- the same of values with parts
    pub branch_inj : (b c : Branch L K P) → branch_gv b ≡ branch_gv c → b ≡ c
    branch_inj (list x) (list y) e = ap list (trees_inj x y (ap tail e))
    branch_inj (tuple x) (tuple y) e = ap tuple (trees_inj x y (ap tail e))
    branch_inj (dict x) (dict y) e = ap dict (pairs_inj x y (ap tail e))
    branch_inj (instance x ss) (instance y rs) e =
        λ i. instance (p.inj x y (ap (λ g. head (tail g)) e) i)
        (slots_inj ss rs (ap (λ g. tail (tail g)) e) i)
    branch_inj _ _ e = let h = ap tag e in absurd (omega (arith, h))

    -- the same of items
    pub trees_inj : (ts us : Trees L K P) → trees_gv ts ≡ trees_gv us → ts ≡ us
    trees_inj none none e = refl
    trees_inj none (more u us) e = absurd (subst IsCons (sym e) tt)
    trees_inj (more t ts) none e = absurd (subst IsCons e tt)
    trees_inj (more t ts) (more u us) e =
        λ i. more (tree_inj t u (ap head e) i) (trees_inj ts us (ap tail e) i)

    -- the same of entries
    pub pairs_inj : (ts us : Pairs L K P) → pairs_gv ts ≡ pairs_gv us → ts ≡ us
    pairs_inj stop stop e = refl
    pairs_inj stop (pair y u us) e = absurd (subst IsCons (sym e) tt)
    pairs_inj (pair x t ts) stop e = absurd (subst IsCons e tt)
    pairs_inj (pair x t ts) (pair y u us) e =
        λ i. pair (k.inj x y (ap head e) i) (tree_inj t u (ap (λ g. head (tail g)) e) i)
        (pairs_inj ts us (ap (λ g. tail (tail g)) e) i)

    -- the same of fields
    pub slots_inj : (ss rs : Slots L K P) → slots_gv ss ≡ slots_gv rs → ss ≡ rs
    slots_inj end end e = refl
    slots_inj (missing ss) (missing rs) e = ap missing (slots_inj ss rs (ap tail e))
    slots_inj (given t ss) (given u rs) e =
        λ i. given (tree_inj t u (ap (λ g. head (tail g)) e) i)
        (slots_inj ss rs (ap (λ g. tail (tail g)) e) i)
    slots_inj _ _ e = let h = ap tag e in absurd (omega (arith, h))

  -- the code of frozen values, where leaves, keys and providers have codes
  abbrev pub coded_tree : Coded (Tree L K P)
  coded_tree = record { code = tree_gv; inj = tree_inj }

  -- the code of frozen values with parts
  abbrev pub coded_branch : Coded (Branch L K P)
  coded_branch = record { code = branch_gv; inj = branch_inj }
