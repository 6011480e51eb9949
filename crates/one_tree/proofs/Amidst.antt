-- What is among lists, and that all below a depset is found where the depset is.
use Rattle.std.proofs.Common.{◌≡◌, ◌⊎◌, inl, inr, ⊎_elim, List, [], ◌∷◌, ◌++◌, Option, Some, None, subst}
use Rattle.depsets.specs.Flat.{Among, nodes, nodes_of}
use Rattle.depsets.specs.Own.{Own}
use Rattle.depsets.specs.Rose.{Roses, node, none, more, roses}
use Rattle.values.specs.Tree.{Trees, Pairs, Slots, key as key_tree, leaf, branch, list, tuple, dict, instance, none as no_trees, more as more_trees, stop, pair, end, missing, given}
use Rattle.values.specs.View.{FrozenTree, FrozenBranch}
use Rattle.values.specs.declared.cells.Cell.{Cell}
use Rattle.values.specs.declared.cells.Cell.TheVariants as cell
use Rattle.keys.specs.declared.key.Key.{Key}
use Rattle.leaves.specs.declared.leaf.Leaf.{Leaf}
use Rattle.leaves.specs.declared.leaf.Leaf.TheVariants as plain
use Rattle.leaves.specs.declared.leaf.Provider.{Provider}
use Rattle.values.specs.declared.value.Value.{Value}
use Rattle.values.specs.declared.value.Value.TheVariants as value
use Rattle.one_tree.specs.Found.{Set, in_leaf, in_tree, in_branch, in_trees, in_pairs, in_slots, in_value, in_values, in_entries, in_fields, in_cell, in_heap, together}
use Rattle.one_tree.specs.Sets.{AreIn}

pub among_cases : {X : Type 0} (x : X) (xs ys : List X) → Among x (xs ++ ys) → Among x xs ⊎ Among x ys
among_cases x [] ys h = inr h
among_cases x (z ∷ zs) ys (inl e) = inl (inl e)
among_cases x (z ∷ zs) ys (inr h) = ⊎_elim (λ p. inl (inr p)) inr (among_cases x zs ys h)

pub among_left : {X : Type 0} (x : X) (xs ys : List X) → Among x xs → Among x (xs ++ ys)
among_left x [] ys h = absurd h
among_left x (z ∷ zs) ys (inl e) = inl e
among_left x (z ∷ zs) ys (inr h) = inr (among_left x zs ys h)

pub among_right : {X : Type 0} (x : X) (xs ys : List X) → Among x ys → Among x (xs ++ ys)
among_right x [] ys h = h
among_right x (z ∷ zs) ys h = inr (among_right x zs ys h)

alone : {X : Type 0} (P : X → Type 0) (x y : X) → P y → Among x (y ∷ []) → P x
alone P x y p (inl e) = subst P e p
alone P x y p (inr h) = absurd h

-- ---- all below a depset of the list is in the list

abbrev pub IsClosed : List Set → Type 0
IsClosed ds = (d e : Set) → Among d ds → Among e (nodes d) → Among e ds

mutual
  below : (c d e : Set) → Among d (nodes c) → Among e (nodes d) → Among e (nodes c)
  below (node x ts) d e h k =
      ⊎_elim (λ p. among_left e (nodes_of ts) (node x ts ∷ []) (belows ts d e p k))
      (λ p. alone (λ b. Among e (nodes b) → Among e (nodes (node x ts))) d (node x ts) (λ z. z) p k)
      (among_cases d (nodes_of ts) (node x ts ∷ []) h)

  belows : (ts : Roses Own) (d e : Set) → Among d (nodes_of ts) → Among e (nodes d) → Among e (nodes_of ts)
  belows none d e h k = absurd h
  belows (more t ts) d e h k =
      ⊎_elim (λ p. among_left e (nodes t) (nodes_of ts) (below t d e p k)) (λ p. among_right e (nodes t) (nodes_of ts) (belows ts d e p k))
      (among_cases d (nodes t) (nodes_of ts) h)

pub closed_nodes : (c : Set) → IsClosed (nodes c)
closed_nodes c d e h k = below c d e h k

closed_none : IsClosed []
closed_none d e h k = absurd h

pub closed_both : (ds es : List Set) → IsClosed ds → IsClosed es → IsClosed (ds ++ es)
closed_both ds es f g d e h k =
    ⊎_elim (λ p. among_left e ds es (f d e p k)) (λ p. among_right e ds es (g d e p k)) (among_cases d ds es h)

closed_leaf : (l : Leaf) → IsClosed (in_leaf l)
closed_leaf (plain.Depset d) = closed_nodes d
closed_leaf _ = closed_none

mutual
  pub closed_tree : (t : FrozenTree) → IsClosed (in_tree t)
  closed_tree (key_tree k) = closed_none
  closed_tree (leaf l) = closed_leaf l
  closed_tree (branch b) = closed_branch b

  closed_branch : (b : FrozenBranch) → IsClosed (in_branch b)
  closed_branch (list ts) = closed_trees ts
  closed_branch (tuple ts) = closed_trees ts
  closed_branch (dict ps) = closed_pairs ps
  closed_branch (instance p ss) = closed_slots ss

  closed_trees : (ts : Trees Leaf Key Provider) → IsClosed (in_trees ts)
  closed_trees no_trees = closed_none
  closed_trees (more_trees t ts) = closed_both (in_tree t) (in_trees ts) (closed_tree t) (closed_trees ts)

  closed_pairs : (ps : Pairs Leaf Key Provider) → IsClosed (in_pairs ps)
  closed_pairs stop = closed_none
  closed_pairs (pair k t ps) = closed_both (in_tree t) (in_pairs ps) (closed_tree t) (closed_pairs ps)

  closed_slots : (ss : Slots Leaf Key Provider) → IsClosed (in_slots ss)
  closed_slots end = closed_none
  closed_slots (missing ss) = closed_slots ss
  closed_slots (given t ss) = closed_both (in_tree t) (in_slots ss) (closed_tree t) (closed_slots ss)

closed_value : (v : Value) → IsClosed (in_value v)
closed_value (value.Key k) = closed_none
closed_value (value.Leaf l) = closed_leaf l
closed_value (value.Cell n) = closed_none
closed_value (value.Frozen b) = closed_branch b

closed_values : (vs : List Value) → IsClosed (in_values vs)
closed_values [] = closed_none
closed_values (v ∷ vs) = closed_both (in_value v) (in_values vs) (closed_value v) (closed_values vs)

closed_entries : (es : List (Key × Value)) → IsClosed (in_entries es)
closed_entries [] = closed_none
closed_entries (e ∷ es) = closed_both (in_value e.1) (in_entries es) (closed_value e.1) (closed_entries es)

closed_fields : (fs : List (Option Value)) → IsClosed (in_fields fs)
closed_fields [] = closed_none
closed_fields (None ∷ fs) = closed_fields fs
closed_fields (Some v ∷ fs) = closed_both (in_value v) (in_fields fs) (closed_value v) (closed_fields fs)

closed_cell : (c : Cell) → IsClosed (in_cell c)
closed_cell (cell.List vs n) = closed_values vs
closed_cell (cell.Tuple vs) = closed_values vs
closed_cell (cell.Dict es n) = closed_entries es
closed_cell (cell.Instance p fs) = closed_fields fs

closed_heap : (cs : List Cell) → IsClosed (in_heap cs)
closed_heap [] = closed_none
closed_heap (c ∷ cs) = closed_both (in_cell c) (in_heap cs) (closed_cell c) (closed_heap cs)

pub closed_together : (h : List Cell) (vs : List Value) → IsClosed (together h vs)
closed_together h vs = closed_both (in_heap h) (in_values vs) (closed_heap h) (closed_values vs)

-- ---- the nodes of children that are there are there

pub nodes_in : (ds es : List Set) → IsClosed es → AreIn ds es → AreIn (nodes_of (roses ds)) es
nodes_in [] es c h d k = absurd k
nodes_in (x ∷ ds) es c h d k =
    ⊎_elim (λ p. c x d (h x (inl refl_of)) p) (λ p. nodes_in ds es c (λ e q. h e (inr q)) d p) (among_cases d (nodes x) (nodes_of (roses ds)) k)
  where
    refl_of : x ≡ x
    refl_of = λ i. x
