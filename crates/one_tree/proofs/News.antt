-- What keeps one tree for an id.
use Rattle.std.proofs.Common.{◌≡◌, ℕ, ◌+◌, ◌≤◌, ◌⊎◌, inl, inr, ⊎_elim, List, [], ◌∷◌, ◌++◌, refl, sym, ap, ◌∙◌, subst, arith}
use Rattle.depsets.specs.Flat.{Among, nodes, nodes_of}
use Rattle.depsets.specs.Listed.{IsCoherent}
use Rattle.depsets.specs.Rose.{roses, label}
use Rattle.depsets.specs.declared.depset.Id.{Id}
use Rattle.depsets.specs.declared.depset.Order.{Order}
use Rattle.depsets.specs.declared.element.Element.{Element}
use Rattle.printing.specs.TreeTexts.{IsCoherentTree, IsCoherentBranch, AreCoherent, AreCoherentPairs, AreCoherentSlots, IsCoherentLeaf}
use Rattle.values.specs.Tree.{Trees, Pairs, Slots, key as key_tree, leaf, branch, list, tuple, dict, instance, none as no_trees, more as more_trees, stop, pair, end, missing, given}
use Rattle.values.specs.View.{FrozenTree, FrozenBranch}
use Rattle.values.specs.declared.cells.Cell.{Cell}
use Rattle.keys.specs.declared.key.Key.{Key}
use Rattle.leaves.specs.declared.leaf.Leaf.{Leaf}
use Rattle.leaves.specs.declared.leaf.Leaf.TheVariants as plain
use Rattle.leaves.specs.declared.leaf.Provider.{Provider}
use Rattle.values.specs.declared.value.Value.{Value}
use Rattle.values.specs.declared.value.Value.TheVariants as value
use Rattle.one_tree.specs.Found.{Set, in_leaf, in_tree, in_branch, in_trees, in_pairs, in_slots, in_values, in_heap, together}
use Rattle.one_tree.specs.Sets.{IsOneTree, IsNumbered, AreIn, next}
use Rattle.one_tree.specs.Laws.{BeginsFresh, NewDepsetKeeps, PartsKeep, DepsetsAreCoherent, TextsArePlain}
use Rattle.one_tree.proofs.Amidst.{IsClosed, among_cases, among_left, among_right, closed_together, nodes_in}

pub begins_fresh : (owner : List ℕ) (ds : List Set) → BeginsFresh owner ds
begins_fresh owner ds f = λ d h e. absurd (f d h e)

pub parts_keep : PartsKeep
parts_keep ds es i = (λ k a b p q e. k a b (i a p) (i b q) e, λ owner k d p. k d (i d p), λ owner made k d p e. k d (i d p) e)

-- ---- a new depset

module _ (ds : List Set) (owner : List ℕ) (made : ℕ) (o : Order) (es : List Element) (cs : List Set) (one : IsOneTree ds) (numbered : IsNumbered owner made ds) where
  abbrev pub new : Set
  new = next owner made o es cs

  -- no depset that is there has the new id
  apart : (d e : Set) → Among d ds → e ≡ new → (label d).id ≡ (label e).id → d ≡ e
  apart d e k is same =
      let whole : (label d).id ≡ (label new).id = same ∙ ap (λ (t : Set). (label t).id) is in
      let mine : (label d).id.owner ≡ owner = ap (λ (i : Id). i.owner) whole in
      let low = numbered d k mine in
      let high : (label d).id.serial ≡ made + 1 = ap (λ (i : Id). i.serial) whole in
      let bad : ⊥ = omega (arith, low.1, high) in
      absurd bad

  pub either_one : (d e : Set) → Among d ds ⊎ (d ≡ new) → Among e ds ⊎ (e ≡ new) → (label d).id ≡ (label e).id → d ≡ e
  either_one d e (inl k) (inl l) i = one d e k l i
  either_one d e (inl k) (inr q) i = apart d e k q i
  either_one d e (inr p) (inl l) i = sym (apart e d l p (sym i))
  either_one d e (inr p) (inr q) i = p ∙ sym q

  pub either_numbered : (d : Set) → Among d ds ⊎ (d ≡ new) → (label d).id.owner ≡ owner → (1 ≤ (label d).id.serial) × ((label d).id.serial ≤ made + 1)
  either_numbered d (inl k) own = let r = numbered d k own in (r.0, omega (arith, r.1))
  either_numbered d (inr p) own =
      let r : (label d).id.serial ≡ made + 1 = ap (λ (t : Set). (label t).id.serial) p in (omega (arith, r), omega (arith, r))

-- what is in the heap and the values with the new one is the new one, or was there
pub old_or_new : (h : List Cell) (vs : List Value) (n : Set) (ts : List Set) → nodes n ≡ ts ++ n ∷ [] → AreIn ts (together h vs) → (d : Set) → Among d (together h (value.Leaf (plain.Depset n) ∷ vs)) → Among d (together h vs) ⊎ (d ≡ n)
old_or_new h vs n ts e i d k =
    ⊎_elim (λ p. inl (among_left d (in_heap h) (in_values vs) p))
    (λ p. ⊎_elim
    (λ q. ⊎_elim (λ r. inl (i d r)) (λ r. ⊎_elim (λ s. inr (sym s)) (λ s. absurd s) r) (among_cases d ts (n ∷ []) (subst (Among d) e q)))
    (λ q. inl (among_right d (in_heap h) (in_values vs) q)) (among_cases d (nodes n) (in_values vs) p))
    (among_cases d (in_heap h) (nodes n ++ in_values vs) k)

pub new_depset_keeps : NewDepsetKeeps
new_depset_keeps owner made h vs o es ds one numbered links =
    let n = next owner made o es ds in
    let split = old_or_new h vs n (nodes_of (roses ds)) refl (nodes_in ds (together h vs) (closed_together h vs) links) in (
      (λ a b p q i. either_one (together h vs) owner made o es ds one numbered a b (split a p) (split b q) i),
      (λ d p own. either_numbered (together h vs) owner made o es ds one numbered d (split d p) own),
    )

-- ---- listings and texts

coherent_in : (es : List Set) (d : Set) → IsClosed es → IsOneTree es → Among d es → IsCoherent d
coherent_in es d c one k = λ a b p q i. one a b (c d a k p) (c d b k q) i

pub depsets_are_coherent : DepsetsAreCoherent
depsets_are_coherent h vs d one k = coherent_in (together h vs) d (closed_together h vs) one k

first : (ds es : List Set) → IsOneTree (ds ++ es) → IsOneTree ds
first ds es k = λ a b p q i. k a b (among_left a ds es p) (among_left b ds es q) i

rest : (ds es : List Set) → IsOneTree (ds ++ es) → IsOneTree es
rest ds es k = λ a b p q i. k a b (among_right a ds es p) (among_right b ds es q) i

leaf_is : (l : Leaf) → IsOneTree (in_leaf l) → IsCoherentLeaf l
leaf_is (plain.Depset d) k = k
leaf_is _ k = tt

mutual
  tree_is : (t : FrozenTree) → IsOneTree (in_tree t) → IsCoherentTree t
  tree_is (key_tree x) k = tt
  tree_is (leaf l) k = leaf_is l k
  tree_is (branch b) k = branch_is b k

  branch_is : (b : FrozenBranch) → IsOneTree (in_branch b) → IsCoherentBranch b
  branch_is (list ts) k = trees_are ts k
  branch_is (tuple ts) k = trees_are ts k
  branch_is (dict ps) k = pairs_are ps k
  branch_is (instance p ss) k = slots_are ss k

  trees_are : (ts : Trees Leaf Key Provider) → IsOneTree (in_trees ts) → AreCoherent ts
  trees_are no_trees k = tt
  trees_are (more_trees t ts) k = (tree_is t (first (in_tree t) (in_trees ts) k), trees_are ts (rest (in_tree t) (in_trees ts) k))

  pairs_are : (ps : Pairs Leaf Key Provider) → IsOneTree (in_pairs ps) → AreCoherentPairs ps
  pairs_are stop k = tt
  pairs_are (pair x t ps) k = (tree_is t (first (in_tree t) (in_pairs ps) k), pairs_are ps (rest (in_tree t) (in_pairs ps) k))

  slots_are : (ss : Slots Leaf Key Provider) → IsOneTree (in_slots ss) → AreCoherentSlots ss
  slots_are end k = tt
  slots_are (missing ss) k = slots_are ss k
  slots_are (given t ss) k = (tree_is t (first (in_tree t) (in_slots ss) k), slots_are ss (rest (in_tree t) (in_slots ss) k))

pub texts_are_plain : TextsArePlain
texts_are_plain t k = tree_is t k
