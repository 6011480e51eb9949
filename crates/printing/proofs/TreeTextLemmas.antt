-- The parts of a frozen value, one after the other: their texts, and the weight of an item. And of a coherent
-- value, that its text is that of the plain meaning.
use Rattle.std.specs.Prelude.{codes}
use Rattle.std.proofs.Common.{◌≡◌, ◌⊎◌, cond, is_ok, OnOk, Result, Ok, Err, inl, inr, ℕ, zero, suc, ◌+◌, ◌≤◌, List, [], ◌∷◌, ◌++◌, length, drop, slice_get, Option, Some, refl, ap, ◌∙◌, arith, drop_of_length-le}
use Rattle.depsets.proofs.Turns.{drop_at}
use Rattle.depsets.proofs.Walked.{walked-flat}
use Rattle.depsets.specs.Rose.{Rose, label}
use Rattle.depsets.specs.Own.{Own}
use Rattle.depsets.specs.Listed.{walked, flat}
use Rattle.depsets.specs.declared.element.Element.{Element}
use Rattle.values.specs.Tree.{Trees, Pairs, Slots, key as key_tree, leaf, branch, list, tuple, dict, instance, none, more, stop, pair, end, missing, given, trees, pairs, slots, weight, weights}
use Rattle.values.specs.View.{FrozenTree, FrozenBranch}
use Rattle.leaf_texts.specs.Texts.{separator, joined_from, joined, tuple_end, entry_head, field_head, provider_text, leaf_text, depset_text}
use Rattle.printing.specs.TreeTexts.{how_many, text_by, branch_text_by, texts_by, pair_texts_by, field_texts_by, text_of, IsCoherentLeaf, IsCoherentTree, IsCoherentBranch, AreCoherent, AreCoherentPairs, AreCoherentSlots}
use Rattle.leaves.specs.declared.leaf.Leaf.{Leaf}
use Rattle.leaves.specs.declared.leaf.Leaf.TheVariants as plain
use Rattle.keys.specs.declared.key.Key.{Key}
use Rattle.leaves.specs.declared.leaf.Provider.{Provider}
use Rattle.leaf_texts.proofs.TextLemmas.{parts-next, parts-end}

pub weight_at : (ts : List FrozenTree) (i : ℕ) (t : FrozenTree) → slice_get ts i ≡ Some t → weight t ≤ weights (trees ts)
weight_at [] i t p = absurd (cc)
weight_at (u ∷ us) zero t p = let q : u ≡ t = cc in let e = ap weight q in omega arith
weight_at (u ∷ us) (suc i) t p = let e = weight_at us i t p in omega arith

pub how_many-trees : (ts : List FrozenTree) → how_many (trees ts) ≡ length ts
how_many-trees [] = refl
how_many-trees (t ∷ ts) = omega (arith, how_many-trees ts)

-- of what is appended last, what a refusal leaves doesn't count
pub appended_last : {T E : Type 0} (r : Result T E) (new longer old whole : List ℕ) → longer ≡ whole → new ≡ cond (is_ok r) longer old → OnOk r (new ≡ whole)
appended_last (Ok x) new longer old whole e h = h ∙ e
appended_last (Err x) new longer old whole e h = tt

module _ (listing : Rose Own → List Element) (n : ℕ) (out : List ℕ) where
  pub trees-next : (ts : List FrozenTree) (t : FrozenTree) (then : List ℕ) → slice_get ts n ≡ Some t → then ≡ out ++ (separator n ++ text_by listing t)
      → then ++ joined_from (n + 1) (texts_by listing (trees (drop (n + 1) ts))) ≡ out ++ joined_from n (texts_by listing (trees (drop n ts)))
  trees-next ts t then p e =
      parts-next n out (text_by listing t) (texts_by listing (trees (drop n ts))) (texts_by listing (trees (drop (n + 1) ts))) then
      (ap (λ l. texts_by listing (trees l)) (drop_at ts n t p)) e

  pub trees-end : (ts : List FrozenTree) → length ts ≤ n → out ++ joined_from n (texts_by listing (trees (drop n ts))) ≡ out
  trees-end ts l = parts-end n out (texts_by listing (trees (drop n ts))) (ap (λ l. texts_by listing (trees l)) (drop_of_length-le ts l))

  pub pairs-next : (head : Key → List ℕ) (ks ls : List Key) (ts us : List FrozenTree) (k : Key) (t : FrozenTree) (then : List ℕ) → ks ≡ k ∷ ls → ts ≡ t ∷ us
      → then ≡ out ++ (separator n ++ (head k ++ text_by listing t))
      → then ++ joined_from (n + 1) (pair_texts_by listing head (pairs ls us)) ≡ out ++ joined_from n (pair_texts_by listing head (pairs ks ts))
  pairs-next head ks ls ts us k t then p q e =
      parts-next n out (head k ++ text_by listing t) (pair_texts_by listing head (pairs ks ts)) (pair_texts_by listing head (pairs ls us)) then
      (λ j. pair_texts_by listing head (pairs (p j) (q j))) e

none_paired : (listing : Rose Own → List Element) (head : Key → List ℕ) (ks : List Key) → pair_texts_by listing head (pairs ks []) ≡ []
none_paired listing head [] = refl
none_paired listing head (k ∷ ks) = refl

-- no key is left, or no value
pub pairs-end : (listing : Rose Own → List Element) (n : ℕ) (out : List ℕ) (head : Key → List ℕ) (ks : List Key) (ts : List FrozenTree) → (ks ≡ []) ⊎ (ts ≡ [])
    → out ++ joined_from n (pair_texts_by listing head (pairs ks ts)) ≡ out
pairs-end listing n out head ks ts (inl e) =
    parts-end n out (pair_texts_by listing head (pairs ks ts)) (ap (λ l. pair_texts_by listing head (pairs l ts)) e)
pairs-end listing n out head ks ts (inr e) =
    parts-end n out (pair_texts_by listing head (pairs ks ts)) (ap (λ l. pair_texts_by listing head (pairs ks l)) e ∙ none_paired listing head ks)

none_given : (listing : Rose Own → List Element) (names : List (List ℕ)) → field_texts_by listing names end ≡ []
none_given listing [] = refl
none_given listing (n ∷ ns) = refl

-- no name is left, or no field
pub fields-end : (listing : Rose Own → List Element) (names : List (List ℕ)) (os : List (Option FrozenTree)) → (names ≡ []) ⊎ (os ≡ []) → field_texts_by listing names (slots os) ≡ []
fields-end listing names os (inl e) = ap (λ l. field_texts_by listing l (slots os)) e
fields-end listing names os (inr e) = ap (λ l. field_texts_by listing names (slots l)) e ∙ none_given listing names

leaf-coherent : (l : Leaf) → IsCoherentLeaf l → leaf_text walked l ≡ leaf_text flat l
leaf-coherent plain.None h = refl
leaf-coherent (plain.Label x) h = refl
leaf-coherent (plain.File x) h = refl
leaf-coherent (plain.Depset d) h = ap (depset_text (label d).order) (walked-flat d h)
leaf-coherent (plain.Function x) h = refl
leaf-coherent (plain.BuiltIn x) h = refl
leaf-coherent (plain.Provider x) h = refl
leaf-coherent (plain.Rule x) h = refl
leaf-coherent (plain.Attribute x) h = refl
leaf-coherent (plain.Target x) h = refl
leaf-coherent (plain.Object x) h = refl

mutual
  pub text-coherent : (t : FrozenTree) → IsCoherentTree t → text_by walked t ≡ text_of t
  text-coherent (key_tree k) h = refl
  text-coherent (leaf l) h = leaf-coherent l h
  text-coherent (branch b) h = branch-coherent b h

  branch-coherent : (b : FrozenBranch) → IsCoherentBranch b → branch_text_by walked b ≡ branch_text_by flat b
  branch-coherent (list ts) h = ap (λ l. codes "[" ++ joined l ++ codes "]") (texts-coherent ts h)
  branch-coherent (tuple ts) h = ap (λ l. codes "(" ++ joined l ++ tuple_end (how_many ts)) (texts-coherent ts h)
  branch-coherent (dict ps) h = ap (λ l. codes "{" ++ joined l ++ codes "}") (pairs-coherent entry_head ps h)
  branch-coherent (instance p ss) h = ap (λ l. provider_text p.name ++ codes "(" ++ joined l ++ codes ")") (slots-coherent p.fields ss h)

  texts-coherent : (ts : Trees Leaf Key Provider) → AreCoherent ts → texts_by walked ts ≡ texts_by flat ts
  texts-coherent none h = refl
  texts-coherent (more t ts) h = λ j. text-coherent t h.0 j ∷ texts-coherent ts h.1 j

  pairs-coherent : (head : Key → List ℕ) (ps : Pairs Leaf Key Provider) → AreCoherentPairs ps → pair_texts_by walked head ps ≡ pair_texts_by flat head ps
  pairs-coherent head stop h = refl
  pairs-coherent head (pair k t ps) h = λ j. (head k ++ text-coherent t h.0 j) ∷ pairs-coherent head ps h.1 j

  slots-coherent : (ns : List (List ℕ)) (ss : Slots Leaf Key Provider) → AreCoherentSlots ss → field_texts_by walked ns ss ≡ field_texts_by flat ns ss
  slots-coherent [] end h = refl
  slots-coherent [] (missing ss) h = refl
  slots-coherent [] (given t ss) h = refl
  slots-coherent (n ∷ ns) end h = refl
  slots-coherent (n ∷ ns) (missing ss) h = slots-coherent ns ss h
  slots-coherent (n ∷ ns) (given t ss) h = λ j. (field_head n ++ text-coherent t h.0 j) ∷ slots-coherent ns ss h.1 j
