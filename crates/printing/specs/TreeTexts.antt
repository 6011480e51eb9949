-- The text of a frozen value, as a report prints it. Lists, tuples and dicts are as in Starlark's
-- specification ("repr"); the text of an instance of a provider is this project's own.
use Rattle.std.specs.Prelude.{ℕ, ◌+◌, List, [], ◌∷◌, ◌++◌, codes}
use Rattle.depsets.specs.Rose.{Rose}
use Rattle.depsets.specs.Own.{Own}
use Rattle.depsets.specs.Listed.{flat, IsCoherent}
use Rattle.depsets.specs.declared.element.Element.{Element}
use Rattle.leaf_texts.specs.Texts.{joined, provider_text, leaf_text, key_text, entry_head}
use Rattle.leaf_texts.specs.Texts.{field_head, tuple_end}
use Rattle.values.specs.Tree.{Trees, Pairs, Slots, key as key_tree, leaf, branch, list, tuple, dict}
use Rattle.values.specs.Tree.{instance, none, more, stop, pair, end, missing, given}
use Rattle.values.specs.View.{FrozenTree, FrozenBranch}
use Rattle.leaves.specs.declared.leaf.Leaf.{Leaf}
use Rattle.leaves.specs.declared.leaf.Leaf.TheVariants as plain
use Rattle.keys.specs.declared.key.Key.{Key}
use Rattle.leaves.specs.declared.leaf.Provider.{Provider}

module _ {L K P : Type 0} where
  -- how many items a frozen list or tuple has
  abbrev pub how_many : Trees L K P → ℕ
  how_many none = 0
  how_many (more t ts) = how_many ts + 1

module _ (listing : Rose Own → List Element) where
  abbrev mutual
    -- a frozen value, with the listings of its depsets
    pub text_by : FrozenTree → List ℕ
    text_by (key_tree k) = key_text k
    text_by (leaf l) = leaf_text listing l
    text_by (branch b) = branch_text_by b

    -- a frozen list, tuple, dict or instance: its parts between brackets, with commas; before an
    -- instance's stands the name of its provider
    pub branch_text_by : FrozenBranch → List ℕ
    branch_text_by (list ts) = codes "[" ++ joined (texts_by ts) ++ codes "]"
    branch_text_by (tuple ts) = codes "(" ++ joined (texts_by ts) ++ tuple_end (how_many ts)
    branch_text_by (dict ps) = codes "{" ++ joined (pair_texts_by entry_head ps) ++ codes "}"
    branch_text_by (instance p ss) =
        provider_text p.name ++ codes "(" ++ joined (field_texts_by p.fields ss) ++ codes ")"

    -- the text of each item, in order
    pub texts_by : Trees Leaf Key Provider → List (List ℕ)
    texts_by none = []
    texts_by (more t ts) = text_by t ∷ texts_by ts

    -- each value with what stands before it
    pub pair_texts_by : (Key → List ℕ) → Pairs Leaf Key Provider → List (List ℕ)
    pair_texts_by head stop = []
    pair_texts_by head (pair k t ps) = (head k ++ text_by t) ∷ pair_texts_by head ps

    -- each field that was given with its name, in the order of the provider's names
    pub field_texts_by : List (List ℕ) → Slots Leaf Key Provider → List (List ℕ)
    field_texts_by [] ss = []
    field_texts_by (n ∷ ns) end = []
    field_texts_by (n ∷ ns) (missing ss) = field_texts_by ns ss
    field_texts_by (n ∷ ns) (given t ss) = (field_head n ++ text_by t) ∷ field_texts_by ns ss

-- The text of a frozen value: a depset is printed by its listing.
abbrev pub text_of : FrozenTree → List ℕ
text_of t = text_by flat t

-- The depset of a leaf is coherent.
abbrev pub IsCoherentLeaf : Leaf → Type 0
IsCoherentLeaf (plain.Depset d) = IsCoherent d
IsCoherentLeaf _ = Unit {0}

abbrev mutual
  -- Each depset in a frozen value is coherent: no two parts of it with one id differ. What
  -- evaluations make is.
  pub IsCoherentTree : FrozenTree → Type 0
  IsCoherentTree (key_tree k) = Unit {0}
  IsCoherentTree (leaf l) = IsCoherentLeaf l
  IsCoherentTree (branch b) = IsCoherentBranch b

  -- the same of a frozen value with parts
  pub IsCoherentBranch : FrozenBranch → Type 0
  IsCoherentBranch (list ts) = AreCoherent ts
  IsCoherentBranch (tuple ts) = AreCoherent ts
  IsCoherentBranch (dict ps) = AreCoherentPairs ps
  IsCoherentBranch (instance p ss) = AreCoherentSlots ss

  -- the same of each item of a list or a tuple
  pub AreCoherent : Trees Leaf Key Provider → Type 0
  AreCoherent none = Unit {0}
  AreCoherent (more t ts) = IsCoherentTree t × AreCoherent ts

  -- the same of each value of a dict; a key has no depset
  pub AreCoherentPairs : Pairs Leaf Key Provider → Type 0
  AreCoherentPairs stop = Unit {0}
  AreCoherentPairs (pair k t ps) = IsCoherentTree t × AreCoherentPairs ps

  -- the same of each field that was given
  pub AreCoherentSlots : Slots Leaf Key Provider → Type 0
  AreCoherentSlots end = Unit {0}
  AreCoherentSlots (missing ss) = AreCoherentSlots ss
  AreCoherentSlots (given t ss) = IsCoherentTree t × AreCoherentSlots ss
