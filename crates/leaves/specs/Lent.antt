-- Leaves where they lie, as the leaves that they are. (This project's own.)
use Rattle.leaves.specs.declared.leaf.Leaf.{Leaf}
use Rattle.leaves.specs.declared.leaf.Leaf.TheVariants as leaf
use Rattle.leaves.specs.declared.leaf_ref.LeafRef.{LeafRef}
use Rattle.leaves.specs.declared.leaf_ref.LeafRef.TheVariants as lent

-- the leaf that a lent leaf is
abbrev pub leaf_at : LeafRef → Leaf
leaf_at lent.None = leaf.None
leaf_at (lent.Label t) = leaf.Label t.now
leaf_at (lent.File f) = leaf.File f.now
leaf_at (lent.Depset d) = leaf.Depset d.now
leaf_at (lent.Function f) = leaf.Function f.now
leaf_at (lent.BuiltIn b) = leaf.BuiltIn b
leaf_at (lent.Provider p) = leaf.Provider p.now
leaf_at (lent.Rule r) = leaf.Rule r.now
leaf_at (lent.Attribute a) = leaf.Attribute a.now
leaf_at (lent.Target n) = leaf.Target n
leaf_at (lent.Object o) = leaf.Object o
