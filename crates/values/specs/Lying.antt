-- Operands, as the values that they are: of one's own, or lent by what lives longer; and the key
-- that a value is. (This project's own.)
use Rattle.std.specs.Prelude.{Option, Some, None}
use Rattle.keys.specs.declared.key.Key.{Key}
use Rattle.leaves.specs.Lent.{leaf_at}
use Rattle.values.specs.declared.value.Value.{Value}
use Rattle.values.specs.declared.value.Value.TheVariants as value
use Rattle.values.specs.declared.operand.Lies.{Lies}
use Rattle.values.specs.declared.operand.Lies.TheVariants as lies

-- the value that an operand is; whether it is the operand's own or lent doesn't matter to a
-- contract
abbrev pub lying : Lies → Value
lying (lies.Key k) = value.Key k
lying (lies.Leaf l) = value.Leaf l
lying (lies.Cell n) = value.Cell n
lying (lies.Branch b) = value.Frozen b
lying (lies.LentKey k) = value.Key k.now
lying (lies.LentLeaf l) = value.Leaf (leaf_at l)
lying (lies.LentBranch b) = value.Frozen b.now

-- the key that a value is, if it is one
abbrev pub key_in_value : Value → Option Key
key_in_value (value.Key k) = Some k
key_in_value _ = None
