-- Values where they are stored. (This project's own.)
use Rattle.values.specs.declared.value.Value.{Value}
use Rattle.values.specs.Seeing.{item_value}
use Rattle.operands.specs.declared.stored.Stored.{Stored}
use Rattle.operands.specs.declared.stored.Stored.TheVariants as stored

-- the value that is stored, whether what lives longer lends it or it is kept
abbrev pub stored_value : Stored → Value
stored_value (stored.Lent i) = item_value i
stored_value (stored.Kept v) = v.now
