-- A code of frozen values of globals. (This project's own.)
use Rattle.std.specs.Prelude.{List, Option}
use Rattle.std.specs.Coded.{Coded, coded_list, coded_option}
use Rattle.leaves.specs.LeafCodes.{leaf_code, key_code, provider_code}
use Rattle.values.specs.Tree.{coded_tree}
use Rattle.values.specs.View.{FrozenTree}

-- by number, with None where a global isn't bound
abbrev pub globals_code : Coded (List (Option FrozenTree))
globals_code = coded_list (coded_option (coded_tree leaf_code key_code provider_code))
