-- One line more that is put into its block.
use Rattle.std.proofs.Common.{◌≡◌, List, [], ◌∷◌, ◌++◌, map, refl, ap}
use Rattle.statements.specs.declared.blocks.Read.{Read}
use Rattle.grammar.specs.Built.{Pending, attached, onto}
use Rattle.statements.specs.BuiltView.{read_of}

-- the last of some lines is put into its block first
pub last_first : (rs : List Read) (r : Read) (ps : List Pending) → onto (map read_of (rs ++ r ∷ [])) ps ≡ onto (map read_of rs) (attached (read_of r) ps)
last_first [] r ps = refl
last_first (q ∷ rs) r ps = ap (attached (read_of q)) (last_first rs r ps)
