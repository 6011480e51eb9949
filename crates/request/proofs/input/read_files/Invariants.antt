use Rattle.std.proofs.Common.{◌≡◌, ◌∷◌, length}
use Rattle.json.specs.Lex.{tokens}
use Rattle.json.specs.Token.{begin_array}
use Rattle.request.specs.InputTokens.{pairs_before}
use Rattle.request.proofs.input.read_files.Given as goal

abbrev pub invariant-pairs : goal.invariant-pairs
invariant-pairs l = tokens l.text ≡ begin_array ∷ pairs_before l.files l.reader

abbrev pub decreases-pairs : goal.decreases-pairs
decreases-pairs l = length l.reader
