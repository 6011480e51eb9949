use Rattle.std.proofs.Common.{◌≡◌, ap, sym, ◌∙◌, arith, length}
use Rattle.values.specs.Seeing.{table_entries}
use Rattle.values.specs.Shape.{zip}
use Rattle.values.proofs.SeeLemmas.{length-zip}
use Rattle.values.proofs.sees.Table.len.Goals as goal

pub returns-in-Trees : goal.returns-in-Trees
returns-in-Trees c =
    let shorter : c.min.result ≡ length (zip c.in-Trees.keys.now.keys c.in-Trees.values.now) =
    omega (arith, length-zip c.in-Trees.keys.now.keys c.in-Trees.values.now, c.min.ensures, c.len-in-Trees.ensures.len) in
    shorter ∙ ap (λ t. length (table_entries t)) (sym c.in-Trees.is)

pub returns-in-Lent : goal.returns-in-Lent
returns-in-Lent c =
    let shorter : c.min-in-Lent.result ≡ length (zip c.in-Lent.keys.now.keys c.in-Lent.values.now) =
    omega (arith, length-zip c.in-Lent.keys.now.keys c.in-Lent.values.now, c.min-in-Lent.ensures, c.len-in-Lent.ensures.len) in
    shorter ∙ ap (λ t. length (table_entries t)) (sym c.in-Lent.is)
