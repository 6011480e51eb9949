use Rattle.std.proofs.Common.{rules, arith, w64, to_z, of_z}
use Rattle.std.proofs.lemmas.Int.{ints}
use mir.Val.{SFits}
use Rattle.numbers.proofs.Steps.{how_many}
use Rattle.numbers.proofs.ranges.RangeNumbers.len.Goals as goal

pub returns : goal.returns
returns c =
    let f : SFits w64 c.self.inside.next = search rules in
    let g : SFits w64 c.self.inside.end = search rules in
    how_many c.args.self.now c.self.inside.next c.self.inside.end (to_z w64 (of_z w64 c.self.inside.next)) (to_z w64 (of_z w64 c.self.inside.end)) c.difference_up.result c.self.view_is (omega (arith, ints)) (omega (arith, ints)) c.difference_up.ensures
