use Rattle.std.proofs.Common.{arith}
use Rattle.grammar.proofs.ReadTurns.{no_turns, no_room, read_is}
use Rattle.descent.proofs.expressions.+expression.Goals as goal

pub returns-then-turns-eq0 : goal.returns-then-turns-eq0
returns-then-turns-eq0 t c = no_turns c.args.turns c.args.row c.args.room c.args.ahead.now (omega arith)

pub returns-then-room-eq0 : goal.returns-then-room-eq0
returns-then-room-eq0 t c = no_room c.args.turns c.args.row c.args.room c.args.ahead.now (omega arith)

pub returns : goal.returns
returns t c = rw (read_is c.args.turns c.args.row c.args.room c.args.ahead.now (omega arith) (omega arith)) c.row.ensures
