-- The lines that are put into blocks, as the program has them. (This project's own.)
use Rattle.std.specs.Prelude.{List, map, reverse}
use Rattle.grammar.specs.LineView.{form_in, lines_of}
use Rattle.grammar.specs.BareLines.{Lines}
use Rattle.grammar.specs.Built as built
use Rattle.statements.specs.declared.blocks.Body.{Body}
use Rattle.statements.specs.declared.blocks.Body.TheVariants.{Nothing, Block, Statement}
use Rattle.statements.specs.declared.blocks.Read.{Read}
use Rattle.statements.specs.declared.blocks.Pending.{Pending}

-- what belongs to a line that was read: nothing, a block behind it, or a statement on the line
-- itself
abbrev pub body_of : Body → built.Belongs
body_of Nothing = built.nothing
body_of Block = built.block
body_of (Statement f) = built.statement (form_in f)

-- a line that was read, before it is put into a block
abbrev pub read_of : Read → built.Made
read_of r =
    record { number = r.number; column = r.column; form = form_in r.form; body = body_of r.body }

-- a block has its last line first
abbrev pub pending_of : {L : Type 0} → (L → Lines → Lines) → Pending L → built.Pending
pending_of seen p =
    record { column = p.column; lines = lines_of (map seen (reverse p.lines.items)) }

-- the innermost block is the last
abbrev pub pendings : {L : Type 0} → (L → Lines → Lines) → List (Pending L) → List built.Pending
pendings seen ps = map (pending_of seen) (reverse ps)
