-- What the program's parts of an expression stand for, and a function value that reads the
-- expressions inside. (This project's own.)
use Rattle.std.specs.Prelude.{ℕ, map, Result}
use Rattle.std.specs.declared.alloc.Global.{Global}
use denote.Ref.{MutBor}
use Rattle.lexer.specs.Tokens.{Token}
use Rattle.std.specs.Prelude.{List}
use Rattle.grammar.specs.declared.parts.Row.{Row}
use Rattle.grammar.specs.declared.parts.Part as part
use Rattle.grammar.specs.declared.parts.Several as several
use Rattle.grammar.specs.declared.parts.Pairs as pairs
use Rattle.grammar.specs.declared.parts.Arguments as arguments
use Rattle.grammar.specs.declared.parts.Conditions as conditions
use Rattle.grammar.specs.declared.ahead.Stop.{Stop}
use Rattle.grammar.specs.Ahead.{Reads}
use Rattle.grammar.specs.declared.tree.Target as targets
use Rattle.grammar.specs.declared.tree.Target.TheVariants as t
use Rattle.grammar.specs.Descent.{Part, Several, Pairs, Arguments, Conditions, Target, target_name}
use Rattle.grammar.specs.Descent.{target_at, read}
use Rattle.grammar.specs.TreeView.{tree_of, entry_of, keyword_of, clause_of}

-- the part that the program's part stands for
abbrev pub part_seen : part.Part → Part
part_seen p = record { tree = tree_of p.expr.value; depth = p.depth; is_target = p.is_target }

-- what can be assigned to, as the program keeps it
abbrev pub target_of : targets.Target → Target
target_of (t.Name x) = target_name x
target_of (t.At f a) = target_at (tree_of f.value) (tree_of a.value)

-- the items of a tuple or a list, as the program keeps them
abbrev pub several_seen : several.Several → Several
several_seen s = record { trees = map tree_of s.items.items; depth = s.depth }

-- the key and the value of an entry, as the program keeps them
abbrev pub pair_seen : part.Part × part.Part → Part × Part
pair_seen e = (part_seen e.0, part_seen e.1)

-- the entries of a dict, as the program keeps them
abbrev pub pairs_seen : pairs.Pairs → Pairs
pairs_seen s = record { entries = map entry_of s.entries.items; depth = s.depth }

-- the arguments of a call, as the program keeps them
abbrev pub arguments_seen : arguments.Arguments → Arguments
arguments_seen s = record {
  trees = map tree_of s.items.items;
  named = map keyword_of s.named.items;
  depth = s.depth;
  in_order = s.in_order;
}

-- the clauses of a comprehension, as the program keeps them
abbrev pub conditions_seen : conditions.Conditions → Conditions
conditions_seen s = record { clauses = map clause_of s.clauses.items; depth = s.depth }

-- a function value reads the expressions inside of others, with so many turns: it may be called
-- with any arguments, and answers what `read` gives, unless memory is refused
pub record Nests (turns : ℕ) (pre : Global → MutBor (List Token) → ℕ → Row → ℕ → Type 0)
    (post : Global → MutBor (List Token) → ℕ → Row → ℕ → Result part.Part Stop
    → MutBor (List Token) → Type 0) : Type 0 where
  pub callable : (alloc : Global) (old : MutBor (List Token)) (row : Row) (room : ℕ)
      → pre alloc old turns row room
  pub reads : (alloc : Global) (old new : MutBor (List Token)) (row : Row) (room : ℕ)
      (r : Result part.Part Stop)
      → post alloc old turns row room r new
      → Reads part_seen (read turns row room old.now) r new.now
