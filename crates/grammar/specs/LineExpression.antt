-- The expression that a logical line is. (docs/PROFILE.md, "Expressions" and "Depth of an
-- expression"; this project's own.)
use Rattle.std.specs.Prelude.{◌≡◌, ◌≤◌, List, Option, Some, None}
use Rattle.lexer.specs.Tokens.{Token}
use Rattle.grammar.specs.Tree.{Expr}
use Rattle.grammar.specs.Spelling.{Spells}
use Rattle.grammar.specs.Depth.{depth}
use Rattle.grammar.specs.Bare.{Tree, bare}

-- these tokens are those of an expression that is at most 200 deep, and this is its tree; or they
-- are those of none
abbrev pub IsExpression : List Token → Option Tree → Type 0
IsExpression ts (Some b) = (t : Expr) × Spells ts t × (depth t ≤ 200) × (bare t ≡ b)
IsExpression ts None = (t : Expr) → Spells ts t → depth t ≤ 200 → ⊥
