use Rattle.std.proofs.Common.{◌≡◌, ◌<◌, List, [], ◌∷◌, length, refl, true, arith}
use Rattle.grammar.specs.declared.tree.Keyword.{Keyword}
use Rattle.grammar.specs.TreeView.{keywords}
use Rattle.program_tree.specs.Names.{distinct}
use Rattle.file_syntax.specs.Scopes.{keyword_names}
use Rattle.syntax.proofs.resolver.names_differ.Goals as goal

few_differ : (ks : List Keyword) → length ks < 2 → true ≡ distinct (keyword_names (keywords ks))
few_differ [] h = refl
few_differ (k ∷ []) h = refl
few_differ (k ∷ j ∷ ks) h = absurd (omega (arith, h))

pub returns-then-named-lt2 : goal.returns-then-named-lt2
returns-then-named-lt2 c = few_differ c.args.named.now c.if-named-lt2.true
