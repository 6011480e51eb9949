use Rattle.std.proofs.Common.{◌≡◌, ◌++◌, drop}
use Rattle.file_syntax.specs.Scopes.{keyword_names}
use Rattle.grammar.specs.TreeView.{keywords}
use Rattle.syntax.proofs.resolver.names_differ.Given as goal

abbrev pub invariant-loop-keyword : goal.invariant-loop-keyword
invariant-loop-keyword l = l.names.items ++ keyword_names (keywords (drop l.keyword-index l.named)) ≡ keyword_names (keywords l.named)
