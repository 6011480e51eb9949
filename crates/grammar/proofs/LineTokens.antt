-- The tokens of a line, without their places.
use Rattle.std.proofs.Common.{◌≡◌, ℕ, List, [], ◌∷◌, map, refl, ap}
use Rattle.lexer.specs.declared.token.Token as found
use Rattle.grammar.specs.Ahead.{tokens_seen}
use Rattle.lexer.specs.Tokens.{line_tokens}
use Rattle.lexer.specs.Seen.{seen, token_seen}

pub without_places : (text : List ℕ) (ts : List found.Token) → line_tokens (map (seen text) ts) ≡ tokens_seen text ts
without_places text [] = refl
without_places text (t ∷ ts) = ap (λ us. token_seen text t.kind ∷ us) (without_places text ts)
