-- What the program's tokens, which are places in a text, stand for. (This project's own.)
use Rattle.std.specs.Prelude.{ℕ, ◌+◌, ◌≤◌, List, length, slice_range}
use Rattle.lexer.specs.declared.token.Span as span
use Rattle.lexer.specs.declared.token.Kind as kind
use Rattle.lexer.specs.declared.token.Kind.TheVariants as of
use Rattle.lexer.specs.declared.token.Token as found
use Rattle.lexer.specs.declared.begins.Beginning as beginning
use Rattle.lexer.specs.declared.begins.Beginning.TheVariants as at
use Rattle.lexer.specs.Tokens.{Token, Placed, name, number, string, word, mark}
use Rattle.lexer.specs.Strings.{unescaped}
use Rattle.lexer.specs.Begins.{Begins, space, line_end, comment, token, nothing}

-- the bytes of a part of the text
abbrev pub bytes_of : List ℕ → span.Span → List ℕ
bytes_of text s = slice_range text s.start s.end

-- the token that the program's token is in this text: a name or a string is the bytes at its place,
-- those of a string with the escapes read
abbrev pub token_seen : List ℕ → kind.Kind → Token
token_seen text (of.Name s) = name (bytes_of text s)
token_seen text (of.Number n) = number n
token_seen text (of.Str s) = string (unescaped (bytes_of text s))
token_seen text (of.Word w) = word w
token_seen text (of.Mark m) = mark m

-- the same with the line and the column
abbrev pub seen : List ℕ → found.Token → Placed
seen text t = record { token = token_seen text t.kind; line = t.line; column = t.column }

-- what begins at a place, as the program answers it, with its token seen in this text
abbrev pub beginning_seen : List ℕ → beginning.Beginning → Begins
beginning_seen text at.Space = space
beginning_seen text at.LineEnd = line_end
beginning_seen text (at.Comment n) = comment n
beginning_seen text (at.Token k n) = token (token_seen text k) n
beginning_seen text at.Nothing = nothing

-- what begins at `place` ends within the text
abbrev pub EndsWithin : List ℕ → ℕ → beginning.Beginning → Type 0
EndsWithin text place at.Space = place + 1 ≤ length text
EndsWithin text place at.LineEnd = place + 1 ≤ length text
EndsWithin text place (at.Comment n) = place + 1 + n ≤ length text
EndsWithin text place (at.Token k n) = place + 1 + n ≤ length text
EndsWithin text place at.Nothing = place ≤ length text
