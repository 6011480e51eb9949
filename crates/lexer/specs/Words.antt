-- The words that are no names (Starlark specification, "Lexical elements": keywords and reserved
-- tokens).
use Rattle.std.specs.Prelude.{ℕ, Bool, List, Option, Some, None, bytes_eq, codes, ◌||◌}
use Rattle.std.specs.Prelude.{if◌then◌else◌}
use Rattle.lexer.specs.declared.token.Word.{Word}
use Rattle.lexer.specs.declared.token.Word.TheVariants.{And, Break, Continue, Def, Elif, Else, For}
use Rattle.lexer.specs.declared.token.Word.TheVariants.{If, In, Load, Not, Or, Pass, Return}
use Rattle.lexer.specs.declared.token.Word.TheVariants.{Reserved}
use Rattle.lexer.specs.Tokens.{Token, name, word}

-- the words of expressions and loops
abbrev pub expression_word : List ℕ → Option Word
expression_word w =
    if bytes_eq w (codes "and") then Some And else
    if bytes_eq w (codes "in") then Some In else
    if bytes_eq w (codes "not") then Some Not else
    if bytes_eq w (codes "or") then Some Or else
    if bytes_eq w (codes "for") then Some For else
    if bytes_eq w (codes "break") then Some Break else
    if bytes_eq w (codes "continue") then Some Continue else
    None

-- the words of the other statements
abbrev pub statement_word : List ℕ → Option Word
statement_word w =
    if bytes_eq w (codes "def") then Some Def else
    if bytes_eq w (codes "elif") then Some Elif else
    if bytes_eq w (codes "else") then Some Else else
    if bytes_eq w (codes "if") then Some If else
    if bytes_eq w (codes "load") then Some Load else
    if bytes_eq w (codes "pass") then Some Pass else
    if bytes_eq w (codes "return") then Some Return else
    None

-- the first part of the reserved words, in alphabetical order: `as` to `except`
abbrev pub is_reserved_to_except : List ℕ → Bool
is_reserved_to_except w =
    bytes_eq w (codes "as")
    || bytes_eq w (codes "assert")
    || bytes_eq w (codes "async")
    || bytes_eq w (codes "await")
    || bytes_eq w (codes "class")
    || bytes_eq w (codes "del")
    || bytes_eq w (codes "except")

-- the second part: `finally` to `nonlocal`
abbrev pub is_reserved_to_nonlocal : List ℕ → Bool
is_reserved_to_nonlocal w =
    bytes_eq w (codes "finally")
    || bytes_eq w (codes "from")
    || bytes_eq w (codes "global")
    || bytes_eq w (codes "import")
    || bytes_eq w (codes "is")
    || bytes_eq w (codes "lambda")
    || bytes_eq w (codes "nonlocal")

-- the third part: `raise` to `yield`
abbrev pub is_reserved_to_yield : List ℕ → Bool
is_reserved_to_yield w =
    bytes_eq w (codes "raise")
    || bytes_eq w (codes "try")
    || bytes_eq w (codes "while")
    || bytes_eq w (codes "with")
    || bytes_eq w (codes "yield")

-- the words that no form of the grammar has, kept free for other versions of the language
abbrev pub is_reserved : List ℕ → Bool
is_reserved w = is_reserved_to_except w || is_reserved_to_nonlocal w || is_reserved_to_yield w

-- what a word of letters, digits and `_` is: a word of the grammar, a reserved word, or a name
abbrev pub word_or_name : List ℕ → Token
word_or_name w = elim (expression_word w) [
  | Some k ↦ word k
  | None ↦ elim (statement_word w) [
    | Some k ↦ word k
    | None ↦ if is_reserved w then word Reserved else name w
  ]
]
