-- Operators and punctuation (Starlark specification, "Lexical elements"), as far as this profile
-- has them.
use Rattle.std.specs.Prelude.{ℕ, ◌&&◌, ◌==◌, Option, Some, None, if◌then◌else◌}
use Rattle.lexer.specs.declared.token.Mark.{Mark}
use Rattle.lexer.specs.declared.token.Mark.TheVariants.{OpenParen, CloseParen, OpenBracket}
use Rattle.lexer.specs.declared.token.Mark.TheVariants.{CloseBracket, OpenBrace, CloseBrace, Comma}
use Rattle.lexer.specs.declared.token.Mark.TheVariants.{Colon, Dot, Assign, AddAssign, Equal}
use Rattle.lexer.specs.declared.token.Mark.TheVariants.{NotEqual, Less, Greater, LessEqual}
use Rattle.lexer.specs.declared.token.Mark.TheVariants.{GreaterEqual, Plus, Minus, Star}
use Rattle.lexer.specs.declared.token.Mark.TheVariants.{FloorDivide, Percent}

-- the marks of two bytes: `+= == != <= >= //`
abbrev pub pair_mark : ℕ → ℕ → Option Mark
pair_mark b c =
    if b == 43 && c == 61 then Some AddAssign else
    if b == 61 && c == 61 then Some Equal else
    if b == 33 && c == 61 then Some NotEqual else
    if b == 60 && c == 61 then Some LessEqual else
    if b == 62 && c == 61 then Some GreaterEqual else
    if b == 47 && c == 47 then Some FloorDivide else
    None

-- the marks of one byte that enclose or separate: `( ) [ ] { } , : .`
abbrev pub punctuation : ℕ → Option Mark
punctuation b =
    if b == 40 then Some OpenParen else
    if b == 41 then Some CloseParen else
    if b == 91 then Some OpenBracket else
    if b == 93 then Some CloseBracket else
    if b == 123 then Some OpenBrace else
    if b == 125 then Some CloseBrace else
    if b == 44 then Some Comma else
    if b == 58 then Some Colon else
    if b == 46 then Some Dot else
    None

-- the other marks of one byte: `= < > + - * %`; `/` and `!` alone are none
abbrev pub operator : ℕ → Option Mark
operator b =
    if b == 61 then Some Assign else
    if b == 60 then Some Less else
    if b == 62 then Some Greater else
    if b == 43 then Some Plus else
    if b == 45 then Some Minus else
    if b == 42 then Some Star else
    if b == 37 then Some Percent else
    None
