-- String literals (Starlark specification, "String literals", as far as this profile has them): on
-- one line, between two `"` or two `'`, with the escapes `\n \t \\ \" \'` and no other backslash.
use Rattle.std.specs.Prelude.{ℕ, suc, Bool, false, not, ◌&&◌, ◌||◌, ◌==◌, List, [], ◌∷◌, ◌++◌}
use Rattle.std.specs.Prelude.{Option, Some, None, option_map, if◌then◌else◌}
use Rattle.lexer.specs.Characters.{newline}

-- `\`, which begins an escape in a string
abbrev pub backslash : ℕ
backslash = 92

-- `"` or `'`
abbrev pub is_quote : ℕ → Bool
is_quote b = b == 34 || b == 39

-- what may stand after a backslash: `n t \ " '`
abbrev pub is_escape : ℕ → Bool
is_escape b = b == 110 || b == 116 || b == backslash || is_quote b

-- the byte that an escape stands for
abbrev pub escape_meaning : ℕ → ℕ
escape_meaning b = if b == 110 then newline else if b == 116 then 9 else b

-- the length of a string's body at its byte `b`, by what follows; `escaped` says that a backslash
-- stands before it
abbrev pub body_at : ℕ → Bool → ℕ → Option ℕ → Option ℕ
body_at quote escaped b further =
    if escaped then (if is_escape b then option_map suc further else None) else
    if b == quote then Some 0 else
    if b == newline then None else
    option_map suc further

-- the number of bytes up to the closing quote; None where the string is not closed on its line or
-- has another escape
abbrev pub body_length : ℕ → Bool → List ℕ → Option ℕ
body_length quote escaped [] = None
body_length quote escaped (b ∷ bs) =
    body_at quote escaped b (body_length quote (not escaped && b == backslash) bs)

-- what one byte of a body stands for
abbrev pub meaning_of : Bool → ℕ → List ℕ
meaning_of escaped b =
    if escaped then escape_meaning b ∷ [] else
    if b == backslash then [] else
    b ∷ []

-- what the rest of a body stands for, where a backslash that begins an escape stands before it or
-- not
abbrev pub unescaped_from : Bool → List ℕ → List ℕ
unescaped_from escaped [] = []
unescaped_from escaped (b ∷ bs) =
    meaning_of escaped b ++ unescaped_from (not escaped && b == backslash) bs

-- the bytes that a body stands for
abbrev pub unescaped : List ℕ → List ℕ
unescaped body = unescaped_from false body
