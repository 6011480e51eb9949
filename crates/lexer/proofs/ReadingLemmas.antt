-- What a text's reading is, by what the passes find.
use Rattle.std.proofs.Common.{ℕ, ◌≡◌, List, refl, Some, None, Ok, Err}
use Rattle.lexer.specs.declared.fault.FaultKind.TheVariants as kind
use Rattle.lexer.specs.Tokens.{Placed}
use Rattle.lexer.specs.Characters.{character_fault}
use Rattle.lexer.specs.Scan.{tokens_of}
use Rattle.lexer.specs.Layout.{line_starts, at_start}
use Rattle.lexer.specs.Lines.{fault, lines_at, laid_out, reading}

pub fault_of_characters : (text : List ℕ) (line : ℕ) → Some line ≡ character_fault text → reading text ≡ fault kind.Character line
unfolding reading
fault_of_characters text line e = rw (← e) refl

pub read_so_far : (text : List ℕ) → None ≡ character_fault text → reading text ≡ laid_out (tokens_of text)
unfolding reading
read_so_far text e = rw (← e) refl

pub fault_of_tokens : (text : List ℕ) (line : ℕ) → None ≡ character_fault text → tokens_of text ≡ Err line
    → reading text ≡ fault kind.Token line
fault_of_tokens text line e t = rw (read_so_far text e, t) refl

pub fault_of_layout : (text : List ℕ) (ts : List Placed) (line : ℕ) → None ≡ character_fault text → tokens_of text ≡ Ok ts
    → line_starts 0 at_start ts ≡ Err line → reading text ≡ fault kind.Indent line
fault_of_layout text ts line e t s = rw (read_so_far text e, t, s) refl

pub read_as : (text : List ℕ) (ts : List Placed) (places : List ℕ) → None ≡ character_fault text → tokens_of text ≡ Ok ts
    → line_starts 0 at_start ts ≡ Ok places → reading text ≡ Ok (lines_at places ts)
read_as text ts places e t s = rw (read_so_far text e, t, s) refl
