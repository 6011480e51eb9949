-- The fault of a text that isn't read as logical lines: the first of three passes that finds one,
-- and the first line where it does, in the words of what stands there. (docs/PROFILE.md, "Passes";
-- this project's own.)
use Rattle.std.specs.Prelude.{◌≡◌, ℕ, List}
use Rattle.std.specs.List.{AllPass}
use Rattle.lexer.specs.declared.fault.FaultKind.TheVariants as pass
use Rattle.lexer.specs.declared.fault.SyntaxFault.{SyntaxFault}
use Rattle.lexer.specs.Characters.{is_character}
use Rattle.lexer.specs.Tokens.{Placed}
use Rattle.lexer.specs.Parts.{IsTokens}
use Rattle.file_syntax.specs.CharacterFault.{IsCharacterFault}
use Rattle.file_syntax.specs.TokenFault.{IsTokenFault}
use Rattle.file_syntax.specs.IndentFault.{IsIndentFault}

-- the first fault of a text below its statements, by the pass that finds it: characters; tokens,
-- where all bytes are characters; brackets and columns, where the text consists of tokens
pub data IsLineFault (text : List ℕ) (f : SyntaxFault) : Type 0 where
  in_characters : f.kind ≡ pass.Character → IsCharacterFault text f.line → IsLineFault text f
  in_tokens : f.kind ≡ pass.Token → AllPass is_character text → IsTokenFault text f.line
      → IsLineFault text f
  in_layout : f.kind ≡ pass.Indent → AllPass is_character text → (tokens : List Placed)
      → IsTokens text tokens → IsIndentFault tokens f.line → IsLineFault text f
