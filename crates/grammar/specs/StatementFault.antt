-- The first line at which the statements of a file are refused. (docs/PROFILE.md, "Statement
-- faults"; this project's own.)
use Rattle.std.specs.Prelude.{◌≡◌, ◌↔◌, ℕ, true, false, List, [], ◌∷◌, ◌++◌, map, Err}
use Rattle.lexer.specs.Tokens.{Placed}
use Rattle.grammar.specs.Places.{Place}
use Rattle.grammar.specs.Blocks.{Block, Laid, block_laid, IsBlock, laid}
use Rattle.grammar.specs.BlockReading.{file_reads}

-- these logical lines begin a file: there are lines that can follow, so that the whole has a tree
pub record BeginsFile (p : Place) (lines : List Laid) : Type 0 where
  pub further : List Laid
  pub tree : Block
  pub is_block : IsBlock p false true 0 tree
  pub whole : lines ++ further ≡ block_laid 0 tree []

-- a logical line is the first fault of the statements, where the lines before it begin a file, and
-- with it they don't: it has no form, or its form may not stand there, or has an expression that is
-- too deep
pub record IsStatementFault (p : Place) (lines : List Laid) (n : ℕ) : Type 0 where
  pub before : List Laid
  pub at : Laid
  pub behind : List Laid
  pub whole : lines ≡ before ++ at ∷ behind
  pub line : at.line ≡ n
  pub goes_well : BeginsFile p before
  pub ends_there : ¬ BeginsFile p (before ++ at ∷ [])

-- the logical lines of a file are refused where their first fault is, and nowhere else
abbrev pub RefusedAtFirst : Place → List (List Placed) → Type 0
RefusedAtFirst p lines =
    (n : ℕ) → (file_reads p (map laid lines) ≡ Err n) ↔ IsStatementFault p (map laid lines) n
