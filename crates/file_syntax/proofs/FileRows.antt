-- Some files with their trees or faults, by computation from their bytes.
use Rattle.std.specs.Prelude.{◌≡◌, ℕ, List, [], ◌∷◌, ◌++◌, replicate, Option, Some, None, Result, Ok, Err, refl, codes}
use Rattle.lexer.specs.declared.fault.FaultKind.{FaultKind}
use Rattle.lexer.specs.declared.fault.FaultKind.TheVariants.{Token, Indent, Statement, Scope}
use Rattle.lexer.specs.declared.fault.SyntaxFault.{SyntaxFault}
use Rattle.lexer.specs.declared.file_kind.FileKind.TheVariants.{Module, Build}
use Rattle.lexer.specs.Begins.{begins}
use Rattle.lexer.specs.Scan.{tokens_of, scan}
use Rattle.lexer.specs.Layout.{line_starts, turn}
use Rattle.lexer.specs.Lines.{reading}
use Rattle.grammar.specs.Front.{next, sign_at, name_at, keyword_at, behind_close, behind_comma, behind_colon, behind_else, is_for, names_in, head_at}
use Rattle.grammar.specs.Reading.{chain, member, members, clauses, atom, suffixes, e9, e8, e7, e6, e5, e4, e3, e2, e1, read}
use Rattle.grammar.specs.FormReading.{lead, then_at, names_to, string_at, commas, listed, simple_at, form_at}
use Rattle.grammar.specs.Blocks.{Block}
use Rattle.grammar.specs.BlockReading.{read_lines}
use Rattle.grammar.specs.BareLines.{bare_lines}
use Rattle.program_tree.specs.declared.names.Binding.TheVariants.{Global as global, Slot as slot, Builtin as builtin}
use Rattle.program_tree.specs.declared.names.Predeclared.TheVariants.{LenFunction as len_function}
use Rattle.program_tree.specs.Resolved.{Program, named, numeral, invokes, each, more_terms, no_terms, no_keywords, done, for_each, assign, give_back, branch, a_branch, no_branches, define, no_steps, step, resolved}
use Rattle.program_tree.specs.declared.program.OwnSlots.{OwnSlots}
use Rattle.file_syntax.specs.IsProgram.{all_loaded, all_own}
use Rattle.file_syntax.specs.Files.{syntax}

-- a text of these lines
abbrev lines : List (List ℕ) → List ℕ
lines [] = []
lines (l ∷ ls) = l ++ 10 ∷ lines ls

-- a text without fault
abbrev well : Option SyntaxFault
well = None

abbrev at : ℕ → FaultKind → Option SyntaxFault
at line kind = Some (record { line = line; kind = kind })

pub verdict : Result Block SyntaxFault → Option SyntaxFault
verdict (Ok tree) = None
verdict (Err f) = Some f

pub program : Result Block SyntaxFault → Option Program
program (Ok tree) = Some (resolved (bare_lines tree))
program (Err f) = None

-- the passes, of which the first that finds a fault decides
pub passes :
    (verdict (syntax (codes "") Module) ≡ well)
    × (verdict (syntax (lines (codes "x = (1," ∷ [])) Module) ≡ at 1 Indent)
    × (verdict (syntax (lines (codes "def f():" ∷ codes "" ∷ codes "# c" ∷ codes "x = 1" ∷ [])) Module) ≡ at 1 Indent)
    × (verdict (syntax (lines (codes "x = 'a" ∷ [])) Module) ≡ at 1 Token)
    × (verdict (syntax (codes "x = 9223372036854775808") Module) ≡ at 1 Token)
    × (verdict (syntax (codes "x = 01") Module) ≡ at 1 Token)
    × (verdict (syntax (codes "x = 0x1") Module) ≡ at 1 Token)
    × (verdict (syntax (codes "x = len(a = 1, 2)") Module) ≡ at 1 Statement)
    × (verdict (syntax (lines (codes "x = 1 < 2 < 3" ∷ codes "x = 1" ∷ codes "x = 2" ∷ [])) Module) ≡ at 1 Statement)
    × (verdict (syntax (lines (codes "x = 1" ∷ codes "x = 2" ∷ codes "y = (" ∷ [])) Module) ≡ at 3 Indent)
unfolding reading tokens_of scan begins line_starts turn read_lines lead then_at names_to string_at commas listed simple_at form_at chain next sign_at name_at keyword_at behind_close behind_comma behind_colon behind_else is_for names_in head_at member members clauses atom suffixes e9 e8 e7 e6 e5 e4 e3 e2 e1 read verdict
passes = (refl, refl, refl, refl, refl, refl, refl, refl, refl, refl)

-- a `load` stands before all other forms but a string alone
pub loads_stand :
    (verdict (syntax (lines (codes "load(\"//a:b.bzl\", \"x\")" ∷ codes "load(\"//a:c.bzl\", \"y\")" ∷ [])) Module) ≡ well)
    × (verdict (syntax (lines (codes "\"doc\"" ∷ codes "load(\"//a:b.bzl\", \"x\")" ∷ [])) Module) ≡ well)
    × (verdict (syntax (lines (codes "(\"doc\")" ∷ codes "load(\"//a:b.bzl\", \"x\")" ∷ [])) Module) ≡ at 2 Statement)
    × (verdict (syntax (lines (codes "x = 1" ∷ codes "load(\"//a:b.bzl\", \"y\")" ∷ [])) Module) ≡ at 2 Statement)
    × (verdict (syntax (lines (codes "def f():" ∷ codes "  load(\"//a:b.bzl\", \"y\")" ∷ [])) Module) ≡ at 2 Statement)
    × (verdict (syntax (lines (codes "load(\"//a:b.bzl\", \"x\")" ∷ codes "x(y = 1)" ∷ [])) Build) ≡ well)
unfolding reading tokens_of scan begins line_starts turn read_lines lead then_at names_to string_at commas listed simple_at form_at chain next sign_at name_at keyword_at behind_close behind_comma behind_colon behind_else is_for names_in head_at member members clauses atom suffixes e9 e8 e7 e6 e5 e4 e3 e2 e1 read verdict
loads_stand = (refl, refl, refl, refl, refl, refl)

-- heads: `def` at the top level of a module, `if` and `for` in a function
pub heads_stand :
    (verdict (syntax (lines (codes "if True:" ∷ codes "  pass" ∷ [])) Module) ≡ at 1 Statement)
    × (verdict (syntax (lines (codes "for x in []:" ∷ codes "  pass" ∷ [])) Module) ≡ at 1 Statement)
    × (verdict (syntax (codes "def f(): pass") Build) ≡ at 1 Statement)
    × (verdict (syntax (codes "def f(): pass") Module) ≡ well)
    × (verdict (syntax (lines (codes "def f():" ∷ codes "  def g():" ∷ codes "    pass" ∷ [])) Module) ≡ at 2 Statement)
    × (verdict (syntax (codes "def f(): if 1: pass") Module) ≡ at 1 Statement)
    × (verdict (syntax (lines (codes "def f():" ∷ codes "  if 1: pass" ∷ codes "  elif 2: pass" ∷ codes "  else: pass" ∷ [])) Module) ≡ well)
    × (verdict (syntax (lines (codes "def f():" ∷ codes "  if 1:" ∷ codes "    pass" ∷ codes "  else:" ∷ codes "    pass" ∷ codes "  else:" ∷ codes "    pass" ∷ [])) Module) ≡ at 6 Statement)
    × (verdict (syntax (lines (codes "def f():" ∷ codes "  if 1:" ∷ codes "    pass" ∷ codes "  else:" ∷ codes "    pass" ∷ codes "  elif 2:" ∷ codes "    pass" ∷ [])) Module) ≡ at 6 Statement)
    × (verdict (syntax (lines (codes "def f():" ∷ codes "  if 1: pass" ∷ codes "  pass" ∷ codes "  else: pass" ∷ [])) Module) ≡ at 4 Statement)
    × (verdict (syntax (lines (codes "def f():" ∷ codes "  for x in []: pass" ∷ codes "  else: pass" ∷ [])) Module) ≡ at 3 Statement)
unfolding reading tokens_of scan begins line_starts turn read_lines lead then_at names_to string_at commas listed simple_at form_at chain next sign_at name_at keyword_at behind_close behind_comma behind_colon behind_else is_for names_in head_at member members clauses atom suffixes e9 e8 e7 e6 e5 e4 e3 e2 e1 read verdict
heads_stand = (refl, refl, refl, refl, refl, refl, refl, refl, refl, refl, refl)

-- `return` in a function, `break` and `continue` in a loop of one; of two faults the one of the first line
pub words_stand :
    (verdict (syntax (codes "return") Module) ≡ at 1 Statement)
    × (verdict (syntax (codes "break") Module) ≡ at 1 Statement)
    × (verdict (syntax (lines (codes "def f():" ∷ codes "  break" ∷ [])) Module) ≡ at 2 Statement)
    × (verdict (syntax (lines (codes "def f():" ∷ codes "  for x in []:" ∷ codes "    if x: break" ∷ codes "    continue" ∷ [])) Module) ≡ well)
    × (verdict (syntax (lines (codes "def f():" ∷ codes "  for x in []:" ∷ codes "    pass" ∷ codes "  continue" ∷ [])) Module) ≡ at 4 Statement)
    × (verdict (syntax (codes "def f(): return 1, 2") Module) ≡ well)
    × (verdict (syntax (lines (codes "def f():" ∷ codes "  break" ∷ codes "x = 1 < 2 < 3" ∷ [])) Module) ≡ at 2 Statement)
    × (verdict (syntax (lines (codes "def f():" ∷ codes "  if 1 < 2 < 3:" ∷ codes "    break" ∷ codes "else:" ∷ codes "  pass" ∷ [])) Module) ≡ at 2 Statement)
unfolding reading tokens_of scan begins line_starts turn read_lines lead then_at names_to string_at commas listed simple_at form_at chain next sign_at name_at keyword_at behind_close behind_comma behind_colon behind_else is_for names_in head_at member members clauses atom suffixes e9 e8 e7 e6 e5 e4 e3 e2 e1 read verdict
words_stand = (refl, refl, refl, refl, refl, refl, refl, refl)

-- an expression is at most 200 deep
pub depths :
    (verdict (syntax (codes "x = " ++ (replicate 199 45 ++ codes "1")) Module) ≡ well)
    × (verdict (syntax (codes "x = " ++ (replicate 200 45 ++ codes "1")) Module) ≡ at 1 Statement)
    × (verdict (syntax (codes "x = 1" ++ (replicate 199 45 ++ codes "1, 2")) Module) ≡ at 1 Statement)
unfolding reading tokens_of scan begins line_starts turn read_lines lead then_at names_to string_at commas listed simple_at form_at chain next sign_at name_at keyword_at behind_close behind_comma behind_colon behind_else is_for names_in head_at member members clauses atom suffixes e9 e8 e7 e6 e5 e4 e3 e2 e1 read verdict
depths = (refl, refl, refl)

-- the top level binds a name once, and no line binds a predeclared name
pub bound_once :
    (verdict (syntax (codes "x, x = 1, 2") Module) ≡ at 1 Scope)
    × (verdict (syntax (lines (codes "x = 1" ∷ codes "y = 2" ∷ codes "x = 3" ∷ [])) Module) ≡ at 3 Scope)
    × (verdict (syntax (lines (codes "load(\"//a:b.bzl\", \"x\")" ∷ codes "x = 1" ∷ [])) Module) ≡ at 2 Scope)
    × (verdict (syntax (lines (codes "load(\"//a:b.bzl\", \"x\", x = \"y\")" ∷ [])) Module) ≡ at 1 Scope)
    × (verdict (syntax (lines (codes "def f(): pass" ∷ codes "def f(): pass" ∷ [])) Module) ≡ at 2 Scope)
    × (verdict (syntax (lines (codes "def f():" ∷ codes "  x, x = 1, 2" ∷ codes "  x = 3" ∷ [])) Module) ≡ well)
    × (verdict (syntax (codes "len = 1") Module) ≡ at 1 Scope)
    × (verdict (syntax (codes "def f(len): pass") Module) ≡ at 1 Scope)
    × (verdict (syntax (lines (codes "def f():" ∷ codes "  for str in []:" ∷ codes "    pass" ∷ [])) Module) ≡ at 2 Scope)
    × (verdict (syntax (codes "x = [len for len in []]") Module) ≡ at 1 Scope)
    × (verdict (syntax (lines (codes "load(\"//a:b.bzl\", \"rule\")" ∷ [])) Module) ≡ at 1 Scope)
unfolding reading tokens_of scan begins line_starts turn read_lines lead then_at names_to string_at commas listed simple_at form_at chain next sign_at name_at keyword_at behind_close behind_comma behind_colon behind_else is_for names_in head_at member members clauses atom suffixes e9 e8 e7 e6 e5 e4 e3 e2 e1 read verdict
bound_once = (refl, refl, refl, refl, refl, refl, refl, refl, refl, refl, refl)

-- parameters are distinct, those with defaults come last, and no call repeats a keyword
pub calls_fit :
    (verdict (syntax (codes "def f(a, b = 1): pass") Module) ≡ well)
    × (verdict (syntax (codes "def f(a, a): pass") Module) ≡ at 1 Scope)
    × (verdict (syntax (codes "def f(a = 1, b): pass") Module) ≡ at 1 Scope)
    × (verdict (syntax (codes "def f(a = 1, b = 2, c): pass") Module) ≡ at 1 Scope)
    × (verdict (syntax (lines (codes "def f(a, b): pass" ∷ codes "x = f(a = 1, a = 2)" ∷ [])) Module) ≡ at 2 Scope)
    × (verdict (syntax (lines (codes "def f(a, b): pass" ∷ codes "x = f(a = 1, b = f(a = 1, b = 2))" ∷ [])) Module) ≡ well)
unfolding reading tokens_of scan begins line_starts turn read_lines lead then_at names_to string_at commas listed simple_at form_at chain next sign_at name_at keyword_at behind_close behind_comma behind_colon behind_else is_for names_in head_at member members clauses atom suffixes e9 e8 e7 e6 e5 e4 e3 e2 e1 read verdict
calls_fit = (refl, refl, refl, refl, refl, refl)

-- a name that is used is bound somewhere around, or by the top level anywhere
pub uses_bound :
    (verdict (syntax (codes "x = y") Module) ≡ at 1 Scope)
    × (verdict (syntax (lines (codes "def f():" ∷ codes "  return y" ∷ codes "y = 1" ∷ [])) Module) ≡ well)
    × (verdict (syntax (lines (codes "def f():" ∷ codes "  return x" ∷ codes "  x = 1" ∷ [])) Module) ≡ well)
    × (verdict (syntax (lines (codes "def f(): x = 1" ∷ codes "def g(): return x" ∷ [])) Module) ≡ at 2 Scope)
    × (verdict (syntax (codes "y = [x for x in x]") Module) ≡ at 1 Scope)
    × (verdict (syntax (lines (codes "x = [1]" ∷ codes "y = [x for x in x]" ∷ [])) Module) ≡ well)
    × (verdict (syntax (lines (codes "x = [a for a in []]" ∷ codes "y = a" ∷ [])) Module) ≡ at 2 Scope)
    × (verdict (syntax (lines (codes "x = [a for b in [] for a in a]" ∷ [])) Module) ≡ well)
    × (verdict (syntax (codes "def f(a = b, b = 1): pass") Module) ≡ at 1 Scope)
    × (verdict (syntax (lines (codes "def f(a): return [a for b in [a for a in a]]" ∷ [])) Module) ≡ well)
unfolding reading tokens_of scan begins line_starts turn read_lines lead then_at names_to string_at commas listed simple_at form_at chain next sign_at name_at keyword_at behind_close behind_comma behind_colon behind_else is_for names_in head_at member members clauses atom suffixes e9 e8 e7 e6 e5 e4 e3 e2 e1 read verdict
uses_bound = (refl, refl, refl, refl, refl, refl, refl, refl, refl, refl)

-- nothing is added to a name of the top level, though it binds that name
pub added_to :
    (verdict (syntax (codes "x += 1") Module) ≡ at 1 Scope)
    × (verdict (syntax (lines (codes "y = x" ∷ codes "x += 1" ∷ [])) Module) ≡ at 2 Scope)
    × (verdict (syntax (lines (codes "x = [1]" ∷ codes "x[0] += 1" ∷ [])) Module) ≡ well)
    × (verdict (syntax (lines (codes "def f():" ∷ codes "  x += 1" ∷ [])) Module) ≡ well)
unfolding reading tokens_of scan begins line_starts turn read_lines lead then_at names_to string_at commas listed simple_at form_at chain next sign_at name_at keyword_at behind_close behind_comma behind_colon behind_else is_for names_in head_at member members clauses atom suffixes e9 e8 e7 e6 e5 e4 e3 e2 e1 read verdict
added_to = (refl, refl, refl, refl)

-- the third slot, for a comprehension
abbrev own : OwnSlots
own = record { first = 2; end = 3 }

-- what names stand for: a function's slots are numbered by first bindings, a comprehension's come behind them
pub names :
    program (syntax (lines (codes "def f(a):" ∷ codes "  if a:" ∷ codes "    b = a" ∷ codes "  elif g:" ∷ codes "    b = len" ∷ codes "  else:" ∷ codes "    return [b for b in [x for x in b]]" ∷ codes "g = f(1)" ∷ [])) Module)
    ≡ Some (record {
      globals = codes "f" ∷ codes "g" ∷ [];
      loaded = 0;
      slots = 0;
      steps =
          step 1 (define 1 0 (codes "a" ∷ []) no_terms 3
          (step 2 (branch
          (a_branch 2 (named (slot 0)) (step 3 (assign (slot 1 ∷ []) (named (slot 0))) no_steps)
          (a_branch 4 (named (global 1)) (step 5 (assign (slot 1 ∷ []) (named (builtin len_function))) no_steps)
          no_branches))
          (step 7 (give_back (Some (each own (named (slot 2)) (for_each (slot 2 ∷ []) (each own (named (slot 2)) (for_each (slot 2 ∷ []) (named (slot 1)) done)) done)))) no_steps)) no_steps))
          (step 8 (assign (global 1 ∷ []) (invokes (named (global 0)) (more_terms (numeral 1) no_terms) no_keywords)) no_steps);
    })
unfolding reading tokens_of scan begins line_starts turn read_lines lead then_at names_to string_at commas listed simple_at form_at chain next sign_at name_at keyword_at behind_close behind_comma behind_colon behind_else is_for names_in head_at member members clauses atom suffixes e9 e8 e7 e6 e5 e4 e3 e2 e1 read program
names = refl

-- the numbers that the statements of a file bind, those of loads and the others
abbrev bound_numbers : Option Program → Option (List ℕ × List ℕ)
bound_numbers None = None
bound_numbers (Some p) = Some (all_loaded p.steps, all_own p.steps)

pub numbers :
    bound_numbers (program (syntax (lines (codes "'doc'" ∷ codes "load('//a:b.bzl', 'a', b = 'c')" ∷ codes "load('//a:c.bzl', 'd')" ∷ codes "x, y = 1, 2" ∷ codes "def f(): a = x" ∷ [])) Module))
    ≡ Some (0 ∷ 1 ∷ 2 ∷ [], 3 ∷ 4 ∷ 5 ∷ [])
unfolding reading tokens_of scan begins line_starts turn read_lines lead then_at names_to string_at commas listed simple_at form_at chain next sign_at name_at keyword_at behind_close behind_comma behind_colon behind_else program read e1 e2 e3 e4 e5 e6 e7 e8 e9 atom suffixes
numbers = refl
