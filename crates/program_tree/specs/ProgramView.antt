-- The file with resolved names that the program's tree stands for. (This project's own.)
use Rattle.std.specs.Prelude.{ℕ, List, [], ◌∷◌, map, option_map}
use Rattle.grammar.specs.TreeView.{operator_seen, sign_seen}
use Rattle.program_tree.specs.Resolved as resolved
use Rattle.program_tree.specs.Resolved.{Terms, no_terms, more_terms, Pairs, no_pairs, more_pairs}
use Rattle.program_tree.specs.Resolved.{Keywords, no_keywords, more_keywords, Rounds, done}
use Rattle.program_tree.specs.Resolved.{for_each, only_if, Branches, no_branches, a_branch, Steps}
use Rattle.program_tree.specs.Resolved.{no_steps, step}
use Rattle.program_tree.specs.declared.program.Term.{Term, fold-Term}
use Rattle.program_tree.specs.declared.program.Round.TheOpen.{Term-F, Pair-F, Argument-F, Round-F}
use Rattle.program_tree.specs.declared.program.Pair.{Pair, fold-Pair}
use Rattle.program_tree.specs.declared.program.Argument.{Argument, fold-Argument}
use Rattle.program_tree.specs.declared.program.Round.{Round, fold-Round}
use Rattle.program_tree.specs.declared.program.Statement.{Statement, fold-Statement}
use Rattle.program_tree.specs.declared.program.Branch.{Branch, fold-Branch}
use Rattle.program_tree.specs.declared.program.Statement.TheOpen.{Statement-F, Branch-F, Function-F}
use Rattle.program_tree.specs.declared.program.Statement.TheOpen.{Step-F}
use Rattle.program_tree.specs.declared.program.Step.{Step, fold-Step}

-- things one after the other, before others
abbrev pub onto : {A R : Type 0} → (A → R → R) → List A → R → R
onto f [] r = r
onto f (x ∷ xs) r = f x (onto f xs r)

-- expressions before others
abbrev pub terms_onto : List resolved.Term → Terms → Terms
terms_onto = onto more_terms

-- entries of a dict before others
abbrev pub pairs_onto : List (resolved.Term × resolved.Term) → Pairs → Pairs
pairs_onto = onto (λ p r. more_pairs p.0 p.1 r)

-- arguments with names before others
abbrev pub keywords_onto : List (List ℕ × resolved.Term) → Keywords → Keywords
keywords_onto = onto (λ k r. more_keywords k.0 k.1 r)

-- clauses of a comprehension before others
abbrev pub rounds_onto : List (Rounds → Rounds) → Rounds → Rounds
rounds_onto = onto (λ f r. f r)

-- statements with their lines before others
abbrev pub steps_onto : List (ℕ × resolved.Statement) → Steps → Steps
steps_onto = onto (λ s r. step s.0 s.1 r)

-- one layer, whose parts are seen already
abbrev pub term_step : Term-F (Rounds → Rounds) resolved.Term (List ℕ × resolved.Term)
    (resolved.Term × resolved.Term) → resolved.Term
term_step (Term-F.Name b) = resolved.named b
term_step (Term-F.Number n) = resolved.numeral n
term_step (Term-F.Str t) = resolved.quoted t
term_step (Term-F.Tuple ts) = resolved.tuple (terms_onto ts.items no_terms)
term_step (Term-F.ListOf ts) = resolved.listing (terms_onto ts.items no_terms)
term_step (Term-F.DictOf ps) = resolved.dict (pairs_onto ps.items no_pairs)
term_step (Term-F.Choice a c b) = resolved.choice a.value c.value b.value
term_step (Term-F.Binary op a b) = resolved.operates (operator_seen op) a.value b.value
term_step (Term-F.Unary sign a) = resolved.turned (sign_seen sign) a.value
term_step (Term-F.Attribute f x) = resolved.selects f.value x
term_step (Term-F.Index f a) = resolved.subscript f.value a.value
term_step (Term-F.Call f ts ks) =
    resolved.invokes f.value (terms_onto ts.items no_terms) (keywords_onto ks.items no_keywords)
term_step (Term-F.ListEach own a rs) = resolved.each own a.value (rounds_onto rs.items done)
term_step (Term-F.DictEach own k v rs) =
    resolved.each_pair own k.value v.value (rounds_onto rs.items done)

-- one layer of an entry of a dict
abbrev pub pair_step : Pair-F (Rounds → Rounds) resolved.Term (List ℕ × resolved.Term)
    (resolved.Term × resolved.Term) → resolved.Term × resolved.Term
pair_step p = (p.key, p.value)

-- one layer of an argument with its name
abbrev pub argument_step : Argument-F (Rounds → Rounds) resolved.Term (List ℕ × resolved.Term)
    (resolved.Term × resolved.Term) → List ℕ × resolved.Term
argument_step k = (k.name, k.value)

-- one layer of a clause, before the clauses behind it
abbrev pub round_step : Round-F (Rounds → Rounds) resolved.Term (List ℕ × resolved.Term)
    (resolved.Term × resolved.Term) → Rounds → Rounds
round_step (Round-F.For bs t) = for_each bs.items t
round_step (Round-F.If t) = only_if t

-- the expression that a tree of the program stands for
abbrev pub term : Term → resolved.Term
term = fold-Term (Rounds → Rounds) resolved.Term (List ℕ × resolved.Term)
    (resolved.Term × resolved.Term) round_step term_step argument_step pair_step

-- the entry of a dict that one of the program stands for: its key and its value
abbrev pub pair : Pair → resolved.Term × resolved.Term
pair = fold-Pair (Rounds → Rounds) resolved.Term (List ℕ × resolved.Term)
    (resolved.Term × resolved.Term) round_step term_step argument_step pair_step

-- the argument that one of the program stands for: its name and its value
abbrev pub argument : Argument → List ℕ × resolved.Term
argument = fold-Argument (Rounds → Rounds) resolved.Term (List ℕ × resolved.Term)
    (resolved.Term × resolved.Term) round_step term_step argument_step pair_step

-- the clause that one of the program stands for, before the clauses behind it
abbrev pub round : Round → Rounds → Rounds
round = fold-Round (Rounds → Rounds) resolved.Term (List ℕ × resolved.Term)
    (resolved.Term × resolved.Term) round_step term_step argument_step pair_step

-- expressions one after the other: items, positional arguments, or defaults
abbrev pub terms : List Term → Terms
terms ts = terms_onto (map term ts) no_terms

-- the entries of a dict
abbrev pub pairs : List Pair → Pairs
pairs ps = pairs_onto (map pair ps) no_pairs

-- the arguments of a call that have names
abbrev pub keywords : List Argument → Keywords
keywords ks = keywords_onto (map argument ks) no_keywords

-- the clauses of a comprehension
abbrev pub rounds : List Round → Rounds
rounds rs = rounds_onto (map round rs) done

-- branches one after the other, before others
abbrev pub branches_onto : List (Branches → Branches) → Branches → Branches
branches_onto = onto (λ f r. f r)

-- a statement, whose blocks are seen already
abbrev pub statement_step : Statement-F resolved.Statement (Branches → Branches) resolved.Statement
    (ℕ × resolved.Statement) → resolved.Statement
statement_step (Statement-F.Load p items) = resolved.load p items.items
statement_step (Statement-F.Define f) = f
statement_step (Statement-F.If bs other) =
    resolved.branch (branches_onto bs.items no_branches) (steps_onto other.items no_steps)
statement_step (Statement-F.For bs a inner) =
    resolved.loop bs.items (term a) (steps_onto inner.items no_steps)
statement_step (Statement-F.Assign bs a) = resolved.assign bs.items (term a)
statement_step (Statement-F.AssignAt f a b) =
    resolved.assign_item (term f.value) (term a.value) (term b)
statement_step (Statement-F.Add x a) = resolved.add_to x (term a)
statement_step (Statement-F.AddAt f a b) =
    resolved.add_to_item (term f.value) (term a.value) (term b)
statement_step (Statement-F.Evaluate a) = resolved.evaluate (term a)
statement_step Statement-F.Pass = resolved.pass
statement_step Statement-F.Break = resolved.break_loop
statement_step Statement-F.Continue = resolved.continue_loop
statement_step (Statement-F.Return a) = resolved.give_back (option_map term a)

-- a branch of a condition, whose block is seen already
abbrev pub branch_step : Branch-F resolved.Statement (Branches → Branches) resolved.Statement
    (ℕ × resolved.Statement) → Branches → Branches
branch_step b = a_branch b.line (term b.test) (steps_onto b.steps.items no_steps)

-- a `def`, whose block is seen already
abbrev pub function_step : Function-F resolved.Statement (Branches → Branches) resolved.Statement
    (ℕ × resolved.Statement) → resolved.Statement
function_step f = resolved.define f.number f.binds f.params.items (terms f.defaults.items) f.slots
    (steps_onto f.steps.items no_steps)

-- a statement that is seen already, with its line
abbrev pub step_step : Step-F resolved.Statement (Branches → Branches) resolved.Statement
    (ℕ × resolved.Statement) → ℕ × resolved.Statement
step_step s = (s.line, s.statement)

-- the statement that a tree of the program stands for
abbrev pub statement : Statement → resolved.Statement
statement = fold-Statement resolved.Statement (Branches → Branches) resolved.Statement
    (ℕ × resolved.Statement) statement_step branch_step function_step step_step

-- the statement that one of the program stands for, with the first line of its logical line
abbrev pub line_and_statement : Step → ℕ × resolved.Statement
line_and_statement = fold-Step resolved.Statement (Branches → Branches) resolved.Statement
    (ℕ × resolved.Statement) statement_step branch_step function_step step_step

-- the branch that one of the program stands for, before the branches behind it
abbrev pub branch : Branch → Branches → Branches
branch = fold-Branch resolved.Statement (Branches → Branches) resolved.Statement
    (ℕ × resolved.Statement) statement_step branch_step function_step step_step

-- the branches of a condition
abbrev pub branches : List Branch → Branches
branches bs = branches_onto (map branch bs) no_branches

-- statements one after the other: those of a block or of the top level
abbrev pub steps : List Step → Steps
steps ss = steps_onto (map line_and_statement ss) no_steps
