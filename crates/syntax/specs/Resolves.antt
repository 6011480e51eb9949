-- What the functions that resolve names ensure. (This project's own; the rules of scopes are those
-- of docs/PROFILE.md, "Scopes".)
use Rattle.std.specs.Prelude.{◌≡◌, ◌≤◌, ℕ, Bool, true, false, not, ◌&&◌, List, Option, Some, None}
use Rattle.std.specs.Prelude.{Result, Ok, Err, max, option_map, reverse}
use Rattle.std.specs.Global.{Box}
use Rattle.std.specs.declared.alloc.Global.{Global}
use Rattle.std.specs.declared.vec.Vec.{Vec}
use denote.Ref.{Bor, MutBor}
use Rattle.grammar.specs.declared.tree.Expr.{Expr}
use Rattle.grammar.specs.declared.statements.Line.{Line, out-Line}
use Rattle.program_tree.specs.declared.program.Term.{Term}
use Rattle.program_tree.specs.declared.program.Step.{Step}
use Rattle.syntax.specs.declared.resolver.Unresolved.{Unresolved}
use Rattle.syntax.specs.declared.resolver.Unresolved.TheVariants as stop
use Rattle.syntax.specs.declared.heads.Head as head
use Rattle.syntax.specs.declared.heads.Head.TheVariants as h
use Rattle.syntax.specs.declared.steps.Stopped.{Stopped}
use Rattle.syntax.specs.declared.steps.Stopped.TheVariants as stopped
use Rattle.syntax.specs.declared.steps.Inner.{Inner}
use Rattle.syntax.specs.declared.steps.Behind.{Behind}
use Rattle.syntax.specs.declared.steps.Later.{Later}
use Rattle.grammar.specs.Bare.{Tree, Rest, done, for_each, only_if}
use Rattle.grammar.specs.BareLines.{Form, Lines, a_line}
use Rattle.grammar.specs.BareDepth.{form_depth, lines_depth, tree_depth}
use Rattle.grammar.specs.LineView.{form_in, lines}
use Rattle.grammar.specs.TreeView.{tree_of}
use Rattle.program_tree.specs.Names.{Name, Scope, apart, clause_names, distinct, form_binds}
use Rattle.program_tree.specs.Names.{or_else, scope_of, width}
use Rattle.program_tree.specs.ProgramView as view
use Rattle.program_tree.specs.Resolved as resolved
use Rattle.program_tree.specs.Resolved.{Made, Steps, own_slots, steps_of}
use Rattle.program_tree.specs.declared.program.OwnSlots.{OwnSlots}
use Rattle.file_syntax.specs.Scopes.{adds_to_name, line_scoped, lines_fault, none_predeclared}
use Rattle.file_syntax.specs.Scopes.{rest_scoped, scoped, unless}
use Rattle.scopes.specs.ScopeView.{entered}

-- the expression of the first clause of a comprehension
abbrev pub first_tree : Rest → Option Tree
first_tree done = None
first_tree (for_each x xs a r) = Some a
first_tree (only_if a r) = Some a

-- the rules of the first clause of a comprehension, in the scope around it
abbrev pub first_scoped : Scope → Rest → Bool
first_scoped s done = true
first_scoped s (for_each x xs a r) = scoped s a
first_scoped s (only_if a r) = scoped s a

-- the rules of its other clauses, in its own scope
abbrev pub others_scoped : Scope → Rest → Bool
others_scoped s done = true
others_scoped s (for_each x xs a r) = rest_scoped s s r
others_scoped s (only_if a r) = rest_scoped s s r

-- what a function ensures that resolves a part of a file: it gives what is meant only where the
-- part breaks no rule of scopes, says that one is broken only where one is, and leaves the scope as
-- it was
abbrev pub Gives : {A B : Type 0} → (A → B) → (Scope → Bool) → (Scope → B) → Scope
    → Result A Unresolved → Scope → Type 0
Gives seen kept meant old (Ok v) new = (kept old ≡ true) × (seen v ≡ meant old) × (new ≡ old)
Gives seen kept meant old (Err stop.Breaks) new = (kept old ≡ false) × (new ≡ old)
Gives seen kept meant old (Err stop.NoMemory) new = Unit {0}

-- the same without what is given
abbrev pub Keeps : {A : Type 0} → (Scope → Bool) → Scope → Result A Unresolved → Scope → Type 0
Keeps kept old (Ok v) new = (kept old ≡ true) × (new ≡ old)
Keeps kept old (Err stop.Breaks) new = (kept old ≡ false) × (new ≡ old)
Keeps kept old (Err stop.NoMemory) new = Unit {0}

-- the same of an expression
abbrev pub GivesTerm : Tree → Scope → Result Term Unresolved → Scope → Type 0
GivesTerm t = Gives view.term (λ s. scoped s t) (λ s. resolved.term s t)

-- the expression behind a box
abbrev pub boxed_term : Box Term → resolved.Term
boxed_term b = view.term b.value

-- what such a function ensures of an expression that it gives behind a box
abbrev pub GivesBoxed : Tree → Scope → Result (Box Term) Unresolved → Scope → Type 0
GivesBoxed t = Gives boxed_term (λ s. scoped s t) (λ s. resolved.term s t)

-- what a function ensures that goes into a comprehension with these clauses, and resolves the
-- expression of the first, which stands outside of its scope
abbrev pub Enters : Rest → Scope → Result (OwnSlots × Option (Box Term)) Unresolved → Scope → Type 0
Enters r old (Ok (own, first)) new =
    ((none_predeclared (clause_names r) && first_scoped old r) ≡ true)
    × (option_map boxed_term first ≡ option_map (resolved.term old) (first_tree r))
    × (own ≡ own_slots old r)
    × (new ≡ entered (clause_names r) old)
Enters r old (Err stop.Breaks) new =
    ((none_predeclared (clause_names r) && first_scoped old r) ≡ false) × (new ≡ old)
Enters r old (Err stop.NoMemory) new = Unit {0}

-- a function value that resolves the expressions inside, of which no more than so many are inside
-- of one another
pub record ResolvesInside (turns : ℕ) (pre : Global → MutBor Scope → Bor Expr → ℕ → Type 0)
    (post : Global → MutBor Scope → Bor Expr → ℕ → Result Term Unresolved → MutBor Scope
    → Type 0) : Type 0 where
  pub callable : (alloc : Global) (old : MutBor Scope) (e : Bor Expr)
      → tree_depth (tree_of e.now) ≤ turns → pre alloc old e turns
  pub gives : (alloc : Global) (old new : MutBor Scope) (e : Bor Expr) (r : Result Term Unresolved)
      → post alloc old e turns r new
      → GivesTerm (tree_of e.now) old.now r new.now

-- a line without its block, as the program keeps it
abbrev pub head_seen : head.Head → resolved.Head
head_seen (h.Simple st) = resolved.simple (view.statement st)
head_seen (h.If a) = resolved.tests (view.term a)
head_seen (h.Elif a) = resolved.tests_again (view.term a)
head_seen h.Else = resolved.otherwise
head_seen (h.For bs a) = resolved.repeats bs.items (view.term a)
head_seen (h.Def b ps ds) = resolved.makes b ps.items (view.terms ds.items)

-- the same as `Gives`, of a line
abbrev pub GivesHead : (Scope → Form → Bool) → Form → Scope → Result head.Head Unresolved → Scope
    → Type 0
GivesHead kept f old (Ok h) new =
    (kept old f ≡ true) × (head_seen h ≡ resolved.head old f) × (new ≡ old)
GivesHead kept f old (Err stop.Breaks) new = (kept old f ≡ false) × (new ≡ old)
GivesHead kept f old (Err stop.NoMemory) new = Unit {0}

-- what a function ensures that resolves lines: it gives what is meant only where no line breaks a
-- rule of scopes, tells of no line but the first that does, and leaves the scope as it was
abbrev pub Places : {A : Type 0} → (Scope → Option ℕ) → (A → Scope → Type 0) → Scope
    → Result A Stopped → Scope → Type 0
Places fault meant old (Ok v) new = (fault old ≡ None) × meant v old × (new ≡ old)
Places fault meant old (Err (stopped.At n)) new = (fault old ≡ Some n) × (new ≡ old)
Places fault meant old (Err stopped.NoMemory) new = Unit {0}

-- the same where the statements of the lines are given
abbrev pub PlacesSteps : (Scope → Option ℕ) → (Scope → Steps) → Scope
    → Result (Vec Step Global) Stopped → Scope → Type 0
PlacesSteps fault meant = Places fault (λ v s. view.steps v.items ≡ meant s)

-- out of a block, to the levels that it was entered from, if it has levels of its own
abbrev pub back : Option (List (List Name)) → Scope → Scope
back None s = s
back (Some ls) s = record { globals = s.globals; levels = ls }

-- a line before others, whose block is seen already
abbrev pub before_lines : Line → Lines → Lines
before_lines l rest =
    a_line (out-Line l).number (form_in (out-Line l).form) (lines (out-Line l).block.items) rest

-- the depth of the deepest expression of a line and of its block
abbrev pub line_depth : Line → ℕ
line_depth l =
    max (form_depth (form_in (out-Line l).form)) (lines_depth (lines (out-Line l).block.items))

-- the line itself, where it breaks a rule, or the first in its block
abbrev pub own_fault : Scope → Line → Option ℕ
own_fault s l =
    let f = form_in (out-Line l).form in
    let inner = lines (out-Line l).block.items in
    or_else (unless (out-Line l).number (line_scoped s f)) (lines_fault (scope_of s f inner) inner)

-- what is made of a line itself and of its block
abbrev pub IsOwn : Scope → Line → head.Head → Inner → Type 0
IsOwn s l h i =
    let f = form_in (out-Line l).form in
    let ls = lines (out-Line l).block.items in
    (head_seen h ≡ resolved.head s f) × (view.steps i.steps.items ≡ steps_of (scope_of s f ls) ls)
    × (i.slots ≡ width (scope_of s f ls).levels)

-- what was made of lines, which the program keeps from the last to the first
abbrev pub behind_seen : Behind → Made
behind_seen b =
    record {
      branches = view.branches (reverse b.branches.items);
      other = view.steps b.other.items;
      steps = view.steps (reverse b.steps.items);
    }

-- what is made of a line and those behind it, over what was made of those
abbrev pub FollowsOn : Scope → Line → Behind → Behind → Type 0
FollowsOn s l behind new = (rest : Lines) → resolved.made s rest ≡ behind_seen behind
    → resolved.made s (before_lines l rest) ≡ behind_seen new

-- what is known of lines that were gone through
abbrev pub IsLater : Scope → Lines → Later → Type 0
IsLater s rest l =
    (lines_fault s rest ≡ l.fault) × (l.fault ≡ None → resolved.made s rest ≡ behind_seen l.behind)

-- a line of the top level, which has bound these names before, binds none a second time, and adds
-- to none
abbrev pub binds_anew : List Name → Form → Bool
binds_anew before f =
    distinct (form_binds f) && (apart (form_binds f) before && not (adds_to_name f))
