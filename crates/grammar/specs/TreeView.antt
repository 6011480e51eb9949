-- The tree that the program's tree stands for. (This project's own.)
use Rattle.std.specs.Prelude.{ℕ, List, [], ◌∷◌, map}
use Rattle.std.specs.Global.{Box}
use Rattle.grammar.specs.Tree as written
use Rattle.grammar.specs.Bare.{Tree, named, numeral, quoted, tuple, listing, dict, choice, operates}
use Rattle.grammar.specs.Bare.{turned, selects, subscript, invokes, each, each_entry, Trees}
use Rattle.grammar.specs.Bare.{no_trees, more_trees, Entries, no_entries, more_entries, Keywords}
use Rattle.grammar.specs.Bare.{no_keywords, more_keywords, Rest, done, for_each, only_if}
use Rattle.grammar.specs.declared.tree.Operator as operators
use Rattle.grammar.specs.declared.tree.Operator.TheVariants as o
use Rattle.grammar.specs.declared.tree.Sign as signs
use Rattle.grammar.specs.declared.tree.Sign.TheVariants as s
use Rattle.grammar.specs.declared.tree.Expr.{Expr, fold-Expr}
use Rattle.grammar.specs.declared.tree.Clause.TheOpen.{Expr-F, Entry-F, Keyword-F, Clause-F}
use Rattle.grammar.specs.declared.tree.Entry.{Entry, fold-Entry}
use Rattle.grammar.specs.declared.tree.Keyword.{Keyword, fold-Keyword}
use Rattle.grammar.specs.declared.tree.Clause.{Clause, fold-Clause}

-- the operator that the program's operator stands for
abbrev pub operator_seen : operators.Operator → written.Operator
operator_seen o.Or = written.either
operator_seen o.And = written.both
operator_seen o.Equal = written.equal
operator_seen o.NotEqual = written.not_equal
operator_seen o.Less = written.less
operator_seen o.Greater = written.greater
operator_seen o.LessEqual = written.less_equal
operator_seen o.GreaterEqual = written.greater_equal
operator_seen o.In = written.within
operator_seen o.NotIn = written.not_within
operator_seen o.Add = written.add
operator_seen o.Subtract = written.subtract
operator_seen o.Multiply = written.multiply
operator_seen o.FloorDivide = written.divide
operator_seen o.Remainder = written.remainder

-- the operator before a part that the program's sign stands for
abbrev pub sign_seen : signs.Sign → written.Sign
sign_seen s.Not = written.negation
sign_seen s.Minus = written.opposite

-- a list of trees, as the items of a display or the positional arguments of a call
abbrev pub trees_of : List Tree → Trees
trees_of [] = no_trees
trees_of (t ∷ ts) = more_trees t (trees_of ts)

-- a list of keys with their values, as the entries of a dict
abbrev pub entries_of : List (Tree × Tree) → Entries
entries_of [] = no_entries
entries_of (e ∷ es) = more_entries e.0 e.1 (entries_of es)

-- a list of names with their values, as the arguments of a call
abbrev pub keywords_of : List (List ℕ × Tree) → Keywords
keywords_of [] = no_keywords
keywords_of (k ∷ ks) = more_keywords k.0 k.1 (keywords_of ks)

-- a list of clauses, as those of a comprehension
abbrev pub rests_of : List (Rest → Rest) → Rest
rests_of [] = done
rests_of (r ∷ rs) = r (rests_of rs)

-- one layer, whose parts are seen already
abbrev pub expr_step : Expr-F (Rest → Rest) Tree (Tree × Tree) (List ℕ × Tree) → Tree
expr_step (Expr-F.Name x) = named x
expr_step (Expr-F.Number n) = numeral n
expr_step (Expr-F.Str t) = quoted t
expr_step (Expr-F.Tuple ts) = tuple (trees_of ts.items)
expr_step (Expr-F.ListOf ts) = listing (trees_of ts.items)
expr_step (Expr-F.DictOf es) = dict (entries_of es.items)
expr_step (Expr-F.Choice a c b) = choice a.value c.value b.value
expr_step (Expr-F.Binary op a b) = operates (operator_seen op) a.value b.value
expr_step (Expr-F.Unary sign a) = turned (sign_seen sign) a.value
expr_step (Expr-F.Attribute f x) = selects f.value x
expr_step (Expr-F.Index f a) = subscript f.value a.value
expr_step (Expr-F.Call f ts ks) = invokes f.value (trees_of ts.items) (keywords_of ks.items)
expr_step (Expr-F.ListEach a rs) = each a.value (rests_of rs.items)
expr_step (Expr-F.DictEach k v rs) = each_entry k.value v.value (rests_of rs.items)

-- an entry of a dict, whose key and value are seen already
abbrev pub entry_step : Entry-F (Rest → Rest) Tree (Tree × Tree) (List ℕ × Tree) → Tree × Tree
entry_step e = (e.key, e.value)

-- an argument with its name, whose value is seen already
abbrev pub keyword_step : Keyword-F (Rest → Rest) Tree (Tree × Tree) (List ℕ × Tree) → List ℕ × Tree
keyword_step k = (k.name, k.value)

-- a clause of a comprehension before others, whose expression is seen already
abbrev pub clause_step : Clause-F (Rest → Rest) Tree (Tree × Tree) (List ℕ × Tree) → Rest → Rest
clause_step (Clause-F.For x xs t) = for_each x xs.items t
clause_step (Clause-F.If t) = only_if t

-- the tree of the program's expression
abbrev pub tree_of : Expr → Tree
tree_of = fold-Expr (Rest → Rest) Tree (Tree × Tree) (List ℕ × Tree)
    clause_step expr_step entry_step keyword_step

-- the tree of the program's expression behind a `Box`
abbrev pub tree_in : Box Expr → Tree
tree_in a = tree_of a.value

-- the key and the value of the program's entry of a dict
abbrev pub entry_of : Entry → Tree × Tree
entry_of = fold-Entry (Rest → Rest) Tree (Tree × Tree) (List ℕ × Tree)
    clause_step expr_step entry_step keyword_step

-- the name and the value of the program's argument with a name
abbrev pub keyword_of : Keyword → List ℕ × Tree
keyword_of = fold-Keyword (Rest → Rest) Tree (Tree × Tree) (List ℕ × Tree)
    clause_step expr_step entry_step keyword_step

-- the program's clause of a comprehension, before others
abbrev pub clause_of : Clause → Rest → Rest
clause_of = fold-Clause (Rest → Rest) Tree (Tree × Tree) (List ℕ × Tree)
    clause_step expr_step entry_step keyword_step

-- the trees of the program's expressions, in their order
abbrev pub trees : List Expr → Trees
trees es = trees_of (map tree_of es)

-- the program's entries of a dict, in their order
abbrev pub entries : List Entry → Entries
entries es = entries_of (map entry_of es)

-- the program's arguments with names, in their order
abbrev pub keywords : List Keyword → Keywords
keywords ks = keywords_of (map keyword_of ks)

-- the program's clauses of a comprehension, in their order
abbrev pub rests : List Clause → Rest
rests cs = rests_of (map clause_of cs)
