-- What each operation owes, so that an evaluation keeps what holds of states and of values. (This
-- project's own.)
use Rattle.std.specs.Prelude.{ℕ, List}
use Rattle.grammar.specs.Tree.{Operator, Sign}
use Rattle.program_tree.specs.Names.{Name}
use Rattle.meaning.specs.Names.{Predeclared}
use Rattle.meaning.specs.Operations.{FunctionId, Callee, Arguments, Operations}
use Rattle.keeping.specs.Kept.{Kept, goods, good_callee, good_arguments, Gives, anything}

-- each operation, given good values in a state that holds, gives a good value or good values and
-- leaves a state that holds, in a world that may have grown, unless it ends with a fault
pub record EachKeeps {S V K : Type 0} (r : Kept S V) (ops : Operations S V K) : Type 0 where
  -- values that are there without a state
  pub number : (k : r.World) (n : ℕ) → r.good k (ops.number n)
  pub string : (k : r.World) (t : List ℕ) → r.good k (ops.string t)
  pub none : (k : r.World) → r.good k ops.none
  pub predeclared : (k : r.World) (p : Predeclared) → r.good k (ops.predeclared p)
  -- operations on values
  pub tick : (k : r.World) (s : S) → r.holds k s → Gives r (anything r) k (ops.tick s)
  pub binary : (k : r.World) (o : Operator) (a b : V) (s : S) → r.good k a → r.good k b
      → r.holds k s → Gives r r.good k (ops.binary o a b s)
  pub sign : (k : r.World) (o : Sign) (a : V) (s : S) → r.good k a → r.holds k s
      → Gives r r.good k (ops.sign o a s)
  pub increase : (k : r.World) (a b : V) (s : S) → r.good k a → r.good k b → r.holds k s
      → Gives r r.good k (ops.increase a b s)
  pub field : (k : r.World) (a : V) (x : Name) (s : S) → r.good k a → r.holds k s
      → Gives r r.good k (ops.field a x s)
  pub item : (k : r.World) (a b : V) (s : S) → r.good k a → r.good k b → r.holds k s
      → Gives r r.good k (ops.item a b s)
  pub set_item : (k : r.World) (a b c : V) (s : S) → r.good k a → r.good k b → r.good k c
      → r.holds k s → Gives r (anything r) k (ops.set_item a b c s)
  -- displays and comprehensions
  pub new_list : (k : r.World) (vs : List V) (s : S) → goods r k vs → r.holds k s
      → Gives r r.good k (ops.new_list vs s)
  pub new_tuple : (k : r.World) (vs : List V) (s : S) → goods r k vs → r.holds k s
      → Gives r r.good k (ops.new_tuple vs s)
  pub collect : (k : r.World) (a b : V) (s : S) → r.good k a → r.good k b → r.holds k s
      → Gives r (anything r) k (ops.collect a b s)
  pub new_dict : (k : r.World) (s : S) → r.holds k s → Gives r r.good k (ops.new_dict s)
  pub enter : (k : r.World) (a b c : V) (s : S) → r.good k a → r.good k b → r.good k c
      → r.holds k s → Gives r (anything r) k (ops.enter a b c s)
  pub keep : (k : r.World) (a b c : V) (s : S) → r.good k a → r.good k b → r.good k c
      → r.holds k s → Gives r (anything r) k (ops.keep a b c s)
  -- walks
  pub begin : (k : r.World) (a : V) (s : S) → r.good k a → r.holds k s
      → Gives r (goods r) k (ops.begin a s)
  pub end : (k : r.World) (a : V) (s : S) → r.good k a → r.holds k s → r.holds k (ops.end a s)
  pub parts : (k : r.World) (a : V) (s : S) → r.good k a → r.holds k s
      → Gives r (goods r) k (ops.parts a s)
  -- names
  pub global : (k : r.World) (f n : ℕ) (s : S) → r.holds k s → Gives r r.good k (ops.global f n s)
  pub set_global : (k : r.World) (f n : ℕ) (a : V) (s : S) → r.good k a → r.holds k s
      → r.holds k (ops.set_global f n a s)
  pub set_loaded : (k : r.World) (f n : ℕ) (a : V) (s : S) → r.good k a → r.holds k s
      → r.holds k (ops.set_loaded f n a s)
  pub loaded : (k : r.World) (f : ℕ) (t : List ℕ) (x : Name) (s : S) → r.holds k s
      → Gives r r.good k (ops.loaded f t x s)
  -- functions and calls
  pub define : (k : r.World) (f : FunctionId) (x : Name) (vs : List V) (s : S) → goods r k vs
      → r.holds k s → Gives r r.good k (ops.define f x vs s)
  pub defaults : (k : r.World) (f : FunctionId) (s : S) → r.holds k s → goods r k (ops.defaults f s)
  pub find : (k : r.World) (a : V) (x : Name) (s : S) → r.good k a → r.holds k s
      → Gives r (good_callee r) k (ops.find a x s)
  pub call : (k : r.World) (g : Callee V) (a : Arguments V) (s : S) → good_callee r k g
      → good_arguments r k a → r.holds k s → Gives r r.good k (ops.call g a s)
