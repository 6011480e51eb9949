-- Where two records of operations agree: on values that are good, in states that hold. (This
-- project's own.)
use Rattle.std.specs.Prelude.{◌≡◌, ℕ, List}
use Rattle.grammar.specs.Tree.{Operator, Sign}
use Rattle.program_tree.specs.Names.{Name}
use Rattle.meaning.specs.Names.{Predeclared}
use Rattle.meaning.specs.Operations.{Refusal, FunctionId, Callee, Arguments, Operations}
use Rattle.keeping.specs.Kept.{Kept, goods, good_callee, good_arguments}

-- two records of operations do the same, given good values in a state that holds
pub record EachAgrees {S V K : Type 0} (r : Kept S V) (ops other : Operations S V K) : Type 0 where
  -- the faults that evaluation finds, and values that are there without a state
  pub refusal : (x : Refusal) → ops.refusal x ≡ other.refusal x
  pub number : (n : ℕ) → ops.number n ≡ other.number n
  pub string : (t : List ℕ) → ops.string t ≡ other.string t
  pub none : ops.none ≡ other.none
  pub predeclared : (p : Predeclared) → ops.predeclared p ≡ other.predeclared p
  -- operations on values
  pub truth : (k : r.World) (a : V) (s : S) → r.good k a → r.holds k s →
      ops.truth s a ≡ other.truth s a
  pub tick : (k : r.World) (s : S) → r.holds k s → ops.tick s ≡ other.tick s
  pub binary : (k : r.World) (o : Operator) (a b : V) (s : S) → r.good k a → r.good k b
      → r.holds k s →
      ops.binary o a b s ≡ other.binary o a b s
  pub sign : (k : r.World) (o : Sign) (a : V) (s : S) → r.good k a → r.holds k s →
      ops.sign o a s ≡ other.sign o a s
  pub increase : (k : r.World) (a b : V) (s : S) → r.good k a → r.good k b → r.holds k s →
      ops.increase a b s ≡ other.increase a b s
  pub field : (k : r.World) (a : V) (x : Name) (s : S) → r.good k a → r.holds k s →
      ops.field a x s ≡ other.field a x s
  pub item : (k : r.World) (a b : V) (s : S) → r.good k a → r.good k b → r.holds k s →
      ops.item a b s ≡ other.item a b s
  pub set_item : (k : r.World) (a b c : V) (s : S) → r.good k a → r.good k b → r.good k c
      → r.holds k s →
      ops.set_item a b c s ≡ other.set_item a b c s
  -- displays and comprehensions
  pub new_list : (k : r.World) (vs : List V) (s : S) → goods r k vs → r.holds k s →
      ops.new_list vs s ≡ other.new_list vs s
  pub new_tuple : (k : r.World) (vs : List V) (s : S) → goods r k vs → r.holds k s →
      ops.new_tuple vs s ≡ other.new_tuple vs s
  pub collect : (k : r.World) (a b : V) (s : S) → r.good k a → r.good k b → r.holds k s →
      ops.collect a b s ≡ other.collect a b s
  pub new_dict : (k : r.World) (s : S) → r.holds k s → ops.new_dict s ≡ other.new_dict s
  pub enter : (k : r.World) (a b c : V) (s : S) → r.good k a → r.good k b → r.good k c
      → r.holds k s →
      ops.enter a b c s ≡ other.enter a b c s
  pub keep : (k : r.World) (a b c : V) (s : S) → r.good k a → r.good k b → r.good k c
      → r.holds k s →
      ops.keep a b c s ≡ other.keep a b c s
  -- walks
  pub begin : (k : r.World) (a : V) (s : S) → r.good k a → r.holds k s →
      ops.begin a s ≡ other.begin a s
  pub end : (k : r.World) (a : V) (s : S) → r.good k a → r.holds k s → ops.end a s ≡ other.end a s
  pub parts : (k : r.World) (a : V) (s : S) → r.good k a → r.holds k s →
      ops.parts a s ≡ other.parts a s
  -- names
  pub global : (k : r.World) (f n : ℕ) (s : S) → r.holds k s → ops.global f n s ≡ other.global f n s
  pub set_global : (k : r.World) (f n : ℕ) (a : V) (s : S) → r.good k a → r.holds k s →
      ops.set_global f n a s ≡ other.set_global f n a s
  pub set_loaded : (k : r.World) (f n : ℕ) (a : V) (s : S) → r.good k a → r.holds k s →
      ops.set_loaded f n a s ≡ other.set_loaded f n a s
  pub loaded : (k : r.World) (f : ℕ) (t : List ℕ) (x : Name) (s : S) → r.holds k s →
      ops.loaded f t x s ≡ other.loaded f t x s
  -- functions and calls
  pub define : (k : r.World) (f : FunctionId) (x : Name) (vs : List V) (s : S) → goods r k vs
      → r.holds k s →
      ops.define f x vs s ≡ other.define f x vs s
  pub defaults : (k : r.World) (f : FunctionId) (s : S) → r.holds k s →
      ops.defaults f s ≡ other.defaults f s
  pub function : (a : V) → ops.function a ≡ other.function a
  pub find : (k : r.World) (a : V) (x : Name) (s : S) → r.good k a → r.holds k s →
      ops.find a x s ≡ other.find a x s
  pub call : (k : r.World) (g : Callee V) (a : Arguments V) (s : S) → good_callee r k g
      → good_arguments r k a → r.holds k s →
      ops.call g a s ≡ other.call g a s
