-- A small instance of the operations, in which small programs are run by computation: numbers, lists that names share, dicts
-- as lists of keys and values, walks that are counted, functions with defaults, `==`, `+`, `+=`, `len`, `fail`, `append`,
-- and a limit of ticks.
use Rattle.std.proofs.Common.{ℕ, zero, suc, ◌+◌, ◌-◌, Bool, true, false, if◌then◌else◌, not, nat_eq, List, [], ◌∷◌, ◌++◌, length, Option, Some, None}
use Rattle.std.specs.Prelude.{Result, Ok, Err, slice_get, slice_set, unwrap_or, bytes_eq, codes}
use Rattle.grammar.specs.Tree.{Operator, add, equal, not_equal}
use Rattle.meaning.specs.Names as names
use Rattle.program_tree.specs.Names.{Name}
use Rattle.meaning.specs.Names.{Predeclared, len_function, fail_function, true_value, false_value}
use Rattle.meaning.specs.Operations.{Refusal, FunctionId, Callee, plain, method, Operations}

pub data Value : Type 0 where
  nothing : Value
  truth_of : Bool → Value
  number : ℕ → Value
  text : List ℕ → Value
  list_at : ℕ → Value
  function : FunctionId → Value
  builtin : Predeclared → Value

pub data Kind : Type 0 where
  found : Refusal → Kind
  steps no_name wrong iterating failed : Kind

-- a list: its items, and how many walks over it are open
pub record Cell : Type 0 where
  pub items : List Value
  pub walks : ℕ

pub record Small : Type 0 where
  -- how many ticks are left
  pub left : ℕ
  pub cells : List Cell
  -- the values of names of the top level, by number, the last one first: globals, and names that loads bind
  pub globals : List (ℕ × Value)
  pub loads : List (ℕ × Value)
  -- the functions that were made, by number, with their names and defaults
  pub functions : List (ℕ × Name × List Value)

-- nothing was done yet, and so many ticks are left
abbrev pub fresh : ℕ → Small
fresh n = record { left = n; cells = []; globals = []; loads = []; functions = [] }

abbrev pub Answer : Type 0 → Type 0
Answer A = Result (A × Small) Kind

abbrev is_true : Value → Bool
is_true nothing = false
is_true (truth_of b) = b
is_true (number n) = not (nat_eq n 0)
is_true _ = true

abbrev ticked : {A : Type 0} → ℕ → A → Small → Answer A
ticked zero a s = Err steps
ticked (suc n) a s = Ok (a, record s { left = n })

abbrev with_cells : List Cell → Small → Small
with_cells cs s = record s { cells = cs }

-- a new list
abbrev made : List Value → Small → Answer Value
made vs s = Ok (list_at (length s.cells), with_cells (s.cells ++ record { items = vs; walks = 0 } ∷ []) s)

abbrev items_in : Value → Small → Answer (List Value)
items_in (list_at n) s = Ok ((unwrap_or (slice_get s.cells n) (record { items = []; walks = 0 })).items, s)
items_in _ s = Err wrong

-- a list is changed, if no walk over it is open
abbrev changed : {A : Type 0} → A → (List Value → List Value) → ℕ → List Cell → List Cell → Small → Answer A
changed a f n front [] s = Err wrong
changed a f zero front (c ∷ cs) s =
    if nat_eq c.walks 0 then Ok (a, with_cells (front ++ record c { items = f c.items } ∷ cs) s) else Err iterating
changed a f (suc n) front (c ∷ cs) s = changed a f n (front ++ c ∷ []) cs s

abbrev change_in : {A : Type 0} → A → Value → (List Value → List Value) → Small → Answer A
change_in a (list_at n) f s = changed a f n [] s.cells s
change_in a _ f s = Err wrong

abbrev walked : (ℕ → ℕ) → ℕ → List Cell → List Cell
walked f n [] = []
walked f zero (c ∷ cs) = record c { walks = f c.walks } ∷ cs
walked f (suc n) (c ∷ cs) = c ∷ walked f n cs

abbrev counting : (ℕ → ℕ) → Value → Small → Small
counting f (list_at n) s = with_cells (walked f n s.cells) s
counting f _ s = s

abbrev fewer : ℕ → ℕ
fewer n = n - 1

abbrev begun : Value → Answer (List Value) → Answer (List Value)
begun v (Ok r) = Ok (r.0, counting suc v r.1)
begun v (Err k) = Err k

abbrev joined : Operator → Value → Value → Small → Answer Value
joined add (number a) (number b) s = Ok (number (a + b), s)
joined equal (number a) (number b) s = ticked s.left (truth_of (nat_eq a b)) s
joined not_equal (number a) (number b) s = ticked s.left (truth_of (not (nat_eq a b))) s
joined _ _ _ s = Err wrong

-- a list is extended, as any name of it shows; numbers are added
abbrev extended : Value → Answer (List Value) → Answer Value
extended v (Ok r) = change_in v v (λ vs. vs ++ r.0) r.1
extended v (Err k) = Err k

abbrev increased : Value → Value → Small → Answer Value
increased (list_at n) v s = extended (list_at n) (items_in v s)
increased a b s = joined add a b s

abbrev nth : ℕ → Answer (List Value) → Answer Value
nth n (Ok r) = Ok (unwrap_or (slice_get r.0 n) nothing, r.1)
nth n (Err k) = Err k

abbrev item_of : Value → Value → Small → Answer Value
item_of v (number n) s = nth n (items_in v s)
item_of v _ s = Err wrong

abbrev item_set : Value → Value → Value → Small → Answer Unit
item_set b (number n) v s = change_in tt b (λ vs. slice_set vs n v) s
item_set b _ v s = Err wrong

abbrev latest : ℕ → List (ℕ × Value) → Small → Answer Value
latest n [] s = Err (found Refusal.unset)
latest n (p ∷ ps) s = if nat_eq n p.0 then Ok (p.1, s) else latest n ps s

abbrev defaults_in : ℕ → List (ℕ × Name × List Value) → List Value
defaults_in n [] = []
defaults_in n (p ∷ ps) = if nat_eq n p.0 then p.2 else defaults_in n ps

abbrev id_of : Value → Option FunctionId
id_of (function f) = Some f
id_of _ = None

abbrev counted : Answer (List Value) → Answer Value
counted (Ok r) = Ok (number (length r.0), r.1)
counted (Err k) = Err k

abbrev find_in : Value → Name → Small → Answer (Callee Value)
find_in v x s = if bytes_eq x (codes "append") then Ok (method v x, s) else Err no_name

abbrev called : Callee Value → List Value → Small → Answer Value
called (method v x) (a ∷ []) s = change_in nothing v (λ vs. vs ++ a ∷ []) s
called (plain (builtin len_function)) (v ∷ []) s = counted (items_in v s)
called (plain (builtin fail_function)) vs s = Err failed
called g vs s = Err wrong

abbrev bound : Predeclared → Value
bound true_value = truth_of true
bound false_value = truth_of false
bound names.none_value = nothing
bound p = builtin p

abbrev pub small : Operations Small Value Kind
small = record {
  refusal = found;
  number = number;
  string = text;
  none = nothing;
  predeclared = bound;
  truth = λ s v. is_true v;
  tick = λ s. ticked s.left tt s;
  binary = joined;
  sign = λ o v s. Err wrong;
  increase = increased;
  field = λ v x s. Err no_name;
  item = item_of;
  set_item = item_set;
  new_list = made;
  new_tuple = made;
  collect = λ v x. change_in tt v (λ vs. vs ++ x ∷ []);
  new_dict = made [];
  enter = λ d x y. change_in tt d (λ vs. vs ++ x ∷ y ∷ []);
  keep = λ d x y. change_in tt d (λ vs. vs ++ x ∷ y ∷ []);
  begin = λ v s. begun v (items_in v s);
  end = counting fewer;
  parts = items_in;
  global = λ file n s. latest n (s.globals ++ s.loads) s;
  set_global = λ file n v s. record s { globals = (n, v) ∷ s.globals };
  set_loaded = λ file n v s. record s { loads = (n, v) ∷ s.loads };
  loaded = λ file m x s. Ok (text x, s);
  define = λ f x vs s. Ok (function f, record s { functions = (f.number, x, vs) ∷ s.functions });
  defaults = λ f s. defaults_in f.number s.functions;
  function = id_of;
  find = find_in;
  call = λ g given s. called g given.items s;
}
