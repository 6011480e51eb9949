-- What an expression does (Starlark specification, "Expressions"): its value, and what it changes,
-- in the order of the text.
use Rattle.std.specs.Prelude.{◌-◌, nat_eq, Bool, if◌then◌else◌, List, [], ◌∷◌, ◌++◌, length, Option}
use Rattle.std.specs.Prelude.{Some, None}
use Rattle.grammar.specs.Tree.{Operator, either, both}
use Rattle.program_tree.specs.Names.{Name}
use Rattle.program_tree.specs.Resolved as tree
use Rattle.program_tree.specs.Resolved.{Term, named, numeral, quoted, tuple, listing, dict, choice}
use Rattle.program_tree.specs.Resolved.{operates, turned, selects, subscript, invokes, each}
use Rattle.program_tree.specs.Resolved.{each_pair, Terms, no_terms, more_terms, Pairs, no_pairs}
use Rattle.program_tree.specs.Resolved.{more_pairs, Keywords, no_keywords, more_keywords, Rounds}
use Rattle.program_tree.specs.Resolved.{for_each, only_if}
use Rattle.meaning.specs.Names.{OwnSlots, Binding, slot, global, builtin}
use Rattle.meaning.specs.Operations.{Callee, plain, Arguments, arity, Operations}
use Rattle.meaning.specs.Outcome.{done, Final, resumed, Effect, ◌>>=◌, pure, raise, act, change}
use Rattle.meaning.specs.Outcome.{Here, cleared, set_slot, slot_value}
use Rattle.meaning.specs.Entry.{paired}

-- what calls do
abbrev pub Invoke : Type 0 → Type 0 → Type 0 → Type 0
Invoke S V K = Here → Callee V → Arguments V → S → Final S V K

-- when an operator goes on to its right side: `and` and `or` may end with the left one
pub data Way : Type 0 where
  while_true while_false always : Way

-- `and` goes on where its left side is true, `or` where it isn't, all others always
abbrev pub way : Operator → Way
way both = while_true
way either = while_false
way _ = always

-- the names of the arguments of a call that have names, in the order of the text
abbrev pub names_of : Keywords → List Name
names_of no_keywords = []
names_of (more_keywords x e ks) = x ∷ names_of ks

module _ {S V K : Type 0} (ops : Operations S V K) where
  -- whether a value counts as true, in the state as it is then
  abbrev pub truth : V → Effect S V K Bool
  truth v = λ l s. done (ops.truth s v) l s

  -- a name is read
  abbrev pub read : Here → Binding → Effect S V K V
  read here (slot n) = slot_value ops here n
  read here (global n) = act here (ops.global here.file n)
  read here (builtin p) = pure (ops.predeclared p)

  -- a name gets a value
  abbrev pub set : Here → Binding → V → Effect S V K Unit
  set here (slot n) v = set_slot n (Some v)
  set here (global n) v = change (ops.set_global here.file n v)
  set here (builtin p) v = pure tt

  -- names get values from left to right
  abbrev pub set_each : Here → List Binding → List V → Effect S V K Unit
  set_each here [] vs = pure tt
  set_each here (b ∷ bs) [] = pure tt
  set_each here (b ∷ bs) (v ∷ vs) = set here b v >>= λ _. set_each here bs vs

  -- names get these items, if there are as many
  abbrev pub unpacked : Here → List Binding → List V → Effect S V K Unit
  unpacked here bs vs =
      if nat_eq (length vs) (length bs) then set_each here bs vs else raise here (ops.refusal arity)

  -- one name gets the value; several get the items of a sequence, which has as many (Starlark
  -- specification, "Assignments")
  abbrev pub assigned : Here → List Binding → V → Effect S V K Unit
  assigned here [] v = pure tt
  assigned here (b ∷ []) v = set here b v
  assigned here (b ∷ c ∷ bs) v = act here (ops.parts v) >>= unpacked here (b ∷ c ∷ bs)

  -- nothing is set in the slots of a comprehension's own names, if it still has them from before
  abbrev pub forget : Option OwnSlots → Effect S V K Unit
  forget None = pure tt
  forget (Some own) = λ l s. done tt (cleared (own.end - own.first) own.first l) s

  -- an operator, of what gives its left and its right side (Starlark specification, "`or` and
  -- `and`", "Binary operators")
  abbrev pub joined : Way → Operator → Here → Effect S V K V → Effect S V K V → Effect S V K V
  joined while_true o here m n = m >>= λ x. truth x >>= λ t. if t then n else pure x
  joined while_false o here m n = m >>= λ x. truth x >>= λ t. if t then pure x else n
  joined always o here m n = m >>= λ x. n >>= λ y. act here (ops.binary o x y)

  -- what is done while a value is walked, which can't be changed meanwhile
  abbrev pub walking : {A : Type 0} → Here → V → (List V → Effect S V K A) → Effect S V K A
  walking here v f =
      act here (ops.begin v) >>= λ vs. f vs >>= λ a. change (ops.end v) >>= λ _. pure a

  -- a turn for each item, which begins with a tick
  abbrev pub turns : Here → (V → Effect S V K Unit) → List V → Effect S V K Unit
  turns here f [] = pure tt
  turns here f (v ∷ vs) = act here ops.tick >>= λ _. f v >>= λ _. turns here f vs

  module _ (invoke : Invoke S V K) where
    -- a call, after its arguments: those by position, then those by name (Starlark specification,
    -- "Function and method calls")
    abbrev pub calling : Here → Callee V → Effect S V K (List V) → Effect S V K (List V) →
        List Name → Effect S V K V
    calling here g items behind names =
        items >>= λ vs. behind >>= λ ws. λ l s.
        resumed l (invoke here g (record { items = vs; named = paired names ws }) s)

    unfoldable mutual
      -- the value of an expression
      pub eval : Term → Here → Effect S V K V
      eval (named b) here = read here b
      eval (numeral n) here = pure (ops.number n)
      eval (quoted t) here = pure (ops.string t)
      eval (tuple es) here = evals es here [] >>= λ vs. act here (ops.new_tuple vs)
      eval (listing es) here = evals es here [] >>= λ vs. act here (ops.new_list vs)
      eval (dict ps) here = act here ops.new_dict >>= λ d. entries ps here d >>= λ _. pure d
      eval (choice a c b) here =
          eval c here >>= λ x. truth x >>= λ t. if t then eval a here else eval b here
      eval (operates o a b) here = joined (way o) o here (eval a here) (eval b here)
      eval (turned o a) here = eval a here >>= λ x. act here (ops.sign o x)
      eval (selects f x) here = eval f here >>= λ v. act here (ops.field v x)
      eval (subscript f a) here = eval f here >>= λ v. eval a here >>= λ i. act here (ops.item v i)
      -- what is called comes first. Written with a dot it may be a method, which is found before
      -- the arguments
      eval (invokes (selects f x) es ks) here =
          eval f here >>= λ v. act here (ops.find v x) >>= λ g.
          calling here g (evals es here []) (values ks here []) (names_of ks)
      eval (invokes f es ks) here =
          eval f here >>= λ v.
          calling here (plain v) (evals es here []) (values ks here []) (names_of ks)
      -- a comprehension makes its list or dict first, and each innermost turn puts something into
      -- it
      eval (each own e r) here =
          act here (ops.new_list []) >>= λ v.
          rounds (Some own) r (eval e here >>= λ x. act here (ops.collect v x)) here >>= λ _.
          pure v
      eval (each_pair own k e r) here =
          act here ops.new_dict >>= λ v.
          rounds (Some own) r
          (eval k here >>= λ x. eval e here >>= λ y. act here (ops.keep v x y)) here >>= λ _.
          pure v

      -- the values of these expressions, behind others
      pub evals : Terms → Here → List V → Effect S V K (List V)
      evals no_terms here vs = pure vs
      evals (more_terms e es) here vs = eval e here >>= λ v. evals es here (vs ++ v ∷ [])

      -- the values of arguments with names, behind others
      pub values : Keywords → Here → List V → Effect S V K (List V)
      values no_keywords here vs = pure vs
      values (more_keywords x e ks) here vs = eval e here >>= λ v. values ks here (vs ++ v ∷ [])

      -- the entries of a dict display: key, value, and then the entry is put in
      pub entries : Pairs → Here → V → Effect S V K Unit
      entries no_pairs here d = pure tt
      entries (more_pairs k e ps) here d =
          eval k here >>= λ x. eval e here >>= λ y. act here (ops.enter d x y) >>= λ _.
          entries ps here d

      -- the clauses of a comprehension, around what is done in the innermost turn (Starlark
      -- specification, "Comprehensions"). Its names have nothing from before: their slots, the
      -- first argument, are emptied once the first operand has its value, since what stands in that
      -- operand may have used the same slots
      pub rounds : Option OwnSlots → Rounds → Effect S V K Unit → Here → Effect S V K Unit
      rounds fs tree.done inner here = inner
      rounds fs (only_if e r) inner here =
          eval e here >>= λ x. truth x >>= λ t. if t then rounds fs r inner here else pure tt
      rounds fs (for_each bs e r) inner here =
          eval e here >>= λ v. forget fs >>= λ _.
          walking here v (turns here (λ x. assigned here bs x >>= λ _. rounds None r inner here))
