-- What an expression does is alike.
use Rattle.std.proofs.Common.{◌≡◌, Bool, List, [], ◌∷◌, ◌++◌, length, if◌then◌else◌, nat_eq, ap}
use Rattle.std.specs.Prelude.{Option, Some, None}
use Rattle.grammar.specs.Tree.{Operator}
use Rattle.program_tree.specs.Resolved as tree
use Rattle.program_tree.specs.Resolved.{Term, named, numeral, quoted, tuple, listing, dict, choice, operates, turned, selects, subscript, invokes, each, each_pair, Terms, no_terms, more_terms, Pairs, no_pairs, more_pairs, Keywords, no_keywords, more_keywords, Rounds, for_each, only_if}
use Rattle.meaning.specs.Names.{OwnSlots, Binding, slot, global, builtin}
use Rattle.meaning.specs.Operations.{Callee, plain, Arguments, unset, arity, Operations}
use Rattle.meaning.specs.Outcome.{done, Effect, ◌>>=◌, pure, raise, act, change, Here, resumed}
use Rattle.meaning.specs.Entry.{paired}
use Rattle.meaning.specs.Expressions.{Invoke, Way, while_true, while_false, always, way, names_of, truth, read, set, set_each, unpacked, assigned, forget, joined, walking, turns, calling, eval, evals, values, entries, rounds}
use Rattle.keeping.specs.Kept.{Kept, goods, good_callee, good_arguments, anything}
use Rattle.keeping.specs.Owed.{EachKeeps}
use Rattle.keeping.proofs.Effects.{goods_stay, callee_stays, goods_behind, From, then_from, act_from, later_from}
use Rattle.keeping.proofs.Terms.{truth_from, set_from, assigned_from, forget_from, turns_from, paired_good, InvokeKeeps, eval_from, evals_from, values_from, rounds_from}
use Rattle.agreeing.specs.Agreed.{EachAgrees}
use Rattle.agreeing.proofs.Effects.{Side, the_one, the_other, Alike, same_alike, later_alike, then_alike, ends_alike, act_alike, then_act_alike, change_alike, pure_alike, if_alike, slot_alike, raise_alike}

module _ {S V K : Type 0} (r : Kept S V) (o : Side → Operations S V K) (owed : EachKeeps r (o the_one)) (same : EachAgrees r (o the_one) (o the_other)) where
  -- ---- names

  pub truth_alike : (k : r.World) (v : V) → r.good k v → Alike r k (λ x. truth (o x) v)
  truth_alike k v g n up l s ls hs = ap (λ t. done t l s) (same.truth n v s (r.stays k n v up g) hs)

  -- a value is tested, and something is done by what it counts as
  pub then_truth_alike : {B : Type 0} (k : r.World) (v : V) (f : Side → Bool → Effect S V K B) → r.good k v → ((n : r.World) → r.grows k n → (t : Bool) → Alike r n (λ x. f x t))
      → Alike r k (λ x. truth (o x) v >>= f x)
  then_truth_alike k v f g h = then_alike r (anything r) k (λ x. truth (o x) v) f (truth_from r (o the_one) owed k v) (truth_alike k v g) (λ n up t u. h n up t)

  pub read_alike : (k : r.World) (here : Here) (b : Binding) → Alike r k (λ x. read (o x) here b)
  read_alike k here (slot i) = slot_alike r o k here i (same.refusal unset)
  read_alike k here (global i) = act_alike r k here (λ x. (o x).global here.file i) (λ n up s hs. same.global n here.file i s hs)
  read_alike k here (builtin p) = pure_alike r k (λ x. (o x).predeclared p) (same.predeclared p)

  pub set_alike : (k : r.World) (here : Here) (b : Binding) (v : V) → r.good k v → Alike r k (λ x. set (o x) here b v)
  set_alike k here (slot i) v g = same_alike r k (set (o the_one) here (slot i) v)
  set_alike k here (global i) v g = change_alike r k (λ x. (o x).set_global here.file i v) (λ n up s hs. same.set_global n here.file i v s (r.stays k n v up g) hs)
  set_alike k here (builtin p) v g = same_alike r k (pure tt)

  set_each_alike : (k : r.World) (here : Here) (bs : List Binding) (vs : List V) → goods r k vs → Alike r k (λ x. set_each (o x) here bs vs)
  set_each_alike k here [] vs gs = same_alike r k (pure tt)
  set_each_alike k here (b ∷ bs) [] gs = same_alike r k (pure tt)
  set_each_alike k here (b ∷ bs) (v ∷ vs) gs =
      then_alike r (anything r) k (λ x. set (o x) here b v) (λ x _. set_each (o x) here bs vs) (set_from r (o the_one) owed k here b v gs.0) (set_alike k here b v gs.0)
      (λ n up u h. set_each_alike n here bs vs (goods_stay r k n vs up gs.1))

  unpacked_alike : (k : r.World) (here : Here) (bs : List Binding) (vs : List V) → goods r k vs → Alike r k (λ x. unpacked (o x) here bs vs)
  unpacked_alike k here bs vs gs =
      if_alike r k (nat_eq (length vs) (length bs)) (λ x. set_each (o x) here bs vs) (λ x. raise here ((o x).refusal arity)) (set_each_alike k here bs vs gs)
      (raise_alike r k here (λ x. (o x).refusal arity) (same.refusal arity))

  pub assigned_alike : (k : r.World) (here : Here) (bs : List Binding) (v : V) → r.good k v → Alike r k (λ x. assigned (o x) here bs v)
  assigned_alike k here [] v g = same_alike r k (pure tt)
  assigned_alike k here (b ∷ []) v g = set_alike k here b v g
  assigned_alike k here (b ∷ c ∷ bs) v g =
      then_act_alike r (goods r) k here (λ x. (o x).parts v) (λ x. unpacked (o x) here (b ∷ c ∷ bs))
      (λ n up s hs. let gv = r.stays k n v up g in (owed.parts n v s gv hs, same.parts n v s gv hs)) (λ n up vs gs. unpacked_alike n here (b ∷ c ∷ bs) vs gs)

  forget_alike : (k : r.World) (own : Option OwnSlots) → Alike r k (λ x. forget (o x) own)
  forget_alike k None = same_alike r k (pure tt)
  forget_alike k (Some own) = same_alike r k (forget (o the_one) (Some own))

  -- ---- operators, walks and calls

  joined_alike : (k : r.World) (w : Way) (p : Operator) (here : Here) (m n : Side → Effect S V K V) → From r r.good k (m the_one) → From r r.good k (n the_one) → Alike r k m → Alike r k n
      → Alike r k (λ x. joined (o x) w p here (m x) (n x))
  joined_alike k while_true p here m n hm hn am an =
      then_alike r r.good k m (λ x v. truth (o x) v >>= λ t. if t then n x else pure v) hm am (λ a up v g.
      then_truth_alike a v (λ x t. if t then n x else pure v) g (λ b more t.
      if_alike r b t n (λ x. pure v) (later_alike r k b n (r.further k a b up more) an) (same_alike r b (pure v))))
  joined_alike k while_false p here m n hm hn am an =
      then_alike r r.good k m (λ x v. truth (o x) v >>= λ t. if t then pure v else n x) hm am (λ a up v g.
      then_truth_alike a v (λ x t. if t then pure v else n x) g (λ b more t.
      if_alike r b t (λ x. pure v) n (same_alike r b (pure v)) (later_alike r k b n (r.further k a b up more) an)))
  joined_alike k always p here m n hm hn am an =
      then_alike r r.good k m (λ x v. n x >>= λ w. act here ((o x).binary p v w)) hm am (λ a up v g.
      then_alike r r.good a n (λ x w. act here ((o x).binary p v w)) (later_from r r.good k a (n the_one) up hn) (later_alike r k a n up an) (λ b more w h.
      act_alike r b here (λ x. (o x).binary p v w) (λ c on s hs. same.binary c p v w s (r.stays a c v (r.further a b c more on) g) (r.stays b c w on h) hs)))

  pub walking_alike : {A : Type 0} (P : r.World → A → Type 0) (k : r.World) (here : Here) (v : V) (f : Side → List V → Effect S V K A) → r.good k v
      → ((n : r.World) → r.grows k n → (vs : List V) → goods r n vs → From r P n (f the_one vs)) → ((n : r.World) → r.grows k n → (vs : List V) → goods r n vs → Alike r n (λ x. f x vs))
      → Alike r k (λ x. walking (o x) here v (f x))
  walking_alike P k here v f g hf af =
      then_act_alike r (goods r) k here (λ x. (o x).begin v) (λ x vs. f x vs >>= λ a. change ((o x).end v) >>= λ _. pure a)
      (λ n up s hs. let gv = r.stays k n v up g in (owed.begin n v s gv hs, same.begin n v s gv hs)) (λ n up vs gs.
      then_alike r P n (λ x. f x vs) (λ x a. change ((o x).end v) >>= λ _. pure a) (hf n up vs gs) (af n up vs gs) (λ m more a p.
      ends_alike r m (λ x. change ((o x).end v)) (λ _. pure a)
      (change_alike r m (λ x. (o x).end v) (λ w on s hs. same.end w v s (r.stays k w v (r.further k m w (r.further k n m up more) on) g) hs))))

  turns_alike : (k : r.World) (here : Here) (f : Side → V → Effect S V K Unit) (vs : List V) → goods r k vs
      → ((n : r.World) → r.grows k n → (v : V) → r.good n v → From r (anything r) n (f the_one v)) → ((n : r.World) → r.grows k n → (v : V) → r.good n v → Alike r n (λ x. f x v))
      → Alike r k (λ x. turns (o x) here (f x) vs)
  turns_alike k here f [] gs hf af = same_alike r k (pure tt)
  turns_alike k here f (v ∷ vs) gs hf af =
      then_act_alike r (anything r) k here (λ x. (o x).tick) (λ x _. f x v >>= λ _. turns (o x) here (f x) vs) (λ n up s hs. (owed.tick n s hs, same.tick n s hs)) (λ n up u q.
      let gv = r.stays k n v up gs.0 in
      then_alike r (anything r) n (λ x. f x v) (λ x _. turns (o x) here (f x) vs) (hf n up v gv) (af n up v gv) (λ m more w p.
      let far = r.further k n m up more in
      turns_alike m here f vs (goods_stay r k m vs far gs.1) (λ x on. hf x (r.further k m x far on)) (λ x on. af x (r.further k m x far on))))

  -- what calls do is the same
  abbrev pub InvokesAlike : (Side → Invoke S V K) → Type 0
  InvokesAlike inv =
      (here : Here) (g : Callee V) (given : Arguments V) (k : r.World) (s : S) → good_callee r k g → good_arguments r k given → r.holds k s
      → inv the_one here g given s ≡ inv the_other here g given s

  module _ (inv : Side → Invoke S V K) (calls : InvokeKeeps r (o the_one) owed (inv the_one)) (alike : InvokesAlike inv) where
    abbrev value : Term → Here → Side → Effect S V K V
    value e here x = eval (o x) (inv x) e here

    abbrev positions : Terms → Here → List V → Side → Effect S V K (List V)
    positions es here vs x = evals (o x) (inv x) es here vs

    abbrev by_name : Keywords → Here → List V → Side → Effect S V K (List V)
    by_name ks here vs x = values (o x) (inv x) ks here vs

    value_from : (e : Term) (here : Here) (k : r.World) → From r r.good k (value e here the_one)
    value_from = eval_from r (o the_one) owed (inv the_one) calls

    abbrev called : Terms → Keywords → Here → Side → Callee V → Effect S V K V
    called es ks here x g = calling (o x) (inv x) here g (positions es here [] x) (by_name ks here [] x) (names_of ks)

    calling_alike : (es : Terms) (ks : Keywords) (here : Here) (g : Callee V) (k : r.World) → good_callee r k g
        → ((n : r.World) → Alike r n (positions es here [])) → ((n : r.World) → Alike r n (by_name ks here [])) → Alike r k (λ x. called es ks here x g)
    calling_alike es ks here g k gg he hk =
        then_alike r (goods r) k (positions es here [])
        (λ x vs. by_name ks here [] x >>= λ ws. λ l s. resumed l (inv x here g (record { items = vs; named = paired (names_of ks) ws }) s))
        (evals_from r (o the_one) owed (inv the_one) calls es here [] k tt) (he k) (λ n up vs gs.
        then_alike r (goods r) n (by_name ks here []) (λ x ws. λ l s. resumed l (inv x here g (record { items = vs; named = paired (names_of ks) ws }) s))
        (values_from r (o the_one) owed (inv the_one) calls ks here [] n tt) (hk n) (λ m more ws hs.
        λ w on l s ls st.
        ap (resumed l)
        (alike here g (record { items = vs; named = paired (names_of ks) ws }) w s (callee_stays r k w g (r.further k m w (r.further k n m up more) on) gg)
        (goods_stay r n w vs (r.further n m w more on) gs, paired_good r (o the_one) owed w (names_of ks) ws (goods_stay r m w ws on hs)) st)))

    plain_alike : (f : Term) (es : Terms) (ks : Keywords) (here : Here) (k : r.World) → Alike r k (value f here)
        → ((n : r.World) → Alike r n (positions es here [])) → ((n : r.World) → Alike r n (by_name ks here []))
        → Alike r k (λ x. value f here x >>= λ v. called es ks here x (plain v))
    plain_alike f es ks here k af he hk =
        then_alike r r.good k (value f here) (λ x v. called es ks here x (plain v)) (value_from f here k) af (λ n up v g. calling_alike es ks here (plain v) n g he hk)

    -- a turn of a comprehension's clause keeps what holds
    turn_from : (bs : List Binding) (rs : Rounds) (inner : Effect S V K Unit) (here : Here) (k : r.World) → ((n : r.World) → r.grows k n → From r (anything r) n inner)
        → (a : V) → r.good k a → From r (anything r) k (assigned (o the_one) here bs a >>= λ _. rounds (o the_one) (inv the_one) None rs inner here)
    turn_from bs rs inner here k hi a g =
        then_from r (anything r) (anything r) k (assigned (o the_one) here bs a) (λ _. rounds (o the_one) (inv the_one) None rs inner here) (assigned_from r (o the_one) owed k here bs a g)
        (λ n up u q. rounds_from r (o the_one) owed (inv the_one) calls None rs inner here n (λ m more. hi m (r.further k n m up more)))

    mutual
      unfolding eval

      pub eval_alike : (e : Term) (here : Here) (k : r.World) → Alike r k (value e here)
      eval_alike (named b) here k = read_alike k here b
      eval_alike (numeral i) here k = pure_alike r k (λ x. (o x).number i) (same.number i)
      eval_alike (quoted t) here k = pure_alike r k (λ x. (o x).string t) (same.string t)
      eval_alike (tuple es) here k =
          then_alike r (goods r) k (positions es here []) (λ x vs. act here ((o x).new_tuple vs)) (evals_from r (o the_one) owed (inv the_one) calls es here [] k tt) (evals_alike es here [] k tt)
          (λ n up vs gs. act_alike r n here (λ x. (o x).new_tuple vs) (λ m more s hs. same.new_tuple m vs s (goods_stay r n m vs more gs) hs))
      eval_alike (listing es) here k =
          then_alike r (goods r) k (positions es here []) (λ x vs. act here ((o x).new_list vs)) (evals_from r (o the_one) owed (inv the_one) calls es here [] k tt) (evals_alike es here [] k tt)
          (λ n up vs gs. act_alike r n here (λ x. (o x).new_list vs) (λ m more s hs. same.new_list m vs s (goods_stay r n m vs more gs) hs))
      eval_alike (dict ps) here k =
          then_act_alike r r.good k here (λ x. (o x).new_dict) (λ x d. entries (o x) (inv x) ps here d >>= λ _. pure d)
          (λ n up s hs. (owed.new_dict n s hs, same.new_dict n s hs)) (λ n up d g.
          ends_alike r n (λ x. entries (o x) (inv x) ps here d) (λ _. pure d) (entries_alike ps here d n g))
      eval_alike (choice a c b) here k =
          then_alike r r.good k (value c here) (λ x v. truth (o x) v >>= λ t. if t then value a here x else value b here x) (value_from c here k) (eval_alike c here k) (λ n up v g.
          then_truth_alike n v (λ x t. if t then value a here x else value b here x) g (λ m more t.
          if_alike r m t (value a here) (value b here) (eval_alike a here m) (eval_alike b here m)))
      eval_alike (operates p a b) here k =
          joined_alike k (way p) p here (value a here) (value b here) (value_from a here k) (value_from b here k) (eval_alike a here k) (eval_alike b here k)
      eval_alike (turned p a) here k =
          then_alike r r.good k (value a here) (λ x v. act here ((o x).sign p v)) (value_from a here k) (eval_alike a here k)
          (λ n up v g. act_alike r n here (λ x. (o x).sign p v) (λ m more s hs. same.sign m p v s (r.stays n m v more g) hs))
      eval_alike (selects f y) here k =
          then_alike r r.good k (value f here) (λ x v. act here ((o x).field v y)) (value_from f here k) (eval_alike f here k)
          (λ n up v g. act_alike r n here (λ x. (o x).field v y) (λ m more s hs. same.field m v y s (r.stays n m v more g) hs))
      eval_alike (subscript f a) here k =
          then_alike r r.good k (value f here) (λ x v. value a here x >>= λ i. act here ((o x).item v i)) (value_from f here k) (eval_alike f here k) (λ n up v g.
          then_alike r r.good n (value a here) (λ x i. act here ((o x).item v i)) (value_from a here n) (eval_alike a here n) (λ m more i h.
          act_alike r m here (λ x. (o x).item v i) (λ w on s hs. same.item w v i s (r.stays n w v (r.further n m w more on) g) (r.stays m w i on h) hs)))
      eval_alike (invokes (selects f y) es ks) here k =
          then_alike r r.good k (value f here) (λ x v. act here ((o x).find v y) >>= called es ks here x) (value_from f here k) (eval_alike f here k) (λ n up v gv.
          then_act_alike r (good_callee r) n here (λ x. (o x).find v y) (λ x g. called es ks here x g)
          (λ m more s hs. let gm = r.stays n m v more gv in (owed.find m v y s gm hs, same.find m v y s gm hs)) (λ m more g gg.
          calling_alike es ks here g m gg (λ w. evals_alike es here [] w tt) (λ w. values_alike ks here [] w tt)))
      eval_alike (invokes (named b) es ks) here k = plain_alike (named b) es ks here k (eval_alike (named b) here k) (λ w. evals_alike es here [] w tt) (λ w. values_alike ks here [] w tt)
      eval_alike (invokes (numeral i) es ks) here k = plain_alike (numeral i) es ks here k (eval_alike (numeral i) here k) (λ w. evals_alike es here [] w tt) (λ w. values_alike ks here [] w tt)
      eval_alike (invokes (quoted t) es ks) here k = plain_alike (quoted t) es ks here k (eval_alike (quoted t) here k) (λ w. evals_alike es here [] w tt) (λ w. values_alike ks here [] w tt)
      eval_alike (invokes (tuple ts) es ks) here k = plain_alike (tuple ts) es ks here k (eval_alike (tuple ts) here k) (λ w. evals_alike es here [] w tt) (λ w. values_alike ks here [] w tt)
      eval_alike (invokes (listing ts) es ks) here k = plain_alike (listing ts) es ks here k (eval_alike (listing ts) here k) (λ w. evals_alike es here [] w tt) (λ w. values_alike ks here [] w tt)
      eval_alike (invokes (dict ps) es ks) here k = plain_alike (dict ps) es ks here k (eval_alike (dict ps) here k) (λ w. evals_alike es here [] w tt) (λ w. values_alike ks here [] w tt)
      eval_alike (invokes (choice a c b) es ks) here k = plain_alike (choice a c b) es ks here k (eval_alike (choice a c b) here k) (λ w. evals_alike es here [] w tt) (λ w. values_alike ks here [] w tt)
      eval_alike (invokes (operates p a b) es ks) here k = plain_alike (operates p a b) es ks here k (eval_alike (operates p a b) here k) (λ w. evals_alike es here [] w tt) (λ w. values_alike ks here [] w tt)
      eval_alike (invokes (turned p a) es ks) here k = plain_alike (turned p a) es ks here k (eval_alike (turned p a) here k) (λ w. evals_alike es here [] w tt) (λ w. values_alike ks here [] w tt)
      eval_alike (invokes (subscript f a) es ks) here k = plain_alike (subscript f a) es ks here k (eval_alike (subscript f a) here k) (λ w. evals_alike es here [] w tt) (λ w. values_alike ks here [] w tt)
      eval_alike (invokes (invokes f ts js) es ks) here k = plain_alike (invokes f ts js) es ks here k (eval_alike (invokes f ts js) here k) (λ w. evals_alike es here [] w tt) (λ w. values_alike ks here [] w tt)
      eval_alike (invokes (each own a rs) es ks) here k = plain_alike (each own a rs) es ks here k (eval_alike (each own a rs) here k) (λ w. evals_alike es here [] w tt) (λ w. values_alike ks here [] w tt)
      eval_alike (invokes (each_pair own a b rs) es ks) here k = plain_alike (each_pair own a b rs) es ks here k (eval_alike (each_pair own a b rs) here k) (λ w. evals_alike es here [] w tt) (λ w. values_alike ks here [] w tt)
      eval_alike (each own e rs) here k =
          then_act_alike r r.good k here (λ x. (o x).new_list []) (λ x v. rounds (o x) (inv x) (Some own) rs (value e here x >>= λ y. act here ((o x).collect v y)) here >>= λ _. pure v)
          (λ n up s hs. (owed.new_list n [] s tt hs, same.new_list n [] s tt hs)) (λ n up v g.
          ends_alike r n (λ x. rounds (o x) (inv x) (Some own) rs (value e here x >>= λ y. act here ((o x).collect v y)) here) (λ _. pure v)
          (rounds_alike (Some own) rs (λ x. value e here x >>= λ y. act here ((o x).collect v y)) here n (λ m more.
          then_from r r.good (anything r) m (value e here the_one) (λ y. act here ((o the_one).collect v y)) (value_from e here m) (λ w on y h.
          act_from r (anything r) w here ((o the_one).collect v y) (λ z last s hs. owed.collect z v y s (r.stays n z v (r.further n w z (r.further n m w more on) last) g) (r.stays w z y last h) hs)))
          (λ m more.
          then_alike r r.good m (value e here) (λ x y. act here ((o x).collect v y)) (value_from e here m) (eval_alike e here m) (λ w on y h.
          act_alike r w here (λ x. (o x).collect v y) (λ z last s hs. same.collect z v y s (r.stays n z v (r.further n w z (r.further n m w more on) last) g) (r.stays w z y last h) hs)))))
      eval_alike (each_pair own a e rs) here k =
          then_act_alike r r.good k here (λ x. (o x).new_dict)
          (λ x v. rounds (o x) (inv x) (Some own) rs (value a here x >>= λ y. value e here x >>= λ z. act here ((o x).keep v y z)) here >>= λ _. pure v)
          (λ n up s hs. (owed.new_dict n s hs, same.new_dict n s hs)) (λ n up v g.
          ends_alike r n (λ x. rounds (o x) (inv x) (Some own) rs (value a here x >>= λ y. value e here x >>= λ z. act here ((o x).keep v y z)) here) (λ _. pure v)
          (rounds_alike (Some own) rs (λ x. value a here x >>= λ y. value e here x >>= λ z. act here ((o x).keep v y z)) here n (λ m more.
          then_from r r.good (anything r) m (value a here the_one) (λ y. value e here the_one >>= λ z. act here ((o the_one).keep v y z)) (value_from a here m) (λ w on y h.
          then_from r r.good (anything r) w (value e here the_one) (λ z. act here ((o the_one).keep v y z)) (value_from e here w) (λ q last z i.
          act_from r (anything r) q here ((o the_one).keep v y z) (λ c end s hs.
          owed.keep c v y z s (r.stays n c v (r.further n q c (r.further n w q (r.further n m w more on) last) end) g) (r.stays w c y (r.further w q c last end) h) (r.stays q c z end i) hs))))
          (λ m more.
          then_alike r r.good m (value a here) (λ x y. value e here x >>= λ z. act here ((o x).keep v y z)) (value_from a here m) (eval_alike a here m) (λ w on y h.
          then_alike r r.good w (value e here) (λ x z. act here ((o x).keep v y z)) (value_from e here w) (eval_alike e here w) (λ q last z i.
          act_alike r q here (λ x. (o x).keep v y z) (λ c end s hs.
          same.keep c v y z s (r.stays n c v (r.further n q c (r.further n w q (r.further n m w more on) last) end) g) (r.stays w c y (r.further w q c last end) h) (r.stays q c z end i) hs))))))

      pub evals_alike : (es : Terms) (here : Here) (vs : List V) (k : r.World) → goods r k vs → Alike r k (positions es here vs)
      evals_alike no_terms here vs k gs = same_alike r k (pure vs)
      evals_alike (more_terms e es) here vs k gs =
          then_alike r r.good k (value e here) (λ x v. positions es here (vs ++ v ∷ []) x) (value_from e here k) (eval_alike e here k)
          (λ n up v g. evals_alike es here (vs ++ v ∷ []) n (goods_behind r n vs v (goods_stay r k n vs up gs) g))

      values_alike : (ks : Keywords) (here : Here) (vs : List V) (k : r.World) → goods r k vs → Alike r k (by_name ks here vs)
      values_alike no_keywords here vs k gs = same_alike r k (pure vs)
      values_alike (more_keywords y e ks) here vs k gs =
          then_alike r r.good k (value e here) (λ x v. by_name ks here (vs ++ v ∷ []) x) (value_from e here k) (eval_alike e here k)
          (λ n up v g. values_alike ks here (vs ++ v ∷ []) n (goods_behind r n vs v (goods_stay r k n vs up gs) g))

      entries_alike : (ps : Pairs) (here : Here) (d : V) (k : r.World) → r.good k d → Alike r k (λ x. entries (o x) (inv x) ps here d)
      entries_alike no_pairs here d k g = same_alike r k (pure tt)
      entries_alike (more_pairs a e ps) here d k g =
          then_alike r r.good k (value a here) (λ x y. value e here x >>= λ z. act here ((o x).enter d y z) >>= λ _. entries (o x) (inv x) ps here d)
          (value_from a here k) (eval_alike a here k) (λ n up y h.
          then_alike r r.good n (value e here) (λ x z. act here ((o x).enter d y z) >>= λ _. entries (o x) (inv x) ps here d) (value_from e here n) (eval_alike e here n) (λ m more z i.
          then_act_alike r (anything r) m here (λ x. (o x).enter d y z) (λ x _. entries (o x) (inv x) ps here d)
          (λ w on s hs.
          let gd = r.stays k w d (r.further k m w (r.further k n m up more) on) g in
          let gy = r.stays n w y (r.further n m w more on) h in
          let gz = r.stays m w z on i in
          (owed.enter w d y z s gd gy gz hs, same.enter w d y z s gd gy gz hs))
          (λ w on u j. entries_alike ps here d w (r.stays k w d (r.further k m w (r.further k n m up more) on) g))))

      rounds_alike : (own : Option OwnSlots) (rs : Rounds) (inner : Side → Effect S V K Unit) (here : Here) (k : r.World) → ((n : r.World) → r.grows k n → From r (anything r) n (inner the_one))
          → ((n : r.World) → r.grows k n → Alike r n inner) → Alike r k (λ x. rounds (o x) (inv x) own rs (inner x) here)
      rounds_alike own tree.done inner here k hi ai = ai k (r.same k)
      rounds_alike own (only_if e rs) inner here k hi ai =
          then_alike r r.good k (value e here) (λ x v. truth (o x) v >>= λ t. if t then rounds (o x) (inv x) own rs (inner x) here else pure tt) (value_from e here k) (eval_alike e here k) (λ n up v g.
          then_truth_alike n v (λ x t. if t then rounds (o x) (inv x) own rs (inner x) here else pure tt) g (λ m more t.
          let far = r.further k n m up more in
          if_alike r m t (λ x. rounds (o x) (inv x) own rs (inner x) here) (λ x. pure tt)
          (rounds_alike own rs inner here m (λ w on. hi w (r.further k m w far on)) (λ w on. ai w (r.further k m w far on))) (same_alike r m (pure tt))))
      rounds_alike own (for_each bs e rs) inner here k hi ai =
          then_alike r r.good k (value e here)
          (λ x v. forget (o x) own >>= λ _. walking (o x) here v (turns (o x) here (λ a. assigned (o x) here bs a >>= λ _. rounds (o x) (inv x) None rs (inner x) here)))
          (value_from e here k) (eval_alike e here k) (λ n up v g.
          then_alike r (anything r) n (λ x. forget (o x) own)
          (λ x _. walking (o x) here v (turns (o x) here (λ a. assigned (o x) here bs a >>= λ _. rounds (o x) (inv x) None rs (inner x) here)))
          (forget_from r (o the_one) owed n own) (forget_alike n own) (λ m more u i.
          walking_alike (anything r) m here v (λ x. turns (o x) here (λ a. assigned (o x) here bs a >>= λ _. rounds (o x) (inv x) None rs (inner x) here)) (r.stays n m v more g)
          (λ w on vs gs. turns_from r (o the_one) owed w here (λ a. assigned (o the_one) here bs a >>= λ _. rounds (o the_one) (inv the_one) None rs (inner the_one) here) vs gs
          (λ z last. turn_from bs rs (inner the_one) here z (λ c fin. hi c (r.further k z c (r.further k w z (r.further k m w (r.further k n m up more) on) last) fin))))
          (λ w on vs gs. turns_alike w here (λ x a. assigned (o x) here bs a >>= λ _. rounds (o x) (inv x) None rs (inner x) here) vs gs
          (λ z last. turn_from bs rs (inner the_one) here z (λ c fin. hi c (r.further k z c (r.further k w z (r.further k m w (r.further k n m up more) on) last) fin)))
          (λ z last a j.
          then_alike r (anything r) z (λ x. assigned (o x) here bs a) (λ x _. rounds (o x) (inv x) None rs (inner x) here) (assigned_from r (o the_one) owed z here bs a j) (assigned_alike z here bs a j)
          (λ q end y p.
          let far = r.further k z q (r.further k w z (r.further k m w (r.further k n m up more) on) last) end in
          rounds_alike None rs inner here q (λ c fin. hi c (r.further k q c far fin)) (λ c fin. ai c (r.further k q c far fin)))))))
