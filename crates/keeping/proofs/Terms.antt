-- What an expression keeps.
use Rattle.std.proofs.Common.{List, [], ◌∷◌, ◌++◌, length, if◌then◌else◌, nat_eq}
use Rattle.std.specs.Prelude.{◌-◌, Option, Some, None}
use Rattle.grammar.specs.Tree.{Operator}
use Rattle.program_tree.specs.Names.{Name}
use Rattle.program_tree.specs.Resolved as tree
use Rattle.program_tree.specs.Resolved.{Term, named, numeral, quoted, tuple, listing, dict, choice, operates, turned, selects, subscript, invokes, each, each_pair, Terms, no_terms, more_terms, Pairs, no_pairs, more_pairs, Keywords, no_keywords, more_keywords, Rounds, for_each, only_if}
use Rattle.meaning.specs.Names.{OwnSlots, Binding, slot, global, builtin}
use Rattle.meaning.specs.Operations.{Callee, plain, Arguments, arity, Operations}
use Rattle.meaning.specs.Outcome.{Effect, ◌>>=◌, pure, raise, act, change, Here, resumed}
use Rattle.meaning.specs.Entry.{paired}
use Rattle.meaning.specs.Expressions.{Invoke, Way, while_true, while_false, always, way, names_of, truth, read, set, set_each, unpacked, assigned, forget, joined, walking, turns, calling, eval, evals, values, entries, rounds}
use Rattle.keeping.specs.Kept.{Kept, goods, named_goods, good_callee, good_arguments, Gives, anything}
use Rattle.keeping.specs.Owed.{EachKeeps}
use Rattle.keeping.proofs.Effects.{goods_stay, callee_stays, goods_behind, cleared_keeps, From, then_from, pure_from, unit_from, raise_from, act_from, change_from, if_from, later_from, slot_from, set_slot_from, resumed_after}

module _ {S V K : Type 0} (r : Kept S V) (ops : Operations S V K) (owed : EachKeeps r ops) where
  -- ---- names

  pub truth_from : (k : r.World) (v : V) → From r (anything r) k (truth ops v)
  truth_from k v n up l s ls hs = (n, r.same n, ls, hs, tt)

  pub read_from : (k : r.World) (here : Here) (b : Binding) → From r r.good k (read ops here b)
  read_from k here (slot i) = slot_from r ops k here i
  read_from k here (global i) = act_from r r.good k here (ops.global here.file i) (λ n up s hs. owed.global n here.file i s hs)
  read_from k here (builtin p) = pure_from r K r.good k (ops.predeclared p) (λ n up. owed.predeclared n p)

  pub set_from : (k : r.World) (here : Here) (b : Binding) (v : V) → r.good k v → From r (anything r) k (set ops here b v)
  set_from k here (slot i) v g = set_slot_from r K k i v g
  set_from k here (global i) v g = change_from r K k (ops.set_global here.file i v) (λ n up s hs. owed.set_global n here.file i v s (r.stays k n v up g) hs)
  set_from k here (builtin p) v g = unit_from r K k

  set_each_from : (k : r.World) (here : Here) (bs : List Binding) (vs : List V) → goods r k vs → From r (anything r) k (set_each ops here bs vs)
  set_each_from k here [] vs gs = unit_from r K k
  set_each_from k here (b ∷ bs) [] gs = unit_from r K k
  set_each_from k here (b ∷ bs) (v ∷ vs) gs =
      then_from r (anything r) (anything r) k (set ops here b v) (λ _. set_each ops here bs vs) (set_from k here b v gs.0)
      (λ n up u h. set_each_from n here bs vs (goods_stay r k n vs up gs.1))

  unpacked_from : (k : r.World) (here : Here) (bs : List Binding) (vs : List V) → goods r k vs → From r (anything r) k (unpacked ops here bs vs)
  unpacked_from k here bs vs gs =
      if_from r (anything r) k (nat_eq (length vs) (length bs)) (set_each ops here bs vs) (raise here (ops.refusal arity)) (set_each_from k here bs vs gs)
      (raise_from r {A = Unit {0}} (anything r) k here (ops.refusal arity))

  pub assigned_from : (k : r.World) (here : Here) (bs : List Binding) (v : V) → r.good k v → From r (anything r) k (assigned ops here bs v)
  assigned_from k here [] v g = unit_from r K k
  assigned_from k here (b ∷ []) v g = set_from k here b v g
  assigned_from k here (b ∷ c ∷ bs) v g =
      then_from r (goods r) (anything r) k (act here (ops.parts v)) (unpacked ops here (b ∷ c ∷ bs))
      (act_from r (goods r) k here (ops.parts v) (λ n up s hs. owed.parts n v s (r.stays k n v up g) hs))
      (λ n up vs gs. unpacked_from n here (b ∷ c ∷ bs) vs gs)

  pub forget_from : (k : r.World) (own : Option OwnSlots) → From r (anything r) k (forget ops own)
  forget_from k None = unit_from r K k
  forget_from k (Some own) = λ n up l s ls hs. (n, r.same n, cleared_keeps r n (own.end - own.first) own.first l ls, hs, tt)

  -- ---- operators, walks and calls

  joined_from : (k : r.World) (w : Way) (o : Operator) (here : Here) (m n : Effect S V K V) → From r r.good k m → From r r.good k n → From r r.good k (joined ops w o here m n)
  joined_from k while_true o here m n hm hn =
      then_from r r.good r.good k m (λ x. truth ops x >>= λ t. if t then n else pure x) hm (λ a up x g.
      then_from r (anything r) r.good a (truth ops x) (λ t. if t then n else pure x) (truth_from a x) (λ b more t h.
      if_from r r.good b t n (pure x) (later_from r r.good k b n (r.further k a b up more) hn) (pure_from r K r.good b x (λ c on. r.stays a c x (r.further a b c more on) g))))
  joined_from k while_false o here m n hm hn =
      then_from r r.good r.good k m (λ x. truth ops x >>= λ t. if t then pure x else n) hm (λ a up x g.
      then_from r (anything r) r.good a (truth ops x) (λ t. if t then pure x else n) (truth_from a x) (λ b more t h.
      if_from r r.good b t (pure x) n (pure_from r K r.good b x (λ c on. r.stays a c x (r.further a b c more on) g)) (later_from r r.good k b n (r.further k a b up more) hn)))
  joined_from k always o here m n hm hn =
      then_from r r.good r.good k m (λ x. n >>= λ y. act here (ops.binary o x y)) hm (λ a up x g.
      then_from r r.good r.good a n (λ y. act here (ops.binary o x y)) (later_from r r.good k a n up hn) (λ b more y h.
      act_from r r.good b here (ops.binary o x y) (λ c on s hs. owed.binary c o x y s (r.stays a c x (r.further a b c more on) g) (r.stays b c y on h) hs)))

  pub walking_from : {A : Type 0} (P : r.World → A → Type 0) → ((k l : r.World) (a : A) → r.grows k l → P k a → P l a) → (k : r.World) (here : Here) (v : V) (f : List V → Effect S V K A) → r.good k v
      → ((n : r.World) → r.grows k n → (vs : List V) → goods r n vs → From r P n (f vs)) → From r P k (walking ops here v f)
  walking_from P stay k here v f g h =
      then_from r (goods r) P k (act here (ops.begin v)) (λ vs. f vs >>= λ a. change {K = K} (ops.end v) >>= λ _. pure a)
      (act_from r (goods r) k here (ops.begin v) (λ n up s hs. owed.begin n v s (r.stays k n v up g) hs)) (λ n up vs gs.
      then_from r P P n (f vs) (λ a. change {K = K} (ops.end v) >>= λ _. pure a) (h n up vs gs) (λ m more a p.
      then_from r (anything r) P m (change {K = K} (ops.end v)) (λ _. pure a)
      (change_from r K m (ops.end v) (λ w on s hs. owed.end w v s (r.stays k w v (r.further k m w (r.further k n m up more) on) g) hs)) (λ w on u q.
      pure_from r K P w a (λ x last. stay m x a (r.further m w x on last) p))))

  pub turns_from : (k : r.World) (here : Here) (f : V → Effect S V K Unit) (vs : List V) → goods r k vs → ((n : r.World) → r.grows k n → (v : V) → r.good n v → From r (anything r) n (f v))
      → From r (anything r) k (turns ops here f vs)
  turns_from k here f [] gs h = unit_from r K k
  turns_from k here f (v ∷ vs) gs h =
      then_from r (anything r) (anything r) k (act here ops.tick) (λ _. f v >>= λ _. turns ops here f vs) (act_from r (anything r) k here ops.tick (λ n up s hs. owed.tick n s hs)) (λ n up u q.
      then_from r (anything r) (anything r) n (f v) (λ _. turns ops here f vs) (h n up v (r.stays k n v up gs.0)) (λ m more w p.
      turns_from m here f vs (goods_stay r k m vs (r.further k n m up more) gs.1) (λ x on. h x (r.further k m x (r.further k n m up more) on))))

  pub paired_good : (k : r.World) (names : List Name) (ws : List V) → goods r k ws → named_goods r k (paired names ws)
  paired_good k [] ws gs = tt
  paired_good k (x ∷ xs) [] gs = tt
  paired_good k (x ∷ xs) (w ∷ ws) gs = (gs.0, paired_good k xs ws gs.1)

  -- what calls keep
  abbrev pub InvokeKeeps : Invoke S V K → Type 0
  InvokeKeeps inv = (here : Here) (g : Callee V) (given : Arguments V) (k : r.World) (s : S) → good_callee r k g → good_arguments r k given → r.holds k s → Gives r r.good k (inv here g given s)

  module _ (inv : Invoke S V K) (calls : InvokeKeeps inv) where
    calling_from : (k : r.World) (here : Here) (g : Callee V) (items behind : Effect S V K (List V)) (names : List Name) → good_callee r k g
        → ((n : r.World) → From r (goods r) n items) → ((n : r.World) → From r (goods r) n behind) → From r r.good k (calling ops inv here g items behind names)
    calling_from k here g items behind names gg hi hb =
        then_from r (goods r) r.good k items
        (λ vs. behind >>= λ ws. λ l s. resumed l (inv here g (record { items = vs; named = paired names ws }) s)) (hi k) (λ n up vs gs.
        then_from r (goods r) r.good n behind (λ ws. λ l s. resumed l (inv here g (record { items = vs; named = paired names ws }) s)) (hb n) (λ m more ws hs.
        λ w on l s ls st.
        resumed_after r w l (inv here g (record { items = vs; named = paired names ws }) s) ls
        (calls here g (record { items = vs; named = paired names ws }) w s (callee_stays r k w g (r.further k m w (r.further k n m up more) on) gg)
        (goods_stay r n w vs (r.further n m w more on) gs, paired_good w names ws (goods_stay r m w ws on hs)) st)))

    plain_from : (k : r.World) (here : Here) (m : Effect S V K V) (items behind : Effect S V K (List V)) (names : List Name) → From r r.good k m
        → ((n : r.World) → From r (goods r) n items) → ((n : r.World) → From r (goods r) n behind) → From r r.good k (m >>= λ v. calling ops inv here (plain v) items behind names)
    plain_from k here m items behind names hm hi hb =
        then_from r r.good r.good k m (λ v. calling ops inv here (plain v) items behind names) hm (λ n up v g. calling_from n here (plain v) items behind names g hi hb)

    mutual
      unfolding eval

      pub eval_from : (e : Term) (here : Here) (k : r.World) → From r r.good k (eval ops inv e here)
      eval_from (named b) here k = read_from k here b
      eval_from (numeral i) here k = pure_from r K r.good k (ops.number i) (λ n up. owed.number n i)
      eval_from (quoted t) here k = pure_from r K r.good k (ops.string t) (λ n up. owed.string n t)
      eval_from (tuple es) here k =
          then_from r (goods r) r.good k (evals ops inv es here []) (λ vs. act here (ops.new_tuple vs)) (evals_from es here [] k tt)
          (λ n up vs gs. act_from r r.good n here (ops.new_tuple vs) (λ m more s hs. owed.new_tuple m vs s (goods_stay r n m vs more gs) hs))
      eval_from (listing es) here k =
          then_from r (goods r) r.good k (evals ops inv es here []) (λ vs. act here (ops.new_list vs)) (evals_from es here [] k tt)
          (λ n up vs gs. act_from r r.good n here (ops.new_list vs) (λ m more s hs. owed.new_list m vs s (goods_stay r n m vs more gs) hs))
      eval_from (dict ps) here k =
          then_from r r.good r.good k (act here ops.new_dict) (λ d. entries ops inv ps here d >>= λ _. pure d) (act_from r r.good k here ops.new_dict (λ n up s hs. owed.new_dict n s hs)) (λ n up d g.
          then_from r (anything r) r.good n (entries ops inv ps here d) (λ _. pure d) (entries_from ps here d n g) (λ m more u h.
          pure_from r K r.good m d (λ w on. r.stays n w d (r.further n m w more on) g)))
      eval_from (choice a c b) here k =
          then_from r r.good r.good k (eval ops inv c here) (λ x. truth ops x >>= λ t. if t then eval ops inv a here else eval ops inv b here) (eval_from c here k) (λ n up x g.
          then_from r (anything r) r.good n (truth ops x) (λ t. if t then eval ops inv a here else eval ops inv b here) (truth_from n x) (λ m more t h.
          if_from r r.good m t (eval ops inv a here) (eval ops inv b here) (eval_from a here m) (eval_from b here m)))
      eval_from (operates o a b) here k = joined_from k (way o) o here (eval ops inv a here) (eval ops inv b here) (eval_from a here k) (eval_from b here k)
      eval_from (turned o a) here k =
          then_from r r.good r.good k (eval ops inv a here) (λ x. act here (ops.sign o x)) (eval_from a here k)
          (λ n up x g. act_from r r.good n here (ops.sign o x) (λ m more s hs. owed.sign m o x s (r.stays n m x more g) hs))
      eval_from (selects f x) here k =
          then_from r r.good r.good k (eval ops inv f here) (λ v. act here (ops.field v x)) (eval_from f here k)
          (λ n up v g. act_from r r.good n here (ops.field v x) (λ m more s hs. owed.field m v x s (r.stays n m v more g) hs))
      eval_from (subscript f a) here k =
          then_from r r.good r.good k (eval ops inv f here) (λ v. eval ops inv a here >>= λ i. act here (ops.item v i)) (eval_from f here k) (λ n up v g.
          then_from r r.good r.good n (eval ops inv a here) (λ i. act here (ops.item v i)) (eval_from a here n) (λ m more i h.
          act_from r r.good m here (ops.item v i) (λ w on s hs. owed.item w v i s (r.stays n w v (r.further n m w more on) g) (r.stays m w i on h) hs)))
      eval_from (invokes (selects f x) es ks) here k =
          then_from r r.good r.good k (eval ops inv f here)
          (λ v. act here (ops.find v x) >>= λ g. calling ops inv here g (evals ops inv es here []) (values ops inv ks here []) (names_of ks)) (eval_from f here k) (λ n up v gv.
          then_from r (good_callee r) r.good n (act here (ops.find v x)) (λ g. calling ops inv here g (evals ops inv es here []) (values ops inv ks here []) (names_of ks))
          (act_from r (good_callee r) n here (ops.find v x) (λ m more s hs. owed.find m v x s (r.stays n m v more gv) hs)) (λ m more g gg.
          calling_from m here g (evals ops inv es here []) (values ops inv ks here []) (names_of ks) gg (λ w. evals_from es here [] w tt) (λ w. values_from ks here [] w tt)))
      eval_from (invokes (named b) es ks) here k = plain_from k here (eval ops inv (named b) here) (evals ops inv es here []) (values ops inv ks here []) (names_of ks) (eval_from (named b) here k) (λ w. evals_from es here [] w tt) (λ w. values_from ks here [] w tt)
      eval_from (invokes (numeral i) es ks) here k = plain_from k here (eval ops inv (numeral i) here) (evals ops inv es here []) (values ops inv ks here []) (names_of ks) (eval_from (numeral i) here k) (λ w. evals_from es here [] w tt) (λ w. values_from ks here [] w tt)
      eval_from (invokes (quoted t) es ks) here k = plain_from k here (eval ops inv (quoted t) here) (evals ops inv es here []) (values ops inv ks here []) (names_of ks) (eval_from (quoted t) here k) (λ w. evals_from es here [] w tt) (λ w. values_from ks here [] w tt)
      eval_from (invokes (tuple ts) es ks) here k = plain_from k here (eval ops inv (tuple ts) here) (evals ops inv es here []) (values ops inv ks here []) (names_of ks) (eval_from (tuple ts) here k) (λ w. evals_from es here [] w tt) (λ w. values_from ks here [] w tt)
      eval_from (invokes (listing ts) es ks) here k = plain_from k here (eval ops inv (listing ts) here) (evals ops inv es here []) (values ops inv ks here []) (names_of ks) (eval_from (listing ts) here k) (λ w. evals_from es here [] w tt) (λ w. values_from ks here [] w tt)
      eval_from (invokes (dict ps) es ks) here k = plain_from k here (eval ops inv (dict ps) here) (evals ops inv es here []) (values ops inv ks here []) (names_of ks) (eval_from (dict ps) here k) (λ w. evals_from es here [] w tt) (λ w. values_from ks here [] w tt)
      eval_from (invokes (choice a c b) es ks) here k = plain_from k here (eval ops inv (choice a c b) here) (evals ops inv es here []) (values ops inv ks here []) (names_of ks) (eval_from (choice a c b) here k) (λ w. evals_from es here [] w tt) (λ w. values_from ks here [] w tt)
      eval_from (invokes (operates o a b) es ks) here k = plain_from k here (eval ops inv (operates o a b) here) (evals ops inv es here []) (values ops inv ks here []) (names_of ks) (eval_from (operates o a b) here k) (λ w. evals_from es here [] w tt) (λ w. values_from ks here [] w tt)
      eval_from (invokes (turned o a) es ks) here k = plain_from k here (eval ops inv (turned o a) here) (evals ops inv es here []) (values ops inv ks here []) (names_of ks) (eval_from (turned o a) here k) (λ w. evals_from es here [] w tt) (λ w. values_from ks here [] w tt)
      eval_from (invokes (subscript f a) es ks) here k = plain_from k here (eval ops inv (subscript f a) here) (evals ops inv es here []) (values ops inv ks here []) (names_of ks) (eval_from (subscript f a) here k) (λ w. evals_from es here [] w tt) (λ w. values_from ks here [] w tt)
      eval_from (invokes (invokes f ts js) es ks) here k = plain_from k here (eval ops inv (invokes f ts js) here) (evals ops inv es here []) (values ops inv ks here []) (names_of ks) (eval_from (invokes f ts js) here k) (λ w. evals_from es here [] w tt) (λ w. values_from ks here [] w tt)
      eval_from (invokes (each own a rs) es ks) here k = plain_from k here (eval ops inv (each own a rs) here) (evals ops inv es here []) (values ops inv ks here []) (names_of ks) (eval_from (each own a rs) here k) (λ w. evals_from es here [] w tt) (λ w. values_from ks here [] w tt)
      eval_from (invokes (each_pair own a b rs) es ks) here k = plain_from k here (eval ops inv (each_pair own a b rs) here) (evals ops inv es here []) (values ops inv ks here []) (names_of ks) (eval_from (each_pair own a b rs) here k) (λ w. evals_from es here [] w tt) (λ w. values_from ks here [] w tt)
      eval_from (each own e rs) here k =
          then_from r r.good r.good k (act here (ops.new_list [])) (λ v. rounds ops inv (Some own) rs (eval ops inv e here >>= λ x. act here (ops.collect v x)) here >>= λ _. pure v)
          (act_from r r.good k here (ops.new_list []) (λ n up s hs. owed.new_list n [] s tt hs)) (λ n up v g.
          then_from r (anything r) r.good n (rounds ops inv (Some own) rs (eval ops inv e here >>= λ x. act here (ops.collect v x)) here) (λ _. pure v)
          (rounds_from (Some own) rs (eval ops inv e here >>= λ x. act here (ops.collect v x)) here n (λ m more.
          then_from r r.good (anything r) m (eval ops inv e here) (λ x. act here (ops.collect v x)) (eval_from e here m) (λ w on x h.
          act_from r (anything r) w here (ops.collect v x) (λ z last s hs. owed.collect z v x s (r.stays n z v (r.further n w z (r.further n m w more on) last) g) (r.stays w z x last h) hs))))
          (λ m more u h. pure_from r K r.good m v (λ w on. r.stays n w v (r.further n m w more on) g)))
      eval_from (each_pair own a e rs) here k =
          then_from r r.good r.good k (act here ops.new_dict)
          (λ v. rounds ops inv (Some own) rs (eval ops inv a here >>= λ x. eval ops inv e here >>= λ y. act here (ops.keep v x y)) here >>= λ _. pure v)
          (act_from r r.good k here ops.new_dict (λ n up s hs. owed.new_dict n s hs)) (λ n up v g.
          then_from r (anything r) r.good n (rounds ops inv (Some own) rs (eval ops inv a here >>= λ x. eval ops inv e here >>= λ y. act here (ops.keep v x y)) here) (λ _. pure v)
          (rounds_from (Some own) rs (eval ops inv a here >>= λ x. eval ops inv e here >>= λ y. act here (ops.keep v x y)) here n (λ m more.
          then_from r r.good (anything r) m (eval ops inv a here) (λ x. eval ops inv e here >>= λ y. act here (ops.keep v x y)) (eval_from a here m) (λ w on x h.
          then_from r r.good (anything r) w (eval ops inv e here) (λ y. act here (ops.keep v x y)) (eval_from e here w) (λ z last y i.
          act_from r (anything r) z here (ops.keep v x y) (λ q end s hs.
          owed.keep q v x y s (r.stays n q v (r.further n z q (r.further n w z (r.further n m w more on) last) end) g) (r.stays w q x (r.further w z q last end) h) (r.stays z q y end i) hs)))))
          (λ m more u h. pure_from r K r.good m v (λ w on. r.stays n w v (r.further n m w more on) g)))

      pub evals_from : (es : Terms) (here : Here) (vs : List V) (k : r.World) → goods r k vs → From r (goods r) k (evals ops inv es here vs)
      evals_from no_terms here vs k gs = pure_from r K (goods r) k vs (λ n up. goods_stay r k n vs up gs)
      evals_from (more_terms e es) here vs k gs =
          then_from r r.good (goods r) k (eval ops inv e here) (λ v. evals ops inv es here (vs ++ v ∷ [])) (eval_from e here k)
          (λ n up v g. evals_from es here (vs ++ v ∷ []) n (goods_behind r n vs v (goods_stay r k n vs up gs) g))

      pub values_from : (ks : Keywords) (here : Here) (vs : List V) (k : r.World) → goods r k vs → From r (goods r) k (values ops inv ks here vs)
      values_from no_keywords here vs k gs = pure_from r K (goods r) k vs (λ n up. goods_stay r k n vs up gs)
      values_from (more_keywords x e ks) here vs k gs =
          then_from r r.good (goods r) k (eval ops inv e here) (λ v. values ops inv ks here (vs ++ v ∷ [])) (eval_from e here k)
          (λ n up v g. values_from ks here (vs ++ v ∷ []) n (goods_behind r n vs v (goods_stay r k n vs up gs) g))

      entries_from : (ps : Pairs) (here : Here) (d : V) (k : r.World) → r.good k d → From r (anything r) k (entries ops inv ps here d)
      entries_from no_pairs here d k g = unit_from r K k
      entries_from (more_pairs a e ps) here d k g =
          then_from r r.good (anything r) k (eval ops inv a here) (λ x. eval ops inv e here >>= λ y. act here (ops.enter d x y) >>= λ _. entries ops inv ps here d) (eval_from a here k) (λ n up x h.
          then_from r r.good (anything r) n (eval ops inv e here) (λ y. act here (ops.enter d x y) >>= λ _. entries ops inv ps here d) (eval_from e here n) (λ m more y i.
          then_from r (anything r) (anything r) m (act here (ops.enter d x y)) (λ _. entries ops inv ps here d)
          (act_from r (anything r) m here (ops.enter d x y) (λ w on s hs.
          owed.enter w d x y s (r.stays k w d (r.further k m w (r.further k n m up more) on) g) (r.stays n w x (r.further n m w more on) h) (r.stays m w y on i) hs))
          (λ w on u j. entries_from ps here d w (r.stays k w d (r.further k m w (r.further k n m up more) on) g))))

      pub rounds_from : (own : Option OwnSlots) (rs : Rounds) (inner : Effect S V K Unit) (here : Here) (k : r.World) → ((n : r.World) → r.grows k n → From r (anything r) n inner)
          → From r (anything r) k (rounds ops inv own rs inner here)
      rounds_from own tree.done inner here k h = h k (r.same k)
      rounds_from own (only_if e rs) inner here k h =
          then_from r r.good (anything r) k (eval ops inv e here) (λ x. truth ops x >>= λ t. if t then rounds ops inv own rs inner here else pure tt) (eval_from e here k) (λ n up x g.
          then_from r (anything r) (anything r) n (truth ops x) (λ t. if t then rounds ops inv own rs inner here else pure tt) (truth_from n x) (λ m more t i.
          if_from r (anything r) m t (rounds ops inv own rs inner here) (pure tt) (rounds_from own rs inner here m (λ w on. h w (r.further k m w (r.further k n m up more) on)))
          (unit_from r K m)))
      rounds_from own (for_each bs e rs) inner here k h =
          then_from r r.good (anything r) k (eval ops inv e here)
          (λ v. forget ops own >>= λ _. walking ops here v (turns ops here (λ x. assigned ops here bs x >>= λ _. rounds ops inv None rs inner here))) (eval_from e here k) (λ n up v g.
          then_from r (anything r) (anything r) n (forget ops own) (λ _. walking ops here v (turns ops here (λ x. assigned ops here bs x >>= λ _. rounds ops inv None rs inner here))) (forget_from n own) (λ m more u i.
          walking_from (anything r) (λ a b c d e. tt) m here v (turns ops here (λ x. assigned ops here bs x >>= λ _. rounds ops inv None rs inner here)) (r.stays n m v more g) (λ w on vs gs.
          turns_from w here (λ x. assigned ops here bs x >>= λ _. rounds ops inv None rs inner here) vs gs (λ z last x j.
          then_from r (anything r) (anything r) z (assigned ops here bs x) (λ _. rounds ops inv None rs inner here) (assigned_from z here bs x j) (λ q end y p.
          rounds_from None rs inner here q (λ c fin. h c (r.further k q c (r.further k z q (r.further k w z (r.further k m w (r.further k n m up more) on) last) end) fin)))))))
