-- The code of an expression gives what it means.
use Rattle.std.proofs.Common.{◌≡◌, ℕ, suc, ◌+◌, List, [], ◌∷◌, ◌++◌, length, Option, Some, None, refl, sym, subst, arith}
use Rattle.program_tree.specs.Resolved as tree
use Rattle.meaning.specs.Instructions as instr
use Rattle.program_tree.specs.Resolved.{Term, named, numeral, quoted, tuple, listing, dict, choice, operates, turned, selects, subscript, invokes, each, each_pair, Terms, no_terms, more_terms, Pairs, no_pairs, more_pairs, Keywords, no_keywords, more_keywords, Rounds, for_each, only_if}
use Rattle.meaning.specs.Names.{OwnSlots, slot, global, builtin}
use Rattle.meaning.specs.Operations.{Callee, plain}
use Rattle.meaning.specs.Outcome.{Slots, Outcome, done, Effect, ◌>>=◌, pure, act, Here}
use Rattle.meaning.specs.Expressions.{Invoke, way, names_of, calling, forget, assigned, turns, eval, evals, values, entries, rounds}
use Rattle.meaning.specs.Machine.{Walk, Next}
use Rattle.meaning.specs.ExpressionCode.{Lines, source_of, turn_code, count, forget_code, call_code, expr_code, exprs_code, values_code, entries_code, rounds_code}
use Rattle.meaning.proofs.Leads.{Leads, Gives, stays, stepped, gives_then, gives_all, gives_if}
use Rattle.meaning.proofs.OneStep.{Site, config, onto, onto_last, taken, Calls, here_at, now, At, cut, one, op, arrived, read_runs, forget_runs, call_runs}
use Rattle.meaning.proofs.Forms.{Runs, IsFrom, joined_runs, either_runs, skips_value, turns_run, length_of}
use Rattle.meaning.proofs.Counts.{items_counted, named_counted}

module _ {S V K : Type 0} (site : Site S V K) (invoke : Invoke S V K) (calls : Calls site.ops site.codes site.active invoke) (at : ℕ) where
  abbrev here : Here
  here = here_at site at

  abbrev at_now : ℕ → Slots V → List V → List (Callee V) → List (Walk V) → S → Next S V K
  at_now pc l os cs ws s = now site pc l os cs ws s

  abbrev Goes : {A : Type 0} → Next S V K → Outcome S V K A → (A → Slots V → S → Next S V K) → Type 0
  Goes {A} a o k = Gives site.ops site.codes A a o k

  abbrev Stood : ℕ → Lines → ℕ → Type 0
  Stood pc is pc' = At site pc is pc'

  abbrev split : (pc pc' : ℕ) (a b : Lines) → Stood pc (a ++ b) pc' → (m : ℕ) × Stood pc a m × Stood m b pc'
  split pc pc' a b h = cut site pc pc' a b h

  abbrev arrives : (pc pc' : ℕ) (l : Slots V) (os : List V) (cs : List (Callee V)) (ws : List (Walk V)) (s : S) →
      pc ≡ pc' → Leads site.ops site.codes (at_now pc l os cs ws s) (at_now pc' l os cs ws s)
  arrives = arrived site

  abbrev ran : Lines → Effect S V K V → Type 0
  ran c m = Runs site c m

  -- code that leaves several values more
  abbrev Many : Lines → Effect S V K (List V) → List V → Type 0
  Many c m vs = (pc pc' : ℕ) (l : Slots V) (os : List V) (cs : List (Callee V)) (ws : List (Walk V)) (s : S) → Stood pc c pc' → Goes (at_now pc l (onto vs os) cs ws s) (m l s) (λ vs l s. at_now pc' l (onto vs os) cs ws s)

  -- what stands before the dot of a callee
  abbrev Owner : Term → Type 0
  Owner (selects f x) = ran (expr_code at f) (eval site.ops invoke f here)
  Owner _ = Unit {0}

  plain_runs : (cf : Lines) (m : Effect S V K V) → ran cf m → (es : Terms) (ks : Keywords) →
      Many (exprs_code at es) (evals site.ops invoke es here []) [] →
      Many (values_code at ks) (values site.ops invoke ks here []) [] →
      ran (cf ++ (at, instr.take_callee) ∷ call_code at (count es) (exprs_code at es) (names_of ks) (values_code at ks)) (m >>= λ v. calling site.ops invoke here (plain v) (evals site.ops invoke es here []) (values site.ops invoke ks here []) (names_of ks))
  plain_runs cf m rf es ks re rk pc pc' l os cs ws s h =
      let p = split pc pc' cf _ h in
      gives_then (m l s) (rf pc p.0 l os cs ws s p.1) (λ v l s.
      one site at instr.take_callee p.0 l (v ∷ os) cs ws s p.2.0 refl (
      call_runs site at invoke calls (count es) (exprs_code at es) (values_code at ks) (evals site.ops invoke es here []) (values site.ops invoke ks here []) (names_of ks) (items_counted site.ops invoke here es) (named_counted site.ops invoke here ks) re rk (plain v) (suc p.0) pc' l os cs ws s p.2.1))

  invokes_runs : (f : Term) → ran (expr_code at f) (eval site.ops invoke f here) → Owner f →
      (es : Terms) (ks : Keywords) → Many (exprs_code at es) (evals site.ops invoke es here []) [] →
      Many (values_code at ks) (values site.ops invoke ks here []) [] →
      ran (expr_code at (invokes f es ks)) (eval site.ops invoke (invokes f es ks) here)
  unfolding eval
  invokes_runs (selects f x) rf ro es ks re rk pc pc' l os cs ws s h =
      let p = split pc pc' (expr_code at f) _ h in
      gives_then (eval site.ops invoke f here l s) (ro pc p.0 l os cs ws s p.1) (λ v l s.
      one site at (instr.find x) p.0 l (v ∷ os) cs ws s p.2.0 refl (
      gives_then {k = λ g l s. at_now (suc p.0) l os (g ∷ cs) ws s} (act here (site.ops.find v x) l s) (record { by = stays }) (λ g l s.
      call_runs site at invoke calls (count es) (exprs_code at es) (values_code at ks) (evals site.ops invoke es here []) (values site.ops invoke ks here []) (names_of ks) (items_counted site.ops invoke here es) (named_counted site.ops invoke here ks) re rk g (suc p.0) pc' l os cs ws s p.2.1)))
  invokes_runs (named (global k)) rf ro es ks re rk pc pc' l os cs ws s h =
      gives_then {k = λ v l s. at_now (suc pc) l os (plain v ∷ cs) ws s} (act here (site.ops.global site.fn.file k) l s) (record { by = stepped (config site pc l os cs ws s) at (instr.callee_global k) h.0 }) (λ v l s.
      call_runs site at invoke calls (count es) (exprs_code at es) (values_code at ks) (evals site.ops invoke es here []) (values site.ops invoke ks here []) (names_of ks) (items_counted site.ops invoke here es) (named_counted site.ops invoke here ks) re rk (plain v) (suc pc) pc' l os cs ws s h.1)
  invokes_runs (named (slot k)) rf ro es ks re rk pc pc' l os cs ws s h = plain_runs (expr_code at (named (slot k))) (eval site.ops invoke (named (slot k)) here) rf es ks re rk pc pc' l os cs ws s h
  invokes_runs (named (builtin p)) rf ro es ks re rk pc pc' l os cs ws s h = plain_runs (expr_code at (named (builtin p))) (eval site.ops invoke (named (builtin p)) here) rf es ks re rk pc pc' l os cs ws s h
  invokes_runs (numeral n) rf ro es ks re rk pc pc' l os cs ws s h = plain_runs (expr_code at (numeral n)) (eval site.ops invoke (numeral n) here) rf es ks re rk pc pc' l os cs ws s h
  invokes_runs (quoted t) rf ro es ks re rk pc pc' l os cs ws s h = plain_runs (expr_code at (quoted t)) (eval site.ops invoke (quoted t) here) rf es ks re rk pc pc' l os cs ws s h
  invokes_runs (tuple ts) rf ro es ks re rk pc pc' l os cs ws s h = plain_runs (expr_code at (tuple ts)) (eval site.ops invoke (tuple ts) here) rf es ks re rk pc pc' l os cs ws s h
  invokes_runs (listing ts) rf ro es ks re rk pc pc' l os cs ws s h = plain_runs (expr_code at (listing ts)) (eval site.ops invoke (listing ts) here) rf es ks re rk pc pc' l os cs ws s h
  invokes_runs (dict ps) rf ro es ks re rk pc pc' l os cs ws s h = plain_runs (expr_code at (dict ps)) (eval site.ops invoke (dict ps) here) rf es ks re rk pc pc' l os cs ws s h
  invokes_runs (choice a c b) rf ro es ks re rk pc pc' l os cs ws s h = plain_runs (expr_code at (choice a c b)) (eval site.ops invoke (choice a c b) here) rf es ks re rk pc pc' l os cs ws s h
  invokes_runs (operates o a b) rf ro es ks re rk pc pc' l os cs ws s h = plain_runs (expr_code at (operates o a b)) (eval site.ops invoke (operates o a b) here) rf es ks re rk pc pc' l os cs ws s h
  invokes_runs (turned o a) rf ro es ks re rk pc pc' l os cs ws s h = plain_runs (expr_code at (turned o a)) (eval site.ops invoke (turned o a) here) rf es ks re rk pc pc' l os cs ws s h
  invokes_runs (subscript f a) rf ro es ks re rk pc pc' l os cs ws s h = plain_runs (expr_code at (subscript f a)) (eval site.ops invoke (subscript f a) here) rf es ks re rk pc pc' l os cs ws s h
  invokes_runs (invokes f ts js) rf ro es ks re rk pc pc' l os cs ws s h = plain_runs (expr_code at (invokes f ts js)) (eval site.ops invoke (invokes f ts js) here) rf es ks re rk pc pc' l os cs ws s h
  invokes_runs (each own a r) rf ro es ks re rk pc pc' l os cs ws s h = plain_runs (expr_code at (each own a r)) (eval site.ops invoke (each own a r) here) rf es ks re rk pc pc' l os cs ws s h
  invokes_runs (each_pair own a b r) rf ro es ks re rk pc pc' l os cs ws s h = plain_runs (expr_code at (each_pair own a b r)) (eval site.ops invoke (each_pair own a b r) here) rf es ks re rk pc pc' l os cs ws s h

  pub is_from : (e : Term) → IsFrom site at (source_of e) (eval site.ops invoke e here)
  unfolding eval
  is_from (named (slot k)) = refl
  is_from (named (global k)) = tt
  is_from (named (builtin p)) = tt
  is_from (numeral n) = refl
  is_from (quoted t) = tt
  is_from (tuple ts) = tt
  is_from (listing ts) = tt
  is_from (dict ps) = tt
  is_from (choice a c b) = tt
  is_from (operates o a b) = tt
  is_from (turned o a) = tt
  is_from (selects f x) = tt
  is_from (subscript f a) = tt
  is_from (invokes f ts js) = tt
  is_from (each own a r) = tt
  is_from (each_pair own a b r) = tt

  mutual
    unfolding eval

    pub expr_runs : (e : Term) → ran (expr_code at e) (eval site.ops invoke e here)
    expr_runs (named b) pc pc' l os cs ws s h = read_runs site at b pc pc' l os cs ws s h
    expr_runs (numeral n) pc pc' l os cs ws s h = op site at (instr.push_number n) pc pc' l os cs ws s (λ v. v ∷ os) (done (site.ops.number n) l s) h refl
    expr_runs (quoted t) pc pc' l os cs ws s h = op site at (instr.push_text t) pc pc' l os cs ws s (λ v. v ∷ os) (done (site.ops.string t) l s) h refl
    expr_runs (tuple es) pc pc' l os cs ws s h =
        let p = split pc pc' (exprs_code at es) _ h in
        gives_all _ (evals site.ops invoke es here [] l s) (items_counted site.ops invoke here es l s) (exprs_run es [] pc p.0 l os cs ws s p.1) (λ vs l s d.
        op site at (instr.make_tuple (count es)) p.0 pc' l (onto vs os) cs ws s (λ v. v ∷ os) (act here (site.ops.new_tuple vs) l s) p.2 (taken vs os (count es) _ d))
    expr_runs (listing es) pc pc' l os cs ws s h =
        let p = split pc pc' (exprs_code at es) _ h in
        gives_all _ (evals site.ops invoke es here [] l s) (items_counted site.ops invoke here es l s) (exprs_run es [] pc p.0 l os cs ws s p.1) (λ vs l s d.
        op site at (instr.make_list (count es)) p.0 pc' l (onto vs os) cs ws s (λ v. v ∷ os) (act here (site.ops.new_list vs) l s) p.2 (taken vs os (count es) _ d))
    expr_runs (dict ps) pc pc' l os cs ws s h =
        one site at instr.new_dict pc l os cs ws s h.0 refl (
        gives_then {k = λ d l s. at_now (suc pc) l (d ∷ os) cs ws s} (act here site.ops.new_dict l s) (record { by = stays }) (λ d l s.
        gives_then (entries site.ops invoke ps here d l s) (entries_run ps d (suc pc) pc' l os cs ws s h.1) (λ _ l s. record { by = stays })))
    expr_runs (choice a c b) pc pc' l os cs ws s h =
        let p = split pc pc' (expr_code at c) _ h in
        gives_then (eval site.ops invoke c here l s) (expr_runs c pc p.0 l os cs ws s p.1) (λ x l s.
        either_runs site at (λ pc v l s. at_now pc l (v ∷ os) cs ws s) os cs ws (skips_value site at os cs ws) (expr_code at a) (expr_code at b) (eval site.ops invoke a here) (eval site.ops invoke b here)
        (λ pc pc' l s h. expr_runs a pc pc' l os cs ws s h) (λ pc pc' l s h. expr_runs b pc pc' l os cs ws s h) x p.0 pc' l s p.2)
    expr_runs (operates o a b) pc pc' l os cs ws s h =
        joined_runs site at (way o) o (source_of a) (source_of b) (expr_code at a) (expr_code at b) (eval site.ops invoke a here) (eval site.ops invoke b here) (is_from a) (is_from b) (expr_runs a) (expr_runs b) pc pc' l os cs ws s h
    expr_runs (turned o a) pc pc' l os cs ws s h =
        let p = split pc pc' (expr_code at a) _ h in
        gives_then (eval site.ops invoke a here l s) (expr_runs a pc p.0 l os cs ws s p.1) (λ x l s.
        op site at (instr.signed o) p.0 pc' l (x ∷ os) cs ws s (λ v. v ∷ os) (act here (site.ops.sign o x) l s) p.2 refl)
    expr_runs (selects f x) pc pc' l os cs ws s h =
        let p = split pc pc' (expr_code at f) _ h in
        gives_then (eval site.ops invoke f here l s) (expr_runs f pc p.0 l os cs ws s p.1) (λ v l s.
        op site at (instr.field x) p.0 pc' l (v ∷ os) cs ws s (λ v. v ∷ os) (act here (site.ops.field v x) l s) p.2 refl)
    expr_runs (subscript f a) pc pc' l os cs ws s h =
        let p = split pc pc' (expr_code at f) _ h in
        let q = split p.0 pc' (expr_code at a) _ p.2 in
        gives_then (eval site.ops invoke f here l s) (expr_runs f pc p.0 l os cs ws s p.1) (λ v l s.
        gives_then (eval site.ops invoke a here l s) (expr_runs a p.0 q.0 l (v ∷ os) cs ws s q.1) (λ i l s.
        op site at instr.item q.0 pc' l (i ∷ v ∷ os) cs ws s (λ v. v ∷ os) (act here (site.ops.item v i) l s) q.2 refl))
    expr_runs (invokes f es ks) pc pc' l os cs ws s h =
        invokes_runs f (expr_runs f) (owner_runs f) es ks (exprs_run es []) (values_run ks []) pc pc' l os cs ws s h
    expr_runs (each own e r) pc pc' l os cs ws s h =
        one site at (instr.make_list 0) pc l os cs ws s h.0 refl (
        gives_then {k = λ v l s. at_now (suc pc) l (v ∷ os) cs ws s} (act here (site.ops.new_list []) l s) (record { by = stays }) (λ v l s.
        gives_then (rounds site.ops invoke (Some own) r (eval site.ops invoke e here >>= λ x. act here (site.ops.collect v x)) here l s) (rounds_run (Some own) r (expr_code at e ++ (at, instr.collect) ∷ []) (eval site.ops invoke e here >>= λ x. act here (site.ops.collect v x)) (v ∷ os) cs (λ pc pc' l ws s h.
        let q = split pc pc' (expr_code at e) _ h in
        gives_then (eval site.ops invoke e here l s) (expr_runs e pc q.0 l (v ∷ os) cs ws s q.1) (λ x l s.
        op site at instr.collect q.0 pc' l (x ∷ v ∷ os) cs ws s (λ _. v ∷ os) (act here (site.ops.collect v x) l s) q.2 refl))
        (suc pc) pc' l ws s h.1) (λ _ l s. record { by = stays })))
    expr_runs (each_pair own k e r) pc pc' l os cs ws s h =
        one site at instr.new_dict pc l os cs ws s h.0 refl (
        gives_then {k = λ v l s. at_now (suc pc) l (v ∷ os) cs ws s} (act here site.ops.new_dict l s) (record { by = stays }) (λ v l s.
        gives_then (rounds site.ops invoke (Some own) r (eval site.ops invoke k here >>= λ x. eval site.ops invoke e here >>= λ y. act here (site.ops.keep v x y)) here l s) (rounds_run (Some own) r (expr_code at k ++ (expr_code at e ++ (at, instr.keep) ∷ [])) (eval site.ops invoke k here >>= λ x. eval site.ops invoke e here >>= λ y. act here (site.ops.keep v x y)) (v ∷ os) cs (λ pc pc' l ws s h.
        let q = split pc pc' (expr_code at k) _ h in
        let u = split q.0 pc' (expr_code at e) _ q.2 in
        gives_then (eval site.ops invoke k here l s) (expr_runs k pc q.0 l (v ∷ os) cs ws s q.1) (λ x l s.
        gives_then (eval site.ops invoke e here l s) (expr_runs e q.0 u.0 l (x ∷ v ∷ os) cs ws s u.1) (λ y l s.
        op site at instr.keep u.0 pc' l (y ∷ x ∷ v ∷ os) cs ws s (λ _. v ∷ os) (act here (site.ops.keep v x y) l s) u.2 refl)))
        (suc pc) pc' l ws s h.1) (λ _ l s. record { by = stays })))

    owner_runs : (e : Term) → Owner e
    owner_runs (selects f x) = expr_runs f
    owner_runs (named b) = tt
    owner_runs (numeral n) = tt
    owner_runs (quoted t) = tt
    owner_runs (tuple ts) = tt
    owner_runs (listing ts) = tt
    owner_runs (dict ps) = tt
    owner_runs (choice a c b) = tt
    owner_runs (operates o a b) = tt
    owner_runs (turned o a) = tt
    owner_runs (subscript f a) = tt
    owner_runs (invokes f ts js) = tt
    owner_runs (each own a r) = tt
    owner_runs (each_pair own a b r) = tt

    pub exprs_run : (es : Terms) (vs : List V) → Many (exprs_code at es) (evals site.ops invoke es here vs) vs
    exprs_run no_terms vs pc pc' l os cs ws s h = record { by = arrives pc pc' l (onto vs os) cs ws s h }
    exprs_run (more_terms e es) vs pc pc' l os cs ws s h =
        let p = split pc pc' (expr_code at e) _ h in
        gives_then (eval site.ops invoke e here l s) (expr_runs e pc p.0 l (onto vs os) cs ws s p.1) (λ v l s.
        subst (λ xs. Goes (at_now p.0 l xs cs ws s) (evals site.ops invoke es here (vs ++ v ∷ []) l s) (λ vs l s. at_now pc' l (onto vs os) cs ws s)) (onto_last vs v os) (exprs_run es (vs ++ v ∷ []) p.0 pc' l os cs ws s p.2))

    values_run : (ks : Keywords) (vs : List V) → Many (values_code at ks) (values site.ops invoke ks here vs) vs
    values_run no_keywords vs pc pc' l os cs ws s h = record { by = arrives pc pc' l (onto vs os) cs ws s h }
    values_run (more_keywords x e ks) vs pc pc' l os cs ws s h =
        let p = split pc pc' (expr_code at e) _ h in
        gives_then (eval site.ops invoke e here l s) (expr_runs e pc p.0 l (onto vs os) cs ws s p.1) (λ v l s.
        subst (λ xs. Goes (at_now p.0 l xs cs ws s) (values site.ops invoke ks here (vs ++ v ∷ []) l s) (λ vs l s. at_now pc' l (onto vs os) cs ws s)) (onto_last vs v os) (values_run ks (vs ++ v ∷ []) p.0 pc' l os cs ws s p.2))

    entries_run : (ps : Pairs) (d : V) (pc pc' : ℕ) (l : Slots V) (os : List V) (cs : List (Callee V))
        (ws : List (Walk V)) (s : S) → Stood pc (entries_code at ps) pc' →
        Goes (at_now pc l (d ∷ os) cs ws s) (entries site.ops invoke ps here d l s) (λ _ l s. at_now pc' l (d ∷ os) cs ws s)
    entries_run no_pairs d pc pc' l os cs ws s h = record { by = arrives pc pc' l (d ∷ os) cs ws s h }
    entries_run (more_pairs k e ps) d pc pc' l os cs ws s h =
        let p = split pc pc' (expr_code at k) _ h in
        let q = split p.0 pc' (expr_code at e) _ p.2 in
        gives_then (eval site.ops invoke k here l s) (expr_runs k pc p.0 l (d ∷ os) cs ws s p.1) (λ x l s.
        gives_then (eval site.ops invoke e here l s) (expr_runs e p.0 q.0 l (x ∷ d ∷ os) cs ws s q.1) (λ y l s.
        gives_then (act here (site.ops.enter d x y) l s) (op site at instr.enter q.0 (suc q.0) l (y ∷ x ∷ d ∷ os) cs ws s (λ _. d ∷ os) (act here (site.ops.enter d x y) l s) (q.2.0, refl) refl) (λ _ l s.
        entries_run ps d (suc q.0) pc' l os cs ws s q.2.1)))

    rounds_run : (fs : Option OwnSlots) (r : Rounds) (c : Lines) (inner : Effect S V K Unit) (os : List V)
        (cs : List (Callee V)) →
        ((pc pc' : ℕ) (l : Slots V) (ws : List (Walk V)) (s : S) → Stood pc c pc' → Goes (at_now pc l os cs ws s) (inner l s) (λ _ l s. at_now pc' l os cs ws s)) →
        (pc pc' : ℕ) (l : Slots V) (ws : List (Walk V)) (s : S) → Stood pc (rounds_code at fs r c) pc' →
        Goes (at_now pc l os cs ws s) (rounds site.ops invoke fs r inner here l s) (λ _ l s. at_now pc' l os cs ws s)
    rounds_run fs tree.done c inner os cs run pc pc' l ws s h = run pc pc' l ws s h
    rounds_run fs (only_if e r) c inner os cs run pc pc' l ws s h =
        let p = split pc pc' (expr_code at e) _ h in
        gives_then (eval site.ops invoke e here l s) (expr_runs e pc p.0 l os cs ws s p.1) (λ x l s.
        one site at (instr.skip_unless (length (rounds_code at fs r c))) p.0 l (x ∷ os) cs ws s p.2.0 refl (
        gives_if (site.ops.truth s x) _ _ (rounds site.ops invoke fs r inner here) (pure tt) l s _
        (rounds_run fs r c inner os cs run (suc p.0) pc' l ws s p.2.1)
        (record { by = arrives _ pc' l os cs ws s (sym (length_of site (suc p.0) pc' (rounds_code at fs r c) p.2.1)) })))
    rounds_run fs (for_each bs e r) c inner os cs run pc pc' l ws s h =
        let body = turn_code at bs ++ rounds_code at None r c in
        let n = length body + 1 in
        let o = split pc pc' (expr_code at e) _ h in
        let p = split o.0 pc' (forget_code at fs) _ o.2 in
        let q = split (suc p.0) pc' body _ p.2.1 in
        let u = split (suc p.0) q.0 (turn_code at bs) _ q.1 in
        let len = length_of site (suc p.0) q.0 body q.1 in
        let e1 : suc p.0 + n ≡ pc' = omega (arith, len, q.2.1) in
        gives_then (eval site.ops invoke e here l s) (expr_runs e pc o.0 l os cs ws s o.1) (λ v l s.
        gives_then (forget site.ops fs l s) (forget_runs site at fs o.0 p.0 l (v ∷ os) cs ws s p.1) (λ _ l s.
        one site at (instr.begin_walk n) p.0 l (v ∷ os) cs ws s p.2.0 refl (
        gives_then {k = λ vs l s. at_now (suc p.0) l os cs (record { of = v; items = vs; head = suc p.0; end = suc p.0 + n } ∷ ws) s} (act here (site.ops.begin v) l s) (record { by = stays }) (λ vs l s.
        gives_then (turns site.ops here (λ x. assigned site.ops here bs x >>= λ _. rounds site.ops invoke None r inner here) vs l s) (turns_run site at bs (rounds site.ops invoke None r inner here) v (suc p.0) u.0 q.0 (suc p.0 + n) os cs ws u.1 q.2.0 (λ l ws s.
        rounds_run None r c inner os cs run u.0 q.0 l ws s u.2) vs l s) (λ _ l s.
        record { by = arrives (suc p.0 + n) pc' l os cs ws (site.ops.end v s) e1 })))))
