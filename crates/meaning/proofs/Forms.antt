-- The code of forms made of others: `and` and `or`, one of two, and turns.
use Rattle.std.proofs.Common.{◌≡◌, ℕ, suc, ◌+◌, if◌then◌else◌, List, [], ◌∷◌, ◌++◌, length, Option, Some, None, refl, sym, ap, ◌∙◌, subst, arith}
use Rattle.meaning.specs.Instructions as instr
use Rattle.grammar.specs.Tree.{Operator}
use Rattle.meaning.specs.Names.{Binding, slot, global, builtin}
use Rattle.meaning.specs.Operations.{Callee}
use Rattle.meaning.specs.Outcome.{Slots, Outcome, done, fault, Effect, then_do, put, ◌>>=◌, pure, act}
use Rattle.meaning.specs.Expressions.{Way, while_true, while_false, always, joined, turns, assigned}
use Rattle.meaning.specs.Instructions.{Source}
use Rattle.meaning.specs.Machine.{Walk, Next}
use Rattle.meaning.specs.Performing.{place, fetch, fetched}
use Rattle.meaning.specs.ExpressionCode.{Lines, operate_code, joined_code, either_code, assign_code, turn_code, back}
use Rattle.meaning.proofs.Leads.{Leads, Gives, stays, goes_on, stepped, steps_alike, gives_from, gives_then, gives_as, gives_if, ends_at}
use Rattle.meaning.proofs.OneStep.{Site, config, now, G, At, cut, one, op, arrived, here_at, assign_runs}

module _ {S V K : Type 0} (site : Site S V K) where
  -- code that leaves a value more
  abbrev pub Runs : Lines → Effect S V K V → Type 0
  Runs c m = (pc pc' : ℕ) (l : Slots V) (os : List V) (cs : List (Callee V)) (ws : List (Walk V)) (s : S) → At site pc c pc' → G site (now site pc l os cs ws s) (m l s) (λ v l s. now site pc' l (v ∷ os) cs ws s)

  abbrev at_now : ℕ → Slots V → List V → List (Callee V) → List (Walk V) → S → Next S V K
  at_now pc l os cs ws s = now site pc l os cs ws s

  abbrev Goes : {A : Type 0} → Next S V K → Outcome S V K A → (A → Slots V → S → Next S V K) → Type 0
  Goes {A} a o k = Gives site.ops site.codes A a o k

  abbrev pub Stood : ℕ → Lines → ℕ → Type 0
  Stood pc is pc' = At site pc is pc'

  abbrev arrives : (pc pc' : ℕ) (l : Slots V) (os : List V) (cs : List (Callee V)) (ws : List (Walk V)) (s : S) →
      pc ≡ pc' → Leads site.ops site.codes (at_now pc l os cs ws s) (at_now pc' l os cs ws s)
  arrives = arrived site

  abbrev pub length_of : (pc pc' : ℕ) (c : Lines) → Stood pc c pc' → pc' ≡ pc + length c
  length_of pc pc' c h = ends_at site.codes site.fn pc pc' c h

  module _ (at : ℕ) where
    both_run : (o : Operator) (ca cb : Lines) (m n : Effect S V K V) → Runs ca m → Runs cb n →
        Runs (ca ++ (cb ++ (at, instr.operate o) ∷ [])) (m >>= λ x. n >>= λ y. act (here_at site at) (site.ops.binary o x y))
    both_run o ca cb m n ra rb pc pc' l os cs ws s h =
        let p = cut site pc pc' ca _ h in
        let q = cut site p.0 pc' cb _ p.2 in
        gives_then (m l s) (ra pc p.0 l os cs ws s p.1) (λ x l s.
        gives_then (n l s) (rb p.0 q.0 l (x ∷ os) cs ws s q.1) (λ y l s.
        op site at (instr.operate o) q.0 pc' l (y ∷ x ∷ os) cs ws s (λ v. v ∷ os) _ q.2 refl))

    -- what stands for an expression that needs no code
    abbrev pub IsFrom : Option Source → Effect S V K V → Type 0
    IsFrom None m = Unit {0}
    IsFrom (Some r) m = m ≡ fetch site.ops (here_at site at) r

    operate_runs : (o : Operator) (r q : Option Source) (ca cb : Lines) (m n : Effect S V K V) → IsFrom r m →
        IsFrom q n → Runs ca m → Runs cb n →
        Runs (operate_code o at r q ca cb) (m >>= λ x. n >>= λ y. act (here_at site at) (site.ops.binary o x y))
    operate_runs o (Some r) (Some q) ca cb m n hm hn ra rb pc pc' l os cs ws s h =
        subst (λ (m : Effect S V K V). Goes (at_now pc l os cs ws s) ((m >>= λ x. n >>= λ y. act (here_at site at) (site.ops.binary o x y)) l s) (λ v l s. at_now pc' l (v ∷ os) cs ws s)) (sym hm) (
        subst (λ (n : Effect S V K V). Goes (at_now pc l os cs ws s) ((fetch site.ops (here_at site at) r >>= λ x. n >>= λ y. act (here_at site at) (site.ops.binary o x y)) l s) (λ v l s. at_now pc' l (v ∷ os) cs ws s)) (sym hn) (
        op site at (instr.operate_both o r q) pc pc' l os cs ws s (λ v. v ∷ os) _ h refl))
    operate_runs o None (Some q) ca cb m n hm hn ra rb pc pc' l os cs ws s h =
        let p = cut site pc pc' ca _ h in
        gives_then (m l s) (ra pc p.0 l os cs ws s p.1) (λ x l s.
        subst (λ (n : Effect S V K V). Goes (at_now p.0 l (x ∷ os) cs ws s) ((n >>= λ y. act (here_at site at) (site.ops.binary o x y)) l s) (λ v l s. at_now pc' l (v ∷ os) cs ws s)) (sym hn) (
        op site at (instr.operate_on o q) p.0 pc' l (x ∷ os) cs ws s (λ v. v ∷ os) _ p.2 refl))
    operate_runs o (Some r) None ca cb m n hm hn ra rb pc pc' l os cs ws s h = both_run o ca cb m n ra rb pc pc' l os cs ws s h
    operate_runs o None None ca cb m n hm hn ra rb pc pc' l os cs ws s h = both_run o ca cb m n ra rb pc pc' l os cs ws s h

    pub joined_runs : (w : Way) (o : Operator) (r q : Option Source) (ca cb : Lines) (m n : Effect S V K V) →
        IsFrom r m → IsFrom q n → Runs ca m → Runs cb n →
        Runs (joined_code w o at r q ca cb) (joined site.ops w o (here_at site at) m n)
    joined_runs while_true o r q ca cb m n hm hn ra rb pc pc' l os cs ws s h =
        let p = cut site pc pc' ca _ h in
        gives_then (m l s) (ra pc p.0 l os cs ws s p.1) (λ x l s.
        one site at (instr.keep_unless (length cb)) p.0 l (x ∷ os) cs ws s p.2.0 refl (
        gives_if (site.ops.truth s x) _ _ n (pure x) l s _
        (rb (suc p.0) pc' l os cs ws s p.2.1)
        (record { by = arrives _ pc' l (x ∷ os) cs ws s (sym (length_of (suc p.0) pc' cb p.2.1)) })))
    joined_runs while_false o r q ca cb m n hm hn ra rb pc pc' l os cs ws s h =
        let p = cut site pc pc' ca _ h in
        gives_then (m l s) (ra pc p.0 l os cs ws s p.1) (λ x l s.
        one site at (instr.keep_if (length cb)) p.0 l (x ∷ os) cs ws s p.2.0 refl (
        gives_if (site.ops.truth s x) _ _ (pure x) n l s _
        (record { by = arrives _ pc' l (x ∷ os) cs ws s (sym (length_of (suc p.0) pc' cb p.2.1)) })
        (rb (suc p.0) pc' l os cs ws s p.2.1)))
    joined_runs always o r q ca cb m n hm hn ra rb pc pc' l os cs ws s h = operate_runs o r q ca cb m n hm hn ra rb pc pc' l os cs ws s h

    -- one of two, where a jump changes nothing of how both go on
    pub either_runs : {A : Type 0} (k : ℕ → A → Slots V → S → Next S V K) (os : List V) (cs : List (Callee V))
        (ws : List (Walk V)) →
        ((n m pc' : ℕ) → place site.codes site.fn m ≡ Some (at, instr.skip n) → suc m + n ≡ pc' → (x : A) (l : Slots V) (s : S) → Leads site.ops site.codes (k m x l s) (k pc' x l s)) →
        (ca cb : Lines) (m n : Effect S V K A) →
        ((pc pc' : ℕ) (l : Slots V) (s : S) → Stood pc ca pc' → Goes (at_now pc l os cs ws s) (m l s) (k pc')) →
        ((pc pc' : ℕ) (l : Slots V) (s : S) → Stood pc cb pc' → Goes (at_now pc l os cs ws s) (n l s) (k pc')) →
        (x : V) (pc pc' : ℕ) (l : Slots V) (s : S) → Stood pc (either_code at ca cb) pc' →
        Goes (at_now pc l (x ∷ os) cs ws s) ((if site.ops.truth s x then m else n) l s) (k pc')
    either_runs k os cs ws skips ca [] m n ra rb x pc pc' l s h =
        one site at (instr.skip_unless (length ca)) pc l (x ∷ os) cs ws s h.0 refl (
        gives_if (site.ops.truth s x) _ _ m n l s _
        (ra (suc pc) pc' l s h.1)
        (gives_from (arrives (suc pc + length ca) pc' l os cs ws s (sym (length_of (suc pc) pc' ca h.1))) (rb pc' pc' l s refl)))
    either_runs k os cs ws skips ca (i ∷ b) m n ra rb x pc pc' l s h =
        let q = cut site (suc pc) pc' ca _ h.1 in
        let la = length_of (suc pc) q.0 ca q.1 in
        let lb = length_of (suc q.0) pc' (i ∷ b) q.2.1 in
        let e1 : suc pc + suc (length ca) ≡ suc q.0 = omega (arith, la) in
        let e2 : suc q.0 + suc (length b) ≡ pc' = omega (arith, lb) in
        one site at (instr.skip_unless (suc (length ca))) pc l (x ∷ os) cs ws s h.0 refl (
        gives_if (site.ops.truth s x) _ _ m n l s _
        (gives_as (m l s) (ra (suc pc) q.0 l s q.1) (skips (suc (length b)) q.0 pc' q.2.0 e2))
        (gives_from (arrives (suc pc + suc (length ca)) (suc q.0) l os cs ws s e1) (rb (suc q.0) pc' l s q.2.1)))

    -- a jump over the other one of two values
    pub skips_value : (os : List V) (cs : List (Callee V)) (ws : List (Walk V)) (n m pc' : ℕ) →
        place site.codes site.fn m ≡ Some (at, instr.skip n) → suc m + n ≡ pc' → (x : V) (l : Slots V) (s : S) →
        Leads site.ops site.codes (at_now m l (x ∷ os) cs ws s) (at_now pc' l (x ∷ os) cs ws s)
    skips_value os cs ws n m pc' h e x l s =
        goes_on (stepped (config site m l (x ∷ os) cs ws s) at (instr.skip n) h) (arrives (suc m + n) pc' l (x ∷ os) cs ws s e)

    abbrev walk : V → List V → ℕ → ℕ → Walk V
    walk v vs head end = record { of = v; items = vs; head = head; end = end }

    regroup_at : {B C D : Type 0} (o : Outcome S V K B) (g : B → Effect S V K C) (k : C → Effect S V K D)
        (a : Next S V K) (e : D → Slots V → S → Next S V K) → Goes a (then_do o (λ y. g y >>= k)) e →
        Goes a (then_do (then_do o g) k) e
    regroup_at (done y l s) g k a e h = h
    regroup_at (fault x) g k a e h = h

    slow : (bs : List Binding) (v x : V) (xs : List V) (head end m : ℕ) (l : Slots V) (os : List V)
        (cs : List (Callee V)) (ws : List (Walk V)) (s : S) →
        place site.codes site.fn head ≡ Some (at, instr.next_turn) → Stood (suc head) (assign_code at bs) m →
        Goes (at_now head l os cs (walk v (x ∷ xs) head end ∷ ws) s) ((act (here_at site at) site.ops.tick >>= λ _. assigned site.ops (here_at site at) bs x) l s) (λ _ l s. at_now m l os cs (walk v xs head end ∷ ws) s)
    slow bs v x xs head end m l os cs ws s h g =
        one site at instr.next_turn head l os cs (walk v (x ∷ xs) head end ∷ ws) s h refl (
        gives_then {k = λ _ l s. at_now (suc head) l (x ∷ os) cs (walk v xs head end ∷ ws) s} (act (here_at site at) site.ops.tick l s) (record { by = stays }) (λ _ l s.
        assign_runs site at bs x (suc head) m l os cs (walk v xs head end ∷ ws) s g))

    -- one thing after the other, in other brackets
    pub regroup : {A B C D : Type 0} (o : Outcome S V K A) (f : A → Effect S V K B) (g : B → Effect S V K C)
        (k : C → Effect S V K D) (a : Next S V K) (e : D → Slots V → S → Next S V K) →
        Goes a (then_do (then_do o f) (λ y. g y >>= k)) e → Goes a (then_do o (λ x. (f x >>= g) >>= k)) e
    regroup (done x l s) f g k a e h = regroup_at (f x l s) g k a e h
    regroup (fault x) f g k a e h = h

    -- a turn begins: a tick, and the names are bound
    pub begins_turn : (bs : List Binding) (v x : V) (xs : List V) (head end m : ℕ) (l : Slots V) (os : List V)
        (cs : List (Callee V)) (ws : List (Walk V)) (s : S) → Stood head (turn_code at bs) m →
        Goes (at_now head l os cs (walk v (x ∷ xs) head end ∷ ws) s) ((act (here_at site at) site.ops.tick >>= λ _. assigned site.ops (here_at site at) bs x) l s) (λ _ l s. at_now m l os cs (walk v xs head end ∷ ws) s)
    begins_turn [] v x xs head end m l os cs ws s h = slow [] v x xs head end m l os cs ws s h.0 h.1
    begins_turn (global k ∷ []) v x xs head end m l os cs ws s h = slow (global k ∷ []) v x xs head end m l os cs ws s h.0 h.1
    begins_turn (builtin p ∷ []) v x xs head end m l os cs ws s h = slow (builtin p ∷ []) v x xs head end m l os cs ws s h.0 h.1
    begins_turn (b ∷ c ∷ bs) v x xs head end m l os cs ws s h = slow (b ∷ c ∷ bs) v x xs head end m l os cs ws s h.0 h.1
    begins_turn (slot k ∷ []) v x xs head end m l os cs ws s h =
        one site at (instr.next_into k) head l os cs (walk v (x ∷ xs) head end ∷ ws) s h.0 refl (
        gives_then {k = λ _ l s. at_now (suc head) (put k (Some x) l) os cs (walk v xs head end ∷ ws) s} (act (here_at site at) site.ops.tick l s) (record { by = stays }) (λ _ l s.
        record { by = arrives (suc head) m (put k (Some x) l) os cs (walk v xs head end ∷ ws) s h.1 }))

    -- the end of a turn of a loop leads to where the next one begins
    pub goes_back : (bs : List Binding) (v : V) (vs : List V) (head end u m : ℕ) (l : Slots V) (os : List V)
        (cs : List (Callee V)) (ws : List (Walk V)) (s : S) → Stood head (turn_code at bs) u →
        place site.codes site.fn m ≡ Some (at, back bs) →
        Leads site.ops site.codes (at_now m l os cs (walk v vs head end ∷ ws) s) (at_now head l os cs (walk v vs head end ∷ ws) s)
    goes_back [] v vs head end u m l os cs ws s h hm = stepped (config site m l os cs (walk v vs head end ∷ ws) s) at instr.again hm
    goes_back (global k ∷ []) v vs head end u m l os cs ws s h hm = stepped (config site m l os cs (walk v vs head end ∷ ws) s) at instr.again hm
    goes_back (builtin p ∷ []) v vs head end u m l os cs ws s h hm = stepped (config site m l os cs (walk v vs head end ∷ ws) s) at instr.again hm
    goes_back (b ∷ c ∷ bs) v vs head end u m l os cs ws s h hm = stepped (config site m l os cs (walk v vs head end ∷ ws) s) at instr.again hm
    goes_back (slot k ∷ []) v vs head end u m l os cs ws s h hm =
        let from = config site m l os cs (walk v vs head end ∷ ws) s in
        let to = config site head l os cs (walk v vs head end ∷ ws) s in
        steps_alike site.ops site.codes from to (ap (λ o. fetched site.ops site.codes o from) hm ∙ sym (ap (λ o. fetched site.ops site.codes o to) h.0))

    -- a walk without items ends
    pub ends_walk : (bs : List Binding) (v : V) (head end m : ℕ) (l : Slots V) (os : List V) (cs : List (Callee V))
        (ws : List (Walk V)) (s : S) → Stood head (turn_code at bs) m →
        Leads site.ops site.codes (at_now head l os cs (walk v [] head end ∷ ws) s) (at_now end l os cs ws (site.ops.end v s))
    ends_walk [] v head end m l os cs ws s h = stepped (config site head l os cs (walk v [] head end ∷ ws) s) at instr.next_turn h.0
    ends_walk (global k ∷ []) v head end m l os cs ws s h = stepped (config site head l os cs (walk v [] head end ∷ ws) s) at instr.next_turn h.0
    ends_walk (builtin p ∷ []) v head end m l os cs ws s h = stepped (config site head l os cs (walk v [] head end ∷ ws) s) at instr.next_turn h.0
    ends_walk (b ∷ c ∷ bs) v head end m l os cs ws s h = stepped (config site head l os cs (walk v [] head end ∷ ws) s) at instr.next_turn h.0
    ends_walk (slot k ∷ []) v head end m l os cs ws s h = stepped (config site head l os cs (walk v [] head end ∷ ws) s) at (instr.next_into k) h.0

    -- the turns of a comprehension
    pub turns_run : (bs : List Binding) (inner : Effect S V K Unit) (v : V) (head u m end : ℕ) (os : List V)
        (cs : List (Callee V)) (ws : List (Walk V)) → Stood head (turn_code at bs) u →
        place site.codes site.fn m ≡ Some (at, instr.again) →
        ((l : Slots V) (ws : List (Walk V)) (s : S) → Goes (at_now u l os cs ws s) (inner l s) (λ _ l s. at_now m l os cs ws s)) →
        (vs : List V) (l : Slots V) (s : S) →
        Goes (at_now head l os cs (walk v vs head end ∷ ws) s) (turns site.ops (here_at site at) (λ x. assigned site.ops (here_at site at) bs x >>= λ _. inner) vs l s) (λ _ l s. at_now end l os cs ws (site.ops.end v s))
    turns_run bs inner v head u m end os cs ws h hm body [] l s = record { by = ends_walk bs v head end u l os cs ws s h }
    turns_run bs inner v head u m end os cs ws h hm body (x ∷ xs) l s =
        regroup (act (here_at site at) site.ops.tick l s) (λ _. assigned site.ops (here_at site at) bs x) (λ _. inner) (λ _. turns site.ops (here_at site at) (λ x. assigned site.ops (here_at site at) bs x >>= λ _. inner) xs) (at_now head l os cs (walk v (x ∷ xs) head end ∷ ws) s) _ (
        gives_then ((act (here_at site at) site.ops.tick >>= λ _. assigned site.ops (here_at site at) bs x) l s) (begins_turn bs v x xs head end u l os cs ws s h) (λ _ l s.
        gives_then (inner l s) (body l (walk v xs head end ∷ ws) s) (λ _ l s.
        one site at instr.again m l os cs (walk v xs head end ∷ ws) s hm refl (
        turns_run bs inner v head u m end os cs ws h hm body xs l s))))
