-- Tuples of keys and values, one after the other, and the heap that grows by them.
use Rattle.std.proofs.Common.{◌≡◌, ℕ, ◌⊎◌, inl, inr, Bool, true, false, if◌then◌else◌, nat_lt, List, [], ◌∷◌, ◌++◌, map, length, take, Result, Ok, Err, MatchResult, refl, sym, ap, ◌∙◌, subst, append_assoc, arith}
use Rattle.values.specs.Visits.{keys_of}
use Rattle.ticks.specs.Ticking.{FaultOr}
use Rattle.keys.specs.declared.key.Key.{Key}
use Rattle.values.specs.declared.value.Value.{Value}
use Rattle.values.specs.declared.value.Value.TheVariants as value
use Rattle.values.specs.declared.cells.Cell.{Cell}
use Rattle.values.specs.declared.cells.Cell.TheVariants as cell
use Rattle.values.specs.declared.cells.TheConstants.{LARGEST}
use Rattle.ticks.specs.declared.ticks.Kind.TheVariants.{Large}
use Rattle.ticks.specs.declared.ticks.Broken.{Broken}
use Rattle.ticks.specs.declared.ticks.Broken.TheVariants as broken
use Rattle.operations.specs.declared.state.State.{State}
use Rattle.operations.specs.States.{Doing, Stays, Does, with_heap, then_do}
use Rattle.operations.specs.Making.{new_tuple, new_list}
use Rattle.operations.specs.Methods.{pairs, pairs_behind}
use Rattle.calls.specs.Pairs.{tuple_behind, tuples_behind, listed_tuples, Grown}

-- ---- the heap grows

nothing_behind : {A : Type 0} (xs : List A) → xs ++ [] ≡ xs
nothing_behind [] = refl
nothing_behind (x ∷ xs) = ap (λ l. x ∷ l) (nothing_behind xs)

pub same_grown : (s : State) → Grown s s
same_grown s = (([], sym (nothing_behind s.heap)), refl)

pub stays_grown : (s t : State) → Stays s t → Grown s t
stays_grown s t h = (([], h.0 ∙ sym (nothing_behind s.heap)), h.1)

pub grown_on : (a b c : State) → Grown a b → Grown b c → Grown a c
grown_on a b c h k =
    ((h.0.0 ++ k.0.0, k.0.1 ∙ ap (λ l. l ++ k.0.0) h.0.1 ∙ append_assoc a.heap h.0.0 k.0.0), k.1 ∙ h.1)

taken_front : {A : Type 0} (xs ys : List A) → take (length xs) (xs ++ ys) ≡ xs
taken_front [] ys = refl
taken_front (x ∷ xs) ys = ap (λ l. x ∷ l) (taken_front xs ys)

pub cut_back : (old new : State) → Grown old new → take (length old.heap) new.heap ≡ old.heap
cut_back old new h = ap (take (length old.heap)) h.0.1 ∙ taken_front old.heap h.0.0

abbrev state_of : {A : Type 0} → Doing A → State → State
state_of (Ok p) s = p.1
state_of (Err k) s = s

one_cell : (b : Bool) (s t : State) (v : Value) (c : Cell) (n : ℕ) → with_heap s (if b then Err Large else Ok (value.Cell n, s.heap ++ c ∷ [])) ≡ Ok (v, t) → Grown s t
one_cell true s t v c n e = absurd (cc)
one_cell false s t v c n e =
    let h : record s { heap = s.heap ++ c ∷ [] } ≡ t = ap (λ r. state_of r s) e in
    subst (Grown s) h ((c ∷ [], refl), refl)

pub tuple_grows : (xs : List Value) (s t : State) (v : Value) → new_tuple xs s ≡ Ok (v, t) → Grown s t
tuple_grows xs s t v e = one_cell (nat_lt LARGEST (length xs)) s t v (cell.Tuple xs) (length s.heap) e

-- ---- one tuple more

pub one_behind : (vs : List Value) (k v : Value) (s t : State) (u : Value) → new_tuple (k ∷ v ∷ []) s ≡ Ok (u, t) → tuple_behind vs k v s ≡ Ok (vs ++ u ∷ [], t)
one_behind vs k v s t u e = ap (λ r. then_do r (λ t r. Ok (vs ++ t ∷ [], r))) e

pub no_tuple : (vs : List Value) (k v : Value) (s : State) (e : Broken) → FaultOr (new_tuple (k ∷ v ∷ []) s) e → FaultOr (tuple_behind vs k v s) e
no_tuple vs k v s (broken.Kind f) h = ap (λ r. then_do r (λ t r. Ok (vs ++ t ∷ [], r))) h
no_tuple vs k v s broken.NoMemory h = tt

module _ (xs rest : List Value) (ys more : List Value) (x y : Value) (p : xs ≡ x ∷ rest) (q : ys ≡ y ∷ more) (vs : List Value) (s : State) where
  turn : tuples_behind vs xs ys s ≡ then_do (tuple_behind vs x y s) (λ us t. tuples_behind us rest more t)
  turn = λ j. tuples_behind vs (p j) (q j) s

  pub turned : (us : List Value) (t : State) → tuple_behind vs x y s ≡ Ok (us, t) → tuples_behind vs xs ys s ≡ tuples_behind us rest more t
  turned us t e = turn ∙ ap (λ r. then_do r (λ us t. tuples_behind us rest more t)) e

  pub unturned : (e : Broken) → FaultOr (tuple_behind vs x y s) e → FaultOr (tuples_behind vs xs ys s) e
  unturned (broken.Kind f) h = turn ∙ ap (λ r. then_do r (λ us t. tuples_behind us rest more t)) h
  unturned broken.NoMemory h = tt

-- where no key is left, or no value
pub all_behind : (vs xs ys : List Value) (s : State) → (xs ≡ []) ⊎ (ys ≡ []) → tuples_behind vs xs ys s ≡ Ok (vs, s)
all_behind vs [] ys s none = refl
all_behind vs (x ∷ xs) [] s none = refl
all_behind vs (x ∷ xs) (y ∷ ys) s (inl e) = absurd (cc)
all_behind vs (x ∷ xs) (y ∷ ys) s (inr e) = absurd (cc)

pub pushed_does : (vs ws p : List Value) (k v : Value) (s t : State) (u : Value) (r : Result (Unit {0}) Broken) → p ≡ k ∷ v ∷ [] → new_tuple p s ≡ Ok (u, t)
    → MatchResult r (λ x. ws ≡ vs ++ u ∷ []) (λ e. e ≡ broken.NoMemory)
    → MatchResult r (λ x. tuple_behind vs k v s ≡ Ok (ws, t)) (λ e. FaultOr (tuple_behind vs k v s) e)
pushed_does vs ws p k v s t u (Ok x) q e h = one_behind vs k v s t u (ap (λ l. new_tuple l s) (sym q) ∙ e) ∙ ap (λ l. Ok (l, t)) (sym h)
pushed_does vs ws p k v s t u (Err f) q e h = subst (FaultOr (tuple_behind vs k v s)) (sym h) tt

-- ---- the list of them

pub listed : (xs ys vs : List Value) (s t u : State) (v : Value) → tuples_behind [] xs ys s ≡ Ok (vs, t) → new_list vs t ≡ Ok (v, u) → listed_tuples xs ys s ≡ Ok (v, u)
listed xs ys vs s t u v e f = ap (λ r. then_do r new_list) e ∙ f

pub unlisted : (xs ys : List Value) (s : State) (e : Broken) → FaultOr (tuples_behind [] xs ys s) e → FaultOr (listed_tuples xs ys s) e
unlisted xs ys s (broken.Kind f) h = ap (λ r. then_do r new_list) h
unlisted xs ys s broken.NoMemory h = tt

pub list_fault : (xs ys vs : List Value) (s t : State) (e : Broken) → tuples_behind [] xs ys s ≡ Ok (vs, t) → FaultOr (new_list vs t) e → FaultOr (listed_tuples xs ys s) e
list_fault xs ys vs s t (broken.Kind f) h k = ap (λ r. then_do r new_list) h ∙ k
list_fault xs ys vs s t broken.NoMemory h k = tt

pub list_does : (xs ys vs : List Value) (s t u : State) (r : Result Value Broken) → tuples_behind [] xs ys s ≡ Ok (vs, t) → Does (new_list vs) t r u
    → MatchResult r (λ v. listed_tuples xs ys s ≡ Ok (v, u)) (λ e. FaultOr (listed_tuples xs ys s) e)
list_does xs ys vs s t u (Ok v) e h = listed xs ys vs s t u v e h
list_does xs ys vs s t u (Err f) e h = list_fault xs ys vs s t f e h.1

pub list_grows : (vs : List Value) (t u : State) (r : Result Value Broken) → Does (new_list vs) t r u → Grown t u
list_grows vs t u (Ok v) h = one_cell (nat_lt LARGEST (length vs)) t u v (cell.List vs 0) (length t.heap) h
list_grows vs t u (Err f) h = stays_grown t u h.0

-- ---- they are those of the dict

behind_after : (es : List (Key × Value)) (vs : List Value) (r : Doing Value) (k v : Value)
    → ((us : List Value) (t : State) → tuples_behind us (map value.Key (keys_of es)) (map (λ e. e.1) es) t ≡ pairs_behind us es t)
    → then_do (then_do r (λ t r. Ok (vs ++ t ∷ [], r))) (λ us t. tuples_behind us (map value.Key (keys_of es)) (map (λ e. e.1) es) t)
    ≡ then_do r (λ u t. pairs_behind (vs ++ u ∷ []) es t)
behind_after es vs (Ok p) k v h = h (vs ++ p.0 ∷ []) p.1
behind_after es vs (Err f) k v h = refl

of_entries : (es : List (Key × Value)) (vs : List Value) (s : State) → tuples_behind vs (map value.Key (keys_of es)) (map (λ e. e.1) es) s ≡ pairs_behind vs es s
of_entries [] vs s = refl
of_entries (e ∷ es) vs s = behind_after es vs (new_tuple (value.Key e.0 ∷ e.1 ∷ []) s) (value.Key e.0) e.1 (of_entries es)

pub of_dict : (es : List (Key × Value)) (s : State) → listed_tuples (map value.Key (keys_of es)) (map (λ e. e.1) es) s ≡ pairs es s
of_dict es s = ap (λ r. then_do r new_list) (of_entries es [] s)

long : (es : List (Key × Value)) → length (map value.Key (keys_of es)) ≡ length (map (λ e. e.1) es)
long [] = refl
long (e ∷ es) = let h = long es in omega (arith, h)

pub same_long : (xs ys : List Value) (es : List (Key × Value)) → xs ≡ map value.Key (keys_of es) → ys ≡ map (λ e. e.1) es → length xs ≡ length ys
same_long xs ys es p q = ap length p ∙ long es ∙ ap length (sym q)

pub dict_does : (xs ys : List Value) (es : List (Key × Value)) (s u : State) (r : Result Value Broken) → xs ≡ map value.Key (keys_of es) → ys ≡ map (λ e. e.1) es
    → Does (listed_tuples xs ys) s r u → Does (pairs es) s r u
dict_does xs ys es s u r p q h =
    subst (λ d. MatchResult r (λ v. d ≡ Ok (v, u)) (λ e. Stays s u × FaultOr d e)) (ap (λ l. listed_tuples l ys s) p ∙ ap (λ l. listed_tuples (map value.Key (keys_of es)) l s) q ∙ of_dict es s) h
