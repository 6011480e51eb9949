-- Arguments by position alone, from the stack into the slots.
use Rattle.std.proofs.Common.{◌≡◌, ◌∙◌, ℕ, zero, suc, ◌+◌, ◌-◌, ◌<◌, ◌≤◌, List, [], ◌∷◌, ◌++◌, ap, refl, sym, subst, length, get_or, drop, append-nil, arith, length-append}
use Rattle.std.specs.Prelude.{Bool, Option, Some, None, MatchOption, option_map, replicate, map}
use Rattle.std.proofs.lemmas.List.{drop_at, drop_all, get_or_default, length-map, length-replicate}
use Rattle.program_tree.specs.Names.{Name}
use Rattle.meaning.specs.Outcome.{Slots, put}
use Rattle.meaning.specs.Entry.{before_all, defaults_of, entry, filled, paired}
use Rattle.meaning.specs.Machine.{Next, on_top, pops, stuck}
use Rattle.meaning.specs.Operations.{Arguments, Callee}
use Rattle.call_stack.specs.Filled.{behind, by_position, default_at, fitting, rest_filled, top_of}
use Rattle.call_stack.proofs.Parameters.{fill_fails, fill_turn}

-- values that are there are taken
pub pops_top : {S V K : Type 0} (n : ℕ) (vs os : List V) (go : List V → List V → Next S V K) → n ≤ length os →
    pops n vs os go ≡ go (top_of n vs os) (drop n os)
pops_top zero vs os go h = refl
pops_top (suc n) vs [] go h = absurd (omega (arith, h))
pops_top (suc n) vs (v ∷ os) go h = pops_top n (v ∷ vs) os go (omega (arith, h))

-- whatever is taken, nothing can be done
pub pops_stuck : {S V K : Type 0} (n : ℕ) (vs os : List V) (go : List V → List V → Next S V K) →
    ((ws us : List V) → go ws us ≡ stuck) → pops n vs os go ≡ stuck
pops_stuck zero vs os go h = h vs os
pops_stuck (suc n) vs [] go h = refl
pops_stuck (suc n) vs (v ∷ os) go h = pops_stuck n (v ∷ vs) os go h

-- a call takes its values off the top, and what it calls
pub call_takes : {S V K : Type 0} (names : List Name) (n : ℕ) (values : List V) (callees gs : List (Callee V)) (g : Callee V)
    (go : Callee V → Arguments V → List V → List (Callee V) → Next S V K) →
    length names ≡ 0 → n ≤ length values → callees ≡ g ∷ gs →
    pops (length names) [] values (λ ws os. pops n [] os (λ vs us. on_top callees (λ x xs.
    go x (record { items = vs; named = paired names ws }) us xs)))
    ≡ go g (by_position (top_of n [] values)) (drop n values) gs
call_takes [] n values callees gs g go e h c =
    pops_top n [] values (λ vs us. on_top callees (λ x xs. go x (by_position vs) us xs)) h
    ∙ ap (λ ys. on_top ys (λ x xs. go x (by_position (top_of n [] values)) (drop n values) xs)) c
call_takes (x ∷ names) n values callees gs g go e h c = absurd (omega (arith, e))

module _ {S V K : Type 0} (names : List Name) (n : ℕ) (values : List V) (go : Callee V → Arguments V → List V → List (Callee V) → Next S V K) where
  -- a call takes its values, and then what it calls, of these
  abbrev pub taking : List (Callee V) → Next S V K
  taking callees = pops (length names) [] values (λ ws os. pops n [] os (λ vs us. on_top callees (λ x xs.
      go x (record { items = vs; named = paired names ws }) us xs)))

  -- there is nothing to be called
  pub taking_none : (callees : List (Callee V)) → callees ≡ [] → taking callees ≡ stuck
  taking_none callees e =
      ap taking e ∙ pops_stuck (length names) [] values (λ ws os. pops n [] os (λ vs us. stuck)) (λ ws us. pops_stuck n [] us (λ vs us. stuck) (λ vs us. refl))

module _ {V : Type 0} where
  pub top_length : (n : ℕ) (vs os : List V) → n ≤ length os → length (top_of n vs os) ≡ n + length vs
  top_length zero vs os h = omega arith
  top_length (suc n) vs [] h = absurd (omega (arith, h))
  top_length (suc n) vs (v ∷ os) h = omega (arith, h, top_length n (v ∷ vs) os (omega (arith, h)))

  -- the values of the top in slots, the topmost one last, before others
  abbrev placed : ℕ → List V → Slots V → Slots V
  placed zero vs l = l
  placed (suc n) [] l = l
  placed (suc n) (v ∷ vs) l = placed n vs (Some v ∷ l)

  placed_top : (n : ℕ) (vs os : List V) → placed n os (map Some vs) ≡ map Some (top_of n vs os)
  placed_top zero vs os = refl
  placed_top (suc n) vs [] = refl
  placed_top (suc n) vs (v ∷ os) = placed_top n (v ∷ vs) os

  put_last : (k : ℕ) (o : Option V) (l : Slots V) → put k o (replicate (suc k) None ++ l) ≡ replicate k None ++ o ∷ l
  unfolding put
  put_last zero o l = refl
  put_last (suc k) o l = ap (λ xs. None ∷ xs) (put_last k o l)

  -- so many slots have no value yet; they are for the values of the top
  abbrev pub Placing : ℕ → Slots V → List V → ℕ → List V → Type 0
  Placing left slots values count all =
      (slots ≡ replicate left None ++ drop left slots) × (placed left values (drop left slots) ≡ map Some (top_of count [] all)) ×
      (drop left values ≡ drop count all) × (left ≤ length values)

  pub placing_begins : (count : ℕ) (slots : Slots V) (all : List V) → slots ≡ replicate count None → count ≤ length all →
      Placing count slots all count all
  placing_begins count slots all e h =
      let d : drop count slots ≡ [] = drop_all count slots (omega (arith, ap length e, length-replicate {A = Option V} count None)) in (
        e ∙ sym (ap (λ l. replicate count None ++ l) d ∙ append-nil (replicate count None)),
        ap (placed count all) d ∙ placed_top count [] all,
        refl,
        h,
      )

  place_one : (k count : ℕ) (slots : Slots V) (rest all : List V) (v : V) → Placing (suc k) slots (v ∷ rest) count all →
      Placing k (put k (Some v) slots) rest count all
  place_one k count slots rest all v p =
      let l : Slots V = drop (suc k) slots in
      let at : put k (Some v) slots ≡ replicate k None ++ Some v ∷ l = ap (put k (Some v)) p.0 ∙ put_last k (Some v) l in
      let d : drop k (put k (Some v) slots) ≡ Some v ∷ l = ap (drop k) at ∙ drop_at (replicate k None) (Some v ∷ l) k (length-replicate k None) in
      (at ∙ sym (ap (λ m. replicate k None ++ m) d), ap (placed k rest) d ∙ p.1, p.2, omega (arith, p.3))

  -- one value more has its slot
  pub place_more : (k left count : ℕ) (slots next : Slots V) (values rest all : List V) (o : Option V) → left ≡ suc k →
      Placing left slots values count all → MatchOption o ((values ≡ []) × (rest ≡ [])) (λ v. values ≡ v ∷ rest) →
      next ≡ put k o slots → Placing k next rest count all
  place_more k left count slots next values rest all None e p m h = absurd (omega (arith, p.3, ap length m.0, e))
  place_more k left count slots next values rest all (Some v) e p m h =
      subst (λ l. Placing k l rest count all) (sym h) (place_one k count slots rest all v
      (subst (λ n. Placing n slots (v ∷ rest) count all) e (subst (λ vs. Placing left slots vs count all) m p)))

  pub placing_ends : (left count : ℕ) (slots : Slots V) (values all : List V) → left ≤ 0 → Placing left slots values count all →
      (slots ≡ map Some (top_of count [] all)) × (values ≡ drop count all)
  placing_ends zero count slots values all h p = (p.1, p.2)
  placing_ends (suc n) count slots values all h p = absurd (omega (arith, h))

  -- what the parameters get is the values, and then what the others get
  behind_none : (o : Option (Slots V)) → o ≡ behind [] o
  behind_none None = refl
  behind_none (Some l) = refl

  before_behind : (v : V) (l : Slots V) (o : Option (Slots V)) → before_all (Some v) (behind l o) ≡ behind (Some v ∷ l) o
  before_behind v l None = refl
  before_behind v l (Some r) = refl

  filled_front : (params : List Name) (vs : List V) (ds : List (Option V)) → length vs ≤ length params → length params ≤ length ds →
      filled params vs [] ds ≡ behind (map Some vs) (filled (drop (length vs) params) [] [] (drop (length vs) ds))
  filled_front params [] ds h k = behind_none (filled params [] [] ds)
  filled_front [] (v ∷ vs) ds h k = absurd (omega (arith, h))
  filled_front (p ∷ ps) (v ∷ vs) [] h k = absurd (omega (arith, k))
  filled_front (p ∷ ps) (v ∷ vs) (d ∷ ds) h k =
      ap (before_all (Some v)) (filled_front ps vs ds (omega (arith, h)) (omega (arith, k)))
      ∙ before_behind v (map Some vs) (filled (drop (length vs) ps) [] [] (drop (length vs) ds))

  enough : (params : List Name) (ds : List V) → length params ≤ length (defaults_of params ds)
  enough params ds = omega (
    arith,
    length-append (replicate (length params - length ds) None) (map Some ds),
    length-replicate {A = Option V} (length params - length ds) None,
    length-map {A = V} {B = Option V} ds Some,
  )

  pub entry_placed : (params : List Name) (n : ℕ) (ds vs : List V) → length vs ≤ length params →
      entry params n ds (by_position vs)
      ≡ option_map (λ l. l ++ replicate (n - length params) None) (behind (map Some vs) (rest_filled params (length vs) ds))
  unfolding entry
  entry_placed params n ds vs h =
      ap (option_map (λ l. l ++ replicate (n - length params) None)) (filled_front params vs (defaults_of params ds) h (enough params ds))

  -- the slots of the values, and those of the other parameters where each has a default, are those at the entry
  pub entry_fits : (params : List Name) (n : ℕ) (ds vs : List V) (slots all : Slots V) (fits : Bool) → length vs ≤ length params →
      slots ≡ map Some vs → fitting fits all ≡ behind slots (rest_filled params (length slots) ds) →
      option_map (λ l. l ++ replicate (n - length params) None) (fitting fits all) ≡ entry params n ds (by_position vs)
  entry_fits params n ds vs slots all fits h e f =
      let q = ap (λ (l : Slots V). behind l (rest_filled params (length l) ds)) e ∙ ap (λ (m : ℕ). behind (map Some vs) (rest_filled params m ds)) (length-map {A = V} {B = Option V} vs Some) in
      ap (option_map (λ l. l ++ replicate (n - length params) None)) (f ∙ q) ∙ sym (entry_placed params n ds vs h)

  -- where there are as many values as parameters, nothing is left for the others
  pub rest_none : (params : List Name) (i : ℕ) (ds : List V) (l : Slots V) → length params ≤ i → Some l ≡ behind l (rest_filled params i ds)
  rest_none params i ds l h =
      sym (ap (λ ps. behind l (filled ps [] [] (drop i (defaults_of params ds)))) (drop_all i params h) ∙ ap Some (append-nil l))

  module _ (params : List Name) (ds : List V) (i n : ℕ) (l : Slots V) (h : i < length params) (e : n ≡ length params - length ds) where
    abbrev its_name : Name
    its_name = get_or params i []

    same_name : its_name ≡ get_or params i its_name
    same_name = get_or_default params i [] its_name h

    -- a parameter more has its default
    pub default_turn : (v : V) → default_at n i ds ≡ Some v → behind (l ++ Some v ∷ []) (rest_filled params (i + 1) ds) ≡ behind l (rest_filled params i ds)
    default_turn v g = fill_turn params ds i n l [] [] [] its_name None h e same_name (refl, refl) v g

    -- or it gets nothing
    pub default_fails : default_at n i ds ≡ None → None ≡ behind l (rest_filled params i ds)
    default_fails g = fill_fails params ds i n l [] [] [] its_name None h e same_name (refl, refl) g
