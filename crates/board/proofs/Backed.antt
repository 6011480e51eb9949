-- What a pass knows stays tied to what it did and saw.
use Rattle.std.proofs.Common.{◌≡◌, ℕ, zero, suc, ◌+◌, ◌<◌, ◌⊎◌, true, true≢false, List, [], ◌∷◌, length, map, set, get_or, sym, refl, ap, ◌∙◌, subst, arith, get_or-set_other, length-set}
use Rattle.std.specs.Prelude.{Option, None, Some}
use Rattle.std.proofs.lemmas.List.{length-map}
use mathlib.Core.Logic.{dite, ⊎_elim}
use Rattle.board.proofs.Counts.{no_pos}
use native.Mathlib.Decide.{ℕ_discrete}
use Rattle.board.specs.declared.journal.Journal.{Journal}
use Rattle.board.specs.Journal.{times, edge_times}
use Rattle.board.specs.Rule.{blank, blanks}
use Rattle.board.specs.Steps.{head_of, tail_of, first_journal, IsOne}
use Rattle.board.specs.Views.{BoardView, PassView, MemoryView, known_at, learned, is_known, IsBacked, IsPassOf}

module _ {V : Type 0} where
  still_given : (l : List (Option V)) (n k : ℕ) (v : V) → is_known (get_or l k None) ≡ true → is_known (get_or (set l n (Some v)) k None) ≡ true
  still_given [] n k v e = e
  still_given (x ∷ xs) zero zero v e = refl
  still_given (x ∷ xs) zero (suc k) v e = e
  still_given (x ∷ xs) (suc n) zero v e = e
  still_given (x ∷ xs) (suc n) (suc k) v e = still_given xs n k v e

  pub backed_learned : (h : Journal) (m m' : MemoryView V) (n : ℕ) (v : V) → IsBacked h m → (0 < times n h.started) ⊎ (0 < times n h.seen) → m' ≡ learned m n v → IsBacked h m'
  backed_learned h m m' n v b own e = subst (IsBacked h) (sym e) (record {
    backed = λ k p. dite (ℕ_discrete k n) (λ i. subst (λ j. (0 < times j h.started) ⊎ (0 < times j h.seen)) (sym i) own)
        (λ ne. b.backed k (ap is_known (sym (get_or-set_other m.known n k (Some v) None ne)) ∙ p));
    ended = λ k p. still_given m.known n k v (b.ended k p);
    gave = λ d u p. still_given m.known n d v (b.gave d u p);
  })

  pub level_learned : (m m' : MemoryView V) (n : ℕ) (v : V) → length m.cells ≡ length m.known → m' ≡ learned m n v → length m'.cells ≡ length m'.known
  level_learned m m' n v l e = let P : MemoryView V → Type 0 = λ z. length z.cells ≡ length z.known in subst P (sym e) (l ∙ sym (length-set m.known n (Some v)))

  pub none_at : {X : Type 0} (l : List X) (n : ℕ) → (let o : Option V = get_or (map (λ _. None) l) n None in o ≡ None)
  none_at [] n = refl
  none_at (x ∷ xs) zero = refl
  none_at (x ∷ xs) (suc n) = none_at xs n

  pub backed_new : (plan : List (List ℕ)) (h : Journal) (m : MemoryView V) → h ≡ blank plan → ((n : ℕ) → known_at m n ≡ None) → IsBacked h m
  backed_new plan h m e none = subst (λ x. IsBacked x m) (sym e) (record {
    backed = λ n p. absurd (true≢false (sym p ∙ ap is_known (none n)));
    ended = λ n p. absurd (omega arith);
    gave = λ d u p. absurd (omega arith);
  })

pub head_is : (b : Journal) (v w : List Journal) → v ≡ b ∷ w → head_of v ≡ b ∷ []
head_is b v w e = ap head_of e

pub tail_is : (b : Journal) (v w : List Journal) → v ≡ b ∷ w → tail_of v ≡ w
tail_is b v w e = ap tail_of e

-- one journal as a view
pub one_is : (b : Journal) (v : List Journal) → v ≡ b ∷ [] → IsOne v × (first_journal v ≡ b)
one_is b v e = let P : List Journal → Type 0 = λ l. IsOne l × (first_journal l ≡ b) in subst P (sym e) (refl, refl)

pub rest_is : (b : Journal) (v w l : List Journal) → v ≡ b ∷ w → l ≡ tail_of v → v ≡ b ∷ l
rest_is b v w l e t = e ∙ (λ i. b ∷ sym (t ∙ tail_is b v w e) i)

pub peel_blanks : (plan : List (List ℕ)) (k : ℕ) (v w : List Journal) → v ≡ blanks plan k → 0 < k → v ≡ blank plan ∷ w → (j : ℕ) × (j + 1 ≡ k) × (w ≡ blanks plan j)
peel_blanks plan zero v w e lt f = absurd (omega arith)
peel_blanks plan (suc j) v w e lt f = (j, omega arith, ap tail_of (sym f ∙ e))

not_given : {V : Type 0} (o : Option V) → o ≡ None → is_known o ≡ true → ⊥
not_given o n g = true≢false (sym g ∙ ap is_known n)

module _ {V : Type 0} (h : Journal) (m : MemoryView V) (n : ℕ) (b : IsBacked h m) where
  -- a node that the pass neither started nor saw started
  pub not_known : times n h.started ≡ 0 → times n h.seen ≡ 0 → known_at m n ≡ None
  not_known s e = none_given (known_at m n) (λ g. ⊎_elim (λ (p : 0 < times n h.started). omega arith) (λ (p : 0 < times n h.seen). omega arith) (b.backed n g))
    where
      none_given : (o : Option V) → (is_known o ≡ true → ⊥) → o ≡ None
      none_given None f = refl
      none_given (Some v) f = absurd (f refl)

  pub not_ended : known_at m n ≡ None → times n h.finished ≡ 0
  not_ended e = no_pos (times n h.finished) (λ p. not_given (known_at m n) e (b.ended n p))

  pub not_sent : known_at m n ≡ None → (u : ℕ) → edge_times n u h.delivered ≡ 0
  not_sent e u = no_pos (edge_times n u h.delivered) (λ p. not_given (known_at m n) e (b.gave n u p))

pub mapped_at : {X : Type 0} (f : X → ℕ) (xs : List X) (n : ℕ) (x : X) → n < length xs → x ≡ get_or xs n x → get_or (map f xs) n 0 ≡ f x
mapped_at f [] n x lt e = absurd (omega arith)
mapped_at f (y ∷ ys) zero x lt e = ap f (sym e)
mapped_at f (y ∷ ys) (suc n) x lt e = mapped_at f ys n x (omega arith) e

-- a node of the board's plan, as a pass of the board sees it
module _ {V X : Type 0} (f : X → ℕ) (items : List X) (plan : List (List ℕ)) (b : BoardView) (p : PassView V) (m : MemoryView V) (n : ℕ) (cells : map f items ≡ b.cells) (plans : plan ≡ b.plan) (size : length plan ≡ length items)
    (own : m.cells ≡ p.memory.cells) (of : IsPassOf b p) (lt : n < length b.plan) where
  within : n < length items
  within = let a = ap length plans in omega arith

  pub node_known : length m.cells ≡ length m.known → n < length m.known
  node_known level = let a = ap length (own ∙ of.1 ∙ sym cells) in let b : length (map f items) ≡ length items = simp length-map in let c = within in omega arith

  pub cell_there : (x : X) → x ≡ get_or items n x → get_or m.cells n 0 ≡ f x
  cell_there x at = ap (λ (l : List ℕ). get_or l n 0) (own ∙ of.1 ∙ sym cells) ∙ mapped_at f items n x within at
