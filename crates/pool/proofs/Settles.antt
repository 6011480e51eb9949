-- What a pass knows stays, and so does what it says of the nodes that it finished.
use Rattle.std.proofs.Common.{◌≡◌, ◌≢◌, ℕ, ◌+◌, ◌<◌, List, [], ◌∷◌, ◌++◌, length, get_or, sym, ap, ◌∙◌, subst, arith, below_more}
use Rattle.std.specs.Prelude.{Option, None, Some}
use Rattle.std.proofs.lemmas.List.{get_or_push, get_or_append_left}
use mathlib.Core.Logic.{dite}
use native.Mathlib.Decide.{ℕ_discrete}
use Rattle.board.specs.Journal.{times, deps}
use Rattle.board.specs.Steps.{with_finished}
use Rattle.board.specs.Views.{BoardView, PassView, IsPassOf, Keeps, knows, with_journal}
use Rattle.board.proofs.Counts.{times_else}
use Rattle.pool.specs.Settled.{Knows, Stepped, Settled, AllSettled, IsSound}

module _ {V : Type 0} where
  -- a node that nobody knew is known now
  pub keeps_new : (a b : ℕ → Option V) (n : ℕ) → a n ≡ None → ((k : ℕ) → k ≢ n → b k ≡ a k) → Keeps a b
  keeps_new a b n none others m v e = dite (ℕ_discrete m n)
      (λ same. let z : None ≡ Some v = sym (ap a same ∙ none) ∙ e in absurd cc)
      (λ ne. others m ne ∙ e)

  pub knows_keeps : (a b : ℕ → Option V) (ns : List ℕ) (us : List V) → Keeps a b → Knows a ns us → Knows b ns us
  knows_keeps a b ns us keeps h = record { len = h.len; each = λ k u below. keeps (get_or ns k 0) (get_or us k u) (h.each k u below) }

  module _ (step : ℕ → List V → V) (fits : ℕ → List V → Type 0) (plan : List (List ℕ)) where
    pub stepped_keeps : (a b : ℕ → Option V) (n : ℕ) (v : V) → Keeps a b → Stepped step fits plan a n v → Stepped step fits plan b n v
    stepped_keeps a b n v keeps h = record { of = h.of; dependencies = knows_keeps a b (deps plan n) h.of keeps h.dependencies; stepped = h.stepped }

    pub settled_keeps : (a b : ℕ → Option V) (n : ℕ) → Keeps a b → Settled step fits plan a n → Settled step fits plan b n
    settled_keeps a b n keeps h = record { value = h.value; own = keeps n h.value h.own; stepped = stepped_keeps a b n h.value keeps h.stepped }

    pub all_keep : (a b : ℕ → Option V) (fin fin' : List ℕ) → Keeps a b → fin' ≡ fin → AllSettled step fits plan a fin → AllSettled step fits plan b fin'
    all_keep a b fin fin' keeps same h n is = settled_keeps a b n keeps (h n (subst (λ (l : List ℕ). 0 < times n l) same is))

    pub one_more : (known : ℕ → Option V) (fin : List ℕ) (n : ℕ) → AllSettled step fits plan known fin → Settled step fits plan known n → AllSettled step fits plan known (n ∷ fin)
    one_more known fin n h own m is = dite (ℕ_discrete m n)
        (λ same. subst (Settled step fits plan known) (sym same) own)
        (λ ne. let t = times_else m n fin ne in h m (omega arith))

  module _ (step : ℕ → List V → V) (fits : ℕ → List V → Type 0) (b : BoardView) where
    pub sound_keeps : (p q : PassView V) → IsPassOf b q → Keeps (knows p) (knows q) → q.journal.finished ≡ p.journal.finished → IsSound step fits b p → IsSound step fits b q
    sound_keeps p q of keeps same h = record { of = of; settled = all_keep step fits b.plan (knows p) (knows q) p.journal.finished q.journal.finished keeps same h.settled }

    -- a node that the pass knows by its step is finished
    pub sound_finished : (p q : PassView V) (n : ℕ) (v : V) → IsPassOf b q → q ≡ with_journal p (with_finished n p.journal) → knows p n ≡ Some v → Stepped step fits b.plan (knows p) n v → IsSound step fits b p → IsSound step fits b q
    sound_finished p q n v of e own stepped h =
        record {
          of = of;
          settled = subst (λ (z : PassView V). AllSettled step fits b.plan (knows z) z.journal.finished) (sym e)
              (one_more step fits b.plan (knows p) p.journal.finished n h.settled (record { value = v; own = own; stepped = stepped }));
        }

  -- one more value was read
  pub each_more : (known : ℕ → Option V) (ds : List ℕ) (us : List V) (i : ℕ) (v : V) → length us ≡ i → known (get_or ds i 0) ≡ Some v → ((k : ℕ) (u : V) → k < i → known (get_or ds k 0) ≡ Some (get_or us k u))
      → (k : ℕ) (u : V) → k < i + 1 → known (get_or ds k 0) ≡ Some (get_or (us ++ v ∷ []) k u)
  each_more known ds us i v len here before k u below =
      below_more (λ j. (w : V) → known (get_or ds j 0) ≡ Some (get_or (us ++ v ∷ []) j w)) i
      (λ j low w. let low' : j < length us = omega arith in before j w low ∙ ap Some (sym (get_or_append_left us (v ∷ []) w j low')))
      (λ w. here ∙ ap Some (sym (get_or_push us v w i len)))
      k below u
