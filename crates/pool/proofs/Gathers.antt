-- What all passes together say at the end: each node is settled, none is left, and nobody set the halt.
use Rattle.std.proofs.Common.{◌≡◌, ℕ, zero, suc, ◌+◌, ◌<◌, Bool, true, false, true≢false, eqb, List, [], ◌∷◌, ◌++◌, length, map, sym, refl, ap, ◌∙◌, subst, ⊎_elim, arith, length-append}
use Rattle.std.specs.Prelude.{Some, MatchBool}
use Rattle.std.specs.Bool.{OnTrue}
use Rattle.std.specs.List.{All}
use Rattle.std.proofs.lemmas.List.Elements.{All-head, All-tail, All-weaker, All-push}
use mathlib.Core.Logic.{dite}
use native.Mathlib.Decide.{ℕ_discrete}
use Rattle.board.specs.declared.journal.Journal.{Journal}
use Rattle.board.specs.Journal.{times, finishes, unfinished, sets, bit, Each}
use Rattle.board.specs.Lawful.{IsEnd}
use Rattle.board.specs.Views.{BoardView, PassView, ClosedView, IsNew, Keeps, knows, told, is_known, journal_of}
use Rattle.pool.specs.Settled.{Settled, IsWhole}
use Rattle.pool.specs.Ends.{IsFine, IsQuiet, IsGathering}
use Rattle.board.proofs.Counts.{some_is}
use Rattle.pool.proofs.Settles.{settled_keeps}

pub on_true : (b : Bool) (P : Type 0) → OnTrue b P → b ≡ true → P
on_true true P p e = p
on_true false P p e = absurd (true≢false (sym e))

pub when_true : (b : Bool) (P Q : Type 0) → MatchBool b P Q → b ≡ true → P
when_true true P Q p e = p
when_true false P Q p e = absurd (true≢false (sym e))

not_true : (b : Bool) → (b ≡ true → ⊥) → b ≡ false
not_true true f = absurd (f refl)
not_true false f = refl

unfinished_none : (js : List Journal) (k : ℕ) → ((n : ℕ) → n < k → finishes n js ≡ 1) → unfinished js k ≡ 0
unfinished_none js zero all = refl
unfinished_none js (suc k) all =
    let one = all k (omega arith) in let r = unfinished_none js k (λ n lt. all n (omega arith)) in
    let here : bit (eqb (finishes k js) 0) ≡ 0 = some_is js k (omega arith) in omega arith

unset_bit : (s : Bool) → s ≡ false → bit s ≡ 0
unset_bit true e = absurd (true≢false e)
unset_bit false e = refl

module _ {V : Type 0} where
  sets_none : (ps : List (PassView V)) → All (λ p. p.journal.set ≡ false) ps → sets (map journal_of ps) ≡ 0
  sets_none [] none = refl
  sets_none (p ∷ ps) none =
      let P : PassView V → Type 0 = λ q. q.journal.set ≡ false in
      let here : bit p.journal.set ≡ 0 = unset_bit p.journal.set (All-head P p ps none) in let rest = sets_none ps (All-tail P p ps none) in omega arith

  each_in : (Q : Journal → Type 0) (before : List (PassView V)) (p : PassView V) (rest : List (PassView V)) → Each Q (map journal_of (before ++ p ∷ rest)) → Q p.journal
  each_in Q [] p rest e = e.0
  each_in Q (q ∷ before) p rest e = each_in Q before p rest e.1

  -- what holds of each journal holds of one that stands among them
  each_at : (Q : Journal → Type 0) (ps before : List (PassView V)) (p : PassView V) (rest : List (PassView V)) → ps ≡ before ++ p ∷ rest → Each Q (map journal_of ps) → Q p.journal
  each_at Q ps before p rest split e = each_in Q before p rest (subst (λ (l : List (PassView V)). Each Q (map journal_of l)) split e)

  -- one of the passes finished the node
  finisher : (Q : PassView V → Type 0) (n : ℕ) (ps : List (PassView V)) → All Q ps → 0 < finishes n (map journal_of ps) → (p : PassView V) × Q p × (0 < times n p.journal.finished)
  finisher Q n [] all is = absurd (omega arith)
  finisher Q n (p ∷ ps) all is = dite (ℕ_discrete (times n p.journal.finished) 0)
      (λ none. finisher Q n ps (All-tail Q p ps all) (omega arith))
      (λ some. (p, All-head Q p ps all, omega arith))

  module _ (step : ℕ → List V → V) (fits : ℕ → List V → Type 0) (b : BoardView) where
    -- run's own pass did nothing
    pub new_is_quiet : (p : PassView V) → IsNew b p → IsQuiet step fits b p
    new_is_quiet p new =
        record {
          sound = record { of = new.0; settled = λ n is. let e : times n p.journal.finished ≡ 0 = ap (λ (j : Journal). times n j.finished) new.1 in absurd (omega arith) };
          unset = ap (λ (j : Journal). j.set) new.1;
        }

    pub fine_is_quiet : (p : PassView V) → IsFine step fits b p → IsQuiet step fits b p
    fine_is_quiet p fine = record { sound = fine.sound; unset = fine.ended.1 }

    -- quiet passes, run's own, and behind it that of a worker that was refused nothing
    pub gathering : (ps : List (PassView V)) (own p : PassView V) → All (IsQuiet step fits b) ps → IsFine step fits b p → length ps + 2 ≡ b.passes → IsNew b own →
        IsGathering step fits b ((ps ++ own ∷ []) ++ p ∷ [])
    gathering ps own p quiet fine count new =
        let one = length-append ps (own ∷ []) in let two = length-append (ps ++ own ∷ []) (p ∷ []) in
        record {
          count = omega (arith, one, two, count);
          quiet = All-push (IsQuiet step fits b) (ps ++ own ∷ []) p (All-push (IsQuiet step fits b) ps own quiet (new_is_quiet own new)) (fine_is_quiet p fine);
          worker = (ps ++ own ∷ [], p, [], refl, fine.ended);
        }

    module _ (words : List ℕ) (ps : List (PassView V)) (c : ClosedView V) (end : IsEnd b.plan words (map journal_of ps) c.left c.halted) (kept : All (λ p. Keeps (knows p) (told c)) ps) (g : IsGathering step fits b ps) where
      none_set : sets (map journal_of ps) ≡ 0
      none_set = sets_none ps (All-weaker (IsQuiet step fits b) (λ p. p.journal.set ≡ false) (λ p q. q.unset) ps g.quiet)

      none_left : (n : ℕ) → n < length b.plan → finishes n (map journal_of ps) ≡ 1
      none_left =
          let w = g.worker in
          let whole = each_at (λ j. j.least ≡ Some 0 → (n : ℕ) → n < length b.plan → finishes n (map journal_of ps) ≡ 1) ps w.0 w.1 w.2 w.3 end.whole in
          let saw = each_at (λ j. j.saw ≡ true → 0 < sets (map journal_of ps)) ps w.0 w.1 w.2 w.3 end.saw in
          ⊎_elim (λ (done : w.1.journal.least ≡ Some 0). whole done) (λ (s : w.1.journal.saw ≡ true). let z = saw s in let e = none_set in absurd (omega arith)) w.4.0

      pub settled : (n : ℕ) → n < length b.plan → Settled step fits b.plan (told c) n
      settled n lt =
          let one = none_left n lt in
          let both : All (λ p. IsQuiet step fits b p × Keeps (knows p) (told c)) ps = λ k d low. (g.quiet k d low, kept k d low) in
          let who = finisher (λ p. IsQuiet step fits b p × Keeps (knows p) (told c)) n ps both (omega arith) in
          settled_keeps step fits b.plan (knows who.0) (told c) n who.1.1 (who.1.0.sound.settled n who.2)

      pub whole : length c.known ≡ length b.plan → IsWhole c
      whole size =
          record {
            each = λ n lt. ap is_known (settled n (omega arith)).own;
            left = sym end.count ∙ end.lawful.count_is_unfinished.count ∙ unfinished_none (map journal_of ps) (length b.plan) none_left;
            halted = not_true c.halted (λ t. let s = end.halt.0 t in let e = none_set in absurd (omega arith));
          }
