use Rattle.std.proofs.Common.{◌≡◌, ℕ, List, [], ◌∷◌, length, arith, ap, sym, subst, ◌∙◌}
use Rattle.board.specs.Rule.{blanks, first_words, IsBoardState}
use Rattle.board.proofs.FirstState.{begins, first_length}
use Rattle.board.proofs.table.open_table.Goals as goal

pub of_words-requires : goal.of_words-requires
of_words-requires g c =
    let plan : List (List ℕ) = g.P.Plan.lists c.args.plan.now in let e : c.in_ok-words.words.items ≡ first_words plan = c.in_ok-words.ensures in
    let about : c.of-key.result.plan ≡ plan = c.of-key.ensures.0 in let count : c.of-key.result.passes ≡ c.args.passes = c.of-key.ensures.1 in
    let l = first_length plan in let s = c.in_ok-words.words.small in let k = c.in_ok-words.words.ok in let n = ap length e in
    let P : List (List ℕ) × (ℕ × List ℕ) → Type 0 = λ z. IsBoardState z.0 z.1.0 z.1.1 (blanks z.0 z.1.0 ∷ []) in
    subst P (λ i. (sym about i, (sym count i, sym (c.as_slice.ensures.value ∙ e) i))) (begins plan c.args.passes c.requires.distinct c.requires.inside (omega arith))
