use Rattle.std.proofs.Common.{◌≡◌, ℕ, ◌+◌, ◌<◌, ◌≤◌, [], List, length, get_or, drop, ap, ◌∙◌, arith, sym, sum, inl, inr, if◌then◌else◌}
use Rattle.std.proofs.lemmas.List.{get_or_past}
use Rattle.std.proofs.lemmas.List.Sums.{sum_by_more}
use Rattle.edges.specs.Rows.{row, has}
use Rattle.edges.proofs.Sorting.{users_among, count_more, few_users, whole}
use Rattle.edges.proofs.Lists.{below_or_past}
use Rattle.edges.proofs.users.user_counts.Goals as goal

-- no count is above the number of nodes so far
counts_fit : (deps : List (List ℕ)) (counts : List ℕ) (n : ℕ) → length counts ≡ length deps → ((d : ℕ) → d < length deps → get_or counts d 0 ≡ length (users_among deps d n)) → (d : ℕ) → get_or counts d 0 ≤ n
counts_fit deps counts n len each d = elim (below_or_past d (length deps)) [
  | inl low ↦ let e = each d low in let f = few_users deps d n in omega (arith, e, f)
  | inr past ↦ let e = get_or_past counts d 0 (omega (arith, past, len)) in omega (arith, e)
]

pub count_row-requires-clause-fits : goal.count_row-requires-clause-fits
count_row-requires-clause-fits c = λ d.
    let f = counts_fit c.args.deps.now c.loop-n.counts.items c.loop-n.n c.loop-n.invariant.len c.loop-n.invariant.each d in
    omega (arith, f, ap (λ xs. get_or xs d 0) c.deref_mut.ensures.value, c.loop-n-test.true, c.len-n-end.type_inv)

pub loop-n-preserved : goal.loop-n-preserved
loop-n-preserved c =
    let low : c.loop-n.n < length c.args.deps.now = omega (arith, c.loop-n-test.true, c.len-n-end.ensures) in
    let list : c.row.result.now ≡ row c.args.deps.now c.loop-n.n = c.row.ensures ∙ ap (row c.args.deps.now) c.of.ensures in
    let long : length c.count_row.new.counts ≡ c.loop-n.counts.len = c.count_row.auto.counts ∙ c.deref_mut.ensures.len in
    let back = whole c.count_row.new.counts (drop (length c.count_row.new.counts) c.loop-n.counts.items) c.loop-n.counts.len long in
    record {
      len = ap length back ∙ long ∙ c.loop-n.counts.ok.0 ∙ c.loop-n.invariant.len;
      each = λ d inside. count_more c.args.deps.now (get_or c.loop-n.counts.items d 0) _ d c.loop-n.n (c.loop-n.invariant.each d inside)
          (ap (λ xs. get_or xs d 0) back ∙ c.count_row.ensures.each d ∙ ap (λ l. if has l d then get_or c.deref_mut.result.now d 0 + 1 else get_or c.deref_mut.result.now d 0) list ∙ ap (λ xs. if has (row c.args.deps.now c.loop-n.n) d then get_or xs d 0 + 1 else get_or xs d 0) c.deref_mut.ensures.value);
      all = ap sum back ∙ c.count_row.ensures.sum ∙ ap (λ xs. sum xs + length c.row.result.now) c.deref_mut.ensures.value ∙ ap (λ l. sum c.loop-n.counts.items + length l) list
          ∙ ap (λ k. k + length (row c.args.deps.now c.loop-n.n)) c.loop-n.invariant.all ∙ sym (sum_by_more length c.args.deps.now c.loop-n.n [] low);
    }
