use Rattle.std.proofs.Common.{◌≡◌, ◌∙◌, ℕ, List, Result, sym, arith}
use Rattle.std.specs.Prelude.{codes}
use Rattle.std.specs.Str.Parse.{ParsesUnsigned, ExplainsUnsignedError, HasUnsignedDigitsIfOk}
use Rattle.std.specs.declared.num.ParseIntError.{ParseIntError}
use Rattle.clap.specs.Words.{found_of}
use Rattle.clap.proofs.WalkLemmas.{one_text-rows}
use Rattle.request.proofs.NumberLemmas.{refused, taken}
use Rattle.request.proofs.words.steps.Goals as goal

abbrev Reads : List ℕ → Result ℕ ParseIntError → Type 0
Reads bs r = ParsesUnsigned 64 10 bs r × ExplainsUnsignedError 10 bs r × HasUnsignedDigitsIfOk bs r

pub returns-in-Some-clause-value : goal.returns-in-Some-clause-value
returns-in-Some-clause-value c =
    let rows = one_text-rows (found_of c.args.matches.now) (codes "steps") in
    sym (taken ParseIntError Reads (λ u x h. h.0) 1 1000000000 _ c.get_one.result
    (λ e. c.get_one.ensures.none (rows ∙ e)) (λ t e. c.get_one.ensures.value t (rows ∙ e))
    c.in-Some.n c.in-Some.is c.if-n-ge1.true c.if-n-le1000000000.true)

pub returns-in_default-clause-value : goal.returns-in_default-clause-value
returns-in_default-clause-value c =
    let rows = one_text-rows (found_of c.args.matches.now) (codes "steps") in
    sym (refused ParseIntError Reads (λ u x h. h.0) 1 1000000000 _ c.get_one.result
    (λ e. c.get_one.ensures.none (rows ∙ e)) (λ t e. c.get_one.ensures.value t (rows ∙ e))
    (λ v is least most. let same : v ≡ c.in-Some.n = cc in omega arith))

pub returns-in_default-2-clause-value : goal.returns-in_default-2-clause-value
returns-in_default-2-clause-value c =
    let rows = one_text-rows (found_of c.args.matches.now) (codes "steps") in
    sym (refused ParseIntError Reads (λ u x h. h.0) 1 1000000000 _ c.get_one.result
    (λ e. c.get_one.ensures.none (rows ∙ e)) (λ t e. c.get_one.ensures.value t (rows ∙ e))
    (λ v is least most. let same : v ≡ c.in-Some.n = cc in omega arith))

pub returns-in_default-3-clause-value : goal.returns-in_default-3-clause-value
returns-in_default-3-clause-value c =
    let rows = one_text-rows (found_of c.args.matches.now) (codes "steps") in
    sym (refused ParseIntError Reads (λ u x h. h.0) 1 1000000000 _ c.get_one.result
    (λ e. c.get_one.ensures.none (rows ∙ e)) (λ t e. c.get_one.ensures.value t (rows ∙ e))
    (λ v is least most. cc))
