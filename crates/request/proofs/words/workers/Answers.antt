use Rattle.std.proofs.Common.{◌≡◌, ◌∙◌, ℕ, List, None, Result, sym}
use Rattle.std.specs.Prelude.{codes}
use Rattle.std.specs.Str.Parse.{ParsesUnsigned, ExplainsUnsignedError, HasUnsignedDigitsIfOk}
use Rattle.std.specs.declared.num.ParseIntError.{ParseIntError}
use Rattle.clap.specs.Words.{found_of}
use Rattle.clap.proofs.WalkLemmas.{one_text-rows}
use Rattle.request.proofs.NumberLemmas.{made, refused}
use Rattle.request.proofs.words.workers.Goals as goal

abbrev Reads : List ℕ → Result ℕ ParseIntError → Type 0
Reads bs r = ParsesUnsigned 64 10 bs r × ExplainsUnsignedError 10 bs r × HasUnsignedDigitsIfOk bs r

pub returns-in_err-count-clause-value : goal.returns-in_err-count-clause-value
returns-in_err-count-clause-value c =
    let rows = one_text-rows (found_of c.args.matches.now) (codes "workers") in
    let nothing : c.get_one.result ≡ None = search in
    let gives : c.from_residual.result ≡ None = search in
    gives ∙ sym (refused ParseIntError Reads (λ u x h. h.0) 1 64 _ c.get_one.result
    (λ e. c.get_one.ensures.none (rows ∙ e)) (λ t e. c.get_one.ensures.value t (rows ∙ e))
    (λ v is least most. cc))

pub returns-clause-value : goal.returns-clause-value
returns-clause-value c =
    let rows = one_text-rows (found_of c.args.matches.now) (codes "workers") in
    made ParseIntError Reads (λ u x h. h.0) 1 64 _ c.get_one.result
    (λ e. c.get_one.ensures.none (rows ∙ e)) (λ t e. c.get_one.ensures.value t (rows ∙ e))
    c.in_ok-count.count (search) c.new.result c.new.ensures.some c.new.ensures.none
