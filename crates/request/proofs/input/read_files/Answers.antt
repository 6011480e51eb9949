use Rattle.std.proofs.Common.{◌≡◌, ◌∙◌, ◌∷◌, Err, None, Some, ap, arith, sym, subst}
use Rattle.json.specs.Json.{after_end_array}
use Rattle.json.specs.Reads.{token_of}
use Rattle.json.specs.Token.{begin_array, end_array}
use Rattle.json.proofs.Grammar.{closed_array}
use Rattle.request.specs.InputTokens.{BeginsPair, pairs_before}
use Rattle.workspace.specs.Workspaces.{Pair}
use Rattle.request.proofs.TokenLemmas.{no_end, no_file, no_pair, pairs_before-push}
use Rattle.request.proofs.input.read_files.Goals as goal

pub returns-in_default-take_pair-clause-illegal : goal.returns-in_default-take_pair-clause-illegal
returns-in_default-take_pair-clause-illegal c _ pairs is legal =
    let going : (after_end_array c.pairs.reader ≡ None) × (c.take_end_array.new.self ≡ c.pairs.reader) = grind arith in
    no_pair c.pairs.files c.pairs.reader pairs (sym c.pairs.invariant ∙ is) going.0
    (λ b. c.in_default-take_pair.ensures (subst BeginsPair (sym going.1) b))

pub pairs-preserved : goal.pairs-preserved
pairs-preserved c =
    let going : (after_end_array c.pairs.reader ≡ None) × (c.take_end_array.new.self ≡ c.pairs.reader) = grind arith in
    let p : Pair = (c.in-Some.path.now, c.in-Some.contents.now) in
    c.pairs.invariant ∙ ap (λ ts. begin_array ∷ pairs_before c.pairs.files ts) (sym going.1 ∙ c.in-Some.ensures)
    ∙ ap (λ ts. begin_array ∷ ts) (pairs_before-push c.pairs.files p c.take_pair.new.reader)
    ∙ ap (λ fs. begin_array ∷ pairs_before fs c.take_pair.new.reader) (sym c.in-Ok-add.ensures.ok)

pub returns-in-Err-Illegal-clause-illegal : goal.returns-in-Err-Illegal-clause-illegal
returns-in-Err-Illegal-clause-illegal c _ pairs is legal =
    let going : (after_end_array c.pairs.reader ≡ None) × (c.take_end_array.new.self ≡ c.pairs.reader) = grind arith in
    let next = c.pairs.invariant ∙ ap (λ ts. begin_array ∷ pairs_before c.pairs.files ts) (sym going.1 ∙ c.in-Some.ensures) in
    no_file c.pairs.files (c.in-Some.path.now, c.in-Some.contents.now) c.take_pair.new.reader pairs (sym next ∙ is)
    (c.in-Err-Illegal.ensures.illegal (ap (λ s. Err s) c.in-Err-Illegal.field-0-is)) legal

pub returns-clause-illegal : goal.returns-clause-illegal
returns-clause-illegal c _ pairs is legal =
    let ended : after_end_array c.pairs.reader ≡ Some c.take_end_array.new.self = grind arith in
    let last = closed_array c.pairs.reader c.take_end_array.new.self ended ∙ ap (λ ts. end_array ∷ ts) c.in-Some-next.ensures.value in
    no_end c.pairs.files (token_of c.in-Some-next.field-0) c.next.new.self pairs
    (sym (c.pairs.invariant ∙ ap (λ ts. begin_array ∷ pairs_before c.pairs.files ts) last) ∙ is)
