use Rattle.std.proofs.Common.{◌≡◌, ◌∙◌, ◌∷◌, ◌++◌, [], ap, sym, map, append_assoc, arith}
use Rattle.std.proofs.lemmas.List.{append-nil, nil_from_length}
use Rattle.call_stack.specs.LinkedView.{codes_of}
use Rattle.sources.specs.declared.kept.FileDone.{FileDone}
use Rattle.sources.proofs.Done.{kept_agree, codes_agree}
use Rattle.sources.proofs.read_all.linked.Goals as goal

pub loop-done-init : goal.loop-done-init
loop-done-init c =
    let files = c.args.files.now in
    let all = c.args.all.items in
    let gives = c.into_iter-done-iterator.ensures.into_iter_gives.0 in
    let rest = c.into_iter-done-iterator.result.rest.items in
    record {
      kept =
          ap (λ l. l ++ map (λ (d : FileDone). d.kept) rest) c.in_ok-kept.ensures.items
          ∙ ap (map (λ (d : FileDone). d.kept)) gives ∙ kept_agree files all c.requires;
      codes =
          ap (λ l. l ++ map (λ (d : FileDone). d.code) rest) c.new-linked.ensures
          ∙ ap (map (λ (d : FileDone). d.code)) gives ∙ codes_agree files all c.requires;
    }

pub loop-done-preserved : goal.loop-done-preserved
loop-done-preserved c =
    let kept = c.loop-done.kept.items in
    let codes = codes_of c.loop-done.linked in
    let done = c.in-Some.done in
    let rest = c.next.new.self.rest.items in
    let steps = sym c.in-Some.ensures.steps.0 in
    record {
      kept =
          ap (λ l. l ++ map (λ (d : FileDone). d.kept) rest) c.in_ok-push.ensures.items
          ∙ append_assoc kept (done.kept ∷ []) (map (λ (d : FileDone). d.kept) rest)
          ∙ ap (λ l. kept ++ map (λ (d : FileDone). d.kept) l) steps ∙ c.loop-done.invariant.kept;
      codes =
          ap (λ l. l ++ map (λ (d : FileDone). d.code) rest) c.in_ok-add.ensures
          ∙ append_assoc codes (done.code ∷ []) (map (λ (d : FileDone). d.code) rest)
          ∙ ap (λ l. codes ++ map (λ (d : FileDone). d.code) l) steps ∙ c.loop-done.invariant.codes;
    }

pub returns-clause-kept : goal.returns-clause-kept
returns-clause-kept c =
    let kept = c.loop-done.kept.items in
    let rest = c.loop-done.done-iterator.rest in
    let none = c.in-None.ensures.steps.0 in
    let same = rest.ok in
    let gone : [] ≡ rest.items = sym (nil_from_length rest.items (omega (arith, none, same))) in
    sym (append-nil kept) ∙ ap (λ l. kept ++ map (λ (d : FileDone). d.kept) l) gone ∙ c.loop-done.invariant.kept

pub returns-clause-codes : goal.returns-clause-codes
returns-clause-codes c =
    let codes = codes_of c.loop-done.linked in
    let rest = c.loop-done.done-iterator.rest in
    let none = c.in-None.ensures.steps.0 in
    let same = rest.ok in
    let gone : [] ≡ rest.items = sym (nil_from_length rest.items (omega (arith, none, same))) in
    sym (append-nil codes) ∙ ap (λ l. codes ++ map (λ (d : FileDone). d.code) l) gone ∙ c.loop-done.invariant.codes
