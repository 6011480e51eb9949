use Rattle.std.proofs.Common.{◌≡◌, ◌∙◌, None, Some, map, sym, ap, List, ℕ, Option, [], codes, Bor}
use Rattle.std.specs.Prelude.{unwrap_or}
use Rattle.std.proofs.lemmas.Result.{IfOk-weaker}
use Rattle.clap.specs.Words.{all_of, found_of, rows_of}
use Rattle.clap.proofs.WalkLemmas.{raw_values-rows}
use Rattle.request.proofs.words.texts.Goals as goal

pub returns-in-Some : goal.returns-in-Some
returns-in-Some c =
    let f = found_of c.args.matches.now in
    let given : all_of (codes "labels") (rows_of f) ≡ Some (map (λ (s : Bor (List ℕ)). s.now) c.in-Some.texts.now) = sym (raw_values-rows f (codes "labels")) ∙ sym c.in-Some.ensures in
    IfOk-weaker c.copied.result _ _ (λ v h. ap (map (λ (s : Bor (List ℕ)). s.now)) h ∙ sym (ap (λ (o : Option (List (List ℕ))). unwrap_or o []) given)) c.copied.ensures

pub returns-in-None : goal.returns-in-None
returns-in-None c =
    let f = found_of c.args.matches.now in
    let given : all_of (codes "labels") (rows_of f) ≡ None = sym (raw_values-rows f (codes "labels")) ∙ sym c.in-None.ensures in
    ap (map (λ (s : Bor (List ℕ)). s.now)) c.new.ensures.items ∙ sym (ap (λ (o : Option (List (List ℕ))). unwrap_or o []) given)
