-- A request has one answer, or it asks for too many labels, and not both: words ask for one thing, and an input spells one workspace.
use Rattle.std.proofs.Common.{◌≡◌, ◌∙◌, inl, inr, ℕ, List, [], ◌∷◌, length, Option, Some, None, ap, sym, subst, arith}
use Rattle.std.specs.Prelude.{option_map, option_and_then}
use Rattle.std.specs.List.{AllByRecursion}
use Rattle.std.specs.List.Sorted.{IsPermutation}
use Rattle.std.proofs.lemmas.Bool.Decides.{leb_tells}
use Rattle.std.proofs.lemmas.Option.{same_Some}
use Rattle.std.proofs.lemmas.List.Sorted.{IsPermutation-refl}
use Rattle.workspace.specs.Workspaces.{Pair}
use Rattle.workspace.specs.Labels.{LabelParts, label_of}
use Rattle.request.specs.Asked.{Asked, asked_of, each_label}
use Rattle.request.specs.CommandLine.{Written, written}
use Rattle.request.specs.Input.{Spells, pairs_of}
use Rattle.holding.proofs.Steps.{IfSome}
use Rattle.workspace_laws.specs.LabelLaws.{AreLegal}
use Rattle.workspace_laws.proofs.Legal.{IsLegal, label_legal}
use Rattle.workspace_laws.proofs.LegalFiles.{one_of}
use Rattle.answers.specs.Answers.{IsAnswer}
use Rattle.answers.specs.Laws.{AskForTheSame}
use Rattle.answers.specs.Reports.{IsTooMany, node_limit}
use Rattle.answers.proofs.Exists.{labels_have_an_answer, too_many_are_counted}
use Rattle.answers.proofs.More.{more_hides_nothing}
use Rattle.answers.proofs.OneAnswer.{all_asked, workspaces_have_one_answer}
use Rattle.serve.specs.Requests.{AsksFor}
use Rattle.serve.specs.Laws.{AnswersAreNotTooMany, AnswersAreOne, InputsHaveOneAnswer, RequestsForMoreHideNothing, RequestsHaveAnAnswer, RequestsHaveOneAnswer}

one_workspace : (input : List ℕ) (w v : List Pair) → Spells input w → Spells input v → w ≡ v
one_workspace input w v p q =
    let value : p.value ≡ q.value = same_Some p.value q.value (sym p.read ∙ q.read) in
    same_Some w v (sym p.pairs_of ∙ ap pairs_of value ∙ q.pairs_of)

pub requests_have_one_answer : RequestsHaveOneAnswer
requests_have_one_answer words others input other a b this that files labels steps =
    workspaces_have_one_answer this.workspace that.workspace this.asked.labels that.asked.labels this.asked.steps a b files labels this.answers
    (subst (λ n. IsAnswer that.workspace that.asked.labels n b) (sym steps) that.answers)

pub requests_for_more_hide_nothing : RequestsForMoreHideNothing
requests_for_more_hide_nothing words others input other a b this that files more steps =
    let there : IsAnswer that.workspace that.asked.labels this.asked.steps b = subst (λ n. IsAnswer that.workspace that.asked.labels n b) (sym steps) that.answers in
    more_hides_nothing this.workspace that.workspace this.asked.labels that.asked.labels this.asked.steps a b files this.answers there
    (all_asked that.workspace that.asked.labels this.asked.steps b there this.asked.labels more)

-- ---- of one input

-- what words ask for is one
one_asked : (words : List (List ℕ)) (a b : Asked) → AsksFor words a → AsksFor words b → a ≡ b
one_asked words a b p q = same_Some a b (sym p ∙ q)

pub inputs_have_one_answer : InputsHaveOneAnswer
inputs_have_one_answer words others input a b this that labels steps =
    let here = IsPermutation-refl this.workspace in
    let files : IsPermutation this.workspace that.workspace =
    subst (IsPermutation this.workspace) (one_workspace input this.workspace that.workspace this.input_part that.input_part) here in
    requests_have_one_answer words others input input a b this that files labels steps

pub answers_are_one : AnswersAreOne
answers_are_one words input a b this that =
    let asked = one_asked words this.asked that.asked this.words_part that.words_part in
    inputs_have_one_answer words words input a b this that
    (subst (λ (r : Asked). AskForTheSame this.asked.labels r.labels) asked (λ l h. h, λ l h. h)) (ap (λ (r : Asked). r.steps) asked)

pub answers_are_not_too_many : AnswersAreNotTooMany
answers_are_not_too_many words input answer this that =
    let asked = one_asked words this.asked that.asked this.words_part that.words_part in
    let files = one_workspace input this.workspace that.workspace this.input_part that.input_part in
    let here : IsTooMany this.workspace this.asked.labels this.asked.steps =
    subst (λ (r : Asked). IsTooMany this.workspace r.labels r.steps) (sym asked)
    (subst (λ (w : List Pair). IsTooMany w that.asked.labels that.asked.steps) (sym files) that.many) in
    let more = (too_many_are_counted this.workspace this.asked.labels this.asked.steps answer this.answers).1 here in
    let few = this.few in
    absurd (omega (arith, more, few))

-- the labels that words ask for are legal
texts_legal : (ts : List (List ℕ)) → IfSome (AllByRecursion IsLegal) (each_label ts)
texts_legal [] = tt
texts_legal (t ∷ ts) = go (label_of t None) (label_legal t None) (each_label ts) (texts_legal ts)
  where
    go : (o : Option LabelParts) → IfSome IsLegal o → (os : Option (List LabelParts)) → IfSome (AllByRecursion IsLegal) os
        → IfSome (AllByRecursion IsLegal) (option_and_then (λ l. option_map (λ ls. l ∷ ls) os) o)
    go (Some l) h (Some ls) i = (h, i)
    go (Some l) h None i = tt
    go None h os i = tt

words_legal : (words : List (List ℕ)) (a : Asked) → AsksFor words a → AreLegal a.labels
words_legal words a e = one_of a.labels (subst (IfSome (λ (b : Asked). AllByRecursion IsLegal b.labels)) e (go (written words)))
  where
    with : (w : Written) (o : Option (List LabelParts)) → IfSome (AllByRecursion IsLegal) o
        → IfSome (λ (b : Asked). AllByRecursion IsLegal b.labels) (option_map (λ ls. record { workers = w.workers; steps = w.steps; labels = ls }) o)
    with w (Some ls) h = h
    with w None h = tt

    go : (o : Option Written) → IfSome (λ (b : Asked). AllByRecursion IsLegal b.labels) (option_and_then asked_of o)
    go (Some w) = with w (each_label w.labels) (texts_legal w.labels)
    go None = tt

pub requests_have_an_answer : RequestsHaveAnAnswer
requests_have_an_answer words input asked workspace asks spells =
    let a = labels_have_an_answer workspace asked.labels asked.steps spells.workspace (words_legal words asked asks) in
    elim (leb_tells (length a.0.nodes) node_limit) [
      | inl few ↦
          inl (a.0, record { asked = asked; workspace = workspace; words_part = asks; input_part = spells; answers = a.1; few = few.1 })
      | inr many ↦
          inr (record {
            asked = asked;
            workspace = workspace;
            words_part = asks;
            input_part = spells;
            many = (too_many_are_counted workspace asked.labels asked.steps a.0 a.1).0 many.1;
          })
    ]
