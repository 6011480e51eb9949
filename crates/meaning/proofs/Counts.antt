-- How many values expressions have.
use Rattle.std.proofs.Common.{◌≡◌, suc, ◌+◌, List, [], ◌∷◌, ◌++◌, length, arith, length-append}
use Rattle.program_tree.specs.Resolved.{Terms, no_terms, more_terms, Keywords, no_keywords, more_keywords}
use Rattle.meaning.specs.Operations.{Operations}
use Rattle.meaning.specs.Outcome.{Slots, Here}
use Rattle.meaning.specs.Expressions.{Invoke, names_of, eval, evals, values}
use Rattle.meaning.specs.ExpressionCode.{count}
use Rattle.meaning.proofs.Leads.{Always, always_then, always_as}

-- as many values as there are expressions
module _ {S V K : Type 0} (ops : Operations S V K) (invoke : Invoke S V K) (here : Here) where
  pub evals_long : (es : Terms) (vs : List V) (l : Slots V) (s : S) →
      Always (λ ws. length ws ≡ length vs + count es) (evals ops invoke es here vs l s)
  unfolding eval
  evals_long no_terms vs l s = omega arith
  evals_long (more_terms e es) vs l s = always_then _ (eval ops invoke e here l s) _ (λ v l s.
      always_as (λ ws. length ws ≡ length (vs ++ v ∷ []) + count es) (λ ws. length ws ≡ length vs + suc (count es)) (evals ops invoke es here (vs ++ v ∷ []) l s) (λ ws e. omega (arith, e, length-append vs (v ∷ []))) (evals_long es (vs ++ v ∷ []) l s))

  pub values_long : (ks : Keywords) (vs : List V) (l : Slots V) (s : S) →
      Always (λ ws. length ws ≡ length vs + length (names_of ks)) (values ops invoke ks here vs l s)
  unfolding eval
  values_long no_keywords vs l s = omega arith
  values_long (more_keywords x e ks) vs l s = always_then _ (eval ops invoke e here l s) _ (λ v l s.
      always_as (λ ws. length ws ≡ length (vs ++ v ∷ []) + length (names_of ks)) (λ ws. length ws ≡ length vs + suc (length (names_of ks))) (values ops invoke ks here (vs ++ v ∷ []) l s) (λ ws e. omega (arith, e, length-append vs (v ∷ []))) (values_long ks (vs ++ v ∷ []) l s))

  pub items_counted : (es : Terms) (l : Slots V) (s : S) →
      Always (λ ws. length ws ≡ count es) (evals ops invoke es here [] l s)
  items_counted es l s = always_as (λ ws. length ws ≡ 0 + count es) (λ ws. length ws ≡ count es) (evals ops invoke es here [] l s) (λ ws e. omega (arith, e)) (evals_long es [] l s)

  pub named_counted : (ks : Keywords) (l : Slots V) (s : S) →
      Always (λ ws. length ws ≡ length (names_of ks)) (values ops invoke ks here [] l s)
  named_counted ks l s = always_as (λ ws. length ws ≡ 0 + length (names_of ks)) (λ ws. length ws ≡ length (names_of ks)) (values ops invoke ks here [] l s) (λ ws e. omega (arith, e)) (values_long ks [] l s)
