-- Each of a list read as what is asked.
use Rattle.std.proofs.Common.{◌≡◌, List, [], ◌∷◌, ◌++◌, Option, Some, None, Result, Ok, Err, refl, sym, ap, ◌∙◌, append_assoc, append-nil}
use Rattle.std.specs.Prelude.{option_map, option_and_then}
use Rattle.ticks.specs.Ticking.{FaultOr}
use Rattle.ticks.specs.declared.ticks.Kind.{Kind}
use Rattle.ticks.specs.declared.ticks.Kind.TheVariants.{Wrong}
use Rattle.ticks.specs.declared.ticks.Broken.{Broken}
use Rattle.ticks.specs.declared.ticks.Broken.TheVariants as broken
use Rattle.operations.specs.Items.{or_fault}
use Rattle.operations.specs.States.{then_give}
use Rattle.targets.specs.RuleCalls.{each_of}
use Rattle.rule_calls.specs.Each.{put_read, added}

module _ {A B : Type 0} (f : A → Option B) where
  -- those that are there, and then those that are read
  abbrev behind : List B → Option (List B) → Result (List B) Kind
  behind ys (Some zs) = Ok (ys ++ zs)
  behind ys None = Err Wrong

  first : (ys : List B) (x : A) (xs : List A) (o : Option B) (later : Option (List B)) → ((zs : List B) → added f zs xs ≡ behind zs later)
      → then_give (put_read ys o) (λ zs. added f zs xs) ≡ behind ys (option_and_then (λ y. option_map (λ zs. y ∷ zs) later) o)
  first ys x xs None later h = refl
  first ys x xs (Some y) None h = h (ys ++ y ∷ [])
  first ys x xs (Some y) (Some zs) h = h (ys ++ y ∷ []) ∙ ap Ok (append_assoc ys (y ∷ []) zs)

  added-behind : (ys : List B) (xs : List A) → added f ys xs ≡ behind ys (each_of f xs)
  added-behind ys [] = ap Ok (sym (append-nil ys))
  added-behind ys (x ∷ xs) = first ys x xs (f x) (each_of f xs) (λ zs. added-behind zs xs)

  none_before : (o : Option (List B)) → behind [] o ≡ or_fault Wrong o
  none_before (Some zs) = refl
  none_before None = refl

  -- all of them, or `type`
  pub added-each : (xs : List A) → added f [] xs ≡ or_fault Wrong (each_of f xs)
  added-each xs = added-behind [] xs ∙ none_before (each_of f xs)

  -- what is made of all of them
  module _ {C : Type 0} (g : List B → C) where
    pub made_of_each : (xs : List A) (ys : List B) → added f [] xs ≡ Ok ys → or_fault Wrong (option_map g (each_of f xs)) ≡ Ok (g ys)
    made_of_each xs ys h = whole (each_of f xs) (sym (added-each xs) ∙ h)
      where
        whole : (o : Option (List B)) → or_fault Wrong o ≡ Ok ys → or_fault Wrong (option_map g o) ≡ Ok (g ys)
        whole None e = absurd (cc)
        whole (Some zs) e = ap then_made e
          where
            then_made : Result (List B) Kind → Result C Kind
            then_made (Ok us) = Ok (g us)
            then_made (Err k) = Err k

    pub fault_of_each : (xs : List A) (e : Broken) → FaultOr (added f [] xs) e → FaultOr (or_fault Wrong (option_map g (each_of f xs))) e
    fault_of_each xs broken.NoMemory h = tt
    fault_of_each xs (broken.Kind k) h = none (each_of f xs) (sym (added-each xs) ∙ h)
      where
        none : (o : Option (List B)) → or_fault Wrong o ≡ Err k → or_fault Wrong (option_map g o) ≡ Err k
        none None e = cc
        none (Some zs) e = absurd (cc)

  -- one turn of a loop that reads them
  module _ {xs rest : List A} {x : A} (p : xs ≡ x ∷ rest) (ys : List B) where
    added-next : added f ys xs ≡ then_give (put_read ys (f x)) (λ zs. added f zs rest)
    added-next = ap (added f ys) p

    pub added-then : (zs : List B) → put_read ys (f x) ≡ Ok zs → added f ys xs ≡ added f zs rest
    added-then zs e = added-next ∙ ap (λ r. then_give r (λ zs. added f zs rest)) e

    pub added-fault : (e : Broken) → FaultOr (put_read ys (f x)) e → FaultOr (added f ys xs) e
    added-fault (broken.Kind k) q = added-next ∙ ap (λ r. then_give r (λ zs. added f zs rest)) q
    added-fault broken.NoMemory q = tt
