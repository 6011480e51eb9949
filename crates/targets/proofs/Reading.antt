-- Each of a list read as what is asked, one after the other.
use Rattle.std.proofs.Common.{◌≡◌, List, [], ◌∷◌, ◌++◌, Option, Some, None, refl, sym, ap, ◌∙◌, append_assoc}
use Rattle.std.specs.Prelude.{option_map, option_and_then}
use Rattle.targets.specs.RuleCalls.{each_of}

-- those that are there, and then those that are read
abbrev pub behind : {B : Type 0} → List B → Option (List B) → Option (List B)
behind ys None = None
behind ys (Some zs) = Some (ys ++ zs)

pub none_yet : {B : Type 0} (o : Option (List B)) → behind [] o ≡ o
none_yet None = refl
none_yet (Some zs) = refl

one_more : {B : Type 0} (ys : List B) (y : B) (o : Option (List B)) → behind (ys ++ y ∷ []) o ≡ behind ys (option_map (λ zs. y ∷ zs) o)
one_more ys y None = refl
one_more ys y (Some zs) = ap Some (append_assoc ys (y ∷ []) zs)

-- one turn of a loop that reads them
module _ {A B : Type 0} (f : A → Option B) {xs rest : List A} {x : A} (p : xs ≡ x ∷ rest) (ys : List B) where
  abbrev then_rest : Option B → Option (List B)
  then_rest o = behind ys (option_and_then (λ y. option_map (λ zs. y ∷ zs) (each_of f rest)) o)

  next : behind ys (each_of f xs) ≡ then_rest (f x)
  next = ap (λ l. behind ys (each_of f l)) p

  pub read : (y : B) → f x ≡ Some y → behind (ys ++ y ∷ []) (each_of f rest) ≡ behind ys (each_of f xs)
  read y e = one_more ys y (each_of f rest) ∙ sym (next ∙ ap then_rest e)

  pub unread : f x ≡ None → behind ys (each_of f xs) ≡ None
  unread e = next ∙ ap then_rest e
