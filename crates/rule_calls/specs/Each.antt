-- Each of a list read as what is asked, one after the other. (This project's own.)
use Rattle.std.specs.Prelude.{List, [], ◌∷◌, ◌++◌, Option, Some, None, Result, Ok, Err}
use Rattle.ticks.specs.declared.ticks.Kind.{Kind}
use Rattle.ticks.specs.declared.ticks.Kind.TheVariants.{Wrong}
use Rattle.operations.specs.States.{then_give}

-- what is read is put last; what can't be read is `type`
abbrev pub put_read : {B : Type 0} → List B → Option B → Result (List B) Kind
put_read ys (Some y) = Ok (ys ++ y ∷ [])
put_read ys None = Err Wrong

-- what these add to what is there
abbrev pub added : {A B : Type 0} → (A → Option B) → List B → List A → Result (List B) Kind
added f ys [] = Ok ys
added f ys (x ∷ xs) = then_give (put_read ys (f x)) (λ zs. added f zs xs)
