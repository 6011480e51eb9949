-- A value that is put last, where one is read.
use Rattle.std.proofs.Common.{◌≡◌, ◌∙◌, List, [], ◌∷◌, ◌++◌, Option, Some, None, Ok, Err, ap, sym}
use Rattle.ticks.specs.Ticking.{FaultOr}
use Rattle.ticks.specs.declared.ticks.Broken.{Broken}
use Rattle.ticks.specs.declared.ticks.Broken.TheVariants as broken
use Rattle.ticks.specs.declared.ticks.Kind.TheVariants.{Wrong}
use Rattle.operations.specs.Items.{or_fault}
use Rattle.rule_calls.specs.Each.{put_read}

pub put_ok : {B : Type 0} (ys zs : List B) (o : Option B) (y : B) → or_fault Wrong o ≡ Ok y → zs ≡ ys ++ y ∷ [] → put_read ys o ≡ Ok zs
put_ok ys zs None y is last = let e : Err Wrong ≡ Ok y = is in cc
put_ok ys zs (Some x) y is last = let e : x ≡ y = cc in ap (λ v. Ok (ys ++ v ∷ [])) e ∙ ap Ok (sym last)

pub put_err : {B : Type 0} (ys : List B) (o : Option B) (b : Broken) → FaultOr (or_fault Wrong o) b → FaultOr (put_read ys o) b
put_err ys (Some y) (broken.Kind k) h = let e : Ok y ≡ Err k = h in cc
put_err ys (Some y) broken.NoMemory h = tt
put_err ys None (broken.Kind k) h = let e : Wrong ≡ k = cc in ap Err e
put_err ys None broken.NoMemory h = tt
