-- One line of the pass over outlines.
use Rattle.std.proofs.Common.{◌≡◌, ℕ, List, [], ◌∷◌, refl, sym, ap, ◌∙◌, Option, Ok, Err}
use Rattle.statements.specs.declared.outline.Outline.{Outline}
use Rattle.statements.specs.declared.outline.Open.{Open}
use Rattle.lexer.specs.Layout.{◌>>=◌}
use Rattle.statements.specs.Outlines.{first_of, stepped, pass}

-- a line that is refused
pub refused_there : (l : Outline) (ls : List Outline) (next : Option Outline) (os : List Open) (n : ℕ) → next ≡ first_of ls → stepped l next os ≡ Err n → pass (l ∷ ls) os ≡ Err n
unfolding pass
refused_there l ls next os n e h = ap (λ r. r >>= pass ls) (ap (λ m. stepped l m os) (sym e) ∙ h)

-- a line that stands there
pub goes_on_there : (l : Outline) (ls : List Outline) (next : Option Outline) (os qs : List Open) → next ≡ first_of ls → stepped l next os ≡ Ok qs → pass (l ∷ ls) os ≡ pass ls qs
unfolding pass
goes_on_there l ls next os qs e h = ap (λ r. r >>= pass ls) (ap (λ m. stepped l m os) (sym e) ∙ h)

pub at_the_end : (os : List Open) → pass [] os ≡ Ok os
unfolding pass
at_the_end os = refl
