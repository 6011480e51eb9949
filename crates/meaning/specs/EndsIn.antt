-- How many instructions a run makes: each run of compiled code ends. (This project's own.)
use Rattle.std.specs.Prelude.{◌≡◌, ℕ, zero, suc, ⊤, refl}
use mathlib.Core.Path.{ap}
use mathlib.Core.HLevel.{Σ_prop_path, ⊥_prop, Unit-prop}
use Rattle.meaning.specs.Operations.{FunctionId, Callee, Arguments, Operations}
use Rattle.meaning.specs.Instructions.{Codes}
use Rattle.meaning.specs.Machine.{Next, more, over, stuck}
use Rattle.meaning.specs.Performing.{step}
use Rattle.meaning.specs.Correct.{call_start, function_start, top_start}

module _ {S V K : Type 0} (ops : Operations S V K) (codes : Codes) where
  -- exactly n instructions more, and then an end
  abbrev pub EndsIn : ℕ → Next S V K → Type 0
  EndsIn zero (more c) = ⊥
  EndsIn zero (over o) = ⊤
  EndsIn zero stuck = ⊥
  EndsIn (suc n) (more c) = EndsIn n (step ops codes c)
  EndsIn (suc n) (over o) = ⊥
  EndsIn (suc n) stuck = ⊥

  -- it is so in one way at most
  EndsIn-prop : (n : ℕ) (x : Next S V K) → IsProp (EndsIn n x)
  EndsIn-prop zero (more c) = ⊥_prop
  EndsIn-prop zero (over o) = Unit-prop
  EndsIn-prop zero stuck = ⊥_prop
  EndsIn-prop (suc n) (more c) = EndsIn-prop n (step ops codes c)
  EndsIn-prop (suc n) (over o) = ⊥_prop
  EndsIn-prop (suc n) stuck = ⊥_prop

  -- two such numbers are the same
  one_count : (m n : ℕ) (x : Next S V K) → EndsIn m x → EndsIn n x → m ≡ n
  one_count zero zero x a b = refl
  one_count (suc m) (suc n) (more c) a b = ap suc (one_count m n (step ops codes c) a b)
  one_count (suc m) (suc n) (over o) a b = absurd a
  one_count (suc m) (suc n) stuck a b = absurd a
  one_count zero (suc n) (more c) a b = absurd a
  one_count zero (suc n) (over o) a b = absurd b
  one_count zero (suc n) stuck a b = absurd a
  one_count (suc m) zero (more c) a b = absurd b
  one_count (suc m) zero (over o) a b = absurd a
  one_count (suc m) zero stuck a b = absurd b

  -- how many instructions a run makes; there is at most one such number
  abbrev pub Counted : Next S V K → Type 0
  Counted x = (n : ℕ) × EndsIn n x

  -- so there is at most one such number, and one way to know it
  pub Counted-prop : (x : Next S V K) → IsProp (Counted x)
  Counted-prop x a b = Σ_prop_path (λ n. EndsIn-prop n x) (one_count a.0 b.0 x a.1 b.1)

-- each run of these codes ends, whatever the operations do
pub record Terminates {S V K : Type 0} (ops : Operations S V K) (codes : Codes) : Type 0 where
  pub calls : (file at : ℕ) (g : Callee V) (given : Arguments V) (s : S) →
      Counted ops codes (call_start ops codes file at g given s)
  pub functions : (f : FunctionId) (given : Arguments V) (s : S) →
      Counted ops codes (function_start ops codes f given s)
  pub tops : (file : ℕ) (s : S) → Counted ops codes (top_start ops codes file s)
