-- How a call that takes memory answers what a definition gives. (This project's own.)
use Rattle.std.specs.Prelude.{◌≡◌, Result, Ok, Err, MatchResult}
use Rattle.strings.specs.declared.errors.StringError.{StringError}
use Rattle.strings.specs.declared.errors.StringRefusal.{StringRefusal}
use Rattle.strings.specs.declared.errors.StringRefusal.TheVariants as refusal

-- the refusal of the definition, or want of memory, which may stand in place of any answer
abbrev pub RefusalOr : {A : Type 0} → Result A StringError → StringRefusal → Type 0
RefusalOr r (refusal.String e) = r ≡ Err e
RefusalOr r refusal.NoMemory = Unit {0}

-- what the definition gives, as `view` reads the result
abbrev pub Answers : {A B : Type 0} → (B → A) → Result A StringError
    → Result B StringRefusal → Type 0
Answers view r result = MatchResult result (λ x. r ≡ Ok (view x)) (λ e. RefusalOr r e)
