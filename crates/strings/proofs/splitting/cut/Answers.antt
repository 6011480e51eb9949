use Rattle.std.proofs.Common.{◌≡◌, ◌<◌, ◌∷◌, [], List, ℕ, length, Option, Some, None, MatchOption}
use Rattle.std.specs.Str.Pattern.{FindsText, SplitsAroundMatch}
use denote.Ref.{Bor}
use Rattle.strings.specs.Splitting.{parts}
use Rattle.strings.proofs.Cuts.{first_part, none_found, back_shorter}
use Rattle.strings.proofs.splitting.cut.Goals as goal

abbrev Pair : Type 0
Pair = Bor (List ℕ) × Bor (List ℕ)

abbrev Told : List ℕ → List ℕ → Option Pair → Type 0
Told s t r = MatchOption r (FindsText s t None) (λ x. SplitsAroundMatch (FindsText s) t x.0.now x.1.now)

told_parts : (s t : List ℕ) (r : Option Pair) → 0 < length s → Told s t r → MatchOption r (parts s t ≡ t ∷ []) (λ x. parts s t ≡ x.0.now ∷ parts s x.1.now)
told_parts s t None l m = none_found s [] t m
told_parts s t (Some x) l m = first_part s t x.0.now x.1.now l m

told_shorter : (s t : List ℕ) (r : Option Pair) → 0 < length s → Told s t r → MatchOption r (Unit {0}) (λ x. length x.1.now < length t)
told_shorter s t None l m = tt
told_shorter s t (Some x) l m = back_shorter s t x.0.now x.1.now l m

pub returns-clause-parts : goal.returns-clause-parts
returns-clause-parts c = told_parts c.args.separator.now c.args.text.now c.split_once.result c.requires c.split_once.ensures.cases

pub returns-clause-shorter : goal.returns-clause-shorter
returns-clause-shorter c = told_shorter c.args.separator.now c.args.text.now c.split_once.result c.requires c.split_once.ensures.cases
