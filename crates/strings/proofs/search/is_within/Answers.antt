use Rattle.std.proofs.Common.{◌≡◌, ℕ, Bool, true, false, List, drop, Some, None, sym}
use Rattle.std.specs.Bool.{MatchBool}
use Rattle.std.specs.Str.Pattern.{FindsText, HasMatch, HasTextAt}
use Rattle.strings.specs.Parts.{is_part}
use Rattle.strings.proofs.Finds.{part_at, no_part}
use Rattle.strings.proofs.search.is_within.Goals as goal

stands : (p t : List ℕ) (i j : ℕ) → FindsText p t (Some (i, j)) → true ≡ is_part p t
stands p t i j h = let k : HasTextAt p t i j = h.1 in sym (part_at p t i (drop j t) k.split)

told : (p t : List ℕ) (b : Bool) → MatchBool b (HasMatch (FindsText p) t) (FindsText p t None) → b ≡ is_part p t
told p t true m = stands p t m.0 m.1 m.2
told p t false m = sym (no_part p t m)

pub returns : goal.returns
returns c = told c.args.part.now c.args.text.now c.contains.result c.contains.ensures.cases
