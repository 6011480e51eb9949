use Rattle.std.proofs.Common.{◌≡◌, ℕ, ◌≤◌, List, length, drop, Option, Some, None, MatchOption, sym}
use Rattle.std.specs.Str.Pattern.{FindsText, HasTextAt, MatchBeginsAt}
use Rattle.strings.specs.Parts.{first_place}
use Rattle.strings.proofs.Finds.{first_at, no_place}
use Rattle.strings.proofs.search.place_in.Goals as goal

stands : (p t : List ℕ) (i j : ℕ) → FindsText p t (Some (i, j)) → i ≤ length t → Some i ≡ first_place p t
stands p t i j h l = let k : HasTextAt p t i j = h.1 in sym (first_at p t i (drop j t) l h.0 k.split)

told : (p t : List ℕ) (r : Option ℕ) → MatchOption r (FindsText p t None) (MatchBeginsAt (FindsText p) t) → r ≡ first_place p t
told p t None m = sym (no_place p t m)
told p t (Some i) m = stands p t i m.0 m.1 m.3.0

pub returns : goal.returns
returns c = told c.args.part.now c.args.text.now c.find.result c.find.ensures.cases
