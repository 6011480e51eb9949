use Rattle.std.proofs.Common.{◌≡◌, ℕ, Bool, true, false, List, drop, Some, None, sym}
use Rattle.std.specs.Bool.{MatchBool}
use Rattle.std.specs.Str.Pattern.{FindsTextPrefix, HasPrefixMatch}
use Rattle.strings.specs.Affixes.{begins}
use Rattle.strings.proofs.Finds.{begins_at, lacks}
use Rattle.strings.proofs.search.has_front.Goals as goal

stands : (p t : List ℕ) (n : ℕ) → FindsTextPrefix p t (Some n) → true ≡ begins p t
stands p t n h = sym (begins_at p t (drop n t) h.1)

told : (p t : List ℕ) (b : Bool) → MatchBool b (HasPrefixMatch (FindsTextPrefix p) t) (FindsTextPrefix p t None) → b ≡ begins p t
told p t true m = stands p t m.0 m.1
told p t false m = sym (lacks p t m)

pub returns : goal.returns
returns c = told c.args.front.now c.args.text.now c.starts_with.result c.starts_with.ensures.cases
