-- What the reading with a limit takes from the front of tokens is what the reading without one takes.
use Rattle.std.proofs.Common.{◌≡◌, ℕ, List, ◌∷◌, Option, Some, None, refl}
use Rattle.lexer.specs.declared.token.Word.TheVariants.{And, If, In, Not, Or}
use Rattle.lexer.specs.declared.token.Mark.TheVariants.{OpenParen, OpenBracket, Dot, Assign, Equal, NotEqual, Less, Greater, LessEqual, GreaterEqual, Plus, Minus, Star, FloorDivide, Percent}
use Rattle.grammar.specs.declared.ahead.Suffix.{Suffix}
use Rattle.grammar.specs.declared.ahead.Suffix.TheVariants as suffix
use Rattle.lexer.specs.Tokens.{Token, name, word, mark}
use Rattle.grammar.specs.Tree.{Sign, negation, opposite}
use Rattle.grammar.specs.Front.{Next, dot_next, index_next, call_next, if_next, next, sign_at, keyword_step, keyword_at}
use Rattle.grammar.specs.Ahead.{behind_not, behind_minus, behind_if, suffix_at, named_at}
use Rattle.grammar.specs.Descent.{}

abbrev pub if_of : Next → Option (List Token)
if_of (if_next u) = Some u
if_of _ = None

abbrev pub suffix_of : Next → Option (Suffix × List Token)
suffix_of (dot_next u) = Some (suffix.Attribute, u)
suffix_of (index_next u) = Some (suffix.Index, u)
suffix_of (call_next u) = Some (suffix.Call, u)
suffix_of _ = None

abbrev pub not_of : Option (Sign × List Token) → Option (List Token)
not_of (Some (negation, u)) = Some u
not_of _ = None

abbrev pub minus_of : Option (Sign × List Token) → Option (List Token)
minus_of (Some (opposite, u)) = Some u
minus_of _ = None

pub if_same : (ts : List Token) → behind_if ts ≡ if_of (next ts)
unfolding behind_if next
if_same (word Or ∷ ts) = refl
if_same (word And ∷ ts) = refl
if_same (mark Equal ∷ ts) = refl
if_same (mark NotEqual ∷ ts) = refl
if_same (mark Less ∷ ts) = refl
if_same (mark Greater ∷ ts) = refl
if_same (mark LessEqual ∷ ts) = refl
if_same (mark GreaterEqual ∷ ts) = refl
if_same (word In ∷ ts) = refl
if_same (word Not ∷ word In ∷ ts) = refl
if_same (word Not ∷ ts) = refl
if_same (mark Plus ∷ ts) = refl
if_same (mark Minus ∷ ts) = refl
if_same (mark Star ∷ ts) = refl
if_same (mark FloorDivide ∷ ts) = refl
if_same (mark Percent ∷ ts) = refl
if_same (mark Dot ∷ ts) = refl
if_same (mark OpenBracket ∷ ts) = refl
if_same (mark OpenParen ∷ ts) = refl
if_same (word If ∷ ts) = refl
if_same (mark Assign ∷ ts) = refl
if_same _ = refl

pub suffix_same : (ts : List Token) → suffix_at ts ≡ suffix_of (next ts)
unfolding suffix_at next
suffix_same (word Or ∷ ts) = refl
suffix_same (word And ∷ ts) = refl
suffix_same (mark Equal ∷ ts) = refl
suffix_same (mark NotEqual ∷ ts) = refl
suffix_same (mark Less ∷ ts) = refl
suffix_same (mark Greater ∷ ts) = refl
suffix_same (mark LessEqual ∷ ts) = refl
suffix_same (mark GreaterEqual ∷ ts) = refl
suffix_same (word In ∷ ts) = refl
suffix_same (word Not ∷ word In ∷ ts) = refl
suffix_same (word Not ∷ ts) = refl
suffix_same (mark Plus ∷ ts) = refl
suffix_same (mark Minus ∷ ts) = refl
suffix_same (mark Star ∷ ts) = refl
suffix_same (mark FloorDivide ∷ ts) = refl
suffix_same (mark Percent ∷ ts) = refl
suffix_same (mark Dot ∷ ts) = refl
suffix_same (mark OpenBracket ∷ ts) = refl
suffix_same (mark OpenParen ∷ ts) = refl
suffix_same (word If ∷ ts) = refl
suffix_same (mark Assign ∷ ts) = refl
suffix_same _ = refl

pub not_same : (ts : List Token) → behind_not ts ≡ not_of (sign_at ts)
unfolding behind_not sign_at
not_same (word Not ∷ ts) = refl
not_same (mark Minus ∷ ts) = refl
not_same _ = refl

pub minus_same : (ts : List Token) → behind_minus ts ≡ minus_of (sign_at ts)
unfolding behind_minus sign_at
minus_same (word Not ∷ ts) = refl
minus_same (mark Minus ∷ ts) = refl
minus_same _ = refl

pub assign_same : (x : List ℕ) (ts : List Token) → named_at (name x ∷ ts) ≡ keyword_step x (next ts)
unfolding named_at next
assign_same x (word Or ∷ ts) = refl
assign_same x (word And ∷ ts) = refl
assign_same x (mark Equal ∷ ts) = refl
assign_same x (mark NotEqual ∷ ts) = refl
assign_same x (mark Less ∷ ts) = refl
assign_same x (mark Greater ∷ ts) = refl
assign_same x (mark LessEqual ∷ ts) = refl
assign_same x (mark GreaterEqual ∷ ts) = refl
assign_same x (word In ∷ ts) = refl
assign_same x (word Not ∷ word In ∷ ts) = refl
assign_same x (word Not ∷ ts) = refl
assign_same x (mark Plus ∷ ts) = refl
assign_same x (mark Minus ∷ ts) = refl
assign_same x (mark Star ∷ ts) = refl
assign_same x (mark FloorDivide ∷ ts) = refl
assign_same x (mark Percent ∷ ts) = refl
assign_same x (mark Dot ∷ ts) = refl
assign_same x (mark OpenBracket ∷ ts) = refl
assign_same x (mark OpenParen ∷ ts) = refl
assign_same x (word If ∷ ts) = refl
assign_same x (mark Assign ∷ ts) = refl
assign_same x _ = refl

pub named_same : (ts : List Token) → named_at ts ≡ keyword_at ts
unfolding named_at keyword_at
named_same (name x ∷ ts) = assign_same x ts
named_same _ = refl
