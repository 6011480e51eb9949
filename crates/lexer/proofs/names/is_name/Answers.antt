use Rattle.std.proofs.Common.{ℕ, ◌≡◌, ◌+◌, ◌==◌, Bool, true, false, List, [], ◌∷◌, length, drop, slice_index, refl, sym, ap, subst, ◌∙◌}
use Rattle.std.specs.Prelude.{◌↔◌}
use Rattle.lexer.specs.declared.begins.Beginning.{Beginning}
use Rattle.lexer.specs.declared.begins.Beginning.TheVariants.{Space, LineEnd, Comment, Token, Nothing}
use Rattle.lexer.specs.declared.token.Span.{Span}
use Rattle.lexer.specs.declared.token.Kind.{Kind}
use Rattle.lexer.specs.declared.token.Kind.TheVariants as of
use Rattle.lexer.specs.Begins.{token, begins}
use Rattle.lexer.specs.Fits.{Spells}
use Rattle.lexer.specs.Names.{is_name_of, spells_name}
use Rattle.lexer.specs.Seen.{token_seen, beginning_seen}
use Rattle.lexer.specs.Tokens.{name}
use Rattle.lexer.proofs.NameLaws.{name_told}
use Rattle.lexer.proofs.names.is_name.Goals as goal

by_first : (bytes : List ℕ) → (length bytes == 0) ≡ false
    → spells_name bytes ≡ is_name_of (length bytes) (begins (slice_index bytes 0) (drop (0 + 1) bytes))
by_first [] h = absurd cc
by_first (b ∷ bs) h = refl

told : (text bytes : List ℕ) (at : Beginning) (r : Bool) → bytes ≡ text → (length bytes == 0) ≡ false
    → beginning_seen bytes at ≡ begins (slice_index bytes 0) (drop (0 + 1) bytes)
    → r ≡ is_name_of (length bytes) (beginning_seen bytes at) → (r ≡ true) ↔ Spells text (name text)
told text bytes at r same some v e =
    let all : r ≡ spells_name text =
    e ∙ ap (is_name_of (length bytes)) v ∙ sym (by_first bytes some) ∙ ap spells_name same in
    subst (λ (b : Bool). (b ≡ true) ↔ Spells text (name text)) (sym all) (name_told text)

no_token : (n : ℕ) (bytes : List ℕ) (at : Beginning) → ((k : Kind) (m : ℕ) → at ≡ Token k m → ⊥)
    → false ≡ is_name_of n (beginning_seen bytes at)
no_token n bytes Space h = refl
no_token n bytes LineEnd h = refl
no_token n bytes (Comment m) h = refl
no_token n bytes (Token k m) h = absurd (h k m refl)
no_token n bytes Nothing h = refl

no_name : (n m : ℕ) (bytes : List ℕ) (k : Kind) → ((s : Span) → k ≡ of.Name s → ⊥)
    → false ≡ is_name_of n (token (token_seen bytes k) m)
no_name n m bytes (of.Name s) h = absurd (h s refl)
no_name n m bytes (of.Number v) h = refl
no_name n m bytes (of.Str s) h = refl
no_name n m bytes (of.Word w) h = refl
no_name n m bytes (of.Mark w) h = refl

pub returns-in_default : goal.returns-in_default
returns-in_default c =
    let bytes = c.as_bytes-bytes.result.now in
    told c.args.text.now bytes c.begins.result _ c.as_bytes-bytes.ensures.value (sym c.is_empty.ensures ∙ c.if-is_empty.false)
    c.begins.ensures.value (no_token (length bytes) bytes c.begins.result c.in_default.not-Token)

pub returns-in-Name : goal.returns-in-Name
returns-in-Name c =
    let bytes = c.as_bytes-bytes.result.now in
    told c.args.text.now bytes c.begins.result _ c.as_bytes-bytes.ensures.value (sym c.is_empty.ensures ∙ c.if-is_empty.false)
    c.begins.ensures.value (rw (c.in-Token.is, c.in-Name.is) refl)

pub returns-in_default-kind : goal.returns-in_default-kind
returns-in_default-kind c =
    let bytes = c.as_bytes-bytes.result.now in
    told c.args.text.now bytes c.begins.result _ c.as_bytes-bytes.ensures.value (sym c.is_empty.ensures ∙ c.if-is_empty.false)
    c.begins.ensures.value (rw c.in-Token.is (no_name (length bytes) c.in-Token.more bytes c.in-Token.kind c.in_default-kind.not-Name))
