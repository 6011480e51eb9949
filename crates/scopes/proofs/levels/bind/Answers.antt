use Rattle.std.proofs.Common.{arith, ◌≡◌, ◌+◌, ◌<◌, ◌≤◌, ◌++◌, ◌∷◌, [], Some, drop, length, refl, take, sym, ap, ◌∙◌, subst}
use Rattle.std.specs.Prelude.{bytes_eq, IfSome}
use Rattle.std.specs.Map.{lookup}
use Rattle.std.specs.Option.{option_flatten}
use Rattle.std.proofs.lemmas.List.{drop-append-le, length-append, length-drop, take-append-le}
use Rattle.program_tree.specs.Names.{width}
use Rattle.scopes.specs.ScopeView.{AreLevel, found, names_in}
use Rattle.scopes.proofs.LevelLemmas.{Puts, bound_again, bound_new}
use Rattle.scopes.proofs.levels.bind.Goals as goal
use Rattle.scopes.proofs.levels.bind.Goals.{in-Some+else-before-first, in_default}

pub returns-then-before-first : goal.returns-then-before-first
returns-then-before-first c =
    let es = c.args.slots.now.entries in
    let fs = c.insert.new.self.entries in
    let first = c.args.first in
    let all = c.args.bound.now.items in
    let bs = drop first all in
    let y = c.args.name.now in
    let s = c.in-Some.before in
    let puts : Puts es y (Some c.len-slot.result) fs = subst (λ z. Puts es z (Some c.len-slot.result) fs) c.in_ok-share.ensures (λ x. c.in_ok-insert.ensures.updates.0 x) in
    let old = c.in_ok-insert.ensures.old ∙ ap (λ z. lookup (bytes_eq z) es) c.in_ok-share.ensures in
    let had : found y es ≡ Some s = sym (ap option_flatten old) ∙ sym c.flatten-around.ensures ∙ c.in-Some.is in
    λ ls w f h.
    let again = bound_again es fs bs y c.len-slot.result s ls puts had (omega (arith, w, c.if-before-first.true)) h in
    (again.0, subst (λ gs. AreLevel gs bs ls) (sym c.set_slot.ensures) again.1, refl, f)

pub returns : goal.returns
returns c =
    let es = c.args.slots.now.entries in
    let fs = c.insert.new.self.entries in
    let first = c.args.first in
    let all = c.args.bound.now.items in
    let bs = drop first all in
    let y = c.args.name.now in
    let o = c.match-around.around in
    let puts : Puts es y (Some c.len-slot.result) fs = subst (λ z. Puts es z (Some c.len-slot.result) fs) c.in_ok-share.ensures (λ x. c.in_ok-insert.ensures.updates.0 x) in
    let old = c.in_ok-insert.ensures.old ∙ ap (λ z. lookup (bytes_eq z) es) c.in_ok-share.ensures in
    let told : found y es ≡ c.flatten-around.result = sym (ap option_flatten old) ∙ sym c.flatten-around.ensures in
    let same : c.flatten-around.result ≡ o =
    elim c.match-around.branch [
      | in-Some+else-before-first v ↦ v.in-Some.is ∙ sym v.around-is
      | in_default v ↦ sym v.around-is
    ] in
    let earlier : IfSome o (λ s. s < c.args.first) =
    elim c.match-around.branch [
      | in-Some+else-before-first v ↦ subst (λ r. IfSome r (λ s. s < c.args.first)) (sym v.around-is) v.if-before-first.false
      | in_default v ↦ subst (λ r. IfSome r (λ s. s < c.args.first)) (sym (v.around-is ∙ v.in_default.is)) tt
    ] in
    let pushed : c.push.new.self.items ≡ all ++ record { name = y; around = o } ∷ [] =
    c.in_ok-push.ensures.items ∙ ap (λ z. all ++ record { name = z; around = o } ∷ []) c.in_ok-share-2.ensures in
    λ ls w f h.
    let count : c.len-slot.result ≡ width ls + length bs = omega (arith, w, f, c.len-slot.ensures, length-drop first all) in
    let new = bound_new es fs bs y c.len-slot.result o ls puts count (told ∙ same) (subst (λ n. IfSome o (λ s. s < n)) (sym w) earlier) h in
    let level = ap (drop first) pushed ∙ drop-append-le first all (record { name = y; around = o } ∷ []) f in (
      ap names_in level ∙ new.0,
      subst (λ cs. AreLevel fs cs ls) (sym level) new.1,
      ap (take first) pushed ∙ take-append-le first all (record { name = y; around = o } ∷ []) f,
      subst (λ cs. first ≤ length cs) (sym pushed) (omega (arith, f, length-append all (record { name = y; around = o } ∷ []))),
    )
