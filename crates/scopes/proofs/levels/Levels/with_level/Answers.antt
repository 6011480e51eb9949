use Rattle.std.proofs.Common.{arith, ◌≡◌, ◌∷◌, ◌∙◌, [], ap, length, map, refl, reverse, subst, sym}
use Rattle.std.proofs.lemmas.List.{reverse-append}
use Rattle.program_tree.specs.Names.{once}
use Rattle.scopes.proofs.LevelLemmas.{IsLevels, level_added, width_cut}
use Rattle.scopes.specs.ScopeView.{HasSlots, names_in, parts}
use Rattle.scopes.proofs.levels.Levels.with_level.Goals as goal

added : (c : goal.In_ok-bind_all) → IsLevels (reverse c.push.new.self.items) c.bind_all.new.bound.items c.bind_all.new.slots.entries (once c.args.names.now ∷ c.args.self)
added c =
    let ns = reverse c.self.inside.starts.items in
    let bs = c.self.inside.bound.items in
    let cs = c.bind_all.new.bound.items in
    let fs = c.bind_all.new.slots.entries in
    let ls = map names_in (parts ns bs) in
    let xs = once c.args.names.now in
    let e = c.in_ok-bind_all.ensures ls (width_cut ns bs c.self.invariant.0) c.self.invariant.1 in
    let starts : reverse c.push.new.self.items ≡ length bs ∷ ns = ap reverse c.in_ok-push.ensures.items ∙ reverse-append c.self.inside.starts.items (c.len.result ∷ []) ∙ ap (λ n. n ∷ ns) (omega (arith, c.len.ensures)) in
    let levels = level_added ns bs cs fs xs ls c.self.invariant.0 c.self.invariant.2 refl e.0 e.1 e.2 e.3 in
    subst (λ ms. IsLevels ms cs fs (xs ∷ c.args.self)) (sym starts) (subst (λ ks. IsLevels (length bs ∷ ns) cs fs (xs ∷ ks)) c.self.view_is levels)

pub invariant_of-result : goal.invariant_of-result
invariant_of-result c = let levels = added c in (levels.cut, subst (HasSlots c.bind_all.new.slots.entries) (sym levels.names) levels.slots, levels.around)

pub returns : goal.returns
returns c = (added c).names
