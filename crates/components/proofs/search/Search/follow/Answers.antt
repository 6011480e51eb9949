use Rattle.std.proofs.Common.{◌≡◌, ◌≤◌, arith, sym, ◌∙◌, subst}
use Rattle.components.specs.Search.{IsSearch}
use Rattle.components.specs.Turns.{work_of}
use Rattle.components.proofs.Meeting.{met_keeps}
use Rattle.components.proofs.Following.{led_to, joined_keeps, from_inside}
use Rattle.components.proofs.Work.{met_work}
use Rattle.components.proofs.search.Search.follow.Goals as goal

pub returns-in_ok-meet-in-Unmet-clause-search : goal.returns-in_ok-meet-in-Unmet-clause-search
returns-in_ok-meet-in-Unmet-clause-search c =
    let fresh = sym c.place.ensures ∙ c.in-Unmet.is in
    let inside = from_inside c.args.deps.now c.requires.inside c.args.self.now c.args.d c.requires.from in
    let led = led_to c.args.deps.now c.args.self.now c.args.d c.requires.search c.requires.from in
    subst (IsSearch c.args.deps.now) (sym c.in_ok-meet-in-Unmet.ensures)
    (met_keeps c.args.deps.now c.args.self.now c.args.d (λ x. x ≡ c.args.d) c.requires.search fresh inside led (λ x is. is))

pub returns-in_ok-meet-in-Unmet-clause-work : goal.returns-in_ok-meet-in-Unmet-clause-work
returns-in_ok-meet-in-Unmet-clause-work c =
    let fresh = sym c.place.ensures ∙ c.in-Unmet.is in
    let inside = from_inside c.args.deps.now c.requires.inside c.args.self.now c.args.d c.requires.from in
    let size = c.requires.search.size in
    let less = met_work c.args.deps.now c.args.self.now c.args.d inside (omega (arith, inside, size)) fresh in
    subst (λ v. work_of c.args.deps.now v ≤ work_of c.args.deps.now c.args.self.now) (sym c.in_ok-meet-in-Unmet.ensures) (omega (arith, less))

pub returns-in-Open-clause-search : goal.returns-in-Open-clause-search
returns-in-Open-clause-search c =
    joined_keeps c.args.deps.now c.args.self.now c.args.d c.requires.search c.in-Open.place (sym c.place.ensures ∙ c.in-Open.is) c.requires.from c.join.new.self c.join.ensures
