use Rattle.std.proofs.Common.{◌∙◌, ap, refl}
use Rattle.claims.specs.Leaders.{known_in}
use Rattle.claims.specs.Seen.{parts_of}
use Rattle.claims.proofs.Noted.{known_is}
use Rattle.claims.proofs.leaders.Firsts.known.Goals as goal

pub returns : goal.returns
returns c =
    c.copied.ensures ∙ c.get.ensures.value
    ∙ known_is _ c.args.parts.now (λ j. refl) c.self.inside.places.entries
    ∙ ap (λ es. known_in es (parts_of c.args.parts.now)) c.self.view_is
