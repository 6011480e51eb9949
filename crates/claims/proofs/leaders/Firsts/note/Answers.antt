use Rattle.std.proofs.Common.{◌∙◌, ◌++◌, ◌∷◌, [], ap, refl}
use Rattle.indexmap.proofs.CallerLemmas.{insert_entry-new}
use Rattle.claims.specs.Leaders.{known_in}
use Rattle.claims.specs.Seen.{noted, parts_of}
use Rattle.claims.proofs.Noted.{known_is, noted_more}
use Rattle.claims.proofs.leaders.Firsts.note.Goals as goal

pub returns : goal.returns
returns c =
    let absent = known_is _ c.args.parts (λ j. refl) c.self.inside.places.entries
    ∙ ap (λ es. known_in es (parts_of c.args.parts)) c.self.view_is ∙ c.requires.new in
    ap noted (c.in_ok-insert.ensures.entries ∙ insert_entry-new _ c.self.inside.places c.args.parts c.args.place absent)
    ∙ noted_more c.self.inside.places.entries c.args.parts c.args.place
    ∙ ap (λ es. es ++ (parts_of c.args.parts, c.args.place) ∷ []) c.self.view_is
