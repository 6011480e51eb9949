use Rattle.std.proofs.Common.{◌∙◌, ap}
use Rattle.sources.specs.Kept.{KeptView}
use Rattle.sources.proofs.Reading.{names_are}
use Rattle.sources.proofs.sources.Sources.names.Goals as goal

pub returns : goal.returns
returns c =
    ap (λ (k : KeptView). k.names) c.kept.view_is
    ∙ names_are c.self.inside.files c.args.self.now c.self.inside.kept.items c.args.number c.self.view_is c.self.invariant.kept_are c.requires.file c.index-kept.result.now c.index-kept.ensures
