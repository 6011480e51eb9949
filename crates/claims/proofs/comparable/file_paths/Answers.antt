use Rattle.std.proofs.Common.{◌∙◌, ap}
use Rattle.depsets.specs.declared.element.FileRef.{FileRef}
use Rattle.claims.specs.Same.{path_of}
use Rattle.claims.proofs.Turns.{map-next}
use Rattle.claims.proofs.comparable.file_paths.Goals as goal

pub loop-file-preserved : goal.loop-file-preserved
loop-file-preserved c =
    map-next path_of c.args.files.now c.loop-file.file-index c.file-item.result c.in_ok-share.field-0 c.loop-file.paths.items c.push.new.self.items c.loop-file-test.true
    c.file-item.is c.loop-file.invariant c.in_ok-push.ensures.items (c.in_ok-share.ensures ∙ c.text.ensures ∙ ap (λ (f : FileRef). f.path) c.get.ensures)
