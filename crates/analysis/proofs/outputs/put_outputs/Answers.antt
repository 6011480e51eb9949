use Rattle.std.proofs.Common.{◌∙◌, ap}
use Rattle.depsets.specs.declared.element.FileRef.{FileRef}
use Rattle.analysis.proofs.Making.{more_none, more_step}
use Rattle.analysis.proofs.outputs.put_outputs.Goals as goal

pub loop-file-init : goal.loop-file-init
loop-file-init c = more_none c.args.made.now

pub loop-file-preserved : goal.loop-file-preserved
loop-file-preserved c =
    more_step c.args.files.now c.loop-file.file-index c.file-item.result c.args.made.now c.loop-file.made c.insert.new.self c.as_str.result c.loop-file-test.true
    (c.as_str.ensures ∙ ap (λ (f : FileRef). f.path) (c.get.ensures ∙ c.file-item.is)) c.loop-file.invariant c.in_ok-insert.ensures.updates
