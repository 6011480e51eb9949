use Rattle.std.proofs.Common.{sym, subst, take_all}
use Rattle.loading.specs.Loads.{of_modules}
use Rattle.loading.specs.Modules.{targets_in}
use Rattle.load_graph.specs.Paths.{listed, AreNumbers}
use Rattle.modules.specs.Loading.{AreLinks}
use Rattle.modules.proofs.Doing.{links_more}
use Rattle.modules.proofs.load.links.Goals as goal

pub loop-file-preserved : goal.loop-file-preserved
loop-file-preserved g c =
    let paths = c.args.paths.now in
    record {
      links = links_more paths c.args.files.now c.loop-file.file-index c.loop-file.deps c.push.new.self c.file-item.result c.deref.result.now c.loop-file-test.true c.file-item.is c.loop-file.invariant.links
          (subst (AreNumbers paths (targets_in (of_modules (listed paths) c.file-item.result))) (sym c.deref.ensures.value) c.in_ok-row.ensures) c.in_ok-push.ensures;
    }

pub returns : goal.returns
returns g c = subst (λ fs. AreLinks c.args.paths.now fs c.loop-file.deps) (take_all c.loop-file.file-index c.args.files.now c.loop-file-test.false) c.loop-file.invariant.links
