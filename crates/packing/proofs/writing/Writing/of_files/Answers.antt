use Rattle.std.proofs.Common.{◌≡◌, ◌∙◌, ◌+◌, ap, refl, sym, Err}
use Rattle.packing.specs.Writing.{Stops}
use Rattle.packing.specs.declared.writing.WriteStop.{WriteStop}
use Rattle.packing.specs.declared.writing.WriteStop.TheVariants as stop
use Rattle.packing.proofs.WritingLemmas.{too_much, written-all, written-next, written-none, at_head}
use Rattle.packing.proofs.writing.Writing.of_files.Goals as goal

pub loop-path-init : goal.loop-path-init
loop-path-init g c =
    let gives = c.into_iter-path-iterator.ensures.into_iter_gives in (
      tt,
      tt,
      gives.4,
      (
        0,
        gives.0,
        written-none (g.F.Folder.at c.args.folder.now) c.args.left.items c.in-Ok.writing c.in-Ok.ensures.input
            (ap (λ l. l.items) c.in-Ok.ensures.left) c.requires.causes c.in-Ok.ensures.counted,
      ),
    )

pub loop-path-preserved : goal.loop-path-preserved
loop-path-preserved g c =
    let kept = c.loop-path.invariant in
    let i = kept.3.0 in
    let next = sym c.in-Some.ensures.steps ∙ kept.3.1 in (
      tt,
      tt,
      kept.2,
      (
        i + 1,
        (at_head c.args.files.now.keys c.next.new.self i c.in-Some.path.now next).2,
        written-next (g.F.Folder.at c.args.folder.now) c.args.files.now.keys c.next.new.self i c.in-Some.path.now c.args.left.items c.loop-path.writing
            c.in-Ok-with_file.writing kept.2 next kept.3.2 c.in-Ok-with_file.ensures.takes,
      ),
    )

pub returns-clause-written : goal.returns-clause-written
returns-clause-written g c =
    let kept = c.loop-path.invariant in
    written-all (g.F.Folder.at c.args.folder.now) c.args.files.now.keys kept.3.0 c.args.left.items c.loop-path.writing (sym c.in-None.ensures.steps.0 ∙ kept.3.1) kept.3.2

pub returns-in-Err-clause-stops : goal.returns-in-Err-clause-stops
returns-in-Err-clause-stops g c = go c.in-Err.stop refl
  where
    go : (s : WriteStop) → c.in-Err.stop ≡ s → Stops (g.F.Folder.at c.args.folder.now) c.args.files.now.keys s
    go stop.NoMemory is = tt
    go stop.TooLong is =
        too_much (g.F.Folder.at c.args.folder.now) c.args.files.now.keys c.next.new.self c.loop-path.invariant.3.0 c.in-Some.path.now c.args.left.items c.loop-path.writing
        c.loop-path.invariant.2 (sym c.in-Some.ensures.steps ∙ c.loop-path.invariant.3.1) c.loop-path.invariant.3.2
        (c.in-Err.ensures.long (ap (λ e. Err e) is))
