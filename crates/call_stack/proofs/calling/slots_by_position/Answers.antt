use Rattle.std.proofs.Common.{◌∙◌, ◌-◌, ◌≤◌, [], ◌++◌, Some, None, length, sym, ap, ap₂, arith}
use Rattle.std.specs.Prelude.{option_map, replicate}
use Rattle.meaning.specs.Entry.{entry}
use Rattle.frames.specs.Answers.{id_seen}
use Rattle.call_stack.specs.Filled.{by_position, fitting, top_of}
use Rattle.call_stack.proofs.Positions.{entry_fits, top_length}
use Rattle.call_stack.proofs.calling.slots_by_position.Goals as goal

pub returns-then-not-fits : goal.returns-then-not-fits
returns-then-not-fits g c =
    let ds = (g.W.Operate.operations c.args.world.now).defaults (id_seen c.args.function) c.args.state.now in
    let n = c.args.code.now.slots in
    let ps = c.params-params.result.now in
    let vs = top_of c.args.count [] c.args.values.now in
    let short : length vs ≤ length ps = omega (arith, top_length c.args.count [] c.args.values.now c.requires.there, ap length c.params-params.ensures, c.requires.few) in
    record {
      fills = sym (ap (λ b. option_map (λ l. l ++ replicate (n - length ps) None) (fitting b c.fill_rest.new.slots)) c.if-not-fits.true)
          ∙ (entry_fits ps n ds vs c.fill_from_top.new.slots c.fill_rest.new.slots c.in_ok-fits.fits short c.in_ok-fill_from_top.ensures.filled c.in_ok-fits.ensures
          ∙ ap (λ xs. entry xs n ds (by_position vs)) c.params-params.ensures);
      left = c.in_ok-fill_from_top.ensures.left;
    }

pub returns : goal.returns
returns g c =
    let ds = (g.W.Operate.operations c.args.world.now).defaults (id_seen c.args.function) c.args.state.now in
    let n = c.slots-2.result in
    let ps = c.params-params.result.now in
    let vs = top_of c.args.count [] c.args.values.now in
    let short : length vs ≤ length ps = omega (arith, top_length c.args.count [] c.args.values.now c.requires.there, ap length c.params-params.ensures, c.requires.few) in
    record {
      fills = ap Some (c.in_ok-pad.ensures ∙ ap (λ m. c.fill_rest.new.slots ++ replicate m None) c.saturating_sub.ensures)
          ∙ (sym (ap (λ b. option_map (λ l. l ++ replicate (n - length ps) None) (fitting b c.fill_rest.new.slots)) c.if-not-fits.false)
          ∙ (entry_fits ps n ds vs c.fill_from_top.new.slots c.fill_rest.new.slots c.in_ok-fits.fits short c.in_ok-fill_from_top.ensures.filled c.in_ok-fits.ensures
          ∙ ap₂ (λ xs m. entry xs m ds (by_position vs)) c.params-params.ensures c.slots-2.ensures));
      left = c.in_ok-fill_from_top.ensures.left;
    }
