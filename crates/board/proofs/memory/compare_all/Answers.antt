use Rattle.std.proofs.Common.{rules, ◌≡◌, ◌<◌, ◌∙◌, sym, ap, subst, length, List, get_or}
use Rattle.once_cell.specs.declared.race.note.Note.{Note}
use Rattle.board.specs.Views.{cells_of, Same}
use Rattle.board.proofs.NoteLists.{one_cell, set_back, agree_more}
use Rattle.board.proofs.memory.compare_all.Goals as goal

pub compare-requires : goal.compare-requires
compare-requires g c =
    let same : cells_of c.loop-i.theirs.items ≡ cells_of c.loop-i.ours.items = ap cells_of c.loop-i.invariant.1 ∙ c.requires ∙ sym (ap cells_of c.loop-i.invariant.0) in
    ap (λ n. n.cell) c.again-copy.ensures.1 ∙ one_cell c.loop-i.ours.items c.loop-i.theirs.items c.loop-i.i c.index_mut-in-loop-i.result.now c.index_mut.result.now same (search rules) c.index_mut-in-loop-i.ensures.value c.index_mut.ensures.value

pub loop-i-preserved : goal.loop-i-preserved
loop-i-preserved g c =
    let N : Type 0 = Note g.row.V.Denot in let i = c.loop-i.i in
    let us : List N = c.args.ours.now.items in let ts : List N = c.args.theirs.now.items in let e : c.loop-i.ours.items ≡ us = c.loop-i.invariant.0 in let f : c.loop-i.theirs.items ≡ ts = c.loop-i.invariant.1 in
    let a : N = c.index_mut-in-loop-i.result.now in let b : N = c.index_mut.result.now in
    let at : a ≡ get_or us i a = c.index_mut-in-loop-i.ensures.value ∙ ap (λ (l : List N). get_or l i a) e in
    let at' : b ≡ get_or ts i b = c.index_mut.ensures.value ∙ ap (λ (l : List N). get_or l i b) f in
    let P : N → Type 0 = λ n. Same a.known n.known in let agree : Same a.known b.known = subst P c.again-copy.ensures.1 c.compare.ensures.1 in
    let lt : i < length us = search rules in (
      set_back c.loop-i.ours.items i a c.compare.new.self c.index_mut-in-loop-i.ensures.value c.compare.ensures.0 ∙ e,
      set_back c.loop-i.theirs.items i b c.again-copy.new.self c.index_mut.ensures.value c.again-copy.ensures.0 ∙ f,
      agree_more us ts i a b c.requires lt at at' agree c.loop-i.invariant.2,
    )
