use Rattle.std.proofs.Common.{length, take, subst, arith}
use Rattle.sheet.specs.Sheet.{sheet}
use Rattle.ways.specs.Walks.{net_of, ranks, FirstMost}
use Rattle.routes.specs.declared.timed.TimedNetwork.{TimedNetwork}
use Rattle.routes.specs.Timed.{timed_net}
use Rattle.routes.proofs.Shown.{Searched, rank_shown, governing_shown, sized, shows, walkable}
use Rattle.routes.proofs.find_governing.Goals as goal

pub slice_bounds-network-end : goal.slice_bounds-network-end
slice_bounds-network-end c = let w = c.requires.worked in sized w.0 c.args.elements.now c.args.lines.now w.1

pub invariant_of-network : goal.invariant_of-network
invariant_of-network c =
    let w = c.requires.worked in
    record {
      sized = sized w.0 c.args.elements.now c.args.lines.now w.1;
      walkable = ∣ walkable w.0 c.args.elements.now c.args.lines.now w.1 c.args.end ∣₁;
    }

pub returns : goal.returns
returns c =
    let w = c.requires.worked in
    let e = c.args.end in
    let es = c.args.elements.now in
    let held = c.args.lines.now in
    let counted = take (length es) held in
    let back = c.find.result.back.walks in
    let onward = c.find.result.onward.walks in
    let g = c.first_most.result.index in
    let x = c.first_most.result.rank in
    let searched : Searched (net_of e es counted) back onward g x = record {
      walkable = walkable w.0 es held w.1 e;
      back = c.find.ensures.back;
      onward = c.find.ensures.onward;
      most = subst (λ (t : TimedNetwork). FirstMost (ranks (timed_net t) back onward) (length t.elements.now) g x) c.find.ensures.network c.first_most.ensures.most;
    } in
    record {
      within = let few = w.1.ready.few in let l = searched.most.within in omega arith;
      rank = λ t v. rank_shown e es (sheet t es) counted (shows t es held v) v.ready back onward g x c.first_most.ensures.some searched;
      index = λ t v. governing_shown e es (sheet t es) counted (shows t es held v) v.ready back onward g x searched;
    }
