use Rattle.std.proofs.Common.{◌+◌, sym, subst, arith, rules}
use Rattle.std.proofs.lemmas.List.{get_or-set_same}
use Rattle.ways.proofs.Arrays.{Known, none_known, next_known}
use Rattle.routes.specs.Timed.{timed_net}
use Rattle.routes.proofs.Standing.{walkable_stands}
use Rattle.routes.proofs.passes.Pass.longest_walks.Goals as goal

pub loop-k-init : goal.loop-k-init
loop-k-init c =
    let w = c.args.self.now.way in
    let n = timed_net c.args.self.now.network in
    subst (Known w n 1) (sym c.new-reach.ensures) (none_known w n)

pub set-requires-clause-low : goal.set-requires-clause-low
set-requires-clause-low c =
    let x = c.longest_at-longest.result in
    let h = c.loop-k.reach.walks in
    let p = c.point-p.result in
    let known =
    next_known c.args.self.now.way (timed_net c.args.self.now.network) (walkable_stands c.args.self.now.network.walkable)
    c.loop-k.k p x h (omega arith) (omega arith) c.point-p.ensures c.loop-k.invariant c.longest_at-longest.ensures in
    let low = known.low p in
    let same = get_or-set_same h p x 0 (search rules) in
    omega arith

pub loop-k-preserved : goal.loop-k-preserved
loop-k-preserved c =
    let w = c.args.self.now.way in
    let n = timed_net c.args.self.now.network in
    subst (Known w n (c.loop-k.k + 1)) (sym c.set.ensures)
    (next_known w n (walkable_stands c.args.self.now.network.walkable) c.loop-k.k c.point-p.result c.longest_at-longest.result c.loop-k.reach.walks
    (omega arith) (omega arith) c.point-p.ensures c.loop-k.invariant c.longest_at-longest.ensures)
