use Rattle.ways.proofs.Arrays.{Known}
use Rattle.routes.specs.Timed.{timed_net}
use Rattle.routes.proofs.passes.Pass.longest_walks.Given as goal

abbrev pub invariant-loop-k : goal.invariant-loop-k
invariant-loop-k l = Known l.self.way (timed_net l.self.network) l.k l.reach.walks
