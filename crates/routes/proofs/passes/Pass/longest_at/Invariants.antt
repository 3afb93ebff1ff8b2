use Rattle.std.proofs.Common.{◌≡◌, length}
use Rattle.ways.specs.Walks.{gains, most_below}
use Rattle.routes.specs.Timed.{timed_net}
use Rattle.routes.proofs.passes.Pass.longest_at.Given as goal

abbrev pub invariant-loop-element : goal.invariant-loop-element
invariant-loop-element l = l.longest ≡ most_below (gains l.self.way (timed_net l.self.network) l.reach.walks l.p) (length l.yielded)
