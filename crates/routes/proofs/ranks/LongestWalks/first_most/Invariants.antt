use Rattle.std.proofs.Common.{◌≡◌, ℕ, ◌<◌, ◌≤◌, length}
use Rattle.ways.specs.Walks.{ranks}
use Rattle.routes.specs.Timed.{timed_net}
use Rattle.routes.proofs.ranks.LongestWalks.first_most.Given as goal

abbrev pub invariant-loop-index : goal.invariant-loop-index
invariant-loop-index l =
    let f = ranks (timed_net l.self.network) l.self.back.walks l.self.onward.walks in
    (0 < l.most.rank → l.most.index < length l.yielded)
    × (0 < l.most.rank → f l.most.index ≡ l.most.rank)
    × ((k : ℕ) → k < length l.yielded → f k ≤ l.most.rank)
    × ((k : ℕ) → k < l.most.index → f k < l.most.rank)
