use Rattle.std.proofs.Common.{rules}
use Rattle.exact.specs.Fractions.{over}
use Rattle.flows.proofs.lines.time_between.Goals as goal

pub returns : goal.returns
returns c = c.falling.ensures (over c.args.amount) (search rules)
