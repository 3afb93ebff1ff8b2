use Rattle.std.proofs.Common.{ap, ◌∙◌}
use Rattle.exact.specs.Worked.{ends, around}
use Rattle.flows.proofs.Shown.{walked}
use Rattle.flows.proofs.lines.walk_time.Goals as goal

pub returns-in-Corridor : goal.returns-in-Corridor
returns-in-Corridor c x = c.time_between.ensures x ∙ ap ends (walked c.args.kind c.args.length (around c.args.speed x) c.in-Corridor.is)
