use Rattle.std.proofs.Common.{rules}
use Rattle.walking.specs.Curves.{curve_of, speed}
use Rattle.curves.specs.Reading.{read}
use Rattle.reading.proofs.curve_readings.read_falling.Goals as goal

pub returns : goal.returns
returns g c = c.falling.ensures (read speed (curve_of (g.T.WalkingTables.meaning c.args.tables.now) c.args.curve)) (search rules)
