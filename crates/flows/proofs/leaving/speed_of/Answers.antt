use Rattle.flows.proofs.Leavings.{speed_by}
use Rattle.flows.proofs.leaving.speed_of.Goals as goal

pub returns-in-Some : goal.returns-in-Some
returns-in-Some g c =
    speed_by (g.T.WalkingTables.meaning c.args.tables.now) c.args.kind c.in-Some.curve c.args.specific_flow c.read_falling.result c.in-Some.ensures c.read_falling.ensures
