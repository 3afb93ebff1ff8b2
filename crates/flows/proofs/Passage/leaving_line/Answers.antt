use Rattle.exact.specs.Worked.{around}
use Rattle.flows.proofs.Leavings.{leaving_by}
use Rattle.flows.proofs.Passage.leaving_line.Goals as goal

pub returns : goal.returns
returns g c x =
    let s = c.args.self.now in
    leaving_by (g.T.WalkingTables.meaning s.tables.now) s.element.now (around c.args.specific_flow x) c.args.persons
    c.line.result c.greatest_flow-greatest.result c.cut_to-taken.result c.flow_through.result c.speed_of.result
    c.greatest_flow-greatest.ensures (c.cut_to-taken.ensures.value x) c.flow_through.ensures c.speed_of.ensures c.line.ensures
