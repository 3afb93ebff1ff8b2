use Rattle.flows.proofs.Shown.{source_empty, source_full}
use Rattle.flows.proofs.Passage.source_line.Goals as goal

pub returns-then-self-eq0 : goal.returns-then-self-eq0
returns-then-self-eq0 g c =
    source_empty (g.T.WalkingTables.meaning c.args.self.now.tables.now) c.args.self.now.element.now c.empty_source.result c.if-self-eq0.true c.empty_source.ensures

pub returns-else-self-eq0 : goal.returns-else-self-eq0
returns-else-self-eq0 g c =
    source_full (g.T.WalkingTables.meaning c.args.self.now.tables.now) c.args.self.now.element.now c.full_source.result c.if-self-eq0.false c.full_source.ensures
