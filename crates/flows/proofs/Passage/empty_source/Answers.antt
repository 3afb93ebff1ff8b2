use Rattle.std.proofs.Common.{rules}
use Rattle.sheet.specs.Sources.{empty_source}
use Rattle.flows.proofs.Shown.{shown_by}
use Rattle.flows.proofs.Passage.empty_source.Goals as goal

pub returns : goal.returns
returns g c =
    let e = c.args.self.now.element.now in
    let l = empty_source (g.T.WalkingTables.meaning c.args.self.now.tables.now) e in
    shown_by e l c.line.result _ c.first_speed.result c.line.ensures (search rules) c.first_speed.ensures
