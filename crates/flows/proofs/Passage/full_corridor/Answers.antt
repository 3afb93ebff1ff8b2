use Rattle.network.specs.declared.Kind.TheVariants.{Corridor}
use Rattle.sheet.specs.Sources.{full_source}
use Rattle.flows.proofs.Shown.{shown_by}
use Rattle.flows.proofs.Passage.full_corridor.Goals as goal

pub returns : goal.returns
returns g c =
    let e = c.args.self.now.element.now in
    let l = full_source (g.T.WalkingTables.meaning c.args.self.now.tables.now) Corridor e in
    let f = c.figures-figures in
    shown_by e l c.line.result f.result.flow f.result.speed c.line.ensures f.ensures.flow.value f.ensures.speed.value
