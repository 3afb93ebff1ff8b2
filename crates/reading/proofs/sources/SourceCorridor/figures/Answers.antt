use Rattle.curves.specs.declared.Column.TheVariants.{Flow, Speed}
use Rattle.reading.specs.declared.sources.SourceCorridor.{SourceCorridor}
use Rattle.reading.specs.Sources.{SourceRanges}
use Rattle.reading.proofs.Figures.{density_encloses, column_gives, specific_flow_small, flow_gives}
use Rattle.reading.proofs.sources.SourceCorridor.figures.Goals as goal

in_range : (s : SourceCorridor) → SourceRanges s.persons s.width s.length
in_range s = record { persons = s.few; width = s.wide; length = s.long }

pub flow_through-flow-requires : goal.flow_through-flow-requires
flow_through-flow-requires g c =
    let t = g.T.WalkingTables.meaning c.args.tables.now in
    let lawful = g.met.T.WalkingTables.lawful c.args.tables.now in
    let s = c.args.self.now in
    let f = column_gives t lawful s.persons s.width s.length (in_range s) Flow c.density-density.result c.read_across-specific_flow.result c.density-density.ensures c.read_across-specific_flow.ensures in
    let k = specific_flow_small t lawful s.persons s.width s.length (in_range s) c.read_across-specific_flow.result f.value in
    record { lower = k.0; upper = k.1 }

pub returns : goal.returns
returns g c =
    let t = g.T.WalkingTables.meaning c.args.tables.now in
    let lawful = g.met.T.WalkingTables.lawful c.args.tables.now in
    let s = c.args.self.now in
    let f = column_gives t lawful s.persons s.width s.length (in_range s) Flow c.density-density.result c.read_across-specific_flow.result c.density-density.ensures c.read_across-specific_flow.ensures in
    let d = density_encloses t lawful s.persons s.width s.length (in_range s) in
    record {
      density = record { value = c.density-density.ensures; encloses = d.0; near = d.1 };
      specific_flow = f;
      flow = flow_gives t lawful s.persons s.width s.length (in_range s) c.read_across-specific_flow.result c.flow_through-flow.result f.value c.flow_through-flow.ensures;
      speed = column_gives t lawful s.persons s.width s.length (in_range s) Speed c.density-density.result c.read_across-speed.result c.density-density.ensures c.read_across-speed.ensures;
    }
