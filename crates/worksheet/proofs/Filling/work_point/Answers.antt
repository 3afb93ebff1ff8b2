use Rattle.std.proofs.Common.{◌-◌, arith}
use Rattle.flows.specs.Points.{SmallLines}
use Rattle.network.proofs.Standing.{ready_stands}
use Rattle.worksheet.proofs.Bounds.{small_lines, arrivals_lower, arrivals_upper, arrivals_few}
use Rattle.worksheet.proofs.Departing.{point_idle, point_by}
use Rattle.worksheet.proofs.Filling.work_point.Goals as goal

pub returns-then-width-eq0 : goal.returns-then-width-eq0
returns-then-width-eq0 g c =
    let s = c.args.self.now in
    point_idle (g.T.WalkingTables.meaning s.tables.now) s.network.elements.now c.args.point c.args.sheet.now c.requires.first c.requires.before (ready_stands s.network.ready)
    (omega (arith, c.width_out-width.ensures, c.if-width-eq0.true))

pub arrivals_at-arrivals-requires : goal.arrivals_at-arrivals-requires
arrivals_at-arrivals-requires g c =
    let s = c.args.self.now in
    small_lines (g.T.WalkingTables.meaning s.tables.now) s.network.elements.now (g.met.T.WalkingTables.lawful s.tables.now) (ready_stands s.network.ready) (c.args.point - 1) c.args.sheet.now (omega (arith, c.requires.last)) c.requires.before

pub specific_flow-specific_flow-requires : goal.specific_flow-specific_flow-requires
specific_flow-specific_flow-requires g c =
    let s = c.args.self.now in
    let es = s.network.elements.now in
    let ls = c.args.sheet.now in
    let came = c.arrivals_at-arrivals in
    let small : SmallLines es ls = small_lines (g.T.WalkingTables.meaning s.tables.now) es (g.met.T.WalkingTables.lawful s.tables.now) (ready_stands s.network.ready) (c.args.point - 1) ls (omega (arith, c.requires.last)) c.requires.before in
    record {
      lower = arrivals_lower es ls c.args.point came.result came.ensures small;
      upper = arrivals_upper es ls c.args.point came.result came.ensures small;
      some = omega arith;
    }

pub invariant_of-sharing : goal.invariant_of-sharing
invariant_of-sharing g c =
    let s = c.args.self.now in
    let came = c.arrivals_at-arrivals in
    record {
      few = arrivals_few s.network.elements.now c.args.sheet.now c.args.point came.result came.ensures (g.T.WalkingTables.meaning s.tables.now) (ready_stands s.network.ready) c.requires.first c.requires.last c.requires.before;
      some = omega arith;
      all = c.width_out-width.ensures;
    }

pub returns : goal.returns
returns g c =
    let s = c.args.self.now in
    let came = c.arrivals_at-arrivals in
    let f = c.specific_flow-specific_flow in
    point_by (g.T.WalkingTables.meaning s.tables.now) s.network.elements.now c.args.point c.args.sheet.now c.requires.first c.requires.before
    c.width_out-width.result came.result f.result c.write_departures.new.sheet c.width_out-width.ensures came.ensures f.ensures c.write_departures.ensures
