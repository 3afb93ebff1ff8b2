use Rattle.std.proofs.Common.{◌-◌}
use Rattle.sheet.specs.Sheet.{worked}
use Rattle.worksheet.proofs.Held.{holds_by, points_begin, points_go_on}
use Rattle.worksheet.proofs.Filling.work_points.Goals as goal

pub loop-point-init : goal.loop-point-init
loop-point-init g c = points_begin (g.T.WalkingTables.meaning c.args.self.now.tables.now) c.args.self.now.network.elements.now c.args.sheet.now c.requires

pub work_point-requires-clause-before : goal.work_point-requires-clause-before
work_point-requires-clause-before g c =
    let s = c.args.self.now in
    let es = s.network.elements.now in
    holds_by es (worked (g.T.WalkingTables.meaning s.tables.now) es (c.loop-point.point - 1)) c.args.sheet.now c.loop-point.sheet c.requires.room c.loop-point.invariant

pub loop-point-preserved : goal.loop-point-preserved
loop-point-preserved g c =
    let s = c.args.self.now in
    points_go_on (g.T.WalkingTables.meaning s.tables.now) s.network.elements.now c.args.sheet.now
    c.loop-point.point c.loop-point.sheet c.work_point.new.sheet c.loop-point.invariant c.work_point.ensures
