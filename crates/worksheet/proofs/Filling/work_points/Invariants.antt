use Rattle.std.proofs.Common.{◌≡◌, ◌-◌}
use Rattle.sheet.specs.Sheet.{worked}
use Rattle.worksheet.specs.Stages.{held}
use Rattle.worksheet.proofs.Filling.work_points.Given as goal

abbrev pub invariant-loop-point : goal.invariant-loop-point
invariant-loop-point g l =
    let es = l.self.network.elements.now in
    l.sheet ≡ held es (worked (g.T.WalkingTables.meaning l.self.tables.now) es (l.point - 1)) l.initial.sheet
