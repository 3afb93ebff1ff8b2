use Rattle.std.proofs.Common.{◌≡◌}
use Rattle.sheet.specs.Sheet.{worked}
use Rattle.worksheet.specs.Stages.{laid, shown_at}
use Rattle.worksheet.proofs.Filling.fill.Given as goal

abbrev pub invariant-loop-i : goal.invariant-loop-i
invariant-loop-i g l =
    let es = l.self.network.elements.now in
    l.sheet ≡ laid (shown_at es (worked (g.T.WalkingTables.meaning l.self.tables.now) es 0)) l.i l.initial.sheet
