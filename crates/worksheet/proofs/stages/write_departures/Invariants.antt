use Rattle.std.proofs.Common.{◌≡◌}
use Rattle.exact.specs.Fractions.{Fraction}
use Rattle.exact.specs.Worked.{around}
use Rattle.worksheet.specs.Stages.{laid, departed}
use Rattle.worksheet.proofs.stages.write_departures.Given as goal

abbrev pub invariant-loop-i : goal.invariant-loop-i
invariant-loop-i g l =
    (x : Fraction) → l.sheet ≡ laid (departed (g.T.WalkingTables.meaning l.tables) l.sharing.network.elements.now l.sharing.point (around l.specific_flow x) l.sharing.persons l.initial.sheet) l.i l.initial.sheet
