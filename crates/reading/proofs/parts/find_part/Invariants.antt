use Rattle.std.proofs.Common.{drop}
use Rattle.walking.specs.Curves.{curve_of}
use Rattle.reading.proofs.Going.{Going}
use Rattle.reading.proofs.parts.find_part.Given as goal

abbrev pub invariant-loop-i : goal.invariant-loop-i
invariant-loop-i g l = let rows = curve_of (g.T.WalkingTables.meaning l.tables) l.curve in Going rows l.before (drop l.i rows) l.quantity
