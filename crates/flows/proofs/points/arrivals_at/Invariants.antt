use Rattle.std.proofs.Common.{length}
use Rattle.flows.proofs.Arriving.{SoFar}
use Rattle.flows.proofs.points.arrivals_at.Given as goal

abbrev pub invariant-loop-element : goal.invariant-loop-element
invariant-loop-element l = SoFar l.elements l.sheet l.point (length l.yielded) l.lower l.upper l.persons
