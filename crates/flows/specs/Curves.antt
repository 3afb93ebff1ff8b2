-- The curve by which the speed in an element goes, by its number; through a door nobody walks.
use Rattle.std.specs.Prelude.{ℕ, Some, None, Option}
use Rattle.network.specs.declared.Kind.{Kind}
use Rattle.network.specs.declared.Kind.TheVariants.{Corridor, Door, StairDown, StairUp}

-- at a specific flow
abbrev pub walking_curve : Kind → Option ℕ
walking_curve Corridor = Some 2
walking_curve Door = None
walking_curve StairDown = Some 3
walking_curve StairUp = Some 4

-- in a source without persons: a corridor's goes by density
abbrev pub starting_curve : Kind → Option ℕ
starting_curve Corridor = Some 1
starting_curve Door = None
starting_curve StairDown = Some 3
starting_curve StairUp = Some 4
