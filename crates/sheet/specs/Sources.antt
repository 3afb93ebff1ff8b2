-- The lines of the sources.
use Rattle.std.specs.Prelude.{◌*◌, false, cond, ◌==◌}
use Rattle.exact.specs.Worked.{Worked, exactly}
use Rattle.walking.specs.Curves.{Curve, Tables, speed, row_at}
use Rattle.curves.specs.Reading.{mega}
use Rattle.reading.specs.Sources.{through, source_flow, source_speed}
use Rattle.network.specs.declared.Kind.{Kind}
use Rattle.network.specs.declared.Kind.TheVariants.{Corridor, Door, StairDown, StairUp}
use Rattle.network.specs.declared.Element.{Element}
use Rattle.sheet.specs.Lines.{WorkedLine}

-- the speed of row 0 of a curve
abbrev pub row_speed : Curve → Worked
row_speed c = exactly (speed (row_at c 0) * mega)

-- the speed of a source without persons: a corridor's curve is by density, and a door has no speed
abbrev pub first_speed : Tables → Kind → Worked
first_speed t Corridor = row_speed t.density
first_speed t Door = exactly 0
first_speed t StairDown = row_speed t.down
first_speed t StairUp = row_speed t.up

abbrev pub empty_source : Tables → Element → WorkedLine
empty_source t e = record { persons = 0; queue = false; flow = exactly 0; speed = first_speed t e.kind }

-- a source with persons: a corridor by its density, a door with the door flow; in a stair nobody starts
abbrev pub full_source : Tables → Kind → Element → WorkedLine
full_source t Corridor e = record {
  persons = e.persons;
  queue = false;
  flow = source_flow t e.persons e.width e.length;
  speed = source_speed t e.persons e.width e.length;
}
full_source t Door e = record { persons = e.persons; queue = false; flow = through e.width (exactly (t.door * mega)); speed = exactly 0 }
full_source t StairDown e = empty_source t e
full_source t StairUp e = empty_source t e

unfoldable pub source : Tables → Element → WorkedLine
source t e = cond (e.persons == 0) (empty_source t e) (full_source t e.kind e)
