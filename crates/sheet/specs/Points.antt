-- What comes to a point, and the line of an element that leaves it.
use Rattle.std.specs.Prelude.{ℕ, ◌-◌, ◌*◌, List, length, nat_lt}
use Rattle.exact.specs.Fractions.{scaled, capped}
use Rattle.exact.specs.Sums.{sum_where}
use Rattle.exact.specs.Worked.{Worked, exactly, rising, total}
use Rattle.walking.specs.Curves.{Curve, Tables, entry, row_at}
use Rattle.curves.specs.Reading.{mega, read_falling}
use Rattle.reading.specs.Sources.{through}
use Rattle.network.specs.declared.Kind.{Kind}
use Rattle.network.specs.declared.Kind.TheVariants.{Corridor, Door, StairDown, StairUp}
use Rattle.network.specs.declared.Element.{Element}
use Rattle.network.specs.Elements.{comes}
use Rattle.sheet.specs.Lines.{WorkedLine, at}
use Rattle.sheet.specs.Shares.{width_out}

-- the persons of all that come to p
unfoldable pub persons_in : List Element → List WorkedLine → ℕ → ℕ
persons_in es ls p = sum_where (length es) (comes es p) (λ i. (at ls i).persons)

-- the flows of all that come to p
unfoldable pub flows_in : List Element → List WorkedLine → ℕ → Worked
flows_in es ls p = total (length es) (comes es p) (λ i. (at ls i).flow)

-- the specific flow in: those flows over the width of all that leaves
unfoldable pub specific_flow_in : List Element → List WorkedLine → ℕ → Worked
specific_flow_in es ls p = rising (scaled 1000 (width_out es p)) (flows_in es ls p)

abbrev pub last_entry : Curve → ℕ
last_entry c = entry (row_at c (length c - 1))

-- the greatest specific flow of a kind, in billionths
abbrev pub most : Tables → Kind → ℕ
most t Corridor = last_entry t.corridor * mega
most t Door = t.door * mega
most t StairDown = last_entry t.down * mega
most t StairUp = last_entry t.up * mega

-- the speed of a kind at a specific flow; a door has none
abbrev pub speed_at : Tables → Kind → Worked → Worked
speed_at t Corridor s = read_falling t.corridor s
speed_at t Door s = exactly 0
speed_at t StairDown s = read_falling t.down s
speed_at t StairUp s = read_falling t.up s

abbrev pub cut : ℕ → Worked → Worked
cut c s = rising (λ x. capped x c) s

-- the line of an element with n persons, where the specific flow in is s: cut to the most of its kind, which means a queue
unfoldable pub leaving : Tables → Element → Worked → ℕ → WorkedLine
leaving t e s n = record {
  persons = n;
  queue = nat_lt (most t e.kind) s.upper;
  flow = through e.width (cut (most t e.kind) s);
  speed = speed_at t e.kind (cut (most t e.kind) s);
}
