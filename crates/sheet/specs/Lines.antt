-- A line of the worksheet, worked three ways at once, and what a program holds of it.
use Rattle.std.specs.Prelude.{ℕ, ◌*◌, ◌^◌, ◌<◌, Bool, false, cond, ◌&&◌, List, length, ◌==◌, nat_lt, slice_index_or}
use Rattle.exact.specs.declared.Ends.{Ends}
use Rattle.exact.specs.Fractions.{over}
use Rattle.exact.specs.Worked.{Worked, ends, exactly, falling}
use Rattle.network.specs.declared.Kind.{Kind}
use Rattle.network.specs.declared.Kind.TheVariants.{Corridor, Door, StairDown, StairUp}
use Rattle.network.specs.declared.Element.{Element}
use Rattle.sheet.specs.declared.Line.{Line}

pub record WorkedLine : Type 0 where
  pub persons : ℕ
  pub queue : Bool
  pub flow : Worked
  pub speed : Worked

-- all zeros: what is not worked yet, and what an index past the end reads
abbrev pub idle : WorkedLine
idle = record { persons = 0; queue = false; flow = exactly 0; speed = exactly 0 }

abbrev pub at : List WorkedLine → ℕ → WorkedLine
at ls i = slice_index_or ls i idle

-- element i has persons
abbrev pub Crossed : List Element → List WorkedLine → ℕ → Type 0
Crossed es ls i = (i < length es) × (0 < (at ls i).persons)

-- ---- durations in microseconds; nobody takes no time, and a door has no way to walk

abbrev pub flow_duration : WorkedLine → Worked
flow_duration l = cond (l.persons == 0) (exactly 0) (falling (over (l.persons * 10 ^ 15)) l.flow)

abbrev pub walk : Kind → ℕ → Worked → Worked
walk Corridor len v = falling (over (len * 10 ^ 12)) v
walk Door len v = exactly 0
walk StairDown len v = falling (over (len * 10 ^ 12)) v
walk StairUp len v = falling (over (len * 10 ^ 12)) v

abbrev pub travel : Element → WorkedLine → Worked
travel e l = cond (l.persons == 0) (exactly 0) (walk e.kind e.length l.speed)

-- ---- what a program holds of a line

abbrev pub shown : Element → WorkedLine → Line
shown e l = record {
  persons = l.persons;
  queue = l.queue;
  flow = ends l.flow;
  speed = ends l.speed;
  flow_duration = ends (flow_duration l);
  travel = ends (travel e l);
}

abbrev pub no_ends : Ends
no_ends = record { lower = 0; upper = 0 }

abbrev pub no_line : Line
no_line = record { persons = 0; queue = false; flow = no_ends; speed = no_ends; flow_duration = no_ends; travel = no_ends }

-- a flow with persons in it that is too thin to work with
abbrev pub thin : WorkedLine → Bool
thin l = nat_lt 0 l.persons && nat_lt l.flow.lower 10000000
