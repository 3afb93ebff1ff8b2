-- A point, by the lines that a program holds.
use Rattle.std.specs.Prelude.{ℕ, ◌<◌, ◌≤◌, List, length, slice_index_or}
use Rattle.exact.specs.Sums.{sum_where}
use Rattle.network.specs.declared.Element.{Element}
use Rattle.network.specs.Elements.{comes}
use Rattle.sheet.specs.declared.Line.{Line}
use Rattle.sheet.specs.Lines.{no_line}
use Rattle.flows.specs.declared.Arrivals.{Arrivals}

abbrev pub line_at : List Line → ℕ → Line
line_at ls i = slice_index_or ls i no_line

abbrev pub line_lower : Line → ℕ
line_lower l = l.flow.lower

abbrev pub line_upper : Line → ℕ
line_upper l = l.flow.upper

abbrev pub line_persons : Line → ℕ
line_persons l = l.persons

-- a number of all lines whose elements come to p
abbrev pub arriving : (Line → ℕ) → List Element → List Line → ℕ → ℕ
arriving number es ls p = sum_where (length es) (comes es p) (λ i. number (line_at ls i))

unfoldable pub arrivals_at : List Element → List Line → ℕ → Arrivals
arrivals_at es ls p = record {
  flow = record { lower = arriving line_lower es ls p; upper = arriving line_upper es ls p };
  persons = arriving line_persons es ls p;
}

-- what keeps the sums small: twenty persons a second, and 8,000 persons
pub record SmallLine (l : Line) : Type 0 where
  pub lower : l.flow.lower ≤ 20000000000
  pub upper : l.flow.upper ≤ 20000000000
  pub persons : l.persons ≤ 8000

pub record SmallLines (es : List Element) (ls : List Line) : Type 0 where
  pub few : length es ≤ 128
  pub room : length es ≤ length ls
  pub small : (i : ℕ) → i < length es → SmallLine (line_at ls i)
