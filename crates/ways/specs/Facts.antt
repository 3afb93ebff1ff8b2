-- What the worksheet of a network keeps, as far as routes and their times go.
use Rattle.std.specs.Prelude.{◌≡◌, ℕ, ◌+◌, ◌*◌, ◌<◌, ◌≤◌, List, length}
use Rattle.exact.specs.Worked.{Worked, Encloses}
use Rattle.network.specs.declared.Element.{Element}
use Rattle.network.specs.Elements.{el}
use Rattle.sheet.specs.Lines.{WorkedLine, at}
use Rattle.ways.specs.Routes.{Crossed, duration_of, travel_of}

-- the ends of a duration in a network of e elements: 31 e ten-millionths of the lower and 3 microseconds apart at most
abbrev pub Near : ℕ → Worked → Type 0
Near e d = 10000000 * d.upper ≤ 10000000 * d.lower + 31 * e * d.lower + 30000000

-- ls is the worksheet of es
pub record Facts (es : List Element) (ls : List WorkedLine) : Type 0 where
  pub size : length ls ≡ length es
  -- someone is on the way, whoever comes to a point leaves it, and whoever leaves it has come
  pub some : (i : ℕ) × Crossed es ls i
  pub goes : (i : ℕ) → Crossed es ls i → 0 < (el es i).to → (j : ℕ) × Crossed es ls j × ((el es j).from ≡ (el es i).to)
  pub came : (i : ℕ) → Crossed es ls i → 0 < (el es i).from → (j : ℕ) × Crossed es ls j × ((el es j).to ≡ (el es i).from)
  -- nowhere are more than 8,000 persons, and no flow with persons in it is thin
  pub few : (i : ℕ) → Crossed es ls i → (at ls i).persons ≤ 8000
  pub steady : (i : ℕ) → Crossed es ls i → 10000000 ≤ (at ls i).flow.lower
  -- flow durations and travels lie between their ends, which are near
  pub durations : (i : ℕ) → Crossed es ls i → Encloses (duration_of ls i) × Near (length es) (duration_of ls i)
  pub travels : (i : ℕ) → Crossed es ls i → Encloses (travel_of es ls i) × Near (length es) (travel_of es ls i)
