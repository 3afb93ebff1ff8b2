-- What the worksheet keeps, for every lawful walking tables and every ready network.
use Rattle.std.specs.Prelude.{◌≡◌, ℕ, ◌+◌, ◌*◌, ◌<◌, ◌≤◌, List, length, ◌≢◌}
use Rattle.exact.specs.Sums.{sum_where}
use Rattle.exact.specs.Worked.{Worked, Encloses, gap}
use Rattle.walking.specs.Curves.{Tables}
use Rattle.walking.specs.Laws.{Lawful}
use Rattle.network.specs.declared.Kind.TheVariants.{Door}
use Rattle.network.specs.declared.Element.{Element}
use Rattle.network.specs.Elements.{el, comes, leaves, aboard}
use Rattle.network.specs.Ready.{Ready}
use Rattle.sheet.specs.Lines.{WorkedLine, Crossed, at, flow_duration, travel}
use Rattle.sheet.specs.Sources.{source}
use Rattle.sheet.specs.Shares.{width_out, share}
use Rattle.sheet.specs.Points.{persons_in, specific_flow_in, leaving}
use Rattle.sheet.specs.Sheet.{worked, sheet, first_thin}

-- ---- persons

-- the shares at a point add up to the persons who came, wherever there is a way out
abbrev pub SharesAddUp : Type 0
SharesAddUp = (es : List Element) (p n : ℕ) → 0 < width_out es p → sum_where (length es) (leaves es p) (share es p n) ≡ n

-- what leaves a point is what came to it
abbrev pub OutIsIn : Type 0
OutIsIn = (t : Tables) (es : List Element) → Ready es → (p : ℕ) → 1 ≤ p → p ≤ 64
    → sum_where (length es) (leaves es p) (λ i. (at (sheet t es) i).persons) ≡ sum_where (length es) (comes es p) (λ i. (at (sheet t es) i).persons)

-- everyone comes to the station
abbrev pub EveryoneArrives : Type 0
EveryoneArrives = (t : Tables) (es : List Element) → Ready es → sum_where (length es) (comes es 0) (λ i. (at (sheet t es) i).persons) ≡ aboard es

-- nowhere are more persons than aboard, at any stage
abbrev pub PersonsBounded : Type 0
PersonsBounded = (t : Tables) (es : List Element) → Ready es → (p i : ℕ) → p ≤ 64 → (at (worked t es p) i).persons ≤ aboard es

abbrev pub ArrivalsBounded : Type 0
ArrivalsBounded = (t : Tables) (es : List Element) → Ready es → (p : ℕ) → p < 64 → persons_in es (worked t es p) (p + 1) ≤ aboard es

-- where persons pass, some came and some go on, and somebody is somewhere
abbrev pub GoesOn : Type 0
GoesOn = (t : Tables) (es : List Element) → Ready es → (i : ℕ) → Crossed es (sheet t es) i → 0 < (el es i).to
    → (j : ℕ) × Crossed es (sheet t es) j × ((el es j).from ≡ (el es i).to)

abbrev pub CameOn : Type 0
CameOn = (t : Tables) (es : List Element) → Ready es → (i : ℕ) → Crossed es (sheet t es) i → 0 < (el es i).from
    → (j : ℕ) × Crossed es (sheet t es) j × ((el es j).to ≡ (el es i).from)

abbrev pub SomeCross : Type 0
SomeCross = (t : Tables) (es : List Element) → Ready es → (i : ℕ) × Crossed es (sheet t es) i

-- ---- every line, from the point on at which it is worked

-- its exact flow and speed lie between the ends
abbrev pub FlowsEnclose : Type 0
FlowsEnclose = (t : Tables) (es : List Element) → Lawful t → Ready es → (p i : ℕ) → i < length es → (el es i).from ≤ p
    → Encloses (at (worked t es p) i).flow

abbrev pub SpeedsEnclose : Type 0
SpeedsEnclose = (t : Tables) (es : List Element) → Lawful t → Ready es → (p i : ℕ) → i < length es → (el es i).from ≤ p
    → Encloses (at (worked t es p) i).speed

-- which are near, for so many elements
abbrev pub FlowsNear : Type 0
FlowsNear = (t : Tables) (es : List Element) → Lawful t → Ready es → (p i : ℕ) → i < length es → (el es i).from ≤ p
    → gap (at (worked t es p) i).flow ≤ 31 * length es

abbrev pub SpeedsNear : Type 0
SpeedsNear = (t : Tables) (es : List Element) → Lawful t → Ready es → (p i : ℕ) → i < length es → (el es i).from ≤ p
    → gap (at (worked t es p) i).speed ≤ 62 * length es

-- but for doors, which have none, speeds lie from a tenth of a metre a second to two
abbrev pub SpeedsInRange : Type 0
SpeedsInRange = (t : Tables) (es : List Element) → Lawful t → Ready es → (p i : ℕ) → i < length es → (el es i).from ≤ p → ((el es i).kind ≢ Door)
    → (100000000 ≤ (at (worked t es p) i).speed.lower) × ((at (worked t es p) i).speed.upper ≤ 2000000000)

-- no flow is above twenty persons a second, at any stage
abbrev pub FlowsInRange : Type 0
FlowsInRange = (t : Tables) (es : List Element) → Lawful t → Ready es → (p i : ℕ) → (at (worked t es p) i).flow.upper ≤ 20000000000

-- Where no flow is thin, the exact durations lie between their ends, which are 31 ten-millionths of the lower for each
-- element and 3 microseconds apart at most.
abbrev pub Near : ℕ → Worked → Type 0
Near e d = 10000000 * d.upper ≤ 10000000 * d.lower + 31 * e * d.lower + 30000000

abbrev pub FlowDurationsNear : Type 0
FlowDurationsNear = (t : Tables) (es : List Element) → Lawful t → Ready es → first_thin (sheet t es) 0 ≡ 0 → (i : ℕ) → Crossed es (sheet t es) i
    → Encloses (flow_duration (at (sheet t es) i)) × Near (length es) (flow_duration (at (sheet t es) i))

abbrev pub TravelsNear : Type 0
TravelsNear = (t : Tables) (es : List Element) → Lawful t → Ready es → first_thin (sheet t es) 0 ≡ 0 → (i : ℕ) → Crossed es (sheet t es) i
    → Encloses (travel (el es i) (at (sheet t es) i)) × Near (length es) (travel (el es i) (at (sheet t es) i))

-- ---- the worksheet in words: a source's line is what the tables give it, and every other line is what the lines that
-- arrive at its point give it; the worksheet keeps this, and nothing else does

pub record IsWorksheet (t : Tables) (es : List Element) (ls : List WorkedLine) : Type 0 where
  pub size : length ls ≡ length es
  pub sources : (i : ℕ) → i < length es → (el es i).from ≡ 0 → at ls i ≡ source t (el es i)
  pub others : (i : ℕ) → i < length es → 0 < (el es i).from
      → at ls i ≡ leaving t (el es i) (specific_flow_in es ls (el es i).from) (share es (el es i).from (persons_in es ls (el es i).from) i)

abbrev pub SheetIsWorksheet : Type 0
SheetIsWorksheet = (t : Tables) (es : List Element) → Ready es → IsWorksheet t es (sheet t es)

abbrev pub OnlyWorksheet : Type 0
OnlyWorksheet = (t : Tables) (es : List Element) → Ready es → (ls : List WorkedLine) → IsWorksheet t es ls → ls ≡ sheet t es
