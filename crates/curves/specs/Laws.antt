-- What reading keeps, for every lawful walking tables.
use Rattle.std.specs.Prelude.{ℕ, ◌+◌, ◌-◌, ◌≤◌, ◌⊎◌}
use Rattle.exact.specs.Fractions.{Fraction, Proper, ◌≤ᶠ◌, whole, plus, floor, ceiling}
use Rattle.exact.specs.Worked.{Worked, Encloses, gap}
use Rattle.walking.specs.Curves.{Tables, curve_of, speed}
use Rattle.walking.specs.Laws.{Lawful}
use Rattle.curves.specs.declared.Column.{Column}
use Rattle.curves.specs.Reading.{values, read, read_across, read_falling}

-- x lies between f and g, whichever is the greater
abbrev pub Amid : Fraction → Fraction → Fraction → Type 0
Amid f x g = ((f ≤ᶠ x) × (x ≤ᶠ g)) ⊎ ((g ≤ᶠ x) × (x ≤ᶠ f))

-- f and g differ by at most d
abbrev pub DifferAtMost : ℕ → Fraction → Fraction → Type 0
DifferAtMost d f g = (f ≤ᶠ plus g (whole d)) × (g ≤ᶠ plus f (whole d))

-- Curve 1 has no row strictly between two whole billionths that are 1 apart at most, so what is read between them lies
-- between the two readings, and these differ by at most 2.
abbrev pub DensityReadsAmid : Type 0
DensityReadsAmid = (t : Tables) → Lawful t → (k : Column) (l u : ℕ) (x : Fraction) → Proper x → whole l ≤ᶠ x → x ≤ᶠ whole u → u ≤ l + 1
    → Amid (read (values k) t.density (whole l)) (read (values k) t.density x) (read (values k) t.density (whole u))
    × DifferAtMost 2 (read (values k) t.density (whole l)) (read (values k) t.density (whole u))

-- so a reading across such an interval encloses the exact one, and rounding leaves its ends 3 apart at most
abbrev pub AcrossEncloses : Type 0
AcrossEncloses = (t : Tables) → Lawful t → (k : Column) (w : Worked) → Encloses w → gap w ≤ 1
    → Encloses (read_across (values k) t.density w) × (gap (read_across (values k) t.density w) ≤ 3)

-- in curves 2 to 4 the speed falls as the specific flow rises, and by no more than it rises
abbrev pub SpeedFalls : Type 0
SpeedFalls = (t : Tables) → Lawful t → (n : ℕ) → 2 ≤ n → (x y : Fraction) → Proper x → Proper y → x ≤ᶠ y
    → read speed (curve_of t n) y ≤ᶠ read speed (curve_of t n) x

abbrev pub SpeedFallsSlowly : Type 0
SpeedFallsSlowly = (t : Tables) → Lawful t → (n : ℕ) → 2 ≤ n → (x y : ℕ) → x ≤ y
    → read speed (curve_of t n) (whole x) ≤ᶠ plus (read speed (curve_of t n) (whole y)) (whole (y - x))

-- so a speed encloses the exact one, and its ends are one further apart than those of the specific flow at most
abbrev pub FallingEncloses : Type 0
FallingEncloses = (t : Tables) → Lawful t → (n : ℕ) → 2 ≤ n → (w : Worked) → Encloses w
    → Encloses (read_falling (curve_of t n) w) × (gap (read_falling (curve_of t n) w) ≤ gap w + 1)

-- every speed lies from a tenth of a metre a second to two, and no flow is above two persons per metre and second
abbrev pub SpeedsInRange : Type 0
SpeedsInRange = (t : Tables) → Lawful t → (n x : ℕ)
    → (100000000 ≤ floor (read speed (curve_of t n) (whole x))) × (ceiling (read speed (curve_of t n) (whole x)) ≤ 2000000000)

abbrev pub ColumnsInRange : Type 0
ColumnsInRange = (t : Tables) → Lawful t → (n : ℕ) (k : Column) (x : ℕ) → ceiling (read (values k) (curve_of t n) (whole x)) ≤ 2000000000
