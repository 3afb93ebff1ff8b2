-- What walking tables mean: four curves and a door flow.
use Rattle.std.specs.Prelude.{ℕ, ◌-◌, min, max, cond, List, length, ◌==◌, slice_index_or}

-- a row of a curve: entry, flow and speed, in thousandths
abbrev pub Row : Type 0
Row = ℕ × ℕ × ℕ

abbrev pub entry : Row → ℕ
entry r = r.0

abbrev pub flow : Row → ℕ
flow r = r.1

abbrev pub speed : Row → ℕ
speed r = r.2

abbrev pub Curve : Type 0
Curve = List Row

-- Curve 1 by density, in persons per square metre; curves 2 to 4, for corridors, stairs down and stairs up,
-- by specific flow, in persons per metre and second. The door flow is a specific flow too.
pub record Tables : Type 0 where
  pub density : Curve
  pub corridor : Curve
  pub down : Curve
  pub up : Curve
  pub door : ℕ

-- the number of lo to hi that is nearest to x
abbrev pub nearest : ℕ → ℕ → ℕ → ℕ
nearest lo hi x = max lo (min x hi)

-- curves 1 to 4
abbrev pub curve_numbered : Tables → ℕ → Curve
curve_numbered t n = cond (n == 1) t.density (cond (n == 2) t.corridor (cond (n == 3) t.down t.up))

-- the curve of any number
abbrev pub curve_of : Tables → ℕ → Curve
curve_of t n = curve_numbered t (nearest 1 4 n)

abbrev pub row_at : Curve → ℕ → Row
row_at c i = slice_index_or c i (0, 0, 0)

-- the row of any number, counted from 0
abbrev pub row_of : Tables → ℕ → ℕ → Row
row_of t n i = row_at (curve_of t n) (nearest 0 (length (curve_of t n) - 1) i)
