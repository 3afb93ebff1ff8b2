-- Reading a curve exactly.
use Rattle.std.specs.Prelude.{ℕ, ◌+◌, ◌-◌, ◌*◌, min, max, cond, [], ◌∷◌, nat_le}
use Rattle.exact.specs.Fractions.{Fraction, whole, floor, ceiling}
use Rattle.exact.specs.Worked.{Worked, falling}
use Rattle.walking.specs.Curves.{Row, Curve, entry, flow, speed}
use Rattle.curves.specs.declared.Column.{Column}
use Rattle.curves.specs.declared.Column.TheVariants.{Flow, Speed}

abbrev pub values : Column → Row → ℕ
values Flow = flow
values Speed = speed

-- billionths in a thousandth
abbrev pub mega : ℕ
mega = 1000000

-- between the rows a and b: the mean of their values, each weighted by how near x is to its row
abbrev pub segment : (Row → ℕ) → Row → Row → Fraction → Fraction
segment col a b x = record {
  num = col a * (entry b * mega * x.den - x.num) + col b * (x.num - entry a * mega * x.den);
  den = x.den * (entry b - entry a);
}

-- from the row a on; past the last row the last row stands
abbrev pub onward : (Row → ℕ) → Row → Curve → Fraction → Fraction
onward col a [] x = whole (col a * mega)
onward col a (b ∷ rest) x = cond (nat_le x.num (entry b * mega * x.den)) (segment col a b x) (onward col b rest x)

-- a column of a curve at a quantity, both in billionths
abbrev pub read : (Row → ℕ) → Curve → Fraction → Fraction
read col [] x = whole 0
read col (a ∷ rest) x = onward col a rest x

-- a reading of curve 1, which may rise and fall: the smaller of both ends rounded down, the greater rounded up
abbrev pub read_across : (Row → ℕ) → Curve → Worked → Worked
read_across col c w = record {
  lower = min (floor (read col c (whole w.lower))) (floor (read col c (whole w.upper)));
  upper = max (ceiling (read col c (whole w.lower))) (ceiling (read col c (whole w.upper)));
  exact = read col c w.exact;
}

-- the speed of curves 2 to 4, which never rises: its lower end at the upper specific flow
abbrev pub read_falling : Curve → Worked → Worked
read_falling c w = falling (read speed c) w
