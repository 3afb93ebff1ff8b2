-- The part of a curve that a quantity lies in.
use Rattle.std.specs.Prelude.{◌≡◌, ℕ, ◌*◌, ◌<◌, ◌≤◌}
use Rattle.exact.specs.Fractions.{Fraction, whole}
use Rattle.walking.specs.Curves.{Row, Curve, entry, flow, speed}
use Rattle.curves.specs.declared.Column.{Column}
use Rattle.curves.specs.Reading.{values, mega, segment, read}
use Rattle.reading.specs.declared.parts.Part.{Part}
use Rattle.reading.specs.declared.parts.Part.TheVariants.{Between, Past}

abbrev pub read_part : (Row → ℕ) → Part → Fraction → Fraction
read_part col (Between a b) x = segment col a b x
read_part col (Past a) x = whole (col a * mega)

pub record Small (r : Row) : Type 0 where
  pub ends : entry r ≤ 10000
  pub flows : flow r ≤ 2000
  pub speeds : speed r ≤ 2000

pub record Bracketed (a b : Row) (x : ℕ) : Type 0 where
  pub first : Small a
  pub second : Small b
  pub rises : entry a < entry b
  pub reached : entry a * mega ≤ x
  pub within : x ≤ entry b * mega

abbrev pub FitsPart : Part → ℕ → Type 0
FitsPart (Between a b) x = Bracketed a b x
FitsPart (Past a) x = Small a

-- what a curve reads at x, it reads in this part
pub record Found (c : Curve) (x : ℕ) (p : Part) : Type 0 where
  pub same : (k : Column) → read (values k) c (whole x) ≡ read_part (values k) p (whole x)
  pub fits : FitsPart p x
