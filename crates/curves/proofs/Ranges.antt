-- A reading stays in the range of its column.
use Rattle.std.proofs.Common.{ℕ, ◌+◌, ◌-◌, ◌*◌, ◌≤◌, List, [], ◌∷◌, mul-le-mul_right, arith}
use Rattle.exact.specs.Fractions.{Fraction, ◌≤ᶠ◌, whole, floor, ceiling}
use Rattle.exact.proofs.Numbers.{times, at_leb}
use Rattle.exact.proofs.Rounding.{floor_ge, ceiling_le}
use Rattle.walking.specs.Curves.{Row, Curve, entry}
use Rattle.walking.specs.Laws.{Each}
use Rattle.walking.specs.Laws.{Onward as EachStep}
use Rattle.curves.specs.Reading.{mega, segment, onward, read}
use Rattle.curves.proofs.Steps.{Rises}
use Rattle.curves.proofs.Segment.{sum_of}
use Rattle.curves.proofs.CurveLaws.{onward_proper}
use Rattle.curves.proofs.Kept.{In, RangedCurve}

segment_least : (m e e' q p v v' : ℕ) → e ≤ e' → e * 1000000 * q ≤ p → p ≤ e' * 1000000 * q → m ≤ v → m ≤ v' → m * 1000000 * (q * (e' - e)) ≤ (v * (e' * 1000000 * q - p) + v' * (p - e * 1000000 * q)) * 1
segment_least m e e' q p v v' g h h' l l' = omega (arith, times m (sum_of e e' q p g h h'), mul-le-mul_right (e' * 1000000 * q - p) l, mul-le-mul_right (p - e * 1000000 * q) l')

segment_most : (m e e' q p v v' : ℕ) → e ≤ e' → e * 1000000 * q ≤ p → p ≤ e' * 1000000 * q → v ≤ m → v' ≤ m → (v * (e' * 1000000 * q - p) + v' * (p - e * 1000000 * q)) * 1 ≤ m * 1000000 * (q * (e' - e))
segment_most m e e' q p v v' g h h' l l' = omega (arith, times m (sum_of e e' q p g h h'), mul-le-mul_right (e' * 1000000 * q - p) l, mul-le-mul_right (p - e * 1000000 * q) l')

module _ (lo hi : ℕ) (col : Row → ℕ) where
  onward_least : (a : Row) (rest : List Row) (x : Fraction) → EachStep Rises a rest → Each (In lo hi col) (a ∷ rest) → entry a * mega * x.den ≤ x.num → whole (lo * mega) ≤ᶠ onward col a rest x
  onward_least a [] x r s h = omega (arith, s.0.0)
  onward_least a (b ∷ rest) x r s h =
      at_leb x.num (entry b * mega * x.den) (segment col a b x) (onward col b rest x) (λ v. whole (lo * mega) ≤ᶠ v)
      (λ k. segment_least lo (entry a) (entry b) x.den x.num (col a) (col b) (omega arith) h k s.0.0 s.1.0.0)
      (λ k. onward_least b rest x r.1 s.1 (omega arith))

  onward_most : (a : Row) (rest : List Row) (x : Fraction) → EachStep Rises a rest → Each (In lo hi col) (a ∷ rest) → entry a * mega * x.den ≤ x.num → onward col a rest x ≤ᶠ whole (hi * mega)
  onward_most a [] x r s h = omega (arith, s.0.1)
  onward_most a (b ∷ rest) x r s h =
      at_leb x.num (entry b * mega * x.den) (segment col a b x) (onward col b rest x) (λ v. v ≤ᶠ whole (hi * mega))
      (λ k. segment_most hi (entry a) (entry b) x.den x.num (col a) (col b) (omega arith) h k s.0.1 s.1.0.1)
      (λ k. onward_most b rest x r.1 s.1 (omega arith))

  -- at a whole number
  pub reading_least : (c : Curve) (n : ℕ) → RangedCurve lo hi col c → lo * mega ≤ floor (read col c (whole n))
  reading_least [] n k = absurd k
  reading_least (a ∷ rest) n k =
      let f = onward col a rest (whole n) in
      floor_ge (lo * mega) f.num f.den (onward_proper col a rest (whole n) k.rises (omega arith)) (onward_least a rest (whole n) k.rises k.within (rw k.zero_first (omega arith)))

  pub reading_most : (c : Curve) (n : ℕ) → RangedCurve lo hi col c → ceiling (read col c (whole n)) ≤ hi * mega
  reading_most [] n k = absurd k
  reading_most (a ∷ rest) n k =
      let f = onward col a rest (whole n) in
      ceiling_le (hi * mega) f.num f.den (onward_proper col a rest (whole n) k.rises (omega arith)) (onward_most a rest (whole n) k.rises k.within (rw k.zero_first (omega arith)))
