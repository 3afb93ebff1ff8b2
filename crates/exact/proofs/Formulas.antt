-- The formulas of the calculation, and how far apart they leave the ends.
use Rattle.std.proofs.Common.{ℕ, ◌+◌, ◌-◌, ◌*◌, ◌/◌, ◌<◌, ◌≤◌, min, ⊎_elim, mul-le-mul_right, mul-le-mul_left, mul-pos, div-mul-le_self, arith}
use native.Mathlib.Nat.{mul-sub, min-le_left, min-le_right, min-eq_left, min-eq_right, lt-div-mul-add}
use Rattle.std.proofs.lemmas.Bool.{cases_lt}
use Rattle.exact.specs.Fractions.{scaled, capped, over}
use Rattle.exact.specs.Worked.{Worked, Encloses, gap, rising, falling}
use Rattle.exact.specs.Laws.{ScaledRises, CappedRises, OverSinks}
use Rattle.exact.proofs.Numbers.{cases_le}
use Rattle.exact.proofs.Rounding.{rising_encloses, falling_encloses}

scaled_le : (k m a b c d : ℕ) → a * d ≤ c * b → a * k * (d * m) ≤ c * k * (b * m)
scaled_le k m a b c d h = omega (arith, mul-le-mul_left (k * m) h)

pub scaled_rises : ScaledRises
scaled_rises k m z = record {
  proper = λ x h. mul-pos h.0 z;
  order = λ x y h l o. scaled_le k m x.num x.den y.num y.den o;
}

capped_le : (k a b c d : ℕ) → a * d ≤ c * b → min a (k * b) * d ≤ min c (k * d) * b
capped_le k a b c d h =
    let l = mul-le-mul_right d (min-le_left a (k * b)) in
    let r = mul-le-mul_right d (min-le_right a (k * b)) in
    ⊎_elim
    (λ (o : c ≤ k * d). rw (min-eq_left o) (omega arith))
    (λ (o : k * d ≤ c). rw (min-eq_right o) (omega arith))
    (cases_le c (k * d))

pub capped_rises : CappedRises
capped_rises k = record {
  proper = λ x h. h.0;
  order = λ x y h l o. capped_le k x.num x.den y.num y.den o;
}

over_le : (k a b c d : ℕ) → a * d ≤ c * b → k * d * a ≤ k * b * c
over_le k a b c d h = omega (arith, mul-le-mul_left k h)

pub over_sinks : OverSinks
over_sinks k = record {
  proper = λ x h. omega (arith, h.0, h.1);
  order = λ x y h l o. over_le k x.num x.den y.num y.den o;
}

pub scaled_encloses : (k m : ℕ) (w : Worked) → 0 < m → Encloses w → Encloses (rising (scaled k m) w)
scaled_encloses k m w z h = rising_encloses 0 (scaled k m) w (scaled_rises k m z) (omega arith) h

pub capped_encloses : (c : ℕ) (w : Worked) → Encloses w → Encloses (rising (λ x. capped x c) w)
capped_encloses c w h = rising_encloses 0 (λ x. capped x c) w (capped_rises c) (omega arith) h

pub over_encloses : (k : ℕ) (w : Worked) → 0 < w.lower → Encloses w → Encloses (falling (over k) w)
over_encloses k w z h = falling_encloses 1 (over k) w (over_sinks k) (omega arith) h

-- k/m of two numbers, over what is known of the two quotients
scaled_apart : (l u k m a b : ℕ) → l * k < a * m + m → b * m < u * k + m → m * (b - a) ≤ k * (u - l) + 2 * m
scaled_apart l u k m a b p q = omega (arith, mul-sub m b a, mul-sub k u l)

no_times : (m x y : ℕ) → m ≤ 0 → m * x ≤ y
no_times m x y h = omega (arith, mul-le-mul_right x h)

pub scaled_gap : (k m : ℕ) (w : Worked) → m * gap (rising (scaled k m) w) ≤ k * gap w + 2 * m
scaled_gap k m w = ⊎_elim
    (λ (z : 0 < m).
    let l = w.lower in
    let u = w.upper in
    let a : ℕ = l * k / (1 * m) in
    let b : ℕ = (u * k + (1 * m - 1)) / (1 * m) in
    let z' : 0 < 1 * m = omega arith in
    let p : l * k < a * (1 * m) + 1 * m = lt-div-mul-add {a = l * k} z' in
    let q : b * (1 * m) ≤ u * k + (1 * m - 1) = div-mul-le_self (u * k + (1 * m - 1)) (1 * m) in
    scaled_apart l u k m a b (omega arith) (omega arith))
    (λ (z : m ≤ 0). no_times m (gap (rising (scaled k m) w)) (k * gap w + 2 * m) z)
    (cases_lt 0 m)

pub capped_gap : (c : ℕ) (w : Worked) → gap (rising (λ x. capped x c) w) ≤ gap w
capped_gap c w = omega arith
