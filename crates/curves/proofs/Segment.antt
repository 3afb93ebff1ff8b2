-- The weighted mean between two rows, over plain numbers.
use Rattle.std.proofs.Common.{◌≡◌, ℕ, ◌+◌, ◌-◌, ◌*◌, ◌≤◌, mul-le-mul_right, mul-le-mul, mul-le-mul_left, arith}
use native.Mathlib.Nat.{mul-sub}
use Rattle.exact.proofs.Numbers.{times}

-- A segment from (e, v) to (e', v') at p/q: u' and u are what is left and what is passed, over q.
-- (v * u' + v' * u) / (q * (e' - e)), with u + u' = (e' - e) * 10^6 * q

pub sum_of : (e e' q p : ℕ) → e ≤ e' → e * 1000000 * q ≤ p → p ≤ e' * 1000000 * q → (e' * 1000000 * q - p) + (p - e * 1000000 * q) ≡ (e' - e) * 1000000 * q
sum_of e e' q p h k l = omega (arith, mul-sub q e' e, mul-le-mul_left q h)

-- p/q ≤ r/s, seen from an end b that neither passes
pub cross_left : (b p q r s u w : ℕ) → u + p ≡ b * q → w + r ≡ b * s → p * s ≤ r * q → w * q ≤ u * s
cross_left b p q r s u w e f h = omega (arith, times s e, times q f)

-- a falling segment: v = v' + f
falls : (v' f u u' w w' q s d : ℕ) → (u' + u) * s ≡ (w' + w) * q → w' * q ≤ u' * s → ((v' + f) * w' + v' * w) * (q * d) ≤ ((v' + f) * u' + v' * u) * (s * d)
falls v' f u u' w w' q s d e h = omega (arith, times (v' * d) e, mul-le-mul_left (f * d) h)

rises : (v f u u' w w' q s d : ℕ) → (u' + u) * s ≡ (w' + w) * q → w' * q ≤ u' * s → (v * u' + (v + f) * u) * (s * d) ≤ (v * w' + (v + f) * w) * (q * d)
rises v f u u' w w' q s d e h = omega (arith, times (v * d) e, times (f * d) e, mul-le-mul_left (f * d) h)

module _ (e e' q p s r : ℕ) (g : e ≤ e') (h : e * 1000000 * q ≤ p) (h' : p ≤ e' * 1000000 * q) (k : e * 1000000 * s ≤ r) (k' : r ≤ e' * 1000000 * s) (o : p * s ≤ r * q) where
  same_sum : ((e' * 1000000 * q - p) + (p - e * 1000000 * q)) * s ≡ ((e' * 1000000 * s - r) + (r - e * 1000000 * s)) * q
  same_sum = rw (sum_of e e' q p g h h', sum_of e e' s r g k k') (omega arith)

  left_of : (e' * 1000000 * s - r) * q ≤ (e' * 1000000 * q - p) * s
  left_of = cross_left (e' * 1000000) p q r s (e' * 1000000 * q - p) (e' * 1000000 * s - r) (omega arith) (omega arith) o

  pub segment_falls : (v v' : ℕ) → v' ≤ v → (v * (e' * 1000000 * s - r) + v' * (r - e * 1000000 * s)) * (q * (e' - e)) ≤ (v * (e' * 1000000 * q - p) + v' * (p - e * 1000000 * q)) * (s * (e' - e))
  segment_falls v v' l =
      let x : v ≡ v' + (v - v') = omega arith in
      rw x (falls v' (v - v') _ _ _ _ q s (e' - e) same_sum left_of)

  pub segment_rises : (v v' : ℕ) → v ≤ v' → (v * (e' * 1000000 * q - p) + v' * (p - e * 1000000 * q)) * (s * (e' - e)) ≤ (v * (e' * 1000000 * s - r) + v' * (r - e * 1000000 * s)) * (q * (e' - e))
  segment_rises v v' l =
      let x : v' ≡ v + (v' - v) = omega arith in
      rw x (rises v (v' - v) _ _ _ _ q s (e' - e) same_sum left_of)

-- the ends of a segment, at p/q
module _ (e e' q p : ℕ) (g : e ≤ e') (h : e * 1000000 * q ≤ p) (h' : p ≤ e' * 1000000 * q) where
  pub below_first : (v v' : ℕ) → v' ≤ v → v * (e' * 1000000 * q - p) + v' * (p - e * 1000000 * q) ≤ v * 1000000 * (q * (e' - e))
  below_first v v' l = omega (arith, times v (sum_of e e' q p g h h'), mul-le-mul_right (p - e * 1000000 * q) l)

  pub above_last : (v v' : ℕ) → v' ≤ v → v' * 1000000 * (q * (e' - e)) ≤ v * (e' * 1000000 * q - p) + v' * (p - e * 1000000 * q)
  above_last v v' l = omega (arith, times v' (sum_of e e' q p g h h'), mul-le-mul_right (e' * 1000000 * q - p) l)

pub at_last : (e e' q p v v' : ℕ) → e ≤ e' → p ≡ e' * 1000000 * q → v * (e' * 1000000 * q - p) + v' * (p - e * 1000000 * q) ≡ v' * 1000000 * (q * (e' - e))
at_last e e' q p v v' g h =
    let z : e' * 1000000 * q - p ≡ 0 = omega arith in
    let y : p - e * 1000000 * q ≡ 1000000 * (q * (e' - e)) = omega (arith, mul-sub q e' e, mul-le-mul_left q g) in
    rw (z, y) (omega arith)

pub at_first : (e e' q p v v' : ℕ) → e ≤ e' → p ≡ e * 1000000 * q → v * (e' * 1000000 * q - p) + v' * (p - e * 1000000 * q) ≡ v * 1000000 * (q * (e' - e))
at_first e e' q p v v' g h =
    let z : p - e * 1000000 * q ≡ 0 = omega arith in
    let y : e' * 1000000 * q - p ≡ 1000000 * (q * (e' - e)) = omega (arith, mul-sub q e' e, mul-le-mul_left q g) in
    rw (z, y) (omega arith)

-- two whole points k apart (at the denominator 1, as a segment has them): the change is at most c times the step for each
change : (v v' u w' k d c : ℕ) → v ≤ v' + c * d → v * (w' + k) + v' * u ≤ v * w' + v' * (u + k) + c * k * d
change v v' u w' k d c h = omega (arith, mul-le-mul_left k h)

change_up : (v v' u w' k d c : ℕ) → v' ≤ v + c * d → v * w' + v' * (u + k) ≤ v * (w' + k) + v' * u + c * k * d
change_up v v' u w' k d c h = omega (arith, mul-le-mul_left k h)

module _ (e e' x y c : ℕ) (h : e * 1000000 * 1 ≤ x) (o : x ≤ y) (h' : y ≤ e' * 1000000 * 1) where
  apart_left : e' * 1000000 * 1 - x ≡ (e' * 1000000 * 1 - y) + (y - x)
  apart_left = omega arith

  apart_right : y - e * 1000000 * 1 ≡ (x - e * 1000000 * 1) + (y - x)
  apart_right = omega arith

  pub slow_down : (v v' : ℕ) → v ≤ v' + c * (e' - e) → v * (e' * 1000000 * 1 - x) + v' * (x - e * 1000000 * 1) ≤ v * (e' * 1000000 * 1 - y) + v' * (y - e * 1000000 * 1) + c * (y - x) * (e' - e)
  slow_down v v' l = rw (apart_left, apart_right) (change v v' (x - e * 1000000 * 1) (e' * 1000000 * 1 - y) (y - x) (e' - e) c l)

  pub slow_up : (v v' : ℕ) → v' ≤ v + c * (e' - e) → v * (e' * 1000000 * 1 - y) + v' * (y - e * 1000000 * 1) ≤ v * (e' * 1000000 * 1 - x) + v' * (x - e * 1000000 * 1) + c * (y - x) * (e' - e)
  slow_up v v' l = rw (apart_left, apart_right) (change_up v v' (x - e * 1000000 * 1) (e' * 1000000 * 1 - y) (y - x) (e' - e) c l)

pub sum_fits : (v v' u w : ℕ) → v ≤ 2000 → v' ≤ 2000 → u ≤ 10000000000 → w ≤ 10000000000 → v * u + v' * w ≤ 40000000000000
sum_fits v v' u w h h' k k' = omega (arith, mul-le-mul h k, mul-le-mul h' k')
