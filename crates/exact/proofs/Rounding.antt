-- Rounding, and a formula at all three ways of a quantity.
use Rattle.std.proofs.Common.{◌≡◌, ℕ, ◌+◌, ◌-◌, ◌*◌, ◌/◌, ◌%◌, ◌<◌, ◌≤◌, ◌∙◌, mul-le-mul_right, lt_of_mul-lt-mul_right, mul-le-mul_left, div-mul-le_self, le_of_mul-le-mul_right, arith}
use native.Mathlib.Nat.{mul-lt-mul_of_pos_left, lt-div-mul-add}
use Rattle.exact.specs.Fractions.{Fraction, Proper, ◌≤ᶠ◌, whole, plus, floor, ceiling}
use Rattle.exact.specs.Worked.{Worked, Encloses, From, exactly}
use Rattle.exact.specs.Laws.{RisingEncloses, FallingEncloses, RoundedEncloses}

-- quotients over plain numbers
down_le : (n d m e : ℕ) → 0 < d → n * e ≤ m * d → n / d * e ≤ m
down_le n d m e z h =
    let q : ℕ = n / d in
    let k : q * d ≤ n = omega arith in
    let g : q * e * d ≤ m * d = omega (arith, mul-le-mul_left e k) in
    le_of_mul-le-mul_right g z

up_ge : (n d m e : ℕ) → 0 < d → m * d ≤ n * e → m ≤ (n + (d - 1)) / d * e
up_ge n d m e z h =
    let q : ℕ = (n + (d - 1)) / d in
    let k : n ≤ q * d = omega arith in
    let g : m * d ≤ q * e * d = omega (arith, mul-le-mul_left e k) in
    le_of_mul-le-mul_right g z

-- n/d ≤ m/e + k
up_near_down : (n d m e k : ℕ) → 0 < d → 0 < e → n * e ≤ (m + k * e) * d → (n + (d - 1)) / d ≤ m / e + k + 1
up_near_down n d m e k z z' h =
    let c : ℕ = (n + (d - 1)) / d in
    let f : ℕ = m / e in
    let p : c * d < n + d = omega arith in
    let q : m < f * e + e = omega arith in
    let g : n * e < (f + 1 + k) * d * e = omega (arith, mul-lt-mul_of_pos_left q z) in
    let g' : n < (f + 1 + k) * d = lt_of_mul-lt-mul_right e g in
    let g'' : c * d < (f + 2 + k) * d = omega arith in
    let r : c < f + 2 + k = lt_of_mul-lt-mul_right d g'' in
    omega arith

pub floor_le : (f g : Fraction) → Proper f → f ≤ᶠ g → floor f * g.den ≤ g.num
floor_le f g z h = down_le f.num f.den g.num g.den z h

pub ceiling_ge : (f g : Fraction) → Proper f → g ≤ᶠ f → g.num ≤ ceiling f * g.den
ceiling_ge f g z h = up_ge f.num f.den g.num g.den z h

pub ceiling_near : (f g : Fraction) (k : ℕ) → Proper f → Proper g → f ≤ᶠ plus g (whole k) → ceiling f ≤ floor g + k + 1
ceiling_near f g k z z' h = up_near_down f.num f.den g.num g.den k z z' (omega arith)

-- each fraction's own roundings are one apart
pub round_near : (f : Fraction) → Proper f → ceiling f ≤ floor f + 1
round_near f z = omega (arith, ceiling_near f f 0 z z (omega arith))

-- a whole number that a fraction does not pass
pub floor_ge : (k n d : ℕ) → 0 < d → k * d ≤ n * 1 → k ≤ n / d
floor_ge k n d z h =
    let q : ℕ = n / d in
    let g : n < q * d + d = lt-div-mul-add {a = n} z in
    let g' : k * d < (q + 1) * d = omega arith in
    let r : k < q + 1 = lt_of_mul-lt-mul_right d g' in
    omega arith

pub ceiling_le : (k n d : ℕ) → 0 < d → n * 1 ≤ k * d → (n + (d - 1)) / d ≤ k
ceiling_le k n d z h =
    let q : ℕ = (n + (d - 1)) / d in
    let g : q * d ≤ n + (d - 1) = div-mul-le_self (n + (d - 1)) d in
    let g' : q * d < (k + 1) * d = omega arith in
    let r : q < k + 1 = lt_of_mul-lt-mul_right d g' in
    omega arith

-- rounding up, as the code does it: one more where something is left over
quotient_is : (q n d : ℕ) → 0 < d → q * d ≤ n → n < (q + 1) * d → q ≡ n / d
quotient_is q n d z low high =
    let c : ℕ = n / d in
    let below : n < (c + 1) * d = omega (arith, lt-div-mul-add {a = n} z) in
    let above : c * d ≤ n = div-mul-le_self n d in
    let l : q * d < (c + 1) * d = omega arith in
    let h : c * d < (q + 1) * d = omega arith in
    let l' : q < c + 1 = lt_of_mul-lt-mul_right d l in
    let h' : c < q + 1 = lt_of_mul-lt-mul_right d h in
    omega arith

pub up_by_one : (n d : ℕ) → 0 < d → 0 < n % d → n / d + 1 ≡ (n + (d - 1)) / d
up_by_one n d z h = quotient_is (n / d + 1) (n + (d - 1)) d z (omega arith) (omega arith)

pub up_by_none : (n d : ℕ) → 0 < d → n % d ≤ 0 → n / d + 0 ≡ (n + (d - 1)) / d
up_by_none n d z h = let e : n / d + 0 ≡ n / d = omega arith in e ∙ quotient_is (n / d) (n + (d - 1)) d z (omega arith) (omega arith)

pub exactly_encloses : (n : ℕ) → Encloses (exactly n)
exactly_encloses n = record { proper = omega arith; low = omega arith; high = omega arith }

-- what lies between two fractions lies between the roundings that lead away from it
enclosed : (p x q : Fraction) → Proper p → Proper x → Proper q → p ≤ᶠ x → x ≤ᶠ q → Encloses (record { lower = floor p; upper = ceiling q; exact = x })
enclosed p x q below proper above low high =
    let a = floor_le p x below low in
    let b = ceiling_ge q x above high in
    record { proper = proper; low = omega arith; high = omega arith }

pub rounded_encloses : RoundedEncloses
rounded_encloses x z = (enclosed x x x z z z (omega arith) (omega arith), omega (arith, round_near x z))

lower_le : (l u n d : ℕ) → 0 < d → l * d ≤ n * 1 → n * 1 ≤ u * d → l ≤ u
lower_le l u n d z a b = let g : l * d ≤ u * d = omega arith in le_of_mul-le-mul_right g z

pub ends_in_order : (w : Worked) → Encloses w → w.lower ≤ w.upper
ends_in_order w e = lower_le w.lower w.upper w.exact.num w.exact.den e.proper e.low e.high

from_whole : (m l : ℕ) → m ≤ l → From m (whole l)
from_whole m l h = (omega arith, omega arith)

module _ (m : ℕ) (w : Worked) (h : m ≤ w.lower) (e : Encloses w) where
  from_lower : From m (whole w.lower)
  from_lower = from_whole m w.lower h

  from_upper : From m (whole w.upper)
  from_upper = from_whole m w.upper (omega (arith, ends_in_order w e))

  from_exact : From m w.exact
  from_exact = (e.proper, omega (arith, mul-le-mul_right w.exact.den h, e.low))

pub rising_encloses : RisingEncloses
rising_encloses m f w r h e =
    let l = from_lower m w h e in
    let u = from_upper m w h e in
    let x = from_exact m w h e in
    enclosed (f (whole w.lower)) (f w.exact) (f (whole w.upper)) (r.proper _ l) (r.proper _ x) (r.proper _ u) (r.order _ _ l x e.low) (r.order _ _ x u e.high)

pub falling_encloses : FallingEncloses
falling_encloses m f w r h e =
    let l = from_lower m w h e in
    let u = from_upper m w h e in
    let x = from_exact m w h e in
    enclosed (f (whole w.upper)) (f w.exact) (f (whole w.lower)) (r.proper _ u) (r.proper _ x) (r.proper _ l) (r.order _ _ x u e.high) (r.order _ _ l x e.low)
