-- A quantity worked three ways at once: rounded down, rounded up, and exactly.
use Rattle.std.specs.Prelude.{◌≡◌, ℕ, zero, suc, ◌-◌, ◌^◌, ◌<◌, ◌≤◌, Bool, cond}
use Rattle.exact.specs.declared.Ends.{Ends}
use Rattle.exact.specs.Fractions.{Fraction, Proper, ◌≤ᶠ◌, whole, plus, floor, ceiling}
use Rattle.exact.specs.Sums.{sum_where}

pub record Worked : Type 0 where
  pub lower : ℕ
  pub upper : ℕ
  pub exact : Fraction

-- the exact quantity lies between the two ends
pub record Encloses (w : Worked) : Type 0 where
  pub proper : Proper w.exact
  pub low : whole w.lower ≤ᶠ w.exact
  pub high : w.exact ≤ᶠ whole w.upper

-- how far the ends are apart
abbrev pub gap : Worked → ℕ
gap w = w.upper - w.lower

-- what a program holds of a worked quantity
abbrev pub ends : Worked → Ends
ends w = record { lower = w.lower; upper = w.upper }

-- the ends r are those of w; they enclose the exact quantity, and are at most d apart
pub record Gives (d : ℕ) (r : Ends) (w : Worked) : Type 0 where
  pub value : r ≡ ends w
  pub encloses : Encloses w
  pub near : gap w ≤ d

-- and the other way: ends that a program holds, around an exact quantity
abbrev pub around : Ends → Fraction → Worked
around e x = record { lower = e.lower; upper = e.upper; exact = x }

-- a whole number, which needs no rounding
abbrev pub exactly : ℕ → Worked
exactly n = record { lower = n; upper = n; exact = whole n }

-- a fraction, rounded both ways
abbrev pub rounded : Fraction → Worked
rounded x = record { lower = floor x; upper = ceiling x; exact = x }

-- A formula on fractions gives all three. One that never falls takes lower from lower and upper from upper;
-- one that never rises takes each from the other end.
abbrev pub rising : (Fraction → Fraction) → Worked → Worked
rising f w = record { lower = floor (f (whole w.lower)); upper = ceiling (f (whole w.upper)); exact = f w.exact }

abbrev pub falling : (Fraction → Fraction) → Worked → Worked
falling f w = record { lower = floor (f (whole w.upper)); upper = ceiling (f (whole w.lower)); exact = f w.exact }

-- a program's answers at whole numbers are those of a formula, rounded both ways
abbrev pub Computes : (ℕ → Ends → Type 0) → (Fraction → Fraction) → Type 0
Computes post f = (n : ℕ) (r : Ends) → n < 2 ^ 64 → post n r → r ≡ ends (rounded (f (whole n)))

-- a proper fraction, m at least
abbrev pub From : ℕ → Fraction → Type 0
From m x = Proper x × (whole m ≤ᶠ x)

-- a formula that never falls, or never rises, from m on
pub record Rises (m : ℕ) (f : Fraction → Fraction) : Type 0 where
  pub proper : (x : Fraction) → From m x → Proper (f x)
  pub order : (x y : Fraction) → From m x → From m y → x ≤ᶠ y → f x ≤ᶠ f y

pub record Sinks (m : ℕ) (f : Fraction → Fraction) : Type 0 where
  pub proper : (x : Fraction) → From m x → Proper (f x)
  pub order : (x y : Fraction) → From m x → From m y → x ≤ᶠ y → f y ≤ᶠ f x

-- the exact sum of those below k that pass a test
unfoldable pub fractions : ℕ → (ℕ → Bool) → (ℕ → Fraction) → Fraction
fractions zero t f = whole 0
fractions (suc k) t f = plus (fractions k t f) (cond (t k) (f k) (whole 0))

abbrev pub total : ℕ → (ℕ → Bool) → (ℕ → Worked) → Worked
total k t w = record {
  lower = sum_where k t (λ i. (w i).lower);
  upper = sum_where k t (λ i. (w i).upper);
  exact = fractions k t (λ i. (w i).exact);
}
