-- Fractions of two whole numbers, compared by cross products.
use Rattle.std.specs.Prelude.{ℕ, ◌+◌, ◌-◌, ◌*◌, ◌/◌, ◌<◌, ◌≤◌, min}

pub record Fraction : Type 0 where
  pub num : ℕ
  pub den : ℕ

-- the denominator is above 0: what every law of fractions asks
abbrev pub Proper : Fraction → Type 0
Proper x = 0 < x.den

infix 40 ◌≤ᶠ◌
abbrev pub ◌≤ᶠ◌ : Fraction → Fraction → Type 0
◌≤ᶠ◌ a b = a.num * b.den ≤ b.num * a.den

abbrev pub whole : ℕ → Fraction
whole n = record { num = n; den = 1 }

abbrev pub floor : Fraction → ℕ
floor x = x.num / x.den

abbrev pub ceiling : Fraction → ℕ
ceiling x = (x.num + (x.den - 1)) / x.den

abbrev pub plus : Fraction → Fraction → Fraction
plus a b = record { num = a.num * b.den + b.num * a.den; den = a.den * b.den }

-- x * k / m
abbrev pub scaled : ℕ → ℕ → Fraction → Fraction
scaled k m x = record { num = x.num * k; den = x.den * m }

-- the least of x and the whole number c
abbrev pub capped : Fraction → ℕ → Fraction
capped x c = record { num = min x.num (c * x.den); den = x.den }

-- k / x
abbrev pub over : ℕ → Fraction → Fraction
over k x = record { num = k * x.den; den = x.num }
