-- The order of fractions.
use Rattle.std.proofs.Common.{ℕ, ◌+◌, ◌*◌, ◌<◌, ◌≤◌, mul-le-mul_left, le_of_mul-le-mul_right, arith}
use Rattle.exact.specs.Fractions.{Fraction, ◌≤ᶠ◌, plus}
use Rattle.exact.specs.Laws.{LeTrans}

-- (a/b ≤ c/d ≤ e/f), over plain numbers
trans : (a b c d e f : ℕ) → 0 < d → a * d ≤ c * b → c * f ≤ e * d → a * f ≤ e * b
trans a b c d e f p h k =
    let g : a * f * d ≤ e * b * d = omega (arith, mul-le-mul_left f h, mul-le-mul_left b k) in
    le_of_mul-le-mul_right g p

pub le_trans : LeTrans
le_trans a b c p h k = trans a.num a.den b.num b.den c.num c.den p h k

plus_le : (a b c d e f g h : ℕ) → a * d ≤ c * b → e * h ≤ g * f → (a * f + e * b) * (d * h) ≤ (c * h + g * d) * (b * f)
plus_le a b c d e f g h p q = omega (arith, mul-le-mul_left (f * h) p, mul-le-mul_left (b * d) q)

pub plus_mono : (a b c d : Fraction) → a ≤ᶠ b → c ≤ᶠ d → plus a c ≤ᶠ plus b d
plus_mono a b c d p q = plus_le a.num a.den b.num b.den c.num c.den d.num d.den p q
