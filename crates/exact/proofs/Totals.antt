-- Sums of worked quantities.
use Rattle.std.proofs.Common.{◌≡◌, ℕ, zero, suc, ◌+◌, ◌*◌, ◌≤◌, Bool, true, false, cond, refl, mul-le-mul_left, mul-pos, arith}
use Rattle.exact.specs.Fractions.{whole, plus}
use Rattle.exact.specs.Sums.{sum_below, sum_where}
use Rattle.exact.specs.Worked.{Worked, Encloses, gap, exactly, fractions, total}
use Rattle.exact.specs.Laws.{TotalEncloses}
use Rattle.exact.proofs.Rounding.{exactly_encloses}
use Rattle.exact.proofs.SumLaws.{where_mono, where_plus}

plus_low : (l a b m c d : ℕ) → l * b ≤ a * 1 → m * d ≤ c * 1 → (l + m) * (b * d) ≤ (a * d + c * b) * 1
plus_low l a b m c d h k = omega (arith, mul-le-mul_left d h, mul-le-mul_left b k)

plus_high : (u a b m c d : ℕ) → a * 1 ≤ u * b → c * 1 ≤ m * d → (a * d + c * b) * 1 ≤ (u + m) * (b * d)
plus_high u a b m c d h k = omega (arith, mul-le-mul_left d h, mul-le-mul_left b k)

abbrev pub add : Worked → Worked → Worked
add v w = record { lower = v.lower + w.lower; upper = v.upper + w.upper; exact = plus v.exact w.exact }

pub add_encloses : (v w : Worked) → Encloses v → Encloses w → Encloses (add v w)
add_encloses v w e f = record {
  proper = mul-pos e.proper f.proper;
  low = plus_low v.lower v.exact.num v.exact.den w.lower w.exact.num w.exact.den e.low f.low;
  high = plus_high v.upper v.exact.num v.exact.den w.upper w.exact.num w.exact.den e.high f.high;
}

-- one more, if it passes
abbrev more : Worked → Bool → Worked → Worked
more v b w = record { lower = v.lower + cond b w.lower 0; upper = v.upper + cond b w.upper 0; exact = plus v.exact (cond b w.exact (whole 0)) }

more_encloses : (v : Worked) (b : Bool) (w : Worked) → Encloses v → (b ≡ true → Encloses w) → Encloses (more v b w)
more_encloses v true w e f = add_encloses v w e (f refl)
more_encloses v false w e f = add_encloses v (exactly 0) e (exactly_encloses 0)

pub total_encloses : TotalEncloses
unfolding sum_below fractions
total_encloses zero t w h = exactly_encloses 0
total_encloses (suc k) t w h = more_encloses (total k t w) (t k) (w k) (total_encloses k t w (λ i l. h i (omega arith))) (h k (omega arith))

-- the ends of a sum are as far apart as its terms together
pub total_gap : (k : ℕ) (t : ℕ → Bool) (w : ℕ → Worked) → gap (total k t w) ≤ sum_where k t (λ i. gap (w i))
total_gap k t w =
    let low : ℕ → ℕ = λ i. (w i).lower in
    let apart : ℕ → ℕ = λ i. gap (w i) in
    let a : sum_where k t (λ i. (w i).upper) ≤ sum_where k t (λ i. low i + apart i) = where_mono k t (λ i. (w i).upper) (λ i. low i + apart i) (λ i l h. omega arith) in
    let b : sum_where k t (λ i. low i + apart i) ≡ sum_where k t low + sum_where k t apart = where_plus k t low apart in
    omega arith
