-- The time of a route lies between its ends, and its ends are near.
use Rattle.std.proofs.Common.{◌≡◌, ℕ, suc, ◌+◌, ◌*◌, ◌<◌, ◌≤◌, max, List, [], ◌∷◌, length, ⊎_elim, mul-le-mul_right, mul-le-mul_left, mul-add, arith}
use Rattle.std.specs.List.{AllByRecursion}
use Rattle.std.proofs.lemmas.Bool.{cases_lt}
use Rattle.exact.specs.Fractions.{Fraction, ◌≤ᶠ◌, whole}
use Rattle.exact.specs.Worked.{Worked, Encloses}
use Rattle.exact.proofs.FractionLaws.{le_trans}
use Rattle.exact.proofs.Numbers.{at_leb}
use Rattle.exact.proofs.Rounding.{exactly_encloses}
use Rattle.exact.proofs.Totals.{add, add_encloses}
use Rattle.ways.specs.Routes.{greatest, summed, larger, greatest_exact, summed_exact}
use Rattle.ways.specs.Facts.{Near}

-- ---- the greater of two quantities

abbrev greater : Worked → Worked → Worked
greater v w = record { lower = max v.lower w.lower; upper = max v.upper w.upper; exact = larger v.exact w.exact }

abbrev with_exact : Worked → Worked → Fraction → Worked
with_exact v w x = record { lower = max v.lower w.lower; upper = max v.upper w.upper; exact = x }

-- whole numbers that do not pass x, or that x does not pass
max_low : (m n : ℕ) (x : Fraction) → whole m ≤ᶠ x → whole n ≤ᶠ x → whole (max m n) ≤ᶠ x
max_low m n x h k =
    ⊎_elim
    (λ (l : m < n). let q : max m n ≡ n = omega arith in rw q k)
    (λ (l : n ≤ m). let q : max m n ≡ m = omega arith in rw q h)
    (cases_lt m n)

high_up : (m n : ℕ) (x : Fraction) → m ≤ n → x ≤ᶠ whole m → x ≤ᶠ whole n
high_up m n x l h = omega (arith, mul-le-mul_right x.den l)

right_encloses : (v w : Worked) → Encloses v → Encloses w → v.exact ≤ᶠ w.exact → Encloses (with_exact v w w.exact)
right_encloses v w e f o = record {
  proper = f.proper;
  low = max_low v.lower w.lower w.exact (le_trans (whole v.lower) v.exact w.exact e.proper e.low o) f.low;
  high = high_up w.upper (max v.upper w.upper) w.exact (omega arith) f.high;
}

left_encloses : (v w : Worked) → Encloses v → Encloses w → w.exact ≤ᶠ v.exact → Encloses (with_exact v w v.exact)
left_encloses v w e f o = record {
  proper = e.proper;
  low = max_low v.lower w.lower v.exact e.low (le_trans (whole w.lower) w.exact v.exact f.proper f.low o);
  high = high_up v.upper (max v.upper w.upper) v.exact (omega arith) e.high;
}

greater_encloses : (v w : Worked) → Encloses v → Encloses w → Encloses (greater v w)
greater_encloses v w e f =
    at_leb (v.exact.num * w.exact.den) (w.exact.num * v.exact.den) w.exact v.exact
    (λ (x : Fraction). Encloses (with_exact v w x))
    (λ o. right_encloses v w e f o)
    (λ o. left_encloses v w e f (omega arith))

near_more : (e l u m : ℕ) → l ≤ m → 10000000 * u ≤ 10000000 * l + 31 * e * l + 30000000 → 10000000 * u ≤ 10000000 * m + 31 * e * m + 30000000
near_more e l u m o h = omega (arith, mul-le-mul_left (31 * e) o)

greater_near : (e a b c d : ℕ) → 10000000 * b ≤ 10000000 * a + 31 * e * a + 30000000 → 10000000 * d ≤ 10000000 * c + 31 * e * c + 30000000
    → 10000000 * max b d ≤ 10000000 * max a c + 31 * e * max a c + 30000000
greater_near e a b c d h k =
    ⊎_elim
    (λ (l : b < d). let q : max b d ≡ d = omega arith in rw q (near_more e c d (max a c) (omega arith) k))
    (λ (l : d ≤ b). let q : max b d ≡ b = omega arith in rw q (near_more e a b (max a c) (omega arith) h))
    (cases_lt b d)

-- ---- along a route

abbrev greatest_of : (ℕ → Worked) → List ℕ → Worked
greatest_of g r = record { lower = greatest (λ i. (g i).lower) r; upper = greatest (λ i. (g i).upper) r; exact = greatest_exact (λ i. (g i).exact) r }

abbrev summed_of : (ℕ → Worked) → List ℕ → Worked
summed_of g r = record { lower = summed (λ i. (g i).lower) r; upper = summed (λ i. (g i).upper) r; exact = summed_exact (λ i. (g i).exact) r }

greatest_encloses : (g : ℕ → Worked) (r : List ℕ) → AllByRecursion (λ i. Encloses (g i)) r → Encloses (greatest_of g r)
greatest_encloses g [] h = exactly_encloses 0
greatest_encloses g (i ∷ r) h = greater_encloses (g i) (greatest_of g r) h.0 (greatest_encloses g r h.1)

summed_encloses : (g : ℕ → Worked) (r : List ℕ) → AllByRecursion (λ i. Encloses (g i)) r → Encloses (summed_of g r)
summed_encloses g [] h = exactly_encloses 0
summed_encloses g (i ∷ r) h = add_encloses (g i) (summed_of g r) h.0 (summed_encloses g r h.1)

-- the time of a route whose elements take d and t
abbrev pub time_of : (ℕ → Worked) → (ℕ → Worked) → List ℕ → Worked
time_of d t r = add (greatest_of d r) (summed_of t r)

pub time_of_encloses : (d t : ℕ → Worked) (r : List ℕ) → AllByRecursion (λ i. Encloses (d i)) r → AllByRecursion (λ i. Encloses (t i)) r → Encloses (time_of d t r)
time_of_encloses d t r h k = add_encloses (greatest_of d r) (summed_of t r) (greatest_encloses d r h) (summed_encloses t r k)

greatest_near : (g : ℕ → Worked) (e : ℕ) (r : List ℕ) → AllByRecursion (λ i. Near e (g i)) r → Near e (greatest_of g r)
greatest_near g e [] h = omega arith
greatest_near g e (i ∷ r) h =
    greater_near e (g i).lower (g i).upper (greatest_of g r).lower (greatest_of g r).upper h.0 (greatest_near g e r h.1)

sum_near : (e a b c d k : ℕ) → 10000000 * b ≤ 10000000 * a + 31 * e * a + 30000000 → 10000000 * d ≤ 10000000 * c + 31 * e * c + 30000000 * k
    → 10000000 * (b + d) ≤ 10000000 * (a + c) + 31 * e * (a + c) + 30000000 * suc k
sum_near e a b c d k h l = omega (arith, mul-add (31 * e) a c)

summed_near : (g : ℕ → Worked) (e : ℕ) (r : List ℕ) → AllByRecursion (λ i. Near e (g i)) r
    → 10000000 * (summed_of g r).upper ≤ 10000000 * (summed_of g r).lower + 31 * e * (summed_of g r).lower + 30000000 * length r
summed_near g e [] h = omega arith
summed_near g e (i ∷ r) h =
    sum_near e (g i).lower (g i).upper (summed_of g r).lower (summed_of g r).upper (length r) h.0 (summed_near g e r h.1)

pub time_of_near : (d t : ℕ → Worked) (e : ℕ) (r : List ℕ) → AllByRecursion (λ i. Near e (d i)) r → AllByRecursion (λ i. Near e (t i)) r
    → 10000000 * (time_of d t r).upper ≤ 10000000 * (time_of d t r).lower + 31 * e * (time_of d t r).lower + 30000000 * suc (length r)
time_of_near d t e r h k =
    sum_near e (greatest_of d r).lower (greatest_of d r).upper (summed_of t r).lower (summed_of t r).upper (length r) (greatest_near d e r h) (summed_near t e r k)
