-- Used routes through a network, and how long they take. Elements go by their index, from 0.
use Rattle.std.specs.Prelude.{◌≡◌, ℕ, ◌+◌, ◌*◌, ◌<◌, max, cond, List, [], ◌∷◌, length, nat_le}
use Rattle.exact.specs.Fractions.{Fraction, ◌≤ᶠ◌, whole, plus}
use Rattle.exact.specs.Worked.{Worked}
use Rattle.network.specs.declared.Element.{Element}
use Rattle.network.specs.Elements.{el}
use Rattle.sheet.specs.Lines.{WorkedLine, at, flow_duration, travel}

-- someone passes element i
abbrev pub Crossed : List Element → List WorkedLine → ℕ → Type 0
Crossed es ls i = (i < length es) × (0 < (at ls i).persons)

-- r goes on from the point p to the assembly station, each element from where the one before led, with persons on all
abbrev pub Onward : List Element → List WorkedLine → ℕ → List ℕ → Type 0
Onward es ls p [] = p ≡ 0
Onward es ls p (i ∷ r) = (0 < p) × Crossed es ls i × ((el es i).from ≡ p) × Onward es ls (el es i).to r

-- a used route starts at a source, and goes on
abbrev pub Used : List Element → List WorkedLine → List ℕ → Type 0
Used es ls [] = ⊥
Used es ls (i ∷ r) = Crossed es ls i × ((el es i).from ≡ 0) × Onward es ls (el es i).to r

-- ---- the greatest and the sum of what an element is given, over a route

abbrev pub greatest : (ℕ → ℕ) → List ℕ → ℕ
greatest g [] = 0
greatest g (i ∷ r) = max (g i) (greatest g r)

abbrev pub summed : (ℕ → ℕ) → List ℕ → ℕ
summed g [] = 0
summed g (i ∷ r) = g i + summed g r

abbrev pub larger : Fraction → Fraction → Fraction
larger x y = cond (nat_le (x.num * y.den) (y.num * x.den)) y x

abbrev pub greatest_exact : (ℕ → Fraction) → List ℕ → Fraction
greatest_exact g [] = whole 0
greatest_exact g (i ∷ r) = larger (g i) (greatest_exact g r)

abbrev pub summed_exact : (ℕ → Fraction) → List ℕ → Fraction
summed_exact g [] = whole 0
summed_exact g (i ∷ r) = plus (g i) (summed_exact g r)

-- ---- times

abbrev pub duration_of : List WorkedLine → ℕ → Worked
duration_of ls i = flow_duration (at ls i)

abbrev pub travel_of : List Element → List WorkedLine → ℕ → Worked
travel_of es ls i = travel (el es i) (at ls i)

-- the time of a route is its greatest flow duration with the sum of its travels: by the lower ends, by the upper ends, and exactly
unfoldable pub time : List Element → List WorkedLine → List ℕ → Worked
time es ls r = record {
  lower = greatest (λ i. (duration_of ls i).lower) r + summed (λ i. (travel_of es ls i).lower) r;
  upper = greatest (λ i. (duration_of ls i).upper) r + summed (λ i. (travel_of es ls i).upper) r;
  exact = plus (greatest_exact (λ i. (duration_of ls i).exact) r) (summed_exact (λ i. (travel_of es ls i).exact) r);
}

-- t is the slowest time: the greatest exact time of a used route
pub record Slowest (es : List Element) (ls : List WorkedLine) (t : Fraction) : Type 0 where
  pub bounds : (r : List ℕ) → Used es ls r → (time es ls r).exact ≤ᶠ t
  pub reached : (r : List ℕ) × Used es ls r × ((time es ls r).exact ≡ t)
