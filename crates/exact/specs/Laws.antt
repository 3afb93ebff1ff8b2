-- What holds of worked quantities, whatever the formula.
use Rattle.std.specs.Prelude.{◌≡◌, ℕ, ◌+◌, ◌*◌, ◌<◌, ◌≤◌, Bool, true}
use Rattle.exact.specs.Fractions.{Fraction, Proper, ◌≤ᶠ◌, scaled, capped, over}
use Rattle.exact.specs.Sums.{sum_where}
use Rattle.exact.specs.Worked.{Worked, Encloses, Rises, Sinks, gap, rounded, rising, falling, total}

-- the exact quantity stays between the ends under a formula that never falls, and under one that never rises
abbrev pub RisingEncloses : Type 0
RisingEncloses = (m : ℕ) (f : Fraction → Fraction) (w : Worked) → Rises m f → m ≤ w.lower → Encloses w → Encloses (rising f w)

abbrev pub FallingEncloses : Type 0
FallingEncloses = (m : ℕ) (f : Fraction → Fraction) (w : Worked) → Sinks m f → m ≤ w.lower → Encloses w → Encloses (falling f w)

-- the formulas that the calculation is made of
abbrev pub ScaledRises : Type 0
ScaledRises = (k m : ℕ) → 0 < m → Rises 0 (scaled k m)

abbrev pub CappedRises : Type 0
CappedRises = (c : ℕ) → Rises 0 (λ x. capped x c)

abbrev pub OverSinks : Type 0
OverSinks = (k : ℕ) → Sinks 1 (over k)

-- rounding a fraction, and adding worked quantities, encloses what was rounded or added
abbrev pub RoundedEncloses : Type 0
RoundedEncloses = (x : Fraction) → Proper x → Encloses (rounded x) × (gap (rounded x) ≤ 1)

abbrev pub TotalEncloses : Type 0
TotalEncloses = (k : ℕ) (t : ℕ → Bool) (w : ℕ → Worked) → ((i : ℕ) → i < k → t i ≡ true → Encloses (w i)) → Encloses (total k t w)

-- the order of fractions
abbrev pub LeTrans : Type 0
LeTrans = (a b c : Fraction) → Proper b → a ≤ᶠ b → b ≤ᶠ c → a ≤ᶠ c

-- sums term by term
abbrev pub SumsAdd : Type 0
SumsAdd = (n : ℕ) (t : ℕ → Bool) (f g : ℕ → ℕ) → sum_where n t (λ i. f i + g i) ≡ sum_where n t f + sum_where n t g

abbrev pub SumsScale : Type 0
SumsScale = (n : ℕ) (t : ℕ → Bool) (m : ℕ) (f : ℕ → ℕ) → sum_where n t (λ i. m * f i) ≡ m * sum_where n t f

abbrev pub SumsCompare : Type 0
SumsCompare = (n : ℕ) (t : ℕ → Bool) (f g : ℕ → ℕ) → ((i : ℕ) → i < n → t i ≡ true → f i ≤ g i) → sum_where n t f ≤ sum_where n t g
