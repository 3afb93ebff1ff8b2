-- What a column keeps from row to row, and the laws of reading it from the row a on.
use Rattle.std.proofs.Common.{◌≡◌, ℕ, ◌+◌, ◌-◌, ◌*◌, ◌<◌, ◌≤◌, List, ◌∷◌}
use Rattle.exact.specs.Fractions.{Fraction, Proper, ◌≤ᶠ◌, whole, plus}
use Rattle.walking.specs.Curves.{Row, entry}
use Rattle.walking.specs.Laws.{Onward as EachStep}
use Rattle.curves.specs.Reading.{read}
use Rattle.curves.specs.Laws.{Amid, DifferAtMost}

abbrev pub Rises : Row → Row → Type 0
Rises a b = entry a < entry b

abbrev pub Falls : (Row → ℕ) → Row → Row → Type 0
Falls col a b = col b ≤ col a

abbrev pub Slowly : (Row → ℕ) → Row → Row → Type 0
Slowly col a b = col a ≤ col b + (entry b - entry a)

abbrev pub Gently : (Row → ℕ) → Row → Row → Type 0
Gently col a b = (col a ≤ col b + 2 * (entry b - entry a)) × (col b ≤ col a + 2 * (entry b - entry a))

-- where the values never rise, a greater entry reads a lower value
abbrev pub ReadFalls : (Row → ℕ) → Type 0
ReadFalls col = (a : Row) (rest : List Row) (x y : Fraction) → entry a ≡ 0 → EachStep Rises a rest → EachStep (Falls col) a rest → Proper x → Proper y → x ≤ᶠ y → read col (a ∷ rest) y ≤ᶠ read col (a ∷ rest) x

-- where each fall is at most the step of the entry, the value falls by at most what the entry rises
abbrev pub ReadSlowly : (Row → ℕ) → Type 0
ReadSlowly col = (a : Row) (rest : List Row) (x y : ℕ) → entry a ≡ 0 → EachStep Rises a rest → EachStep (Slowly col) a rest → x ≤ y → read col (a ∷ rest) (whole x) ≤ᶠ plus (read col (a ∷ rest) (whole y)) (whole (y - x))

-- between two neighbouring whole numbers the curve has no corner
abbrev pub ReadAmid : (Row → ℕ) → Type 0
ReadAmid col = (a : Row) (rest : List Row) (dl du : ℕ) (x : Fraction) → entry a ≡ 0 → EachStep Rises a rest → EachStep (Gently col) a rest → Proper x → whole dl ≤ᶠ x → x ≤ᶠ whole du → du ≤ dl + 1
    → Amid (read col (a ∷ rest) (whole dl)) (read col (a ∷ rest) x) (read col (a ∷ rest) (whole du)) × DifferAtMost 2 (read col (a ∷ rest) (whole dl)) (read col (a ∷ rest) (whole du))
