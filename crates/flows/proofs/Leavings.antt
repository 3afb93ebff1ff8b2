-- The line of an element that leaves a point.
use Rattle.std.proofs.Common.{◌≡◌, ℕ, ltb, Some, ap, ◌∙◌, arith}
use Rattle.exact.specs.declared.Ends.{Ends}
use Rattle.exact.specs.Fractions.{Fraction}
use Rattle.exact.specs.Worked.{Worked, ends, around}
use Rattle.walking.specs.Curves.{Tables, curve_of}
use Rattle.curves.specs.Reading.{read_falling}
use Rattle.reading.specs.Sources.{through}
use Rattle.network.specs.declared.Kind.{Kind}
use Rattle.network.specs.declared.Kind.TheVariants.{Corridor, Door, StairDown, StairUp}
use Rattle.network.specs.declared.Element.{Element}
use Rattle.sheet.specs.declared.Line.{Line}
use Rattle.sheet.specs.Lines.{shown}
use Rattle.sheet.specs.Points.{most, speed_at, cut, leaving}
use Rattle.flows.specs.Curves.{walking_curve}
use Rattle.flows.proofs.Shown.{made_of, shown_by}

-- the speed by the curve of the kind
pub speed_by : (t : Tables) (k : Kind) (n : ℕ) (s r : Ends) → Some n ≡ walking_curve k → ((x : Fraction) → r ≡ ends (read_falling (curve_of t n) (around s x))) → (x : Fraction) → r ≡ ends (speed_at t k (around s x))
speed_by t Corridor n s r is h x = let same : n ≡ 2 = cc in h x ∙ ap (λ q. ends (read_falling (curve_of t q) (around s x))) same
speed_by t Door n s r is h x = let z : ◌≡◌ {A = ℕ} 0 1 = cc in absurd (omega arith)
speed_by t StairDown n s r is h x = let same : n ≡ 3 = cc in h x ∙ ap (λ q. ends (read_falling (curve_of t q) (around s x))) same
speed_by t StairUp n s r is h x = let same : n ≡ 4 = cc in h x ∙ ap (λ q. ends (read_falling (curve_of t q) (around s x))) same

-- from the greatest specific flow and the ends of what is taken of the one that comes in
module _ (t : Tables) (e : Element) (s : Worked) (n : ℕ) (r : Line) (greatest : ℕ) (taken flow speed : Ends) where
  abbrev given : Worked
  given = cut (most t e.kind) s

  pub leaving_by : greatest ≡ most t e.kind
      → taken ≡ ends (cut greatest s)
      → ((x : Fraction) → flow ≡ ends (through e.width (around taken x)))
      → ((x : Fraction) → speed ≡ ends (speed_at t e.kind (around taken x)))
      → ((x y : Fraction) → r ≡ shown e (made_of n (ltb greatest s.upper) flow speed x y))
      → r ≡ shown e (leaving t e s n)
  unfolding leaving
  leaving_by eg et ef ev er =
      let x = given.exact in
      let same : taken ≡ ends given = et ∙ ap (λ c. ends (cut c s)) eg in
      shown_by e (leaving t e s n) r flow speed
      (λ a b. er a b ∙ ap (λ c. shown e (made_of n (ltb c s.upper) flow speed a b)) eg)
      (ef x ∙ ap (λ (q : Ends). ends (through e.width (around q x))) same)
      (ev x ∙ ap (λ (q : Ends). ends (speed_at t e.kind (around q x))) same)
