-- The laws of reading, for every lawful walking tables.
use Rattle.std.proofs.Common.{ℕ, ◌+◌, ◌-◌, ◌*◌, ◌≤◌, min, max, ◌⊎◌, [], ◌∷◌, inl, inr, ⊎_elim, mul-le-mul_right, arith}
use Rattle.exact.specs.Fractions.{Fraction, Proper, ◌≤ᶠ◌, whole, plus, floor, ceiling}
use Rattle.exact.specs.Worked.{Worked, Encloses, Sinks, gap}
use Rattle.exact.proofs.Rounding.{floor_le, ceiling_ge, ceiling_near, round_near, falling_encloses, ends_in_order}
use Rattle.walking.specs.Curves.{Curve, Tables, speed, flow, curve_of}
use Rattle.walking.specs.Laws.{Lawful, DensityLaw, FlowLaw}
use Rattle.walking.proofs.Rows.{at_curve, at_flow_curve}
use Rattle.curves.specs.declared.Column.{Column}
use Rattle.curves.specs.declared.Column.TheVariants.{Flow, Speed}
use Rattle.curves.specs.Reading.{values, read, read_falling}
use Rattle.curves.specs.Laws.{Amid, DifferAtMost, DensityReadsAmid, AcrossEncloses, SpeedFalls, SpeedFallsSlowly, FallingEncloses, SpeedsInRange, ColumnsInRange}
use Rattle.curves.proofs.CurveLaws.{read_falls, read_slowly, read_amid, onward_proper}
use Rattle.curves.proofs.Kept.{gentle, falling_curve, RangedCurve, speeds_of_density, flows_of_density, speeds_of_flow, flows_of_flow}
use Rattle.curves.proofs.Ranges.{reading_least, reading_most}

-- ---- curve 1

amid : (c : Curve) → DensityLaw c → (k : Column) (l u : ℕ) (x : Fraction) → Proper x → whole l ≤ᶠ x → x ≤ᶠ whole u → u ≤ l + 1
    → Amid (read (values k) c (whole l)) (read (values k) c x) (read (values k) c (whole u))
    × DifferAtMost 2 (read (values k) c (whole l)) (read (values k) c (whole u))
amid [] w k l u x z o o' n = absurd (omega (arith, w.few.0))
amid (a ∷ rest) w k l u x z o o' n = let g = gentle k a rest w in read_amid (values k) a rest l u x g.zero_first g.rises g.gently z o o' n

pub density_reads_amid : DensityReadsAmid
density_reads_amid t w k l u x z o o' n = amid t.density w.density k l u x z o o' n

read_proper : (k : Column) (c : Curve) → DensityLaw c → (x : Fraction) → Proper x → Proper (read (values k) c x)
read_proper k [] w x z = omega arith
read_proper k (a ∷ rest) w x z = onward_proper (values k) a rest x (gentle k a rest w).rises z

-- the lower and the higher of two, over plain numbers
wider : (l l' h h' n d : ℕ) → ((l * d ≤ n) ⊎ (l' * d ≤ n)) → ((n ≤ h * d) ⊎ (n ≤ h' * d)) → (min l l' * d ≤ n) × (n ≤ max h h' * d)
wider l l' h h' n d a b =
    let k : min l l' ≤ l = omega arith in
    let k' : min l l' ≤ l' = omega arith in
    let m : h ≤ max h h' = omega arith in
    let m' : h' ≤ max h h' = omega arith in (
      ⊎_elim (λ (t : l * d ≤ n). omega (arith, mul-le-mul_right d k)) (λ (t : l' * d ≤ n). omega (arith, mul-le-mul_right d k')) a,
      ⊎_elim (λ (t : n ≤ h * d). omega (arith, mul-le-mul_right d m)) (λ (t : n ≤ h' * d). omega (arith, mul-le-mul_right d m')) b,
    )

amid_between : (f x g : Fraction) → Proper f → Proper g → Amid f x g → (min (floor f) (floor g) * x.den ≤ x.num) × (x.num ≤ max (ceiling f) (ceiling g) * x.den)
amid_between f x g z z' a =
    wider (floor f) (floor g) (ceiling f) (ceiling g) x.num x.den
    (⊎_elim (λ (h : (f ≤ᶠ x) × (x ≤ᶠ g)). inl (floor_le f x z h.0)) (λ (h : (g ≤ᶠ x) × (x ≤ᶠ f)). inr (floor_le g x z' h.0)) a)
    (⊎_elim (λ (h : (f ≤ᶠ x) × (x ≤ᶠ g)). inr (ceiling_ge g x z' h.1)) (λ (h : (g ≤ᶠ x) × (x ≤ᶠ f)). inl (ceiling_ge f x z h.1)) a)

pub across_encloses : AcrossEncloses
across_encloses t w k v e g =
    let c = t.density in
    let fl = read (values k) c (whole v.lower) in
    let fu = read (values k) c (whole v.upper) in
    let zl = read_proper k c w.density (whole v.lower) (omega arith) in
    let zu = read_proper k c w.density (whole v.upper) (omega arith) in
    let n = density_reads_amid t w k v.lower v.upper v.exact e.proper e.low e.high (omega arith) in
    let b = amid_between fl (read (values k) c v.exact) fu zl zu n.0 in (
      record { proper = read_proper k c w.density v.exact e.proper; low = omega (arith, b.0); high = omega (arith, b.1) },
      omega (arith, ceiling_near fl fu 2 zl zu n.1.0, ceiling_near fu fl 2 zu zl n.1.1, round_near fl zl, round_near fu zu),
    )

-- ---- curves 2 to 4

-- what a curve by specific flow keeps when its speed is read
pub record ReadsFalling (c : Curve) : Type 0 where
  pub sinks : Sinks 0 (read speed c)
  pub slowly : (x y : ℕ) → x ≤ y → read speed c (whole x) ≤ᶠ plus (read speed c (whole y)) (whole (y - x))

reads_falling : (c : Curve) → FlowLaw c → ReadsFalling c
reads_falling [] l = absurd (omega (arith, l.few.0))
reads_falling (a ∷ rest) l = let f = falling_curve a rest l in record {
  sinks = record {
    proper = λ x h. onward_proper speed a rest x f.rises h.0;
    order = λ x y h h' o. read_falls speed a rest x y f.zero_first f.rises f.falls h.0 h'.0 o;
  };
  slowly = λ x y o. read_slowly speed a rest x y f.zero_first f.rises f.slowly o;
}

pub falling_of : (t : Tables) → Lawful t → (n : ℕ) → 2 ≤ n → ReadsFalling (curve_of t n)
falling_of t w n l = at_flow_curve ReadsFalling t n l (reads_falling t.corridor w.corridor) (reads_falling t.down w.down) (reads_falling t.up w.up)

pub speed_falls : SpeedFalls
speed_falls t w n l x y z z' o = (falling_of t w n l).sinks.order x y (z, omega arith) (z', omega arith) o

pub speed_falls_slowly : SpeedFallsSlowly
speed_falls_slowly t w n l x y o = (falling_of t w n l).slowly x y o

-- over one curve
falls_close : (c : Curve) → ReadsFalling c → (w : Worked) → Encloses w → Encloses (read_falling c w) × (gap (read_falling c w) ≤ gap w + 1)
falls_close c k w e =
    let fl = read speed c (whole w.lower) in
    let fu = read speed c (whole w.upper) in
    let zl : Proper fl = k.sinks.proper (whole w.lower) (omega arith, omega arith) in
    let zu : Proper fu = k.sinks.proper (whole w.upper) (omega arith, omega arith) in (
      falling_encloses 0 (read speed c) w k.sinks (omega arith) e,
      omega (arith, ceiling_near fl fu (w.upper - w.lower) zl zu (k.slowly w.lower w.upper (ends_in_order w e))),
    )

pub falling_curve_encloses : FallingEncloses
falling_curve_encloses t w n l v e = falls_close (curve_of t n) (falling_of t w n l) v e

-- ---- ranges

speeds_of : (t : Tables) → Lawful t → (n : ℕ) → RangedCurve 100 2000 speed (curve_of t n)
speeds_of t w n = at_curve (RangedCurve 100 2000 speed) t n (speeds_of_density t.density w.density) (speeds_of_flow t.corridor w.corridor) (speeds_of_flow t.down w.down) (speeds_of_flow t.up w.up)

flows_of : (t : Tables) → Lawful t → (n : ℕ) → RangedCurve 0 2000 flow (curve_of t n)
flows_of t w n = at_curve (RangedCurve 0 2000 flow) t n (flows_of_density t.density w.density) (flows_of_flow t.corridor w.corridor) (flows_of_flow t.down w.down) (flows_of_flow t.up w.up)

pub speeds_in_range : SpeedsInRange
speeds_in_range t w n x = (reading_least 100 2000 speed (curve_of t n) x (speeds_of t w n), reading_most 100 2000 speed (curve_of t n) x (speeds_of t w n))

pub columns_in_range : ColumnsInRange
columns_in_range t w n Flow x = reading_most 0 2000 flow (curve_of t n) x (flows_of t w n)
columns_in_range t w n Speed x = reading_most 100 2000 speed (curve_of t n) x (speeds_of t w n)
