-- The laws of walking tables, column by column, as reading wants them.
use Rattle.std.proofs.Common.{◌≡◌, ℕ, ◌≤◌, List, [], ◌∷◌, length, arith}
use Rattle.walking.specs.Curves.{Row, Curve, entry, flow, speed, row_at}
use Rattle.walking.specs.Laws.{Within, Each, DensityRow, DensityStep, DensityLaw, FlowRow, FlowStep, FlowLaw}
use Rattle.walking.specs.Laws.{Onward as EachStep, EachStep as CurveSteps}
use Rattle.curves.specs.declared.Column.{Column}
use Rattle.curves.specs.declared.Column.TheVariants.{Flow, Speed}
use Rattle.curves.specs.Reading.{values}
use Rattle.curves.proofs.Steps.{Rises, Falls, Slowly, Gently}

pub steps_so : (P Q : Row → Row → Type 0) → ((a b : Row) → P a b → Q a b) → (a : Row) (rest : List Row) → EachStep P a rest → EachStep Q a rest
steps_so P Q f a [] h = tt
steps_so P Q f a (b ∷ rest) h = (f a b h.0, steps_so P Q f b rest h.1)

pub each_so : (P Q : Row → Type 0) → ((a : Row) → P a → Q a) → (rows : List Row) → Each P rows → Each Q rows
each_so P Q f [] h = tt
each_so P Q f (a ∷ rest) h = (f a h.0, each_so P Q f rest h.1)

-- a row's values lie in this range
abbrev pub In : (lo hi : ℕ) → (Row → ℕ) → Row → Type 0
In lo hi col r = Within lo (col r) hi

-- a column of a curve by density
pub record Gentle (col : Row → ℕ) (a : Row) (rest : List Row) : Type 0 where
  pub zero_first : entry a ≡ 0
  pub rises : EachStep Rises a rest
  pub gently : EachStep (Gently col) a rest

gently_step : (k : Column) (x y : Row) → DensityStep x y → Gently (values k) x y
gently_step Flow x y h = h.flow_apart
gently_step Speed x y h = h.speed_apart

pub gentle : (k : Column) (a : Row) (rest : List Row) → DensityLaw (a ∷ rest) → Gentle (values k) a rest
gentle k a rest l = record {
  zero_first = l.starts;
  rises = steps_so DensityStep Rises (λ x y h. h.rises) a rest l.steps;
  gently = steps_so DensityStep (Gently (values k)) (gently_step k) a rest l.steps;
}

-- the speeds of a curve by specific flow
pub record FallingCurve (a : Row) (rest : List Row) : Type 0 where
  pub zero_first : entry a ≡ 0
  pub rises : EachStep Rises a rest
  pub falls : EachStep (Falls speed) a rest
  pub slowly : EachStep (Slowly speed) a rest

pub falling_curve : (a : Row) (rest : List Row) → FlowLaw (a ∷ rest) → FallingCurve a rest
falling_curve a rest l = record {
  zero_first = l.starts;
  rises = steps_so FlowStep Rises (λ x y h. h.rises) a rest l.steps;
  falls = steps_so FlowStep (Falls speed) (λ x y h. h.falls) a rest l.steps;
  slowly = steps_so FlowStep (Slowly speed) (λ x y h. h.slowly) a rest l.steps;
}

-- any curve: rising from 0, with a column in a range
pub record Ranged (lo hi : ℕ) (col : Row → ℕ) (a : Row) (rest : List Row) : Type 0 where
  pub zero_first : entry a ≡ 0
  pub rises : EachStep Rises a rest
  pub within : Each (In lo hi col) (a ∷ rest)

-- the same of a whole curve, which has rows
abbrev pub RangedCurve : ℕ → ℕ → (Row → ℕ) → Curve → Type 0
RangedCurve lo hi col [] = ⊥
RangedCurve lo hi col (a ∷ rest) = Ranged lo hi col a rest

-- a curve whose rows and steps keep laws that give the range and the rise
ranged : (P : Row → Type 0) (S : Row → Row → Type 0) (lo hi : ℕ) (col : Row → ℕ) → ((x : Row) → P x → In lo hi col x) → ((x y : Row) → S x y → Rises x y)
    → (c : Curve) → 2 ≤ length c → entry (row_at c 0) ≡ 0 → Each P c → CurveSteps S c → RangedCurve lo hi col c
ranged P S lo hi col within rises [] few zero rows steps = omega (arith, few)
ranged P S lo hi col within rises (a ∷ rest) few zero rows steps = record {
  zero_first = zero;
  rises = steps_so S Rises rises a rest steps;
  within = each_so P (In lo hi col) within (a ∷ rest) rows;
}

by_density : (lo hi : ℕ) (col : Row → ℕ) → ((x : Row) → DensityRow x → In lo hi col x) → (c : Curve) → DensityLaw c → RangedCurve lo hi col c
by_density lo hi col within c l = ranged DensityRow DensityStep lo hi col within (λ x y h. h.rises) c l.few.0 l.starts l.rows l.steps

by_flow : (lo hi : ℕ) (col : Row → ℕ) → ((x : Row) → FlowRow x → In lo hi col x) → (c : Curve) → FlowLaw c → RangedCurve lo hi col c
by_flow lo hi col within c l = ranged FlowRow FlowStep lo hi col within (λ x y h. h.rises) c l.few.0 l.starts l.rows l.steps

pub speeds_of_density : (c : Curve) → DensityLaw c → RangedCurve 100 2000 speed c
speeds_of_density c l = by_density 100 2000 speed (λ x h. h.speeds) c l

pub flows_of_density : (c : Curve) → DensityLaw c → RangedCurve 0 2000 flow c
flows_of_density c l = by_density 0 2000 flow (λ x h. (omega arith, h.flows)) c l

pub speeds_of_flow : (c : Curve) → FlowLaw c → RangedCurve 100 2000 speed c
speeds_of_flow c l = by_flow 100 2000 speed (λ x h. h.speeds) c l

pub flows_of_flow : (c : Curve) → FlowLaw c → RangedCurve 0 2000 flow c
flows_of_flow c l = by_flow 0 2000 flow (λ x h. (omega arith, omega (arith, h.same, h.ends))) c l
