-- The network of a worksheet can be walked: its durations are bounded, and its points and persons are as they should be.
use Rattle.std.proofs.Common.{◌≡◌, ℕ, zero, suc, ◌+◌, ◌-◌, ◌*◌, ◌/◌, ◌^◌, ◌<◌, ◌≤◌, cond, eqb, List, length, sym, subst, ⊎_elim, mul-le-mul_left, arith}
use native.Mathlib.Nat.{div-zero}
use Rattle.std.proofs.lemmas.Bool.{cases_lt, eq-eqb, ne_eqb, cond-true, cond-false}
use Rattle.exact.specs.Fractions.{over}
use Rattle.exact.specs.Worked.{Worked, Encloses, exactly, falling}
use Rattle.exact.proofs.Rounding.{ceiling_le, ends_in_order}
use Rattle.network.specs.declared.Kind.{Kind}
use Rattle.network.specs.declared.Kind.TheVariants.{Corridor, Door, StairDown, StairUp}
use Rattle.network.specs.declared.Element.{Element}
use Rattle.network.specs.Lawful.{Within}
use Rattle.network.specs.Elements.{el}
use Rattle.network.specs.Ready.{Ready}
use Rattle.network.proofs.Readiness.{lawful_at}
use Rattle.sheet.specs.Lines.{WorkedLine, at, walk}
use Rattle.ways.specs.declared.End.{End}
use Rattle.ways.specs.declared.End.TheVariants.{Lower, Upper}
use Rattle.ways.specs.Routes.{duration_of, travel_of}
use Rattle.ways.specs.Ends.{by}
use Rattle.ways.specs.Facts.{Facts}
use Rattle.ways.specs.Walks.{Walkable}
use Rattle.ways.proofs.Listed.{rises, starts, ends}
use Rattle.ways.proofs.Joined.{worked_net}

-- k over anything, rounded up, is k at most
up_low : (k d : ℕ) → (k * 1 + (d - 1)) / d ≤ k
up_low k zero = omega (arith, div-zero (k * 1 + (0 - 1)))
up_low k (suc d) = ceiling_le k (k * 1) (suc d) (omega arith) (omega (arith, mul-le-mul_left k (let h : 1 ≤ suc d = omega arith in h)))

walk_low : (k : Kind) (len : ℕ) (v : Worked) → ((k ≡ Door → ⊥) → Within 100 len 100000) → (walk k len v).upper ≤ 100000000000000000
walk_low Corridor len v h = let l = (h (λ q. let z : ◌≡◌ {A = ℕ} 0 1 = cc in omega arith)).1 in omega (arith, up_low (len * 10 ^ 12) v.lower)
walk_low Door len v h = omega arith
walk_low StairDown len v h = let l = (h (λ q. let z : ◌≡◌ {A = ℕ} 0 1 = cc in omega arith)).1 in omega (arith, up_low (len * 10 ^ 12) v.lower)
walk_low StairUp len v h = let l = (h (λ q. let z : ◌≡◌ {A = ℕ} 0 1 = cc in omega arith)).1 in omega (arith, up_low (len * 10 ^ 12) v.lower)

by_low : (e : End) (w : Worked) (bound : ℕ) → w.lower ≤ w.upper → w.upper ≤ bound → by e w ≤ bound
by_low Lower w bound o h = omega arith
by_low Upper w bound o h = h

-- a duration, which is 0 where nobody passes
abbrev passing : ℕ → Worked → Worked
passing persons w = cond (eqb persons 0) (exactly 0) w

passing_low : (e : End) (persons bound : ℕ) (w : Worked) → (0 < persons → Encloses (passing persons w) × (w.upper ≤ bound)) → by e (passing persons w) ≤ bound
passing_low e persons bound w h =
    ⊎_elim
    (λ (some : 0 < persons).
    by_low e (passing persons w) bound (ends_in_order (passing persons w) (h some).0)
    (subst (λ (x : Worked). x.upper ≤ bound) (sym (cond-false (eqb persons 0) (exactly 0) w (ne_eqb persons 0 (λ z. omega arith)))) (h some).1))
    (λ (none : persons ≤ 0).
    subst (λ (x : Worked). by e x ≤ bound) (sym (cond-true (eqb persons 0) (exactly 0) w (eq-eqb persons 0 (omega arith))))
    (by_low e (exactly 0) bound (omega arith) (omega arith)))
    (cases_lt 0 persons)

module _ (es : List Element) (ls : List WorkedLine) (rd : Ready es) (fs : Facts es ls) (e : End) where
  duration_low : (i : ℕ) → i < length es → by e (duration_of ls i) ≤ 1000000000000
  duration_low i l =
      let w = at ls i in
      passing_low e w.persons 1000000000000 (falling (over (w.persons * 10 ^ 15)) w.flow)
      (λ some.
      let few = fs.few i (l, some) in
      let steady = fs.steady i (l, some) in
      ((fs.durations i (l, some)).0, ceiling_le 1000000000000 (w.persons * 10 ^ 15 * 1) w.flow.lower (omega arith) (omega arith)))

  travel_low : (i : ℕ) → i < length es → by e (travel_of es ls i) ≤ 100000000000000000
  travel_low i l =
      passing_low e (at ls i).persons 100000000000000000 (walk (el es i).kind (el es i).length (at ls i).speed)
      (λ some. ((fs.travels i (l, some)).0, walk_low (el es i).kind (el es i).length (at ls i).speed (lawful_at rd i l).long))

  pub worked_walkable : Walkable (worked_net e es ls)
  worked_walkable = record {
    size = rd.few;
    starts = starts es ls rd;
    ends = ends es ls rd;
    rises = rises es ls rd;
    some = fs.some;
    goes = fs.goes;
    came = fs.came;
    durations = duration_low;
    travels = travel_low;
  }
