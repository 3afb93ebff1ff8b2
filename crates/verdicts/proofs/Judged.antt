-- What each verdict says of an exact time between the ends.
use Rattle.std.proofs.Common.{◌≡◌, ℕ, ◌+◌, ◌-◌, ◌*◌, ◌<◌, ◌≤◌, Bool, true, false, cond, ◌||◌, ltb, leb, ⊎_elim, mul-le-mul_right, mul-le-mul_left, arith}
use Rattle.std.proofs.lemmas.Bool.{leb-true, leb-false, ltb-true, ltb-false, or_cases, or_parts}
use Rattle.exact.specs.Fractions.{Fraction, plus}
use Rattle.walking.specs.Rules.{Rules}
use Rattle.network.specs.declared.CaseData.{CaseData}
use Rattle.verdicts.specs.declared.Verdict.{Verdict}
use Rattle.verdicts.specs.declared.Verdict.TheVariants.{Meets, Exceeds, Undecided}
use Rattle.verdicts.specs.Laws.{Between, MeetsIsTrue, ExceedsIsTrue, UndecidedIsTrue}
use Rattle.verdicts.specs.Verdicts.{launching, fixed, slope, score, bar, verdict, Keeps, margin, less}

abbrev judged : Bool → Bool → Verdict
judged x y = cond x Exceeds (cond y Meets Undecided)

is_meets : (x y : Bool) → judged x y ≡ Meets → (x ≡ false) × (y ≡ true)
is_meets x y e = grind arith

is_exceeds : (x y : Bool) → judged x y ≡ Exceeds → x ≡ true
is_exceeds x y e = grind arith

is_undecided : (x y : Bool) → judged x y ≡ Undecided → (x ≡ false) × (y ≡ false)
is_undecided x y e = grind arith

-- ---- over plain numbers: f the fixed part, s the slope, b the bar, n / d the time, l and u its ends

meets_number : (f s b n d u : ℕ) → n * 1 ≤ u * d → f + s * u ≤ b → f * d + s * n ≤ b * d
meets_number f s b n d u h k = omega (arith, mul-le-mul_left s h, mul-le-mul_right d k)

exceeds_number : (f s b n d l : ℕ) → 0 < d → l * d ≤ n * 1 → b < f + s * l → f * d + s * n ≤ b * d → ⊥
exceeds_number f s b n d l p h k w = omega (arith, mul-le-mul_left s h, mul-le-mul_right d k)

below_number : (f s b n d l u : ℕ) → n * 1 ≤ u * d → 1000 * u ≤ 1001 * l + 1000000 → f + s * l ≤ b
    → f * (d * 1000) + s * (n * 1000 - (l + 1000000) * d) ≤ b * (d * 1000)
below_number f s b n d l u h c k =
    let m : n * 1000 - (l + 1000000) * d ≤ 1000 * (l * d) = omega (arith, mul-le-mul_right d c) in
    omega (arith, mul-le-mul_left s m, mul-le-mul_right d k)

above_number : (f s b n d l u : ℕ) → 0 < d → l * d ≤ n * 1 → 1000 * u ≤ 1001 * l + 1000000 → b < f + s * u
    → f * (d * 1000) + s * (n * 1000 + (l + 1000000) * d) ≤ b * (d * 1000) → ⊥
above_number f s b n d l u p h c k w =
    let m : 1000 * (u * d) ≤ n * 1000 + (l + 1000000) * d = omega (arith, mul-le-mul_right d c) in
    omega (arith, mul-le-mul_left s m, mul-le-mul_right d k)

module _ (r : Rules) (c : CaseData) (l u : ℕ) (t : Fraction) (between : Between l t u) where
  if_meets : verdict r c l u ≡ Meets → Keeps r c t
  if_meets e =
      let q = is_meets (ltb 1800 (launching c) || ltb (bar r c) (score r c l)) (leb (score r c u) (bar r c)) e in
      let o = or_parts (ltb 1800 (launching c)) (ltb (bar r c) (score r c l)) q.0 in
      record {
        launched = ltb-false 1800 (launching c) o.0;
        within = meets_number (fixed r c) (slope r c) (bar r c) t.num t.den u between.high (leb-true (score r c u) (bar r c) q.1);
      }

  if_exceeds : verdict r c l u ≡ Exceeds → Keeps r c t → ⊥
  if_exceeds e k =
      let q = is_exceeds (ltb 1800 (launching c) || ltb (bar r c) (score r c l)) (leb (score r c u) (bar r c)) e in
      ⊎_elim
      (λ x. let a = ltb-true 1800 (launching c) x in let b = k.launched in omega arith)
      (λ x. exceeds_number (fixed r c) (slope r c) (bar r c) t.num t.den l between.proper between.low (ltb-true (bar r c) (score r c l) x) k.within)
      (or_cases (ltb 1800 (launching c)) (ltb (bar r c) (score r c l)) q)

  if_undecided : 1000 * u ≤ 1001 * l + 1000000 → verdict r c l u ≡ Undecided → Keeps r c (less t (margin l)) × (Keeps r c (plus t (margin l)) → ⊥)
  if_undecided near e =
      let q = is_undecided (ltb 1800 (launching c) || ltb (bar r c) (score r c l)) (leb (score r c u) (bar r c)) e in
      let o = or_parts (ltb 1800 (launching c)) (ltb (bar r c) (score r c l)) q.0 in (
        record {
          launched = ltb-false 1800 (launching c) o.0;
          within = below_number (fixed r c) (slope r c) (bar r c) t.num t.den l u between.high near (ltb-false (bar r c) (score r c l) o.1);
        },
        (λ k. above_number (fixed r c) (slope r c) (bar r c) t.num t.den l u between.proper between.low near (leb-false (score r c u) (bar r c) q.1) k.within),
      )

pub meets_is_true : MeetsIsTrue
meets_is_true r c l u t b e = if_meets r c l u t b e

pub exceeds_is_true : ExceedsIsTrue
exceeds_is_true r c l u t b e k = if_exceeds r c l u t b e k

pub undecided_is_true : UndecidedIsTrue
undecided_is_true r c l u t b near e = if_undecided r c l u t b near e
