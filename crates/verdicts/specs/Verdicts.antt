-- Score, bar and verdict.
use Rattle.std.specs.Prelude.{ℕ, ◌+◌, ◌-◌, ◌*◌, ◌≤◌, cond, ◌||◌, ◌==◌, nat_le, nat_lt}
use Rattle.exact.specs.Fractions.{Fraction}
use Rattle.walking.specs.Rules.{Rules, response_of, factor_of, limit_of}
use Rattle.network.specs.declared.CaseData.{CaseData}
use Rattle.verdicts.specs.declared.Verdict.{Verdict}
use Rattle.verdicts.specs.declared.Verdict.TheVariants.{Meets, Exceeds, Undecided}

abbrev pub verdict_number : Verdict → ℕ
verdict_number Meets = 1
verdict_number Exceeds = 2
verdict_number Undecided = 3

-- the verdict with the number n; only 1 to 3 are ever asked for, any other number reads as the last
abbrev pub verdict_of : ℕ → Verdict
verdict_of n = cond (n == 1) Meets (cond (n == 2) Exceeds Undecided)

-- embarkation and launching in seconds; a given 0 stands for 1,800
abbrev pub launching : CaseData → ℕ
launching c = cond (c.embarkation == 0) 1800 c.embarkation

-- The score of a time is 120 times the total duration of an evacuation, in microseconds: 1.25 times the response and the
-- travel, the latter taken times the factor in tenths, and two thirds of embarkation and launching.
-- What response and launching add to it:
abbrev pub fixed : Rules → CaseData → ℕ
fixed r c = 150 * response_of r c.case_number * 1000000 + 80 * launching c * 1000000

-- and what each microsecond adds
abbrev pub slope : Rules → CaseData → ℕ
slope r c = 15 * factor_of r c.case_number

abbrev pub score : Rules → CaseData → ℕ → ℕ
score r c t = fixed r c + slope r c * t

-- 120 times the limit
abbrev pub bar : Rules → CaseData → ℕ
bar r c = 7200000000 * limit_of r c.ship_kind c.zones

abbrev pub verdict : Rules → CaseData → ℕ → ℕ → Verdict
verdict r c lower upper =
    cond (nat_lt 1800 (launching c) || nat_lt (bar r c) (score r c lower)) Exceeds
    (cond (nat_le (score r c upper) (bar r c)) Meets Undecided)

-- an exact time keeps the limit
pub record Keeps (r : Rules) (c : CaseData) (t : Fraction) : Type 0 where
  pub launched : launching c ≤ 1800
  pub within : fixed r c * t.den + slope r c * t.num ≤ bar r c * t.den

-- a thousandth of the lower end and a millisecond, in microseconds
abbrev pub margin : ℕ → Fraction
margin lower = record { num = lower + 1000000; den = 1000 }

-- x less y, 0 if negative
abbrev pub less : Fraction → Fraction → Fraction
less x y = record { num = x.num * y.den - y.num * x.den; den = x.den * y.den }
