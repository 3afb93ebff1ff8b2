-- What each verdict says of an exact time between the two ends.
use Rattle.std.specs.Prelude.{◌≡◌, ℕ, ◌+◌, ◌*◌, ◌≤◌}
use Rattle.exact.specs.Fractions.{Fraction, Proper, ◌≤ᶠ◌, whole, plus}
use Rattle.walking.specs.Rules.{Rules}
use Rattle.network.specs.declared.CaseData.{CaseData}
use Rattle.verdicts.specs.declared.Verdict.TheVariants.{Meets, Exceeds, Undecided}
use Rattle.verdicts.specs.Verdicts.{verdict, Keeps, margin, less}

-- the exact time t lies between the ends l and u
pub record Between (l : ℕ) (t : Fraction) (u : ℕ) : Type 0 where
  pub proper : Proper t
  pub low : whole l ≤ᶠ t
  pub high : t ≤ᶠ whole u

abbrev pub MeetsIsTrue : Type 0
MeetsIsTrue = (r : Rules) (c : CaseData) (l u : ℕ) (t : Fraction) → Between l t u → verdict r c l u ≡ Meets → Keeps r c t

abbrev pub ExceedsIsTrue : Type 0
ExceedsIsTrue = (r : Rules) (c : CaseData) (l u : ℕ) (t : Fraction) → Between l t u → verdict r c l u ≡ Exceeds → Keeps r c t → ⊥

-- where the ends are a thousandth and a millisecond apart at most
abbrev pub UndecidedIsTrue : Type 0
UndecidedIsTrue = (r : Rules) (c : CaseData) (l u : ℕ) (t : Fraction) → Between l t u → 1000 * u ≤ 1001 * l + 1000000 → verdict r c l u ≡ Undecided
    → Keeps r c (less t (margin l)) × (Keeps r c (plus t (margin l)) → ⊥)
