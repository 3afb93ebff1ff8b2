-- The verdict that a number stands for.
use Rattle.std.specs.Prelude.{◌≡◌, ℕ, cond, Ok, Err, Result, IfOk}
use Rattle.network.specs.Sentences.{outside}
use Rattle.verdicts.specs.declared.Verdict.{Verdict}
use Rattle.verdicts.specs.declared.UnknownVerdict.{UnknownVerdict}
use Rattle.verdicts.specs.Verdicts.{verdict_number, verdict_of}

-- what reading a verdict from the number n gives: outside 1 to 3 the number itself is handed back
pub record IsVerdictNumbered (n : ℕ) (r : Result Verdict UnknownVerdict) : Type 0 where
  pub read : r ≡ cond (outside 1 3 n) (Err (record { 0 = n })) (Ok (verdict_of n))
  pub numbered : IfOk r (λ v. verdict_number v ≡ n)
