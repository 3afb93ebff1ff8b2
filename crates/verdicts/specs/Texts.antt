-- What verdicts and findings print.
use Rattle.std.specs.Prelude.{ℕ, List, ◌++◌, codes, decimal}
use Rattle.verdicts.specs.declared.Finding.{Finding}
use Rattle.verdicts.specs.declared.Verdict.{Verdict}
use Rattle.verdicts.specs.declared.Verdict.TheVariants.{Meets, Exceeds, Undecided}

abbrev pub verdict_text : Verdict → List ℕ
verdict_text Meets = codes "meets the limit"
verdict_text Exceeds = codes "exceeds the limit"
verdict_text Undecided = codes "undecided"

abbrev pub finding_text : Finding → List ℕ
finding_text f =
    (decimal f.time.lower ++ codes " to " ++ decimal f.time.upper)
    ++ (codes " microseconds, governed by element " ++ (decimal f.governing ++ (codes ": " ++ verdict_text f.verdict)))
