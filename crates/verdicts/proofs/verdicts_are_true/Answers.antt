use Rattle.verdicts.proofs.Judged.{meets_is_true, exceeds_is_true, undecided_is_true}
use Rattle.verdicts.proofs.verdicts_are_true.Goals as goal

pub returns : goal.returns
returns c = record { meets = meets_is_true; exceeds = exceeds_is_true; undecided = undecided_is_true }
