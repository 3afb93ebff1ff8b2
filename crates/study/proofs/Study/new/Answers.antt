use Rattle.std.proofs.Common.{None, sym, ap, subst}
use Rattle.ledger.specs.declared.Stage.TheVariants.{Open}
use Rattle.ledger.specs.Ledger.{ledger_with}
use Rattle.ledger.specs.Reach.{LawfulLedger}
use Rattle.ledger.specs.Runs.{Run, start}
use Rattle.ledger.proofs.Reaches.{new_lawful}
use Rattle.study.proofs.Study.new.Goals as goal

pub invariant_of-result : goal.invariant_of-result
invariant_of-result c = record { lawful = ∣ subst LawfulLedger (sym (ap (ledger_with Open None) c.new.ensures)) new_lawful ∣₁ }

pub returns-clause-run : goal.returns-clause-run
returns-clause-run c = subst (Run _) (sym (ap (ledger_with Open None) c.new.ensures)) start
