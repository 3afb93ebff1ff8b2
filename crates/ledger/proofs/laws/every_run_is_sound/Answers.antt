use Rattle.ledger.proofs.Reaches.{every_run_is_lawful}
use Rattle.ledger.proofs.Soundness.{every_run_is_sound}
use Rattle.ledger.proofs.laws.every_run_is_sound.Goals as goal

pub returns : goal.returns
returns c = record { lawful = every_run_is_lawful; sound = every_run_is_sound }
