use Rattle.std.proofs.Common.{rules}
use Rattle.network.proofs.Drafts.{exactly_lawful}
use Rattle.network.proofs.checks.check_element.Goals as goal

pub returns-clause-lawful : goal.returns-clause-lawful
returns-clause-lawful c = exactly_lawful c.args.draft c.args.number c.checked.result (search rules)
