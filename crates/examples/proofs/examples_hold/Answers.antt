use Rattle.std.proofs.Common.{refl}
use Rattle.exact.specs.Worked.{fractions}
use Rattle.exact.specs.Sums.{sum_below}
use Rattle.sheet.specs.Shares.{width_out, before, left_over, share}
use Rattle.sheet.specs.Points.{persons_in, flows_in, specific_flow_in, leaving}
use Rattle.sheet.specs.Sources.{source}
use Rattle.sheet.specs.Sheet.{worked, sheet}
use Rattle.ways.specs.Routes.{time}
use Rattle.ways.specs.Ends.{ways, routes, greatest_time}
use Rattle.examples.proofs.examples_hold.Goals as goal

pub returns : goal.returns
unfolding fractions sum_below width_out before left_over share persons_in flows_in specific_flow_in leaving source worked sheet time ways routes greatest_time
returns c = refl
