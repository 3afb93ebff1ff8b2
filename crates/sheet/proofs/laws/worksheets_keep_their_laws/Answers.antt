use Rattle.sheet.proofs.Crowds.{shares_add_up, out_is_in, everyone_arrives, persons_bounded, arrivals_bounded, sheet_goes_on, sheet_came_on, sheet_some_cross}
use Rattle.sheet.proofs.LineLaws.{flows_enclose, speeds_enclose, flows_near, speeds_near, sheet_speeds_in_range, flows_in_range}
use Rattle.sheet.proofs.Durations.{flow_durations_near, travels_near}
use Rattle.sheet.proofs.Only.{sheet_is_worksheet, only_worksheet}
use Rattle.sheet.proofs.laws.worksheets_keep_their_laws.Goals as goal

pub returns : goal.returns
returns c = record {
  shares = shares_add_up;
  out = out_is_in;
  arrive = everyone_arrives;
  persons = persons_bounded;
  arrivals = arrivals_bounded;
  goes = sheet_goes_on;
  came = sheet_came_on;
  some = sheet_some_cross;
  flows = flows_enclose;
  speeds = speeds_enclose;
  flow_ends = flows_near;
  speed_ends = speeds_near;
  speed_range = sheet_speeds_in_range;
  flow_range = flows_in_range;
  flow_durations = flow_durations_near;
  travels = travels_near;
  equations = sheet_is_worksheet;
  only = only_worksheet;
}
