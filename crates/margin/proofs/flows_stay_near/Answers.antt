use Rattle.margin.proofs.Enclosing.{flows_hold, points_hold}
use Rattle.margin.proofs.Widening.{point_widens}
use Rattle.margin.proofs.Flight.{flight_near, flows_near, specific_near}
use Rattle.margin.proofs.flows_stay_near.Goals as goal

pub returns : goal.returns
returns c = record { flows = flows_hold; points = points_hold; widens = point_widens; flight = flight_near; near = flows_near; specific = specific_near }
