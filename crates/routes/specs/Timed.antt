-- The network that a program walks, with the times that it adds up.
use Rattle.ways.specs.Walks.{Net, net_of}
use Rattle.routes.specs.declared.timed.TimedNetwork.{TimedNetwork}

abbrev pub timed_net : TimedNetwork → Net
timed_net t = net_of t.end t.elements.now t.lines.now
