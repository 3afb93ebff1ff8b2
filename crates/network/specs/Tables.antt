-- What an element table holds.
use Rattle.std.specs.Prelude.{List}
use Rattle.network.specs.declared.Element.{Element}
use Rattle.network.specs.declared.ElementTable.{ElementTable}

abbrev pub listed : ElementTable → List Element
listed t = t.elements.items
