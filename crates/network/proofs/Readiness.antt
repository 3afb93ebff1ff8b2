-- One element of a network that is ready.
use Rattle.std.proofs.Common.{ℕ, ◌<◌, List, length}
use Rattle.std.proofs.ByRecursion.{All-get_or}
use Rattle.network.specs.declared.Element.{Element}
use Rattle.network.specs.Lawful.{LawfulElement}
use Rattle.network.specs.Elements.{el, no_element}
use Rattle.network.specs.Ready.{Ready}

pub lawful_at : {es : List Element} → Ready es → (i : ℕ) → i < length es → LawfulElement (el es i)
lawful_at {es} ready i lt = All-get_or LawfulElement es i no_element lt ready.lawful
