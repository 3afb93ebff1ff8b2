-- What a closed study's elements are: a network that can be assessed.
use Rattle.std.specs.Prelude.{◌≡◌, ℕ, ◌≤◌, List, length}
use Rattle.std.specs.List.{AllByRecursion}
use Rattle.network.specs.declared.Element.{Element}
use Rattle.network.specs.Lawful.{LawfulElement}
use Rattle.network.specs.Elements.{aboard, has_arrivals, has_departures}

-- whoever comes to a point can leave it, and whoever leaves it has come
abbrev pub Tied : List Element → Type 0
Tied es = (p : ℕ) → 1 ≤ p → p ≤ 64 → has_arrivals es p ≡ has_departures es p

pub record Ready (es : List Element) : Type 0 where
  pub few : length es ≤ 128
  pub lawful : AllByRecursion LawfulElement es
  pub aboard_some : 1 ≤ aboard es
  pub aboard_most : aboard es ≤ 8000
  pub tied : Tied es
