-- The rules of elements and of case data, in words.
use Rattle.std.specs.Prelude.{◌≡◌, ℕ, ◌<◌, ◌≤◌, ◌⊎◌, ◌≢◌}
use Rattle.network.specs.declared.Kind.TheVariants.{Corridor, Door}
use Rattle.network.specs.declared.Draft.{Draft}
use Rattle.network.specs.declared.Element.{Element}
use Rattle.network.specs.declared.CaseData.{CaseData}
use Rattle.network.specs.Checks.{element_of}

abbrev pub Within : ℕ → ℕ → ℕ → Type 0
Within low x high = (low ≤ x) × (x ≤ high)

pub record LawfulElement (e : Element) : Type 0 where
  pub wide : 500 ≤ e.width
  pub narrow : e.width ≤ 10000
  -- a door has no length, anything else has one
  pub door : e.kind ≡ Door → e.length ≡ 0
  pub long : (e.kind ≢ Door) → Within 100 e.length 100000
  -- its points, and that it leads to a later point or to the assembly station
  pub starts : e.from ≤ 64
  pub ends : e.to ≤ 64
  pub rises : (e.from ≡ 0) ⊎ ((e.to ≡ 0) ⊎ (e.from < e.to))
  -- persons start in the corridors and doors that are sources
  pub few : e.persons ≤ 8000
  pub seated : 0 < e.persons → (e.from ≡ 0) × ((e.kind ≡ Corridor) ⊎ (e.kind ≡ Door))

-- a draft of a lawful element
pub record LawfulDraft (d : Draft) : Type 0 where
  pub known : Within 1 d.kind 4
  pub lawful : LawfulElement (element_of d)

pub record LawfulCase (c : CaseData) : Type 0 where
  pub case : Within 1 c.case_number 4
  pub ship : Within 1 c.ship_kind 2
  pub zones : Within 1 c.zones 20
  pub embarkation : c.embarkation ≤ 7200
