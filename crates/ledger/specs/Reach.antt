-- What every study keeps that calls can lead to.
use Rattle.std.specs.Prelude.{◌≡◌, ◌≤◌, List, length, Some}
use Rattle.std.specs.List.{AllByRecursion}
use Rattle.network.specs.declared.CaseData.{CaseData}
use Rattle.network.specs.Lawful.{LawfulElement, LawfulCase}
use Rattle.network.specs.Ready.{Ready}
use Rattle.ledger.specs.declared.Stage.TheVariants.{Closed}
use Rattle.ledger.specs.Ledger.{Ledger}
use Rattle.ledger.specs.Runs.{Event, Run}

-- case data is there, and the network is ready
pub record Assessable (l : Ledger) : Type 0 where
  pub case_set : (c : CaseData) × (l.case ≡ Some c)
  pub ready : Ready l.elements

pub record LawfulLedger (l : Ledger) : Type 0 where
  pub few : length l.elements ≤ 128
  pub elements_lawful : AllByRecursion LawfulElement l.elements
  pub case_lawful : (c : CaseData) → l.case ≡ Some c → LawfulCase c
  pub closed : l.stage ≡ Closed → Assessable l

-- whatever was called, and in whatever succession
abbrev pub EveryRunIsLawful : Type 0
EveryRunIsLawful = (h : List Event) (l : Ledger) → Run h l → LawfulLedger l
