-- What a type keeps is known as a fact that has no proof to show; here the proofs come back.
use Rattle.std.proofs.Common.{ℕ, ◌<◌, false, List, [], ◌∷◌, length}
use mathlib.Core.Logic.{∥∥₁_elim, ∥∥₁_map}
use mathlib.Core.HLevel.{Unit-prop, ×_prop}
use mathlib.Core.Bool.{Bool-set}
use native.Mathlib.Bridge.{le_prop}
use Rattle.std.specs.List.{AllByRecursion}
use Rattle.network.specs.declared.Element.{Element}
use Rattle.network.specs.Sentences.{Sentence}
use Rattle.network.specs.Checks.{measure_sentences}
use Rattle.network.specs.Lawful.{LawfulElement}
use Rattle.network.specs.Elements.{el}
use Rattle.network.specs.Ready.{Ready}
use Rattle.network.proofs.First.{NoneTrue}
use Rattle.network.proofs.Rules.{lawful_element, element_passes}
use Rattle.network.proofs.Readiness.{lawful_at}

pub none_prop : (ss : List Sentence) → IsProp (NoneTrue ss)
none_prop [] = Unit-prop
none_prop (s ∷ ss) = ×_prop (Bool-set s.holds false) (none_prop ss)

pub element_stands : {e : Element} → ∥ LawfulElement e ∥₁ → LawfulElement e
element_stands {e} t = lawful_element e 0 (∥∥₁_elim t (none_prop (measure_sentences e 0)) (element_passes e 0))

pub elements_stand : (es : List Element) → ∥ AllByRecursion LawfulElement es ∥₁ → AllByRecursion LawfulElement es
elements_stand [] t = tt
elements_stand (e ∷ es) t = (element_stands (∥∥₁_map t (λ a. a.0)), elements_stand es (∥∥₁_map t (λ a. a.1)))

pub ready_stands : {es : List Element} → ∥ Ready es ∥₁ → Ready es
ready_stands {es} t = record {
  few = ∥∥₁_elim t le_prop (λ r. r.few);
  lawful = elements_stand es (∥∥₁_map t (λ r. r.lawful));
  aboard_some = ∥∥₁_elim t le_prop (λ r. r.aboard_some);
  aboard_most = ∥∥₁_elim t le_prop (λ r. r.aboard_most);
  tied = λ p one few. ∥∥₁_elim t (Bool-set _ _) (λ r. r.tied p one few);
}

-- each element of a network that is ready is lawful
pub each_lawful : {es : List Element} → ∥ Ready es ∥₁ → (i : ℕ) → i < length es → ∥ LawfulElement (el es i) ∥₁
each_lawful t i lt = ∥∥₁_map t (λ r. lawful_at r i lt)
