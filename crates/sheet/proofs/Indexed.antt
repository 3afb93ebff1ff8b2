-- What a ready network keeps, element by element.
use Rattle.std.proofs.Common.{◌≡◌, ℕ, ◌<◌, ◌≤◌, ◌⊎◌, List, length, inl, inr, arith}
use Rattle.std.proofs.lemmas.Bool.{cases_eq}
use Rattle.network.specs.declared.Kind.TheVariants.{Corridor, Door}
use Rattle.network.specs.declared.Element.{Element}
use Rattle.network.specs.Elements.{el, comes, leaves, aboard, any_below}
use Rattle.network.specs.Ready.{Ready}
use Rattle.network.proofs.Readiness.{lawful_at}

pub record Indexed (es : List Element) : Type 0 where
  pub few : length es ≤ 128
  pub wide : (i : ℕ) → i < length es → 500 ≤ (el es i).width
  pub thin : (i : ℕ) → i < length es → (el es i).width ≤ 10000
  pub long : (i : ℕ) → i < length es → ((el es i).kind ≡ Door → ⊥) → (100 ≤ (el es i).length) × ((el es i).length ≤ 100000)
  pub starts : (i : ℕ) → i < length es → (el es i).from ≤ 64
  pub ends : (i : ℕ) → i < length es → (el es i).to ≤ 64
  pub onward : (i : ℕ) → i < length es → ((el es i).to ≡ 0) ⊎ ((el es i).from < (el es i).to)
  pub crowd : (i : ℕ) → i < length es → (el es i).persons ≤ 8000
  pub seated : (i : ℕ) → i < length es → 0 < (el es i).persons → ((el es i).from ≡ 0) × (((el es i).kind ≡ Corridor) ⊎ ((el es i).kind ≡ Door))
  pub aboard_some : 1 ≤ aboard es
  pub aboard_most : aboard es ≤ 8000
  pub tied : (p : ℕ) → 1 ≤ p → p ≤ 64 → any_below (length es) (comes es p) ≡ any_below (length es) (leaves es p)

to_or_on : (from to : ℕ) → (from ≡ 0) ⊎ ((to ≡ 0) ⊎ (from < to)) → (to ≡ 0) ⊎ (from < to)
to_or_on from to (inl z) = elim (cases_eq to 0) [ inl e ↦ inl e | inr ne ↦ inr (omega arith) ]
to_or_on from to (inr h) = h

pub indexed : {es : List Element} → Ready es → Indexed es
indexed {es} r = record {
  few = r.few;
  wide = λ i l. (lawful_at r i l).wide;
  thin = λ i l. (lawful_at r i l).narrow;
  long = λ i l. (lawful_at r i l).long;
  starts = λ i l. (lawful_at r i l).starts;
  ends = λ i l. (lawful_at r i l).ends;
  onward = λ i l. to_or_on (el es i).from (el es i).to (lawful_at r i l).rises;
  crowd = λ i l. (lawful_at r i l).few;
  seated = λ i l. (lawful_at r i l).seated;
  aboard_some = r.aboard_some;
  aboard_most = r.aboard_most;
  tied = r.tied;
}
