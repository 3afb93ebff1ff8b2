-- The elements of a network by their index, from 0.
use Rattle.std.specs.Prelude.{ℕ, zero, suc, ◌-◌, Bool, false, cond, ◌||◌, List, length, Some, None, Option, ◌==◌, slice_index_or}
use Rattle.exact.specs.Sums.{sum_below}
use Rattle.network.specs.declared.Kind.TheVariants.{Corridor}
use Rattle.network.specs.declared.Element.{Element}
use Rattle.network.specs.Sentences.{outside}

-- all zeros: what an index past the end reads
abbrev pub no_element : Element
no_element = record { kind = Corridor; from = 0; to = 0; width = 0; length = 0; persons = 0 }

abbrev pub el : List Element → ℕ → Element
el es i = slice_index_or es i no_element

-- the element with the number n, from 1
abbrev pub numbered : List Element → ℕ → Option Element
numbered es n = cond (outside 1 (length es) n) None (Some (el es (n - 1)))

-- the persons of all elements
abbrev pub aboard : List Element → ℕ
aboard es = sum_below (length es) (λ i. (el es i).persons)

-- the element at i leads to the point p, or away from it
abbrev pub comes : List Element → ℕ → ℕ → Bool
comes es p i = (el es i).to == p

abbrev pub leaves : List Element → ℕ → ℕ → Bool
leaves es p i = (el es i).from == p

-- whether anything below n passes a test
abbrev pub any_below : ℕ → (ℕ → Bool) → Bool
any_below zero t = false
any_below (suc n) t = any_below n t || t n

abbrev pub has_arrivals : List Element → ℕ → Bool
has_arrivals es p = any_below (length es) (comes es p)

abbrev pub has_departures : List Element → ℕ → Bool
has_departures es p = any_below (length es) (leaves es p)
