-- How the persons who come to a point are shared by the elements that leave it: by largest remainders.
use Rattle.std.specs.Prelude.{ℕ, ◌+◌, ◌-◌, ◌*◌, ◌/◌, ◌%◌, Bool, cond, ◌&&◌, ◌||◌, List, length, ◌==◌, nat_lt}
use Rattle.exact.specs.Sums.{sum_where, count_where}
use Rattle.network.specs.declared.Element.{Element}
use Rattle.network.specs.Elements.{el, leaves}

-- the width of all that leaves p
unfoldable pub width_out : List Element → ℕ → ℕ
width_out es p = sum_where (length es) (leaves es p) (λ i. (el es i).width)

-- what the width of element i gives it of n persons, and what is left of that division
abbrev pub part : List Element → ℕ → ℕ → ℕ → ℕ
part es p n i = n * (el es i).width / width_out es p

abbrev pub remainder : List Element → ℕ → ℕ → ℕ → ℕ
remainder es p n i = n * (el es i).width % width_out es p

-- j is served before i: a larger remainder, or an equal one and a lower number
unfoldable pub before : List Element → ℕ → ℕ → ℕ → ℕ → Bool
before es p n i j =
    leaves es p j && (nat_lt (remainder es p n i) (remainder es p n j) || (remainder es p n i == remainder es p n j && nat_lt j i))

unfoldable pub left_over : List Element → ℕ → ℕ → ℕ
left_over es p n = n - sum_where (length es) (leaves es p) (part es p n)

-- one more where fewer are served before i than persons are left over
unfoldable pub share : List Element → ℕ → ℕ → ℕ → ℕ
share es p n i = part es p n i + cond (nat_lt (count_where (length es) (before es p n i)) (left_over es p n)) 1 0
