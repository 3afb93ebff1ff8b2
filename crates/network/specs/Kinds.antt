-- The kinds of elements and their numbers.
use Rattle.std.specs.Prelude.{◌≡◌, ℕ, Bool, true, false, cond, ◌==◌, Ok, Err, Result, IfOk}
use Rattle.network.specs.declared.Kind.{Kind}
use Rattle.network.specs.declared.Kind.TheVariants.{Corridor, Door, StairDown, StairUp}
use Rattle.network.specs.declared.UnknownKind.{UnknownKind}
use Rattle.network.specs.Sentences.{outside}

abbrev pub kind_number : Kind → ℕ
kind_number Corridor = 1
kind_number Door = 2
kind_number StairDown = 3
kind_number StairUp = 4

-- the kind with the number n; only 1 to 4 are ever asked for, any other number reads as the last
abbrev pub kind_of : ℕ → Kind
kind_of n = cond (n == 1) Corridor (cond (n == 2) Door (cond (n == 3) StairDown StairUp))

-- what reading a kind from the number n gives: outside 1 to 4 the number itself is handed back
pub record IsKindNumbered (n : ℕ) (r : Result Kind UnknownKind) : Type 0 where
  pub read : r ≡ cond (outside 1 4 n) (Err (record { 0 = n })) (Ok (kind_of n))
  pub numbered : IfOk r (λ k. kind_number k ≡ n)

abbrev pub is_stair : Kind → Bool
is_stair Corridor = false
is_stair Door = false
is_stair StairDown = true
is_stair StairUp = true
