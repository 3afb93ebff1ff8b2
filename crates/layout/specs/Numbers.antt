-- Numbers in bytes, the highest first.
use Rattle.std.specs.Prelude.{ℕ, zero, suc, ◌+◌, ◌*◌, ◌/◌, ◌%◌, Bool, true, ◌&&◌, List, [], ◌∷◌, ◌++◌, ◌==◌, slice_index}

-- the w bytes of a number
abbrev pub bytes_of : ℕ → ℕ → List ℕ
bytes_of zero n = []
bytes_of (suc w) n = bytes_of w (n / 256) ++ (n % 256) ∷ []

-- the number that the w bytes from index i on write
abbrev pub number_at : ℕ → ℕ → List ℕ → ℕ
number_at i zero bs = 0
number_at i (suc w) bs = number_at i w bs * 256 + slice_index bs (i + w)

-- the w bytes from index i on are 0
abbrev pub zeros_at : ℕ → ℕ → List ℕ → Bool
zeros_at i zero bs = true
zeros_at i (suc w) bs = zeros_at i w bs && slice_index bs (i + w) == 0
