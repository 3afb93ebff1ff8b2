-- The bytes of a number as to_be_bytes gives them.
use Rattle.std.proofs.Common.{◌≡◌, ℕ, ◌/◌, ◌%◌, [], ◌∷◌}
use native.Mathlib.Nat.{div-div-eq-div-mul}
use Rattle.layout.specs.Numbers.{bytes_of}

pub eight_bytes : (n : ℕ)
    → (n / 72057594037927936 % 256) ∷ (n / 281474976710656 % 256) ∷ (n / 1099511627776 % 256) ∷ (n / 4294967296 % 256)
    ∷ (n / 16777216 % 256) ∷ (n / 65536 % 256) ∷ (n / 256 % 256) ∷ (n % 256) ∷ [] ≡ bytes_of 8 n
eight_bytes n = simp div-div-eq-div-mul
