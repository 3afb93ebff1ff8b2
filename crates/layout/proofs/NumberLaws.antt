-- A number and its bytes, over any width.
use Rattle.std.proofs.Common.{◌≡◌, ℕ, zero, suc, ◌+◌, ◌*◌, ◌/◌, ◌%◌, ◌^◌, ◌<◌, ◌≤◌, true, eqb, List, [], ◌∷◌, ◌++◌, length, get_or, replicate, sym, refl, ap, ◌∙◌, pow-suc, arith}
use Rattle.std.proofs.lemmas.List.{get_or_append_left, get_or_push, length_push}
use Rattle.std.proofs.lemmas.Bool.{and_parts, eqb-true}
use Rattle.layout.specs.Numbers.{bytes_of, number_at, zeros_at}

pub length_bytes : (w n : ℕ) → length (bytes_of w n) ≡ w
length_bytes zero n = refl
length_bytes (suc w) n = length_push (bytes_of w (n / 256)) (n % 256) ∙ omega (arith, length_bytes w (n / 256))

-- what follows the bytes does not matter
number_append : (w : ℕ) (xs ys : List ℕ) → w ≤ length xs → number_at 0 w (xs ++ ys) ≡ number_at 0 w xs
number_append zero xs ys h = refl
number_append (suc w) xs ys h =
    let a = number_append w xs ys (omega arith) in
    let z : 0 + w ≡ w = omega arith in
    let b = ap (λ k. get_or (xs ++ ys) k 0) z ∙ get_or_append_left xs ys 0 w (omega arith) ∙ ap (λ k. get_or xs k 0) (sym z) in
    λ i. a i * 256 + b i

pub number_of_bytes : (w n : ℕ) → n < 256 ^ w → number_at 0 w (bytes_of w n) ≡ n
number_of_bytes zero n h = omega arith
number_of_bytes (suc w) n h =
    let q = n / 256 in
    let less : q < 256 ^ w = omega (arith, pow-suc 256 w) in
    let a = number_append w (bytes_of w q) ((n % 256) ∷ []) (omega (arith, length_bytes w q)) ∙ number_of_bytes w q less in
    let b = get_or_push (bytes_of w q) (n % 256) 0 (0 + w) (length_bytes w q ∙ omega arith) in
    (λ i. a i * 256 + b i) ∙ omega arith

-- the w bytes from index i on
abbrev pub part : ℕ → ℕ → List ℕ → List ℕ
part i zero bs = []
part i (suc w) bs = part i w bs ++ get_or bs (i + w) 0 ∷ []

pub bytes_of_number : (i w : ℕ) (bs : List ℕ) → ((k : ℕ) → get_or bs k 0 < 256) → bytes_of w (number_at i w bs) ≡ part i w bs
bytes_of_number i zero bs small = refl
bytes_of_number i (suc w) bs small =
    let m = number_at i w bs in
    let b = get_or bs (i + w) 0 in
    let low = small (i + w) in
    let q : (m * 256 + b) / 256 ≡ m = omega arith in
    let r : (m * 256 + b) % 256 ≡ b = omega arith in
    let e = ap (bytes_of w) q ∙ bytes_of_number i w bs small in
    λ j. e j ++ r j ∷ []

-- and if they are zeros
pub zeros_are : (i w : ℕ) (bs : List ℕ) → zeros_at i w bs ≡ true → part i w bs ≡ replicate w 0
zeros_are i zero bs e = refl
zeros_are i (suc w) bs e =
    let p = and_parts (zeros_at i w bs) (eqb (get_or bs (i + w) 0) 0) e in
    let a = zeros_are i w bs p.0 in
    let b = eqb-true (get_or bs (i + w) 0) 0 p.1 in
    (λ j. a j ++ b j ∷ []) ∙ more w 0
  where
    more : (n z : ℕ) → replicate n z ++ z ∷ [] ≡ replicate (suc n) z
    more zero z = refl
    more (suc n) z = ap (λ t. z ∷ t) (more n z)
