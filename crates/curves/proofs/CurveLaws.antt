-- Reading a column of a curve: falling, falling slowly, and between two neighbouring whole numbers.
use Rattle.std.proofs.Common.{◌≡◌, ℕ, ◌+◌, ◌-◌, ◌*◌, ◌<◌, ◌≤◌, leb, List, [], ◌∷◌, inl, inr, ⊎_elim, mul-le-mul_left, mul-pos, arith}
use Rattle.exact.specs.Fractions.{Fraction, Proper, ◌≤ᶠ◌, whole, plus}
use Rattle.walking.specs.Curves.{Row, entry}
use Rattle.walking.specs.Laws.{Onward as EachStep}
use Rattle.curves.specs.Reading.{mega, segment, onward}
use Rattle.curves.specs.Laws.{Amid, DifferAtMost}
use Rattle.curves.proofs.Steps.{Rises, Falls, Slowly, Gently}
use Rattle.curves.proofs.Steps.{ReadFalls, ReadSlowly, ReadAmid}
use Rattle.std.proofs.lemmas.Bool.{cases_lt, cond-true, le-leb}
use Rattle.exact.proofs.Numbers.{times, cases_le, at_leb}
use Rattle.exact.proofs.FractionLaws.{le_trans, plus_mono}
use Rattle.curves.proofs.Segment.{segment_falls, segment_rises, below_first, above_last, at_first, at_last, slow_down, slow_up}

module _ (col : Row → ℕ) where
  -- the row a is at or before x
  abbrev From : Row → Fraction → Type 0
  From a x = entry a * mega * x.den ≤ x.num

  abbrev Upto : Fraction → Row → Type 0
  Upto x b = x.num ≤ entry b * mega * x.den

  abbrev Past : Row → Fraction → Type 0
  Past b x = entry b * mega * x.den < x.num

  -- x ≤ y, and y does not pass what x has passed
  not_both : (b : ℕ) (p q r s : ℕ) → 0 < s → p * s ≤ r * q → b * q < p → r ≤ b * s → ⊥
  not_both b p q r s z o h k = omega (arith, mul-le-mul_left s h, mul-le-mul_left q k)

  upto_less : (b : Row) (x y : Fraction) → Proper y → x ≤ᶠ y → Upto y b → Upto x b
  upto_less b x y z o k = ⊎_elim
      (λ (h : Past b x). absurd (not_both (entry b * mega) x.num x.den y.num y.den z o h k))
      (λ h. h)
      (cases_lt (entry b * mega * x.den) x.num)

  -- (1) falling
  onward_top : (a : Row) (rest : List Row) (y : Fraction) → EachStep Rises a rest → EachStep (Falls col) a rest → Proper y → From a y → onward col a rest y ≤ᶠ whole (col a * mega)
  onward_top a [] y r f z h = omega arith
  onward_top a (b ∷ rest) y r f z h =
      at_leb y.num (entry b * mega * y.den) (segment col a b y) (onward col b rest y) (λ v. v ≤ᶠ whole (col a * mega))
      (λ k. omega (arith, below_first (entry a) (entry b) y.den y.num (omega arith) h k (col a) (col b) f.0))
      (λ k. le_trans (onward col b rest y) (whole (col b * mega)) (whole (col a * mega)) (omega arith) (onward_top b rest y r.1 f.1 z (omega arith)) (omega arith))

  onward_falls : (a : Row) (rest : List Row) (x y : Fraction) → EachStep Rises a rest → EachStep (Falls col) a rest → Proper x → Proper y → From a x → From a y → x ≤ᶠ y → onward col a rest y ≤ᶠ onward col a rest x
  onward_falls a [] x y r f z z' h h' o = omega arith
  onward_falls a (b ∷ rest) x y r f z z' h h' o =
      at_leb x.num (entry b * mega * x.den) (segment col a b x) (onward col b rest x) (λ v. onward col a (b ∷ rest) y ≤ᶠ v)
      (λ k.
      at_leb y.num (entry b * mega * y.den) (segment col a b y) (onward col b rest y) (λ v. v ≤ᶠ segment col a b x)
      (λ l. segment_falls (entry a) (entry b) x.den x.num y.den y.num (omega arith) h k h' l o (col a) (col b) f.0)
      (λ l. le_trans (onward col b rest y) (whole (col b * mega)) (segment col a b x) (omega arith) (onward_top b rest y r.1 f.1 z' (omega arith)) (omega (arith, above_last (entry a) (entry b) x.den x.num (omega arith) h k (col a) (col b) f.0))))
      (λ k.
      at_leb y.num (entry b * mega * y.den) (segment col a b y) (onward col b rest y) (λ v. v ≤ᶠ onward col b rest x)
      (λ l. absurd (not_both (entry b * mega) x.num x.den y.num y.den z' o k l))
      (λ l. onward_falls b rest x y r.1 f.1 z z' (omega arith) (omega arith) o))

  from_zero : (a : Row) (x : Fraction) → entry a ≡ 0 → From a x
  from_zero a x e = rw e (omega arith)

  pub read_falls : ReadFalls col
  read_falls a rest x y e r f z z' o = onward_falls a rest x y r f z z' (from_zero a x e) (from_zero a y e) o

  -- (2) slowly: over whole numbers, the col falls by at most what the entry rises
  -- v ≤ v' + d thousandths, and in billionths v' ≤ f + (y - b)
  hop : (v v' e e' y fn fd : ℕ) → e ≤ e' → v ≤ v' + (e' - e) → e' * 1000000 * 1 ≤ y → v' * 1000000 * fd ≤ fn + (y - e' * 1000000 * 1) * fd → v * 1000000 * fd ≤ fn + (y - e * 1000000 * 1) * fd
  hop v v' e e' y fn fd g l h k =
      let z : v * 1000000 ≤ v' * 1000000 + ((y - e * 1000000 * 1) - (y - e' * 1000000 * 1)) = omega arith in
      let w : y - e * 1000000 * 1 ≡ (y - e' * 1000000 * 1) + ((y - e * 1000000 * 1) - (y - e' * 1000000 * 1)) = omega arith in
      omega (arith, mul-le-mul_left fd z, times fd w)

  -- two whole points of one segment col
  segment_drop : (a b : Row) (x y c : ℕ) → entry a < entry b → entry a * mega * 1 ≤ x → x ≤ y → y ≤ entry b * mega * 1 → col a ≤ col b + c * (entry b - entry a) → segment col a b (whole x) ≤ᶠ plus (segment col a b (whole y)) (whole (c * (y - x)))
  segment_drop a b x y c g h o k l =
      omega (arith, mul-le-mul_left (entry b - entry a) (slow_down (entry a) (entry b) x y c h o k (col a) (col b) l))

  segment_climb : (a b : Row) (x y c : ℕ) → entry a < entry b → entry a * mega * 1 ≤ x → x ≤ y → y ≤ entry b * mega * 1 → col b ≤ col a + c * (entry b - entry a) → segment col a b (whole y) ≤ᶠ plus (segment col a b (whole x)) (whole (c * (y - x)))
  segment_climb a b x y c g h o k l =
      omega (arith, mul-le-mul_left (entry b - entry a) (slow_up (entry a) (entry b) x y c h o k (col a) (col b) l))

  first_drop : (e e' v v' y : ℕ) → e < e' → e * 1000000 * 1 ≤ y → y ≤ e' * 1000000 * 1 → v ≤ v' + (e' - e) → v * 1000000 * (1 * (e' - e)) ≤ v * (e' * 1000000 * 1 - y) + v' * (y - e * 1000000 * 1) + (y - e * 1000000 * 1) * (e' - e)
  first_drop e e' v v' y g h k l =
      omega (arith, at_first e e' 1 (e * 1000000 * 1) v v' (omega arith) (omega arith), slow_down e e' (e * 1000000 * 1) y 1 (omega arith) h k v v' (omega arith))

  last_drop : (e e' v v' x : ℕ) → e < e' → e * 1000000 * 1 ≤ x → x ≤ e' * 1000000 * 1 → v ≤ v' + (e' - e) → v * (e' * 1000000 * 1 - x) + v' * (x - e * 1000000 * 1) ≤ v' * 1000000 * (1 * (e' - e)) + (e' * 1000000 * 1 - x) * (e' - e)
  last_drop e e' v v' x g h k l =
      omega (arith, at_last e e' 1 (e' * 1000000 * 1) v v' (omega arith) (omega arith), slow_down e e' x (e' * 1000000 * 1) 1 h k (omega arith) v v' (omega arith))

  onward_drop : (a : Row) (rest : List Row) (y : ℕ) → EachStep Rises a rest → EachStep (Slowly col) a rest → From a (whole y) → whole (col a * mega) ≤ᶠ plus (onward col a rest (whole y)) (whole (y - entry a * mega * 1))
  onward_drop a [] y r f h = omega arith
  onward_drop a (b ∷ rest) y r f h =
      at_leb y (entry b * mega * 1) (segment col a b (whole y)) (onward col b rest (whole y)) (λ v. whole (col a * mega) ≤ᶠ plus v (whole (y - entry a * mega * 1)))
      (λ k. omega (arith, first_drop (entry a) (entry b) (col a) (col b) y r.0 h k f.0))
      (λ k.
      let ih = onward_drop b rest y r.1 f.1 (omega arith) in
      let f' = onward col b rest (whole y) in
      omega (arith, hop (col a) (col b) (entry a) (entry b) y f'.num f'.den (omega arith) f.0 (omega arith) (omega arith)))

  -- n/d ≤ v + (b - x), and v ≤ f + (y - b)
  join : (n d v b x y fn fd : ℕ) → x ≤ b → b ≤ y → n ≤ v * d + (b - x) * d → v * fd ≤ fn + (y - b) * fd → n * fd ≤ (fn + (y - x) * fd) * d
  join n d v b x y fn fd o o' h k =
      let e : y - x ≡ (b - x) + (y - b) = omega arith in
      rw e (omega (arith, mul-le-mul_left fd h, mul-le-mul_left d k))

  onward_slowly : (a : Row) (rest : List Row) (x y : ℕ) → EachStep Rises a rest → EachStep (Slowly col) a rest → From a (whole x) → x ≤ y → onward col a rest (whole x) ≤ᶠ plus (onward col a rest (whole y)) (whole (y - x))
  onward_slowly a [] x y r f h o = omega arith
  onward_slowly a (b ∷ rest) x y r f h o =
      at_leb x (entry b * mega * 1) (segment col a b (whole x)) (onward col b rest (whole x)) (λ v. v ≤ᶠ plus (onward col a (b ∷ rest) (whole y)) (whole (y - x)))
      (λ k.
      at_leb y (entry b * mega * 1) (segment col a b (whole y)) (onward col b rest (whole y)) (λ v. segment col a b (whole x) ≤ᶠ plus v (whole (y - x)))
      (λ l. omega (arith, segment_drop a b x y 1 r.0 h o l (omega arith)))
      (λ l.
      let s = segment col a b (whole x) in
      let f' = onward col b rest (whole y) in
      let d = onward_drop b rest y r.1 f.1 (omega arith) in
      omega (arith, join s.num (entry b - entry a) (col b * mega) (entry b * mega * 1) x y f'.num f'.den k (omega arith) (omega (arith, last_drop (entry a) (entry b) (col a) (col b) x r.0 h k f.0)) (omega arith))))
      (λ k.
      at_leb y (entry b * mega * 1) (segment col a b (whole y)) (onward col b rest (whole y)) (λ v. onward col b rest (whole x) ≤ᶠ plus v (whole (y - x)))
      (λ l. absurd (omega arith))
      (λ l. onward_slowly b rest x y r.1 f.1 (omega arith) o))

  pub read_slowly : ReadSlowly col
  read_slowly a rest x y e r f o = onward_slowly a rest x y r f (from_zero a (whole x) e) o

  -- (3) gently: two whole neighbours, and what lies between
  abbrev Same : Fraction → Fraction → Type 0
  Same f g = (f ≤ᶠ g) × (g ≤ᶠ f)

  segment_proper : (a b : Row) (x : Fraction) → entry a < entry b → Proper x → Proper (segment col a b x)
  segment_proper a b x g z = mul-pos z (omega arith)

  pub onward_proper : (a : Row) (rest : List Row) (x : Fraction) → EachStep Rises a rest → Proper x → Proper (onward col a rest x)
  onward_proper a [] x r z = omega arith
  onward_proper a (b ∷ rest) x r z =
      at_leb x.num (entry b * mega * x.den) (segment col a b x) (onward col b rest x) Proper
      (λ _. segment_proper a b x r.0 z)
      (λ _. onward_proper b rest x r.1 z)

  -- the curve at its first row
  onward_first : (a : Row) (rest : List Row) (x : Fraction) → EachStep Rises a rest → x.num ≡ entry a * mega * x.den → Same (onward col a rest x) (whole (col a * mega))
  onward_first a [] x r e = (omega arith, omega arith)
  onward_first a (b ∷ rest) x r e =
      let k : Upto x b = omega (arith, mul-le-mul_left x.den r.0) in
      at_leb x.num (entry b * mega * x.den) (segment col a b x) (onward col b rest x) (λ v. Same v (whole (col a * mega)))
      (λ _. omega (arith, at_first (entry a) (entry b) x.den x.num (col a) (col b) (omega arith) e))
      (λ l. absurd (omega arith))

  same_trans : (f g h : Fraction) → Proper g → Same f g → Same g h → Same f h
  same_trans f g h z p q = (le_trans f g h z p.0 q.0, le_trans h g f z q.1 p.1)

  same_sym : (f g : Fraction) → Same f g → Same g f
  same_sym f g p = (p.1, p.0)

  -- from the row b on, the curve may be read col from b
  shift : (a b : Row) (rest : List Row) (x : Fraction) → EachStep Rises a (b ∷ rest) → From b x → Same (onward col a (b ∷ rest) x) (onward col b rest x)
  shift a b rest x r h =
      at_leb x.num (entry b * mega * x.den) (segment col a b x) (onward col b rest x) (λ v. Same v (onward col b rest x))
      (λ k.
      let e : x.num ≡ entry b * mega * x.den = omega arith in
      same_trans (segment col a b x) (whole (col b * mega)) (onward col b rest x) (omega arith)
      (omega (arith, at_last (entry a) (entry b) x.den x.num (col a) (col b) (omega arith) e))
      (same_sym (onward col b rest x) (whole (col b * mega)) (onward_first b rest x r.1 e)))
      (λ _. (omega arith, omega arith))

  same_le : (f f' g g' : Fraction) → Proper f → Proper g' → Proper f' → Same f f' → Same g g' → f' ≤ᶠ g' → f ≤ᶠ g
  same_le f f' g g' z z' z'' p q o = le_trans f f' g z'' p.0 (le_trans f' g' g z' o q.1)

  segment_amid : (a b : Row) (x y z : Fraction) → entry a < entry b → From a x → From a y → From a z → Upto x b → Upto y b → Upto z b → x ≤ᶠ y → y ≤ᶠ z → Amid (segment col a b x) (segment col a b y) (segment col a b z)
  segment_amid a b x y z g h h' h'' k k' k'' o o' = ⊎_elim
      (λ (l : col a ≤ col b). inl (
        segment_rises (entry a) (entry b) x.den x.num y.den y.num (omega arith) h k h' k' o (col a) (col b) l,
        segment_rises (entry a) (entry b) y.den y.num z.den z.num (omega arith) h' k' h'' k'' o' (col a) (col b) l,
      ))
      (λ (l : col b ≤ col a). inr (
        segment_falls (entry a) (entry b) y.den y.num z.den z.num (omega arith) h' k' h'' k'' o' (col a) (col b) l,
        segment_falls (entry a) (entry b) x.den x.num y.den y.num (omega arith) h k h' k' o (col a) (col b) l,
      ))
      (cases_le (col a) (col b))

  abbrev Near : Fraction → Fraction → Fraction → Type 0
  Near f x g = Amid f x g × DifferAtMost 2 f g

  same_plus : (f f' g g' : Fraction) → Proper f' → Proper g' → Same f f' → Same g g' → f' ≤ᶠ plus g' (whole 2) → f ≤ᶠ plus g (whole 2)
  same_plus f f' g g' z z' p q o =
      le_trans f f' (plus g (whole 2)) z p.0
      (le_trans f' (plus g' (whole 2)) (plus g (whole 2)) (omega arith) o (plus_mono g' g (whole 2) (whole 2) q.1 (omega arith)))

  near_same : (f f' x x' g g' : Fraction) → Proper f' → Proper x' → Proper g' → Same f f' → Same x x' → Same g g' → Near f' x' g' → Near f x g
  near_same f f' x x' g g' z z' z'' p q r n = (
    ⊎_elim
        (λ (h : (f' ≤ᶠ x') × (x' ≤ᶠ g')). inl (le f f' x x' z z' p q h.0, le x x' g g' z' z'' q r h.1))
        (λ (h : (g' ≤ᶠ x') × (x' ≤ᶠ f')). inr (le g g' x x' z'' z' r q h.0, le x x' f f' z' z q p h.1))
        n.0,
    (same_plus f f' g g' z z'' p r n.1.0, same_plus g g' f f' z'' z r p n.1.1),
  )
    where
      le : (f f' g g' : Fraction) → Proper f' → Proper g' → Same f f' → Same g g' → f' ≤ᶠ g' → f ≤ᶠ g
      le f f' g g' z z' p q o = le_trans f f' g z p.0 (le_trans f' g' g z' o q.1)

  inside : (a b : Row) (rest : List Row) (x : Fraction) → Upto x b → onward col a (b ∷ rest) x ≡ segment col a b x
  inside a b rest x k = cond-true (leb x.num (entry b * mega * x.den)) (segment col a b x) (onward col b rest x) (le-leb x.num (entry b * mega * x.den) k)

  -- a change of at most c for each, over at most one
  one_step : (f g : Fraction) (k : ℕ) → k ≤ 1 → f ≤ᶠ plus g (whole (2 * k)) → f ≤ᶠ plus g (whole 2)
  one_step f g k h o = omega (arith, mul-le-mul_left (g.den * f.den) h)

  onward_near : (a : Row) (rest : List Row) (dl du : ℕ) (x : Fraction) → EachStep Rises a rest → EachStep (Gently col) a rest → Proper x → From a (whole dl) → From a x → whole dl ≤ᶠ x → x ≤ᶠ whole du → dl ≤ du → du ≤ dl + 1 → Near (onward col a rest (whole dl)) (onward col a rest x) (onward col a rest (whole du))
  onward_near a [] dl du x r f z h h' o o' w w' = (inl (omega arith, omega arith), (omega arith, omega arith))
  onward_near a (b ∷ rest) dl du x r f z h h' o o' w w' = ⊎_elim
      (λ (l : entry b * mega * 1 < du).
      let m : entry b * mega ≤ dl = omega arith in
      let k : From b x = omega (arith, mul-le-mul_left x.den m) in
      near_same (onward col a (b ∷ rest) (whole dl)) (onward col b rest (whole dl)) (onward col a (b ∷ rest) x) (onward col b rest x) (onward col a (b ∷ rest) (whole du)) (onward col b rest (whole du))
      (onward_proper b rest (whole dl) r.1 (omega arith))
      (onward_proper b rest x r.1 z)
      (onward_proper b rest (whole du) r.1 (omega arith))
      (shift a b rest (whole dl) r (omega arith))
      (shift a b rest x r k)
      (shift a b rest (whole du) r (omega arith))
      (onward_near b rest dl du x r.1 f.1 z (omega arith) k o o' w w'))
      (λ (l : du ≤ entry b * mega * 1).
      let k : Upto x b = omega (arith, mul-le-mul_left x.den l) in
      rw (inside a b rest (whole dl) (omega arith), inside a b rest x k, inside a b rest (whole du) l) (
        segment_amid a b (whole dl) x (whole du) r.0 h h' (omega arith) (omega arith) k l o o',
        (
          one_step (segment col a b (whole dl)) (segment col a b (whole du)) (du - dl) (omega arith) (segment_drop a b dl du 2 r.0 h w l f.0.0),
          one_step (segment col a b (whole du)) (segment col a b (whole dl)) (du - dl) (omega arith) (segment_climb a b dl du 2 r.0 h w l f.0.1),
        ),
      ))
      (cases_lt (entry b * mega * 1) du)

  pub read_amid : ReadAmid col
  read_amid a rest dl du x e r f z o o' w =
      let t = le_trans (whole dl) x (whole du) z o o' in
      onward_near a rest dl du x r f z (from_zero a (whole dl) e) (from_zero a x e) o o' (omega arith) w
