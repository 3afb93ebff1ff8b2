-- A loop that writes new lines over the first ones of a slice, one after another.
use Rattle.std.proofs.Common.{◌≡◌, ℕ, zero, suc, ◌+◌, ◌<◌, ◌≤◌, List, [], ◌∷◌, ◌++◌, map, length, get_or, drop, set, sym, refl, ap, ◌∙◌, subst, arith}
use Rattle.std.specs.List.{range_with_len}
use Rattle.std.proofs.lemmas.List.FromFn.{length-map-range_with_len, get_or-map-range_with_len, map-range_with_len_more, fill_by_all}
use Rattle.std.proofs.lemmas.List.{append_assoc, length-append, length-drop, get_or_append_left, drop_at, drop_more, set_at}
use Rattle.worksheet.specs.Stages.{laid}

module _ {X : Type 0} (d : X) (f : ℕ → X) (ys : List X) where
  front : ℕ → List X
  front i = map f (range_with_len 0 i)

  front_long : (i : ℕ) → length (front i) ≡ i
  unfolding front
  front_long i = length-map-range_with_len f 0 i

  -- one more line, x, in front of what is left
  one_more : (i : ℕ) → front i ++ (f i ∷ drop (i + 1) ys) ≡ laid f (i + 1) ys
  unfolding front
  one_more i = sym (append_assoc (front i) (f i ∷ []) (drop (i + 1) ys)) ∙ ap (λ zs. zs ++ drop (i + 1) ys) (sym (map-range_with_len_more f 0 i i (omega arith)))

  pub laid_set : (xs : List X) (i : ℕ) (x : X) → i < length ys → xs ≡ laid f i ys → x ≡ f i → set xs i x ≡ laid f (i + 1) ys
  unfolding front
  laid_set xs i x l e h =
      ap (λ zs. set zs i x) (e ∙ ap (λ zs. front i ++ zs) (drop_more ys i d l))
      ∙ set_at (front i) (get_or ys i d) (drop (i + 1) ys) x i (front_long i)
      ∙ ap (λ y. front i ++ (y ∷ drop (i + 1) ys)) h
      ∙ one_more i

  pub laid_keep : (xs : List X) (i : ℕ) → i < length ys → xs ≡ laid f i ys → get_or ys i d ≡ f i → xs ≡ laid f (i + 1) ys
  unfolding front
  laid_keep xs i l e h =
      e ∙ ap (λ zs. front i ++ zs) (drop_more ys i d l)
      ∙ ap (λ y. front i ++ (y ∷ drop (i + 1) ys)) h
      ∙ one_more i

  pub laid_at : (n k : ℕ) → k < n → get_or (laid f n ys) k d ≡ f k
  unfolding front
  laid_at n k l = get_or_append_left (front n) (drop n ys) d k (omega (arith, front_long n)) ∙ get_or-map-range_with_len f 0 n k k d l (omega arith)

  pub laid_past : (n : ℕ) → drop n (laid f n ys) ≡ drop n ys
  unfolding front
  laid_past n = drop_at (front n) (drop n ys) n (front_long n)

  pub laid_long : (n : ℕ) → n ≤ length ys → length (laid f n ys) ≡ length ys
  unfolding front
  laid_long n l = omega (arith, length-append (front n) (drop n ys), length-drop n ys, front_long n)

  -- nothing new
  pub laid_none : (n : ℕ) → n ≤ length ys → ((k : ℕ) → k < n → get_or ys k d ≡ f k) → ys ≡ laid f n ys
  laid_none zero l h = refl
  laid_none (suc n) l h =
      let next : n + 1 ≡ suc n = omega arith in
      subst (λ m. ys ≡ laid f m ys) next
      (laid_keep ys n (omega arith) (laid_none n (omega arith) (λ k b. h k (omega arith))) (h n (omega arith)))

-- the same lines
pub laid_same : {X : Type 0} (d : X) (f g : ℕ → X) (ys : List X) (n : ℕ) → ((k : ℕ) → k < n → f k ≡ g k) → laid f n ys ≡ laid g n ys
laid_same d f g ys n h =
    ap (λ zs. zs ++ drop n ys)
    (fill_by_all g (map f (range_with_len 0 n)) n d (length-map-range_with_len f 0 n) (λ k l. get_or-map-range_with_len f 0 n k k d l (omega arith) ∙ h k l))
