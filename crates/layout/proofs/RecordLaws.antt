-- Records and their bytes determine each other.
use Rattle.std.proofs.Common.{◌≡◌, ℕ, zero, suc, ◌+◌, ◌<◌, Bool, true, false, cond, not, eqb, List, [], ◌∷◌, ◌++◌, length, get_or, drop, Some, None, sym, refl, ap, ◌∙◌, subst, arith}
use Rattle.std.specs.List.{AllByRecursion}
use Rattle.std.proofs.lemmas.List.FromFn.{fill_by_all}
use Rattle.std.proofs.lemmas.List.{get_or-drop}
use Rattle.std.proofs.lemmas.Option.{cond_some, none-some}
use Rattle.std.proofs.lemmas.Bool.{eqb-true, and_parts, not-true, cond-true}
use Rattle.network.specs.Sentences.{outside}
use Rattle.network.specs.Lawful.{Within}
use Rattle.network.proofs.Rules.{inside, not_outside}
use Rattle.verdicts.specs.declared.Verdict.TheVariants.{Meets, Exceeds, Undecided}
use Rattle.verdicts.specs.Verdicts.{verdict_number, verdict_of}
use Rattle.layout.specs.declared.Record.{Record}
use Rattle.layout.specs.declared.Record.TheVariants.{Opening, Element, Lower, Upper}
use Rattle.layout.specs.Numbers.{bytes_of, number_at, zeros_at}
use Rattle.layout.specs.Records.{encode, decode, decode_by, when, opening_in, element_in, lower_in, upper_in}
use Rattle.layout.specs.Laws.{DecodingUndoesEncoding, EncodingUndoesDecoding}
use Rattle.layout.proofs.NumberLaws.{number_of_bytes, part, bytes_of_number, zeros_are}

pub length_encode : (x : Record) → length (encode x) ≡ 16
unfolding encode
length_encode (Opening o) = refl
length_encode (Element d) = refl
length_encode (Lower v low) = refl
length_encode (Upper g high) = refl

pub decoding_undoes_encoding : DecodingUndoesEncoding
unfolding encode decode
decoding_undoes_encoding (Opening o) (e, n, (low, high)) =
    let E = number_of_bytes 4 o.case_data.embarkation e in
    let N = number_of_bytes 4 o.number n in
    let K = number_of_bytes 2 o.count (omega arith) in
    let C = o.case_data in
    (λ i. when (not (outside 1 128 (K i))) (Opening (record {
      case_data = record { case_number = C.case_number; ship_kind = C.ship_kind; zones = C.zones; embarkation = E i };
      number = N i;
      count = K i;
    })))
    ∙ cond-true (not (outside 1 128 o.count)) (Some (Opening o)) None (ap not (not_outside 1 128 o.count (low, high)))
decoding_undoes_encoding (Element d) (w, l, p) =
    λ i. Some (Element (record { kind = d.kind; from = d.from; to = d.to; width = number_of_bytes 4 d.width w i; length = number_of_bytes 4 d.length l i; persons = number_of_bytes 4 d.persons p i }))
decoding_undoes_encoding (Lower Meets low) f = λ i. Some (Lower Meets (number_of_bytes 8 low f i))
decoding_undoes_encoding (Lower Exceeds low) f = λ i. Some (Lower Exceeds (number_of_bytes 8 low f i))
decoding_undoes_encoding (Lower Undecided low) f = λ i. Some (Lower Undecided (number_of_bytes 8 low f i))
decoding_undoes_encoding (Upper g high) f = λ i. Some (Upper g (number_of_bytes 8 high f i))

small_at : (bs : List ℕ) → AllByRecursion (λ b. b < 256) bs → (k : ℕ) → get_or bs k 0 < 256
small_at [] h k = omega arith
small_at (b ∷ bs) h zero = h.0
small_at (b ∷ bs) h (suc k) = small_at bs h.1 k

numbered : (n : ℕ) → Within 1 n 3 → verdict_number (verdict_of n) ≡ n
numbered n h = grind arith

-- the tag, the three bytes and the twelve that make a record
module _ (tag a b c : ℕ) (rest : List ℕ) (small : (k : ℕ) → get_or rest k 0 < 256) where
  twelve : eqb (length rest) 12 ≡ true → part 0 12 rest ≡ rest
  twelve e = sym (fill_by_all (λ k. get_or rest k 0) rest 12 0 (eqb-true (length rest) 12 e) (λ k h. refl))

  from_opening : (x : Record) → tag ≡ 1 → opening_in a b c rest ≡ Some x → encode x ≡ tag ∷ a ∷ b ∷ c ∷ rest
  unfolding encode
  from_opening x t e =
      let p = cond_some _ _ x e in
      let q = and_parts (eqb (length rest) 12) _ p.0 in
      let z = sym (zeros_are 8 2 rest (and_parts (zeros_at 8 2 rest) _ q.1).0) in
      let u = sym t in
      let f0 = bytes_of_number 0 4 rest small in
      let f4 = bytes_of_number 4 4 rest small in
      let f10 = bytes_of_number 10 2 rest small in
      ap encode (sym p.1) ∙ (λ i. u i ∷ a ∷ b ∷ c ∷ (f0 i ++ (f4 i ++ (z i ++ f10 i)))) ∙ ap (λ r. tag ∷ a ∷ b ∷ c ∷ r) (twelve q.0)

  from_element : (x : Record) → tag ≡ 2 → element_in a b c rest ≡ Some x → encode x ≡ tag ∷ a ∷ b ∷ c ∷ rest
  unfolding encode
  from_element x t e =
      let p = cond_some _ _ x e in
      let u = sym t in
      let f0 = bytes_of_number 0 4 rest small in
      let f4 = bytes_of_number 4 4 rest small in
      let f8 = bytes_of_number 8 4 rest small in
      ap encode (sym p.1) ∙ (λ i. u i ∷ a ∷ b ∷ c ∷ (f0 i ++ (f4 i ++ f8 i))) ∙ ap (λ r. tag ∷ a ∷ b ∷ c ∷ r) (twelve p.0)

  -- the two ends of a finding have bytes in the same places
  of_end : (t : ℕ) → tag ≡ t → eqb b 0 ≡ true → eqb c 0 ≡ true → zeros_at 0 4 rest ≡ true → eqb (length rest) 12 ≡ true
      → (v : ℕ) → v ≡ a → t ∷ v ∷ 0 ∷ 0 ∷ (0 ∷ 0 ∷ 0 ∷ 0 ∷ bytes_of 8 (number_at 4 8 rest)) ≡ tag ∷ a ∷ b ∷ c ∷ rest
  of_end t same eb ec ez el v ev =
      let u = sym same in
      let zb = sym (eqb-true b 0 eb) in
      let zc = sym (eqb-true c 0 ec) in
      let z = sym (zeros_are 0 4 rest ez) in
      let f = bytes_of_number 4 8 rest small in
      (λ i. u i ∷ ev i ∷ zb i ∷ zc i ∷ (z i ++ f i)) ∙ ap (λ r. tag ∷ a ∷ b ∷ c ∷ r) (twelve el)

  from_lower : (x : Record) → tag ≡ 3 → lower_in a b c rest ≡ Some x → encode x ≡ tag ∷ a ∷ b ∷ c ∷ rest
  unfolding encode
  from_lower x t e =
      let p = cond_some _ _ x e in
      let q = and_parts (eqb (length rest) 12) _ p.0 in
      let r = and_parts (eqb b 0) _ q.1 in
      let s = and_parts (eqb c 0) _ r.1 in
      let z = and_parts (zeros_at 0 4 rest) _ s.1 in
      ap encode (sym p.1) ∙ of_end 3 t r.0 s.0 z.0 q.0 (verdict_number (verdict_of a)) (numbered a (inside 1 3 a (not-true (outside 1 3 a) z.1)))

  from_upper : (x : Record) → tag ≡ 4 → upper_in a b c rest ≡ Some x → encode x ≡ tag ∷ a ∷ b ∷ c ∷ rest
  unfolding encode
  from_upper x t e =
      let p = cond_some _ _ x e in
      let q = and_parts (eqb (length rest) 12) _ p.0 in
      let r = and_parts (eqb b 0) _ q.1 in
      let s = and_parts (eqb c 0) (zeros_at 0 4 rest) r.1 in
      ap encode (sym p.1) ∙ of_end 4 t r.0 s.0 s.1 q.0 a refl

  by_tag : (x : Record) (t1 t2 t3 t4 : Bool) → eqb tag 1 ≡ t1 → eqb tag 2 ≡ t2 → eqb tag 3 ≡ t3 → eqb tag 4 ≡ t4
      → cond t1 (opening_in a b c rest) (cond t2 (element_in a b c rest) (cond t3 (lower_in a b c rest) (cond t4 (upper_in a b c rest) None))) ≡ Some x
      → encode x ≡ tag ∷ a ∷ b ∷ c ∷ rest
  by_tag x true t2 t3 t4 p q r s e = from_opening x (eqb-true tag 1 p) e
  by_tag x false true t3 t4 p q r s e = from_element x (eqb-true tag 2 q) e
  by_tag x false false true t4 p q r s e = from_lower x (eqb-true tag 3 r) e
  by_tag x false false false true p q r s e = from_upper x (eqb-true tag 4 s) e
  by_tag x false false false false p q r s e = absurd (none-some x e)

-- four bytes alone say nothing
pub none_of_four : (tag a b c : ℕ) → decode_by tag a b c [] ≡ None
none_of_four tag a b c = grind arith

too_short : (tag a b c : ℕ) (x : Record) → decode_by tag a b c [] ≡ Some x → ⊥
too_short tag a b c x e = none-some x (sym (none_of_four tag a b c) ∙ e)

long : (bs : List ℕ) (x : Record) → decode bs ≡ Some x → get_or bs 0 0 ∷ get_or bs 1 0 ∷ get_or bs 2 0 ∷ get_or bs 3 0 ∷ drop 4 bs ≡ bs
unfolding decode
long [] x e = absurd (too_short 0 0 0 0 x e)
long (t ∷ []) x e = absurd (too_short t 0 0 0 x e)
long (t ∷ a ∷ []) x e = absurd (too_short t a 0 0 x e)
long (t ∷ a ∷ b ∷ []) x e = absurd (too_short t a b 0 x e)
long (t ∷ a ∷ b ∷ c ∷ rest) x e = refl

pub encoding_undoes_decoding : EncodingUndoesDecoding
unfolding decode
encoding_undoes_decoding bs x small e =
    let tag = get_or bs 0 0 in
    let rest_small : (k : ℕ) → get_or (drop 4 bs) k 0 < 256 = λ k. subst (λ v. v < 256) (sym (get_or-drop 4 bs k 0)) (small_at bs small (4 + k)) in
    by_tag tag (get_or bs 1 0) (get_or bs 2 0) (get_or bs 3 0) (drop 4 bs) rest_small x (eqb tag 1) (eqb tag 2) (eqb tag 3) (eqb tag 4) refl refl refl refl e
    ∙ long bs x e
