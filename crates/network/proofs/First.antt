-- The first true sentence: one at a time, and all at once.
use Rattle.std.proofs.Common.{◌≡◌, ℕ, true, false, List, [], ◌∷◌, ◌++◌, Ok, Err, Result, sym, refl, ◌∙◌, inl, inr, MatchResult}
use Rattle.std.proofs.lemmas.Bool.{cond-true, cond-false, cond_both, cases_Bool}
use Rattle.network.specs.declared.Refusal.{Refusal}
use Rattle.network.specs.Refusals.{Answer, accepted, refused, told}
use Rattle.network.specs.Sentences.{Sentence, first_true}

-- a false sentence is passed, a true one is the answer
pub pass : {A : Type 0} (s : Sentence) (rest : List Sentence) (given : A) → s.holds ≡ false → first_true rest given ≡ first_true (s ∷ rest) given
pass s rest given e = sym (cond-false s.holds (refused s.number s.place) (first_true rest given) e)

pub stop : {A : Type 0} (s : Sentence) (rest : List Sentence) (given : A) → s.holds ≡ true → refused s.number s.place ≡ first_true (s ∷ rest) given
stop s rest given e = sym (cond-true s.holds (refused s.number s.place) (first_true rest given) e)

-- the same answer, with something else given
abbrev pub giving : {A B : Type 0} → B → Answer A → Answer B
giving b (accepted a) = accepted b
giving b (refused n p) = refused n p

pub first_giving : {A B : Type 0} (ss : List Sentence) (a : A) (b : B) → giving b (first_true ss a) ≡ first_true ss b
first_giving [] a b = refl
first_giving (s ∷ rest) a b =
    cond_both s.holds _ _ (λ x. giving b x ≡ first_true (s ∷ rest) b)
    (λ e. stop s rest b e)
    (λ e. first_giving rest a b ∙ pass s rest b e)

-- every sentence is false
abbrev pub NoneTrue : List Sentence → Type 0
NoneTrue [] = Unit {0}
NoneTrue (s ∷ rest) = (s.holds ≡ false) × NoneTrue rest

-- what holds of every refusal, and of acceptance where no sentence is true, holds of the answer
pub first_keeps : {A : Type 0} (ss : List Sentence) (given : A) (P : Answer A → Type 0) → ((n p : ℕ) → P (refused n p)) → (NoneTrue ss → P (accepted given)) → P (first_true ss given)
first_keeps [] given P r f = f tt
first_keeps (s ∷ rest) given P r f =
    cond_both s.holds (refused s.number s.place) (first_true rest given) P
    (λ _. r s.number s.place) (λ e. first_keeps rest given P r (λ g. f (e, g)))

pub all_passed : {A : Type 0} (ss : List Sentence) (given : A) → NoneTrue ss → accepted given ≡ first_true ss given
all_passed [] given f = refl
all_passed (s ∷ rest) given f = all_passed rest given f.1 ∙ pass s rest given f.0

-- what an accepted check gives
pub given_is : {A : Type 0} (ss : List Sentence) (given x : A) → accepted x ≡ first_true ss given → (x ≡ given) × NoneTrue ss
given_is ss given x e =
    first_keeps ss given (λ a. accepted x ≡ a → (x ≡ given) × NoneTrue ss)
    (λ n p q. absurd (cc)) (λ f q. (cc, f)) e

-- what a result says of the sentences: where it is Ok none is true, else some is
pub by_result : {A : Type 0} (r : Result A Refusal) (ss : List Sentence) (given : A) → told r ≡ first_true ss given
    → MatchResult r (λ x. (x ≡ given) × NoneTrue ss) (λ _. NoneTrue ss → ⊥)
by_result (Ok x) ss given e = given_is ss given x e
by_result (Err y) ss given e = λ f. let q = all_passed ss given f in cc

-- ---- one list of sentences after another

pub stops_early : {A B : Type 0} (ss ts : List Sentence) (a : A) (b : B) (n p : ℕ) → refused n p ≡ first_true ss a → refused n p ≡ first_true (ss ++ ts) b
stops_early [] ts a b n p e = absurd (cc)
stops_early (s ∷ rest) ts a b n p e =
    elim (cases_Bool s.holds) [
      | inl yes-holds ↦ let q = e ∙ sym (stop s rest a yes-holds) in cc q ∙ stop s (rest ++ ts) b yes-holds
      | inr not-holds ↦ stops_early rest ts a b n p (e ∙ sym (pass s rest a not-holds)) ∙ pass s (rest ++ ts) b not-holds
    ]

pub goes_on : {B : Type 0} (ss ts : List Sentence) (b : B) → NoneTrue ss → first_true ts b ≡ first_true (ss ++ ts) b
goes_on [] ts b f = refl
goes_on (s ∷ rest) ts b f = goes_on rest ts b f.1 ∙ pass s (rest ++ ts) b f.0
