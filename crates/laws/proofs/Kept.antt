-- Laws of what is kept of the numbers below n: one number more, members, tests that agree, length. Assumes nothing.
use Prim.Native.Nat.{ℕ, zero, suc, ◌+◌, ◌≤◌, ◌<◌}
use mathlib.Core.Path.{◌≡◌, refl, ap, ◌∙◌}
use mathlib.Core.Logic.{◌≢◌, inl, inr}
use mathlib.Core.Bool.{Bool, true, false, ◌&&◌, ◌||◌, and-false}
use mathlib.Core.List.{List, [], ◌∷◌, ◌++◌, append-nil, Memᴰ}
use native.Mathlib.Nat.{zero-add, suc-add, add-suc}
use native.Mathlib.Numerals.{add-one, unary_clauses}
use native.Mathlib.Omega.{arith}
use borrow.Author.Tests.{eqb-true}
use lib.Dec.{eqb}
use lib.ListN.{length, take, set, length-append}
use lib.Seq.{take-suc-set}
use Rattle.laws.specs.Lists.{keep, has, upto, Ordered}
use Rattle.laws.proofs.Lists.{split, into_length, has_in, keep_append, upto_in, length_upto}

-- one number more at the end
pub upto_more : (n i : ℕ) → upto (n + 1) i ≡ upto n i ++ (i + n) ∷ []
upto_more n i = rw add-one (more n i)
  where
    more : (n i : ℕ) → upto (suc n) i ≡ upto n i ++ (i + n) ∷ []
    more zero i = simp unary_clauses
    more (suc n) i = rw (more n (suc i), suc-add, add-suc)

-- what is kept of one number more
module _ (p : ℕ → Bool) (v : ℕ) where
  keep_next : keep p (upto (v + 1) 0) ≡ keep p (upto v 0) ++ keep p (v ∷ [])
  keep_next = ap (keep p) (upto_more v 0 ∙ ap (λ k. upto v 0 ++ k ∷ []) (zero-add v)) ∙ keep_append p (upto v 0) (v ∷ [])

  pub keep_upto_yes : p v ≡ true → keep p (upto (v + 1) 0) ≡ keep p (upto v 0) ++ v ∷ []
  keep_upto_yes e = keep_next ∙ rw e

  pub keep_upto_no : p v ≡ false → keep p (upto (v + 1) 0) ≡ keep p (upto v 0)
  keep_upto_no e = keep_next ∙ rw (e, append-nil)

-- what is kept of fewer numbers is no more
pub keep_upto_length : (p : ℕ → Bool) (i k : ℕ) → length (keep p (upto i 0)) ≤ length (keep p (upto (i + k) 0))
keep_upto_length p i zero = rw native.Mathlib.Nat.add-zero (omega arith)
keep_upto_length p i (suc k) = elim (split (p (i + k))) [
  | inl e ↦ omega (arith, keep_upto_length p i k, ap length (keep_upto_yes p (i + k) e), length-append (keep p (upto (i + k) 0)) ((i + k) ∷ []), more)
  | inr e ↦ omega (arith, keep_upto_length p i k, ap length (keep_upto_no p (i + k) e), more)
]
  where
    more : length (keep p (upto (i + suc k) 0)) ≡ length (keep p (upto (i + k + 1) 0))
    more = let e : i + suc k ≡ i + k + 1 = omega arith in rw e

-- the next number stored after those that are
pub take_stored : (l : List ℕ) (n x : ℕ) → n < length l → take (n + 1) (set l n x) ≡ take n l ++ x ∷ []
take_stored l n x h = rw add-one (take-suc-set l n x h)

-- members of lists one after the other, and of what is kept
pub has_append : (v : ℕ) (xs ys : List ℕ) → has v (xs ++ ys) ≡ (has v xs || has v ys)
has_append v [] ys = refl
has_append v (x ∷ xs) ys = elim (split (eqb v x)) [ inl e ↦ rw e | inr e ↦ rw e (has_append v xs ys) ]

pub has_keep : (p : ℕ → Bool) (v : ℕ) (l : List ℕ) → has v (keep p l) ≡ (has v l && p v)
has_keep p v [] = refl
has_keep p v (x ∷ l) = elim (split (p x)) [
  | inl e ↦ elim (split (eqb v x)) [ inl f ↦ rw (e, f, eqb-true v x f, e) | inr f ↦ rw (e, f) (has_keep p v l) ]
  | inr e ↦ elim (split (eqb v x)) [ inl f ↦ let q : p v ≡ false = ap p (eqb-true v x f) ∙ e in rw (e, f) (has_keep p v l ∙ rw (q, and-false)) | inr f ↦ rw (e, f) (has_keep p v l) ]
]

pub has_upto : (v n : ℕ) → v < n → has v (upto n 0) ≡ true
has_upto v n h = has_in (upto_in n 0 (omega arith) (omega arith))

pub has_kept : (p : ℕ → Bool) (v n : ℕ) → v < n → has v (keep p (upto n 0)) ≡ p v
has_kept p v n h = has_keep p v (upto n 0) ∙ rw (has_upto v n h)

-- tests that agree keep the same
pub keep_agree : (p q : ℕ → Bool) (l : List ℕ) → ((x : ℕ) → Memᴰ x l → p x ≡ q x) → keep p l ≡ keep q l
keep_agree p q [] h = refl
keep_agree p q (x ∷ l) h = rw (h x (Memᴰ.head refl), keep_agree p q l (λ y m. h y (Memᴰ.tail m)))

-- what is kept of what is kept passes both tests
pub keep_keep : (p q : ℕ → Bool) (l : List ℕ) → keep p (keep q l) ≡ keep (λ x. p x && q x) l
keep_keep p q [] = refl
keep_keep p q (x ∷ l) = elim (split (q x)) [
  | inl e ↦ elim (split (p x)) [ inl f ↦ rw (e, f) (ap (λ z. x ∷ z) (keep_keep p q l)) | inr f ↦ rw (e, f) (keep_keep p q l) ]
  | inr e ↦ elim (split (p x)) [ inl f ↦ rw (e, f) (keep_keep p q l) | inr f ↦ rw (e, f) (keep_keep p q l) ]
]

-- numbers below n, all different, are at most n
pub different_few : (n : ℕ) {l : List ℕ} → Ordered ◌≢◌ l → ((x : ℕ) → Memᴰ x l → x < n) → length l ≤ n
different_few n o h = omega (arith, length_upto n 0, into_length (λ x. x) (upto n 0) o (λ x w i j e. e) (λ x m. upto_in n 0 (omega arith) (omega (arith, h x m))))
