-- Laws of `verdict`, what the first check to fail answers, and of `checked`, a call after its checks: all that proofs about checks go by. Assumes nothing.
use Prim.Native.Nat.{ℕ, zero, suc, ◌<◌}
use mathlib.Core.Path.{◌≡◌, refl, ap, sym, ◌∙◌}
use mathlib.Core.Logic.{◌⊎◌, inl, inr, ⊎_elim, ◌↔◌}
use mathlib.Core.List.Memᴰ
use mathlib.Core.List.{List, [], ◌∷◌, ◌++◌, Memᴰ}
use mathlib.Core.Bool.{Bool, true, false, false≢true}
use native.Mathlib.Decide.{ℕ_discrete}
use native.Mathlib.Omega.{arith}
use borrow.Author.Tests.{ltb-true}
use lib.Dec.{ltb}
use Rattle.laws.specs.Lists.{all}
use Rattle.rules.specs.Checks.{Verdict, lineless, Check, verdict, checked, FirstToFail, fails, passes}
use Rattle.laws.proofs.Lists.{split, all_out}

-- check by check: one that passes leaves the answer to those after it, one that fails answers, and where there is none the answer is 0 and no line
pub verdict_passes : (c : Check) (cs : List Check) → c.0 ≡ true → verdict (c ∷ cs) ≡ verdict cs
unfolding verdict
verdict_passes c cs e = rw e

pub verdict_fails : (c : Check) (cs : List Check) → c.0 ≡ false → verdict (c ∷ cs) ≡ c.1
unfolding verdict
verdict_fails c cs e = rw e

pub verdict_none : verdict [] ≡ lineless 0
unfolding verdict
verdict_none = refl

-- the number is 0 exactly where each check passes, if no check has number 0
pub verdict_cons : (c : Check) (cs : List Check) → 0 < c.1.number → ((verdict (c ∷ cs)).number ≡ 0) ↔ ((c.0 ≡ true) × ((verdict cs).number ≡ 0))
unfolding verdict
verdict_cons c cs h = elim (split c.0) [ inl e ↦ rw e (λ v. (refl, v), λ v. v.1) | inr e ↦ rw e (λ v. absurd (omega arith), λ v. absurd (false≢true v.0)) ]

-- a call does what it does where all its checks pass, and else refuses by what the first to fail answers
pub checked_passes : {R : Type 0} (v : Verdict) (taken : R) (refused : Verdict → R) → v.number ≡ 0 → checked v taken refused ≡ taken
unfolding checked
checked_passes v taken refused e = rw e

pub checked_fails : {R : Type 0} (v : Verdict) (taken : R) (refused : Verdict → R) → (v.number ≡ 0 → ⊥) → checked v taken refused ≡ refused v
unfolding checked
checked_fails v taken refused f = go v.number refl
  where
    go : (k : ℕ) → v.number ≡ k → checked v taken refused ≡ refused v
    go zero e = absurd (f e)
    go (suc k) e = rw e

-- a number is given exactly where its check is the first to fail
fail_out : (cs : List Check) (k : ℕ) → 0 < k → (verdict cs).number ≡ k → FirstToFail k cs
unfolding verdict
fail_out [] k h e = absurd (omega arith)
fail_out (c ∷ cs) k h e = elim (split c.0) [ inl t ↦ passes t (fail_out cs k h (rw t at e)) | inr t ↦ fails t (rw t at e) ]

fail_in : (k : ℕ) {cs : List Check} → FirstToFail k cs → (verdict cs).number ≡ k
unfolding verdict
fail_in k (fails t e) = rw t e
fail_in k (passes t f) = rw t (fail_in k f)

pub first_to_fail : (cs : List Check) (k : ℕ) → 0 < k → ((verdict cs).number ≡ k) ↔ FirstToFail k cs
first_to_fail cs k h = (fail_out cs k h, fail_in k)

-- checks are numbered by numbers of a list
abbrev pub Numbered : List ℕ → List Check → Type 0
Numbered ns cs = (c : Check) → Memᴰ c cs → Memᴰ c.1.number ns

-- and so they are one after the other
pub numbered_cons : {ns : List ℕ} {b : Bool} {v : Verdict} {cs : List Check} → Memᴰ v.number ns → Numbered ns cs → Numbered ns ((b, v) ∷ cs)
numbered_cons m f c i = ⊎_elim (λ e. Memᴰ.cast (ap (λ d. d.1.number) e) m) (f c) (Memᴰ.cases_cons i)

pub numbered_append : {ns : List ℕ} (cs : List Check) {ds : List Check} → Numbered ns cs → Numbered ns ds → Numbered ns (cs ++ ds)
numbered_append cs f g c i = ⊎_elim (f c) (g c) (Memᴰ.append_cases cs i)

pub numbered_nil : {ns : List ℕ} → Numbered ns []
numbered_nil c i = absurd (Memᴰ.not-nil i)

-- the numbers of a list are from 11 up
abbrev pub From11 : List ℕ → Type 0
From11 ns = all (ltb 10) ns ≡ true

pub from_11 : {k : ℕ} {ns : List ℕ} → From11 ns → Memᴰ k ns → 10 < k
from_11 {k} f m = ltb-true 10 k (all_out (ltb 10) m f)

-- a verdict is 0 or one of the numbers
pub verdict_number : {ns : List ℕ} (cs : List Check) → Numbered ns cs → ((verdict cs).number ≡ 0) ⊎ Memᴰ (verdict cs).number ns
unfolding verdict
verdict_number [] h = inl refl
verdict_number (c ∷ cs) h = elim (split c.0) [ inl e ↦ rw e (verdict_number cs (λ d m. h d (Memᴰ.tail m))) | inr e ↦ rw e (inr (h c (Memᴰ.head refl))) ]

-- the checks of a list have numbers above 0
abbrev pub Positive : List Check → Type 0
Positive [] = Unit
Positive (c ∷ cs) = (0 < c.1.number) × Positive cs

pub positive_append : (cs ds : List Check) → Positive cs → Positive ds → Positive (cs ++ ds)
positive_append [] ds p q = q
positive_append (c ∷ cs) ds p q = (p.0, positive_append cs ds p.1 q)

-- a number from the first checks stands, and after 0 the later checks say
pub verdict_first : (cs ds : List Check) → ((verdict cs).number ≡ 0 → ⊥) → verdict (cs ++ ds) ≡ verdict cs
unfolding verdict
verdict_first [] ds f = absurd (f refl)
verdict_first (c ∷ cs) ds f = elim (split c.0) [ inl e ↦ rw e (verdict_first cs ds (λ z. f (rw e z))) | inr e ↦ rw e ]

pub verdict_rest : (cs ds : List Check) → Positive cs → (verdict cs).number ≡ 0 → verdict (cs ++ ds) ≡ verdict ds
unfolding verdict
verdict_rest [] ds p h = refl
verdict_rest (c ∷ cs) ds p h = elim (split c.0) [ inl e ↦ rw e (verdict_rest cs ds p.1 (rw e at h)) | inr e ↦ absurd (omega (arith, p.0, rw e at h)) ]

-- checks that all pass answer 0 and no line
pub verdict_passed : (cs : List Check) → Positive cs → (verdict cs).number ≡ 0 → verdict cs ≡ lineless 0
verdict_passed [] p z = verdict_none
verdict_passed (c ∷ cs) p z = let a = (verdict_cons c cs p.0).0 z in verdict_passes c cs a.0 ∙ verdict_passed cs p.1 a.1

pub verdict_append : (cs ds : List Check) → Positive cs → ((verdict (cs ++ ds)).number ≡ 0) ↔ (((verdict cs).number ≡ 0) × ((verdict ds).number ≡ 0))
verdict_append cs ds p = (there, λ v. ap (λ w. w.number) (verdict_rest cs ds p v.0) ∙ v.1)
  where
    there : (verdict (cs ++ ds)).number ≡ 0 → ((verdict cs).number ≡ 0) × ((verdict ds).number ≡ 0)
    there v = elim (ℕ_discrete (verdict cs).number 0) [
      | yes z ↦ (z, sym (ap (λ w. w.number) (verdict_rest cs ds p z)) ∙ v)
      | no f ↦ absurd (f (sym (ap (λ w. w.number) (verdict_first cs ds f)) ∙ v))
    ]
