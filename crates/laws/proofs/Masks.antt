-- Masks: what is in a union, in a single vertex's mask and in none.
use Prim.Native.Nat.{ℕ, zero, suc, ◌/◌, ◌%◌, ◌^◌, ◌<◌}
use mathlib.Core.Path.{◌≡◌, refl, sym, ◌∙◌}
use mathlib.Core.Logic.{◌⊎◌, inl, inr}
use mathlib.Core.Bool.{true, false, ◌||◌, or-true}
use native.Mathlib.Nat.{mod-lt, zero-div, mul-mod_left, pow-suc, div-eq_of_lt, div-one, mul-div-mul_right}
use native.Mathlib.Omega.{arith}
use lib.Dec.{eqb, eqb-zero-suc, eqb-suc-zero, eqb-suc-suc}
use lib.Bits.{bit_or, or_shr, or_mod}
use lib.Pow.{pow-lt}
use Rattle.laws.specs.Masks.{in_mask}
use Rattle.laws.proofs.Lists.{split}

-- of two bits
bit_or_lem : (x y : ℕ) → x < 2 → y < 2 → eqb (bit_or x y) 1 ≡ (eqb x 1 || eqb y 1)
bit_or_lem zero y h k = refl
bit_or_lem (suc zero) zero h k = refl
bit_or_lem (suc zero) (suc zero) h k = refl
bit_or_lem (suc zero) (suc (suc y)) h k = absurd (omega arith)
bit_or_lem (suc (suc x)) y h k = absurd (omega arith)

-- in a union exactly if in one of the two
pub in_or : (u s t : ℕ) → in_mask u (bit_or s t) ≡ (in_mask u s || in_mask u t)
unfolding in_mask
in_or u s t = rw (or_shr, or_mod (s / 2 ^ u) (t / 2 ^ u) 1) (bit_or_lem (s / 2 ^ u % 2) (t / 2 ^ u % 2) (mod-lt (s / 2 ^ u) (omega arith)) (mod-lt (t / 2 ^ u) (omega arith)))

-- nothing is in 0
pub in_zero : (u : ℕ) → in_mask u 0 ≡ false
unfolding in_mask
in_zero u = rw zero-div

-- in 2 ^ u is u alone
pub in_one : (w u : ℕ) → in_mask w (2 ^ u) ≡ eqb w u
unfolding in_mask
in_one zero zero = refl
in_one zero (suc u) = rw (div-one, pow-suc, mul-mod_left (2 ^ u) 2) (sym (eqb-zero-suc u))
in_one (suc w) zero = rw (div-eq_of_lt (pow-lt {i = 0} {j = suc w} (omega arith))) (sym (eqb-suc-zero w))
in_one (suc w) (suc u) = rw (eqb-suc-suc, pow-suc 2 u, pow-suc 2 w, mul-div-mul_right {m = 2} (2 ^ u) (2 ^ w) (omega arith)) (in_one w u)

-- what is in a part is in the union
pub in_left : (u s t : ℕ) → in_mask u s ≡ true → in_mask u (bit_or s t) ≡ true
in_left u s t h = in_or u s t ∙ rw h

pub in_right : (u s t : ℕ) → in_mask u t ≡ true → in_mask u (bit_or s t) ≡ true
in_right u s t h = in_or u s t ∙ rw (h, or-true)

-- what is in the union is in a part
pub in_parts : (u s t : ℕ) → in_mask u (bit_or s t) ≡ true → (in_mask u s ≡ true) ⊎ (in_mask u t ≡ true)
in_parts u s t h = elim (split (in_mask u s)) [ inl a ↦ inl a | inr a ↦ inr (rw a at (sym (in_or u s t) ∙ h)) ]
