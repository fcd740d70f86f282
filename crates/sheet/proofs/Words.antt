-- Words of bits: their parts, and the one law that says what a field of up to 25 bits at any bit offset is.
use Prim.Native.Nat.{ℕ, zero, suc, ◌+◌, ◌*◌, ◌-◌, ◌/◌, ◌%◌, ◌^◌, ◌≤◌, ◌<◌}
use mathlib.Core.Path.{◌≡◌, refl, ap, ap₂, sym, ◌∙◌}
use mathlib.Core.List.{List}
use native.Mathlib.Nat.{zero-mul, one-mul, zero-add, add-mul, mul_assoc, add_assoc, div-one}
use native.Mathlib.Omega.{arith}
use lib.ListN.{get_or}
use lib.Bits.{bit_and, and_mask}
use lib.Pow.{pow-add, high, low, shl_exact}
use Rattle.rules.specs.Sheet.{Line, bit_at, word, field, line_at}
use Rattle.rules.proofs.Fields.{bit_at_lt, word_lt, byte_word}
use Rattle.sheet.specs.Fields.{four_bytes}

-- a word is its first part above the rest
pub word_split : (f : ℕ → ℕ) (i a b c : ℕ) → c ≡ a + b → word f i c ≡ word f i a * 2 ^ b + word f (i + a) b
unfolding word
word_split f i zero b c e = let t : c ≡ b = omega arith in let u : i ≡ i + 0 = omega arith in rw (zero-mul, zero-add, t) (ap (λ j. word f j b) u)
word_split f i (suc a) b c e =
    let t : c ≡ suc (a + b) = omega arith in
    let u : suc i + a ≡ i + suc a = omega arith in
    rw (t, pow-add 2 a b, word_split f (suc i) a b (a + b) refl, add-mul, mul_assoc, add_assoc, u)

-- w bits inside a longer word, with b bits after them
pub word_inside : (f : ℕ → ℕ) → ((j : ℕ) → f j < 2) → (i a w b c : ℕ) → c ≡ a + (w + b) → word f i c / 2 ^ b % 2 ^ w ≡ word f (i + a) w
word_inside f two i a w b c e =
    ap (λ k. k / 2 ^ b % 2 ^ w) (word_split f i a (w + b) c e ∙ ap₂ (λ p q. word f i a * p + q) (pow-add 2 w b) (word_split f (i + a) w b (w + b) refl) ∙ grouped)
    ∙ ap (λ k. k % 2 ^ w) (high (word f i a * 2 ^ w + word f (i + a) w) b (word_lt f two (i + a + w) b))
    ∙ low (word f i a) w (word_lt f two (i + a) w)
  where
    grouped : word f i a * (2 ^ w * 2 ^ b) + (word f (i + a) w * 2 ^ b + word f (i + a + w) b) ≡ (word f i a * 2 ^ w + word f (i + a) w) * 2 ^ b + word f (i + a + w) b
    grouped = rw (add-mul, mul_assoc) (sym (add_assoc _ _ _))

-- four bytes are the word of their 32 bits
module _ (bytes : List ℕ) (small : (i : ℕ) → get_or bytes i 0 < 256) where
  eight : (k i : ℕ) → i ≡ 8 * k → word (bit_at bytes) i 8 ≡ get_or bytes k 0
  eight k i e = rw e (byte_word bytes k (small k))

  pub four_word : (k : ℕ) → word (bit_at bytes) (8 * k) 32 ≡ four_bytes bytes k
  four_word k =
      let f = bit_at bytes in
      let a = word_split f (8 * k) 8 24 32 refl in
      let b = word_split f (8 * k + 8) 8 16 24 refl in
      let c = word_split f (8 * k + 8 + 8) 8 8 16 refl in
      let p = eight k (8 * k) refl in
      let q = eight (k + 1) (8 * k + 8) (omega arith) in
      let r = eight (k + 2) (8 * k + 8 + 8) (omega arith) in
      let s = eight (k + 3) (8 * k + 8 + 8 + 8) (omega arith) in
      omega (arith, a, b, c, p, q, r, s)

  -- a field of up to 25 bits, at any bit offset, is a part of four bytes
  pub field_four : (at w : ℕ) → w ≤ 25 → field bytes at w ≡ four_bytes bytes (at / 8) / 2 ^ (32 - (at % 8 + w)) % 2 ^ w
  field_four at w h =
      let e : 8 * (at / 8) + at % 8 ≡ at = omega arith in
      ap (λ i. word (bit_at bytes) i w) (sym e) ∙ sym (word_inside (bit_at bytes) (bit_at_lt bytes) (8 * (at / 8)) (at % 8) w (32 - (at % 8 + w)) 32 (omega arith)) ∙ ap (λ k. k / 2 ^ (32 - (at % 8 + w)) % 2 ^ w) (four_word (at / 8))

-- a mask of w ones, as it is made by a shift in a number of W bits
pub ones : (W w : ℕ) → w < W → 1 * 2 ^ w % 2 ^ W ≡ 2 ^ w
ones W w h = shl_exact {a = 1} 1 w W (omega arith) (omega arith) ∙ one-mul (2 ^ w)

pub masked : (W x w : ℕ) → w < W → bit_and x (1 * 2 ^ w % 2 ^ W - 1) ≡ x % 2 ^ w
masked W x w h = ap (λ k. bit_and x (k - 1)) (ones W w h) ∙ and_mask x w

-- a field is below the power of its width
pub field_lt : (bytes : List ℕ) (i w : ℕ) → field bytes i w < 2 ^ w
field_lt bytes i w = word_lt (bit_at bytes) (bit_at_lt bytes) i w

-- the 20 bits of a line are its type, its first end and its second end
module _ (bytes : List ℕ) (at : ℕ) where
  pub line_type : field bytes at 20 / 262_144 ≡ field bytes at 2
  line_type = ap (λ k. k / 262_144) (word_split (bit_at bytes) at 2 18 20 refl) ∙ high (field bytes at 2) 18 (field_lt bytes (at + 2) 18)

  pub line_first : field bytes at 20 / 512 % 512 ≡ field bytes (at + 2) 9
  line_first = word_inside (bit_at bytes) (bit_at_lt bytes) at 2 9 9 20 refl

  pub line_second : field bytes at 20 % 512 ≡ field bytes (at + 11) 9
  line_second = ap (λ k. k % 512) (sym (div-one (field bytes at 20))) ∙ word_inside (bit_at bytes) (bit_at_lt bytes) at 11 9 0 20 refl

  pub line_whole : (x : ℕ) → x ≡ field bytes at 20 → ◌≡◌ {A = Line} (record { type = x / 262_144; first = x / 512 % 512; second = x % 512 }) (line_at bytes at)
  unfolding line_at
  line_whole x e = rw e (λ i. record { type = line_type i; first = line_first i; second = line_second i })
