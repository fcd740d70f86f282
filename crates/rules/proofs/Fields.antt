-- Fields and bits: what is written in w bits is read from them again, and the other way round.
use Prim.Native.Nat.{ℕ, zero, suc, ◌+◌, ◌*◌, ◌-◌, ◌/◌, ◌%◌, ◌^◌, ◌≤◌, ◌<◌}
use mathlib.Core.Path.{◌≡◌, refl, ap, ap₂, sym, ◌∙◌}
use mathlib.Core.List.{List, [], ◌∷◌, ◌++◌, map}
use native.Mathlib.Nat.{add-zero, add_comm, mul_assoc, pow-succ', mul-le-mul_right, add-mul-div_right, add-mul-mod_self_right, mod-lt, mod-eq_of_lt, mod-one}
use native.Mathlib.Omega.{arith}
use lib.ListN.{length, get_or, get_or-append}
use lib.Pow.{pow_pos, high, mod-pow-add}
use lib.Seq.{get_or-append-add}
use Rattle.laws.specs.Lists.{upto}
use Rattle.rules.specs.Sheet.{bit_at, word, bits}
use Rattle.laws.proofs.Lists.{get_or_map_upto}

-- a bit of bytes is 0 or 1
pub bit_at_lt : (bytes : List ℕ) (i : ℕ) → bit_at bytes i < 2
unfolding bit_at
bit_at_lt bytes i = mod-lt _ (omega arith)

-- words of bits that agree are the same
pub word_same : (f g : ℕ → ℕ) (i w : ℕ) → ((j : ℕ) → i ≤ j → j < i + w → f j ≡ g j) → word f i w ≡ word g i w
unfolding word
word_same f g i zero h = refl
word_same f g i (suc w) h = rw (h i (omega arith) (omega arith), word_same f g (suc i) w (λ j a b. h j (omega arith) (omega arith)))

module _ (f : ℕ → ℕ) (two : (j : ℕ) → f j < 2) where
  pub word_lt : (i w : ℕ) → word f i w < 2 ^ w
  unfolding word
  word_lt i zero = omega arith
  word_lt i (suc w) = rw pow-succ' (omega (arith, word_lt (suc i) w, mul-le-mul_right {m = f i} {n = 1} (2 ^ w) (omega (arith, two i))))

-- the bits of a number do not depend on what stands above them
pub bits_below : (w a x : ℕ) → bits w (a * 2 ^ w + x) ≡ bits w x
unfolding bits
bits_below zero a x = refl
bits_below (suc w) a x = rw q (ap₂ ◌∷◌ (ap (λ k. k % 2) (rw (add_comm (a * 2 * 2 ^ w) x) (add-mul-div_right x (a * 2) (pow_pos w))) ∙ add-mul-mod_self_right (x / 2 ^ w) a 2) (bits_below w (a * 2) x))
  where
    q : a * 2 ^ suc w ≡ a * 2 * 2 ^ w
    q = rw (pow-succ', mul_assoc)

-- the bits of a word are those that it is of
module _ (f : ℕ → ℕ) (two : (j : ℕ) → f j < 2) where
  pub bits_word : (i w : ℕ) → bits w (word f i w) ≡ map f (upto w i)
  unfolding bits word
  bits_word i zero = refl
  bits_word i (suc w) = ap₂ ◌∷◌ (rw (high (f i) w {lo = word f (suc i) w} (word_lt f two (suc i) w)) (mod-eq_of_lt (two i))) (bits_below w (f i) (word f (suc i) w) ∙ bits_word (suc i) w)

pub length_bits : (w x : ℕ) → length (bits w x) ≡ w
unfolding bits
length_bits zero x = refl
length_bits (suc w) x = ap suc (length_bits w x)

-- bit j of w bits
pub get_or_bits : (w x j : ℕ) → j < w → get_or (bits w x) j 0 ≡ x / 2 ^ (w - suc j) % 2
unfolding bits
get_or_bits zero x j h = absurd (omega arith)
get_or_bits (suc w) x zero h = ap (λ k. x / 2 ^ k % 2) (omega arith)
get_or_bits (suc w) x (suc j) h = get_or_bits w x j (omega arith) ∙ ap (λ k. x / 2 ^ k % 2) (omega arith)

-- the word of a number's bits is the number
word_low : (g : ℕ → ℕ) (i w x : ℕ) → ((j : ℕ) → j < w → g (i + j) ≡ get_or (bits w x) j 0) → word g i w ≡ x % 2 ^ w
unfolding word bits
word_low g i zero x h = sym (mod-one x)
word_low g i (suc w) x h =
    let head : g i ≡ x / 2 ^ w % 2 = rw add-zero at (h 0 (omega arith)) in
    let rest : word g (suc i) w ≡ x % 2 ^ w = word_low g (suc i) w x (λ j l. ap g (omega arith) ∙ h (suc j) (omega arith)) in
    rw (head, rest) (sym (mod-pow-add x 1 w) ∙ ap (λ k. x % 2 ^ k) (omega arith))

pub word_bits : (g : ℕ → ℕ) (i w x : ℕ) → x < 2 ^ w → ((j : ℕ) → j < w → g (i + j) ≡ get_or (bits w x) j 0) → word g i w ≡ x
word_bits g i w x l h = word_low g i w x h ∙ mod-eq_of_lt l

-- also where they stand inside a list
pub word_at : (l a c : List ℕ) (i w x : ℕ) → l ≡ a ++ (bits w x ++ c) → length a ≡ i → x < 2 ^ w → word (λ j. get_or l j 0) i w ≡ x
word_at l a c i w x p e h = rw (p, sym e) (word_bits _ (length a) w x h (λ j k. get_or-append-add a (bits w x ++ c) j 0 ∙ get_or-append (bits w x) c 0 j (rw length_bits k)))

-- bit j of a word
pub word_bit : (f : ℕ → ℕ) → ((j : ℕ) → f j < 2) → (i w j : ℕ) → j < w → word f i w / 2 ^ (w - suc j) % 2 ≡ f (i + j)
word_bit f two i w j h = sym (get_or_bits w (word f i w) j h) ∙ rw (bits_word f two i w) (get_or_map_upto f 0 w i j h)

-- byte k is the word of its eight bits
pub byte_word : (bytes : List ℕ) (k : ℕ) → get_or bytes k 0 < 256 → word (bit_at bytes) (8 * k) 8 ≡ get_or bytes k 0
unfolding bit_at
byte_word bytes k l = word_bits _ (8 * k) 8 (get_or bytes k 0) l (λ j h. place j ((8 * k + j) / 8) ((8 * k + j) % 8) (omega arith) (omega arith) ∙ sym (get_or_bits 8 (get_or bytes k 0) j h))
  where
    place : (j q r : ℕ) → q ≡ k → r ≡ j → get_or bytes q 0 / 2 ^ (7 - r) % 2 ≡ get_or bytes k 0 / 2 ^ (8 - suc j) % 2
    place j q r e f = rw (e, f) (ap (λ i. get_or bytes k 0 / 2 ^ i % 2) (omega arith))

-- bits stay bits in a longer list
abbrev pub Two : List ℕ → Type 0
Two l = (j : ℕ) → get_or l j 0 < 2

pub two_append : (a b : List ℕ) → Two a → Two b → Two (a ++ b)
two_append [] b f g j = g j
two_append (x ∷ a) b f g zero = f 0
two_append (x ∷ a) b f g (suc j) = two_append a b (λ i. f (suc i)) g j

pub two_bits : (w x : ℕ) → Two (bits w x)
unfolding bits
two_bits zero x j = omega arith
two_bits (suc w) x zero = mod-lt _ (omega arith)
two_bits (suc w) x (suc j) = two_bits w x j
