-- The bits of kinds and lines, one more at a time, and a list of (type, first, second) line by line.
use Prim.Native.Nat.{ℕ, zero, suc, ◌+◌, ◌*◌, ◌/◌, ◌%◌, ◌^◌, ◌<◌}
use mathlib.Core.Path.{◌≡◌, refl, ap, ap₂, sym, ◌∙◌}
use mathlib.Core.List.{List, [], ◌∷◌, ◌++◌, map, append_assoc, append-nil, Memᴰ}
use native.Mathlib.Numerals.{add-one}
use native.Mathlib.Omega.{arith}
use lib.ListN.{length, get_or, take}
use lib.Seq.{take-suc}
use lib.Pow.{shr-shr, high}
use Rattle.laws.specs.Lists.{upto}
use Rattle.laws.proofs.Lists.{length_map_upto, get_or_in, get_or_first, map_next}
use Rattle.rules.specs.Sheet.{Line, bits, kind_bits, line_bits}
use Rattle.rules.specs.Calls.{lines_of}
use Rattle.rules.proofs.Fields.{bits_below}
use Rattle.sheet_writer.specs.Writing.{line_in}

-- the bits of one kind more, and of one line more
kind_bits_append : (a b : List ℕ) → kind_bits (a ++ b) ≡ kind_bits a ++ kind_bits b
unfolding kind_bits
kind_bits_append [] b = refl
kind_bits_append (k ∷ a) b = rw (kind_bits_append a b, append_assoc)

pub kind_next : (ks : List ℕ) (i : ℕ) → i < length ks → kind_bits (take (i + 1) ks) ≡ kind_bits (take i ks) ++ bits 6 (get_or ks i 0)
unfolding kind_bits
kind_next ks i h = rw (add-one, take-suc ks i 0 h, kind_bits_append (take i ks) (get_or ks i 0 ∷ []), append-nil)

line_bits_append : (a b : List Line) → line_bits (a ++ b) ≡ line_bits a ++ line_bits b
unfolding line_bits
line_bits_append [] b = refl
line_bits_append (l ∷ a) b = simp (line_bits_append a b, append_assoc)

-- the upper bits of a number, then the lower
bits_apart : (a b c x : ℕ) → c ≡ a + b → bits c x ≡ bits a (x / 2 ^ b) ++ bits b x
unfolding bits
bits_apart zero b c x e = let t : c ≡ b = omega arith in rw t
bits_apart (suc a) b c x e =
    let t : c ≡ suc (a + b) = omega arith in
    rw t (ap₂ (λ p q. p % 2 ∷ q) (ap (λ k. x / 2 ^ k) (omega arith) ∙ sym (shr-shr x b a)) (bits_apart a b (a + b) x refl))

bits_joined : (a b c x y : ℕ) → c ≡ a + b → y < 2 ^ b → bits c (x * 2 ^ b + y) ≡ bits a x ++ bits b y
bits_joined a b c x y e h = bits_apart a b c (x * 2 ^ b + y) e ∙ ap₂ (λ p q. bits a p ++ q) (high x b h) (bits_below b x y)

-- the 20 bits of a line as one number
pub line_bits_lem : (l : Line) → l.first < 512 → l.second < 512 → bits 20 (l.type * 262_144 + l.first * 512 + l.second) ≡ line_bits (l ∷ [])
unfolding line_bits
line_bits_lem l f s =
    let e : l.type * 262_144 + l.first * 512 + l.second ≡ (l.type * 512 + l.first) * 512 + l.second = omega arith in
    rw (e, append-nil) (bits_joined 11 9 20 (l.type * 512 + l.first) l.second refl s ∙ ap (λ p. p ++ bits 9 l.second) (bits_joined 2 9 11 l.type l.first refl f) ∙ append_assoc (bits 2 l.type) (bits 9 l.first) (bits 9 l.second))

-- one line more of a list by numbers, as one number
pub line_next : (g : ℕ → Line) (j : ℕ) (x : Line) (word : ℕ) → x ≡ g j → word ≡ x.type * 262_144 + x.first * 512 + x.second → (x.type < 4) × (x.first < 512) × (x.second < 512) → line_bits (map g (upto (j + 1) 0)) ≡ line_bits (map g (upto j 0)) ++ bits 20 word
line_next g j x word e f h = rw (map_next g j, line_bits_append (map g (upto j 0)) (g j ∷ []), sym e, f, line_bits_lem x h.1 h.2)

-- what fits as it is listed fits as it was read
pub fits_read : (x l : Line) → x ≡ l → (l.type < 4) × (l.first < 512) × (l.second < 512) → (x.type < 4) × (x.first < 512) × (x.second < 512)
fits_read x l e h = rw e h

-- a list of (type, first, second) by its lines
map_shift : {A : Type 0} (f g : ℕ → A) (n i : ℕ) → ((j : ℕ) → f (suc j) ≡ g j) → map f (upto n (suc i)) ≡ map g (upto n i)
map_shift f g zero i h = refl
map_shift f g (suc n) i h = ap₂ ◌∷◌ (h i) (map_shift f g n (suc i) h)

pub lines_by : (ls : List ℕ) → lines_of ls ≡ map (line_in ls) (upto (length ls / 3) 0)
unfolding lines_of
lines_by [] = refl
lines_by (t ∷ []) = refl
lines_by (t ∷ (a ∷ [])) = refl
lines_by (t ∷ (a ∷ (b ∷ r))) =
    let e : length (t ∷ a ∷ b ∷ r) / 3 ≡ suc (length r / 3) = omega arith in
    rw e (ap (λ l. line_in (t ∷ a ∷ b ∷ r) 0 ∷ l) (lines_by r ∙ sym (map_shift (line_in (t ∷ a ∷ b ∷ r)) (line_in r) (length r / 3) 0 next)))
  where
    at : (j k : ℕ) → k ≡ suc (suc (suc j)) → get_or (t ∷ a ∷ b ∷ r) k 0 ≡ get_or r j 0
    at j k e = rw e

    next : (j : ℕ) → line_in (t ∷ a ∷ b ∷ r) (suc j) ≡ line_in r j
    next j i = record { type = at (3 * j) (3 * suc j) (omega arith) i; first = at (3 * j + 1) (3 * suc j + 1) (omega arith) i; second = at (3 * j + 2) (3 * suc j + 2) (omega arith) i }

-- line j of the list is its j-th line, and is among its lines
pub line_at : (ls : List ℕ) (j : ℕ) (d : Line) → j < length ls / 3 → get_or (lines_of ls) j d ≡ line_in ls j
line_at ls j d h = rw (lines_by ls) (get_or_first (line_in ls) d (length ls / 3) j h)

pub line_among : (ls : List ℕ) (j : ℕ) → j < length ls / 3 → Memᴰ (line_in ls j) (lines_of ls)
line_among ls j h =
    let g = line_in ls in
    let m = length ls / 3 in
    rw (lines_by ls, sym (get_or_first g (g 0) m j h)) (get_or_in (g 0) (map g (upto m 0)) j (rw (length_map_upto g m 0) h))
