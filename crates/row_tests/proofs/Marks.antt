-- Digests and marks: a mark that is set stays set, and a row that equals an earlier one finds both its marks. Assumes nothing.
use Prim.Native.Nat.{ℕ, ◌+◌, ◌*◌, ◌/◌, ◌%◌, ◌^◌, ◌≤◌, ◌<◌}
use mathlib.Core.Path.{◌≡◌, refl, ap, sym, subst, ◌∙◌}
use mathlib.Core.Bool.{true}
use mathlib.Core.List.{List}
use native.Mathlib.Nat.{mod-lt, mod-eq_of_lt, one-mul, div-lt_iff_lt-mul}
use native.Mathlib.Numerals.{add-one}
use native.Mathlib.Decide.{ℕ_discrete}
use native.Mathlib.Omega.{arith}
use borrow.Author.Tests.{eq-eqb}
use lib.Bits.{bit_or}
use lib.ListN.{length, get_or, drop, length-set, drop_of_length-le}
use lib.Pow.{pow-lt}
use lib.Seq.{drop-cons, get_or-set_same, get_or-set_other}
use Rattle.laws.proofs.Masks.{in_left, in_right, in_one}
use Rattle.rules.specs.RowCheck.{row_at, Repeats}
use Rattle.row_tests.specs.Marks.{mixed, digest_from, digest_of, is_marked, marked_at, Met, Noted}

-- one entry more, and all of them
pub digest_more : (row : List ℕ) (d i x : ℕ) → i < length row → x ≡ get_or row i 0 → digest_from d (drop i row) ≡ digest_from 0 row → digest_from ((d + x) * 92_821_457 % 68_719_476_731) (drop (i + 1) row) ≡ digest_from 0 row
unfolding digest_from mixed
digest_more row d i x h e so = rw (e, add-one) (rw (drop-cons row i 0 h, digest_from) at so)

pub digest_end : (row : List ℕ) (d i : ℕ) → length row ≤ i → digest_from d (drop i row) ≡ digest_from 0 row → d ≡ digest_from 0 row
unfolding digest_from
digest_end row d i h so = rw (drop_of_length-le row h) at so

-- a bit below 32 as it is shifted
pub shifted : (b : ℕ) → b < 32 → 1 * 2 ^ b % 4_294_967_296 ≡ 2 ^ b
shifted b h = rw one-mul (mod-eq_of_lt (pow-lt {j = 32} h))

-- the two marks of a digest below 2^36
pub low_small : (d : ℕ) → d % 262_144 < 262_144
low_small d = mod-lt d (omega arith)

pub high_small : (d : ℕ) → d < 68_719_476_736 → d / 262_144 < 262_144
high_small d h = (div-lt_iff_lt-mul {k = 262_144} (omega arith)).1 h

module _ (marks : List ℕ) (d : ℕ) (long : length marks ≡ 8_192) (small : d < 262_144) where
  inside : d / 32 < length marks
  inside = omega arith

  pub marked_long : length (marked_at marks d) ≡ 8_192
  unfolding marked_at
  marked_long = length-set marks (d / 32) (bit_or (get_or marks (d / 32) 0) (2 ^ (d % 32))) ∙ long

  -- the mark is set
  pub marked_itself : is_marked (marked_at marks d) d ≡ true
  unfolding is_marked marked_at
  marked_itself = rw (get_or-set_same marks (d / 32) (bit_or (get_or marks (d / 32) 0) (2 ^ (d % 32))) 0 inside) (in_right (d % 32) (get_or marks (d / 32) 0) (2 ^ (d % 32)) (in_one (d % 32) (d % 32) ∙ eq-eqb (d % 32) (d % 32) refl))

  -- and what was set stays so
  pub marked_still : (e : ℕ) → is_marked marks e ≡ true → is_marked (marked_at marks d) e ≡ true
  unfolding is_marked marked_at
  marked_still e h = elim (ℕ_discrete (e / 32) (d / 32)) [
    | yes q ↦ rw (q, get_or-set_same marks (d / 32) (bit_or (get_or marks (d / 32) 0) (2 ^ (d % 32))) 0 inside) (in_left (e % 32) (get_or marks (d / 32) 0) (2 ^ (d % 32)) (rw q at h))
    | no q ↦ rw (get_or-set_other marks (d / 32) (e / 32) (bit_or (get_or marks (d / 32) 0) (2 ^ (d % 32))) 0 q) h
  ]

-- both marks of one row more
pub noted_more : {n : ℕ} {rows : List ℕ} {i : ℕ} {marks : List ℕ} → Noted n rows i marks → (d : ℕ) → d ≡ digest_of (row_at n rows i) → d < 68_719_476_736 → Noted n rows (i + 1) (marked_at (marked_at marks (d % 262_144)) (d / 262_144))
noted_more {n} {rows} {i} {marks} N d e small = record {
  words = marked_long (marked_at marks (d % 262_144)) (d / 262_144) words₁ (high_small d small);
  met = λ j h. elim (ℕ_discrete j i) [
    | yes q ↦ rw q (subst (λ x. Met both x) e (still (d % 262_144) (marked_itself marks (d % 262_144) N.words (low_small d)), marked_itself (marked_at marks (d % 262_144)) (d / 262_144) words₁ (high_small d small)))
    | no q ↦ let m = N.met j (omega arith) in (kept _ m.0, kept _ m.1)
  ];
}
  where
    words₁ : length (marked_at marks (d % 262_144)) ≡ 8_192
    words₁ = marked_long marks (d % 262_144) N.words (low_small d)

    both : List ℕ
    both = marked_at (marked_at marks (d % 262_144)) (d / 262_144)

    still : (x : ℕ) → is_marked (marked_at marks (d % 262_144)) x ≡ true → is_marked both x ≡ true
    still = marked_still (marked_at marks (d % 262_144)) (d / 262_144) words₁ (high_small d small)

    kept : (x : ℕ) → is_marked marks x ≡ true → is_marked both x ≡ true
    kept x h = still x (marked_still marks (d % 262_144) N.words (low_small d) x h)

-- a row equal to an earlier one finds both its marks, so that where one is missing there is no such row
pub repeats_met : {n : ℕ} {rows : List ℕ} {i : ℕ} {marks : List ℕ} → Noted n rows i marks → (d : ℕ) → d ≡ digest_of (row_at n rows i) → Repeats n rows i → Met marks d
repeats_met {n} {rows} {i} {marks} N d e r = subst (Met marks) (ap digest_of r.2 ∙ sym e) (N.met r.0 r.1)
