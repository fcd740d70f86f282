-- What the first check to fail answers, part by part: of lines one after the other, and of a sheet before its lines.
use Prim.Native.Nat.{ℕ, zero, suc, ◌+◌, ◌*◌, ◌-◌, ◌^◌, ◌≤◌, ◌<◌}
use mathlib.Core.Path.{◌≡◌, refl, ap, ap₂, sym, ◌∙◌}
use mathlib.Core.Logic.{inl, inr}
use mathlib.Core.List.{List, [], ◌∷◌}
use mathlib.Core.Bool.{true, false}
use mathlib.Core.Option.{some, none}
use native.Mathlib.Nat.{zero-mul, zero-add, mul-le-mul_right}
use native.Mathlib.Numerals.{add-one}
use native.Mathlib.Decide.{dec_lt}
use native.Mathlib.Omega.{arith}
use Rattle.std.proofs.lemmas.Bool.Decides.{nat_tests}
use borrow.Author.Tests.{le-leb, lt-leb, eq-eqb, ne_eqb, eqb-true, eqb-false}
use lib.Dec.{eqb, leb}
use lib.ListN.{length, drop}
use lib.Seq.{drop-cons}
use Rattle.std.proofs.lemmas.List.{drop_all}
use lib.Pow.{pow_pos}
use Rattle.std.proofs.Common.{Result}
use Rattle.laws.specs.Lists.{all, upto}
use Rattle.laws.proofs.Lists.{split, length_map_upto, get_or_first}
use Rattle.rules.specs.Sheet.{Line, bit_at, word, field, vertex_count, line_count, bit_length, byte_length, line_at, lines_held}
use Rattle.rules.specs.Checks.{Verdict, lineless, Check, verdict, Limits, counted, cleared, line_fits, comes_after, fit_check, order_check, line_checks, sheet_verdict}
use Rattle.rules.proofs.Verdicts.{verdict_passes, verdict_fails, verdict_none}
use Rattle.rules.proofs.Accepted.{counted_iff}
use Rattle.sheet.specs.Fields.{line_of}
use Rattle.sheet.specs.Check.{line_digit, fault_verdict, lines_verdict, Gives}
use Rattle.sheet.specs.declared.fields.SheetLine.{SheetLine}
use Rattle.sheet.specs.declared.fault.LineFault.{LineFault}
use Rattle.sheet.specs.declared.fault.LineFault.TheVariants.{Unfit, Unordered}
use Rattle.sheet.specs.declared.fault.BadLine.{BadLine}
use Rattle.sheet.specs.declared.fault.Fault.{Fault}
use Rattle.sheet.specs.declared.fault.Fault.TheVariants.{Length, Counts, Filling, At}

-- an answer that says 0, and one that says another number
pub passes : {v w : Verdict} → v ≡ w → v.number ≡ 0 → w.number ≡ 0
passes e z = sym (ap (λ x. x.number) e) ∙ z

pub fails : {v w : Verdict} → v ≡ w → (v.number ≡ 0 → ⊥) → w.number ≡ 0 → ⊥
fails e f z = f (ap (λ x. x.number) e ∙ z)

-- a fault is answered one of five numbers past the ten, so never 0
line_digit_positive : (f : LineFault) → 0 < line_digit f
line_digit_positive Unfit = omega arith
line_digit_positive Unordered = omega arith

line_digit_most : (f : LineFault) → line_digit f ≤ 5
line_digit_most Unfit = omega arith
line_digit_most Unordered = omega arith

pub fault_most : (ten : ℕ) (f : Fault) → (fault_verdict ten f).number ≤ ten + 5
fault_most ten Length = omega arith
fault_most ten Counts = omega arith
fault_most ten Filling = omega arith
fault_most ten (At b) = omega (arith, line_digit_most b.fault)

pub fault_positive : (ten : ℕ) (f : Fault) → 0 < (fault_verdict ten f).number
fault_positive ten Length = omega arith
fault_positive ten Counts = omega arith
fault_positive ten Filling = omega arith
fault_positive ten (At b) = omega (arith, line_digit_positive b.fault)

pub fault_stands : (ten : ℕ) (f : Fault) {w : Verdict} → fault_verdict ten f ≡ w → w.number ≡ 0 → ⊥
fault_stands ten f e z = omega (arith, fault_positive ten f, ap (λ v. v.number) e, z)

-- the line before the first
abbrev pub nought : Line
nought = record { type = 0; first = 0; second = 0 }

-- every line that fits comes after it
after_nought : (n : ℕ) (l : Line) → line_fits n l ≡ true → comes_after nought l ≡ true
after_nought n l e = grind (arith, nat_tests)

-- lines one after the other: what is answered of those from line j on, after line k
abbrev pub from : (ten n : ℕ) → List Line → (j : ℕ) → Line → Verdict
from ten n ls j k = verdict (line_checks ten n j (some k) (drop j ls))

pub turns_begin : (ten n : ℕ) (ls : List Line) → verdict (line_checks ten n 0 none ls) ≡ from ten n ls 0 nought
turns_begin ten n [] = refl
turns_begin ten n (l ∷ ls) = elim (split (line_fits n l)) [ inl e ↦ rw (after_nought n l e) | inr e ↦ verdict_fails (fit_check ten n 0 l) _ e ∙ sym (verdict_fails (fit_check ten n 0 l) _ e) ]

module _ {A : Type 0} {post : A → ℕ → SheetLine → Type 0} {f : A} {m : ℕ} {ls : List Line} (G : Gives post f m ls) (ten n j : ℕ) where
  pub turns_over : (k : Line) → m ≤ j → from ten n ls j k ≡ lineless 0
  turns_over k h = let e : length ls ≤ j = omega (arith, G.many) in rw (drop_all j ls e) verdict_none

  -- line j, which is l: the first of its two checks to fail says, and where both pass the later lines say
  module _ (k : Line) {l : SheetLine} (h : j < m) (p : post f j l) where
    turn : from ten n ls j k ≡ verdict (fit_check ten n j (line_of l) ∷ order_check ten j (some k) (line_of l) ∷ line_checks ten n (suc j) (some (line_of l)) (drop (suc j) ls))
    turn = let e : j < length ls = omega (arith, G.many) in rw (drop-cons ls j nought e, sym (G.are j l h p))

    pub turn_unfit : line_fits n (line_of l) ≡ false → from ten n ls j k ≡ record { number = ten + 4; line = j }
    turn_unfit e = turn ∙ verdict_fails (fit_check ten n j (line_of l)) _ e

    module _ (e : line_fits n (line_of l) ≡ true) where
      pub turn_late : comes_after k (line_of l) ≡ false → from ten n ls j k ≡ record { number = ten + 5; line = j }
      turn_late a = turn ∙ verdict_passes (fit_check ten n j (line_of l)) _ e ∙ verdict_fails (order_check ten j (some k) (line_of l)) _ a

      pub turn_passed : comes_after k (line_of l) ≡ true → from ten n ls j k ≡ from ten n ls (j + 1) (line_of l)
      turn_passed a = turn ∙ verdict_passes (fit_check ten n j (line_of l)) _ e ∙ verdict_passes (order_check ten j (some k) (line_of l)) _ a ∙ ap (λ i. verdict (line_checks ten n i (some (line_of l)) (drop i ls))) (sym (add-one j))

-- fields at the same place
pub field_same : (bytes : List ℕ) {i j v w : ℕ} → i ≡ j → v ≡ w → field bytes i v ≡ field bytes j w
field_same bytes e f = rw (e, f)

-- bits are all 0 exactly where their word is
pub clear_word : (f : ℕ → ℕ) (w i : ℕ) → all (λ j. eqb (f j) 0) (upto w i) ≡ eqb (word f i w) 0
unfolding word
clear_word f zero i = refl
clear_word f (suc w) i = rw (clear_word f w (suc i)) (elim (split (eqb (f i) 0)) [
  | inl e ↦ let z : f i ≡ 0 = eqb-true (f i) 0 e in rw (z, zero-mul, zero-add)
  | inr e ↦ rw (e, ne_eqb (f i * 2 ^ w + word f (suc i) w) 0 (λ z. omega (arith, pow_pos w, mul-le-mul_right {m = 1} {n = f i} (2 ^ w) (some_bit e))))
])
  where
    some_bit : eqb (f i) 0 ≡ false → 1 ≤ f i
    some_bit e = elim (dec_lt 0 (f i)) [ yes h ↦ h | no h ↦ absurd (eqb-false (f i) 0 e (omega arith)) ]

-- the lines of a sheet, given one by one
held_given : {A : Type 0} {post : A → ℕ → SheetLine → Type 0} {f : A} (bytes : List ℕ) (n m : ℕ) → ((j : ℕ) (l : SheetLine) → j < m → post f j l → line_of l ≡ line_at bytes (22 + 6 * n + 20 * j)) → Gives post f m (lines_held bytes n m)
unfolding lines_held
held_given bytes n m h = record {
  many = length_map_upto _ m 0;
  are = λ j l k p. h j l k p ∙ sym (get_or_first (λ i. line_at bytes (22 + 6 * n + 20 * i)) nought m j k);
}

-- the checks of a sheet, one after the other
module _ (L : Limits) (bytes : List ℕ) where
  abbrev n : ℕ
  n = vertex_count bytes

  abbrev m : ℕ
  m = line_count bytes

  abbrev three : Check
  three = (leb 3 (length bytes), lineless (L.ten + 1))

  abbrev counts : Check
  counts = (counted L n m, lineless (L.ten + 2))

  abbrev long : Check
  long = (eqb (length bytes) (byte_length n m), lineless (L.ten + 1))

  abbrev filled : Check
  filled = (cleared bytes, lineless (L.ten + 3))

  abbrev lines : List Check
  lines = line_checks L.ten n 0 none (lines_held bytes n m)

  pub sheet_short : length bytes < 3 → sheet_verdict L bytes ≡ lineless (L.ten + 1)
  unfolding sheet_verdict
  sheet_short h = verdict_fails three _ (lt-leb 3 (length bytes) h)

  module _ (a : 3 ≤ length bytes) where
    past_three : sheet_verdict L bytes ≡ verdict (counts ∷ long ∷ filled ∷ lines)
    unfolding sheet_verdict
    past_three = verdict_passes three _ (le-leb 3 (length bytes) a)

    pub sheet_uncounted : ((0 < n) × (n ≤ L.vertices) × (m ≤ L.lines) → ⊥) → sheet_verdict L bytes ≡ lineless (L.ten + 2)
    sheet_uncounted f = elim (split (counted L n m)) [ inl e ↦ absurd (f ((counted_iff L n m).0 e)) | inr e ↦ past_three ∙ verdict_fails counts _ e ]

    module _ (b : (0 < n) × (n ≤ L.vertices) × (m ≤ L.lines)) where
      past_counts : sheet_verdict L bytes ≡ verdict (long ∷ filled ∷ lines)
      past_counts = past_three ∙ verdict_passes counts _ ((counted_iff L n m).1 b)

      pub sheet_long : (length bytes ≡ byte_length n m → ⊥) → sheet_verdict L bytes ≡ lineless (L.ten + 1)
      sheet_long h = past_counts ∙ verdict_fails long _ (ne_eqb (length bytes) (byte_length n m) h)

      module _ (e : length bytes ≡ byte_length n m) where
        filling : cleared bytes ≡ eqb (field bytes (bit_length n m) (8 * length bytes - bit_length n m)) 0
        filling = clear_word (bit_at bytes) _ _

        past_long : sheet_verdict L bytes ≡ verdict (filled ∷ lines)
        past_long = past_counts ∙ verdict_passes long _ (eq-eqb (length bytes) (byte_length n m) e)

        pub sheet_filled : (field bytes (bit_length n m) (8 * length bytes - bit_length n m) ≡ 0 → ⊥) → sheet_verdict L bytes ≡ lineless (L.ten + 3)
        sheet_filled h = past_long ∙ verdict_fails filled _ (filling ∙ ne_eqb _ 0 h)

        -- and then those of its lines, by what is answered of lines that a function gives
        module _ {A : Type 0} {post : A → ℕ → SheetLine → Type 0} {f : A} {v w : ℕ} (p : v ≡ n) (q : w ≡ m) (r : Result Unit BadLine) where
          pub sheet_drawn : field bytes (bit_length n m) (8 * length bytes - bit_length n m) ≡ 0 → ((ten : ℕ) (ls : List Line) → Gives post f w ls → lines_verdict ten r ≡ verdict (line_checks ten v 0 none ls)) → ((j : ℕ) (l : SheetLine) → j < w → post f j l → line_of l ≡ line_at bytes (22 + 6 * v + 20 * j)) → lines_verdict L.ten r ≡ sheet_verdict L bytes
          sheet_drawn h says given = says L.ten (lines_held bytes v w) (held_given bytes v w given) ∙ ap₂ (λ x y. verdict (line_checks L.ten x 0 none (lines_held bytes x y))) p q ∙ sym (past_long ∙ verdict_passes filled _ (filling ∙ eq-eqb _ 0 h))
