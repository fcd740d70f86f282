-- What the writer returns, by the first of its checks to fail, and what it has put down once the last byte is filled.
use Prim.Native.Nat.{ℕ, zero, suc, ◌+◌, ◌*◌, ◌-◌, ◌/◌, ◌%◌, ◌^◌, ◌≤◌, ◌<◌}
use mathlib.Core.Path.{◌≡◌, refl, ap, ap₂, sym, ◌∙◌}
use mathlib.Core.Logic.{⊎_elim, inl, inr}
use mathlib.Core.Bool.{true, false}
use mathlib.Core.List.{List, [], ◌∷◌, ◌++◌}
use mathlib.Core.Option.{none}
use native.Mathlib.Nat.{zero-div}
use native.Mathlib.Omega.{arith}
use borrow.Author.Tests.{le-leb, lt-leb, eq-eqb, ne_eqb}
use lib.Dec.{eqb, leb}
use Rattle.std.specs.Prelude.{Result}
use Rattle.std.specs.Prelude.{Ok, Err, IsErr, IsErrAnd}
use lib.ListN.{length, get_or, drop}
use Rattle.laws.specs.Lists.{all}
use Rattle.laws.proofs.Lists.{split, map_upto, length_map_upto, get_or_in}
use Rattle.rules.specs.Sheet.{Sheet, word, bits, kind_bits, line_bits, layout, packed, bit_length, byte_length, written}
use Rattle.rules.specs.Checks.{no_line, lineless, Check, verdict, patch_limits, counted, line_checks}
use Rattle.rules.specs.Calls.{over, lines_of, sheet_of, writer_checks, writer_refusals, WriterHanded, writer}
use Rattle.rules.proofs.Verdicts.{checked_fails, from_11, verdict_passes, verdict_fails, verdict_none, verdict_cons, verdict_first, verdict_rest}
use Rattle.rules.proofs.Accepted.{counted_iff, lines_positive}
use Rattle.rules.proofs.Fields.{word_same, length_bits}
use Rattle.rules.proofs.RoundTrip.{length_layout}
use Rattle.rules.proofs.ReadWrite.{length_lines_of, writer_taken, writer_either}
use Rattle.sheet_writer.specs.declared.pen.Pen.{Pen}
use Rattle.sheet_writer.specs.declared.Refusal.{Refusal}
use Rattle.sheet_writer.specs.declared.Refusal.TheVariants.{Uneven, Counts, Kind, At, Room}
use Rattle.sheet_writer.specs.Answers.{refusal_verdict, as_written}
use Rattle.sheet_writer.specs.Pen.{Penned, Able, Added}
use Rattle.sheet_writer.specs.Writing.{line_in, KindsFit, LinesFit, list_checks}
use Rattle.sheet_reader.proofs.Stores.{over_at}
use Rattle.sheet_writer.proofs.Pens.{added_then}
use Rattle.sheet_writer.proofs.Lines.{line_among}

-- the refusal that `?` returns
pub told : {A : Type 0} {q : Refusal} (r : Result A Refusal) → IsErr r × IsErrAnd r (λ x. x ≡ q) → r ≡ Err q
told (Ok x) h = let z : false ≡ true = h.0 in cc
told (Err x) h = ap Err h.1

-- a refusal has a number
pub refusal_number : (r : Refusal) → (refusal_verdict r).number ≡ 0 → ⊥
refusal_number Uneven z = omega arith
refusal_number Counts z = omega arith
refusal_number Kind z = omega arith
refusal_number (At b) z = omega arith
refusal_number Room z = omega arith

-- the checks on the two lists, one after the other
module _ (ks ls : List ℕ) where
  abbrev threes : Check
  threes = (eqb (length ls % 3) 0, lineless 34)

  abbrev counts : Check
  counts = (counted patch_limits (length ks) (length ls / 3), lineless 22)

  abbrev small : Check
  small = (all (λ k. leb k 63) ks, lineless 35)

  pub lists_threes : (length ls % 3 ≡ 0 → ⊥) → verdict (list_checks ks ls) ≡ lineless 34
  lists_threes h = verdict_fails threes _ (ne_eqb (length ls % 3) 0 h)

  module _ (a : length ls % 3 ≡ 0) where
    past_threes : verdict (list_checks ks ls) ≡ verdict (counts ∷ small ∷ line_checks 20 (length ks) 0 none (lines_of ls))
    past_threes = verdict_passes threes _ (eq-eqb (length ls % 3) 0 a)

    pub lists_uncounted : (0 < length ks → length ks ≤ 512 → length ls / 3 ≤ 2_048 → ⊥) → verdict (list_checks ks ls) ≡ lineless 22
    lists_uncounted h = past_threes ∙ elim (split (counted patch_limits (length ks) (length ls / 3))) [
      | inl e ↦ let t = (counted_iff patch_limits (length ks) (length ls / 3)).0 e in absurd (h (omega arith) (omega arith) (omega arith))
      | inr e ↦ verdict_fails counts _ e
    ]

    module _ (b : (length ks ≡ 0 → ⊥) × (length ks ≤ 512) × (length ls / 3 ≤ 2_048)) where
      lists_counted : counted patch_limits (length ks) (length ls / 3) ≡ true
      lists_counted = rw (le-leb 1 (length ks) (omega arith), le-leb (length ks) 512 b.1, le-leb (length ls / 3) 2_048 b.2)

      past_counts : verdict (list_checks ks ls) ≡ verdict (small ∷ line_checks 20 (length ks) 0 none (lines_of ls))
      past_counts = past_threes ∙ verdict_passes counts _ lists_counted

      pub lists_kinds : all (λ k. leb k 63) ks ≡ false → verdict (list_checks ks ls) ≡ lineless 35
      lists_kinds e = past_counts ∙ verdict_fails small _ e

      pub lists_drawn : all (λ k. leb k 63) ks ≡ true → verdict (list_checks ks ls) ≡ verdict (line_checks 20 (length ks) 0 none (lines_of ls))
      lists_drawn e = past_counts ∙ verdict_passes small _ e

  -- lists that pass are within the limits
  pub lists_small : verdict (list_checks ks ls) ≡ lineless 0 → (length ks ≤ 512) × (length ls / 3 ≤ 2_048)
  lists_small e =
      let z = ap (λ v. v.number) e in
      let a = (verdict_cons threes _ (omega arith)).0 z in
      let b = (verdict_cons counts _ (omega arith)).0 a.1 in
      let t = (counted_iff patch_limits (length ks) (length ls / 3)).0 b.0 in
      (t.1, t.2)

-- the writer's answer, by the first of its checks to fail
module _ (ks ls bytes : List ℕ) where
  abbrev room : Check
  room = (leb (byte_length (length ks) (length ls / 3)) (length bytes), lineless 33)

  -- a refusal, with no count and the bytes as they were
  refused : (r : Refusal) → verdict (writer_checks ks ls bytes) ≡ refusal_verdict r → as_written (Err r) bytes ≡ writer ks ls bytes
  unfolding writer
  refused r e = sym (rw e (checked_fails (refusal_verdict r) _ _ (refusal_number r)))

  pub by_lists : (r : Refusal) → refusal_verdict r ≡ verdict (list_checks ks ls) → as_written (Err r) bytes ≡ writer ks ls bytes
  by_lists r e = refused r (verdict_first (list_checks ks ls) (room ∷ []) (λ z. refusal_number r (ap (λ w. w.number) e ∙ z)) ∙ sym e)

  module _ (good : verdict (list_checks ks ls) ≡ lineless 0) where
    roomed : verdict (writer_checks ks ls bytes) ≡ verdict (room ∷ [])
    roomed = verdict_rest (list_checks ks ls) (room ∷ []) (omega arith, (omega arith, (omega arith, lines_positive 20 (length ks) 0 none (lines_of ls)))) (ap (λ v. v.number) good)

    pub by_room : length bytes < byte_length (length ks) (length ls / 3) → as_written (Err Room) bytes ≡ writer ks ls bytes
    by_room l = refused Room (roomed ∙ verdict_fails room [] (lt-leb (byte_length (length ks) (length ls / 3)) (length bytes) l))

    module _ (l : byte_length (length ks) (length ls / 3) ≤ length bytes) where
      handed : WriterHanded ks ls bytes
      handed =
          let z : (verdict (room ∷ [])).number ≡ 0 = ap (λ v. v.number) (verdict_passes room [] (le-leb (byte_length (length ks) (length ls / 3)) (length bytes) l) ∙ verdict_none) in
          ⊎_elim (λ t. t.0) (λ t. absurd (omega (arith, from_11 {ns = writer_refusals} refl t.0, ap (λ v. v.number) roomed, z))) (writer_either ks ls bytes)

      pub kinds_fit : KindsFit ks
      kinds_fit i h = handed.sheet.kinds (get_or ks i 0) (get_or_in 0 ks i h)

      pub lines_fit : LinesFit ls
      lines_fit j h = let t = handed.sheet.drawn.fit (line_in ls j) (line_among ls j h) in omega (arith, t, handed.sheet.vertices)

      pub by_bytes : (count : ℕ) (bytes' : List ℕ) → count ≡ byte_length (length ks) (length ls / 3) → bytes' ≡ over (written (sheet_of ks ls)) bytes → as_written (Ok count) bytes' ≡ writer ks ls bytes
      by_bytes count bytes' e f = (λ i. record { number = 0; line = no_line; count = e i; bytes = f i }) ∙ sym (writer_taken ks ls bytes handed)

-- a pen before the first bit
abbrev pub start : Pen
start = record { at = 0; held = 0; count = 0 }

pub started : (old : List ℕ) → Penned old [] start old
unfolding word packed
started old = record { two = λ j. omega arith; long = refl; held = refl; wrote = refl; same = refl }

-- room for w bits more, after what was put down from the start
pub able_after : {new : List ℕ} {old : List ℕ} {pen : Pen} {bytes : List ℕ} → Added new start old pen bytes → (w : ℕ) → length new + w ≤ 8 * length old → Able w pen bytes
able_after A w h = record { low = A.low; room = omega (arith, A.along, A.same) }

-- zero bits past the end change no byte
zero_bits : (w j : ℕ) → get_or (bits w 0) j 0 ≡ 0
unfolding bits
zero_bits zero j = refl
zero_bits (suc w) zero = rw (zero-div (2 ^ w))
zero_bits (suc w) (suc j) = zero_bits w j

filled_bit : (l : List ℕ) (w j : ℕ) → get_or (l ++ bits w 0) j 0 ≡ get_or l j 0
filled_bit [] w j = zero_bits w j
filled_bit (x ∷ l) w zero = refl
filled_bit (x ∷ l) w (suc j) = filled_bit l w j

packed_filled : (count : ℕ) (l : List ℕ) (w : ℕ) → packed count (l ++ bits w 0) ≡ packed count l
unfolding packed
packed_filled count l w = map_upto _ _ count 0 (λ i a b. word_same _ _ (8 * i) 8 (λ j c d. filled_bit l w j))

-- a whole sheet put down
module _ (ks ls old : List ℕ) where
  abbrev s : Sheet
  s = sheet_of ks ls

  pub laid_out_lem : {p q r t : Pen} {x y z u : List ℕ} → Added (bits 10 (length ks)) start old p x → Added (bits 12 (length ls / 3)) p x q y → Added (kind_bits ks) q y r z → Added (line_bits (lines_of ls)) r z t u → Added (layout s) start old t u
  unfolding layout
  laid_out_lem A B C D = rw (length_lines_of ls) (added_then A (added_then B (added_then C D)))

  pub length_laid : length (layout s) ≡ bit_length (length ks) (length ls / 3)
  length_laid = length_layout s ∙ ap (bit_length (length ks)) (length_lines_of ls)

  pub finished : (t v : Pen) {u bytes : List ℕ} → Added (layout s) start old t u → t.count < 8 → Added (bits ((8 - t.count) % 8) 0) t u v bytes → v.count < 8 → bytes ≡ over (written s) old
  unfolding packed
  finished t v A h B k =
      let P = B.adds old (layout s) (A.adds old [] (started old)) in
      let w = (8 - t.count) % 8 in
      let long : 8 * v.at + v.count ≡ bit_length (length ks) (length ls / 3) + w = B.along ∙ ap₂ ◌+◌ (A.along ∙ omega (arith, length_laid)) (length_bits w 0) in
      let e : v.at ≡ byte_length (length ks) (length (lines_of ls)) = omega (arith, long, A.along, length_laid, length_lines_of ls) in
      P.wrote ∙ ap (λ l. l ++ drop v.at old) (packed_filled v.at (layout s) w) ∙ ap (λ k. packed k (layout s) ++ drop k old) e ∙ over_at (written s) old (byte_length (length ks) (length (lines_of ls))) (length_map_upto _ (byte_length (length ks) (length (lines_of ls))) 0)
