-- Bits put down by whole bytes: one byte goes out, a field is added, and one thing after another.
use Prim.Native.Nat.{ℕ, ◌+◌, ◌*◌, ◌/◌, ◌%◌, ◌^◌, ◌≤◌, ◌<◌}
use mathlib.Core.Path.{◌≡◌, refl, ap, ap₂, sym, ◌∙◌}
use mathlib.Core.List.{List, [], ◌++◌, append_assoc, append-nil}
use native.Mathlib.Nat.{mod-lt}
use native.Mathlib.Omega.{arith}
use lib.ListN.{length, get_or, drop, set, length-append, length-set, get_or-append}
use lib.Pow.{pow_pos, pow_mono, pow-add, high, low, shl_exact}
use lib.Arith.{digits_lt}
use Rattle.laws.proofs.Lists.{map_upto}
use Rattle.rules.specs.Sheet.{word, bits, packed}
use Rattle.rules.proofs.Fields.{word_same, word_lt, word_at, length_bits, two_append, two_bits}
use Rattle.sheet_writer.specs.declared.pen.Pen.{Pen}
use Rattle.sheet_writer.specs.Pen.{Penned, Added}
use Rattle.sheet.proofs.Words.{word_split}
use Rattle.sheet_reader.proofs.Stores.{number_put}

-- a byte goes out
module _ (pen : Pen) (bytes : List ℕ) (rest : ℕ) (e : pen.count ≡ rest + 8) (h : pen.at < length bytes) where
  abbrev after : Pen
  after = record { at = pen.at + 1; held = pen.held % 2 ^ rest; count = rest }

  out : (old bs : List ℕ) → Penned old bs pen bytes → Penned old bs after (set bytes pen.at (pen.held / 2 ^ rest))
  unfolding packed
  out old bs P =
      let g : ℕ → ℕ = λ j. get_or bs j 0 in
      let lo = word_lt g P.two (8 * pen.at + 8) rest in
      let whole : pen.held ≡ word g (8 * pen.at) 8 * 2 ^ rest + word g (8 * pen.at + 8) rest = P.held ∙ word_split g (8 * pen.at) 8 rest pen.count (omega arith) in
      let next : 8 * pen.at + 8 ≡ 8 * (pen.at + 1) = omega arith in
      record {
        two = P.two;
        long = omega (arith, P.long);
        held = ap (λ k. k % 2 ^ rest) whole ∙ low (word g (8 * pen.at) 8) rest lo ∙ ap (λ i. word g i rest) next;
        wrote = number_put (λ i. word g (8 * i) 8) old bytes pen.at (pen.held / 2 ^ rest) (ap (λ k. k / 2 ^ rest) whole ∙ high (word g (8 * pen.at) 8) rest lo) (omega (arith, P.same)) P.wrote;
        same = length-set bytes pen.at (pen.held / 2 ^ rest) ∙ P.same;
      }

  pub byte_out : Added [] pen bytes after (set bytes pen.at (pen.held / 2 ^ rest))
  byte_out = record { low = mod-lt pen.held (pow_pos rest); along = omega arith; same = length-set bytes pen.at (pen.held / 2 ^ rest); adds = λ old bs P. rw append-nil (out old bs P) }

-- bytes that lie before do not change where bits are added
packed_add : (at : ℕ) (bs new : List ℕ) → 8 * at ≤ length bs → packed at (bs ++ new) ≡ packed at bs
unfolding packed
packed_add at bs new h = map_upto _ _ at 0 (λ i a b. word_same _ _ (8 * i) 8 (λ j c d. get_or-append bs new 0 j (omega arith)))

-- a field waits behind what the pen holds
module _ (pen : Pen) (bytes : List ℕ) (value width : ℕ) (h : value < 2 ^ width) where
  abbrev loaded : Pen
  loaded = record { at = pen.at; held = pen.held * 2 ^ width + value; count = pen.count + width }

  load : (old bs : List ℕ) → Penned old bs pen bytes → Penned old (bs ++ bits width value) loaded bytes
  load old bs P =
      let g : ℕ → ℕ = λ j. get_or (bs ++ bits width value) j 0 in
      let before : word g (8 * pen.at) pen.count ≡ pen.held = word_same g (λ j. get_or bs j 0) (8 * pen.at) pen.count (λ j a b. get_or-append bs (bits width value) 0 j (omega (arith, P.long))) ∙ sym P.held in
      let behind : word g (8 * pen.at + pen.count) width ≡ value = word_at (bs ++ bits width value) bs [] (8 * pen.at + pen.count) width value (ap (λ l. bs ++ l) (sym (append-nil _))) P.long h in
      record {
        two = two_append bs (bits width value) P.two (two_bits width value);
        long = simp (length-append, length_bits) (omega (arith, P.long));
        held = sym (word_split g (8 * pen.at) pen.count width (pen.count + width) refl ∙ ap₂ (λ a b. a * 2 ^ width + b) before behind);
        wrote = P.wrote ∙ ap (λ l. l ++ drop pen.at old) (sym (packed_add pen.at bs (bits width value) (omega (arith, P.long))));
        same = P.same;
      }

  pub field_in : pen.held < 2 ^ pen.count → Added (bits width value) pen bytes loaded bytes
  field_in l = record { low = rw (pow-add 2 pen.count width) (digits_lt l h); along = rw length_bits (omega arith); same = refl; adds = load }

-- one thing after another
pub added_then : {a b : List ℕ} {p q r : Pen} {x y z : List ℕ} → Added a p x q y → Added b q y r z → Added (a ++ b) p x r z
added_then {a} {b} {p} {q} {r} {x} {y} {z} A B = record { low = B.low; along = simp length-append (omega (arith, A.along, B.along)); same = B.same ∙ A.same; adds = λ old bs P. rw (← append_assoc) (B.adds old (bs ++ a) (A.adds old bs P)) }

-- a field put down: it waits, and whole bytes go out
pub put_down : (pen : Pen) (bytes : List ℕ) (value width held : ℕ) → value < 2 ^ width → pen.held < 2 ^ pen.count → held ≡ pen.held * 2 ^ width + value → {r : Pen} {bytes' : List ℕ} → Added [] (record { at = pen.at; held = held; count = pen.count + width }) bytes r bytes' → Added (bits width value) pen bytes r bytes'
put_down pen bytes value width held h l e A = rw append-nil at (added_then (field_in pen bytes value width h l) (rw e at A))

-- what a pen of fewer than eight bits holds, moved up
pub moved_up : (pen : Pen) (width : ℕ) → pen.count < 8 → width ≤ 20 → pen.held < 2 ^ pen.count → pen.held * 2 ^ width % 2 ^ 32 ≡ pen.held * 2 ^ width
moved_up pen width h k l = shl_exact pen.count width 32 l (omega arith)

-- and it fits beside a field
pub moved_fits : (pen : Pen) (value width : ℕ) → pen.count < 8 → width ≤ 20 → pen.held < 2 ^ pen.count → value < 2 ^ width → pen.held * 2 ^ width + value < 2 ^ 27
moved_fits pen value width h k l v = omega (arith, rw (← pow-add 2 pen.count width) at (digits_lt l v), pow_mono {i = pen.count + width} {j = 27} (omega arith))

-- nothing was added yet
pub nothing : (pen : Pen) (bytes : List ℕ) → pen.held < 2 ^ pen.count → Added [] pen bytes pen bytes
nothing pen bytes l = record { low = l; along = omega arith; same = refl; adds = λ old bs P. rw append-nil P }
