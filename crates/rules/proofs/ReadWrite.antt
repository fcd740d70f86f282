-- How the reader and the writer go: what they are rightly handed, what they change, and both round trips.
use Prim.Native.Nat.{ℕ, ◌+◌, ◌*◌, ◌/◌, ◌%◌, ◌≤◌}
use mathlib.Core.Path.{◌≡◌, refl, ap, ◌∙◌}
use mathlib.Core.Logic.{◌⊎◌, inl, inr, ◌↔◌}
use mathlib.Core.List.Memᴰ
use mathlib.Core.List.{List, [], ◌∷◌, ◌++◌, Memᴰ}
use mathlib.Core.Bool.{◌&&◌, and-eq-true_iff}
use mathlib.Core.Option.{none}
use native.Mathlib.Omega.{arith}
use borrow.Author.Tests.{leb-true, le-leb, eqb-true, eq-eqb}
use lib.Dec.{eqb, leb}
use lib.ListN.{length, take, drop}
use lib.Seq.{take_at, drop_at}
use Rattle.laws.specs.Lists.{all, upto}
use Rattle.rules.specs.Sheet.{Line, Sheet, Bytes, vertex_count, line_count, byte_length, held, written, kinds_held, lines_held, line_at, field, bit_at}
use Rattle.rules.specs.Checks.{Verdict, no_line, lineless, Check, verdict, patch_limits, counted, line_checks, sheet_checks, Accepted}
use Rattle.rules.specs.Calls.{over, triples, lines_of, when_read, unread, reader_checks, reader_refusals, ReaderHanded, reader, when_written, unwritten, sheet_of, Writable, writer_checks, writer_refusals, WriterHanded, writer}
use Rattle.laws.proofs.Lists.{has_out, all_in, all_out, length_map_upto}
use Rattle.rules.proofs.Verdicts.{Numbered, numbered_cons, numbered_append, numbered_nil, checked_passes, checked_fails, from_11, verdict_number, verdict_cons, verdict_append}
use Rattle.rules.proofs.Accepted.{tens, lines_numbered, sheet_numbered, lines_positive, sheet_positive, counted_iff, lines_iff, accepted_iff}
use Rattle.rules.proofs.Fields.{bit_at_lt, word_lt}
use Rattle.rules.proofs.RoundTrip.{read_written, count_back, written_read, written_long, written_accepted}

-- lines as a list of threes, there and back
pub lines_triples : (ls : List Line) → lines_of (triples ls) ≡ ls
unfolding triples lines_of
lines_triples [] = refl
lines_triples (l ∷ ls) = ap (λ r. l ∷ r) (lines_triples ls)

pub length_triples : (ls : List Line) → length (triples ls) ≡ 3 * length ls
unfolding triples
length_triples [] = refl
length_triples (l ∷ ls) = omega (arith, length_triples ls)

pub triples_lines : (l : List ℕ) → length l % 3 ≡ 0 → triples (lines_of l) ≡ l
unfolding triples lines_of
triples_lines [] e = refl
triples_lines (t ∷ []) e = absurd (omega arith)
triples_lines (t ∷ (a ∷ [])) e = absurd (omega arith)
triples_lines (t ∷ (a ∷ (b ∷ r))) e = ap (λ r. t ∷ a ∷ b ∷ r) (triples_lines r (omega arith))

pub length_lines_of : (l : List ℕ) → length (lines_of l) ≡ length l / 3
unfolding lines_of
length_lines_of [] = refl
length_lines_of (t ∷ []) = refl
length_lines_of (t ∷ (a ∷ [])) = refl
length_lines_of (t ∷ (a ∷ (b ∷ r))) = omega (arith, length_lines_of r)

-- the reader
pub reader_sheet_numbered : (bytes : List ℕ) → Numbered reader_refusals (sheet_checks patch_limits bytes)
reader_sheet_numbered = sheet_numbered patch_limits (tens 20 (has_out 21 _ refl) (has_out 22 _ refl) (has_out 23 _ refl) (has_out 24 _ refl) (has_out 25 _ refl))

module _ (bytes ks ls : List ℕ) where
  abbrev space : Check
  space = (leb (vertex_count bytes) (length ks) && leb (3 * line_count bytes) (length ls), lineless 33)

  reader_iff : ((verdict (reader_checks bytes ks ls)).number ≡ 0) ↔ ReaderHanded bytes ks ls
  unfolding verdict
  reader_iff = (λ v. let a = checks.0 v in let b = (and-eq-true_iff _ _).0 ((verdict_cons space [] (omega arith)).0 a.1).0 in record { sheet = (accepted_iff patch_limits bytes).0 a.0; kinds = leb-true _ _ b.0; lines = leb-true _ _ b.1 }, λ H. checks.1 ((accepted_iff patch_limits bytes).1 H.sheet, rw (le-leb _ _ H.kinds, le-leb _ _ H.lines)))
    where
      checks : ((verdict (reader_checks bytes ks ls)).number ≡ 0) ↔ (((verdict (sheet_checks patch_limits bytes)).number ≡ 0) × ((verdict (space ∷ [])).number ≡ 0))
      checks = verdict_append (sheet_checks patch_limits bytes) (space ∷ []) (sheet_positive patch_limits bytes)

  abbrev first : Verdict
  first = verdict (reader_checks bytes ks ls)

  pub reader_taken : ReaderHanded bytes ks ls → reader bytes ks ls ≡ when_read bytes ks ls
  unfolding reader
  reader_taken H = checked_passes first _ _ (reader_iff.1 H)

  -- the reader reads what it is rightly handed, and refuses all else by one of its numbers, changing nothing
  pub reader_either : (ReaderHanded bytes ks ls × (reader bytes ks ls ≡ when_read bytes ks ls)) ⊎ (Memᴰ first.number reader_refusals × (reader bytes ks ls ≡ unread first ks ls))
  unfolding reader
  reader_either = elim (verdict_number _ numbered) [ inl v ↦ inl (reader_iff.0 v, reader_taken (reader_iff.0 v)) | inr v ↦ inr (v, checked_fails first _ _ (λ z. omega (arith, from_11 {ns = reader_refusals} refl v))) ]
    where
      numbered : Numbered reader_refusals (reader_checks bytes ks ls)
      numbered = numbered_append (sheet_checks patch_limits bytes) (reader_sheet_numbered bytes) (numbered_cons (has_out 33 _ refl) numbered_nil)

-- the writer
module _ (ks ls bytes : List ℕ) where
  abbrev room : Check
  room = (leb (byte_length (length ks) (length ls / 3)) (length bytes), lineless 33)

  abbrev on_lines : List Check
  on_lines = line_checks 20 (length ks) 0 none (lines_of ls)

  abbrev on_kinds : List Check
  on_kinds = (all (λ k. leb k 63) ks, lineless 35) ∷ (on_lines ++ room ∷ [])

  writer_iff : ((verdict (writer_checks ks ls bytes)).number ≡ 0) ↔ WriterHanded ks ls bytes
  unfolding verdict
  writer_iff = (there, λ H. rw (eq-eqb _ _ H.threes, (counted_iff patch_limits (length ks) (length ls / 3)).1 (H.sheet.vertex, H.sheet.vertices, rw length_lines_of at H.sheet.lines), all_in (λ k. leb k 63) ks (λ k m. le-leb k 63 (H.sheet.kinds k m))) (checks.1 ((lines_iff 20 (length ks) (lines_of ls)).1 H.sheet.drawn, rw (le-leb _ _ H.space))))
    where
      checks : ((verdict (on_lines ++ room ∷ [])).number ≡ 0) ↔ (((verdict on_lines).number ≡ 0) × ((verdict (room ∷ [])).number ≡ 0))
      checks = verdict_append on_lines (room ∷ []) (lines_positive 20 (length ks) 0 none (lines_of ls))

      there : (verdict (writer_checks ks ls bytes)).number ≡ 0 → WriterHanded ks ls bytes
      there v =
          let a = (verdict_cons (eqb (length ls % 3) 0, lineless 34) ((counted patch_limits (length ks) (length ls / 3), lineless 22) ∷ on_kinds) (omega arith)).0 v in
          let b = (verdict_cons (counted patch_limits (length ks) (length ls / 3), lineless 22) on_kinds (omega arith)).0 a.1 in
          let c = (verdict_cons (all (λ k. leb k 63) ks, lineless 35) (on_lines ++ room ∷ []) (omega arith)).0 b.1 in
          let d = checks.0 c.1 in
          let t = (counted_iff patch_limits (length ks) (length ls / 3)).0 b.0 in
          record {
            threes = eqb-true _ _ a.0;
            sheet = record { vertex = t.0; vertices = t.1; lines = rw length_lines_of t.2; kinds = λ k m. leb-true k 63 (all_out (λ k. leb k 63) m c.0); drawn = (lines_iff 20 (length ks) (lines_of ls)).0 d.0 };
            space = leb-true _ _ ((verdict_cons room [] (omega arith)).0 d.1).0;
          }

  abbrev fails : Verdict
  fails = verdict (writer_checks ks ls bytes)

  pub writer_taken : WriterHanded ks ls bytes → writer ks ls bytes ≡ when_written ks ls bytes
  unfolding writer
  writer_taken H = checked_passes fails _ _ (writer_iff.1 H)

  -- the writer writes what it is rightly handed, and refuses all else by one of its numbers, changing nothing
  pub writer_either : (WriterHanded ks ls bytes × (writer ks ls bytes ≡ when_written ks ls bytes)) ⊎ (Memᴰ fails.number writer_refusals × (writer ks ls bytes ≡ unwritten fails bytes))
  unfolding writer
  writer_either = elim (verdict_number _ numbered) [ inl v ↦ inl (writer_iff.0 v, writer_taken (writer_iff.0 v)) | inr v ↦ inr (v, checked_fails fails _ _ (λ z. omega (arith, from_11 {ns = writer_refusals} refl v))) ]
    where
      numbered : Numbered writer_refusals (writer_checks ks ls bytes)
      numbered = numbered_cons (has_out 34 _ refl) (numbered_cons (has_out 22 _ refl) (numbered_cons (has_out 35 _ refl) (numbered_append on_lines (lines_numbered 20 (length ks) (has_out 24 _ refl) (has_out 25 _ refl) 0 none (lines_of ls)) (numbered_cons (has_out 33 _ refl) numbered_nil))))

-- what is read from an accepted sheet may be written
held_writable : (bytes : List ℕ) → Accepted patch_limits bytes → Writable (held bytes)
unfolding kinds_held lines_held
held_writable bytes A =
    let n = length_map_upto (λ k. field bytes (22 + 6 * k) 6) (vertex_count bytes) 0 in
    let m = length_map_upto (λ k. line_at bytes (22 + 6 * vertex_count bytes + 20 * k)) (line_count bytes) 0 in
    record { vertex = rw n A.vertex; vertices = rw n A.vertices; lines = rw m A.lines; kinds = λ k i. let t = Memᴰ.of_map (λ k. field bytes (22 + 6 * k) 6) (upto (vertex_count bytes) 0) i in omega (arith, t.2, word_lt (bit_at bytes) (bit_at_lt bytes) (22 + 6 * t.0) 6); drawn = rw n A.drawn }

-- a sheet read by the reader and written again by the writer is the same bytes
pub reader_writer : (bytes ks ls : List ℕ) → Bytes bytes → ReaderHanded bytes ks ls → (out : List ℕ) → length bytes ≤ length out → let r = reader bytes ks ls in writer (take r.vertices r.kind_list) (take (3 * r.lines) r.line_list) out ≡ record { number = 0; line = no_line; count = length bytes; bytes = over bytes out }
unfolding kinds_held lines_held
reader_writer bytes ks ls small H out h = rw (reader_taken bytes ks ls H, take_at (held bytes).kinds (drop (length (held bytes).kinds) ks) (vertex_count bytes) n, take_at (triples (held bytes).lines) (drop (length (triples (held bytes).lines)) ls) (3 * line_count bytes) m) (writer_taken (held bytes).kinds (triples (held bytes).lines) out (record { threes = omega (arith, m); sheet = rw lines_triples (held_writable bytes H.sheet); space = omega (arith, long) }) ∙ (λ i. record { number = 0; line = no_line; count = long i; bytes = over (same i) out }))
  where
    n : length (held bytes).kinds ≡ vertex_count bytes
    n = length_map_upto _ (vertex_count bytes) 0

    m : length (triples (held bytes).lines) ≡ 3 * line_count bytes
    m = length_triples (held bytes).lines ∙ ap (λ k. 3 * k) (length_map_upto _ (line_count bytes) 0)

    long : byte_length (length (held bytes).kinds) (length (triples (held bytes).lines) / 3) ≡ length bytes
    long = omega (arith, n, m, H.sheet.long)

    same : written (sheet_of (held bytes).kinds (triples (held bytes).lines)) ≡ bytes
    same = rw lines_triples (read_written patch_limits bytes small H.sheet)

-- lists that the writer accepts, written by it and read again by the reader, are the same lists
pub writer_reader : (ks ls out : List ℕ) → WriterHanded ks ls out → (kl ll : List ℕ) → length ks ≤ length kl → length ls ≤ length ll → let w = writer ks ls out in reader (take w.count w.bytes) kl ll ≡ record { number = 0; line = no_line; vertices = length ks; lines = length ls / 3; kind_list = over ks kl; line_list = over ls ll }
writer_reader ks ls out H kl ll h k = rw (writer_taken ks ls out H, ← length_lines_of, take_at (written s) (drop (length (written s)) out) (byte_length (length ks) (length (lines_of ls))) (written_long s H.sheet)) (reader_taken (written s) kl ll (record { sheet = written_accepted s H.sheet; kinds = rw c.0 h; lines = rw (c.1, length_lines_of) (omega arith) }) ∙ (λ i. record { number = 0; line = no_line; vertices = c.0 i; lines = c.1 i; kind_list = over (same i).kinds kl; line_list = over (threes i) ll }))
  where
    s : Sheet
    s = sheet_of ks ls

    c : (vertex_count (written s) ≡ length ks) × (line_count (written s) ≡ length (lines_of ls))
    c = count_back s H.sheet

    same : held (written s) ≡ s
    same = written_read s H.sheet

    threes : triples (held (written s)).lines ≡ ls
    threes = ap (λ t. triples t.lines) same ∙ triples_lines ls H.threes

-- where the reader reads, it changes only the first n and 3m numbers
pub reader_untouched : (bytes ks ls : List ℕ) → ReaderHanded bytes ks ls → let r = reader bytes ks ls in (drop r.vertices r.kind_list ≡ drop r.vertices ks) × (drop (3 * r.lines) r.line_list ≡ drop (3 * r.lines) ls)
unfolding kinds_held lines_held
reader_untouched bytes ks ls H =
    let n : length (held bytes).kinds ≡ vertex_count bytes = length_map_upto _ (vertex_count bytes) 0 in
    let m : length (triples (held bytes).lines) ≡ 3 * line_count bytes = length_triples (held bytes).lines ∙ ap (λ k. 3 * k) (length_map_upto _ (line_count bytes) 0) in
    rw (reader_taken bytes ks ls H) (drop_at (held bytes).kinds _ (vertex_count bytes) n ∙ ap (λ k. drop k ks) n, drop_at (triples (held bytes).lines) _ (3 * line_count bytes) m ∙ ap (λ k. drop k ls) m)

-- where the writer writes, it changes only the bytes that it counts
pub writer_untouched : (ks ls out : List ℕ) → WriterHanded ks ls out → let w = writer ks ls out in drop w.count w.bytes ≡ drop w.count out
writer_untouched ks ls out H =
    let e : length (written (sheet_of ks ls)) ≡ byte_length (length ks) (length ls / 3) = written_long (sheet_of ks ls) H.sheet ∙ ap (byte_length (length ks)) (length_lines_of ls) in
    rw (writer_taken ks ls out H) (drop_at (written (sheet_of ks ls)) _ _ e ∙ ap (λ k. drop k out) e)
