-- The line beside a number is the offending one, the first whose check fails, where the number is about a line; every other answer names none. Assumes nothing.
use Prim.Native.Nat.{ℕ, zero, suc, ◌+◌, ◌<◌}
use mathlib.Core.Path.{◌≡◌, refl, ap, sym, ◌∙◌}
use mathlib.Core.Logic.{◌⊎◌, inl, inr, ⊎_elim}
use mathlib.Core.List.Memᴰ
use mathlib.Core.List.{List, [], ◌∷◌, ◌++◌, Memᴰ}
use mathlib.Core.Bool.{true, false}
use mathlib.Core.Option.{Option, some, none}
use mathlib.Core.Option as Option
use native.Mathlib.Decide.{dec_lt, ℕ_discrete}
use native.Mathlib.Omega.{arith}
use borrow.Author.Tests.{eqb-false}
use lib.Dec.{eqb}
use lib.ListN.{length, take, drop, take-append-drop}
use lib.Seq.{take-take}
use Rattle.laws.specs.Lists.{Ordered}
use Rattle.laws.proofs.Lists.{split, begun_ordered}
use Rattle.rules.specs.Sheet.{Line, vertex_count, held}
use Rattle.rules.specs.Checks.{Verdict, lineless, Check, verdict, Limits, figure_limits, patch_limits, line_fits, comes_after, follows, Drawable, fit_check, order_check, line_checks, Offending, LineTold, offending, no_line_case, sheet_checks, sheet_verdict}
use Rattle.rules.specs.Calls.{lines_of, reader_checks, writer_checks, figure_checks, pair_checks, LineOfTwo, of_figure, of_patch, of_neither}
use Rattle.rules.proofs.Verdicts.{Positive, verdict_passes, verdict_fails, verdict_none, verdict_passed, verdict_number, verdict_first, verdict_rest}
use Rattle.rules.proofs.Accepted.{lines_numbered, lines_positive, sheet_positive, figure_positive, lines_iff}

-- what holds of each answer that checks may give holds of what they answer
module _ (Q : Verdict → Type 0) where
  answers_cons : (c : Check) (cs : List Check) → Q c.1 → Q (verdict cs) → Q (verdict (c ∷ cs))
  answers_cons c cs q r = elim (split c.0) [ inl e ↦ rw (verdict_passes c cs e) r | inr e ↦ rw (verdict_fails c cs e) q ]

  answers_append : (cs ds : List Check) → Positive cs → Q (verdict cs) → Q (verdict ds) → Q (verdict (cs ++ ds))
  answers_append cs ds p q r = elim (ℕ_discrete (verdict cs).number 0) [ yes z ↦ rw (verdict_rest cs ds p z) r | no f ↦ rw (verdict_first cs ds f) q ]

  answers_last : (c : Check) → Q c.1 → Q (lineless 0) → Q (verdict (c ∷ []))
  answers_last c q r = answers_cons c [] q (rw verdict_none r)

-- lines are checked: none fails, or the answer is about the first whose check does
module _ (ten n : ℕ) where
  -- a line that passes leaves the answer to the lines after it
  line_passes : (i : ℕ) (before : Option Line) (l : Line) (ls : List Line) → line_fits n l ≡ true → follows before l ≡ true → verdict (line_checks ten n i before (l ∷ ls)) ≡ verdict (line_checks ten n (suc i) (some l) ls)
  line_passes i before l ls e g = verdict_passes (fit_check ten n i l) _ e ∙ verdict_passes (order_check ten i before l) _ g

  -- and one that fails answers
  line_fails : (i : ℕ) (before : Option Line) (l : Line) (ls : List Line) → (line_fits n l ≡ false) ⊎ ((line_fits n l ≡ true) × (follows before l ≡ false)) → ((verdict (line_checks ten n i before (l ∷ ls))).line ≡ i) × ((verdict (line_checks ten n i before (l ∷ ls))).number ≡ 0 → ⊥)
  line_fails i before l ls (inl e) = rw (verdict_fails (fit_check ten n i l) (order_check ten i before l ∷ line_checks ten n (suc i) (some l) ls) e) (refl, λ z. omega arith)
  line_fails i before l ls (inr e) = rw (verdict_passes (fit_check ten n i l) (order_check ten i before l ∷ line_checks ten n (suc i) (some l) ls) e.0 ∙ verdict_fails (order_check ten i before l) (line_checks ten n (suc i) (some l) ls) e.1) (refl, λ z. omega arith)

  -- the answer is about the line j further on, before which the lines pass and with which they do not
  abbrev Names : (i : ℕ) (before : Option Line) (ls : List Line) → ℕ → Type 0
  Names i before ls j = ((verdict (line_checks ten n i before ls)).line ≡ i + j) × (j < length ls) × ((verdict (line_checks ten n i before (take j ls))).number ≡ 0) × ((verdict (line_checks ten n i before (take (suc j) ls))).number ≡ 0 → ⊥)

  -- where one fails there is such a line
  line_out : (i : ℕ) (before : Option Line) (ls : List Line) → ((verdict (line_checks ten n i before ls)).number ≡ 0 → ⊥) → (j : ℕ) × Names i before ls j
  line_out i before [] f = absurd (f (ap (λ v. v.number) verdict_none))
  line_out i before (l ∷ ls) f = elim (split (line_fits n l)) [
    | inl e ↦ elim (split (follows before l)) [
      | inl g ↦
          let number : (ls : List Line) → (verdict (line_checks ten n i before (l ∷ ls))).number ≡ (verdict (line_checks ten n (suc i) (some l) ls)).number = λ ls. ap (λ v. v.number) (line_passes i before l ls e g) in
          let r = line_out (suc i) (some l) ls (λ z. f (number ls ∙ z)) in
          (suc r.0, (ap (λ v. v.line) (line_passes i before l ls e g) ∙ r.1.0 ∙ omega arith, omega (arith, r.1.1), number (take r.0 ls) ∙ r.1.2, λ z. r.1.3 (sym (number (take (suc r.0) ls)) ∙ z)))
      | inr g ↦ here (inr (e, g))
    ]
    | inr e ↦ here (inl e)
  ]
    where
      here : (line_fits n l ≡ false) ⊎ ((line_fits n l ≡ true) × (follows before l ≡ false)) → (j : ℕ) × Names i before (l ∷ ls) j
      here h = (0, ((line_fails i before l ls h).0 ∙ omega arith, omega arith, ap (λ v. v.number) verdict_none, (line_fails i before l [] h).1))

  lines_answer : (Q : Verdict → Type 0) (ls : List Line) → Q (lineless 0) → ((v : Verdict) → (v.number ≡ ten + 4) ⊎ (v.number ≡ ten + 5) → Offending n ls v.line → Q v) → Q (verdict (line_checks ten n 0 none ls))
  lines_answer Q ls passed named = elim (ℕ_discrete (verdict (line_checks ten n 0 none ls)).number 0) [
    | yes z ↦ rw (verdict_passed (line_checks ten n 0 none ls) (lines_positive ten n 0 none ls) z) passed
    | no f ↦
        let r = line_out 0 none ls f in
        let it : (verdict (line_checks ten n 0 none ls)).line ≡ r.0 = omega (arith, r.1.0) in
        named _ (which f) (record { there = omega (arith, it, r.1.1); before = rw it ((lines_iff ten n (take r.0 ls)).0 r.1.2); fails = λ D. r.1.3 ((lines_iff ten n (take (suc r.0) ls)).1 (rw it at D)) })
  ]
    where
      which : ((verdict (line_checks ten n 0 none ls)).number ≡ 0 → ⊥) → ((verdict (line_checks ten n 0 none ls)).number ≡ ten + 4) ⊎ ((verdict (line_checks ten n 0 none ls)).number ≡ ten + 5)
      which f = elim (verdict_number {ns = (ten + 4) ∷ (ten + 5) ∷ []} (line_checks ten n 0 none ls) (lines_numbered ten n (Memᴰ.head refl) (Memᴰ.tail (Memᴰ.head refl)) 0 none ls)) [
        | inl z ↦ absurd (f z)
        | inr m ↦ ⊎_elim (λ e. inl e) (λ k. ⊎_elim (λ e. inr e) (λ o. absurd (Memᴰ.not-nil o)) (Memᴰ.cases_cons k)) (Memᴰ.cases_cons m)
      ]

-- a sheet is checked: the answers before its lines name none
sheet_answer : (Q : Verdict → Type 0) (L : Limits) (bytes : List ℕ) → Q (lineless 0) → Q (lineless (L.ten + 1)) → Q (lineless (L.ten + 2)) → Q (lineless (L.ten + 3)) → ((v : Verdict) → (v.number ≡ L.ten + 4) ⊎ (v.number ≡ L.ten + 5) → Offending (vertex_count bytes) (held bytes).lines v.line → Q v) → Q (verdict (sheet_checks L bytes))
sheet_answer Q L bytes passed one two three named = answers_cons Q _ _ one (answers_cons Q _ _ two (answers_cons Q _ _ one (answers_cons Q _ _ three (lines_answer L.ten (vertex_count bytes) Q (held bytes).lines passed named))))

-- the line beside a number of a sheet's lines, from an answer that names none
module _ (ten n : ℕ) (ls : List Line) where
  abbrev Told : Verdict → Type 0
  Told v = LineTold ten n ls v.number v.line

  told_none : (k : ℕ) → eqb k (ten + 4) ≡ false → eqb k (ten + 5) ≡ false → Told (lineless k)
  told_none k f g = no_line_case (eqb-false k (ten + 4) f) (eqb-false k (ten + 5) g) refl

-- what a sheet check's line tells
pub sheet_told : (L : Limits) (bytes : List ℕ) → let v = sheet_verdict L bytes in LineTold L.ten (vertex_count bytes) (held bytes).lines v.number v.line
unfolding sheet_verdict
sheet_told L bytes = sheet_answer (Told L.ten (vertex_count bytes) (held bytes).lines) L bytes (no_line_case (λ e. omega arith) (λ e. omega arith) refl) (no_line_case (λ e. omega arith) (λ e. omega arith) refl) (no_line_case (λ e. omega arith) (λ e. omega arith) refl) (no_line_case (λ e. omega arith) (λ e. omega arith) refl) (λ v w o. offending w o)

-- what the reader's line tells
pub reader_told : (bytes ks ls : List ℕ) → let v = verdict (reader_checks bytes ks ls) in LineTold 20 (vertex_count bytes) (held bytes).lines v.number v.line
reader_told bytes ks ls = answers_append Q (sheet_checks patch_limits bytes) _ (sheet_positive patch_limits bytes) (sheet_answer Q patch_limits bytes (none 0 refl refl) (none 21 refl refl) (none 22 refl refl) (none 23 refl refl) (λ v w o. offending w o)) (answers_last Q _ (none 33 refl refl) (none 0 refl refl))
  where
    Q : Verdict → Type 0
    Q = Told 20 (vertex_count bytes) (held bytes).lines

    none : (k : ℕ) → eqb k 24 ≡ false → eqb k 25 ≡ false → Q (lineless k)
    none = told_none 20 (vertex_count bytes) (held bytes).lines

-- what the writer's line tells
pub writer_told : (ks ls bytes : List ℕ) → let v = verdict (writer_checks ks ls bytes) in LineTold 20 (length ks) (lines_of ls) v.number v.line
writer_told ks ls bytes = answers_cons Q _ _ (none 34 refl refl) (answers_cons Q _ _ (none 22 refl refl) (answers_cons Q _ _ (none 35 refl refl) (answers_append Q on_lines _ (lines_positive 20 (length ks) 0 Option.none (lines_of ls)) (lines_answer 20 (length ks) Q (lines_of ls) (none 0 refl refl) (λ v w o. offending w o)) (answers_last Q _ (none 33 refl refl) (none 0 refl refl)))))
  where
    Q : Verdict → Type 0
    Q = Told 20 (length ks) (lines_of ls)

    none : (k : ℕ) → eqb k 24 ≡ false → eqb k 25 ≡ false → Q (lineless k)
    none = told_none 20 (length ks) (lines_of ls)

    on_lines : List Check
    on_lines = line_checks 20 (length ks) 0 Option.none (lines_of ls)

-- what the line tells where a figure and a patch are checked, and then one thing more that is about no line
module _ (figure patch : List ℕ) where
  abbrev Two : Verdict → Type 0
  Two v = LineOfTwo figure patch v.number v.line

  pub two_none : (k : ℕ) → eqb k 14 ≡ false → eqb k 15 ≡ false → eqb k 24 ≡ false → eqb k 25 ≡ false → Two (lineless k)
  two_none k a b c d = of_neither (eqb-false k 14 a) (eqb-false k 15 b) (eqb-false k 24 c) (eqb-false k 25 d) refl

  pub pair_told : (last : Check) → Two last.1 → Two (verdict (pair_checks figure patch last))
  pair_told last one = answers_append Two (figure_checks figure) _ (figure_positive figure) of_figure_checks (answers_append Two (sheet_checks patch_limits patch) _ (sheet_positive patch_limits patch) (sheet_answer Two patch_limits patch passed (two_none 21 refl refl refl refl) (two_none 22 refl refl refl refl) (two_none 23 refl refl refl refl) (λ v w o. of_patch w o)) (answers_last Two last one passed))
    where
      passed : Two (lineless 0)
      passed = two_none 0 refl refl refl refl

      of_figure_checks : Two (verdict (figure_checks figure))
      of_figure_checks = answers_append Two (sheet_checks figure_limits figure) _ (sheet_positive figure_limits figure) (sheet_answer Two figure_limits figure passed (two_none 11 refl refl refl refl) (two_none 12 refl refl refl refl) (two_none 13 refl refl refl refl) (λ v w o. of_figure w o)) (answers_last Two _ (two_none 16 refl refl refl refl) passed)

-- lines that a sheet may have, from the first on
drawable_take : (n k : ℕ) (ls : List Line) → Drawable n ls → Drawable n (take k ls)
drawable_take n k ls D = record { fit = λ l m. D.fit l (take_in k ls m); ascend = taken k ls D.ascend }
  where
    take_in : (k : ℕ) (ls : List Line) {l : Line} → Memᴰ l (take k ls) → Memᴰ l ls
    take_in zero ls m = absurd (Memᴰ.not-nil m)
    take_in (suc k) [] m = m
    take_in (suc k) (x ∷ ls) m = ⊎_elim (λ e. Memᴰ.head e) (λ i. Memᴰ.tail (take_in k ls i)) (Memᴰ.cases_cons m)

    taken : (k : ℕ) (ls : List Line) → Ordered (λ a b. comes_after a b ≡ true) ls → Ordered (λ a b. comes_after a b ≡ true) (take k ls)
    taken k ls o = begun_ordered (take k ls) (drop k ls) (rw (take-append-drop k ls) o)

-- there is one offending line, or none
pub offending_once : (n : ℕ) (ls : List Line) (i j : ℕ) → Offending n ls i → Offending n ls j → i ≡ j
offending_once n ls i j a b = elim (dec_lt i j) [
  | yes h ↦ absurd (not i j h a b)
  | no h ↦ elim (dec_lt j i) [ yes k ↦ absurd (not j i k b a) | no k ↦ omega arith ]
]
  where
    not : (i j : ℕ) → i < j → Offending n ls i → Offending n ls j → ⊥
    not i j h a b = a.fails (rw (sym (take-take (suc i) j ls h)) (drawable_take n (suc i) (take j ls) b.before))
