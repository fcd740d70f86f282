-- Wrong programs, each refuted at the bench that document 01 names, for any function that would meet the contract of `find`.
use Prim.Native.Nat.{ℕ, ◌≤◌, ◌<◌}
use mathlib.Core.Path.{◌≡◌, ap, sym, subst, ◌∙◌}
use mathlib.Core.Logic.{◌≢◌}
use mathlib.Core.List.{List, [], ◌∷◌}
use native.Mathlib.Omega.{arith}
use lib.ListN.{length, get_or, replicate, get_or-replicate, length-replicate}
use Rattle.rules.specs.Benches.{find, run, number_and_line, all_benches, W, b_t, c_f, c_p, f_s, h_f, h_p, r_f}
use Rattle.demands.specs.Calls.{Asked, Given, Meets}
use Rattle.demands.proofs.Demands.{memory_zeroed, that_many_suffice}

-- what is asked at a bench: its two sheets, working memory and a list full of fours, an allowance
abbrev ask : (figure patch : List ℕ) (listLength allowance : ℕ) → Asked
ask f p n k = record { figure = f; patch = p; memory = replicate W 4; list = replicate n 4; allowance = k }

-- a result as the table of benches has it: number, rows, tries, then the list
abbrev row : Given → List ℕ
row g = g.answer.number ∷ g.answer.rows ∷ g.answer.tries ∷ g.list

-- number i of equal lists
entry : {xs ys : List ℕ} → xs ≡ ys → (i : ℕ) → get_or xs i 0 ≡ get_or ys i 0
entry e i = ap (λ l. get_or l i 0) e

module _ (f : Asked → Given) (meets : Meets f) where
  -- what any function that meets the contract gives at a bench of the table
  at_bench : (figure patch : List ℕ) (n k : ℕ) (expected : List ℕ) → run (find figure patch W n k) ≡ expected → row (f (ask figure patch n k)) ≡ expected
  unfolding run
  at_bench figure patch n k expected e = ap (λ s. s.number ∷ s.rows ∷ s.tries ∷ s.list) (meets (ask figure patch n k)) ∙ e

  at_c : row (f (ask c_f c_p 6 10)) ≡ 0 ∷ 2 ∷ 3 ∷ 0 ∷ 1 ∷ 0 ∷ 2 ∷ 4 ∷ 4 ∷ []
  at_c = at_bench c_f c_p 6 10 _ (ap (λ l. get_or l 7 []) all_benches.0)

  at_f : row (f (ask f_s f_s 5 10)) ≡ 0 ∷ 2 ∷ 4 ∷ 0 ∷ 1 ∷ 1 ∷ 0 ∷ 4 ∷ []
  at_f = at_bench f_s f_s 5 10 _ (ap (λ l. get_or l 12 []) all_benches.0)

  at_h : row (f (ask h_f h_p 4 100)) ≡ 0 ∷ 0 ∷ 4 ∷ 4 ∷ 4 ∷ 4 ∷ 4 ∷ []
  at_h = at_bench h_f h_p 4 100 _ (ap (λ l. get_or l 14 []) all_benches.0)

  -- and the line beside the number
  at_line : (figure patch : List ℕ) (n k : ℕ) (expected : ℕ × ℕ) → number_and_line (find figure patch W n k) ≡ expected → (f (ask figure patch n k)).answer.line ≡ expected.1
  unfolding number_and_line
  at_line figure patch n k expected e = ap (λ s. s.line) (meets (ask figure patch n k)) ∙ ap (λ p. p.1) e

  at_r : (f (ask r_f c_p 2 10)).answer.line ≡ 1
  at_r = at_line r_f c_p 2 10 _ (ap (λ l. get_or l 6 (0, 0)) all_benches.1)

  -- one that refuses all (bench c)
  pub refuses_all : ((a : Asked) → 10 < (f a).answer.number) → ⊥
  refuses_all wrong = omega (arith, wrong (ask c_f c_p 6 10), entry at_c 0)

  -- one that answers "complete, none" always (bench c)
  pub complete_none_always : ((a : Asked) → ((f a).answer.number ≡ 0) × ((f a).answer.rows ≡ 0)) → ⊥
  complete_none_always wrong = omega (arith, wrong (ask c_f c_p 6 10), entry at_c 1)

  -- one that writes no row (bench c)
  pub writes_no_row : ((a : Asked) → (f a).list ≡ a.list) → ⊥
  writes_no_row wrong = omega (arith, entry (wrong (ask c_f c_p 6 10)) 0, entry at_c 3)

  -- one that searches below the first root candidate and pretends for the others (bench f)
  pub first_root_only : (f (ask f_s f_s 5 10)).answer.rows ≤ 1 → ⊥
  first_root_only wrong = omega (arith, entry at_f 1)

  -- one that answers "tries spent" early: bench h has 8 partial placements, so no allowance from 8 up is ever spent
  pub tries_spent_early : (n k : ℕ) → 8 ≤ k → (f (ask h_f h_p n k)).answer.number ≢ 2
  tries_spent_early n k h = that_many_suffice (ask h_f h_p n k) (f (ask h_f h_p n k)) (meets (ask h_f h_p n k)) (subst (λ p. p ≤ k) (sym all_benches.2) h)

  -- one that invents the count of tries (bench h)
  pub invented_count : (f (ask h_f h_p 4 100)).answer.tries ≢ 4 → ⊥
  invented_count wrong = wrong (entry at_h 2)

  -- one that leaves the working memory as it was (bench c)
  pub memory_not_zeroed : ((a : Asked) → (f a).memory ≡ a.memory) → ⊥
  memory_not_zeroed wrong =
      let a = ask c_f c_p 6 10 in
      let zeroed = memory_zeroed a (f a) (meets a) (omega (arith, entry at_c 0)) in
      let first = entry (sym (wrong a) ∙ zeroed) 0 in
      omega (arith, sym (get_or-replicate {A = ℕ} W 0 4 0 (omega arith)) ∙ first, get_or-replicate {A = ℕ} (length a.memory) 0 0 0 (omega (arith, length-replicate {A = ℕ} W 4)))

  -- one that touches the list past the rows (bench c)
  pub list_touched : get_or (f (ask c_f c_p 6 10)).list 4 0 ≢ 4 → ⊥
  list_touched wrong = wrong (entry at_c 7)

  -- one that counts lines from 1 (bench r, line 1)
  pub lines_from_one : (f (ask r_f c_p 2 10)).answer.line ≡ 2 → ⊥
  lines_from_one wrong = omega (arith, at_r)

  -- one that names the first line instead of the first bad one
  pub first_line_named : (f (ask r_f c_p 2 10)).answer.line ≡ 0 → ⊥
  first_line_named wrong = omega (arith, at_r)

  -- one that names line 65,534 where there is none (bench c)
  pub other_than_no_line : (f (ask c_f c_p 6 10)).answer.line ≡ 65_534 → ⊥
  other_than_no_line wrong = omega (arith, at_line c_f c_p 6 10 _ (ap (λ l. get_or l 13 (0, 0)) all_benches.1))

  -- one that names a line with 13 (bench b)
  pub line_with_13 : (f (ask b_t c_p 2 10)).answer.line < 65_535 → ⊥
  line_with_13 wrong = omega (arith, at_line b_t c_p 2 10 _ (ap (λ l. get_or l 16 (0, 0)) all_benches.1))
