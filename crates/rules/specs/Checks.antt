-- Document 01, "Numbers that come back": the checks of a sheet with their numbers, in their order. Assumes nothing: these are definitions.
use Rattle.std.specs.Prelude.{ℕ, zero, suc, ◌+◌, ◌*◌, ◌-◌, ◌≤◌, ◌<◌, ◌≡◌, ◌≢◌, ◌⊎◌, Bool, true, false, ◌&&◌, ◌||◌, cond, eqb, ltb, leb, length, take}
use mathlib.Core.List.{List, [], ◌∷◌, Memᴰ}
use Rattle.std.proofs.Math.Option.{Option, some, none}
use Rattle.laws.specs.Lists.{all, upto, Ordered}
use Rattle.rules.specs.Sheet.{Line, normalled, bit_at, vertex_count, line_count, bit_length, byte_length, held}

-- what a check answers: a number, and the line that it is about, counted from 0 (document 02, Wish 6)
pub record Verdict : Type 0 where
  pub number : ℕ
  pub line : ℕ

-- what stands for the line in every answer that is about no line
abbrev pub no_line : ℕ
no_line = 65_535

-- an answer that is about no line
abbrev pub lineless : ℕ → Verdict
lineless k = record { number = k; line = no_line }

-- a check: whether it passes, and what is answered where it is the first to fail
abbrev pub Check : Type 0
Check = Bool × Verdict

-- what the first check to fail answers, 0 and no line where none fails
unfoldable pub verdict : List Check → Verdict
verdict [] = lineless 0
verdict (c ∷ cs) = cond c.0 (verdict cs) c.1

-- a call after its checks: what it does where all pass, or its refusal by what the first to fail answers
unfoldable pub checked : {R : Type 0} → Verdict → R → (Verdict → R) → R
checked v taken refused = elim v.number [ zero ↦ taken | suc k ↦ refused v ]

-- a check of a number fails after checks that all pass
pub data FirstToFail (k : ℕ) : List Check → Type 0 where
  fails : {c : Check} {cs : List Check} → c.0 ≡ false → c.1.number ≡ k → FirstToFail k (c ∷ cs)
  passes : {c : Check} {cs : List Check} → c.0 ≡ true → FirstToFail k cs → FirstToFail k (c ∷ cs)

-- the most vertices and lines that a sheet may have, and the ten that its checks are numbered from
pub record Limits : Type 0 where
  pub vertices : ℕ
  pub lines : ℕ
  pub ten : ℕ

-- a figure's limits
abbrev pub figure_limits : Limits
figure_limits = record { vertices = 32; lines = 64; ten = 10 }

-- a patch's limits
abbrev pub patch_limits : Limits
patch_limits = record { vertices = 512; lines = 2_048; ten = 20 }

-- the counts n and m are inside the table: one vertex or more, and no more of either than the limits
abbrev pub counted : Limits → ℕ → ℕ → Bool
counted L n m = leb 1 n && (leb n L.vertices && leb m L.lines)

-- the bits after the last line are zero
abbrev pub cleared : List ℕ → Bool
cleared bytes = let end = bit_length (vertex_count bytes) (line_count bytes) in all (λ i. eqb (bit_at bytes i) 0) (upto (8 * length bytes - end) end)

-- a line's type is at most 2, both its ends are below n, and the first is below the second
abbrev pub line_fits : ℕ → Line → Bool
line_fits n l = leb l.type normalled && (ltb l.first n && (ltb l.second n && ltb l.first l.second))

-- line l comes after line k by (first, second), whatever their type
abbrev pub comes_after : Line → Line → Bool
comes_after k l = ltb k.first l.first || (eqb k.first l.first && ltb k.second l.second)

-- lines that a sheet of n vertices may have: each fits, and each later one comes after it
pub record Drawable (n : ℕ) (ls : List Line) : Type 0 where
  pub fit : (l : Line) → Memᴰ l ls → (l.type ≤ 2) × (l.first < l.second) × (l.second < n)
  pub ascend : Ordered (λ k l. comes_after k l ≡ true) ls

-- line j of lines among n vertices is the offending one, the first whose check fails: a sheet may have the lines before it, and not those and it
pub record Offending (n : ℕ) (ls : List Line) (j : ℕ) : Type 0 where
  pub there : j < length ls
  pub before : Drawable n (take j ls)
  pub fails : Drawable n (take (suc j) ls) → ⊥

-- what the line beside a number tells where a sheet's lines are checked: the offending one with ten + 4 and ten + 5, none with any other number
pub data LineTold (ten n : ℕ) (ls : List Line) (number line : ℕ) : Type 0 where
  offending : (number ≡ ten + 4) ⊎ (number ≡ ten + 5) → Offending n ls line → LineTold ten n ls number line
  no_line_case : number ≢ ten + 4 → number ≢ ten + 5 → line ≡ no_line → LineTold ten n ls number line

-- a line comes after the one before it, if there is one
abbrev pub follows : Option Line → Line → Bool
follows none l = true
follows (some k) l = comes_after k l

-- the check that line j, which is l, fits among n vertices
abbrev pub fit_check : (ten n j : ℕ) → Line → Check
fit_check ten n j l = (line_fits n l, record { number = ten + 4; line = j })

-- the check that it comes after the line before it
abbrev pub order_check : (ten j : ℕ) → Option Line → Line → Check
order_check ten j before l = (follows before l, record { number = ten + 5; line = j })

-- the checks of lines among n vertices, where the first of them is line j and `before` is the line before it
abbrev pub line_checks : (ten n j : ℕ) (before : Option Line) → List Line → List Check
line_checks ten n j before [] = []
line_checks ten n j before (l ∷ ls) = fit_check ten n j l ∷ order_check ten j before l ∷ line_checks ten n (suc j) (some l) ls

-- the checks of a sheet: under 3 bytes, counts, length, filling, lines
abbrev pub sheet_checks : Limits → List ℕ → List Check
sheet_checks L bytes =
    let n = vertex_count bytes in
    let m = line_count bytes in
    (leb 3 (length bytes), lineless (L.ten + 1))
    ∷ (counted L n m, lineless (L.ten + 2))
    ∷ (eqb (length bytes) (byte_length n m), lineless (L.ten + 1))
    ∷ (cleared bytes, lineless (L.ten + 3))
    ∷ line_checks L.ten n 0 none (held bytes).lines

-- what the check of a sheet answers
unfoldable pub sheet_verdict : Limits → List ℕ → Verdict
sheet_verdict L bytes = verdict (sheet_checks L bytes)

-- a sheet as its checks want it
pub record Accepted (L : Limits) (bytes : List ℕ) : Type 0 where
  pub vertex : 0 < vertex_count bytes
  pub vertices : vertex_count bytes ≤ L.vertices
  pub lines : line_count bytes ≤ L.lines
  pub long : length bytes ≡ byte_length (vertex_count bytes) (line_count bytes)
  pub filling : (i : ℕ) → bit_length (vertex_count bytes) (line_count bytes) ≤ i → i < 8 * length bytes → bit_at bytes i ≡ 0
  pub drawn : Drawable (vertex_count bytes) (held bytes).lines
