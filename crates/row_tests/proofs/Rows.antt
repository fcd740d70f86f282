-- Rows of a list: where they lie, how long they are, and when two are the same. Assumes nothing.
use Prim.Native.Nat.{ℕ, zero, suc, ◌+◌, ◌-◌, ◌*◌, ◌≤◌}
use mathlib.Core.Path.{◌≡◌, ap, sym, ◌∙◌}
use mathlib.Core.List.{List, [], ◌∷◌, ◌++◌}
use native.Mathlib.Nat.{add-sub_cancel_left, zero-mul, suc-mul}
use native.Mathlib.Omega.{arith}
use lib.ListN.{length, take, drop, length-drop}
use lib.Seq.{length-take-le}
use Rattle.std.proofs.lemmas.List.{drop-drop, take-append-drop}
use Rattle.std.specs.Simd.{first_chunks}
use Rattle.rules.specs.RowCheck.{row_at}

-- a row has n entries
pub row_long : (n i : ℕ) (rows : List ℕ) → i * n + n ≤ length rows → length (row_at n rows i) ≡ n
unfolding row_at
row_long n i rows h = length-take-le n (drop (i * n) rows) (omega (arith, length-drop (i * n) rows))

-- the part from i * n to i * n + n
pub row_part : (n i : ℕ) (rows : List ℕ) → take (i * n + n - i * n) (drop (i * n) rows) ≡ row_at n rows i
unfolding row_at
row_part n i rows = rw (add-sub_cancel_left (i * n) n)

-- the first of a list of chunks, and those after it
abbrev head_of : List (List ℕ) → List ℕ
head_of [] = []
head_of (x ∷ xs) = x

abbrev tail_of : List (List ℕ) → List (List ℕ)
tail_of [] = []
tail_of (x ∷ xs) = xs

-- two lists with the same first chunks and the same rest are the same
pub chunks_same : (n k : ℕ) (xs ys : List ℕ) → first_chunks n k xs ≡ first_chunks n k ys → drop (k * n) xs ≡ drop (k * n) ys → xs ≡ ys
chunks_same n zero xs ys e d =
    let none : (l : List ℕ) → drop (0 * n) l ≡ l = λ l. ap (λ j. drop j l) (zero-mul n) in
    sym (none xs) ∙ d ∙ none ys
chunks_same n (suc k) xs ys e d =
    let along : (l : List ℕ) → drop (k * n) (drop n l) ≡ drop (suc k * n) l = λ l. drop-drop (k * n) n l ∙ ap (λ j. drop j l) (omega (arith, suc-mul k n)) in
    let below = chunks_same n k (drop n xs) (drop n ys) (ap tail_of e) (along xs ∙ d ∙ sym (along ys)) in
    sym (take-append-drop n xs) ∙ ap (λ l. l ++ drop n xs) (ap head_of e) ∙ ap (λ l. take n ys ++ l) below ∙ take-append-drop n ys
