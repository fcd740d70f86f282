-- The marks of rows' digests: 262,144 bits, two of them for each row met. Assumes nothing: these are definitions.
use Rattle.std.specs.Prelude.{ℕ, ◌+◌, ◌*◌, ◌/◌, ◌%◌, ◌^◌, ◌<◌, ◌≡◌, Bool, true, List, [], ◌∷◌, length, get_or, set}
use Rattle.std.specs.Int.Bits.{bit_or}
use Rattle.laws.specs.Masks.{in_mask}
use Rattle.rules.specs.RowCheck.{row_at}

-- one entry more in a digest
unfoldable pub mixed : ℕ → ℕ → ℕ
mixed d x = (d + x) * 92_821_457 % 68_719_476_731

-- the digest of a row that goes on from d
unfoldable pub digest_from : ℕ → List ℕ → ℕ
digest_from d [] = d
digest_from d (x ∷ row) = digest_from (mixed d x) row

-- the digest of a row
abbrev pub digest_of : List ℕ → ℕ
digest_of row = digest_from 0 row

-- mark d is set
unfoldable pub is_marked : List ℕ → ℕ → Bool
is_marked marks d = in_mask (d % 32) (get_or marks (d / 32) 0)

-- the marks with mark d set
unfoldable pub marked_at : List ℕ → ℕ → List ℕ
marked_at marks d = set marks (d / 32) (bit_or (get_or marks (d / 32) 0) (2 ^ (d % 32)))

-- both marks of a digest are set
abbrev pub Met : List ℕ → ℕ → Type 0
Met marks d = (is_marked marks (d % 262_144) ≡ true) × (is_marked marks (d / 262_144) ≡ true)

-- there are 8,192 words of marks, and those of each of the first i rows are set
pub record Noted (n : ℕ) (rows : List ℕ) (i : ℕ) (marks : List ℕ) : Type 0 where
  pub words : length marks ≡ 8_192
  pub met : (j : ℕ) → j < i → Met marks (digest_of (row_at n rows j))
