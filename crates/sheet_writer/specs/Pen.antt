-- How bits are put down by whole bytes: a pen holds those that do not fill a byte yet. Assumes nothing: these are definitions.
use Rattle.std.specs.Prelude.{ℕ, ◌+◌, ◌*◌, ◌^◌, ◌≤◌, ◌<◌, ◌≡◌, List, ◌++◌, length, get_or, drop}
use Rattle.rules.specs.Sheet.{word, packed}
use Rattle.sheet_writer.specs.declared.pen.Pen.{Pen}

-- the bits bs were put down from the start of the bytes that were old: the whole bytes of them lie there, and the pen holds the rest
pub record Penned (old bs : List ℕ) (pen : Pen) (bytes : List ℕ) : Type 0 where
  pub two : (j : ℕ) → get_or bs j 0 < 2
  pub long : length bs ≡ 8 * pen.at + pen.count
  pub held : pen.held ≡ word (λ j. get_or bs j 0) (8 * pen.at) pen.count
  pub wrote : bytes ≡ packed pen.at bs ++ drop pen.at old
  pub same : length bytes ≡ length old

-- a pen holds what it says, and there is room for w bits more
pub record Able (w : ℕ) (pen : Pen) (bytes : List ℕ) : Type 0 where
  pub low : pen.held < 2 ^ pen.count
  pub room : 8 * pen.at + pen.count + w ≤ 8 * length bytes

-- the bits new were put down after whatever was before
pub record Added (new : List ℕ) (pen : Pen) (bytes : List ℕ) (pen' : Pen) (bytes' : List ℕ) : Type 0 where
  pub low : pen'.held < 2 ^ pen'.count
  pub along : 8 * pen'.at + pen'.count ≡ 8 * pen.at + pen.count + length new
  pub same : length bytes' ≡ length bytes
  pub adds : (old bs : List ℕ) → Penned old bs pen bytes → Penned old (bs ++ new) pen' bytes'
