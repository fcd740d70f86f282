-- A set of small numbers as a mask: number u is in it where bit u is set. Assumes nothing: these are definitions.
use Rattle.std.specs.Prelude.{ℕ, ◌/◌, ◌%◌, ◌^◌, Bool, eqb}

-- u is in a mask
unfoldable pub in_mask : ℕ → ℕ → Bool
in_mask u s = eqb (s / 2 ^ u % 2) 1
