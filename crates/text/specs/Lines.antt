-- The lines of a text, counted from 1. Assumes nothing: these are definitions.
use Rattle.std.specs.Prelude.{ℕ, ◌+◌, ◌-◌, Bool, List, cond, eqb, length, get_or, count_by}

-- a newline ends a line
abbrev pub ends_line : ℕ → Bool
ends_line byte = eqb byte 10

-- the last line: those that a newline ends, and one more where none is last
abbrev pub last_line : List ℕ → ℕ
last_line text = count_by ends_line text + cond (ends_line (get_or text (length text - 1) 0)) 0 1
