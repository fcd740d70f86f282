-- The numbers that a search may print. Assumes nothing: these are definitions.
use Rattle.std.specs.Prelude.{ℕ, ◌≤◌, ◌⊎◌}
use mathlib.Core.List.{Memᴰ}
use Rattle.rules.specs.Calls.{search_refusals}

-- a number of document 01's table: complete, list full, tries spent, or a refusal
abbrev pub Known : ℕ → Type 0
Known n = (n ≤ 2) ⊎ Memᴰ n search_refusals
