-- A yes or no that is true. Assumes nothing: this is a definition.
use Rattle.std.specs.Prelude.{Bool, true, false}

-- the answer is yes where a thing is so, and no where it is not
abbrev pub Says : Bool → Type 0 → Type 0
Says true Q = Q
Says false Q = Q → ⊥
