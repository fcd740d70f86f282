-- Entries marked as used, one after the other: what the marks say. Assumes nothing.
use Prim.Native.Nat.{ℕ, ◌<◌}
use mathlib.Core.Path.{◌≡◌, sym, ◌∙◌}
use mathlib.Core.Logic.{◌≢◌}
use mathlib.Core.Bool.{Bool, true, false, false≢true}
use mathlib.Core.List.{List}
use native.Mathlib.Omega.{arith}
use lib.ListN.{length, get_or, replicate, length-replicate, get_or-replicate}
use Rattle.rules.specs.Place.{entry}

-- the first u entries are marked and nothing else is, and no two of them are the same
pub record Used (row : List ℕ) (used : List Bool) (u : ℕ) : Type 0 where
  pub long : length used ≡ 512
  pub marked : (w : ℕ) → w < u → get_or used (entry row w) false ≡ true
  pub only : (v : ℕ) → v < 512 → get_or used v false ≡ true → (w : ℕ) × (w < u) × (entry row w ≡ v)
  pub different : (w x : ℕ) → w < x → x < u → entry row w ≢ entry row x

-- before the first
pub none_used : (row : List ℕ) → Used row (replicate 512 false) 0
none_used row = record {
  long = length-replicate {A = Bool} 512 false;
  marked = λ w h. absurd (omega arith);
  only = λ v h f. absurd (false≢true (sym (get_or-replicate 512 v false false h) ∙ f));
  different = λ w x h k. absurd (omega arith);
}
