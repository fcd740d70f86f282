-- The writer's two lists, number by number, and its checks on them. Assumes nothing: these are definitions.
use Rattle.std.specs.Prelude.{ℕ, ◌+◌, ◌*◌, ◌/◌, ◌%◌, ◌≤◌, ◌<◌, List, ◌∷◌, eqb, leb, length, get_or}
use Rattle.std.proofs.Math.Option.{none}
use Rattle.laws.specs.Lists.{all}
use Rattle.rules.specs.Sheet.{Line}
use Rattle.rules.specs.Checks.{lineless, Check, patch_limits, counted, line_checks}
use Rattle.rules.specs.Calls.{lines_of}

-- line j of a list of (type, first, second)
abbrev pub line_in : List ℕ → ℕ → Line
line_in ls j = record { type = get_or ls (3 * j) 0; first = get_or ls (3 * j + 1) 0; second = get_or ls (3 * j + 2) 0 }

-- the kinds fit their 6 bits
abbrev pub KindsFit : List ℕ → Type 0
KindsFit ks = (i : ℕ) → i < length ks → get_or ks i 0 ≤ 63

-- the lines fit their bits
abbrev pub LinesFit : List ℕ → Type 0
LinesFit ls = (j : ℕ) → j < length ls / 3 → ((line_in ls j).type < 4) × ((line_in ls j).first < 512) × ((line_in ls j).second < 512)

-- the writer's checks before the one for room
abbrev pub list_checks : (kind_list line_list : List ℕ) → List Check
list_checks ks ls =
    (eqb (length ls % 3) 0, lineless 34)
    ∷ (counted patch_limits (length ks) (length ls / 3), lineless 22)
    ∷ (all (λ k. leb k 63) ks, lineless 35)
    ∷ line_checks 20 (length ks) 0 none (lines_of ls)
