-- Document 01, "The sheet": fields bit-packed, most significant bit first, with no gaps. Assumes nothing: these are definitions.
use Rattle.std.specs.Prelude.{ℕ, zero, suc, ◌+◌, ◌*◌, ◌-◌, ◌/◌, ◌%◌, ◌^◌, ◌<◌, length, get_or}
use mathlib.Core.List.{List, [], ◌∷◌, ◌++◌, map, Memᴰ}
use Rattle.laws.specs.Lists.{upto}

-- a line of a sheet: its type and its two ends
pub record Line : Type 0 where
  pub type : ℕ
  pub first : ℕ
  pub second : ℕ

-- the type of a line from a module to its own jack
abbrev pub panel : ℕ
panel = 0

-- the type of a cable
abbrev pub cable : ℕ
cable = 1

-- the type of a normalled line; a type above it does not exist
abbrev pub normalled : ℕ
normalled = 2

-- what a sheet holds: the kinds and the lines
pub record Sheet : Type 0 where
  pub kinds : List ℕ
  pub lines : List Line

-- the numbers of a list are bytes
abbrev pub Bytes : List ℕ → Type 0
Bytes bytes = (b : ℕ) → Memᴰ b bytes → b < 256

-- bit i of some bytes
unfoldable pub bit_at : List ℕ → ℕ → ℕ
bit_at bytes i = get_or bytes (i / 8) 0 / 2 ^ (7 - i % 8) % 2

-- the number that w bits from bit i on say
unfoldable pub word : (ℕ → ℕ) → ℕ → ℕ → ℕ
word bit i zero = 0
word bit i (suc w) = bit i * 2 ^ w + word bit (suc i) w

-- the field of w bits at bit i of some bytes
abbrev pub field : List ℕ → ℕ → ℕ → ℕ
field bytes i w = word (bit_at bytes) i w

-- the vertex count n of a sheet
abbrev pub vertex_count : List ℕ → ℕ
vertex_count bytes = field bytes 0 10

-- the line count m of a sheet
abbrev pub line_count : List ℕ → ℕ
line_count bytes = field bytes 10 12

-- the length of a sheet of n vertices and m lines in bits
abbrev pub bit_length : ℕ → ℕ → ℕ
bit_length n m = 22 + 6 * n + 20 * m

-- that length rounded up to bytes
abbrev pub byte_length : ℕ → ℕ → ℕ
byte_length n m = (bit_length n m + 7) / 8

-- the n kinds of a sheet, 6 bits each
unfoldable pub kinds_held : List ℕ → ℕ → List ℕ
kinds_held bytes n = map (λ i. field bytes (22 + 6 * i) 6) (upto n 0)

-- the line at bit i: its type in 2 bits, its ends in 9 each
unfoldable pub line_at : List ℕ → ℕ → Line
line_at bytes i = record { type = field bytes i 2; first = field bytes (i + 2) 9; second = field bytes (i + 11) 9 }

-- the m lines of a sheet of n vertices, 20 bits each
unfoldable pub lines_held : List ℕ → ℕ → ℕ → List Line
lines_held bytes n m = map (λ j. line_at bytes (22 + 6 * n + 20 * j)) (upto m 0)

-- what the bytes of a sheet hold
abbrev pub held : List ℕ → Sheet
held bytes = record { kinds = kinds_held bytes (vertex_count bytes); lines = lines_held bytes (vertex_count bytes) (line_count bytes) }

-- the w lowest bits of x, most significant first
unfoldable pub bits : ℕ → ℕ → List ℕ
bits zero x = []
bits (suc w) x = x / 2 ^ w % 2 ∷ bits w x

-- the bits of kinds, 6 each
unfoldable pub kind_bits : List ℕ → List ℕ
kind_bits [] = []
kind_bits (k ∷ ks) = bits 6 k ++ kind_bits ks

-- the bits of lines, 20 each
unfoldable pub line_bits : List Line → List ℕ
line_bits [] = []
line_bits (l ∷ ls) = bits 2 l.type ++ (bits 9 l.first ++ (bits 9 l.second ++ line_bits ls))

-- the bits of a sheet, without the filling
unfoldable pub layout : Sheet → List ℕ
layout s = bits 10 (length s.kinds) ++ (bits 12 (length s.lines) ++ (kind_bits s.kinds ++ line_bits s.lines))

-- this many bytes of eight bits each, zero bits filling the last
unfoldable pub packed : ℕ → List ℕ → List ℕ
packed count bs = map (λ i. word (λ j. get_or bs j 0) (8 * i) 8) (upto count 0)

-- the bytes of the sheet that holds these kinds and lines
abbrev pub written : Sheet → List ℕ
written s = packed (byte_length (length s.kinds) (length s.lines)) (layout s)
