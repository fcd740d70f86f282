-- A field of a sheet by bytes: the four bytes that it lies in, as one number. Assumes nothing: these are definitions.
use Rattle.std.specs.Prelude.{ℕ, ◌+◌, ◌*◌, List, get_or}
use Rattle.rules.specs.Sheet.{Line, panel, cable, normalled}
use Rattle.sheet.specs.declared.fields.SheetLine.{SheetLine}
use Rattle.sheet.specs.declared.fields.LineType.{LineType}
use Rattle.sheet.specs.declared.fields.LineType.TheVariants.{Panel, Cable, Normalled}

-- the four bytes from byte k on as one number, most significant first, with 0 for each that is past the end
abbrev pub four_bytes : List ℕ → ℕ → ℕ
four_bytes bytes k = get_or bytes k 0 * 16_777_216 + get_or bytes (k + 1) 0 * 65_536 + get_or bytes (k + 2) 0 * 256 + get_or bytes (k + 3) 0

-- the line that a struct says
abbrev pub line_of : SheetLine → Line
line_of l = record { type = l.sort; first = l.first; second = l.second }

-- document 01's number of a line's type
abbrev pub type_number : LineType → ℕ
type_number Panel = panel
type_number Cable = cable
type_number Normalled = normalled
