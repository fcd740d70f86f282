-- What the exported calls return beside what was lent, as the rules have it. Assumes nothing: these are definitions.
use Rattle.std.specs.Prelude.{ℕ, List}
use Rattle.rules.specs.Calls as calls
use Rattle.exports.specs.declared.Found.{Found}
use Rattle.exports.specs.declared.Read.{Read}
use Rattle.exports.specs.declared.Written.{Written}

-- what the search returned, with the list and the working memory afterwards
abbrev pub as_searched : Found → (list memory : List ℕ) → calls.Searched
as_searched r list memory = record { number = r.number; line = r.line; rows = r.rows; tries = r.tries; list = list; memory = memory }

-- what the reader returned, with the two lists afterwards
abbrev pub as_read : Read → (kind_list line_list : List ℕ) → calls.Read
as_read r kind_list line_list = record { number = r.number; line = r.line; vertices = r.vertices; lines = r.lines; kind_list = kind_list; line_list = line_list }

-- what the writer returned, with the bytes afterwards
abbrev pub as_written : Written → List ℕ → calls.Written
as_written r bytes = record { number = r.number; line = r.line; count = r.count; bytes = bytes }
