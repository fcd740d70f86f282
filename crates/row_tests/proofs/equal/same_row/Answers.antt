-- `same_row` meets its contract: rows are the same where their fours and what is left of them are. Assumes nothing.
use Rattle.std.proofs.Common.{ap, sym, ◌∙◌, ◌≡◌, ◌*◌, ◌/◌, drop, length, List, ℕ}
use Rattle.std.specs.Simd.{first_chunks}
use Rattle.row_tests.proofs.Says.{says_of, says_yes}
use Rattle.row_tests.proofs.Rows.{chunks_same}
use Rattle.row_tests.proofs.equal.same_row.Goals as goal

pub returns-then-same_fours : goal.returns-then-same_fours
returns-then-same_fours c =
    let row = c.args.row.now in
    let other = c.args.other.now in
    let k = length row / 4 in
    let fours = says_yes _ _ c.same_fours.ensures c.if-same_fours.true in
    let front : first_chunks 4 k row ≡ first_chunks 4 k other = sym c.as_chunks.ensures.front ∙ fours ∙ c.as_chunks-2.ensures.front ∙ ap (λ n. first_chunks 4 (n / 4) other) (sym c.requires) in
    let rest : (l : List ℕ) → List ℕ = λ l. drop (length l / 4 * 4) l in
    says_of _ _ _ c.same_entries.ensures
    (λ q. chunks_same 4 k row other front (sym c.as_chunks.ensures.back ∙ q ∙ c.as_chunks-2.ensures.back ∙ ap (λ n. drop (n / 4 * 4) other) (sym c.requires)))
    (λ r. c.as_chunks.ensures.back ∙ ap rest r ∙ sym c.as_chunks-2.ensures.back)
