-- `repeats`: where one of the row's marks is not set there is no earlier row that it equals; else the rows are compared. Assumes nothing.
use Rattle.std.proofs.Common.{ℕ, ◌+◌, ◌/◌, ◌%◌, ◌<◌, ◌≡◌, List, ap, sym, ◌∙◌}
use mathlib.Core.Bool.{false≢true}
use Rattle.rules.specs.RowCheck.{row_at}
use Rattle.row_tests.proofs.Marks.{noted_more, repeats_met}
use Rattle.row_tests.specs.Marks.{digest_of, marked_at, Noted}
use Rattle.row_tests.proofs.equal.repeats.Goals as goal
use Rattle.row_tests.proofs.equal.repeats.Goals.{then-has, else-has}

-- both its marks are set
noted : {n : ℕ} {rows : List ℕ} {i : ℕ} {marks : List ℕ} → Noted n rows i marks → (d : ℕ) (low both : List ℕ) → d ≡ digest_of (row_at n rows i) → d < 68_719_476_736 → low ≡ marked_at marks (d % 262_144) → both ≡ marked_at low (d / 262_144) → Noted n rows (i + 1) both
noted N d low both e small l b = rw (b, l) (noted_more N d e small)

pub returns-then-met : goal.returns-then-met
returns-then-met c = (c.stands_before.ensures, noted c.requires.1 c.digest-d.result _ _ (c.digest-d.ensures.0 ∙ ap digest_of c.row_of.ensures) c.digest-d.ensures.1 c.set.ensures c.set-2.ensures)

pub returns-else-met : goal.returns-else-met
returns-else-met c =
    let e = c.digest-d.ensures.0 ∙ ap digest_of c.row_of.ensures in
    let m = repeats_met c.requires.1 c.digest-d.result e in (
      rw c.if-met.false (λ r. elim c.if-has.branch [
        | then-has w ↦ false≢true (sym c.if-met.false ∙ w.met-is ∙ w.has-met.ensures ∙ (m r).1)
        | else-has w ↦ false≢true (sym w.if-has.false ∙ c.has.ensures ∙ (m r).0)
      ]),
      noted c.requires.1 c.digest-d.result _ _ e c.digest-d.ensures.1 c.set.ensures c.set-2.ensures,
    )
