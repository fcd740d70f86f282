-- `is_place`: a row is a place exactly where the three tests pass. Assumes nothing.
use Rattle.std.proofs.Common.{refl, sym, ◌∙◌}
use Rattle.patch.proofs.Held.{held_linked}
use Rattle.row_tests.proofs.Places.{ends_below, fit_within, place_fits, place_apart, place_lines, tests_place}
use Rattle.row_tests.proofs.Says.{says_yes, says_no, says_of}
use Rattle.row_tests.proofs.place.is_place.Goals as goal
use Rattle.row_tests.proofs.place.is_place.Goals.{then-kinds_fit, else-kinds_fit}

pub lines_kept-requires : goal.lines_kept-requires
lines_kept-requires c = let A = c.requires.1.1 in elim c.if-kinds_fit.branch [
  | then-kinds_fit w ↦ (held_linked A.tables, fit_within A c.args.row.now refl w.if-kinds_fit.ensures, ends_below A)
  | else-kinds_fit w ↦ absurd (cc)
]

pub returns-then-apart : goal.returns-then-apart
returns-then-apart c = λ F P A. elim c.if-kinds_fit.branch [
  | then-kinds_fit w ↦ says_of _ _ c.lines_kept.result c.lines_kept.ensures (tests_place A _ refl w.if-kinds_fit.ensures (says_yes _ _ w.apart.ensures (sym w.value-is ∙ c.if-apart.true))) (place_lines A _ refl)
  | else-kinds_fit w ↦ absurd (cc)
]

pub returns-else-apart : goal.returns-else-apart
returns-else-apart c = λ F P A. rw c.if-apart.false (λ p. elim c.if-kinds_fit.branch [
  | then-kinds_fit w ↦ says_no _ _ w.apart.ensures (sym w.value-is ∙ c.if-apart.false) (place_apart A _ refl p)
  | else-kinds_fit w ↦ w.if-kinds_fit.ensures (place_fits A _ refl p)
])
