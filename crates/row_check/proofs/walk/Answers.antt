-- `walk`: the row lies in the list, and what is said of it holds whatever figure and patch the arrays hold. Assumes nothing.
use Rattle.std.proofs.Common.{◌/◌, ◌≡◌, length, refl, subst, sym, arith}
use Rattle.rules.specs.RowCheck.{Repeats, all_good, repeated}
use Rattle.row_check.proofs.Walks.{row_fits, row_says, row_against, good_more}
use Rattle.row_tests.proofs.Says.{says_yes}
use Rattle.row_check.proofs.walk.Goals as goal

pub is_place-requires : goal.is_place-requires
is_place-requires c =
    let fits = row_fits c.get-n.result c.loop-i.i (length c.args.rows.now) c.loop-i-test.true in
    (c.requires.0, (c.requires.1.0, row_against c.get-n.result c.loop-i.i c.args.rows.now _ _ _ _ _ fits c.row_of.ensures _ _ (rw c.get-n.ensures.value c.requires.1.1)))

pub loop-i-preserved : goal.loop-i-preserved
loop-i-preserved c =
    let fits = row_fits c.get-n.result c.loop-i.i (length c.args.rows.now) c.loop-i-test.true in record {
      noted = c.repeats.ensures.1;
      good = λ F P A. good_more (c.loop-i.invariant.good F P A)
          (says_yes _ c.is_place.result (row_says c.get-n.result c.loop-i.i c.args.rows.now _ _ _ _ _ fits c.row_of.ensures c.is_place.result c.is_place.ensures F P A) c.if-not-is_place.false)
          (λ r. c.if-repeats.ensures.0 (subst (λ k. Repeats k c.args.rows.now c.loop-i.i) A.figure_size r));
    }

pub returns-then-repeats : goal.returns-then-repeats
returns-then-repeats c =
    let fits = row_fits c.get-n.result c.loop-i.i (length c.args.rows.now) c.loop-i-test.true in
    rw (sym c.get-n.ensures.value) (λ F P A. repeated refl (record { there = c.loop-i-test.true; before = c.loop-i.invariant.good F P A })
    (says_yes _ c.is_place.result (row_says c.get-n.result c.loop-i.i c.args.rows.now _ _ _ _ _ fits c.row_of.ensures c.is_place.result c.is_place.ensures F P A) c.if-not-is_place.false)
    (rw A.figure_size c.if-repeats.ensures.0))

pub returns : goal.returns
returns c = rw (sym c.get-n.ensures.value) (λ F P A. let e : c.loop-i.i ≡ length c.args.rows.now / c.get-n.result = omega arith in all_good refl refl (rw e at (c.loop-i.invariant.good F P A)))
