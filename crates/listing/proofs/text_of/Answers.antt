-- Number and line are those of the sheet's check, and the counts are within the lists, since `read` has room for any sheet. Assumes nothing.
use lib.Seq.{length-take-le}
use mathlib.Core.Path.{sym, ap}
use Rattle.std.proofs.Common.{arith}
use Rattle.listing.proofs.Room.{read_roomy, no_33}
use Rattle.listing.proofs.text_of.Goals as goal

pub slice_bounds-lines-end : goal.slice_bounds-lines-end
slice_bounds-lines-end c = let R = read_roomy _ _ _ _ c.in-Ok.ensures (omega arith) (omega arith) in omega (arith, R.lines)

pub slice_bounds-as_chunks-end : goal.slice_bounds-as_chunks-end
slice_bounds-as_chunks-end c = let R = read_roomy _ _ _ _ c.in-Ok.ensures (omega arith) (omega arith) in sym (length-take-le _ _ (omega (arith, R.lines)))

pub slice_bounds-kinds-end : goal.slice_bounds-kinds-end
slice_bounds-kinds-end c = let R = read_roomy _ _ _ _ c.in-Ok.ensures (omega arith) (omega arith) in omega (arith, R.vertices)

pub slice_bounds-put_items-end : goal.slice_bounds-put_items-end
slice_bounds-put_items-end c = let R = read_roomy _ _ _ _ c.in-Ok.ensures (omega arith) (omega arith) in sym (length-take-le _ _ (omega (arith, R.vertices)))

pub unreachable-requires : goal.unreachable-requires
unreachable-requires c = let R = read_roomy _ _ _ _ (rw c.in-Err-Room.field-0-is at c.in-Err-Room.ensures) (omega arith) (omega arith) in omega (arith, no_33 c.args.sheet.now, ap (λ v. v.number) R.same)

pub returns-in-Ok-clause-says : goal.returns-in-Ok-clause-says
returns-in-Ok-clause-says c = let R = read_roomy _ _ _ _ c.in-Ok.ensures (omega arith) (omega arith) in R.same

pub returns-in-Err-Sheet-clause-says : goal.returns-in-Err-Sheet-clause-says
returns-in-Err-Sheet-clause-says c = let R = read_roomy _ _ _ _ (rw c.in-Err-Sheet.field-0-is at c.in-Err-Sheet.ensures) (omega arith) (omega arith) in rw c.in-Err-Sheet.field-0-is R.same
