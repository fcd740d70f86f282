-- `fields::field` meets its contract: the part of four bytes that a shift and a mask take is the field, by the one law of fields (`field_four`). Assumes nothing.
use Prim.Native.Nat.{◌^◌, ◌/◌, ◌%◌, ◌-◌, ◌+◌}
use mathlib.Core.Path.{sym, ◌∙◌, ap}
use native.Mathlib.Omega.{arith}
use Rattle.sheet.proofs.Words.{masked, field_four}
use Rattle.sheet.proofs.fields.field.Goals as goal

pub returns : goal.returns
returns c = let a = c.args in
    let x = c.four_bytes-four.result / 2 ^ (32 - (a.at % 8 + a.width)) in
    masked 64 x a.width (omega arith) ∙ ap (λ k. k / 2 ^ (32 - (a.at % 8 + a.width)) % 2 ^ a.width) c.four_bytes-four.ensures.0 ∙ sym (field_four a.bytes.now (λ i. omega (arith, c.type_inv.bytes i)) a.at a.width c.requires)
