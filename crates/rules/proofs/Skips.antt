-- A level that has reached a place never skips: the rule says what to do there, and the case does not arise.
use Prim.Native.Nat.{ℕ, suc, ◌+◌}
use mathlib.Core.Path.{◌≡◌, ap, sym, ◌∙◌}
use mathlib.Core.Logic.{◌≢◌, inl, inr}
use mathlib.Core.List.{List, Memᴰ}
use mathlib.Core.Bool.{true, true≢false}
use mathlib.Core.Option.{some}
use lib.ListN.{length}
use Rattle.laws.specs.Masks.{in_mask}
use Rattle.rules.specs.Place.{Placed, entry, placed, image}
use Rattle.rules.specs.Tries.{Plan, level, takeable, row_of}
use Rattle.laws.proofs.Lists.{split, get_or_first}
use Rattle.rules.proofs.Lawful.{try_of, Grown, Lawful}
use Rattle.rules.proofs.Placements.{kept}
use Rattle.rules.proofs.Nogood.{agrees_more, try_refutes}
use Rattle.rules.proofs.Sound.{level_reaches, full_fits}
use Rattle.rules.proofs.Order.{level_keeps}

-- where a level of u lists a place, every try of it with a set that is not empty has u in its set
pub no_skip_after_place : (S : Plan) → Lawful S → (k : ℕ) {M : Placed} → Grown S M → length M + suc k ≡ S.figure.graph.size → {row : List ℕ} → Memᴰ (some row) (level S (suc k) M).tries → (v : ℕ) → Memᴰ v (takeable S M (S.next M)) → (try_of S k M v).failing ≢ 0 → in_mask (S.next M) (try_of S k M v).failing ≡ true
unfolding row_of
no_skip_after_place S L k {M} g n {row} m v t fails =
    let x = level_reaches S (suc k) g n m in
    let r : ℕ → ℕ = image x.at in
    let agrees : (w : ℕ) → placed M w ≡ true → r w ≡ image M w = λ w h. sym (ap (λ l. entry l w) x.same ∙ get_or_first r 0 S.figure.graph.size w ((kept S L g).inside w h)) ∙ level_keeps S L (suc k) g n m w h in
    elim (split (in_mask (S.next M) (try_of S k M v).failing)) [
      | inl has-u ↦ has-u
      | inr lacks ↦ absurd (try_refutes S L r (full_fits S L x.grown x.full) k g n v t fails (agrees_more r M (S.next M) v _ (λ w h i. agrees w h) (λ i. absurd (true≢false (sym i ∙ lacks)))))
    ]
