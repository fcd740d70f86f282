-- Stores into a list from its start on: what was stored, and the rest as it was.
use Prim.Native.Nat.{ℕ, suc, ◌+◌, ◌*◌, ◌≤◌, ◌<◌}
use mathlib.Core.Path.{◌≡◌, refl, ap, ◌∙◌}
use mathlib.Core.List.{List, [], ◌∷◌, ◌++◌, map, append_assoc, append-nil}
use native.Mathlib.Numerals.{add-one}
use native.Mathlib.Omega.{arith}
use lib.ListN.{length, get_or, set, drop, take, length-take}
use Rattle.std.proofs.lemmas.List.{drop_all, take_at, drop_at, drop-drop}
use borrow.Rule.Slice.PartMut.{put_mid}
use lib.Seq.{drop-cons, set_at}
use Rattle.laws.specs.Lists.{upto}
use Rattle.laws.proofs.Lists.{length_map_upto, map_next}
use Rattle.rules.specs.Sheet.{Line}
use Rattle.rules.specs.Calls.{over, triples}
use Rattle.rules.proofs.ReadWrite.{length_triples}

-- one more store
pub store_next : (xs l : List ℕ) (i j v : ℕ) → length xs ≡ i → i < length l → j ≡ i + 1 → set (xs ++ drop i l) i v ≡ (xs ++ (v ∷ [])) ++ drop j l
store_next xs l i j v e h f = rw (f, drop-cons l i 0 h, set_at xs (get_or l i 0) (drop (suc i) l) v i e, add-one, append_assoc)

-- the numbers of lines one after the other
pub triples_append : (a b : List Line) → triples (a ++ b) ≡ triples a ++ triples b
unfolding triples
triples_append [] b = refl
triples_append (l ∷ a) b = ap (λ r. l.type ∷ l.first ∷ l.second ∷ r) (triples_append a b)

-- one more line of a list by numbers, put into its place
pub line_put : (g : ℕ → Line) (l lines three : List ℕ) (j k : ℕ) (x : Line) → x ≡ g j → three ≡ x.type ∷ x.first ∷ x.second ∷ [] → k ≡ 3 → lines ≡ triples (map g (upto j 0)) ++ drop (3 * j) l → put_mid (3 * j) k lines three ≡ triples (map g (upto (j + 1) 0)) ++ drop (3 * (j + 1)) l
unfolding triples
line_put g l lines three j k x e t w f =
    let b = triples (map g (upto j 0)) in
    let h : length b ≡ 3 * j = length_triples (map g (upto j 0)) ∙ ap (λ n. 3 * n) (length_map_upto g j 0) in
    let d : drop 3 (drop (3 * j) l) ≡ drop (3 * (j + 1)) l = let n : 3 * j + 3 ≡ 3 * (j + 1) = omega arith in drop-drop 3 (3 * j) l ∙ ap (λ i. drop i l) n in
    rw (f, t, w, take_at b (drop (3 * j) l) _ h, drop_at b (drop (3 * j) l) _ h, d, map_next g j, triples_append (map g (upto j 0)) (g j ∷ []), append_assoc, e)

-- one more number of a list by numbers
pub number_put : (g : ℕ → ℕ) (l list : List ℕ) (i x : ℕ) → x ≡ g i → i < length l → list ≡ map g (upto i 0) ++ drop i l → set list i x ≡ map g (upto (i + 1) 0) ++ drop (i + 1) l
number_put g l list i x e h f = rw (e, f, map_next g i) (store_next (map g (upto i 0)) l i (i + 1) (g i) (length_map_upto g i 0) h refl)

-- what was stored from the start on lies over the list
pub over_at : (xs l : List ℕ) (k : ℕ) → length xs ≡ k → xs ++ drop k l ≡ over xs l
over_at xs l k e = rw e

-- numbers that were put into the first n of a list lie over it
pub numbers_over : (g : ℕ → ℕ) (l list : List ℕ) (n i : ℕ) → n ≤ length l → i ≤ length (take n l) → length (take n l) ≤ i → list ≡ map g (upto i 0) ++ drop i (take n l) → list ++ drop n l ≡ over (map g (upto n 0)) l
numbers_over g l list n i h a b e =
    let f : i ≡ n = omega (arith, length-take n l) in
    let d : drop i (take n l) ≡ [] = drop_all i (take n l) b in
    rw (e, d, append-nil, f) (over_at (map g (upto n 0)) l n (length_map_upto g n 0))
