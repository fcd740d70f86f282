-- The rows listed are the places.
use Prim.Native.Nat.{ℕ, ◌<◌}
use mathlib.Core.Path.{◌≡◌, refl, ap, sym, ◌∙◌}
use mathlib.Core.Logic.{⊎_elim}
use mathlib.Core.List.Memᴰ
use mathlib.Core.List.{List, [], map, Memᴰ}
use mathlib.Core.Option.{some}
use lib.ListN.{length, get_or}
use Rattle.laws.specs.Lists.{upto}
use Rattle.rules.specs.Place.{Place, entry}
use Rattle.rules.specs.Candidates.{set_of}
use Rattle.rules.specs.Tries.{Plan, level}
use Rattle.rules.proofs.Lawful.{Lawful, Faithful, Fits}
use Rattle.laws.proofs.Lists.{length_map_upto, get_or_first, firsts}
use Rattle.rules.proofs.Lines.{joined_sym}
use Rattle.rules.proofs.Complete.{search_lists}
use Rattle.rules.proofs.Sound.{search_sound}

module _ (S : Plan) (L : Lawful S) (A : Faithful S) where
  -- every place whose images the sets hold is listed
  pub place_listed : (row : List ℕ) → Place S.figure S.patch row → ((u : ℕ) → u < S.figure.graph.size → Memᴰ (entry row u) (set_of S.sets u)) → Memᴰ (some row) (level S S.figure.graph.size []).tries
  place_listed row P held = Memᴰ.cast (ap some same) (search_lists S L (entry row) fits)
    where
      fits : Fits S (entry row)
      fits = record {
        listed = held;
        apart = P.apart;
        lines = λ u p h m. ⊎_elim (λ l. joined_sym S.patch.graph _ _ (P.lines (u, p) l)) (λ l. P.lines (p, u) l) (A.lined u p m);
      }

      same : row ≡ map (entry row) (upto S.figure.graph.size 0)
      same = firsts row (entry row) 0 S.figure.graph.size P.whole (λ u h. refl)

  -- every row listed is a place
  pub listed_place : (row : List ℕ) → Memᴰ (some row) (level S S.figure.graph.size []).tries → Place S.figure S.patch row
  listed_place row m = let x = search_sound S L m in place x.0 x.1 x.2
    where
      place : (r : ℕ → ℕ) → Fits S r → row ≡ map r (upto S.figure.graph.size 0) → Place S.figure S.patch row
      place r F e = record {
        whole = ap length e ∙ length_map_upto r S.figure.graph.size 0;
        inside = λ u h. rw (at u h) (A.only u (r u) h (F.listed u h)).0;
        apart = λ u w h k i. F.apart u w h k (sym (at u h) ∙ i ∙ at w k);
        kinds = λ u h. rw (at u h) (A.only u (r u) h (F.listed u h)).1;
        lines = λ l i. rw (at l.0 (A.ends l i).0, at l.1 (A.ends l i).1) (⊎_elim (λ k. F.lines l.1 l.0 (A.ends l i).1 k) (λ k. joined_sym S.patch.graph _ _ (F.lines l.0 l.1 (A.ends l i).0 k)) (A.parted l i));
      }
        where
          at : (u : ℕ) → u < S.figure.graph.size → entry row u ≡ r u
          at u h = ap (λ l. get_or l u 0) e ∙ get_or_first r 0 S.figure.graph.size u h
