-- Laws of the words on lists: members, tests, entries, order, sums.
use Prim.Native.Nat.{ℕ, zero, suc, ◌+◌, ◌≤◌, ◌<◌, suc-le-suc}
use mathlib.Core.Path.{◌≡◌, refl, ap, ap₂, sym, subst, ◌∙◌}
use mathlib.Core.Logic.{◌⊎◌, inl, inr, ⊎_elim, ◌≢◌}
use mathlib.Core.List.Memᴰ
use mathlib.Core.List.{List, [], ◌∷◌, ◌++◌, map, Memᴰ}
use mathlib.Core.Bool.{Bool, true, false, ◌&&◌, ◌||◌, not, false≢true, or-true, and-eq-true_iff}
use native.Mathlib.Nat.{add-zero, zero-add, add-suc, suc-add}
use native.Mathlib.Decide.{ℕ_discrete}
use native.Mathlib.Omega.{arith}
use borrow.Author.Tests.{eqb-true, eq-eqb}
use lib.Dec.{eqb}
use lib.ListN.{length, get_or, take, length-map, length-append}
use lib.Seq.{ext_get_or}
use Rattle.laws.specs.Lists.{any, all, keep, each, has, distinct, upto, Ordered, nil, cons}

-- a test's two ends, with the equation
pub split : (b : Bool) → (b ≡ true) ⊎ (b ≡ false)
split true = inl refl
split false = inr refl

-- a conclusion under two tests
pub guarded : (a b c : Bool) → (a ≡ true → b ≡ true → c ≡ true) → (not (a && b) || c) ≡ true
guarded true true c h = h refl refl
guarded true false c h = refl
guarded false b c h = refl

-- members of what is kept, and tests of all and of any
module _ {A : Type 0} (p : A → Bool) where
  pub keep_in : {x : A} {l : List A} → Memᴰ x l → p x ≡ true → Memᴰ x (keep p l)
  keep_in (Memᴰ.head e) h = rw (ap p (sym e) ∙ h) (Memᴰ.head e)
  keep_in (Memᴰ.tail {x = y} m) h = elim (split (p y)) [ inl e ↦ rw e (Memᴰ.tail (keep_in m h)) | inr e ↦ rw e (keep_in m h) ]

  pub keep_out : {x : A} (l : List A) → Memᴰ x (keep p l) → Memᴰ x l × (p x ≡ true)
  keep_out [] m = absurd (Memᴰ.not-nil m)
  keep_out (y ∷ ys) m = elim (split (p y)) [
    | inl e ↦ ⊎_elim (λ i. (Memᴰ.head i, ap p i ∙ e)) (λ j. (Memᴰ.tail (keep_out ys j).0, (keep_out ys j).1)) (Memᴰ.cases_cons (rw e at m))
    | inr e ↦ let r = keep_out ys (rw e at m) in (Memᴰ.tail r.0, r.1)
  ]

  pub all_in : (l : List A) → ((x : A) → Memᴰ x l → p x ≡ true) → all p l ≡ true
  all_in [] f = refl
  all_in (y ∷ ys) f = ap₂ ◌&&◌ (f y (Memᴰ.head refl)) (all_in ys (λ x m. f x (Memᴰ.tail m)))

  pub all_out : {x : A} {l : List A} → Memᴰ x l → all p l ≡ true → p x ≡ true
  all_out (Memᴰ.head e) h = ap p e ∙ ((and-eq-true_iff _ _).0 h).0
  all_out (Memᴰ.tail {x = y} m) h = all_out m ((and-eq-true_iff (p y) _).0 h).1

  pub any_in : {x : A} {l : List A} → Memᴰ x l → p x ≡ true → any p l ≡ true
  any_in (Memᴰ.head e) h = rw (ap p (sym e) ∙ h)
  any_in (Memᴰ.tail m) h = rw (any_in m h, or-true)

  pub any_out : (l : List A) → any p l ≡ true → (x : A) × Memᴰ x l × (p x ≡ true)
  any_out [] h = absurd (false≢true h)
  any_out (y ∷ ys) h = elim (split (p y)) [
    | inl e ↦ (y, Memᴰ.head refl, e)
    | inr e ↦ let x = any_out ys (rw e at h) in (x.0, Memᴰ.tail x.1, x.2)
  ]

  pub keep_append : (l m : List A) → keep p (l ++ m) ≡ keep p l ++ keep p m
  keep_append [] m = refl
  keep_append (x ∷ l) m = elim (split (p x)) [ inl e ↦ rw e (ap (λ z. x ∷ z) (keep_append l m)) | inr e ↦ rw e (keep_append l m) ]

  pub keep_ordered : {R : A → A → Type 0} {l : List A} → Ordered R l → Ordered R (keep p l)
  keep_ordered nil = nil
  keep_ordered (cons {x = x} {l = l} f o) = elim (split (p x)) [ inl e ↦ rw e (cons (λ y m. f y (keep_out l m).0) (keep_ordered o)) | inr e ↦ rw e (keep_ordered o) ]

-- `has` is membership
pub has_in : {v : ℕ} {l : List ℕ} → Memᴰ v l → has v l ≡ true
has_in {v} m = any_in (eqb v) m (eq-eqb v v refl)

pub has_out : (v : ℕ) (l : List ℕ) → has v l ≡ true → Memᴰ v l
has_out v l h = let x = any_out (eqb v) l h in Memᴰ.cast (eqb-true v x.0 x.2) x.1

-- what has no member is empty
pub no_member : {A : Type 0} (l : List A) → ((x : A) → Memᴰ x l → ⊥) → l ≡ []
no_member [] f = refl
no_member (x ∷ l) f = absurd (f x (Memᴰ.head refl))

-- members by place
module _ {A : Type 0} (d : A) where
  pub get_or_in : (l : List A) (i : ℕ) → i < length l → Memᴰ (get_or l i d) l
  get_or_in [] i h = absurd (omega arith)
  get_or_in (x ∷ l) zero h = Memᴰ.head refl
  get_or_in (x ∷ l) (suc i) h = Memᴰ.tail (get_or_in l i (omega arith))

  pub get_or_out : {x : A} {l : List A} → Memᴰ x l → (i : ℕ) × (i < length l) × (x ≡ get_or l i d)
  get_or_out (Memᴰ.head e) = (0, omega arith, e)
  get_or_out (Memᴰ.tail m) = let t = get_or_out m in (suc t.0, suc-le-suc t.1, t.2)

  pub take_out : {x : A} (n : ℕ) (l : List A) → Memᴰ x (take n l) → (i : ℕ) × (i < n) × (x ≡ get_or l i d)
  take_out zero l m = absurd (Memᴰ.not-nil m)
  take_out (suc n) [] m = absurd (Memᴰ.not-nil m)
  take_out (suc n) (y ∷ l) m = elim (Memᴰ.cases_cons m) [ inl e ↦ (0, omega arith, e) | inr k ↦ let t = take_out n l k in (suc t.0, suc-le-suc t.1, t.2) ]

  pub ordered_get_or : {R : A → A → Type 0} {l : List A} → Ordered R l → (i j : ℕ) → i < j → j < length l → R (get_or l i d) (get_or l j d)
  ordered_get_or nil i j h k = absurd (omega arith)
  ordered_get_or (cons f o) i zero h k = absurd (omega arith)
  ordered_get_or (cons {l = l} f o) zero (suc j) h k = f _ (get_or_in l j (omega arith))
  ordered_get_or (cons f o) (suc i) (suc j) h k = ordered_get_or o i j (omega arith) (omega arith)

-- order in lists built up, and in a beginning
module _ {A : Type 0} {R : A → A → Type 0} where
  pub single_ordered : (x : A) → Ordered R (x ∷ [])
  single_ordered x = cons (λ y m. absurd (Memᴰ.not-nil m)) nil

  pub append_ordered : {s t : List A} → Ordered R s → Ordered R t → ((x y : A) → Memᴰ x s → Memᴰ y t → R x y) → Ordered R (s ++ t)
  append_ordered nil o f = o
  append_ordered (cons {l = l} g p) o f = cons (λ y m. ⊎_elim (λ i. g y i) (λ i. f _ y (Memᴰ.head refl) i) (Memᴰ.append_cases l m)) (append_ordered p o (λ x y i j. f x y (Memᴰ.tail i) j))

  pub begun_ordered : (s t : List A) → Ordered R (s ++ t) → Ordered R s
  begun_ordered [] t o = nil
  begun_ordered (x ∷ s) t (cons f o) = cons (λ y m. f y (Memᴰ.append_left t m)) (begun_ordered s t o)

  pub weaken_ordered : {Q : A → A → Type 0} {l : List A} → Ordered R l → ((x y : A) → Memᴰ x l → Memᴰ y l → R x y → Q x y) → Ordered Q l
  weaken_ordered nil f = nil
  weaken_ordered (cons {x = x} g o) f = cons (λ y m. f x y (Memᴰ.head refl) (Memᴰ.tail m) (g y m)) (weaken_ordered o (λ a b i j. f a b (Memᴰ.tail i) (Memᴰ.tail j)))

-- two lists with the same members, both in an order in which nothing comes before itself or both ways round, are one
pub ordered_one : {A : Type 0} {R : A → A → Type 0} → ((x : A) → R x x → ⊥) → ((x y : A) → R x y → R y x → ⊥) → {xs ys : List A} → Ordered R xs → Ordered R ys → ((z : A) → Memᴰ z xs → Memᴰ z ys) → ((z : A) → Memᴰ z ys → Memᴰ z xs) → xs ≡ ys
ordered_one own both nil nil f g = refl
ordered_one own both nil (cons {x = y} q o) f g = absurd (Memᴰ.not-nil (g y (Memᴰ.head refl)))
ordered_one own both (cons {x = x} p o) nil f g = absurd (Memᴰ.not-nil (f x (Memᴰ.head refl)))
ordered_one {A} {R} own both (cons {x = x} {l = xs} p o) (cons {x = y} {l = ys} q t) f g = ap₂ ◌∷◌ heads (ordered_one own both o t (λ z m. ⊎_elim (λ e. absurd (own x (subst (λ w. R x w) (e ∙ sym heads) (p z m)))) (λ k. k) (Memᴰ.cases_cons (f z (Memᴰ.tail m)))) (λ z m. ⊎_elim (λ e. absurd (own y (subst (λ w. R y w) (e ∙ heads) (q z m)))) (λ k. k) (Memᴰ.cases_cons (g z (Memᴰ.tail m)))))
  where
    heads : x ≡ y
    heads = ⊎_elim (λ e. e) (λ i. ⊎_elim (λ e. sym e) (λ j. absurd (both x y (p y j) (q x i))) (Memᴰ.cases_cons (g y (Memᴰ.head refl)))) (Memᴰ.cases_cons (f x (Memᴰ.head refl)))

-- so two ascending lists are
pub ascending_one : {xs ys : List ℕ} → Ordered ◌<◌ xs → Ordered ◌<◌ ys → ((z : ℕ) → Memᴰ z xs → Memᴰ z ys) → ((z : ℕ) → Memᴰ z ys → Memᴰ z xs) → xs ≡ ys
ascending_one = ordered_one (λ x h. omega arith) (λ x y h k. omega arith)

-- a list that goes into another, each member to one of its own, is no longer
removed : {y : ℕ} {ys : List ℕ} → Memᴰ y ys → (zs : List ℕ) × (length ys ≡ suc (length zs)) × ((z : ℕ) → Memᴰ z ys → (z ≡ y → ⊥) → Memᴰ z zs)
removed (Memᴰ.head {xs = ys} e) = (ys, refl, λ z m n. ⊎_elim (λ q. absurd (n (q ∙ sym e))) (λ k. k) (Memᴰ.cases_cons m))
removed (Memᴰ.tail {x = x} m) = let r = removed m in (x ∷ r.0, ap suc r.1, λ z k n. ⊎_elim (λ q. Memᴰ.head q) (λ j. Memᴰ.tail (r.2 z j n)) (Memᴰ.cases_cons k))

pub into_length : (f : ℕ → ℕ) {xs : List ℕ} (ys : List ℕ) → Ordered ◌≢◌ xs → ((x w : ℕ) → Memᴰ x xs → Memᴰ w xs → f x ≡ f w → x ≡ w) → ((x : ℕ) → Memᴰ x xs → Memᴰ (f x) ys) → length xs ≤ length ys
into_length f ys nil apart into = omega arith
into_length f ys (cons {x = x} {l = l} g o) apart into =
    let r = removed (into x (Memᴰ.head refl)) in
    let h : length l ≤ length r.0 = into_length f r.0 o (λ a b i j. apart a b (Memᴰ.tail i) (Memᴰ.tail j)) (λ w m. r.2 (f w) (into w (Memᴰ.tail m)) (λ e. g w m (apart x w (Memᴰ.head refl) (Memᴰ.tail m) (sym e)))) in
    omega (arith, r.1)

-- the n numbers from i on
pub upto_out : {v : ℕ} (n i : ℕ) → Memᴰ v (upto n i) → (i ≤ v) × (v < i + n)
upto_out zero i m = absurd (Memᴰ.not-nil m)
upto_out (suc n) i m = elim (Memᴰ.cases_cons m) [ inl e ↦ omega arith | inr k ↦ omega (arith, upto_out n (suc i) k) ]

pub upto_in : {v : ℕ} (n i : ℕ) → i ≤ v → v < i + n → Memᴰ v (upto n i)
upto_in zero i a b = absurd (omega arith)
upto_in {v} (suc n) i a b = elim (ℕ_discrete v i) [ yes e ↦ Memᴰ.head e | no e ↦ Memᴰ.tail (upto_in n (suc i) (omega arith) (omega arith)) ]

pub upto_ordered : (n i : ℕ) → Ordered ◌<◌ (upto n i)
upto_ordered zero i = nil
upto_ordered (suc n) i = cons (λ v m. (upto_out n (suc i) m).0) (upto_ordered n (suc i))

pub length_upto : (n i : ℕ) → length (upto n i) ≡ n
length_upto zero i = refl
length_upto (suc n) i = ap suc (length_upto n (suc i))

pub length_map_upto : {A : Type 0} (f : ℕ → A) (n i : ℕ) → length (map f (upto n i)) ≡ n
length_map_upto f n i = length-map (upto n i) f ∙ length_upto n i

-- entry j of a map of n numbers from i on
pub get_or_map_upto : {A : Type 0} (f : ℕ → A) (d : A) (n i j : ℕ) → j < n → get_or (map f (upto n i)) j d ≡ f (i + j)
get_or_map_upto f d zero i j h = absurd (omega arith)
get_or_map_upto f d (suc n) i zero h = rw add-zero
get_or_map_upto f d (suc n) i (suc j) h = get_or_map_upto f d n (suc i) j (omega arith) ∙ rw (add-suc, suc-add)

-- and of a map of the first n numbers
pub get_or_first : {A : Type 0} (f : ℕ → A) (d : A) (n j : ℕ) → j < n → get_or (map f (upto n 0)) j d ≡ f j
get_or_first f d n j h = get_or_map_upto f d n 0 j h ∙ ap f (zero-add j)

-- a list is a map of the first n numbers, by its entries
pub firsts : {A : Type 0} (t : List A) (g : ℕ → A) (d : A) (n : ℕ) → length t ≡ n → ((k : ℕ) → k < n → get_or t k d ≡ g k) → t ≡ map g (upto n 0)
firsts t g d n e h = ext_get_or d t _ (e ∙ sym (length_map_upto g n 0)) (λ k l. h k (omega arith) ∙ sym (get_or_first g d n k (omega arith)))

-- maps of numbers one after the other
pub map_upto_append : {A : Type 0} (f : ℕ → A) (a b i j c : ℕ) → j ≡ i + a → c ≡ a + b → map f (upto a i) ++ map f (upto b j) ≡ map f (upto c i)
map_upto_append f zero b i j c p q = let s : b ≡ c = omega arith in let t : j ≡ i = omega arith in rw (s, t)
map_upto_append f (suc a) b i j c p q = let e : c ≡ suc (a + b) = omega arith in rw e (ap (λ l. f i ∷ l) (map_upto_append f a b (suc i) j (a + b) (omega arith) refl))

-- one number more
pub map_next : {A : Type 0} (f : ℕ → A) (n : ℕ) → map f (upto (n + 1) 0) ≡ map f (upto n 0) ++ (f n ∷ [])
map_next f n = sym (map_upto_append f n 1 0 n (n + 1) (omega arith) refl)

-- two maps that agree from i on give the same of n numbers
pub map_upto : {A : Type 0} (f g : ℕ → A) (n i : ℕ) → ((u : ℕ) → i ≤ u → u < i + n → f u ≡ g u) → map f (upto n i) ≡ map g (upto n i)
map_upto f g zero i h = refl
map_upto f g (suc n) i h = ap₂ ◌∷◌ (h i (omega arith) (omega arith)) (map_upto f g n (suc i) (λ u a b. h u (omega arith) (omega arith)))

-- the sum of a number for each member
abbrev pub total : (ℕ → ℕ) → List ℕ → ℕ
total f [] = 0
total f (x ∷ l) = f x + total f l

pub total_zero : (l : List ℕ) → total (λ x. 0) l ≡ 0
total_zero [] = refl
total_zero (x ∷ l) = omega (arith, total_zero l)

pub total_add : (f g : ℕ → ℕ) (l : List ℕ) → total (λ x. f x + g x) l ≡ total f l + total g l
total_add f g [] = omega arith
total_add f g (x ∷ l) = omega (arith, total_add f g l)

pub total_le : (f g : ℕ → ℕ) (l : List ℕ) → ((x : ℕ) → Memᴰ x l → f x ≤ g x) → total f l ≤ total g l
total_le f g [] h = omega arith
total_le f g (x ∷ l) h = omega (arith, h x (Memᴰ.head refl), total_le f g l (λ y m. h y (Memᴰ.tail m)))

pub total_keep : (q : ℕ → Bool) (f : ℕ → ℕ) (l : List ℕ) → total f (keep q l) ≤ total f l
total_keep q f [] = omega arith
total_keep q f (x ∷ l) = elim (split (q x)) [ inl e ↦ rw e (omega (arith, total_keep q f l)) | inr e ↦ rw e (omega (arith, total_keep q f l)) ]

-- lists one after the other: their members, and that they stand once
module _ {A : Type 0} (f : ℕ → List A) where
  pub each_in : {x : A} {v : ℕ} {vs : List ℕ} → Memᴰ v vs → Memᴰ x (f v) → Memᴰ x (each f vs)
  each_in {x} (Memᴰ.head {x = w} {xs = vs} e) m = Memᴰ.append_left (each f vs) (subst (λ u. Memᴰ x (f u)) e m)
  each_in (Memᴰ.tail {x = w} i) m = Memᴰ.append_right (f w) (each_in i m)

  pub each_out : {x : A} (vs : List ℕ) → Memᴰ x (each f vs) → (v : ℕ) × Memᴰ v vs × Memᴰ x (f v)
  each_out [] m = absurd (Memᴰ.not-nil m)
  each_out (v ∷ vs) m = ⊎_elim (λ i. (v, Memᴰ.head refl, i)) (λ i. let t = each_out vs i in (t.0, Memᴰ.tail t.1, t.2)) (Memᴰ.append_cases (f v) m)

  pub each_once : {vs : List ℕ} → Ordered ◌≢◌ vs → ((v : ℕ) → Ordered ◌≢◌ (f v)) → ((v w : ℕ) (x : A) → Memᴰ x (f v) → Memᴰ x (f w) → v ≡ w) → Ordered ◌≢◌ (each f vs)
  each_once nil own apart = nil
  each_once (cons {x = v} {l = vs} g o) own apart = append_ordered (own v) (each_once o own apart) (λ x y i j e. let t = each_out vs j in g t.0 t.1 (apart v t.0 x i (subst (λ z. Memᴰ z (f t.0)) (sym e) t.2)))

-- no member stands twice, as a test and as an order
pub distinct_once : (l : List ℕ) → distinct l ≡ true → Ordered ◌≢◌ l
distinct_once [] h = nil
distinct_once (v ∷ l) h = let b = (and-eq-true_iff (not (has v l)) (distinct l)).0 h in cons {x = v} {l = l} (λ w m e. absurd (false≢true (rw (has_in {v = v} {l = l} (Memᴰ.cast e m)) at b.0))) (distinct_once l b.1)

pub once_distinct : {l : List ℕ} → Ordered ◌≢◌ l → distinct l ≡ true
once_distinct nil = refl
once_distinct (cons {x = v} {l = l} f o) = elim (split (has v l)) [ inl h ↦ absurd (f v (has_out v l h) refl) | inr h ↦ rw (h, once_distinct o) ]

-- how many are kept of lists one after the other
pub keep_each : {A : Type 0} (q : A → Bool) (f : ℕ → List A) (vs : List ℕ) → length (keep q (each f vs)) ≡ total (λ v. length (keep q (f v))) vs
keep_each q f [] = refl
keep_each q f (v ∷ vs) = omega (arith, ap length (keep_append q (f v) (each f vs)), length-append (keep q (f v)) (keep q (each f vs)), keep_each q f vs)
