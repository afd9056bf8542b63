-- Laws of lists by index: elements and length of a table, what a store and a pointwise order do to the sum, and agreement with a function. Assumes nothing.
use mathlib.Core.Path.{◌≡◌, refl, sym, ap, subst, ◌∙◌}
use mathlib.Core.List.{List, [], ◌∷◌, map}
use Prim.Native.Nat.{ℕ, zero, suc, ◌+◌, ◌≤◌, ◌<◌, zero-le}
use native.Mathlib.Nat.{le_of_suc-le-suc, not-suc-le-zero}
use native.Mathlib.Omega.{arith}
use native.Mathlib.Decide.{dec_lt, ℕ_discrete}
use lib.ListN.{length, get_or, set, replicate, length-map, length-replicate, get_or-replicate, get_or-eq_default}
use lib.Seq.{ext_get_or, get_or-set_same, get_or-set_other}
use Rattle.laws.specs.Lists.{from, tab, total, Agrees}

-- ---- tables

length_from_lem : {A : Type 0} (f : ℕ → A) (i n : ℕ) → length (from f i n) ≡ n
unfolding from
length_from_lem f i zero = refl
length_from_lem f i (suc n) = ap suc (length_from_lem f (suc i) n)

pub length-tab : {A : Type 0} (n : ℕ) (f : ℕ → A) → length (tab n f) ≡ n
unfolding tab
length-tab n f = length_from_lem f 0 n

get_or-from : {A : Type 0} (f : ℕ → A) (d : A) (i n k : ℕ) → k < n → get_or (from f i n) k d ≡ f (i + k)
unfolding from
get_or-from f d i zero k h = absurd (not-suc-le-zero h)
get_or-from f d i (suc n) zero h = ap f (omega arith)
get_or-from f d i (suc n) (suc k) h = get_or-from f d (suc i) n k (le_of_suc-le-suc h) ∙ ap f (omega arith)

pub get_or-tab : {A : Type 0} (n : ℕ) (f : ℕ → A) (d : A) (i : ℕ) → i < n → get_or (tab n f) i d ≡ f i
unfolding tab
get_or-tab n f d i h = get_or-from f d 0 n i h ∙ ap f (omega arith)

pub get_or-tab-past : {A : Type 0} (n : ℕ) (f : ℕ → A) (d : A) (i : ℕ) → n ≤ i → get_or (tab n f) i d ≡ d
get_or-tab-past n f d i h = get_or-eq_default (tab n f) d {n = i} (omega (arith, length-tab n f))

-- two functions that agree below n have one table
pub tab-ext : {A : Type 0} (n : ℕ) (f g : ℕ → A) (d : A) → ((i : ℕ) → i < n → f i ≡ g i) → tab n f ≡ tab n g
tab-ext n f g d h =
    ext_get_or d (tab n f) (tab n g) (length-tab n f ∙ sym (length-tab n g))
    (λ i l. let q : i < n = omega (arith, length-tab n f) in get_or-tab n f d i q ∙ h i q ∙ sym (get_or-tab n g d i q))

-- ---- elements

-- an element above 0 lies inside the list
pub in_list : (l : List ℕ) (x : ℕ) → 0 < get_or l x 0 → x < length l
in_list l x h = elim (dec_lt x (length l)) [ yes lt ↦ lt | no f ↦ absurd (omega (arith, get_or-eq_default l 0 {n = x} (omega arith))) ]

-- inside the list the default does not matter
pub get_or_any : {A : Type 0} (l : List A) (x : ℕ) (d e : A) → x < length l → get_or l x d ≡ get_or l x e
get_or_any [] x d e h = absurd (not-suc-le-zero h)
get_or_any (a ∷ l) zero d e h = refl
get_or_any (a ∷ l) (suc x) d e h = get_or_any l x d e (le_of_suc-le-suc h)

pub get_or-map-in : {A B : Type 0} (f : A → B) (l : List A) (x : ℕ) (a : A) (b : B) → x < length l → get_or (map f l) x b ≡ f (get_or l x a)
get_or-map-in f [] x a b h = absurd (not-suc-le-zero h)
get_or-map-in f (z ∷ l) zero a b h = refl
get_or-map-in f (z ∷ l) (suc x) a b h = get_or-map-in f l x a b (le_of_suc-le-suc h)

-- ---- the sum

pub total-set : (l : List ℕ) (i v : ℕ) → i < length l → total (set l i v) + get_or l i 0 ≡ total l + v
unfolding total
total-set [] i v h = absurd (not-suc-le-zero h)
total-set (x ∷ l) zero v h = omega arith
total-set (x ∷ l) (suc i) v h = omega (arith, total-set l i v (le_of_suc-le-suc h))

pub total-le : (m l : List ℕ) → length m ≡ length l → ((i : ℕ) → get_or m i 0 ≤ get_or l i 0) → total m ≤ total l
unfolding total
total-le [] l e h = omega arith
total-le (a ∷ m) [] e h = absurd (omega arith)
total-le (a ∷ m) (b ∷ l) e h = omega (arith, h 0, total-le m l (omega arith) (λ i. h (suc i)))

-- a list that is nowhere above another, with a sum that is not below the other's, is nowhere below it
pub total-same : (m l : List ℕ) → length m ≡ length l → ((i : ℕ) → get_or m i 0 ≤ get_or l i 0) → total l ≤ total m → (i : ℕ) → get_or l i 0 ≤ get_or m i 0
unfolding total
total-same [] [] e h t i = zero-le
total-same [] (b ∷ l) e h t i = absurd (omega arith)
total-same (a ∷ m) [] e h t i = zero-le
total-same (a ∷ m) (b ∷ l) e h t zero = omega (arith, total-le m l (omega arith) (λ i. h (suc i)))
total-same (a ∷ m) (b ∷ l) e h t (suc i) = total-same m l (omega arith) (λ j. h (suc j)) (omega (arith, h 0)) i

-- ---- agreement with a function

module _ {A : Type 0} (f : ℕ → A) (d : A) where
  pub agrees-none : (l : List A) → Agrees f d l 0
  agrees-none l j h = absurd (omega arith)

  pub agrees-more : (l : List A) (i : ℕ) (a : A) → i < length l → Agrees f d l i → a ≡ f i → Agrees f d (set l i a) (i + 1)
  agrees-more l i a h s e j lt =
      elim (ℕ_discrete j i) [
        | yes q ↦ subst (λ (k : ℕ). get_or (set l i a) k d ≡ f k) (sym q) (get_or-set_same l i a d h ∙ e)
        | no n ↦ get_or-set_other l i j a d n ∙ s j (omega arith)
      ]

  pub agrees-tab : (l : List A) (n : ℕ) → length l ≡ n → Agrees f d l n → l ≡ tab n f
  agrees-tab l n e s = ext_get_or d l (tab n f) (e ∙ sym (length-tab n f)) (λ i h. s i (omega arith) ∙ sym (get_or-tab n f d i (omega arith)))

pub agrees-map : {A B : Type 0} (f : A → B) (m : List A) (l : List B) (a : A) (b : B) → length l ≡ length m → Agrees (λ (i : ℕ). f (get_or m i a)) b l (length m) → l ≡ map f m
agrees-map f m l a b e s = ext_get_or b l (map f m) (e ∙ sym (length-map m f)) (λ i h. s i (omega arith) ∙ sym (get_or-map-in f m i a b (omega arith)))

-- a list with one value throughout
pub agrees-replicate : {A : Type 0} (a d : A) (l : List A) (n : ℕ) → length l ≡ n → Agrees (λ (i : ℕ). a) d l n → l ≡ replicate n a
agrees-replicate a d l n e s = ext_get_or d l (replicate n a) (e ∙ sym (length-replicate n a)) (λ i h. s i (omega arith) ∙ sym (get_or-replicate n i a d (omega arith)))
