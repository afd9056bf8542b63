-- A list that is filled from the front, one store after the other. Assumes nothing.
use mathlib.Core.Path.{◌≡◌, sym, ◌∙◌, ap}
use mathlib.Core.List.{List, [], ◌∷◌, ◌++◌, append-nil}
use Prim.Native.Nat.{ℕ, ◌+◌, ◌≤◌, ◌<◌}
use native.Mathlib.Numerals.{add-one}
use lib.ListN.{length, take, set}
use lib.Seq.{take-suc-set, take_all, append_snoc}

module _ {A : Type 0} where
  -- what is stored at i moves from what is to come to what has been stored
  pub filling-more : (l rest : List A) (i : ℕ) (a : A) → i < length l → take (i + 1) (set l i a) ++ rest ≡ take i l ++ (a ∷ rest)
  filling-more l rest i a h =
      ap (λ (k : ℕ). take k (set l i a) ++ rest) (add-one i) ∙ ap (λ (x : List A). x ++ rest) (take-suc-set l i a h) ∙ append_snoc (take i l) a rest

  pub filling-all : (l v : List A) (i : ℕ) → length l ≤ i → take i l ++ [] ≡ v → l ≡ v
  filling-all l v i h e = sym (take_all i l h) ∙ sym (append-nil (take i l)) ∙ e
