-- RULES 2.2: where the corner words of a header that is accepted stand, there stands a right number. Assumes nothing.
use mathlib.Core.Path.{◌≡◌, refl, sym, subst}
use mathlib.Core.List.{List}
use Prim.Native.Nat.{ℕ, ◌+◌, ◌-◌, ◌<◌}
use native.Mathlib.Omega.{arith}
use Rattle.text.specs.Bytes.{bytes}
use Rattle.text.specs.Reader.{Step, got, refused, Reader, after, give, here, ◌>>=◌}
use Rattle.text.specs.Words.{word_start, word_end}
use Rattle.text.specs.Numbers.{Number, Placed, number}
use Rattle.text.specs.Right.{NumberIn, CornersIn, Neither}
use Rattle.text.specs.Headers.{Head, name, corner, side, field, no_data, extent, corners, side_and_no_data, head, header}
use Rattle.text.specs.Answers.{header_outcome, header_answer, corners_outcome, corners_answer}
use Rattle.text.proofs.Ends.{end-lower, end-upper}
use Rattle.text.proofs.Carried.{Has, Keeps, keeps-any, keeps-give, keeps_then}
use Rattle.text.proofs.Right.{NextWord, number-next, number-neither}
use Rattle.text.proofs.Calls.{header-some}

module _ (s : List ℕ) where
  -- a reader that gives what has P
  abbrev Gives : {A : Type 0} → (A → Type 0) → Reader A → Type 0
  Gives P r = Keeps s P (λ (n p : ℕ). Unit) r

  corner-in : Gives (NumberIn s) corner
  unfolding corner
  corner-in = record { keeps = λ i. go i (number s i) refl (number-next s i) }
    where
      go : (i : ℕ) (t : Step (Placed Number)) → number s i ≡ t → NextWord s i t
          → Has (NumberIn s) (λ (n p : ℕ). Unit) (after t (λ x. here >>= (λ e. give (record { first = x.place; length = e - x.place }))) s)
      go i (refused n p) q w = tt
      go i (got x e) q w =
          let a = word_start s i in
          let z : a + (e - a) ≡ word_end s a = omega (arith, w.2, end-lower s a) in
          record {
            within = omega (arith, w.1, z, end-upper s a (omega (arith, w.0)));
            right = rw (w.1, z) (number-neither s i w.0 (subst Neither (sym q) tt));
          }

  field_in : {A : Type 0} {P : A → Type 0} (n : List ℕ) {r : Reader A} → Gives P r → Gives P (field n r)
  unfolding field
  field_in n g = keeps_then (keeps-any (name n)) (λ u v. g)

  corners-in : Gives (CornersIn s) corners
  unfolding corners
  corners-in =
      keeps_then (field_in (bytes "xllcorner") corner-in) (λ x u.
      keeps_then (field_in (bytes "yllcorner") corner-in) (λ y v. keeps-give (record { x = u; y = v })))

  head_in : Gives (λ (h : Head). CornersIn s h.corners) head
  unfolding head side_and_no_data
  head_in =
      keeps_then (keeps-any extent) (λ e o. keeps_then corners-in (λ c u.
      keeps_then (keeps-any (field (bytes "cellsize") side)) (λ m v. keeps_then (keeps-any no_data) (λ n w. keeps-give u))))

  -- each corner of a header that is accepted stands in the text, and is a right number
  pub corners-right : (header_answer s).number ≡ 0 → CornersIn s (corners_answer s)
  unfolding header
  corners-right e = go (head s 0) (head_in.keeps 0) (header-some s) e
    where
      go : (t : Step Head) → Has (λ (h : Head). CornersIn s h.corners) (λ (n p : ℕ). Unit) t
          → ((n p : ℕ) → after t (λ h. give h.header) s ≡ refused n p → 0 < n)
          → (header_outcome (after t (λ h. give h.header) s)).number ≡ 0 → CornersIn s (corners_outcome t)
      go (got h i) c f e = c
      go (refused n p) c f e = absurd (omega (arith, f n p refl))
