-- The readers of words and numbers, by the answers of the functions that read them. Assumes nothing.
use mathlib.Core.Path.{◌≡◌, refl, sym, ap, ◌∙◌, subst}
use mathlib.Core.Bool.{Bool, true, false, cond, ◌&&◌}
use mathlib.Core.List.{List}
use Prim.Native.Nat.{ℕ, ◌+◌, ◌≤◌, ◌<◌}
use native.Mathlib.Omega.{arith}
use borrow.Author.Tests.{leb-true, leb-false, le-leb, lt-leb, eq-eqb, ne_eqb, eqb-true}
use lib.ListN.{length}
use lib.Dec.{eqb, leb}
use Rattle.laws.proofs.Tests.{and_both}
use Rattle.std.proofs.Common.{Some, Result, Ok, Err, IfOk}
use Rattle.text.specs.Reader.{got, refused}
use Rattle.text.specs.Words.{word_start, word_end, word}
use Rattle.text.specs.Numbers.{malformed, number_at, count_form_at, comma_decimal, read, Placed, Number, number, measure, count, centimetres}
use Rattle.text.specs.Ranges.{size_accepted}
use Rattle.text.specs.Faults.{number_of}
use Rattle.text.specs.declared.Refusal.{Refusal}
use Rattle.text.specs.declared.numbers.Formed.{Formed}
use Rattle.text.specs.declared.numbers.Malformed.{Malformed}
use Rattle.text.specs.InnerWords.{word_of}
use Rattle.text.specs.InnerNumbers.{form_of, Parsed, DigitsFrom, placed_of}
use Rattle.text.proofs.Ends.{first-solid, word-found, word_none, end-byte, end-digits, end-lower, end-upper}
use Rattle.text.proofs.InnerTested.{size_none, size-some}
use Rattle.text.proofs.InnerCommas.{count-no-comma, comma-place}

pub word-step : (s : List ℕ) (at a e : ℕ) → a ≡ word_start s at → e ≡ word_end s a → a < length s
    → (word_of s (Some (record { value = record { start = a; end = e }; rest = record { at = e } })) ≡ word s at) × ((a < e) × (e ≤ length s))
word-step s at a e p q h = (
  rw q (sym (word-found s at a p h)),
  (omega (arith, q, end-byte s a h (first-solid s at a p h), end-lower s (a + 1)), omega (arith, q, end-upper s a (omega arith))),
)

-- ---- the next word as a number

module _ (s : List ℕ) (at a : ℕ) (p : a ≡ word_start s at) where
  pub number-none : length s ≤ a → refused 9 (length s) ≡ number s at
  unfolding number
  number-none h = rw (word_none s at a p h)

  module _ (h : a < length s) (r : Result Formed Malformed) (m : Parsed (word_end s a) (number_at s a (word_end s a)) r) where
    module _ (x : Malformed) (e : r ≡ Err x) where
      abbrev b : ℕ
      b = x.at

      broken : number_at s a (word_end s a) ≡ malformed b
      broken = sym m.is ∙ ap form_of e

      number-comma : true ≡ comma_decimal number_at s a (word_end s a) → refused 12 b ≡ number s at
      unfolding number read
      number-comma t = rw (word-found s at a p h, broken, ← t, comma-place s a _ h (first-solid s at a p h) refl _ refl b broken t)

      number-malformed : false ≡ comma_decimal number_at s a (word_end s a) → refused 7 b ≡ number s at
      unfolding number read
      number-malformed t = rw (word-found s at a p h, broken, ← t)

      -- the refusal by its number and place
      pub number-bad : (f : Refusal) → (number_of f.fault ≡ cond (true && comma_decimal number_at s a (word_end s a)) 12 7) × (f.place ≡ b)
          → refused (number_of f.fault) f.place ≡ number s at
      number-bad f q = rw (q.0, q.1) (go (comma_decimal number_at s a (word_end s a)) refl)
        where
          go : (t : Bool) → t ≡ comma_decimal number_at s a (word_end s a) → refused (cond t 12 7) b ≡ number s at
          go true z = number-comma z
          go false z = number-malformed z

    pub number-on : (x : Formed) → r ≡ Ok x
        → (got (placed_of (record { start = a; minus = x.minus; size = x.size; fine = x.fine })) x.end ≡ number s at) × (x.size < 200000000000)
    unfolding number read
    number-on x e =
        let q = subst (λ (y : Result Formed Malformed). IfOk y (λ z. (z.end ≡ word_end s a) × (z.size < 200000000000))) e m.ends in
        (rw (word-found s at a p h, sym m.is ∙ ap form_of e, q.0), q.1)

-- ---- the same in whole cm

module _ (s : List ℕ) (at : ℕ) where
  pub measure-none : (m p : ℕ) → number s at ≡ refused m p → refused m p ≡ measure s at
  unfolding measure
  measure-none m p e = rw e

  module _ (x : Placed Number) (j : ℕ) (e : number s at ≡ got x j) where
    pub measure-fine : x.is.fine ≡ true → refused 8 x.place ≡ measure s at
    unfolding measure
    measure-fine t = rw (e, t)

    pub measure-on : x.is.fine ≡ false → got (record { place = x.place; is = centimetres x.is.minus x.is.size }) j ≡ measure s at
    unfolding measure
    measure-on t = rw (e, t)

-- ---- the next word as a count

module _ (s : List ℕ) (at a : ℕ) (p : a ≡ word_start s at) where
  pub count_none : length s ≤ a → refused 9 (length s) ≡ count s at
  unfolding count
  count_none h = rw (word_none s at a p h)

  module _ (h : a < length s) (v d : ℕ) (w : DigitsFrom s a 9 v d) where
    no-comma : comma_decimal count_form_at s a (word_end s a) ≡ false
    no-comma = count-no-comma s a (word_end s a) (end-lower s a)

    pub count-empty : d ≡ a → refused 7 d ≡ count s at
    unfolding count read count_form_at
    count-empty z = rw (word-found s at a p h, no-comma, ← w.ends, eq-eqb d a z)

    module _ (some : d ≡ a → ⊥) where
      e-is : word_end s a ≡ word_end s d
      e-is = end-digits s a 9 d (omega arith) w.ends

      pub count-off : eqb d (word_end s d) ≡ false → refused 7 d ≡ count s at
      unfolding count read count_form_at
      count-off t = rw (word-found s at a p h, no-comma, ← w.ends, ne_eqb d a some, e-is, t)

      module _ (t : eqb d (word_end s d) ≡ true) where
        pub count-size : size_accepted v ≡ false → refused 1 a ≡ count s at
        unfolding count read count_form_at size_accepted
        count-size l = rw (word-found s at a p h, ← w.ends, ne_eqb d a some, e-is, t, ← w.is, l)

        pub count_low : v < 1 → refused 1 a ≡ count s at
        count_low l = count-size (sym (size_none v l))

        pub count-high : 1 ≤ v → 1024 < v → refused 1 a ≡ count s at
        count-high k l = count-size (sym (size-some v k) ∙ lt-leb v 1024 l)

        pub count-good : size_accepted v ≡ true → got v d ≡ count s at
        unfolding count read count_form_at size_accepted
        count-good l = rw (word-found s at a p h, ← w.ends, ne_eqb d a some, e-is, t, ← w.is, l) (ap (got v) (eqb-true d (word_end s d) t))

        pub count-on : 1 ≤ v → v ≤ 1024 → got v d ≡ count s at
        count-on k l = count-good (sym (size-some v k) ∙ le-leb v 1024 l)

pub size-many : (v : ℕ) → size_accepted v ≡ false → 1 ≤ v → 1024 < v
size-many v h k = leb-false v 1024 (size-some v k ∙ h)

pub size-few : (v : ℕ) → size_accepted v ≡ true → v ≤ 1024
unfolding size_accepted
size-few v h = leb-true v 1024 (and_both (leb 1 v) (leb v 1024) h).1

-- ---- the laws by which the check finds the steps of the reader of a measure

pub ruleset of_measure = (measure-none, measure-fine, measure-on)
