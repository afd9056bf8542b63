-- Laws of writing digits from the last one on, for the loops that do so: what is left to write leads to what has to stand there. Assumes nothing.
use mathlib.Core.Path.{◌≡◌, refl, sym, ap, ◌∙◌}
use mathlib.Core.List.{List, [], ◌∷◌, ◌++◌}
use Prim.Native.Nat.{ℕ, ◌+◌, ◌-◌, ◌/◌, ◌%◌, ◌≤◌, ◌<◌}
use native.Mathlib.Omega.{arith}
use lib.ListN.{length, set, length-set, length-append}
use Rattle.numerals.specs.Words.{decimal, padded}
use Rattle.numerals.specs.Writing.{overlay}
use Rattle.numerals.proofs.Decimal.{decimal_digit, decimal-more, decimal-longer, decimal-short, decimal-one, decimal-two, padded-more}
use Rattle.numerals.proofs.Writing.{overlay-back}

-- ---- counting the digits of n: `count` of them are counted, and those of `left` come on top but for one

pub record Counting (n count left : ℕ) : Type 0 where
  pub all : count + length (decimal left) ≡ length (decimal n) + 1
  pub most : length (decimal n) ≤ 20

module _ (n : ℕ) where
  pub counting-none : n < 18446744073709551616 → Counting n 1 n
  counting-none h = record { all = omega arith; most = decimal-short 19 n (omega arith) }

  module _ (count left : ℕ) (c : Counting n count left) where
    pub counting-few : 10 ≤ left → count ≤ 20
    counting-few h = omega (arith, c.all, c.most, decimal-longer left h)

    pub counting_more : 10 ≤ left → Counting n (count + 1) (left / 10)
    counting_more h = record { all = omega (arith, c.all, decimal-longer left h); most = c.most }

    pub counting-all : left < 10 → count ≡ length (decimal n)
    counting-all h = omega (arith, c.all, ap length (decimal_digit left h))

-- ---- writing the digits of n: those of `left`, which end before the place at + i, are still to be written

pub record Back (room : List ℕ) (at : ℕ) (word : List ℕ) (now : List ℕ) (i : ℕ) (left : List ℕ) : Type 0 where
  pub lays : overlay now at left ≡ overlay room at word
  pub ends : i ≡ length left
  pub long : length now ≡ length room

module _ (room : List ℕ) (at : ℕ) (word : List ℕ) where
  pub back_none : (i : ℕ) → i ≡ length word → Back room at word room i word
  back_none i e = record { lays = refl; ends = e; long = refl }

  module _ {now : List ℕ} {i : ℕ} {left : List ℕ} (b : Back room at word now i left) where
    -- the last byte of what is left is laid
    pub back_more : (rest : List ℕ) (x : ℕ) {then : List ℕ} → left ≡ rest ++ (x ∷ []) → then ≡ set now (at + (i - 1)) x → Back room at word then (i - 1) rest
    back_more rest x {then} e l =
        let z : i - 1 ≡ length rest = omega (arith, b.ends, ap length e, length-append rest (x ∷ [])) in
        record {
          lays =
              ap (λ (r : List ℕ). overlay r at rest) (l ∙ ap (λ (k : ℕ). set now (at + k) x) z)
              ∙ overlay-back now at rest x ∙ ap (overlay now at) (sym e) ∙ b.lays;
          ends = z;
          long = ap length l ∙ length-set now (at + (i - 1)) x ∙ b.long;
        }

-- a decimal digit of `left` less
module _ (room : List ℕ) (at n : ℕ) {now : List ℕ} (i left : ℕ) (b : Back room at (decimal n) now i (decimal left)) where
  pub natural-tens : 1 < i → 10 ≤ left
  natural-tens h = decimal-two left (omega (arith, h, b.ends))

  pub natural-more : {then : List ℕ} → 10 ≤ left → then ≡ set now (at + (i - 1)) (48 + left % 10)
      → Back room at (decimal n) then (i - 1) (decimal (left / 10))
  natural-more h l = back_more room at (decimal n) b (decimal (left / 10)) (48 + left % 10) (decimal-more left h) l

  -- the first digit is left, and is laid last
  pub natural-last : i ≤ 1 → left < 10
  natural-last h = decimal-one left (omega (arith, h, b.ends))

  pub natural-all : {then : List ℕ} → left < 10 → then ≡ set now at (48 + left) → then ≡ overlay room at (decimal n)
  natural-all h l = l ∙ ap (overlay now at) (sym (decimal_digit left h)) ∙ b.lays

-- the same with digits that may be zeros
module _ (room : List ℕ) (at n count : ℕ) {now : List ℕ} (i left : ℕ) (b : Back room at (padded count n) now i (padded i left)) where
  pub padded-back : {then : List ℕ} → 0 < i → then ≡ set now (at + (i - 1)) (48 + left % 10)
      → Back room at (padded count n) then (i - 1) (padded (i - 1) (left / 10))
  padded-back h l = back_more room at (padded count n) b (padded (i - 1) (left / 10)) (48 + left % 10) (padded-more i left h) l

  pub padded-all : i ≤ 0 → now ≡ overlay room at (padded count n)
  unfolding padded
  padded-all h = let z : i ≡ 0 = omega arith in ap (λ (j : ℕ). overlay now at (padded j left)) (sym z) ∙ b.lays
