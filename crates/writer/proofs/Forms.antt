-- What number the reader finds in a word that the writer writes: metres, whole metres, and NoData. Assumes nothing.
use mathlib.Core.Path.{◌≡◌, refl, sym, ap, ap₂, ◌∙◌}
use mathlib.Core.Bool.{Bool, true, false, ◌&&◌}
use mathlib.Core.List.{List, [], ◌∷◌, ◌++◌, append-nil}
use Prim.Native.Nat.{ℕ, suc, ◌+◌, ◌-◌, ◌*◌, ◌/◌, ◌%◌, ◌<◌, ◌≤◌}
use native.Mathlib.Nat.{sub-zero}
use native.Mathlib.Omega.{arith}
use borrow.Author.Tests.{le-ltb, leb-true, eq-eqb, ne_eqb}
use lib.Dec.{leb, eqb}
use lib.IntN.{ℤ, pos, negsuc, nat_abs}
use lib.ListN.{length, get_or, drop, length-drop, get_or-append, get_or-eq_default}
use Rattle.laws.proofs.Tests.{and_both}
use Rattle.text.specs.Bytes.{bytes}
use Rattle.text.specs.Quantities.{height_in, no_data_height}
use Rattle.text.specs.Words.{run}
use Rattle.text.specs.Numbers.{digit, zero, value, formed, Number, decimals, whole_and_decimals, number_at, centimetres}
use Rattle.text.proofs.Bytes.{digit-range}
use Rattle.text.proofs.Every.{every-each}
use Rattle.text.proofs.InnerRuns.{run-lower}
use Rattle.text.proofs.Pieces.{drop_past}
use Rattle.numerals.specs.Words.{decimal, padded, fixed}
use Rattle.numerals.proofs.Decimal.{decimal-short}
use Rattle.writer.specs.Words.{none, metres}
use Rattle.writer.proofs.Digits.{byte-after, run-digits, digit-of, value-digit, value-decimal, decimal-digits, decimal-some, decimal-ends, decimal-value}

-- ---- metres: centimetres with two decimals, which stand in a text s from the place b to its end

two_digits : (n : ℕ) → padded 2 n ≡ (48 + n / 10 % 10) ∷ (48 + n % 10) ∷ []
unfolding padded
two_digits n = refl

-- the whole metres
abbrev whole_of : ℕ → List ℕ
whole_of n = decimal (n / 100)

module _ (s : List ℕ) (b n : ℕ) (text : drop b s ≡ fixed 2 n) (small : n < 100000000000) where
  from-whole : drop b s ≡ whole_of n ++ (46 ∷ padded 2 n)
  unfolding fixed
  from-whole = text

  whole-ends : run digit s b 9 ≡ b + length (whole_of n)
  whole-ends =
      run-digits s (whole_of n) (46 ∷ padded 2 n) b 9 from-whole (decimal-digits (n / 100)) (decimal-short 8 (n / 100) (omega arith)) refl

  whole-value : value s (b + length (whole_of n)) b (length (whole_of n)) ≡ n / 100
  whole-value = value-decimal s (b + length (whole_of n)) b (n / 100) (46 ∷ padded 2 n) from-whole (omega arith)

  point-there : get_or s (b + length (whole_of n)) 0 ≡ 46
  point-there = byte-after s b (whole_of n) 46 (padded 2 n) from-whole

  module _ (p : ℕ) (is : p ≡ b + length (whole_of n) + 1) where
    from-point : drop p s ≡ (48 + n / 10 % 10) ∷ (48 + n % 10) ∷ []
    from-point =
        ap (λ (i : ℕ). drop i s) is
        ∙ drop_past s (b + length (whole_of n)) (46 ∷ []) (padded 2 n) (drop_past s b (whole_of n) (46 ∷ padded 2 n) from-whole)
        ∙ two_digits n

    decimals-end : run digit s p 6 ≡ p + 2
    decimals-end =
        run-digits s ((48 + n / 10 % 10) ∷ (48 + n % 10) ∷ []) [] p 6 from-point
        (ap₂ ◌&&◌ (digit-of (n / 10 % 10) (omega arith)) (ap₂ ◌&&◌ (digit-of (n % 10) (omega arith)) refl)) (omega arith) refl

    decimals-value : value s (p + 2) p 2 ≡ n % 100
    unfolding value
    decimals-value =
        value-digit s (p + 2) p ((48 + n / 10 % 10) ∷ []) (n % 10) [] (omega arith) from-point (omega arith)
        ∙ ap (λ (x : ℕ). x * 10 + n % 10) (value-digit s (p + 2) p [] (n / 10 % 10) ((48 + n % 10) ∷ []) (omega arith) from-point (omega arith))
        ∙ omega arith

    text-ends : length s ≡ p + 2
    text-ends = omega (arith, length-drop p s, ap length from-point)

    decimals-form : (minus : Bool) (size : ℕ)
        → decimals s (length s) minus size p ≡ formed (record { minus = minus; size = size + n % 100; fine = false })
    unfolding decimals
    decimals-form minus size =
        rw (
          decimals-end,
          ne_eqb (p + 2) p (λ e. omega arith),
          text-ends,
          eq-eqb (p + 2) (p + 2) refl,
          decimals-value,
          le-ltb (run zero s (p + 2) 4) (p + 2) (run-lower zero s (p + 2) 4),
        )

  whole-form : (minus : Bool) → whole_and_decimals s (length s) minus b (run digit s b 9) ≡ formed (record { minus = minus; size = n; fine = false })
  whole-form minus =
      let d = b + length (whole_of n) in
      let long : d - b ≡ length (whole_of n) = omega arith in
      let all : n / 100 * 100 + n % 100 ≡ n = omega arith in
      rw (whole-ends, ne_eqb d b (λ e. omega (arith, decimal-some (n / 100))), point-there, long, whole-value, decimals-form (d + 1) refl minus, all)

-- the first byte is a digit, and so no minus
plain : (n : ℕ) (rest : List ℕ) → eqb (get_or (decimal n ++ rest) 0 0) 45 ≡ false
plain n rest =
    let first = get_or-append (decimal n) rest 0 0 (decimal-some n) in
    let digital = every-each digit (decimal n) (decimal-digits n) 0 (decimal-some n) in
    ne_eqb (get_or (decimal n ++ rest) 0 0) 45 (λ e. omega (arith, first, (digit-range (get_or (decimal n) 0 0) digital).0))

-- what the word of so many cm says
abbrev pub saying : ℤ → Number
saying (pos n) = record { minus = false; size = n; fine = false }
saying (negsuc n) = record { minus = true; size = suc n; fine = false }

pub saying-fine : (z : ℤ) → (saying z).fine ≡ false
saying-fine (pos n) = refl
saying-fine (negsuc n) = refl

pub saying-is : (z : ℤ) → centimetres (saying z).minus (saying z).size ≡ z
saying-is (pos n) = refl
saying-is (negsuc n) = refl

pub metres-form : (z : ℤ) → nat_abs z < 100000000000 → number_at (metres z) 0 (length (metres z)) ≡ formed (saying z)
unfolding number_at metres fixed
metres-form (pos n) h = rw (plain (n / 100) (46 ∷ padded 2 n)) (whole-form (fixed 2 n) 0 n refl h false)
metres-form (negsuc n) h = whole-form (45 ∷ fixed 2 (suc n)) 1 (suc n) refl h true

-- ---- whole metres: digits only

pub decimal-form : (n : ℕ) → n < 1000000000 → number_at (decimal n) 0 (length (decimal n)) ≡ formed (saying (pos (n * 100)))
unfolding number_at
decimal-form n h =
    let w = decimal n in
    let unsigned : eqb (get_or w 0 0) 45 ≡ false = ap (λ (u : List ℕ). eqb (get_or u 0 0) 45) (sym (append-nil w)) ∙ plain n [] in
    rw (
      unsigned,
      decimal-ends n h,
      ne_eqb (length w) 0 (λ e. omega (arith, decimal-some n)),
      get_or-eq_default w 0 {n = length w} (omega arith),
      eq-eqb (length w) (length w) refl,
      sub-zero (length w),
      decimal-value n,
    )

-- ---- NoData

pub none-form : number_at none 0 (length none) ≡ formed (saying no_data_height)
unfolding number_at decimals none bytes run value
none-form = refl

-- ---- heights that are accepted

pub height-small : (z : ℤ) → height_in z ≡ true → nat_abs z ≤ 900000
height-small (pos n) e = omega (arith, leb-true n 900000 e)
height-small (negsuc n) e = omega (arith, leb-true n 49999 (and_both (leb n 49999) true e).0)
