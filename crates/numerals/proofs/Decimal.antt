-- Laws of decimal digits: how a number's digits come from those of its tenth, and how many there can be. Assumes nothing.
use mathlib.Core.Path.{◌≡◌, refl, sym, ap, ◌∙◌}
use mathlib.Core.Bool.{Bool, true, false}
use mathlib.Core.List.{List, [], ◌∷◌, ◌++◌}
use Prim.Native.Nat.{ℕ, zero, suc, ◌+◌, ◌-◌, ◌/◌, ◌%◌, ◌^◌, ◌≤◌, ◌<◌}
use native.Mathlib.Omega.{arith}
use native.Mathlib.Nat.{pow-suc}
use native.Mathlib.Decide.{dec_lt}
use borrow.Author.Tests.{lt-ltb, le-ltb}
use lib.ListN.{length, length-append}
use Rattle.numerals.specs.Words.{digits, decimal, padded, fixed}

digits_last : (k n : ℕ) → n < 10 → digits (suc k) n ≡ (48 + n) ∷ []
unfolding digits
digits_last k n h = ap (λ (b : Bool). elim b [ true ↦ (48 + n) ∷ [] | false ↦ digits k (n / 10) ++ ((48 + n % 10) ∷ []) ]) (lt-ltb n 10 h)

digits_more : (k n : ℕ) → 10 ≤ n → digits (suc k) n ≡ digits k (n / 10) ++ ((48 + n % 10) ∷ [])
unfolding digits
digits_more k n h = ap (λ (b : Bool). elim b [ true ↦ (48 + n) ∷ [] | false ↦ digits k (n / 10) ++ ((48 + n % 10) ∷ []) ]) (le-ltb n 10 h)

-- room for more digits than a number has changes nothing
digits-enough : (j k n : ℕ) → n < j → n < k → digits j n ≡ digits k n
digits-enough zero k n h g = absurd (omega arith)
digits-enough (suc j) zero n h g = absurd (omega arith)
digits-enough (suc j) (suc k) n h g =
    elim (dec_lt n 10) [
      | yes s ↦ digits_last j n s ∙ sym (digits_last k n s)
      | no f ↦ (let l : 10 ≤ n = omega arith in
          digits_more j n l ∙ ap (λ (w : List ℕ). w ++ ((48 + n % 10) ∷ [])) (digits-enough j k (n / 10) (omega arith) (omega arith)) ∙ sym (digits_more k n l))
    ]

-- a number below 10 is its own digit
pub decimal_digit : (n : ℕ) → n < 10 → decimal n ≡ (48 + n) ∷ []
unfolding decimal
decimal_digit n h = digits_last n n h

-- the last digit stands after the digits of the tenth
pub decimal-more : (n : ℕ) → 10 ≤ n → decimal n ≡ decimal (n / 10) ++ ((48 + n % 10) ∷ [])
unfolding decimal
decimal-more n h = digits_more n n h ∙ ap (λ (w : List ℕ). w ++ ((48 + n % 10) ∷ [])) (digits-enough n (suc (n / 10)) (n / 10) (omega arith) (omega arith))

-- a number below ten to the k has at most k digits
pub decimal-short : (k n : ℕ) → n < 10 ^ suc k → length (decimal n) ≤ suc k
decimal-short zero n h = omega (arith, ap length (decimal_digit n (omega arith)))
decimal-short (suc k) n h =
    elim (dec_lt n 10) [
      | yes s ↦ omega (arith, ap length (decimal_digit n s))
      | no f ↦ (let tenth : n / 10 < 10 ^ suc k = omega (arith, pow-suc 10 (suc k)) in
          omega (arith, decimal-short k (n / 10) tenth, ap length (decimal-more n (omega arith)), length-append (decimal (n / 10)) ((48 + n % 10) ∷ [])))
    ]

-- a number from 10 on has one digit more than its tenth
pub decimal-longer : (n : ℕ) → 10 ≤ n → length (decimal n) ≡ length (decimal (n / 10)) + 1
decimal-longer n h = ap length (decimal-more n h) ∙ length-append (decimal (n / 10)) ((48 + n % 10) ∷ [])

-- a number has a digit, one alone below 10, and two or more from 10 on
pub decimal-some : (n : ℕ) → 1 ≤ length (decimal n)
decimal-some n =
    elim (dec_lt n 10) [
      | yes s ↦ omega (arith, ap length (decimal_digit n s))
      | no f ↦ omega (arith, decimal-longer n (omega arith))
    ]

pub decimal-one : (n : ℕ) → length (decimal n) ≤ 1 → n < 10
decimal-one n h =
    elim (dec_lt n 10) [
      | yes s ↦ s
      | no f ↦ absurd (omega (arith, h, decimal-longer n (omega arith), decimal-some (n / 10)))
    ]

pub decimal-two : (n : ℕ) → 2 ≤ length (decimal n) → 10 ≤ n
decimal-two n h =
    elim (dec_lt n 10) [
      | yes s ↦ absurd (omega (arith, h, ap length (decimal_digit n s)))
      | no f ↦ omega arith
    ]

-- the last of the last k digits
pub padded-more : (k n : ℕ) → 0 < k → padded k n ≡ padded (k - 1) (n / 10) ++ ((48 + n % 10) ∷ [])
unfolding padded
padded-more zero n h = absurd (omega arith)
padded-more (suc k) n h = let z : k ≡ suc k - 1 = omega arith in ap (λ (j : ℕ). padded j (n / 10) ++ ((48 + n % 10) ∷ [])) z

-- the last digits are all of them where a number has so many
pub padded-decimal : (k n : ℕ) → k ≡ length (decimal n) → padded k n ≡ decimal n
unfolding padded
padded-decimal zero n e =
    elim (dec_lt n 10) [
      | yes s ↦ absurd (omega (arith, e, ap length (decimal_digit n s)))
      | no f ↦ absurd (omega (arith, e, decimal-longer n (omega arith)))
    ]
padded-decimal (suc k) n e =
    elim (dec_lt n 10) [
      | yes s ↦ (let one : k ≡ 0 = omega (arith, e, ap length (decimal_digit n s)) in
          let same : n % 10 ≡ n = omega arith in
          ap (λ (j : ℕ). padded j (n / 10) ++ ((48 + n % 10) ∷ [])) one ∙ ap (λ (d : ℕ). (48 + d) ∷ []) same ∙ sym (decimal_digit n s))
      | no f ↦ (let l : 10 ≤ n = omega arith in
          ap (λ (w : List ℕ). w ++ ((48 + n % 10) ∷ [])) (padded-decimal k (n / 10) (omega (arith, e, decimal-longer n l))) ∙ sym (decimal-more n l))
    ]

-- the last k digits are k
pub padded-length : (k n : ℕ) → length (padded k n) ≡ k
unfolding padded
padded-length zero n = refl
padded-length (suc k) n = omega (arith, length-append (padded k (n / 10)) ((48 + n % 10) ∷ []), padded-length k (n / 10))

-- a number with decimals has them, the point and the digits before it
pub fixed-length : (k n : ℕ) → length (fixed k n) ≡ length (decimal (n / 10 ^ k)) + 1 + k
unfolding fixed
fixed-length k n = length-append (decimal (n / 10 ^ k)) (46 ∷ padded k n) ∙ omega (arith, padded-length k n)
