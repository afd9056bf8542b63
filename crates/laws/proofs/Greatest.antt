-- Laws of the greatest number up to a limit that passes a test, and of the search for it by halves. Assumes nothing.
use mathlib.Core.Path.{◌≡◌, refl, sym, ap, ◌∙◌}
use mathlib.Core.Bool.{Bool, true, false, cond, true≢false}
use Prim.Native.Nat.{ℕ, zero, suc, ◌+◌, ◌-◌, ◌/◌, ◌≤◌, ◌<◌}
use native.Mathlib.Omega.{arith}
use native.Mathlib.Decide.{ℕ_discrete}
use Rattle.laws.specs.Greatest.{greatest}

-- a number that passes, with none above it that does
pub greatest-is : (p : ℕ → Bool) (n t : ℕ) → t ≤ n → (0 < t → p t ≡ true) → ((u : ℕ) → t < u → u ≤ n → p u ≡ false) → greatest p n ≡ t
unfolding greatest
greatest-is p zero t l h none = omega arith
greatest-is p (suc n) t l h none =
    go (p (suc n)) refl (ℕ_discrete t (suc n)) (λ d. greatest-is p n t d h (λ u a b. none u a (omega arith)))
  where
    go : (b : Bool) → p (suc n) ≡ b → Dec (t ≡ suc n) → (t ≤ n → greatest p n ≡ t) → cond b (suc n) (greatest p n) ≡ t
    go true e (yes d) rest = sym d
    go true e (no d) rest = absurd (true≢false (sym e ∙ none (suc n) (omega arith) (omega arith)))
    go false e (yes d) rest = absurd (true≢false (sym (h (omega arith)) ∙ ap p d ∙ e))
    go false e (no d) rest = rest (omega arith)

pub greatest-within : (p : ℕ → Bool) (n : ℕ) → greatest p n ≤ n
unfolding greatest
greatest-within p zero = omega arith
greatest-within p (suc n) = go (p (suc n)) (greatest-within p n)
  where
    go : (b : Bool) → greatest p n ≤ n → cond b (suc n) (greatest p n) ≤ suc n
    go true h = omega arith
    go false h = omega arith

pub greatest-passes : (p : ℕ → Bool) (n : ℕ) → 0 < greatest p n → p (greatest p n) ≡ true
unfolding greatest
greatest-passes p zero h = absurd (omega arith)
greatest-passes p (suc n) h = go (p (suc n)) refl (greatest-passes p n) h
  where
    go : (b : Bool) → p (suc n) ≡ b → (0 < greatest p n → p (greatest p n) ≡ true) → 0 < cond b (suc n) (greatest p n) → p (cond b (suc n) (greatest p n)) ≡ true
    go true e rest l = e
    go false e rest l = rest l

pub greatest-above : (p : ℕ → Bool) (n u : ℕ) → greatest p n < u → u ≤ n → p u ≡ false
unfolding greatest
greatest-above p zero u h l = absurd (omega arith)
greatest-above p (suc n) u h l = go (p (suc n)) refl (ℕ_discrete u (suc n)) (λ a b. greatest-above p n u a b) h
  where
    go : (b : Bool) → p (suc n) ≡ b → Dec (u ≡ suc n) → (greatest p n < u → u ≤ n → p u ≡ false) → cond b (suc n) (greatest p n) < u → p u ≡ false
    go true e d rest a = absurd (omega arith)
    go false e (yes d) rest a = ap p d ∙ e
    go false e (no d) rest a = rest a (omega arith)

-- ---- the search by halves, of a test that no number passes above one that fails

-- where a number passes, each smaller one does
abbrev pub Falling : (ℕ → Bool) → ℕ → Type 0
Falling p n = (u v : ℕ) → 0 < u → u ≤ v → v ≤ n → p v ≡ true → p u ≡ true

-- the greatest is one of the `left` numbers from `at` on
pub record Among (p : ℕ → Bool) (n at left : ℕ) : Type 0 where
  pub some : 0 < left
  pub within : at + left ≤ n + 1
  pub low : 0 < at → p at ≡ true
  pub high : (v : ℕ) → at + left ≤ v → v ≤ n → p v ≡ false

module _ {p : ℕ → Bool} {n : ℕ} where
  pub among-all : Among p n 0 (n + 1)
  among-all = record { some = omega arith; within = omega arith; low = λ h. absurd (omega arith); high = λ v h l. absurd (omega arith) }

  pub among-half : {at left : ℕ} (r : ℕ) → Falling p n → Among p n at left → 1 < left → r ≡ cond (p (at + left / 2)) (at + left / 2) at → Among p n r (left - left / 2)
  among-half {at} {left} r falling a more e = go (p (at + left / 2)) refl e
    where
      refuted : (v : ℕ) → p (at + left / 2) ≡ false → at + (left - left / 2) ≤ v → v ≤ n → (b : Bool) → p v ≡ b → p v ≡ false
      refuted v f h l true t = absurd (true≢false (sym (falling (at + left / 2) v (omega arith) (omega arith) l t) ∙ f))
      refuted v f h l false t = t

      go : (b : Bool) → p (at + left / 2) ≡ b → r ≡ cond b (at + left / 2) at → Among p n r (left - left / 2)
      go true t e = record { some = omega arith; within = omega (arith, a.within); low = λ h. ap p e ∙ t; high = λ v h l. a.high v (omega arith) l }
      go false t e = record {
        some = omega arith;
        within = omega (arith, a.within);
        low = λ h. ap p e ∙ a.low (omega arith);
        high = λ v h l. refuted v t (omega arith) l (p v) refl;
      }

  pub among_one : {at left : ℕ} → Among p n at left → left ≤ 1 → greatest p n ≡ at
  among_one {at} {left} a l = greatest-is p n at (omega (arith, a.within, a.some)) a.low (λ u h k. a.high u (omega (arith, a.some)) k)
