-- Laws of a search: it starts empty, counts one number more, and goes on where another ended. Assumes nothing.
use mathlib.Core.Path.{◌≡◌, subst}
use Prim.Native.Nat.{ℕ, ◌+◌, ◌≤◌}
use native.Mathlib.Omega.{arith}
use native.Mathlib.Decide.{dec_lt}
use Rattle.laws.specs.Search.{Failing}

pub failing-none : (P : ℕ → Type 0) (a : ℕ) → Failing P a a 0
failing-none P a = record { few = omega arith; all = (λ e x le lt. absurd (omega arith)) }

pub failing-one : (P : ℕ → Type 0) (b m : ℕ) → m ≤ 1 → (m ≡ 0 → P b) → Failing P b (b + 1) m
failing-one P b m h s = record { few = omega arith; all = (λ e x le lt. let q : b ≡ x = omega arith in subst P q (s e)) }

pub failing-join : {P : ℕ → Type 0} {a b c n m : ℕ} → Failing P a b n → Failing P b c m → Failing P a c (n + m)
failing-join {b = b} s t =
    record {
      few = omega (arith, s.few, t.few);
      all = (λ e x le lt. elim (dec_lt x b) [ yes h ↦ s.all (omega arith) x le h | no f ↦ t.all (omega arith) x (omega arith) lt ]);
    }
