-- Each fault has its own number, and each number of RULES 3.1 its fault. Assumes nothing.
use mathlib.Core.Path.{◌≡◌, refl, sym, ap, ◌∙◌}
use mathlib.Core.Bool.{Bool, true, false, cond}
use Prim.Native.Nat.{ℕ, ◌≤◌}
use native.Mathlib.Omega.{arith}
use borrow.Author.Tests.{eqb-true, eqb-false}
use lib.Dec.{eqb}
use Rattle.text.specs.Faults.{number_of, fault_of}
use Rattle.text.specs.declared.faults.Fault.{Fault}
use Rattle.text.specs.declared.faults.Fault.TheVariants.{Size, Length, Side, Setting, Height, Name, Malformed, Fine, Ended, Trailing, Large, Comma, Room, FloatBytes, NotFinite, Overflow, Direction, Ring, Mark}

-- the fault of a fault's number
pub back-fault : (f : Fault) → fault_of (number_of f) ≡ f
unfolding fault_of
back-fault Size = refl
back-fault Length = refl
back-fault Side = refl
back-fault Setting = refl
back-fault Height = refl
back-fault Name = refl
back-fault Malformed = refl
back-fault Fine = refl
back-fault Ended = refl
back-fault Trailing = refl
back-fault Large = refl
back-fault Comma = refl
back-fault Room = refl
back-fault FloatBytes = refl
back-fault NotFinite = refl
back-fault Overflow = refl
back-fault Direction = refl
back-fault Ring = refl
back-fault Mark = refl

-- no fault has the number 0
pub number-some : (f : Fault) → number_of f ≡ 0 → ⊥
unfolding fault_of
number-some f e = let mark : Mark ≡ f = sym (ap fault_of e) ∙ back-fault f in omega (arith, ap number_of mark, e)

-- a test for the number k, and the tests that follow it
row : (n k : ℕ) (f g : Fault) → number_of f ≡ k → ((n ≡ k → ⊥) → number_of g ≡ n) → number_of (cond (eqb n k) f g) ≡ n
row n k f g e h = go (eqb n k) refl
  where
    go : (b : Bool) → eqb n k ≡ b → number_of (cond b f g) ≡ n
    go true q = omega (arith, e, eqb-true n k q)
    go false q = h (eqb-false n k q)

-- the number of a number's fault
pub back-number : (n : ℕ) → 1 ≤ n → n ≤ 19 → number_of (fault_of n) ≡ n
unfolding fault_of
back-number n l u =
    row n 1 Size _ refl (λ a.
    row n 2 Length _ refl (λ b.
    row n 3 Side _ refl (λ c.
    row n 4 Setting _ refl (λ d.
    row n 5 Height _ refl (λ e.
    row n 6 Name _ refl (λ f.
    row n 7 Malformed _ refl (λ g.
    row n 8 Fine _ refl (λ h.
    row n 9 Ended _ refl (λ i.
    row n 10 Trailing _ refl (λ j.
    row n 11 Large _ refl (λ k.
    row n 12 Comma _ refl (λ m.
    row n 13 Room _ refl (λ o.
    row n 14 FloatBytes _ refl (λ p.
    row n 15 NotFinite _ refl (λ q.
    row n 16 Overflow _ refl (λ r.
    row n 17 Direction _ refl (λ s.
    row n 18 Ring Mark refl (λ t. omega arith))))))))))))))))))
