-- Walks along the pointing, and rings: cells from which a walk comes back. Assumes nothing.
use Rattle.std.specs.Prelude.{◌≡◌, ℕ, zero, suc, ◌<◌}

-- where m steps from x lead
unfoldable pub walk_to : (ℕ → ℕ) → ℕ → ℕ → ℕ
walk_to to zero x = x
walk_to to (suc m) x = to (walk_to to m x)

-- some steps, one or more and none of them off the n cells, lead from x back to x
pub record OnRing (n : ℕ) (to : ℕ → ℕ) (x : ℕ) : Type 0 where
  pub steps : ℕ
  pub some : 0 < steps
  pub inside : (i : ℕ) → i < steps → walk_to to i x < n
  pub back : walk_to to steps x ≡ x
