-- A search for the numbers of which something fails. Assumes nothing.
use Rattle.std.specs.Prelude.{◌≡◌, ℕ, ◌+◌, ◌≤◌, ◌<◌}

-- a count n of the numbers from a on, below b, of which P fails: if it is 0, P holds of each
pub record Failing (P : ℕ → Type 0) (a b n : ℕ) : Type 0 where
  pub few : a + n ≤ b
  pub all : n ≡ 0 → (x : ℕ) → a ≤ x → x < b → P x
