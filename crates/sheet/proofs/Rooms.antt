-- Laws for a program that lends a room of 327,680 bytes to the call: the sheet is a part of the room. Assumes nothing.
use mathlib.Core.Path.{◌≡◌, sym, subst, ◌∙◌}
use mathlib.Core.List.{List}
use Prim.Native.Nat.{ℕ, ◌≤◌}
use lib.ListN.{length, take}
use lib.Seq.{length-take-le}

-- what stood in the room before, and what stands there with the sheet of r bytes
module _ (before room : List ℕ) {r : ℕ} (long : 327680 ≡ length before) (kept : length room ≡ length before) (fits : r ≤ 327680) where
  pub in-room : r ≤ length room
  in-room = subst (λ (n : ℕ). r ≤ n) (long ∙ sym kept) fits

  pub part-of-room : r ≡ length (take r room)
  part-of-room = sym (length-take-le r room in-room)
