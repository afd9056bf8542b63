-- What is gathered at a cell along the order: one more than the greatest amount that its inflows bring. It is handed on from cell to cell, and the
-- length is made of it. Assumes nothing.
use mathlib.Core.Path.{◌≡◌, sym, ap, ◌∙◌}
use mathlib.Core.List.{List}
use mathlib.Core.Logic.{⊎_elim}
use mathlib.Core.Bool.{Bool, true, false, cond, true≢false}
use Prim.Native.Nat.{ℕ, ◌+◌, ◌-◌, ◌*◌, ◌≤◌, ◌<◌, max}
use native.Mathlib.Omega.{arith}
use lib.Dec.{ltb, eqb}
use borrow.Author.Tests.{lt-ltb, le-ltb, eqb-true}
use lib.ListN.{get_or}
use Rattle.laws.specs.First.{some_of}
use Rattle.laws.specs.Sums.{greatest_to, when}
use Rattle.laws.specs.Handing.{Handed}
use Rattle.laws.proofs.Tests.{two}
use Rattle.laws.proofs.First.{some_is, none-at}
use Rattle.laws.proofs.Sums.{when-yes, when-no, when-ext, when-under, greatest-ext, greatest-ge, greatest-le, greatest-less}
use Rattle.laws.proofs.Handing.{greatest-joining}
use Rattle.settings.specs.declared.Rules.{Rules}
use Rattle.terrain.specs.Cells.{neighbour}
use Rattle.terrain.specs.Trail.{mapped_at, into_at, receiver_of}
use Rattle.terrain.specs.InnerTrail.{Directed}
use Rattle.terrain.proofs.Public.{pointing, inflow-greatest}
use Rattle.factor.specs.Channel.{channel_at}
use Rattle.factor.specs.Inflow.{start_length}
use Rattle.factor.specs.Length.{brought_to, length_in}
use Rattle.factor.specs.Inner.{greatest_length, final_length}
use Rattle.factor.proofs.Lengths.{brought-le, most, from_is, length-local, length-small}

module _ (rows cols side : ℕ) (rules : ℕ → Rules) (lv dir count : List ℕ) where
  -- the length of the cell z
  abbrev pub length_at : ℕ → ℕ
  length_at z = length_in rows cols side rules lv dir count (rows * cols) z

  -- one more than the greatest amount that is brought to z; 0 for none
  unfoldable pub gathered_at : ℕ → ℕ
  unfolding receiver_of brought_to length_in
  gathered_at z = greatest_to (rows * cols) (λ x. when (eqb (receiver_of rows cols dir x) z) (brought_to rows cols side (rules z) lv dir z x (length_at x) + 1))

  -- what becomes of what is gathered at z when its turn comes
  unfoldable pub final_at : ℕ → ℕ → ℕ
  unfolding final_length channel_at
  final_at z m = final_length (channel_at rows cols (rules z) count z) (start_length (get_or dir z 255)) m

  -- one more than what x gives, when so much is gathered at x
  unfoldable pub given_by : ℕ → ℕ → ℕ
  unfolding brought_to final_at receiver_of
  given_by x m = brought_to rows cols side (rules (receiver_of rows cols dir x)) lv dir (receiver_of rows cols dir x) x (final_at x m) + 1

module _ {rows cols : ℕ} {dir : List ℕ} (d : Directed rows cols dir) (side : ℕ) (rules : ℕ → Rules) (lv count : List ℕ) where
  abbrev n : ℕ
  n = rows * cols

  abbrev recv : ℕ → ℕ
  recv = receiver_of rows cols dir

  abbrev valid : ℕ → Bool
  valid = mapped_at rows cols dir

  abbrev into : ℕ → ℕ → Bool
  into = into_at rows cols dir

  abbrev nb : ℕ → ℕ → ℕ
  nb = neighbour rows cols

  abbrev len : ℕ → ℕ
  len = length_at rows cols side rules lv dir count

  abbrev gathered : ℕ → ℕ
  gathered = gathered_at rows cols side rules lv dir count

  abbrev given : ℕ → ℕ → ℕ
  given = given_by rows cols side rules lv dir count

  abbrev brings : ℕ → ℕ → ℕ
  brings z x = brought_to rows cols side (rules z) lv dir z x (len x)

  -- by the sides of the cell
  gathered-sides : (z : ℕ) → z < n → gathered z ≡ greatest_to 8 (λ k. when (into z k) (brings z (nb z k) + 1))
  unfolding gathered_at
  gathered-sides z h = sym (inflow-greatest d.drawn h (λ x. brings z x + 1))

  -- one more than the greatest amount, or 0 where there is no inflow
  final-inflows : (z : ℕ) → z < n
      → cond (ltb (gathered z) 1) (start_length (get_or dir z 255)) (gathered z - 1)
      ≡ cond (some_of (into z) 8) (most d side rules lv count len z) (start_length (get_or dir z 255))
  final-inflows z h =
      ⊎_elim
      (λ e.
      let s = some_is (into z) 8 e in
      let one = greatest-ge 8 (λ k. when (into z k) (brings z (nb z k) + 1)) s.0 s.1 in
      let g : 1 ≤ gathered z = omega (arith, gathered-sides z h, one, when-yes (brings z (nb z s.0) + 1) s.2) in
      rw (le-ltb (gathered z) 1 g, e) (ap (λ (m : ℕ). m - 1) (gathered-sides z h) ∙ greatest-less 8 (into z) (λ k. brings z (nb z k))))
      (λ e.
      let none = greatest-le 8 (λ k. when (into z k) (brings z (nb z k) + 1)) 0
      (λ k i. omega (arith, when-no (brings z (nb z k) + 1) (none-at (into z) 8 k e i))) in
      let g : gathered z ≡ 0 = omega (arith, gathered-sides z h, none) in
      rw (lt-ltb (gathered z) 1 (omega arith), e))
      (two (some_of (into z) 8))

  -- what becomes of it is the length
  pub final-is : (z : ℕ) → mapped_at rows cols dir z ≡ true → final_at rows cols side rules lv dir count z
      (gathered_at rows cols side rules lv dir count z) ≡ length_at rows cols side rules lv dir count z
  unfolding final_at final_length
  final-is z v =
      let start = start_length (get_or dir z 255) in
      ap (λ (m : ℕ). cond (channel_at rows cols (rules z) count z) 0 m) (final-inflows z ((pointing d.drawn).within z v))
      ∙ sym (ap (λ (b : Bool). cond b (cond (channel_at rows cols (rules z) count z) 0 (cond (some_of (into z) 8) (most d side rules lv count len z) start)) 0) v)
      ∙ sym (length-local d side rules lv count z ∙ from_is d side rules lv count len z)

  -- NoData has no length
  pub length_none : (z : ℕ) → valid z ≡ false → len z ≡ 0
  length_none z v = length-local d side rules lv count z ∙ from_is d side rules lv count len z ∙ rw v

  -- and no inflow
  pub gathered_none : (z : ℕ) → z < n → valid z ≡ false → gathered z ≡ 0
  unfolding gathered_at
  gathered_none z h v = omega (arith, greatest-le n (λ x. when (eqb (recv x) z) (brings z x + 1)) 0 (λ x l. none x))
    where
      none : (x : ℕ) → when (eqb (recv x) z) (brings z x + 1) ≤ 0
      none x =
          ⊎_elim (λ t. let e = eqb-true (recv x) z t in absurd (true≢false (sym ((pointing d.drawn).stays x (omega arith)) ∙ ap valid e ∙ v)))
          (λ t. omega (arith, when-no (brings z x + 1) t)) (two (eqb (recv x) z))

  pub gathered-small : (z : ℕ) → gathered_at rows cols side rules lv dir count z ≤ greatest_length
  unfolding gathered_at
  gathered-small z =
      greatest-le n (λ x. when (eqb (recv x) z) (brings z x + 1)) greatest_length (λ x l. omega (arith, when-under (eqb (recv x) z) (brings z x + 1), one x))
    where
      one : (x : ℕ) → brings z x ≤ 14900000000 + 14142
      one x = brought-le rows cols side (rules z) lv dir z x (len x) 14900000000 (length-small d side rules lv count x)

  -- what a cell gives is what it brings to the cell that it points at
  given_is : (z x : ℕ) → z < n → recv x ≡ z → brings z x + 1 ≡ given x (gathered x)
  unfolding given_by
  given_is z x h e =
      let whole = ap (λ (m : ℕ). brought_to rows cols side (rules (recv x)) lv dir (recv x) x m + 1) (final-is x ((pointing d.drawn).from x (omega arith))) in
      sym (whole ∙ ap (λ (y : ℕ). brings y x + 1) e)

  local : (z : ℕ) → z < n → gathered z ≡ greatest_to n (λ x. when (eqb (recv x) z) (given x (gathered x)))
  unfolding gathered_at
  local z h =
      greatest-ext n (λ x. when (eqb (recv x) z) (brings z x + 1)) (λ x. when (eqb (recv x) z) (given x (gathered x)))
      (λ x l. when-ext (eqb (recv x) z) (brings z x + 1) (given x (gathered x)) (λ t. given_is z x h (eqb-true (recv x) z t)))

  -- it is handed on along the order
  pub lengths-handed : Handed max greatest_to n valid recv given (λ z. 0) gathered
  lengths-handed = record { joins = greatest-joining; points = pointing d.drawn; local = (λ z h. omega (arith, local z h)) }
