-- Laws of slope lengths: a cell's length comes from those of its inflows, and none is greater than 15,000,000,000. Assumes nothing.
use mathlib.Core.Path.{◌≡◌, refl, sym, ap, ◌∙◌}
use mathlib.Core.List.{List}
use mathlib.Core.Bool.{Bool, true, false, cond, ◌&&◌}
use Prim.Native.Nat.{ℕ, zero, suc, ◌+◌, ◌-◌, ◌*◌, ◌≤◌, ◌<◌}
use native.Mathlib.Nat.{mul-le-mul}
use native.Mathlib.Omega.{arith}
use native.Mathlib.Decide.{dec_lt}
use lib.ListN.{length, get_or}
use lib.Dec.{ltb, leb, eqb}
use borrow.Author.Tests.{lt-ltb, le-ltb}
use Rattle.laws.specs.First.{some_of}
use Rattle.laws.specs.Sums.{greatest_to, when}
use Rattle.laws.proofs.Lists.{length-tab, get_or-tab}
use Rattle.laws.proofs.Sums.{when-ext, when-under, greatest-ext, greatest-le}
use Rattle.settings.specs.declared.Rules.{Rules}
use Rattle.terrain.specs.Cells.{neighbour, bearing_of, cardinal}
use Rattle.terrain.specs.Trail.{mapped_at, steps_in, into_at}
use Rattle.terrain.specs.InnerTrail.{Directed}
use Rattle.terrain.proofs.Public.{steps-le, into-above}
use Rattle.factor.specs.Slope.{steepness_at}
use Rattle.factor.specs.Channel.{channel_at}
use Rattle.factor.specs.Inflow.{is_cut, diagonal, start_length, step_over, amount_of}
use Rattle.factor.specs.Inner.{left_by}
use Rattle.factor.specs.Length.{cutoff_at, brought_to, length_from, length_in, lengths_of}

-- ---- what one inflow brings

-- a step is at most a diagonal
pub step-le : (k : ℕ) → step_over k ≤ 14142
unfolding step_over
step-le k = go (cardinal k)
  where
    go : (c : Bool) → cond c 10000 14142 ≤ 14142
    go true = omega arith
    go false = omega arith

-- a cutoff leaves at most all of 100 percent
pub left-small : (n : ℕ) → left_by n ≤ 10000
unfolding left_by
left-small n = let h : 100 - n ≤ 100 = omega arith in omega (arith, mul-le-mul h h)

-- and leaves some just where it is below 100 percent
left-some : (n : ℕ) → ltb 0 (left_by n) ≡ ltb n 100
unfolding left_by
left-some n =
    elim (dec_lt n 100) [
      | yes h ↦ lt-ltb 0 (left_by n) (some h) ∙ sym (lt-ltb n 100 h)
      | no f ↦ let h : 100 ≤ n = omega arith in le-ltb 0 (left_by n) (none h) ∙ sym (le-ltb n 100 h)
    ]
  where
    some : n < 100 → 0 < left_by n
    some h = let g : 1 ≤ 100 - n = omega arith in omega (arith, mul-le-mul g g)

    none : 100 ≤ n → left_by n ≤ 0
    none h = let g : 100 - n ≤ 0 = omega arith in omega (arith, mul-le-mul g g)

-- so a cut is told by what is left
pub cut-is : {left : ℕ} (n q p : ℕ) → left ≡ left_by n → (ltb 0 left && ltb q p) && leb (10000 * q) (left * p) ≡ is_cut n q p
unfolding is_cut left_by
cut-is n q p e = rw (e, left-some n)

-- a length starts with half a diagonal at most
pub start-le : (code : ℕ) → start_length code ≤ 7071
unfolding start_length
start-le code = go (diagonal code)
  where
    go : (b : Bool) → cond b 7071 5000 ≤ 7071
    go true = omega arith
    go false = omega arith

-- at most one step more than a bound of the inflow's length
pub amount-le : (n q p i s a b : ℕ) → s ≤ 14142 → i ≤ 7071 → a ≤ b → amount_of n q p i s a ≤ b + 14142
unfolding amount_of
amount-le n q p i s a b h l g = go (eqb q 0 && eqb p 0) (is_cut n q p)
  where
    go : (flat cut : Bool) → cond flat i (cond cut 0 (a + s)) ≤ b + 14142
    go true cut = omega arith
    go false true = omega arith
    go false false = omega arith

module _ (rows cols side : ℕ) (rules : Rules) (lv dir : List ℕ) where
  pub brought-le : (z x a b : ℕ) → a ≤ b → brought_to rows cols side rules lv dir z x a ≤ b + 14142
  unfolding brought_to
  brought-le z x a b h =
      let k = bearing_of (get_or dir x 255) in
      amount-le (cutoff_at rows cols side rules lv dir z) (steepness_at rows cols lv dir z) (steepness_at rows cols lv dir x)
      (start_length (get_or dir z 255)) (step_over k) a b (step-le k) (start-le (get_or dir z 255)) h

module _ {rows cols : ℕ} {dir : List ℕ} (d : Directed rows cols dir) (side : ℕ) (rules : ℕ → Rules) (lv count : List ℕ) where
  abbrev size : ℕ
  size = rows * cols

  abbrev rank : ℕ → ℕ
  rank = steps_in rows cols dir (rows * cols)

  abbrev nb : ℕ → ℕ → ℕ
  nb = neighbour rows cols

  abbrev into : ℕ → ℕ → Bool
  into = into_at rows cols dir

  abbrev brings : (ℕ → ℕ) → ℕ → ℕ → ℕ
  brings f z k = brought_to rows cols side (rules z) lv dir z (nb z k) (f (nb z k))

  abbrev from : (ℕ → ℕ) → ℕ → ℕ
  from = length_from rows cols side rules lv dir count

  abbrev in_steps : ℕ → ℕ → ℕ
  in_steps = length_in rows cols side rules lv dir count

  rank-le : (x : ℕ) → rank x ≤ size
  rank-le x = steps-le rows cols dir size x

  -- ---- the rule of a cell's length

  abbrev pub most : (ℕ → ℕ) → ℕ → ℕ
  most f z = greatest_to 8 (λ k. when (into_at rows cols dir z k)
      (brought_to rows cols side (rules z) lv dir z (neighbour rows cols z k) (f (neighbour rows cols z k))))

  abbrev length_by : ℕ → ℕ → ℕ
  length_by z g = cond (mapped_at rows cols dir z) (cond (channel_at rows cols (rules z) count z) 0 (cond (some_of (into z) 8) g (start_length (get_or dir z 255)))) 0

  pub from_is : (f : ℕ → ℕ) (z : ℕ) → length_from rows cols side rules lv dir count f z ≡ length_by z (most f z)
  unfolding length_from
  from_is f z = refl

  by_le : (a b c : Bool) (g i h : ℕ) → g ≤ h → i ≤ h → cond a (cond b 0 (cond c g i)) 0 ≤ h
  by_le true true c g i h l k = omega arith
  by_le true false true g i h l k = omega arith
  by_le true false false g i h l k = omega arith
  by_le false b c g i h l k = omega arith

  -- it depends on the inflows alone, and is at most one step more than a bound of theirs
  from-ext : (f g : ℕ → ℕ) (z : ℕ) → ((k : ℕ) → into z k ≡ true → f (nb z k) ≡ g (nb z k)) → from f z ≡ from g z
  from-ext f g z h =
      from_is f z ∙ ap (length_by z) (greatest-ext 8 (λ k. when (into z k) (brings f z k)) (λ k. when (into z k) (brings g z k)) (λ k l. same k))
      ∙ sym (from_is g z)
    where
      same : (k : ℕ) → when (into z k) (brings f z k) ≡ when (into z k) (brings g z k)
      same k = when-ext (into z k) (brings f z k) (brings g z k) (λ e. ap (brought_to rows cols side (rules z) lv dir z (nb z k)) (h k e))

  from_le : (f : ℕ → ℕ) (z b : ℕ) → ((y : ℕ) → f y ≤ b) → from f z ≤ b + 14142
  from_le f z b h =
      omega (
        arith,
        from_is f z,
        by_le (mapped_at rows cols dir z) (channel_at rows cols (rules z) count z) (some_of (into z) 8) (most f z) (start_length (get_or dir z 255)) (b + 14142)
            (greatest-le 8 (λ k. when (into z k) (brings f z k)) (b + 14142) (λ k i. omega (arith, when-under (into z k) (brings f z k), one k)))
            (omega (arith, start-le (get_or dir z 255))),
      )
    where
      one : (k : ℕ) → brings f z k ≤ b + 14142
      one k = brought-le rows cols side (rules z) lv dir z (nb z k) (f (nb z k)) b (h (nb z k))

  -- ---- the length of a cell from its inflows' lengths

  length_none : (z : ℕ) → in_steps 0 z ≡ from (λ y. 0) z
  unfolding length_in
  length_none z = refl

  length_more : (m z : ℕ) → in_steps (suc m) z ≡ from (in_steps m) z
  unfolding length_in
  length_more m z = refl

  -- as many steps as there are ranks above a cell's are enough
  length-stay : (m z : ℕ) → size - rank z ≤ m → in_steps (suc m) z ≡ in_steps m z
  length-stay zero z h = length_more 0 z ∙ from-ext (in_steps 0) (λ y. 0) z (λ k e. absurd (omega (arith, into-above d z k e, rank-le (nb z k))))
      ∙ sym (length_none z)
  length-stay (suc m) z h =
      length_more (suc m) z ∙ from-ext (in_steps (suc m)) (in_steps m) z
      (λ k e. length-stay m (nb z k) (omega (arith, into-above d z k e, rank-le (nb z k)))) ∙ sym (length_more m z)

  pub length-local : (z : ℕ) → length_in rows cols side rules lv dir count (rows * cols) z ≡ length_from rows cols side rules lv dir count
      (length_in rows cols side rules lv dir count (rows * cols)) z
  length-local z = sym (length-stay size z (omega arith)) ∙ length_more size z

  length-le : (m z : ℕ) → in_steps m z ≤ (m + 1) * 14142
  length-le zero z = omega (arith, length_none z, from_le (λ y. 0) z 0 (λ y. omega arith))
  length-le (suc m) z = omega (arith, length_more m z, from_le (in_steps m) z ((m + 1) * 14142) (length-le m))

  -- even one step more is below 15,000,000,000
  pub length-small : (z : ℕ) → length_in rows cols side rules lv dir count (rows * cols) z ≤ 14900000000
  length-small z = omega (arith, length-le size z, d.drawn.sized.small)

  -- ---- the grid of lengths

  pub lengths-long : length (lengths_of rows cols side rules lv dir count) ≡ rows * cols
  unfolding lengths_of
  lengths-long = length-tab (rows * cols) _

  pub lengths-at : (z : ℕ) → z < rows * cols → get_or (lengths_of rows cols side rules lv dir count) z 0 ≡ length_in rows cols side rules lv dir count
      (rows * cols) z
  unfolding lengths_of
  lengths-at z h = get_or-tab (rows * cols) (in_steps size) 0 z h
