-- Counts handed on along the order from the ridges down. Assumes nothing.
use Rattle.std.proofs.Common.{◌≡◌, ℕ, ◌+◌, ◌*◌, ◌<◌, ◌≤◌, Bool, true, false, eqb, List, length, get_or, set, sym, ap, ◌∙◌, subst, ⊎_elim, true≢false, arith, ext_get_or, eqb-true}
use native.Mathlib.Decide.{dec_lt}
use lib.Seq.{set_out}
use Rattle.laws.specs.Lists.{tab}
use Rattle.laws.specs.Sums.{sum_to, when}
use Rattle.laws.specs.Handing.{Handing, Handed, Turn}
use Rattle.laws.proofs.Tests.{two}
use Rattle.laws.proofs.Lists.{length-tab, get_or-tab}
use Rattle.laws.proofs.Sums.{sum-ext, sum-zero, when-yes, when-no, when-under, when-ext}
use Rattle.laws.proofs.Handing.{sum-joining, hand-start, turn_on, turn-off, next-whole, next_fits, next-turn, hand-all, hand-rest}
use Rattle.terrain.specs.Trail.{mapped_at, steps_in, count_at, counts_of, receiver_of}
use Rattle.terrain.specs.InnerTrail.{Directed}
use Rattle.terrain.specs.Downhill.{Downhill}
use Rattle.terrain.proofs.Trails.{steps-le, count-le, count-brought, counts-long, counts-at}
use Rattle.terrain.proofs.Receivers.{directed-falls, pointing}

-- the counts when the cells at the first p places have handed theirs on
abbrev pub Passing : ℕ → ℕ → List ℕ → List ℕ → List ℕ → ℕ → Type 0
Passing rows cols dir order count p =
    Handing ◌+◌ sum_to (rows * cols) (receiver_of rows cols dir) (λ x m. m) (λ z. when (mapped_at rows cols dir z) 1) (λ z. get_or (counts_of rows cols dir) z 0) (λ z m. m) order count p

module _ {rows cols : ℕ} {dir : List ℕ} (d : Directed rows cols dir) where
  abbrev n : ℕ
  n = rows * cols

  abbrev valid : ℕ → Bool
  valid = mapped_at rows cols dir

  abbrev recv : ℕ → ℕ
  recv = receiver_of rows cols dir

  abbrev rank : ℕ → ℕ
  rank = steps_in rows cols dir (rows * cols)

  abbrev F : List ℕ
  F = counts_of rows cols dir

  counted : (z : ℕ) → z < n → get_or F z 0 ≡ when (valid z) (count_at rows cols dir z)
  counted z h = counts-at rows cols dir z h

  long-counts : length F ≡ n
  long-counts = counts-long rows cols dir

  -- the count of a cell that points at another
  source : (z x : ℕ) → z < n → when (eqb (recv x) z) (count_at rows cols dir x) ≡ when (eqb (recv x) z) (get_or F x 0)
  source z x h =
      when-ext (eqb (recv x) z) (count_at rows cols dir x) (get_or F x 0) (λ t.
      let e = eqb-true (recv x) z t in
      let v = (pointing d.drawn).from x (omega arith) in
      sym (counted x ((pointing d.drawn).within x v) ∙ when-yes (count_at rows cols dir x) v))

  counts-handed : Handed ◌+◌ sum_to (rows * cols) (mapped_at rows cols dir) (receiver_of rows cols dir) (λ x m. m) (λ z. when (mapped_at rows cols dir z) 1) (λ z. get_or (counts_of rows cols dir) z 0)
  counts-handed = record { joins = sum-joining; points = pointing d.drawn; local = (λ z h. ⊎_elim (here z h) (none z h) (two (valid z))) }
    where
      here : (z : ℕ) → z < n → valid z ≡ true → get_or F z 0 ≡ when (valid z) 1 + sum_to n (λ x. when (eqb (recv x) z) (get_or F x 0))
      here z h v =
          omega (
            arith,
            counted z h,
            when-yes (count_at rows cols dir z) v,
            when-yes 1 v,
            count-brought rows cols dir rank (directed-falls d) (steps-le rows cols dir n) z v,
            sum-ext n (λ x. when (eqb (recv x) z) (count_at rows cols dir x)) (λ x. when (eqb (recv x) z) (get_or F x 0)) (λ x l. source z x h),
          )

      none : (z : ℕ) → z < n → valid z ≡ false → get_or F z 0 ≡ when (valid z) 1 + sum_to n (λ x. when (eqb (recv x) z) (get_or F x 0))
      none z h v =
          omega (
            arith,
            counted z h,
            when-no (count_at rows cols dir z) v,
            when-no 1 v,
            sum-zero n (λ x. when (eqb (recv x) z) (get_or F x 0)) (λ x l. ⊎_elim (λ t. let e = eqb-true (recv x) z t in absurd (true≢false (sym ((pointing d.drawn).stays x (omega arith)) ∙ ap valid e ∙ v))) (λ t. when-no (get_or F x 0) t) (two (eqb (recv x) z))),
          )

  pub pass-start : (order : List ℕ) {l : List ℕ} → l ≡ tab (rows * cols) (λ x. when (mapped_at rows cols dir x) 1) → Passing rows cols dir order l 0
  pass-start order {l} e =
      hand-start counts-handed order (ap length e ∙ length-tab n (λ x. when (valid x) 1))
      (λ z h. ap (λ (k : List ℕ). get_or k z 0) e ∙ get_or-tab n (λ x. when (valid x) 1) 0 z h)

  module _ {order : List ℕ} {m : ℕ} (o : Downhill rows cols dir order m) where
    module _ {l : List ℕ} {p x y : ℕ} (s : Passing rows cols dir order l p) (h : p < m) (e : x ≡ get_or order p 0) (q : y ≡ receiver_of rows cols dir x) where
      there : y ≡ recv (get_or order p 0)
      there = q ∙ ap recv e

      -- what y has when x has handed on
      abbrev sum : ℕ
      sum = get_or l y 0 + get_or l x 0

      sums : sum ≡ get_or l (recv (get_or order p 0)) 0 + get_or F (get_or order p 0) 0
      sums = omega (arith, ap (λ (z : ℕ). get_or l z 0) there, ap (λ (z : ℕ). get_or l z 0) e, next-whole counts-handed o.cells s h)

      pub pass_step : Passing rows cols dir order (set l y (get_or l y 0 + get_or l x 0)) (p + 1)
      pass_step =
          next-turn counts-handed o.cells s h
          (elim (dec_lt y n) [
            | yes k ↦ subst (λ (z : ℕ). Turn ◌+◌ n recv (λ x m. m) (λ z. get_or F z 0) (λ z m. m) l (set l z sum) (get_or order p 0)) (sym there) (turn_on counts-handed s.long (omega (arith, there)) (next-whole counts-handed o.cells s h) sums)
            | no k ↦ subst (λ (j : List ℕ). Turn ◌+◌ n recv (λ x m. m) (λ z. get_or F z 0) (λ z m. m) l j (get_or order p 0)) (sym (set_out l y sum (omega (arith, s.long)))) (turn-off counts-handed (omega (arith, there)) (next-whole counts-handed o.cells s h))
          ])

      -- no count is above the number of cells
      pub pass_fits : y < rows * cols → get_or l y 0 + get_or l x 0 ≤ rows * cols
      pass_fits k =
          omega (
            arith,
            sums,
            next_fits counts-handed o.cells s h (omega (arith, there)),
            ap (λ (z : ℕ). get_or F z 0) there,
            counted y k,
            when-under (valid y) (count_at rows cols dir y),
            count-le rows cols dir y,
          )

    pub pass_all : {l : List ℕ} {p : ℕ} → p ≡ m → Passing rows cols dir order l p → l ≡ counts_of rows cols dir
    pass_all {l} e s' =
        let s : Passing rows cols dir order l m = subst (Passing rows cols dir order l) e s' in
        ext_get_or 0 l F (s.long ∙ sym long-counts) (λ z h. ⊎_elim (hand-all counts-handed o.cells s z) (hand-rest counts-handed o.cells s z (omega (arith, s.long))) (two (valid z)))
