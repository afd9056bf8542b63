-- The cell that a cell points at: how the code reads it from a code, and that it is nearer to the end of the trail, where trails end. Assumes nothing.
use Rattle.std.proofs.Common.{◌≡◌, ℕ, ◌*◌, ◌<◌, ◌≤◌, true, not, eqb, List, get_or, sym, refl, ap, ◌∙◌, ⊎_elim, arith, le-ltb}
use native.Mathlib.Decide.{dec_lt}
use lib.Count.{count_trailing_zeros, trailing_of_zero}
use Rattle.laws.specs.Orders.{Pointing, Falling}
use Rattle.laws.proofs.Tests.{two}
use Rattle.laws.proofs.Lists.{get_or_any}
use Rattle.terrain.specs.Cells.{neighbour, code_of, bearing_of}
use Rattle.terrain.specs.Trail.{mapped_at, flows_at, next_at, steps_in, receiver_of}
use Rattle.terrain.specs.InnerTrail.{Drawn, Directed}
use Rattle.terrain.proofs.Neighbours.{each-bearing, bearing-none, code-bearing, neighbour-apart}
use Rattle.terrain.proofs.Trails.{Falls, mapped-is, is_mapped, mapped_in, flows-mapped, flows-code, code-next, receiver-flows, receiver-stops, receiver-points}

-- the bearing of a code, as its lowest bit
pub bit-bearing : (k : ℕ) → k < 8 → count_trailing_zeros 8 (code_of k) ≡ k
unfolding count_trailing_zeros
bit-bearing = each-bearing (λ k. count_trailing_zeros 8 (code_of k) ≡ k) refl refl refl refl refl refl refl refl

-- a code that is not that of its lowest bit has no bearing
pub bit-odd : (code : ℕ) → (count_trailing_zeros 8 code < 8 → code ≡ code_of (count_trailing_zeros 8 code) → ⊥) → 8 ≤ bearing_of code
bit-odd code f =
    elim (dec_lt (bearing_of code) 8) [
      | yes h ↦ (let e = code-bearing code h in let t : count_trailing_zeros 8 code ≡ bearing_of code = ap (count_trailing_zeros 8) e ∙ bit-bearing (bearing_of code) h in absurd (f (omega arith) (e ∙ ap code_of (sym t))))
      | no g ↦ omega arith
    ]

module _ {rows cols : ℕ} {dir : List ℕ} (d : Drawn rows cols dir) where
  -- ---- valid cells point at other valid cells

  next-apart : (x : ℕ) → flows_at rows cols dir x ≡ true → next_at rows cols dir x ≡ x → ⊥
  next-apart x q e =
      let c = flows-code rows cols dir x q in
      let k = bearing_of (get_or dir x 255) in
      let n = code-next rows cols dir x k c.0 c.1 in
      neighbour-apart rows cols x k c.0 (omega (arith, n, mapped_in rows cols dir d.long (next_at rows cols dir x) (d.stays x q))) (sym n ∙ e)

  pub pointing : Pointing (rows * cols) (mapped_at rows cols dir) (receiver_of rows cols dir)
  pointing =
      record {
        within = mapped_in rows cols dir d.long;
        from = (λ x h. flows-mapped rows cols dir x (receiver-points rows cols dir x h));
        stays = (λ x h. let q = receiver-points rows cols dir x h in ap (mapped_at rows cols dir) (receiver-flows rows cols dir x q) ∙ d.stays x q);
        apart = (λ x h e. let q = receiver-points rows cols dir x h in next-apart x q (sym (receiver-flows rows cols dir x q) ∙ e));
      }

  receiver-in : (x : ℕ) → flows_at rows cols dir x ≡ true → receiver_of rows cols dir x < rows * cols
  receiver-in x q = omega (arith, receiver-flows rows cols dir x q, mapped_in rows cols dir d.long (next_at rows cols dir x) (d.stays x q))

  -- ---- as the code reads it

  pub code_read : (x : ℕ) → x < rows * cols → get_or dir x 255 ≡ get_or dir x 0
  code_read x h = get_or_any dir x 255 0 (omega (arith, d.long))

  pub mapped-read : (x : ℕ) → x < rows * cols → mapped_at rows cols dir x ≡ not (eqb (get_or dir x 0) 255)
  unfolding mapped_at
  mapped-read x h = ap (λ (c : ℕ). not (eqb c 255)) (code_read x h)

  -- a cell is valid if its code is not NoData's, and only then
  pub code-mapped : (x : ℕ) → x < rows * cols → (get_or dir x 0 ≡ 255 → ⊥) → mapped_at rows cols dir x ≡ true
  code-mapped x h v = is_mapped rows cols dir x (λ e. v (sym (code_read x h) ∙ e))

  pub mapped-code : (x : ℕ) → mapped_at rows cols dir x ≡ true → get_or dir x 0 ≡ 255 → ⊥
  mapped-code x v e = mapped-is rows cols dir x v (code_read x (pointing.within x v) ∙ e)

  pub receiver-none : (x : ℕ) → x < rows * cols → get_or dir x 0 ≡ 255 → rows * cols ≡ receiver_of rows cols dir x
  unfolding flows_at
  receiver-none x h e = sym (receiver-stops rows cols dir x (le-ltb (bearing_of (get_or dir x 255)) 8 (omega (arith, ap bearing_of (code_read x h ∙ e) ∙ bearing-none))))

  pub bit-of : (x : ℕ) → x < rows * cols → flows_at rows cols dir x ≡ true → count_trailing_zeros 8 (get_or dir x 0) ≡ bearing_of (get_or dir x 255)
  bit-of x h q = let c = flows-code rows cols dir x q in ap (count_trailing_zeros 8) (sym (code_read x h) ∙ c.1) ∙ bit-bearing (bearing_of (get_or dir x 255)) c.0

  pub receiver-leaves : (x : ℕ) → x < rows * cols → 8 ≤ count_trailing_zeros 8 (get_or dir x 0) → rows * cols ≡ receiver_of rows cols dir x
  receiver-leaves x h k = ⊎_elim (λ q. absurd (omega (arith, bit-of x h q, (flows-code rows cols dir x q).0))) (λ q. sym (receiver-stops rows cols dir x q)) (two (flows_at rows cols dir x))

  module _ (x : ℕ) (h : x < rows * cols) (v : get_or dir x 0 ≡ 255 → ⊥) (k : count_trailing_zeros 8 (get_or dir x 0) < 8) where
    bit-flows : flows_at rows cols dir x ≡ true
    bit-flows =
        ⊎_elim (λ q. q)
        (λ q. absurd (omega (arith, ap (count_trailing_zeros 8) (sym (code_read x h) ∙ d.stops x (code-mapped x h v) q) ∙ trailing_of_zero 8))) (two (flows_at rows cols dir x))

    pub receiver-beside : neighbour rows cols x (count_trailing_zeros 8 (get_or dir x 0)) ≡ receiver_of rows cols dir x
    receiver-beside =
        let c = flows-code rows cols dir x bit-flows in
        ap (neighbour rows cols x) (bit-of x h bit-flows) ∙ sym (code-next rows cols dir x (bearing_of (get_or dir x 255)) c.0 c.1) ∙ sym (receiver-flows rows cols dir x bit-flows)

    pub receiver-bearing : count_trailing_zeros 8 (get_or dir x 0) ≡ bearing_of (get_or dir x 255)
    receiver-bearing = bit-of x h bit-flows

    pub receiver-near : neighbour rows cols x (count_trailing_zeros 8 (get_or dir x 0)) < rows * cols
    receiver-near = omega (arith, receiver-beside, receiver-in x bit-flows)

-- ---- where trails end, each cell is further from the end than the one that it points at

module _ {rows cols : ℕ} {dir : List ℕ} (d : Directed rows cols dir) where
  pub directed-falls : Falls rows cols dir (steps_in rows cols dir (rows * cols))
  directed-falls = record { long = d.drawn.long; stays = d.drawn.stays; less = d.less }

  pub falling : Falling (rows * cols) (receiver_of rows cols dir) (steps_in rows cols dir (rows * cols))
  falling =
      record {
        less = (λ x h. let q = receiver-points rows cols dir x h in omega (arith, d.less x q, ap (steps_in rows cols dir (rows * cols)) (receiver-flows rows cols dir x q)));
      }
