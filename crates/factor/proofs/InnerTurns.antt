-- The turn of one cell, as the code makes it. Assumes nothing.
use mathlib.Core.Path.{◌≡◌, sym, ap, ap₂, subst, ◌∙◌}
use mathlib.Core.List.{List}
use mathlib.Core.Bool.{Bool, true, false, cond}
use Prim.Native.Nat.{ℕ, ◌+◌, ◌-◌, ◌≤◌, ◌<◌, max}
use native.Mathlib.Omega.{arith}
use lib.Dec.{ltb}
use lib.ListN.{length, get_or, set, length-set}
use lib.Seq.{get_or-set_other}
use Rattle.settings.specs.declared.Rules.{Rules}
use Rattle.factor.specs.Cell.{factor_of}
use Rattle.factor.specs.Inflow.{cutoff_for, start_length, step_over}
use Rattle.factor.specs.Inner.{greatest_length, steepness_of, final_length, brought_by}
use Rattle.factor.specs.InnerPass.{Ruled, length_now, Settled, Receiving, lengths_with, bearing_at, beside_at, length_then, amount_then, lengths_next, Turning, Turned}
use Rattle.factor.specs.declared.pass.Farm.{Farm}
use Rattle.factor.specs.declared.pass.Terms.{Terms}
use Rattle.factor.proofs.Lengths.{step-le, start-le, amount-le}
use Rattle.factor.proofs.Slopes.{steepness-small}

-- a length is no greater than what is gathered may be
pub final-small : (b : Bool) (i m : ℕ) → i ≤ 7071 → m ≤ greatest_length → final_length b i m ≤ greatest_length
unfolding final_length
final-small b i m s h = go b (ltb m 1)
  where
    go : (b c : Bool) → cond b 0 (cond c i (m - 1)) ≤ greatest_length
    go true c = omega arith
    go false true = omega arith
    go false false = omega arith

-- and an amount is at most one step more
pub brought-small : (side : ℕ) (rules : Rules) (k p q i len : ℕ) → i ≤ 7071 → len ≤ greatest_length → brought_by side rules k p q i len ≤ greatest_length + 14142
unfolding brought_by
brought-small side rules k p q i len s h = amount-le (cutoff_for rules.low rules.high side q) q p i (step_over k) len greatest_length (step-le k) s h

-- the cell x, of the farm f, is settled
module _ (terms : Terms) (farm : ℕ → Farm) (dir count lengths factors : List ℕ) (x : ℕ) {f : Farm} {len : ℕ} {lengths' factors' : List ℕ}
    (own : f ≡ farm x) (s : Settled terms.side f dir count lengths factors x len lengths' factors') where
  abbrev settled : Farm → ℕ → List ℕ
  settled g m = set factors x (factor_of g.formula terms.side (steepness_of (get_or factors x 0)) m)

  abbrev final : ℕ
  final = length_then terms farm dir count lengths factors x

  length-now : len ≡ final
  length-now = s.length-is ∙ ap (λ (g : Farm). length_now g dir count lengths x) own

  factors-now : factors' ≡ settled (farm x) final
  factors-now = s.factors-are ∙ ap₂ settled own length-now

  lengths-now : lengths' ≡ set lengths x final
  lengths-now = s.lengths-are ∙ ap (set lengths x) length-now

  pub turned-off : 8 ≤ bearing_at dir x → Turned terms farm dir count lengths factors x lengths' factors'
  turned-off h = record { factors-are = factors-now; leaves = (λ k. lengths-now); hands_on = (λ rules r k. absurd (omega arith)) }

  -- it points at the cell y, of the farm g
  module _ {y p : ℕ} {g : Farm} (i : y ≡ beside_at terms dir x) (d : y ≡ x → ⊥) (q : p ≡ steepness_of (get_or factors x 0)) (next : g ≡ farm y) where
    -- which is as it was
    same_length : get_or lengths' y 0 ≡ get_or lengths y 0
    same_length = ap (λ (l : List ℕ). get_or l y 0) s.lengths-are ∙ get_or-set_other lengths x y len 0 d

    same-fall : get_or factors' y 0 ≡ get_or factors y 0
    same-fall = ap (λ (l : List ℕ). get_or l y 0) s.factors-are ∙ get_or-set_other factors x y _ 0 d

    -- and receives
    pub receiving : Turning terms farm dir count lengths factors x → bearing_at dir x < 8 → Receiving terms.side g dir lengths' factors' y p len
    receiving t k =
        let long = ap length s.lengths-are ∙ length-set lengths x len in
        let falls = ap length s.factors-are ∙ length-set factors x (factor_of f.formula terms.side (steepness_of (get_or factors x 0)) len) in
        let here = t.settling in
        let channel = ltb (farm x).most (get_or count x 0) in
        record {
          rules = t.rules;
          ruled = subst (Ruled t.rules) (ap farm (sym i) ∙ sym next) t.next-ruled;
          sided = here.sided;
          dir-in = omega (arith, t.next-dir k);
          lengths-in = omega (arith, t.next-lengths k);
          factors-in = omega (arith, t.next-factors k);
          lengths-few = omega (arith, here.lengths-few);
          factors-few = omega (arith, here.factors-few);
          fall-small = omega (arith, same-fall, ap (λ (z : ℕ). get_or factors z 0) i, t.next_small k);
          inflow-small = omega (arith, steepness-small {fall = get_or factors x 0} here.fall-small);
          length-small = omega (
            arith,
            length-now,
            final-small channel (start_length (get_or dir x 0)) (get_or lengths x 0) (start-le (get_or dir x 0))
                here.gathered-small,
          );
        }

    module _ {lengths'' : List ℕ} (a : (rules : Rules) → Ruled rules g →
        lengths'' ≡ lengths_with terms.side rules dir lengths' factors' y (bearing_at dir x) p len) where
      module _ (rules : Rules) where
        abbrev brings : ℕ → ℕ → ℕ → ℕ
        brings u v m = brought_by terms.side rules (bearing_at dir x) u v (start_length (get_or dir y 0)) m

        amount-is : brings p (steepness_of (get_or factors' y 0)) len ≡ amount_then terms farm dir count lengths factors x rules y
        amount-is = ap₂ (λ (u v : ℕ). brings u v len) q (ap steepness_of same-fall)
            ∙ ap (brings (steepness_of (get_or factors x 0)) (steepness_of (get_or factors y 0))) length-now

        there : lengths_with terms.side rules dir lengths' factors' y
            (bearing_at dir x) p len ≡ lengths_next terms farm dir count lengths factors x rules y
        there = ap₂ (λ (l : List ℕ) (m : ℕ). set l y m) lengths-now (ap₂ max same_length (ap (λ (u : ℕ). u + 1) amount-is))

      pub turned_on : bearing_at dir x < 8 → Turned terms farm dir count lengths factors x lengths'' factors'
      turned_on h =
          record {
            factors-are = factors-now;
            leaves = (λ k. absurd (omega arith));
            hands_on = (λ rules r k. a rules (subst (Ruled rules) (ap farm (sym i) ∙ sym next) r) ∙ there rules
                ∙ ap (lengths_next terms farm dir count lengths factors x rules) i);
          }
