-- The pass along the order: when a cell's turn comes, its length and its LS are those of the definitions, and it hands on what it brings. Assumes nothing.
use mathlib.Core.Path.{◌≡◌, sym, ap, ap₂, subst, ◌∙◌}
use mathlib.Core.List.{List}
use mathlib.Core.Logic.{⊎_elim}
use mathlib.Core.Bool.{Bool, true, false, cond}
use Prim.Native.Nat.{ℕ, ◌+◌, ◌-◌, ◌*◌, ◌≤◌, ◌<◌, max}
use native.Mathlib.Omega.{arith}
use native.Mathlib.Decide.{dec_lt, ℕ_discrete}
use lib.Dec.{ltb, eqb}
use lib.ListN.{length, get_or, set, replicate, length-set, length-replicate, get_or-replicate}
use lib.Seq.{ext_get_or, get_or-set_same, get_or-set_other}
use borrow.Author.Tests.{eq-eqb, ne_eqb}
use Rattle.laws.specs.Sums.{greatest_to, when}
use Rattle.laws.specs.Orders.{stands_in}
use Rattle.laws.specs.Handing.{Handing, Handed, Turn}
use Rattle.laws.proofs.Tests.{two}
use Rattle.laws.proofs.Lists.{get_or-tab, length-tab}
use Rattle.laws.proofs.Sums.{when-yes, when-no}
use Rattle.laws.proofs.Orders.{stands-none, stands-more, order-cell, order-new}
use Rattle.laws.proofs.Handing.{hand-start, hand-next, turn-off, turn_on, turn-stored, next-whole, next-turn, hand-all, hand-rest}
use Rattle.settings.specs.declared.Formula.{Formula}
use Rattle.settings.specs.declared.Rules.{Rules}
use Rattle.terrain.specs.Cells.{bearing_of}
use Rattle.terrain.specs.Trail.{mapped_at, flows_at, next_at, receiver_of}
use Rattle.terrain.specs.Filled.{top}
use Rattle.terrain.specs.Falls.{no_fall, fall_of, drop_at, fall_at, falls_of}
use Rattle.terrain.specs.InnerTrail.{Directed}
use Rattle.terrain.specs.Downhill.{Downhill}
use Rattle.terrain.proofs.Public.{beside-is, beside-room, mapped-is, pointing, code_read, receiver-leaves, receiver-beside, receiver-bearing, receiver-near}
use Rattle.factor.specs.Slope.{steepness_at}
use Rattle.factor.specs.Farms.{of_farm}
use Rattle.factor.specs.Channel.{largest_of, channel_at}
use Rattle.factor.specs.Length.{cutoff_at, brought_to, lengths_of}
use Rattle.factor.specs.Cell.{factor_of}
use Rattle.factor.specs.Grid.{factor_at, factors_of}
use Rattle.factor.specs.Inflow.{start_length}
use Rattle.factor.specs.Inner.{greatest_fall, steepness_of, final_length, brought_by}
use Rattle.factor.specs.InnerPass.{farm_in, Sided, Ruled, Farmed, bearing_at, beside_at, Turning, length_then, amount_then, lengths_next, Turned, Measuring}
use Rattle.factor.specs.declared.pass.Farm.{Farm}
use Rattle.factor.specs.declared.pass.Terms.{Terms}
use Rattle.factor.proofs.Slopes.{fall-steepness, fall-small}
use Rattle.factor.proofs.Lengths.{lengths-long, lengths-at}
use Rattle.factor.proofs.InnerChannels.{bounded}
use Rattle.factor.proofs.InnerGathering.{length_at, gathered_at, final_at, given_by, final-is, length_none, gathered_none, gathered-small, lengths-handed}

module _ (rows cols side : ℕ) (rules : ℕ → Rules) (lv dir count : List ℕ) where
  -- the cells at the first p places have their length and LS, and have handed on
  pub record Walking (order lengths factors : List ℕ) (p : ℕ) : Type 0 where
    pub handing :
        Handing max greatest_to (rows * cols) (receiver_of rows cols dir) (given_by rows cols side rules lv dir count) (λ z. 0)
        (gathered_at rows cols side rules lv dir count) (final_at rows cols side rules lv dir count) order lengths p
    pub factors-long : length factors ≡ rows * cols
    pub falls : (z : ℕ) → z < rows * cols → stands_in order p z ≡ 0 → get_or factors z 0 ≡ fall_at rows cols lv dir z
    pub done : (z : ℕ) → 0 < stands_in order p z → get_or factors z 0 ≡ factor_of (rules z).formula side (steepness_at rows cols lv dir z)
        (length_at rows cols side rules lv dir count z)

-- what the pass assumes of a map: its levels lv, the rules and the farm of each cell, directions, counts, and an order of its cells
pub record Charted (rows : ℕ) (lv : List ℕ) (rules : ℕ → Rules) (terms : Terms) (farm : ℕ → Farm) (dir count order : List ℕ) : Type 0 where
  pub directed : Directed rows terms.columns dir
  pub capped : (x : ℕ) → get_or lv x 0 ≤ top
  pub sided : Sided terms.side
  pub ruled : (x : ℕ) → Ruled (rules x) (farm x)
  pub count_long : length count ≡ rows * terms.columns
  pub channel : (x : ℕ) → x < rows * terms.columns → ltb (farm x).most (get_or count x 0) ≡ channel_at rows terms.columns (rules x) count x
  pub order_is : Downhill rows terms.columns dir order (length order)

-- ---- the map as the code reads it

module _ (rows cols : ℕ) (lv dir : List ℕ) (capped : (x : ℕ) → get_or lv x 0 ≤ top) where
  drop_le : (x : ℕ) → drop_at rows cols lv dir x ≤ top
  unfolding drop_at
  drop_le x = go (flows_at rows cols dir x)
    where
      go : (b : Bool) → cond b (get_or lv x 0 - get_or lv (next_at rows cols dir x) 0) 0 ≤ top
      go true = omega (arith, capped x)
      go false = omega arith

  fall-valid : (x : ℕ) → mapped_at rows cols dir x ≡ true → fall_at rows cols lv dir x ≡ fall_of (bearing_of (get_or dir x 255)) (drop_at rows cols lv dir x)
  unfolding fall_at
  fall-valid x v = rw v

  fall-none : (x : ℕ) → mapped_at rows cols dir x ≡ false → fall_at rows cols lv dir x ≡ no_fall
  unfolding fall_at
  fall-none x v = rw v

  pub valid-fall : {f : ℕ} (x : ℕ) → mapped_at rows cols dir x ≡ true → f ≡ fall_at rows cols lv dir x → (f ≤ greatest_fall)
      × (steepness_of f ≡ steepness_at rows cols lv dir x)
  unfolding steepness_at
  valid-fall {f} x v e =
      let k = bearing_of (get_or dir x 255) in
      let q = e ∙ fall-valid x v in
      (omega (arith, q, fall-small k (drop_at rows cols lv dir x) (drop_le x)), ap steepness_of q ∙ fall-steepness k (drop_at rows cols lv dir x))

-- ---- the turn of one cell

module _ {rows : ℕ} {lv dir count order : List ℕ} {rules : ℕ → Rules} {farm : ℕ → Farm} {terms : Terms}
    (c : Charted rows lv rules terms farm dir count order) where
  abbrev cols : ℕ
  cols = terms.columns

  abbrev size : ℕ
  size = rows * terms.columns

  abbrev to : ℕ → ℕ
  to = receiver_of rows cols dir

  abbrev whole : ℕ → ℕ
  whole = gathered_at rows cols terms.side rules lv dir count

  abbrev final : ℕ → ℕ
  final = length_at rows cols terms.side rules lv dir count

  abbrev Walks : List ℕ → List ℕ → ℕ → Type 0
  Walks lengths factors p = Walking rows cols terms.side rules lv dir count order lengths factors p

  abbrev handed : Handed max greatest_to size (mapped_at rows cols dir) to (given_by rows cols terms.side rules lv dir count) (λ z. 0) whole
  handed = lengths-handed c.directed terms.side rules lv count

  abbrev Turns : List ℕ → List ℕ → ℕ → Type 0
  Turns = Turn max size to (given_by rows cols terms.side rules lv dir count) whole (final_at rows cols terms.side rules lv dir count)

  module _ {lengths factors : List ℕ} {p x : ℕ} (w : Walks lengths factors p) (h : p < length order) (e : x ≡ get_or order p 0) where
    here-valid : mapped_at rows cols dir x ≡ true
    here-valid = ap (mapped_at rows cols dir) e ∙ order-cell c.order_is.cells p h

    here_in : x < size
    here_in = (pointing c.directed.drawn).within x here-valid

    here-new : stands_in order p x ≡ 0
    here-new = ap (stands_in order p) e ∙ order-new c.order_is.cells p h

    -- the gathered amount is whole
    here-whole : get_or lengths x 0 ≡ whole x
    here-whole = ap (λ (z : ℕ). get_or lengths z 0) e ∙ next-whole handed c.order_is.cells w.handing h ∙ ap whole (sym e)

    here-fall : (get_or factors x 0 ≤ greatest_fall) × (steepness_of (get_or factors x 0) ≡ steepness_at rows cols lv dir x)
    here-fall = valid-fall rows cols lv dir c.capped x here-valid (w.falls x here_in here-new)

    code-some : get_or dir x 0 ≡ 255 → ⊥
    code-some q = mapped-is rows cols dir x here-valid (code_read c.directed.drawn x here_in ∙ q)

    -- its length
    here-length : length_then terms farm dir count lengths factors x ≡ final_at rows cols terms.side rules lv dir count x (whole x)
    unfolding final_at
    here-length =
        ap₂ (λ (b : Bool) (m : ℕ). final_length b (start_length (get_or dir x 0)) m) (c.channel x here_in) here-whole
        ∙ ap (λ (code : ℕ). final_length (channel_at rows cols (rules x) count x) (start_length code) (whole x)) (sym (code_read c.directed.drawn x here_in))

    here-final : length_then terms farm dir count lengths factors x ≡ final x
    here-final = here-length ∙ final-is c.directed terms.side rules lv count x here-valid

    module _ (k : bearing_at dir x < 8) where
      -- the cell that it points at
      next-is : beside_at terms dir x ≡ to x
      next-is = beside-is rows cols x (bearing_at dir x) (receiver-near c.directed.drawn x here_in code-some k)
          ∙ receiver-beside c.directed.drawn x here_in code-some k

      next-in : to x < size
      next-in = omega (arith, receiver-near c.directed.drawn x here_in code-some k, receiver-beside c.directed.drawn x here_in code-some k)

      next-fall : (get_or factors (to x) 0 ≤ greatest_fall) × (steepness_of (get_or factors (to x) 0) ≡ steepness_at rows cols lv dir (to x))
      next-fall = valid-fall rows cols lv dir c.capped (to x) ((pointing c.directed.drawn).stays x next-in)
          (w.falls (to x) next-in (hand-next handed w.handing x here-new))

      -- what it hands on
      here-given : amount_then terms farm dir count lengths factors x (rules (to x)) (to x) + 1 ≡ given_by rows cols
          terms.side rules lv dir count x (whole x)
      unfolding given_by brought_to brought_by cutoff_at
      here-given =
          let len = length_then terms farm dir count lengths factors x in
          ap (λ (i : ℕ). brought_by terms.side (rules (to x)) (bearing_at dir x) (steepness_of (get_or factors x 0))
          (steepness_of (get_or factors (to x) 0)) i len + 1)
          (ap start_length (sym (code_read c.directed.drawn (to x) next-in)))
          ∙ rw (here-fall.1, next-fall.1, receiver-bearing c.directed.drawn x here_in code-some k, here-length)

    pub walk-turning : Turning terms farm dir count lengths factors x
    walk-turning =
        record {
          settling = record {
            sided = c.sided;
            dir-in = omega (arith, here_in, c.directed.drawn.long);
            count-in = omega (arith, here_in, c.count_long);
            lengths-in = omega (arith, here_in, w.handing.long);
            factors-in = omega (arith, here_in, w.factors-long);
            lengths-few = omega (arith, w.handing.long, c.directed.drawn.sized.small);
            factors-few = omega (arith, w.factors-long, c.directed.drawn.sized.small);
            fall-small = here-fall.0;
            gathered-small = omega (arith, here-whole, gathered-small c.directed terms.side rules lv count x);
          };
          rules = rules (beside_at terms dir x);
          next-ruled = c.ruled (beside_at terms dir x);
          beside-room = (λ k. beside-room rows cols x (bearing_at dir x) c.directed.drawn.sized
              (omega (arith, here_in, c.directed.drawn.sized.small)) k (receiver-near c.directed.drawn x here_in code-some k));
          next-other = (λ k q. (pointing c.directed.drawn).apart x (next-in k) (sym (next-is k) ∙ q));
          next-dir = (λ k. omega (arith, next-is k, next-in k, c.directed.drawn.long));
          next-lengths = (λ k. omega (arith, next-is k, next-in k, w.handing.long));
          next-factors = (λ k. omega (arith, next-is k, next-in k, w.factors-long));
          next_small = (λ k. omega (arith, ap (λ (z : ℕ). get_or factors z 0) (next-is k), (next-fall k).0));
        }

    module _ {lengths' factors' : List ℕ} (t : Turned terms farm dir count lengths factors x lengths' factors') where
      abbrev now : ℕ
      now = length_then terms farm dir count lengths factors x

      stored : get_or (set lengths x now) x 0 ≡ final_at rows cols terms.side rules lv dir count x (whole x)
      stored = get_or-set_same lengths x now 0 (omega (arith, here_in, w.handing.long)) ∙ here-length

      turn-of : Turns lengths lengths' x
      turn-of =
          turn-stored handed now
          (elim (dec_lt (bearing_at dir x) 8) [
            | yes k ↦ let kept = get_or-set_other lengths x (to x) now 0 ((pointing c.directed.drawn).apart x (next-in k)) in
                subst (λ (l : List ℕ). Turns (set lengths x now) l x) (sym (on k))
                (turn_on handed (length-set lengths x now ∙ w.handing.long) (next-in k) stored (ap₂ max (sym kept) (here-given k)))
            | no f ↦ subst (λ (l : List ℕ). Turns (set lengths x now) l x) (sym (t.leaves (omega arith)))
                (turn-off handed (omega (arith, receiver-leaves c.directed.drawn x here_in (omega arith))) stored)
          ])
        where
          on : (k : bearing_at dir x < 8) → lengths' ≡ lengths_next terms farm dir count lengths factors x (rules (to x)) (to x)
          on k =
              t.hands_on (rules (to x)) (subst (λ (z : ℕ). Ruled (rules (to x)) (farm z)) (sym (next-is k)) (c.ruled (to x))) k
              ∙ ap (lengths_next terms farm dir count lengths factors x (rules (to x))) (next-is k)

      stands : (z : ℕ) → stands_in order (p + 1) z ≡ stands_in order p z + when (eqb x z) 1
      stands z = stands-more order p z ∙ ap (λ (y : ℕ). stands_in order p z + when (eqb y z) 1) (sym e)

      abbrev made : ℕ
      made = factor_of (farm x).formula terms.side (steepness_of (get_or factors x 0)) now

      other : (z : ℕ) → (z ≡ x → ⊥) → get_or factors' z 0 ≡ get_or factors z 0
      other z q = ap (λ (l : List ℕ). get_or l z 0) t.factors-are ∙ get_or-set_other factors x z made 0 q

      same : get_or factors' x 0 ≡ factor_of (rules x).formula terms.side (steepness_at rows cols lv dir x) (final x)
      same =
          ap (λ (l : List ℕ). get_or l x 0) t.factors-are ∙ get_or-set_same factors x made 0 (omega (arith, here_in, w.factors-long))
          ∙ ap₂ (factor_of (farm x).formula terms.side) here-fall.1 here-final
          ∙ ap (λ (f : Formula). factor_of f terms.side (steepness_at rows cols lv dir x) (final x)) (c.ruled x).formula-is

      done_next : (z : ℕ) → 0 < stands_in order (p + 1) z → get_or factors' z 0 ≡ factor_of (rules z).formula terms.side
          (steepness_at rows cols lv dir z) (final z)
      done_next z q =
          elim (ℕ_discrete z x) [
            | yes g ↦ ap (λ (y : ℕ). get_or factors' y 0) g ∙ same ∙ ap
                (λ (y : ℕ). factor_of (rules y).formula terms.side (steepness_at rows cols lv dir y) (final y)) (sym g)
            | no f ↦ other z f ∙ w.done z (omega (arith, stands z, when-no 1 (ne_eqb x z (λ g. f (sym g)))))
          ]

      pub walk_turn : Walking rows terms.columns terms.side rules lv dir count order lengths' factors' (p + 1)
      walk_turn =
          record {
            handing = next-turn handed c.order_is.cells w.handing h (subst (Turns lengths lengths') e turn-of);
            factors-long = ap length t.factors-are ∙ length-set factors x made ∙ w.factors-long;
            falls = (λ z l q. let f : z ≡ x → ⊥ = λ g. omega (arith, stands z, when-yes 1 (eq-eqb x z (sym g))) in other z f
                ∙ w.falls z l (omega (arith, stands z)));
            done = done_next;
          }

-- ---- the start and the end

-- what the terms hold at each farm
terms-farmed : {largest : ℕ} (terms : Terms) (first second : Rules) → Farmed first largest terms.first → Farmed second largest terms.second → (farm : ℕ) →
    Farmed (of_farm first second farm) largest (farm_in terms farm)
terms-farmed {largest} terms first second f s farm = go (eqb farm 0)
  where
    go : (b : Bool) → Farmed (cond b first second) largest (cond b terms.first terms.second)
    go true = f
    go false = s

module _ {rows cols side : ℕ} {lv dir count order lengths factors : List ℕ}
    (m : Measuring rows cols side lv dir count order lengths factors) where
  -- two farms, which may be the same, chart the map for any choice of a farm for each cell
  pub measure-charted : (first second : Rules) (farm : ℕ → ℕ) {f s : Farm} →
      Farmed first (largest_of (length count) count) f → Farmed second (largest_of (length count) count) s →
      Charted rows lv (λ x. of_farm first second (farm x)) (record { columns = cols; side = side; first = f; second = s })
      (λ x. farm_in (record { columns = cols; side = side; first = f; second = s }) (farm x)) dir count order
  measure-charted first second farm {f} {s} a b =
      let farmed = (λ (x : ℕ). terms-farmed (record { columns = cols; side = side; first = f; second = s }) first second a b (farm x)) in
      record {
        directed = m.directed;
        capped = m.capped;
        sided = record { side-some = m.side-some; side-small = m.side-small };
        ruled = (λ x. (farmed x).ruled);
        count_long = m.count_long;
        channel = (λ x h. bounded rows cols (of_farm first second (farm x)) (farm_in (record { columns = cols; side = side; first = f; second = s }) (farm x)).most
            count m.count_long (farmed x).tells x h);
        order_is = m.order_is;
      }

module _ {rows cols side : ℕ} {lv dir count order lengths factors : List ℕ}
    (m : Measuring rows cols side lv dir count order lengths factors) (rules : ℕ → Rules) where
  abbrev cells : ℕ
  cells = rows * cols

  falls-long : length (falls_of rows cols lv dir) ≡ cells
  unfolding falls_of
  falls-long = length-tab cells (fall_at rows cols lv dir)

  falls_at : (z : ℕ) → z < cells → get_or (falls_of rows cols lv dir) z 0 ≡ fall_at rows cols lv dir z
  unfolding falls_of
  falls_at z h = get_or-tab cells (fall_at rows cols lv dir) 0 z h

  abbrev hands :
      Handed max greatest_to cells (mapped_at rows cols dir) (receiver_of rows cols dir) (given_by rows cols side rules lv dir count) (λ z. 0)
      (gathered_at rows cols side rules lv dir count)
  hands = lengths-handed m.directed side rules lv count

  pub walk_start : {zeros : List ℕ} → zeros ≡ replicate (length lengths) 0 → Walking rows cols side rules lv dir count order zeros factors 0
  walk_start {zeros} e =
      record {
        handing = hand-start hands order (ap length e ∙ length-replicate (length lengths) 0 ∙ m.lengths-long) zero-at;
        factors-long = ap length m.falls-are ∙ falls-long;
        falls = (λ z h q. ap (λ (l : List ℕ). get_or l z 0) m.falls-are ∙ falls_at z h);
        done = (λ z q. absurd (omega (arith, stands-none order z)));
      }
    where
      zero-at : (z : ℕ) → z < cells → get_or zeros z 0 ≡ 0
      zero-at z h = ap (λ (l : List ℕ). get_or l z 0) e ∙ get_or-replicate (length lengths) z 0 0 (omega (arith, m.lengths-long))

  module _ {lengths' factors' : List ℕ} (w : Walking rows cols side rules lv dir count order lengths' factors' (length order)) where
    abbrev valid-at : ℕ → Bool
    valid-at = mapped_at rows cols dir

    abbrev length-of : ℕ → ℕ
    length-of = length_at rows cols side rules lv dir count

    length-there : (z : ℕ) → z < cells → get_or lengths' z 0 ≡ length-of z
    length-there z h =
        ⊎_elim (λ v. hand-all hands m.order_is.cells w.handing z v ∙ final-is m.directed side rules lv count z v)
        (λ v. hand-rest hands m.order_is.cells w.handing z h v ∙ gathered_none m.directed side rules lv count z h v
        ∙ sym (length_none m.directed side rules lv count z v))
        (two (valid-at z))

    factor-there : (z : ℕ) → z < cells → get_or factors' z 0 ≡ factor_at rows cols side (rules z).formula lv dir lengths' z
    unfolding factor_at
    factor-there z h =
        ⊎_elim (λ v. w.done z (omega (arith, m.order_is.cells.once z, when-yes 1 v))
        ∙ ap (factor_of (rules z).formula side (steepness_at rows cols lv dir z)) (sym (length-there z h)) ∙ sym (rw v))
        (λ v. w.falls z h (omega (arith, m.order_is.cells.once z, when-no 1 v)) ∙ fall-none rows cols lv dir m.capped z v ∙ sym (rw v))
        (two (valid-at z))

    lengths-all : lengths' ≡ lengths_of rows cols side rules lv dir count
    lengths-all = ext_get_or 0 lengths' (lengths_of rows cols side rules lv dir count) (w.handing.long ∙ sym (lengths-long m.directed side rules lv count)) at
      where
        at : (z : ℕ) → z < length lengths' → get_or lengths' z 0 ≡ get_or (lengths_of rows cols side rules lv dir count) z 0
        at z h = let l : z < cells = omega (arith, w.handing.long) in length-there z l ∙ sym (lengths-at m.directed side rules lv count z l)

    abbrev factor-of : ℕ → ℕ
    factor-of z = factor_at rows cols side (rules z).formula lv dir lengths' z

    factors-all : factors' ≡ factors_of rows cols side rules lv dir lengths'
    unfolding factors_of
    factors-all = ext_get_or 0 factors' (factors_of rows cols side rules lv dir lengths') (w.factors-long ∙ sym (length-tab cells factor-of)) at
      where
        at : (z : ℕ) → z < length factors' → get_or factors' z 0 ≡ get_or (factors_of rows cols side rules lv dir lengths') z 0
        at z h = let l : z < cells = omega (arith, w.factors-long) in factor-there z l ∙ sym (get_or-tab cells factor-of 0 z l)

    pub walk-all : (lengths' ≡ lengths_of rows cols side rules lv dir count) × (factors' ≡ factors_of rows cols side rules lv dir lengths')
    walk-all = (lengths-all, factors-all)
