-- Laws of the cells that wait in the flood's lists: beside each lies one that is not above the level in hand. Assumes nothing.
use Rattle.std.proofs.Common.{◌≡◌, ℕ, zero, suc, ◌+◌, ◌*◌, ◌%◌, ◌<◌, ◌≤◌, min, List, length, get_or, set, sym, refl, ap, ◌∙◌, ⊎_elim, suc-mul, arith, get_or-set_other, get_or-set_same}
use native.Mathlib.Decide.{dec_lt, ℕ_discrete}
use lib.ListN.{get_or-eq_default}
use Rattle.laws.proofs.Lists.{in_list}
use Rattle.terrain.specs.Cells.{neighbour}
use Rattle.terrain.specs.Filled.{top, lowest_of}
use Rattle.terrain.specs.InnerCells.{Sized, beside_of, Around, Edge}
use Rattle.terrain.specs.InnerFlood.{queued_from, Queueing, OnLine, Waiting, Rimming, Flooded, FloodedTo}
use Rattle.terrain.proofs.Neighbours.{across, across-small, neighbour-back, col-of}
use Rattle.terrain.proofs.Filling.{lowest-le, lowest-top}
use Rattle.terrain.proofs.InnerEdges.{around-cases, edge-north, edge-south, edge-west, edge-east}
use Rattle.terrain.proofs.InnerWords.{done-long, done-same, lowest-done, flooded-none, flooded-then, flooded-same, flooded-done}

-- ---- cells that are queued

module _ {P : ℕ → Type 0} where
  pub queueing-none : {l : List ℕ} → Queueing P l l
  queueing-none = record { same = refl; new = (λ z h q. absurd (omega arith)) }

  pub queueing-then : {l₀ l m : List ℕ} → Queueing P l₀ l → Queueing P l m → Queueing P l₀ m
  queueing-then {l₀} {l} a b =
      record {
        same = b.same ∙ a.same;
        new = (λ z h q. elim (dec_lt (get_or l z 0) queued_from) [ yes lt ↦ b.new z lt q | no f ↦ a.new z h (omega arith) ]);
      }

  pub queueing-long : {l m : List ℕ} → Queueing P l m → length m ≡ length l
  queueing-long {l} {m} a = sym (done-long m) ∙ ap length a.same ∙ done-long l

  -- what is queued is a cell
  pub queueing-as : {R : ℕ → Type 0} {l m : List ℕ} → Queueing P l m → ((z : ℕ) → z < length l → P z → R z) → Queueing R l m
  queueing-as {R} {l} {m} a f = record { same = a.same; new = (λ z h q. f z (omega (arith, queueing-long a, in_list m z (omega arith))) (a.new z h q)) }

-- a store that does not change what the word stands for
pub queueing-set : (l : List ℕ) (x w : ℕ) → min w top ≡ min (get_or l x 0) top → Queueing (λ z. z ≡ x) l (set l x w)
queueing-set l x w e =
    record {
      same = done-same l x w e;
      new = (λ z h q. elim (ℕ_discrete z x) [ yes i ↦ i | no f ↦ absurd (omega (arith, get_or-set_other l x z w 0 f)) ]);
    }

-- a cell that waited is no new one
pub queueing-old : {l m : List ℕ} {x : ℕ} → Queueing (λ z. z ≡ x) l m → queued_from ≤ get_or l x 0 → Queueing (λ z. ⊥) l m
queueing-old {l} {m} {x} a w = record { same = a.same; new = (λ z h q. omega (arith, ap (λ (y : ℕ). get_or l y 0) (a.new z h q))) }

-- ---- words that are none of cells that wait, one more at a time

pub unqueued-more : (l : List ℕ) (x w : ℕ) → x < length l → w < queued_from → ((i : ℕ) → i < x → get_or l i 0 < queued_from) → (i : ℕ) → i < x + 1 → get_or (set l x w) i 0 < queued_from
unqueued-more l x w h q f i j =
    elim (ℕ_discrete i x) [ yes e ↦ omega (arith, ap (λ (y : ℕ). get_or (set l x w) y 0) e, get_or-set_same l x w 0 h) | no g ↦ omega (arith, get_or-set_other l x i w 0 g, f i (omega arith)) ]

pub unqueued-all : (l : List ℕ) (x : ℕ) → length l ≤ x → ((i : ℕ) → i < x → get_or l i 0 < queued_from) → (i : ℕ) → get_or l i 0 < queued_from
unqueued-all l x h f i = elim (dec_lt i x) [ yes j ↦ f i j | no g ↦ omega (arith, get_or-eq_default l 0 {n = i} (omega arith)) ]

-- ---- cells on a line

pub line_at : {from step to : ℕ} (turns y z : ℕ) → y ≡ from + turns * step → y < to → z ≡ y → OnLine from step to z
line_at turns y z e h i = record { turns = turns; is = i ∙ e; before = omega arith }

pub line_on : (from step turns y : ℕ) → y ≡ from + turns * step → y + step ≡ from + (turns + 1) * step
line_on from step turns y e = let i : turns + 1 ≡ suc turns = omega arith in omega (arith, ap (λ (n : ℕ). n * step) i, suc-mul turns step)

-- ---- the lowest beside a cell

-- where every word is as low, or stands for the top, the lowest is as low
lowest-lower : (rows cols : ℕ) (l m : List ℕ) → ((z : ℕ) → min (get_or m z 0) top ≤ get_or l z 0) → (y k : ℕ) → lowest_of rows cols m y k ≤ lowest_of rows cols l y k
unfolding lowest_of
lowest-lower rows cols l m h y zero = omega arith
lowest-lower rows cols l m h y (suc k) = omega (arith, lowest-lower rows cols l m h y k, h (neighbour rows cols y k), lowest-top rows cols l y k)

module _ {rows cols : ℕ} where
  edge-low : (l : List ℕ) → length l ≡ rows * cols → (z : ℕ) → Edge rows cols z → lowest_of rows cols l z 8 ≤ 0
  edge-low l e z o = omega (arith, lowest-le rows cols l z o.bearing 8 o.small, get_or-eq_default l 0 {n = neighbour rows cols z o.bearing} (omega (arith, o.none)))

  -- a cell around one that is not above b has a lowest neighbour that is not
  around-low : (l : List ℕ) → Sized rows cols → length l ≡ rows * cols → (x b : ℕ) → x < rows * cols → get_or l x 0 ≤ b → (z : ℕ) → z < rows * cols → Around cols x z → lowest_of rows cols l z 8 ≤ b
  around-low l s e x b h v z i o =
      ⊎_elim beside (λ g. omega (arith, edge-low l e (beside_of cols x o.bearing) g, same)) (around-cases rows cols x o.bearing s o.room (omega (arith, o.is)))
    where
      same : lowest_of rows cols l z 8 ≡ lowest_of rows cols l (beside_of cols x o.bearing) 8
      same = ap (λ (y : ℕ). lowest_of rows cols l y 8) o.is

      beside : beside_of cols x o.bearing ≡ neighbour rows cols x o.bearing → lowest_of rows cols l z 8 ≤ b
      beside q =
          let n = o.is ∙ q in
          let back = ap (λ (y : ℕ). neighbour rows cols y (across o.bearing)) n ∙ neighbour-back rows cols x o.bearing h o.room.bearing-small (omega (arith, n)) in
          omega (arith, lowest-le rows cols l z (across o.bearing) 8 (across-small o.bearing o.room.bearing-small), ap (λ (y : ℕ). get_or l y 0) back)

  -- ---- the level in hand

  pub waiting-up : {l : List ℕ} {b c : ℕ} → Waiting rows cols l b → b ≤ c → Waiting rows cols l c
  waiting-up w h = record { low = (λ y q. omega (arith, w.low y q)) }

  waiting-more : {P : ℕ → Type 0} {l m : List ℕ} {b : ℕ} → Waiting rows cols l b → Queueing P l m → ((z : ℕ) → z < length l → P z → lowest_of rows cols l z 8 ≤ b) → Waiting rows cols m b
  waiting-more {P} {l} {m} {b} w a f =
      record {
        low =
            λ y q.
            let e = sym (lowest-done rows cols m y 8) ∙ ap (λ (n : List ℕ). lowest_of rows cols n y 8) a.same ∙ lowest-done rows cols l y 8 in
            elim (dec_lt (get_or l y 0) queued_from) [
              | yes h ↦ omega (arith, f y (omega (arith, queueing-long a, in_list m y (omega arith))) (a.new y h q))
              | no g ↦ omega (arith, w.low y (omega arith))
            ];
      }

  -- a cell that waits is done at a level that is not above b
  pub waiting-done : {l : List ℕ} {b : ℕ} → Waiting rows cols l b → (x v : ℕ) → queued_from ≤ get_or l x 0 → v < queued_from → Waiting rows cols (set l x v) b
  waiting-done {l} {b} w x v q h =
      record {
        low =
            λ y p.
            elim (ℕ_discrete y x) [
              | yes e ↦ absurd (omega (arith, ap (λ (z : ℕ). get_or (set l x v) z 0) e, here))
              | no f ↦ omega (arith, lowest-lower rows cols l (set l x v) lower y 8, w.low y (omega (arith, get_or-set_other l x y v 0 f)))
            ];
      }
    where
      here : get_or (set l x v) x 0 ≡ v
      here = get_or-set_same l x v 0 (in_list l x (omega arith))

      lower : (z : ℕ) → min (get_or (set l x v) z 0) top ≤ get_or l z 0
      lower z = elim (ℕ_discrete z x) [ yes e ↦ omega (arith, ap (λ (y : ℕ). get_or l y 0) e) | no f ↦ omega (arith, get_or-set_other l x z v 0 f) ]

  -- the cells around one that is not above b are queued
  pub waiting-around : {l m : List ℕ} {b x : ℕ} → Sized rows cols → length l ≡ rows * cols → Waiting rows cols l b → x < rows * cols → get_or l x 0 ≤ b → Queueing (Around cols x) l m → Waiting rows cols m b
  waiting-around {l} {m} {b} {x} s e w h v a = waiting-more w a (λ z i o. around-low l s e x b h v z (omega arith) o)

  -- where no word is one of a cell that waits
  pub waiting_none : {l : List ℕ} → ((x : ℕ) → get_or l x 0 < queued_from) → (b : ℕ) → Waiting rows cols l b
  waiting_none h b = record { low = (λ y q. absurd (omega (arith, h y))) }

  -- ---- from words to words, with the level in hand

  pub to_none : {l : List ℕ} {b : ℕ} → Waiting rows cols l b → FloodedTo rows cols l l b
  to_none w = record { flooded = flooded-none; waiting = w }

  pub to-then : {l₀ l m : List ℕ} {b c : ℕ} → FloodedTo rows cols l₀ l b → FloodedTo rows cols l m c → FloodedTo rows cols l₀ m c
  to-then a b = record { flooded = flooded-then a.flooded b.flooded; waiting = b.waiting }

  pub to-up : {l₀ l : List ℕ} {b c : ℕ} → FloodedTo rows cols l₀ l b → b ≤ c → FloodedTo rows cols l₀ l c
  to-up a h = record { flooded = a.flooded; waiting = waiting-up a.waiting h }

  -- lists were moved
  pub to-moved : {l m : List ℕ} {b : ℕ} → Waiting rows cols l b → Queueing (λ z. ⊥) l m → FloodedTo rows cols l m b
  to-moved w a = record { flooded = flooded-same a.same; waiting = waiting-more w a (λ z h n. absurd n) }

  -- a cell that waits is done at the level in hand, and reaches the cells around it
  pub to-taken : {l m : List ℕ} {b x : ℕ} → Sized rows cols → length l ≡ rows * cols → Waiting rows cols l b → queued_from ≤ get_or l x 0 → b < queued_from → Queueing (Around cols x) (set l x b) m → FloodedTo rows cols l m b
  to-taken {l} {m} {b} {x} s e w q h a =
      record {
        flooded = flooded-then done (flooded-same a.same);
        waiting = waiting-around s (done.long ∙ e) (waiting-done w x b q h) (omega (arith, i)) (omega (arith, get_or-set_same l x b 0 i)) a;
      }
    where
      i : x < length l
      i = in_list l x (omega arith)

      done : Flooded rows cols l (set l x b)
      done = flooded-done l x b (omega arith) (w.low x q)

-- ---- rim cells

module _ {cols : ℕ} where
  pub rimming-none : {l : List ℕ} → Rimming cols l l
  rimming-none = record { same = refl; waiting = (λ rows s e w. w) }

  pub rimming-then : {l₀ l m : List ℕ} → Rimming cols l₀ l → Rimming cols l m → Rimming cols l₀ m
  rimming-then {l₀} {l} a b =
      record {
        same = b.same ∙ a.same;
        waiting = (λ rows s e w. b.waiting rows s (sym (done-long l) ∙ ap length a.same ∙ done-long l₀ ∙ e) (a.waiting rows s e w));
      }

  -- cells on the edge
  pub rimming-edge : {P : ℕ → Type 0} {l m : List ℕ} → Queueing P l m → ((rows z : ℕ) → Sized rows cols → length l ≡ rows * cols → P z → Edge rows cols z) → Rimming cols l m
  rimming-edge {P} {l} a f = record { same = a.same; waiting = (λ rows s e w. waiting-more w a (λ z h p. edge-low l e z (f rows z s e p))) }

  -- the cells around one that has no data
  pub rimming-around : {l m : List ℕ} {x : ℕ} → x < length l → get_or l x 0 ≡ 0 → Queueing (Around cols x) l m → Rimming cols l m
  rimming-around h v a = record { same = a.same; waiting = (λ rows s e w. waiting-around s e w (omega arith) (omega arith) a) }

  -- the lines of the edge
  pub rimming-north : {l m : List ℕ} → Queueing (OnLine 0 1 cols) l m → Rimming cols l m
  rimming-north a = rimming-edge a (λ rows z s e o. edge-north rows cols z o.before)

  pub rimming-south : {l m : List ℕ} {from cells : ℕ} → cells ≡ length l → from + cols ≡ cells → Queueing (OnLine from 1 cells) l m → Rimming cols l m
  rimming-south q f a = rimming-edge a (λ rows z s e o. edge-south rows cols z s.cols-some (omega (arith, o.is)))

  pub rimming-west : {l m : List ℕ} {cells : ℕ} → Queueing (OnLine 0 cols cells) l m → Rimming cols l m
  rimming-west a = rimming-edge a (λ rows z s e o. edge-west rows cols z (ap (λ (y : ℕ). y % cols) (let i : z ≡ o.turns * cols + 0 = omega (arith, o.is) in i) ∙ col-of cols o.turns 0 s.cols-some))

  pub rimming-east : {l m : List ℕ} {last cells : ℕ} → last + 1 ≡ cols → Queueing (OnLine last cols cells) l m → Rimming cols l m
  rimming-east {l} {m} {last} h a =
      rimming-edge a (λ rows z s e o. edge-east rows cols z (omega (arith, ap (λ (y : ℕ). y % cols) (let i : z ≡ o.turns * cols + last = omega (arith, o.is) in i) ∙ col-of cols o.turns last (omega arith))))
