-- The steepest bearing by keys: the greatest cardinal and the greatest diagonal key tell the steepest bearing, the first on a tie. Assumes nothing.
use Rattle.std.proofs.Common.{◌≡◌, ℕ, zero, suc, ◌+◌, ◌-◌, ◌*◌, ◌/◌, ◌%◌, ◌<◌, ◌≤◌, max, Bool, true, false, cond, ◌&&◌, eqb, ltb, List, get_or, sym, refl, ap, ◌∙◌, subst, ⊎_elim, mul-le-mul, arith, eq-eqb, ne_eqb, le-leb}
use native.Mathlib.Decide.{dec_lt, dec_le, ℕ_discrete}
use borrow.Author.Tests.{lt-leb}
use Rattle.laws.specs.Sums.{greatest_to}
use Rattle.laws.specs.First.{first_of}
use Rattle.laws.proofs.Tests.{two}
use Rattle.laws.proofs.Sums.{greatest-more, greatest-ge, greatest-le, greatest-is}
use Rattle.laws.proofs.First.{first-is}
use Rattle.laws.proofs.Squares.{twice-square}
use Rattle.terrain.specs.Cells.{neighbour, code_of, cardinal}
use Rattle.terrain.specs.Filled.{top}
use Rattle.terrain.specs.Flat.{has_lower}
use Rattle.terrain.specs.Falls.{no_fall}
use Rattle.terrain.specs.Direction.{steep_of, steep_at, steepest_at, steep_bearing}
use Rattle.terrain.specs.InnerLevels.{drop_of, bearing_key, straight, Chosen, bearing_drop, bearing_fall, steepest_in, down_at, fall_down_at, FallTo}
use Rattle.terrain.specs.declared.direction.Fall.{Fall}
use Rattle.terrain.proofs.Neighbours.{each-bearing, code-small}
use Rattle.terrain.proofs.Directions.{steepest-some, some-steepest}

-- ---- bearings and drops

-- the cardinal bearings and the diagonal ones are all
by-parity : (P : ℕ → Type 0) → ((i : ℕ) → i < 4 → P (2 * i)) → ((i : ℕ) → i < 4 → P (2 * i + 1)) → (k : ℕ) → k < 8 → P k
by-parity P c d = each-bearing P (c 0 (omega arith)) (d 0 (omega arith)) (c 1 (omega arith)) (d 1 (omega arith)) (c 2 (omega arith)) (d 2 (omega arith)) (c 3 (omega arith)) (d 3 (omega arith))

-- the codes rise with the bearings
code_step : (k : ℕ) → k < 8 → k < 7 → code_of k < code_of (suc k)
code_step = each-bearing (λ k. k < 7 → code_of k < code_of (suc k)) (λ h. omega arith) (λ h. omega arith) (λ h. omega arith) (λ h. omega arith) (λ h. omega arith) (λ h. omega arith) (λ h. omega arith) (λ h. absurd (omega arith))

code-rises : (j k : ℕ) → k < 8 → j < k → code_of j < code_of k
code-rises j zero h l = absurd (omega arith)
code-rises j (suc k) h l =
    let s = code_step k (omega arith) (omega arith) in
    elim (ℕ_discrete j k) [ yes e ↦ omega (arith, ap code_of e) | no f ↦ omega (arith, code-rises j k (omega arith) (omega arith)) ]

pub drop-small : (v w : ℕ) → drop_of v w ≤ v
unfolding drop_of
drop-small v w = go (ltb 0 w && ltb w v)
  where
    go : (b : Bool) → cond b (v - w) 0 ≤ v
    go true = omega arith
    go false = omega arith

-- the squares that are compared are small
pub square-small : (m : ℕ) → m < 536870912 → m / 256 * (m / 256) ≤ 4398046511104
square-small m h = let l : m / 256 ≤ 2097152 = omega arith in omega (arith, mul-le-mul l l)

pub bit-small : (b : Bool) → cond b 0 1 ≤ 1
bit-small true = omega arith
bit-small false = omega arith

square-none : {a b : ℕ} → a * a ≤ 2 * (b * b) → b ≡ 0 → a ≡ 0
square-none {a} {b} h e = elim (dec_lt 0 a) [ yes l ↦ absurd (omega (arith, mul-le-mul l l, ap (λ (m : ℕ). m * m) e)) | no f ↦ omega arith ]

square-some : {n a : ℕ} → n < a * a → 0 < a
square-some {n} {a} h = elim (dec_lt 0 a) [ yes l ↦ l | no f ↦ let e : a ≡ 0 = omega arith in absurd (omega (arith, ap (λ (m : ℕ). m * m) e)) ]

square-less : {a b : ℕ} → a < b → a * a < b * b
square-less {a} {b} h = omega (arith, mul-le-mul h h)

-- ---- the greatest key of some bearings

module _ (rows cols : ℕ) (lv : List ℕ) (x : ℕ) where
  abbrev drop : ℕ → ℕ
  drop = bearing_drop rows cols lv x

  abbrev key : ℕ → ℕ
  key = bearing_key rows cols lv x

  -- m is the greatest key of the bearings s 0, s 1, .. s (n - 1), or 255 where none of them drops
  abbrev pub GreatestKey : (ℕ → ℕ) → ℕ → ℕ → Type 0
  GreatestKey s n m = m ≡ max 255 (greatest_to n (λ i. key (s i)))

  module _ (s : ℕ → ℕ) (n m : ℕ) (p : GreatestKey s n m) where
    -- no bearing drops more
    key-over : (i : ℕ) → i < n → drop (s i) ≤ m / 256
    key-over i h = omega (arith, greatest-ge n (λ i. key (s i)) i h)

    -- a drop is that of a bearing
    key-is : 0 < m / 256 → (i : ℕ) × (i < n) × (m ≡ key (s i))
    key-is h = let g = greatest-is n (λ i. key (s i)) (omega arith) in (g.0, g.1, omega (arith, g.2))

    -- that of the first bearing of those that drop as much
    key-first : (i j : ℕ) → m ≡ key (s i) → s i < 8 → j < n → s j < s i → drop (s j) < drop (s i)
    key-first i j e b l q = omega (arith, greatest-ge n (λ i. key (s i)) j l, code-rises (s j) (s i) b q, code-small (s i))

    key-small : (v : ℕ) → ((i : ℕ) → drop (s i) ≤ v) → m ≤ v * 256 + 255
    key-small v h = omega (arith, greatest-le n (λ i. key (s i)) (v * 256 + 255) (λ i l. omega (arith, h i)))

  -- what a key tells of its bearing
  key-drop : (k m : ℕ) → m ≡ key k → m / 256 ≡ drop k
  key-drop k m e = omega arith

  key-code : (k m : ℕ) → m ≡ key k → 255 - m % 256 ≡ code_of k
  key-code k m e = omega (arith, code-small k)

  -- ---- steepness

  abbrev steep : ℕ → ℕ
  steep = steep_at rows cols lv x

  steep-drop : (k : ℕ) → steep k ≡ steep_of k (drop k)
  unfolding steep_at drop_of
  steep-drop k = go (get_or lv x 0 - get_or lv (neighbour rows cols x k) 0) (ltb 0 (get_or lv (neighbour rows cols x k) 0) && ltb (get_or lv (neighbour rows cols x k) 0) (get_or lv x 0)) (cardinal k)
    where
      go : (d : ℕ) (b c : Bool) → cond b (cond c (2 * (d * d)) (d * d)) 0 ≡ cond c (2 * (cond b d 0 * cond b d 0)) (cond b d 0 * cond b d 0)
      go d true c = refl
      go d false true = refl
      go d false false = refl

  steep-cardinal : (i : ℕ) → steep (2 * i) ≡ 2 * (drop (2 * i) * drop (2 * i))
  steep-cardinal i = steep-drop (2 * i) ∙ ap (λ (b : Bool). cond b (2 * (drop (2 * i) * drop (2 * i))) (drop (2 * i) * drop (2 * i))) (eq-eqb (2 * i % 2) 0 (omega arith))

  steep-diagonal : (i : ℕ) → steep (2 * i + 1) ≡ drop (2 * i + 1) * drop (2 * i + 1)
  steep-diagonal i = steep-drop (2 * i + 1) ∙ ap (λ (b : Bool). cond b (2 * (drop (2 * i + 1) * drop (2 * i + 1))) (drop (2 * i + 1) * drop (2 * i + 1))) (ne_eqb ((2 * i + 1) % 2) 0 (omega arith))

  -- a bearing that none exceeds, nor equals before it, is the steepest
  steepest-bearing : (g : ℕ → ℕ) (k : ℕ) → k < 8 → 0 < steep k → ((j : ℕ) → j < 8 → (steep j ≤ steep k) × (j < k → steep j < steep k)) → steepest_in rows cols lv g x ≡ g k
  unfolding steepest_in steep_bearing steepest_at
  steepest-bearing g k h p q =
      let e : greatest_to 8 steep ≡ steep k = omega (arith, greatest-le 8 steep (steep k) (λ j l. (q j l).0), greatest-ge 8 steep k h) in
      rw (some-steepest rows cols lv x (omega arith))
      (ap g (ap (λ (m : ℕ). first_of (λ j. eqb (steep j) m) 8) e ∙ first-is (λ j. eqb (steep j) (steep k)) 8 k (λ j l. ne_eqb (steep j) (steep k) (λ r. omega (arith, (q j (omega arith)).1 l))) h (eq-eqb (steep k) (steep k) refl)))

  -- where no bearing drops there is none
  steepest-none : (g : ℕ → ℕ) → ((j : ℕ) → j < 8 → steep j ≤ 0) → steepest_in rows cols lv g x ≡ 0
  unfolding steepest_in steepest_at
  steepest-none g q = ⊎_elim (λ e. absurd (omega (arith, steepest-some rows cols lv x e, greatest-le 8 steep 0 q))) (λ e. rw e) (two (has_lower rows cols lv x))

  -- ---- the two greatest keys

  module _ {c d : ℕ} (p : GreatestKey (λ i. 2 * i) 4 c) (q : GreatestKey (λ i. 2 * i + 1) 4 d) where
    abbrev c_over : (i : ℕ) → i < 4 → drop (2 * i) ≤ c / 256
    c_over = key-over (λ i. 2 * i) 4 c p

    abbrev d-over : (i : ℕ) → i < 4 → drop (2 * i + 1) ≤ d / 256
    d-over = key-over (λ i. 2 * i + 1) 4 d q

    -- the cardinal bearing of the greatest key
    steepest-cardinal : (g : ℕ → ℕ) (i : ℕ) → i < 4 → c ≡ key (2 * i) → 0 < drop (2 * i) → d / 256 * (d / 256) ≤ 2 * (c / 256 * (c / 256)) → steepest_in rows cols lv g x ≡ g (2 * i)
    steepest-cardinal g i h e s t =
        let t' : d / 256 * (d / 256) ≤ 2 * (drop (2 * i) * drop (2 * i)) = omega (arith, ap (λ (m : ℕ). m * m) (key-drop (2 * i) c e)) in
        steepest-bearing g (2 * i) (omega arith) (omega (arith, steep-cardinal i, mul-le-mul s s))
        (by-parity (λ j. (steep j ≤ steep (2 * i)) × (j < 2 * i → steep j < steep (2 * i)))
        (λ j l. (
          let a : drop (2 * j) ≤ drop (2 * i) = omega (arith, c_over j l, key-drop (2 * i) c e) in omega (arith, steep-cardinal i, steep-cardinal j, mul-le-mul a a),
          λ b. omega (arith, steep-cardinal i, steep-cardinal j, square-less (key-first (λ i. 2 * i) 4 c p i j e (omega arith) l b)),
        ))
        (λ j l.
        let a = d-over j l in
        let n : drop (2 * j + 1) * drop (2 * j + 1) < 2 * (drop (2 * i) * drop (2 * i)) = less (drop (2 * j + 1)) (drop (2 * i)) s (omega (arith, mul-le-mul a a)) in
        (omega (arith, steep-cardinal i, steep-diagonal j), λ b. omega (arith, steep-cardinal i, steep-diagonal j))))
      where
        less : (a b : ℕ) → 0 < b → a * a ≤ 2 * (b * b) → a * a < 2 * (b * b)
        less a b s l = elim (dec_lt (a * a) (2 * (b * b))) [ yes h ↦ h | no f ↦ absurd (omega (arith, twice-square b a (omega arith))) ]

    -- the diagonal one
    steepest-diagonal : (g : ℕ → ℕ) (i : ℕ) → i < 4 → d ≡ key (2 * i + 1) → 2 * (c / 256 * (c / 256)) < d / 256 * (d / 256) → steepest_in rows cols lv g x ≡ g (2 * i + 1)
    steepest-diagonal g i h e t =
        let t' : 2 * (c / 256 * (c / 256)) < drop (2 * i + 1) * drop (2 * i + 1) = omega (arith, ap (λ (m : ℕ). m * m) (key-drop (2 * i + 1) d e)) in
        steepest-bearing g (2 * i + 1) (omega arith) (omega (arith, steep-diagonal i))
        (by-parity (λ j. (steep j ≤ steep (2 * i + 1)) × (j < 2 * i + 1 → steep j < steep (2 * i + 1)))
        (λ j l. let a = c_over j l in (omega (arith, steep-diagonal i, steep-cardinal j, mul-le-mul a a), λ b. omega (arith, steep-diagonal i, steep-cardinal j, mul-le-mul a a)))
        (λ j l. (
          let a : drop (2 * j + 1) ≤ drop (2 * i + 1) = omega (arith, d-over j l, key-drop (2 * i + 1) d e) in omega (arith, steep-diagonal i, steep-diagonal j, mul-le-mul a a),
          λ b. omega (arith, steep-diagonal i, steep-diagonal j, square-less (key-first (λ i. 2 * i + 1) 4 d q i j e (omega arith) l b)),
        )))

    -- none
    steepest-level : (g : ℕ → ℕ) → c / 256 ≡ 0 → d / 256 ≡ 0 → steepest_in rows cols lv g x ≡ 0
    steepest-level g e f =
        steepest-none g
        (by-parity (λ j. steep j ≤ 0)
        (λ j l. let a : drop (2 * j) ≤ 0 = omega (arith, c_over j l) in omega (arith, steep-cardinal j, mul-le-mul a a))
        (λ j l. let a : drop (2 * j + 1) ≤ 0 = omega (arith, d-over j l) in omega (arith, steep-diagonal j, mul-le-mul a a)))

    -- what is read off the steeper of the two, by its key and whether it is diagonal, is what the steepest bearing has
    steepest-read : (g : ℕ → ℕ) (h : ℕ → ℕ → ℕ) → ((k m : ℕ) → m ≡ key k → h m (k % 2) ≡ g k) → h 255 0 ≡ 0 → h (cond (straight c d) c d) (cond (straight c d) 0 1) ≡ steepest_in rows cols lv g x
    steepest-read g h tells none =
        elim (dec_le (d / 256 * (d / 256)) (2 * (c / 256 * (c / 256)))) [
          | yes t ↦ rw (le-leb (d / 256 * (d / 256)) (2 * (c / 256 * (c / 256))) t)
              (elim (dec_lt 0 (c / 256)) [
                | yes l ↦ (
                    let k = key-is (λ i. 2 * i) 4 c p l in
                    let e : 0 ≡ 2 * k.0 % 2 = omega arith in
                    ap (h c) e ∙ tells (2 * k.0) c k.2 ∙ sym (steepest-cardinal g k.0 k.1 k.2 (omega (arith, key-drop (2 * k.0) c k.2)) t)
                    )
                | no f ↦ (
                    let e : c / 256 ≡ 0 = omega arith in
                    let q : c ≡ 255 = omega arith in
                    ap (λ (m : ℕ). h m 0) q ∙ none ∙ sym (steepest-level g e (square-none t e))
                    )
              ])
          | no f ↦ (
              let t : 2 * (c / 256 * (c / 256)) < d / 256 * (d / 256) = omega arith in
              let k = key-is (λ i. 2 * i + 1) 4 d q (square-some t) in
              let e : 1 ≡ (2 * k.0 + 1) % 2 = omega arith in
              rw (lt-leb (d / 256 * (d / 256)) (2 * (c / 256 * (c / 256))) t) (ap (h d) e ∙ tells (2 * k.0 + 1) d k.2 ∙ sym (steepest-diagonal g k.0 k.1 k.2 t))
              )
        ]

    -- so of the code and the fall that are chosen, and of those that are written
    pub fall-chosen : {a r : Fall} → Chosen c d a → (r.code ≡ cond (ltb 0 (get_or lv x 0)) a.code 255) × (r.fall ≡ cond (ltb 0 (get_or lv x 0)) a.fall no_fall) → FallTo rows cols lv x r
    unfolding down_at fall_down_at
    fall-chosen {a} o e =
        record {
          code = e.0 ∙ ap (λ (m : ℕ). cond (ltb 0 (get_or lv x 0)) m 255) (o.code ∙ steepest-read code_of (λ m n. 255 - m % 256) key-code refl);
          fall = e.1 ∙ ap (λ (m : ℕ). cond (ltb 0 (get_or lv x 0)) m no_fall) (o.fall ∙ steepest-read (bearing_fall rows cols lv x) (λ m n. m / 256 * 2 + n) (λ k m q. omega (arith, key-drop k m q)) refl);
        }

-- ---- the loops over the bearings

-- the greatest keys c and d of the first n cardinal and of the first n diagonal bearings of x
pub record KeysTo (rows cols : ℕ) (lv : List ℕ) (x n c d : ℕ) : Type 0 where
  pub cardinal : GreatestKey rows cols lv x (λ i. 2 * i) n c
  pub diagonal : GreatestKey rows cols lv x (λ i. 2 * i + 1) n d

module _ {rows cols : ℕ} {lv : List ℕ} {x : ℕ} where
  pub keys_none : {c d : ℕ} → c ≡ 255 → d ≡ 255 → KeysTo rows cols lv x 0 c d
  unfolding greatest_to
  keys_none e f = record { cardinal = e; diagonal = f }

  pub keys-more : {n c d c' d' : ℕ} → KeysTo rows cols lv x n c d → c' ≡ max c (bearing_key rows cols lv x (2 * n)) → d' ≡ max d (bearing_key rows cols lv x (2 * n + 1)) → KeysTo rows cols lv x (n + 1) c' d'
  keys-more {n} p e f =
      record {
        cardinal = omega (arith, p.cardinal, greatest-more n (λ i. bearing_key rows cols lv x (2 * i)));
        diagonal = omega (arith, p.diagonal, greatest-more n (λ i. bearing_key rows cols lv x (2 * i + 1)));
      }

  pub keys-small : {n c d : ℕ} → get_or lv x 0 ≤ top → KeysTo rows cols lv x n c d → (c < 536870912) × (d < 536870912)
  keys-small {n} {c} {d} h p = (
    omega (arith, key-small rows cols lv x (λ i. 2 * i) n c p.cardinal (get_or lv x 0) (λ i. drop-small (get_or lv x 0) (get_or lv (neighbour rows cols x (2 * i)) 0))),
    omega (arith, key-small rows cols lv x (λ i. 2 * i + 1) n d p.diagonal (get_or lv x 0) (λ i. drop-small (get_or lv x 0) (get_or lv (neighbour rows cols x (2 * i + 1)) 0))),
  )

  pub keys-fall : {n c d : ℕ} {a r : Fall} → n ≡ 4 → KeysTo rows cols lv x n c d → Chosen c d a → (r.code ≡ cond (ltb 0 (get_or lv x 0)) a.code 255) × (r.fall ≡ cond (ltb 0 (get_or lv x 0)) a.fall no_fall) → FallTo rows cols lv x r
  keys-fall {n} {c} {d} e p = let k = subst (λ (m : ℕ). KeysTo rows cols lv x m c d) e p in fall-chosen rows cols lv x k.cardinal k.diagonal
