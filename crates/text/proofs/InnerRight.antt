-- Right words by the runs of digits in them: which words are right, what can begin one, and where a word breaks. Assumes nothing.
use mathlib.Core.Path.{◌≡◌, refl, sym, ap, ◌∙◌, subst}
use mathlib.Core.Bool.{true, false, true≢false}
use mathlib.Core.List.{List, ◌++◌, append-nil}
use Prim.Native.Nat.{ℕ, zero, suc, ◌+◌, ◌-◌, ◌≤◌, ◌<◌}
use native.Mathlib.Nat.{le_refl}
use native.Mathlib.Decide.{dec_lt}
use native.Mathlib.Omega.{arith}
use lib.ListN.{length, get_or, take, drop, replicate, length-append, length-replicate, get_or-replicate, take-append-drop, get_or-append}
use lib.Seq.{length-take-le, take-length, get_or-take, get_or-append-add}
use Rattle.text.specs.Numbers.{digit}
use Rattle.text.specs.Right.{Digits, Sign, plain, minus, Decimals, none, point, RightNumber, RightCount, CanBegin, Breaks, there, short, BreaksAt}

-- a run of at most n digits from i on ends at j
pub record Ran (w : List ℕ) (i n j : ℕ) : Type 0 where
  pub from : i ≤ j
  pub few : j ≤ i + n
  pub each : (k : ℕ) → i ≤ k → k < j → digit (get_or w k 0) ≡ true
  pub stops : j < i + n → digit (get_or w j 0) ≡ false
  pub within : j ≤ length w

-- u begins with the first m bytes of w,
record Begins (u w : List ℕ) (m : ℕ) : Type 0 where
  pub same : (k : ℕ) → k < m → get_or u k 0 ≡ get_or w k 0
  pub long : m ≤ length u

-- and these are more than p; or both lists have p bytes
record Reaches (u w : List ℕ) (p m : ℕ) : Type 0 where
  pub far : p ≤ m
  pub end : p ≡ m → (p ≡ length w) × (p ≡ length u)

-- ---- the first j bytes of w with more after them, or with n zeros

begins : (w : List ℕ) (j : ℕ) → j ≤ length w → (rest : List ℕ) → Begins (take j w ++ rest) w j
begins w j h rest =
    record {
      same = λ k l. get_or-append (take j w) rest 0 k (omega (arith, length-take-le j w h)) ∙ get_or-take j w k 0 l;
      long = omega (arith, length-append (take j w) rest, length-take-le j w h);
    }

abbrev begun : List ℕ → ℕ → ℕ → List ℕ
begun w j n = take j w ++ replicate n 48

module _ (w : List ℕ) (j n : ℕ) (h : j ≤ length w) where
  begun-length : length (begun w j n) ≡ j + n
  begun-length = omega (arith, length-append (take j w) (replicate n 48), length-take-le j w h, length-replicate {A = ℕ} n 48)

  begun-old : (k : ℕ) → k < j → get_or (begun w j n) k 0 ≡ get_or w k 0
  begun-old k l = (begins w j h (replicate n 48)).same k l

  begun-new : (k : ℕ) → j ≤ k → k < j + n → get_or (begun w j n) k 0 ≡ 48
  begun-new k l u =
      let e : k ≡ length (take j w) + (k - j) = omega (arith, length-take-le j w h) in
      ap (λ (x : ℕ). get_or (begun w j n) x 0) e ∙ get_or-append-add (take j w) (replicate n 48) (k - j) 0 ∙ get_or-replicate n (k - j) 48 0 (omega arith)

  begun-digits : (i : ℕ) → i < j + n → ((k : ℕ) → i ≤ k → k < j → digit (get_or w k 0) ≡ true) → Digits (begun w j n) i (length (begun w j n))
  begun-digits i l d =
      record {
        some = omega (arith, begun-length);
        each = λ k y z. elim (dec_lt k j) [ yes o ↦ ap digit (begun-old k o) ∙ d k y o | no o ↦ ap digit (begun-new k (omega arith) (omega (arith, begun-length))) ];
      }

begun_all : (w : List ℕ) → begun w (length w) 0 ≡ w
begun_all w = append-nil (take (length w) w) ∙ take-length w

-- digits of u from i up to k go on no longer than the run of w, if u has the byte of w at which that run ends
past : (u w : List ℕ) (m i n j k : ℕ) → Ran w i n j → Begins u w m → j < m → Digits u i k → k ≤ i + n → k ≤ j
past u w m i n j k r s l d f =
    elim (dec_lt j k) [
      | yes o ↦ absurd (true≢false (sym (d.each j r.from o) ∙ ap digit (s.same j l) ∙ r.stops (omega arith)))
      | no o ↦ omega arith
    ]

-- ---- words that break, in either form

-- a word breaks at p, if no right word reaches past p with its bytes
breaks : (Right : List ℕ → Type 0) (w : List ℕ) (p : ℕ) → 0 < length w → p ≤ length w → ((j : ℕ) → j ≤ p → CanBegin Right (take j w))
    → ((u : List ℕ) (m : ℕ) → Begins u w m → 0 < m → Reaches u w p m → Right u → ⊥) → BreaksAt Right w p
breaks Right w p some h before wrong =
    record {
      before = before;
      here =
          elim (dec_lt p (length w)) [
            | yes l ↦ there l (λ c. wrong (take (p + 1) w ++ c.rest) (p + 1) (begins w (p + 1) (omega arith) c.rest) (omega arith)
                (record { far = omega arith; end = λ e. absurd (omega arith) }) c.right)
            | no l ↦ let e : p ≡ length w = omega arith in
                short e (wrong w (length w) (record { same = λ k o. refl; long = le_refl (length w) }) some (record { far = h; end = λ o. (e, e) }))
          ];
    }

-- a word that breaks is not right
pub broken : (Right : List ℕ → Type 0) (w : List ℕ) (k : ℕ) → BreaksAt Right w k → Right w → ⊥
broken Right w k h r = go h.here
  where
    go : Breaks Right w k → ⊥
    go (there l n) = n (record { rest = drop (k + 1) w; right = subst Right (sym (take-append-drop (k + 1) w)) r })
    go (short e n) = n r

-- ---- counts

module _ (w : List ℕ) (d : ℕ) (r : Ran w 0 9 d) where
  count-begun : (j n : ℕ) → j ≤ d → 0 < j + n → j + n ≤ 9 → RightCount (begun w j n)
  count-begun j n h l u =
      let k : j ≤ length w = omega (arith, r.within) in
      record { digits = begun-digits w j n k 0 l (λ x y z. r.each x y (omega arith)); few = omega (arith, begun-length w j n k) }

  count-can : (j : ℕ) → j ≤ d → CanBegin RightCount (take j w)
  count-can j h =
      elim (dec_lt 0 j) [
        | yes l ↦ record { rest = replicate 0 48; right = count-begun j 0 h (omega arith) (omega (arith, r.few)) }
        | no l ↦ record { rest = replicate 1 48; right = count-begun j 1 h (omega arith) (omega arith) }
      ]

  pub count-all : 0 < d → d ≡ length w → RightCount w
  count-all l e = subst RightCount (begun_all w) (count-begun (length w) 0 (omega arith) (omega arith) (omega (arith, r.few)))

  pub count-off : d < length w → BreaksAt RightCount w d
  count-off l =
      breaks RightCount w d (omega arith) r.within count-can
      (λ u m s k h c. elim (dec_lt d m) [
        | yes o ↦ omega (arith, past u w m 0 9 d (length u) r s o c.digits (omega (arith, c.few)), s.long)
        | no o ↦ omega (arith, (h.end (omega (arith, h.far))).0)
      ])

-- ---- numbers: the sign ends at b, and the digits after it at d

sign-short : {w : List ℕ} {b : ℕ} → Sign w b → b ≤ 1
sign-short plain = omega arith
sign-short (minus e) = omega arith

begun-sign : (w : List ℕ) (j n : ℕ) {b : ℕ} → j ≤ length w → 0 < j → Sign w b → Sign (begun w j n) b
begun-sign w j n h l plain = plain
begun-sign w j n h l (minus e) = minus (begun-old w j n h 0 l ∙ e)

same_sign : {u w : List ℕ} {m b c k : ℕ} → Begins u w m → 0 < m → Sign w b → (b ≡ 0 → get_or w 0 0 ≡ 45 → ⊥) → Sign u c → Digits u c k → c ≡ b
same_sign s l plain h plain g = refl
same_sign s l (minus e) h (minus z) g = refl
same_sign s l plain h (minus z) g = absurd (h refl (sym (s.same 0 l) ∙ z))
same_sign s l (minus e) h plain g = absurd (true≢false (sym (g.each 0 (omega arith) g.some) ∙ ap digit (s.same 0 l ∙ e)))

alone : (w : List ℕ) → RightNumber (begun w 0 1)
alone w =
    record {
      b = 0;
      d = length (begun w 0 1);
      sign = plain;
      whole = begun-digits w 0 1 (omega arith) 0 (omega arith) (λ x y z. absurd (omega arith));
      few = omega (arith, begun-length w 0 1 (omega arith));
      decimals = none refl;
    }

module _ (w : List ℕ) (b d : ℕ) (sign : Sign w b) (unsigned : b ≡ 0 → get_or w 0 0 ≡ 45 → ⊥) (whole : Ran w b 9 d) where
  whole-begun : (j n : ℕ) → 0 < j → j ≤ d → b < j + n → j + n ≤ b + 9 → RightNumber (begun w j n)
  whole-begun j n l h s f =
      let k : j ≤ length w = omega (arith, whole.within) in
      record {
        b = b;
        d = length (begun w j n);
        sign = begun-sign w j n k l sign;
        whole = begun-digits w j n k b s (λ x y z. whole.each x y (omega arith));
        few = omega (arith, begun-length w j n k);
        decimals = none refl;
      }

  whole-can : (j : ℕ) → j ≤ d → CanBegin RightNumber (take j w)
  whole-can zero h = record { rest = replicate 1 48; right = alone w }
  whole-can (suc i) h =
      elim (dec_lt b (suc i)) [
        | yes l ↦ record { rest = replicate 0 48; right = whole-begun (suc i) 0 (omega arith) h (omega arith) (omega (arith, whole.few)) }
        | no l ↦ record { rest = replicate 1 48; right = whole-begun (suc i) 1 (omega arith) h (omega (arith, sign-short sign)) (omega arith) }
      ]

  pub number-whole : b < d → d ≡ length w → RightNumber w
  number-whole l e = subst RightNumber (begun_all w) (whole-begun (length w) 0 (omega arith) (omega arith) (omega arith) (omega (arith, whole.few)))

  -- a right number that begins with the first m bytes of w
  module _ (u : List ℕ) (m : ℕ) (s : Begins u w m) (some : 0 < m) (r : RightNumber u) where
    b-is : r.b ≡ b
    b-is = same_sign s some sign unsigned r.sign r.whole

    d-within : r.d ≤ length u
    d-within = go r.decimals
      where
        go : Decimals u r.d → r.d ≤ length u
        go (none e) = omega arith
        go (point z g f) = omega (arith, g.some)

    d-is : d < m → r.d ≡ d
    d-is l =
        let up : r.d ≤ d = past u w m b 9 d r.d whole s l (subst (λ (x : ℕ). Digits u x r.d) b-is r.whole) (omega (arith, r.few, b-is)) in
        elim (dec_lt r.d d) [ yes o ↦ absurd (low o r.decimals) | no o ↦ omega arith ]
      where
        low : r.d < d → Decimals u r.d → ⊥
        low o (none e) = omega (arith, s.long)
        low o (point z g f) =
            true≢false (sym (whole.each r.d (omega (arith, r.whole.some, b-is)) o) ∙ ap digit (sym (s.same r.d (omega arith)) ∙ z))

    -- no digit stands at b
    no_digit : d ≡ b → Reaches u w d m → ⊥
    no_digit e h =
        elim (dec_lt d m) [
          | yes l ↦ omega (arith, d-is l, b-is, r.whole.some)
          | no l ↦ omega (arith, d-within, b-is, r.whole.some, (h.end (omega (arith, h.far))).1)
        ]

    -- after the digits no point stands, and the word goes on
    no-point : (get_or w d 0 ≡ 46 → ⊥) → d < m → ⊥
    no-point z l = go r.decimals
      where
        go : Decimals u r.d → ⊥
        go (none e) = omega (arith, d-is l, s.long)
        go (point y g f) = z (sym (s.same d l) ∙ subst (λ (x : ℕ). get_or u x 0 ≡ 46) (d-is l) y)

    -- the decimals end at f: too few, or the word goes on
    no-decimals : (f : ℕ) → Ran w (d + 1) 6 f → (f ≡ length w → f ≡ d + 1) → Reaches u w f m → ⊥
    no-decimals f q n h = go r.decimals
      where
        is : r.d ≡ d
        is = d-is (omega (arith, h.far, q.from))

        go : Decimals u r.d → ⊥
        go (none e) = omega (arith, is, h.far, q.from, s.long)
        go (point y g c) =
            elim (dec_lt f m) [
              | yes l ↦ omega (arith, s.long, past u w m (d + 1) 6 f (length u) q s l (subst (λ (x : ℕ). Digits u (x + 1) (length u)) is g) (omega (arith, is)))
              | no l ↦ let e = h.end (omega (arith, h.far)) in omega (arith, is, g.some, e.1, n e.0)
            ]

  module _ (some : 0 < length w) where
    pub number-none : d ≡ b → BreaksAt RightNumber w d
    number-none e = breaks RightNumber w d some whole.within whole-can (λ u m s l h r. no_digit u m s l r e h)

    pub number-off : (get_or w d 0 ≡ 46 → ⊥) → d < length w → BreaksAt RightNumber w d
    number-off z k =
        breaks RightNumber w d some whole.within whole-can
        (λ u m s l h r. elim (dec_lt d m) [ yes o ↦ no-point u m s l r z o | no o ↦ omega (arith, (h.end (omega (arith, h.far))).0) ])

  -- a point stands at d, and the decimals end at f
  module _ (some : b < d) (z : get_or w d 0 ≡ 46) (f : ℕ) (tail : Ran w (d + 1) 6 f) where
    point-begun : (j n : ℕ) → d < j → j ≤ f → d + 1 < j + n → j + n ≤ d + 7 → RightNumber (begun w j n)
    point-begun j n l h s c =
        let k : j ≤ length w = omega (arith, tail.within) in
        record {
          b = b;
          d = d;
          sign = begun-sign w j n k (omega arith) sign;
          whole = record { some = some; each = λ x y o. ap digit (begun-old w j n k x (omega arith)) ∙ whole.each x y o };
          few = whole.few;
          decimals =
              point (begun-old w j n k d l ∙ z) (begun-digits w j n k (d + 1) s (λ x y o. tail.each x y (omega arith))) (omega (arith, begun-length w j n k));
        }

    point-can : (j : ℕ) → j ≤ f → CanBegin RightNumber (take j w)
    point-can j h =
        elim (dec_lt d j) [
          | yes l ↦ elim (dec_lt (d + 1) j) [
            | yes o ↦ record { rest = replicate 0 48; right = point-begun j 0 l h (omega arith) (omega (arith, tail.few)) }
            | no o ↦ record { rest = replicate 1 48; right = point-begun j 1 l h (omega arith) (omega arith) }
          ]
          | no l ↦ whole-can j (omega arith)
        ]

    pub number-fraction : d + 1 < f → f ≡ length w → RightNumber w
    number-fraction l e = subst RightNumber (begun_all w) (point-begun (length w) 0 (omega arith) (omega arith) (omega arith) (omega (arith, tail.few)))

    pub number_cut : (f ≡ length w → f ≡ d + 1) → BreaksAt RightNumber w f
    number_cut n = breaks RightNumber w f (omega (arith, tail.within, tail.from)) tail.within point-can (λ u m s l h r. no-decimals u m s l r f tail n h)
