-- The search for rings as the code makes it: levels and what cells wait for in one word each, counting, taking a cell, and that what is left over at the end is exactly the
-- cells on rings. Assumes nothing.
use Rattle.std.proofs.Common.{◌≡◌, ℕ, ◌+◌, ◌-◌, ◌*◌, ◌%◌, ◌<◌, ◌≤◌, true, cond, ◌&&◌, eqb, ltb, leb, Option, position, List, length, get_or, set, sym, refl, ap, ◌∙◌, ap₂, subst, ⊎_elim, true≢false, arith, length-set, get_or-set_other, get_or-set_same, ext_get_or, ltb-true, lt-ltb, le-leb, leb-true}
use native.Mathlib.Decide.{dec_lt, ℕ_discrete}
use lib.ListN.{length-map, get_or-map, get_or-eq_default}
use Rattle.std.proofs.lemmas.List.{set_past}
use Rattle.std.proofs.lemmas.List.Sums.{position_or_len_is}
use Rattle.laws.specs.Lists.{tab}
use Rattle.laws.specs.Sums.{when}
use Rattle.laws.specs.First.{first_of}
use Rattle.laws.specs.Orders.{stands_in}
use Rattle.laws.proofs.Tests.{two, and_both}
use Rattle.laws.proofs.Sums.{sum-none}
use Rattle.laws.proofs.First.{first_holds, first-top, first-before, first-ext}
use Rattle.laws.proofs.Orders.{stands-none, placed-store, placed-other}
use Rattle.laws.proofs.Peel.{hand-cell, hand-room, next-new, left_le, peel-begin, peel-pass, peel-less}
use Rattle.laws.proofs.Rings.{ring-next, ring-left, left-ring}
use Rattle.terrain.specs.Trail.{mapped_at, receiver_of}
use Rattle.terrain.specs.Given.{ring_at, first_ring}
use Rattle.terrain.specs.InnerTrail.{Drawn}
use Rattle.terrain.specs.InnerDownhill.{Peeled}
use Rattle.terrain.specs.InnerGiven.{Keeping, wait_place, Noted, cell_below, left_word, left_at, levels_in, SameLevels, Counting, Searching, Following}
use Rattle.terrain.proofs.Receivers.{pointing}
use Rattle.terrain.proofs.Inflows.{inflow-few}
use Rattle.terrain.proofs.Rings.{ring-is, is-ring}
use Rattle.terrain.proofs.InnerDescending.{await-start, await-off, await-on, await-peeled, taken-last, taken-waits, taken_next}

-- ---- levels are kept

pub same_none : (words : List ℕ) → SameLevels words words
same_none words = record { long = refl; is = (λ z. refl) }

pub same_then : {a b c : List ℕ} → SameLevels a b → SameLevels b c → SameLevels a c
same_then s t = record { long = t.long ∙ s.long; is = (λ z. t.is z ∙ s.is z) }

pub same_set : (words : List ℕ) (x v : ℕ) → x < length words → v % 2097152 ≡ get_or words x 0 % 2097152 → SameLevels words (set words x v)
same_set words x v h e =
    record {
      long = length-set words x v;
      is = (λ z.
          elim (ℕ_discrete z x) [
            | yes q ↦ ap (λ (i : ℕ). get_or (set words x v) i 0 % wait_place) q ∙ ap (λ (w : ℕ). w % wait_place) (get_or-set_same words x v 0 h) ∙ e ∙ ap (λ (i : ℕ). get_or words i 0 % wait_place) (sym q)
            | no q ↦ ap (λ (w : ℕ). w % wait_place) (get_or-set_other words x z v 0 q)
          ]);
    }

-- what cells wait for before any is seen: NoData is shut
start_waits : ℕ → ℕ → List ℕ → List ℕ
start_waits rows cols dir = tab (rows * cols) (λ x. cond (mapped_at rows cols dir x) 0 9)

module _ {rows cols : ℕ} {dir : List ℕ} where
  -- ---- words

  -- a level fits below what is noted
  low : {lv : List ℕ} → Keeping rows cols lv dir → (z : ℕ) → get_or lv z 0 < 2097152
  low k z = omega (arith, k.levels.capped z)

  -- a valid cell is above level 0
  some_level : {lv : List ℕ} → Keeping rows cols lv dir → (z : ℕ) → mapped_at rows cols dir z ≡ true → 0 < get_or lv z 0
  some_level {lv} k z v = ltb-true 0 (get_or lv z 0) (sym (k.mapped z) ∙ v)

  noted-set : {lv waiting words : List ℕ} → Noted rows cols lv dir waiting words → (x w : ℕ) {v : ℕ} → x < rows * cols → mapped_at rows cols dir x ≡ true → v ≡ get_or lv x 0 + w * wait_place → Noted rows cols lv dir (set waiting x w) (set words x v)
  noted-set {lv} {waiting} {words} s x w {v} h m e =
      record {
        long = length-set words x v ∙ s.long;
        wide = length-set waiting x w ∙ s.wide;
        is = (λ z q.
            elim (ℕ_discrete z x) [
              | yes g ↦ omega (
                arith,
                ap (λ (i : ℕ). get_or (set words x v) i 0) g,
                ap (λ (i : ℕ). get_or (set waiting x w) i 0) g,
                ap (λ (i : ℕ). get_or lv i 0) g,
                get_or-set_same words x v 0 (omega (arith, s.long)),
                get_or-set_same waiting x w 0 (omega (arith, s.wide)),
              )
              | no g ↦ omega (arith, get_or-set_other words x z v 0 g, get_or-set_other waiting x z w 0 g, s.is z q)
            ]);
        none = (λ z q. get_or-set_other words x z v 0 (λ g. true≢false (sym m ∙ ap (mapped_at rows cols dir) (sym g) ∙ q)) ∙ s.none z q);
      }

  -- a word that is not 0 is a valid cell's
  word-valid : {lv waiting words : List ℕ} → Noted rows cols lv dir waiting words → (z : ℕ) → 0 < get_or words z 0 → mapped_at rows cols dir z ≡ true
  word-valid s z h = ⊎_elim (λ e. e) (λ e. absurd (omega (arith, s.none z e))) (two (mapped_at rows cols dir z))

  -- ---- counting

  pub count-start : {lv : List ℕ} → Keeping rows cols lv dir → Counting rows cols dir lv 0
  unfolding start_waits
  count-start {lv} k =
      let a = await-start k.drawn 9 (omega arith) {w = start_waits rows cols dir} refl in
      record {
        lv = lv;
        waiting = start_waits rows cols dir;
        keeps = k;
        noted =
            record {
              long = k.levels.long;
              wide = a.long;
              is = (λ z v. omega (arith, a.waits z v, sum-none (λ u. when (eqb (receiver_of rows cols dir u) z) 1)));
              none = (λ z v. elim (dec_lt 0 (get_or lv z 0)) [ yes l ↦ absurd (true≢false (sym (k.mapped z ∙ lt-ltb 0 (get_or lv z 0) l) ∙ v)) | no f ↦ omega arith ]);
            };
        awaits = a;
      }

  module _ {words : List ℕ} {x : ℕ} (s : Counting rows cols dir words x) where
    pub count-off : rows * cols ≤ receiver_of rows cols dir x → Counting rows cols dir words (x + 1)
    count-off h = record { lv = s.lv; waiting = s.waiting; keeps = s.keeps; noted = s.noted; awaits = await-off s.keeps.drawn s.awaits h }

    module _ {y : ℕ} (e : y ≡ receiver_of rows cols dir x) (h : y < rows * cols) where
      there : mapped_at rows cols dir y ≡ true
      there = ap (mapped_at rows cols dir) e ∙ (pointing s.keeps.drawn).stays x (omega arith)

      -- the word has room for one more
      pub count_small : get_or words y 0 < 18874368
      count_small = omega (arith, s.noted.is y there, low s.keeps y, s.awaits.waits y there, inflow-few s.keeps.drawn h x)

      pub count-on : Counting rows cols dir (set words y (get_or words y 0 + 2097152)) (x + 1)
      count-on =
          record {
            lv = s.lv;
            waiting = set s.waiting y (get_or s.waiting y 0 + 1);
            keeps = s.keeps;
            noted = noted-set s.noted y (get_or s.waiting y 0 + 1) h there (omega (arith, s.noted.is y there));
            awaits = await-on s.keeps.drawn s.awaits e h refl;
          }

  -- the cell x is seen by the one that it points at, if it points at one: that has room for it, and levels stay
  pub count_fits : {words : List ℕ} {x : ℕ} → Counting rows cols dir words x → receiver_of rows cols dir x < rows * cols → get_or words (receiver_of rows cols dir x) 0 + 2097152 < 4294967296
  count_fits s h = omega (arith, count_small s refl h)

  pub count_next : {words₀ words l : List ℕ} {x : ℕ} → Counting rows cols dir words x → SameLevels words₀ words → l ≡ set words (receiver_of rows cols dir x) (get_or words (receiver_of rows cols dir x) 0 + 2097152) → Counting rows cols dir l (x + 1) × SameLevels words₀ l
  count_next {words₀} {words} {l} {x} s t e =
      let y = receiver_of rows cols dir x in
      subst (λ (k : List ℕ). Counting rows cols dir k (x + 1) × SameLevels words₀ k) (sym e)
      (elim (dec_lt y (rows * cols)) [
        | yes h ↦ (count-on s refl h, same_then t (same_set words y (get_or words y 0 + 2097152) (omega (arith, h, s.noted.long)) (omega arith)))
        | no f ↦ subst (λ (k : List ℕ). Counting rows cols dir k (x + 1) × SameLevels words₀ k) (sym (set_past words y (get_or words y 0 + 2097152) (omega (arith, s.noted.long)))) (count-off s (omega arith), t)
      ])

  -- ---- the search begins

  pub search-start : {words : List ℕ} → Counting rows cols dir words (rows * cols) → Searching rows cols dir words 0 0 (rows * cols)
  search-start s =
      record {
        lv = s.lv;
        waiting = s.waiting;
        order = s.waiting;
        keeps = s.keeps;
        noted = s.noted;
        peeled = await-peeled s.keeps.drawn s.noted.wide s.awaits;
        shut = (λ z v l. stands-none s.waiting z);
      }

  module _ {words : List ℕ} {p b x : ℕ} (s : Searching rows cols dir words p b x) where
    -- the same with another bound, or another cell in hand
    search-hand : {c y : ℕ} → Peeled rows cols dir s.order s.waiting p c y → Searching rows cols dir words p c y
    search-hand q = record { lv = s.lv; waiting = s.waiting; order = s.order; keeps = s.keeps; noted = s.noted; peeled = q; shut = s.shut }

    pub search-less : Searching rows cols dir words p 0 x
    search-less = search-hand (peel-less (pointing s.keeps.drawn) s.peeled)

    -- the next cell is taken in hand if it is valid and waits for none
    pub search-begin : rows * cols ≤ x → 0 < get_or words b 0 → get_or words b 0 < 2097152 → Searching rows cols dir words p (b + 1) b
    search-begin h k l = search-hand (peel-begin (pointing s.keeps.drawn) s.peeled h (omega (arith, s.noted.is b (word-valid s.noted b k))))

    -- and else passed
    search-pass : rows * cols ≤ x → 0 < get_or s.waiting b 0 → Searching rows cols dir words p (b + 1) x
    search-pass h k = search-hand (peel-pass (pointing s.keeps.drawn) s.peeled h k)

    pub search-none : rows * cols ≤ x → b < rows * cols → get_or words b 0 < 1 → Searching rows cols dir words p (b + 1) x
    search-none h k l =
        search-pass h
        (elim (dec_lt 0 (get_or s.waiting b 0)) [
          | yes t ↦ t
          | no f ↦ (let v = (s.peeled.shut b k (omega arith)).0 in absurd (omega (arith, s.noted.is b v, some_level s.keeps b v)))
        ])

    pub search-waits : rows * cols ≤ x → 2097152 ≤ get_or words b 0 → Searching rows cols dir words p (b + 1) x
    search-waits h l = search-pass h (omega (arith, s.noted.is b (word-valid s.noted b (omega arith)), low s.keeps b))

    -- ---- taking the cell in hand

    module _ (h : x < rows * cols) where
      f : Drawn rows cols dir
      f = s.keeps.drawn

      pub search-valid : mapped_at rows cols dir x ≡ true
      search-valid = hand-cell (pointing s.keeps.drawn) s.peeled h

      pub search-room : p < rows * cols
      search-room = hand-room (pointing s.keeps.drawn) s.peeled h

      -- its word is its level
      hand_word : get_or words x 0 ≡ get_or s.lv x 0
      hand_word = omega (arith, s.noted.is x search-valid, s.peeled.held h)

      pub search-small : get_or words x 0 < 2097152
      search-small = omega (arith, hand_word, low s.keeps x)

      -- what is noted when it is marked
      abbrev marked : List ℕ
      marked = set words x (get_or words x 0 + 18874368)

      abbrev shutting : List ℕ
      shutting = set s.waiting x 9

      marked-noted : Noted rows cols s.lv dir shutting marked
      marked-noted = noted-set s.noted x 9 h search-valid (omega (arith, hand_word))

      pub marked-same : SameLevels words (set words x (get_or words x 0 + 18874368))
      marked-same = same_set words x (get_or words x 0 + 18874368) (omega (arith, s.noted.long, h)) (omega arith)

      -- a cell that is not shut then is not taken
      marked-shut : (z : ℕ) → mapped_at rows cols dir z ≡ true → get_or shutting z 0 < 9 → stands_in (set s.order p x) (p + 1) z ≡ 0
      marked-shut z v l =
          elim (ℕ_discrete z x) [
            | yes e ↦ absurd (omega (arith, ap (λ (i : ℕ). get_or shutting i 0) e, get_or-set_same s.waiting x 9 0 (omega (arith, s.noted.wide))))
            | no e ↦ placed-other (placed-store s.order p x (omega (arith, search-room, s.peeled.long))) z e ∙ s.shut z v (omega (arith, get_or-set_other s.waiting x z 9 0 e))
          ]

      -- where it points at none
      pub search-last : {y hand : ℕ} → y ≡ receiver_of rows cols dir x → rows * cols ≤ y → Following (rows * cols) b (set words x (get_or words x 0 + 18874368)) y hand → Searching rows cols dir (set words x (get_or words x 0 + 18874368)) (p + 1) b hand
      search-last {y} {hand} e o a =
          record {
            lv = s.lv;
            waiting = shutting;
            order = set s.order p x;
            keeps = s.keeps;
            noted = marked-noted;
            peeled =
                taken-last s.keeps.drawn 9 (omega arith) s.peeled h e o
                (record { some = (λ k. absurd (omega (arith, (a.some k).0))); none = (λ l q. a.none l (omega (arith, get_or-eq_default marked 0 {n = y} (omega (arith, marked-noted.long))))) });
            shut = marked-shut;
          }

      module _ {y : ℕ} (e : y ≡ receiver_of rows cols dir x) (l : y < rows * cols) where
        next-valid : mapped_at rows cols dir y ≡ true
        next-valid = ap (mapped_at rows cols dir) e ∙ (pointing s.keeps.drawn).stays x (omega arith)

        next-waits : 0 < get_or shutting y 0
        next-waits = taken-waits s.keeps.drawn 9 (omega arith) s.peeled h e l

        -- the cell that it points at waits for it
        pub search-next-waits : 2097152 ≤ get_or (set words x (get_or words x 0 + 18874368)) y 0
        search-next-waits = omega (arith, marked-noted.is y next-valid, next-waits)

        pub next-same : SameLevels words (set (set words x (get_or words x 0 + 18874368)) y (get_or (set words x (get_or words x 0 + 18874368)) y 0 - 2097152))
        next-same = same_then marked-same (same_set marked y (get_or marked y 0 - 2097152) (omega (arith, l, marked-noted.long)) (omega (arith, search-next-waits)))

        -- and then for one less
        pub search-next : {hand : ℕ} → Following (rows * cols) b (set (set words x (get_or words x 0 + 18874368)) y (get_or (set words x (get_or words x 0 + 18874368)) y 0 - 2097152)) y hand → Searching rows cols dir (set (set words x (get_or words x 0 + 18874368)) y (get_or (set words x (get_or words x 0 + 18874368)) y 0 - 2097152)) (p + 1) b hand
        search-next {hand} a =
            record {
              lv = s.lv;
              waiting = less;
              order = set s.order p x;
              keeps = s.keeps;
              noted = noted;
              peeled =
                  taken_next s.keeps.drawn 9 (omega arith) s.peeled h e l refl
                  (record { some = (λ k. let w = a.some k in (w.0, omega (arith, w.1, noted.is y next-valid))); none = (λ k q. a.none k (omega (arith, noted.is y next-valid, q, low s.keeps y))) });
              shut = (λ z v q.
                  elim (ℕ_discrete z y) [
                    | yes g ↦ placed-other (placed-store s.order p x (omega (arith, search-room, s.peeled.long))) z (λ t. (pointing s.keeps.drawn).apart x (omega arith) (sym e ∙ sym g ∙ t)) ∙ ap (stands_in s.order p) (g ∙ e) ∙ next-new (pointing s.keeps.drawn) s.peeled h (omega arith)
                    | no g ↦ marked-shut z v (omega (arith, get_or-set_other shutting y z (get_or shutting y 0 - 1) 0 g))
                  ]);
            }
          where
            less : List ℕ
            less = set shutting y (get_or shutting y 0 - 1)

            noted : Noted rows cols s.lv dir (set shutting y (get_or shutting y 0 - 1)) (set marked y (get_or marked y 0 - 2097152))
            noted = noted-set marked-noted y (get_or shutting y 0 - 1) l next-valid (omega (arith, marked-noted.is y next-valid, next-waits))

  -- ---- the end: what is left over is on rings

  module _ {words : List ℕ} {p b : ℕ} (h : rows * cols ≤ b) (s : Searching rows cols dir words p b (rows * cols)) where
    left-on-ring : (z : ℕ) → left_at words z ≡ true → ring_at rows cols dir z ≡ true
    left-on-ring z e =
        let w = and_both (leb 2097152 (get_or words z 0)) (ltb (get_or words z 0) 18874368) e in
        let lower = leb-true 2097152 (get_or words z 0) w.0 in
        let upper = ltb-true (get_or words z 0) 18874368 w.1 in
        let v = word-valid s.noted z (omega arith) in
        is-ring s.keeps.drawn z (left-ring (pointing s.keeps.drawn) s.peeled h (omega arith) v (s.shut z v (omega (arith, s.noted.is z v))))

    ring-on-left : (z : ℕ) → ring_at rows cols dir z ≡ true → left_at words z ≡ true
    ring-on-left z e =
        let r = ring-is s.keeps.drawn z e in
        let v = (pointing s.keeps.drawn).from z (ring-next r) in
        let i = (pointing s.keeps.drawn).within z v in
        let new = ring-left (pointing s.keeps.drawn) s.peeled r in
        let few : get_or s.waiting z 0 ≤ 8 = omega (arith, s.peeled.waits z v new, left_le (pointing s.keeps.drawn) s.order p z, inflow-few s.keeps.drawn i (rows * cols)) in
        let some : 0 < get_or s.waiting z 0 = elim (dec_lt 0 (get_or s.waiting z 0)) [ yes t ↦ t | no f ↦ absurd (omega (arith, i, s.peeled.ready z v (omega (arith, i)) new (omega arith))) ] in
        ap₂ ◌&&◌ (le-leb 2097152 (get_or words z 0) (omega (arith, s.noted.is z v))) (lt-ltb (get_or words z 0) 18874368 (omega (arith, s.noted.is z v, low s.keeps z)))

    left-same : (z : ℕ) → left_at words z ≡ ring_at rows cols dir z
    left-same z =
        ⊎_elim (λ e. e ∙ sym (left-on-ring z e)) (λ e. ⊎_elim (λ r. absurd (true≢false (sym (ring-on-left z r) ∙ e))) (λ r. e ∙ sym r) (two (ring_at rows cols dir z))) (two (left_at words z))

    pub left-first : {r : Option ℕ} → r ≡ position left_word words → r ≡ cell_below (rows * cols) (first_ring rows cols dir)
    unfolding first_ring
    left-first e =
        let at = position_or_len_is left_word words (first_of (left_at words) (length words)) 0 (first-top (left_at words) (length words)) (λ j h. first-before (left_at words) (length words) j h) (first_holds (left_at words) (length words)) in
        e ∙ ap (cell_below (length words)) (at ∙ first-ext (left_at words) (ring_at rows cols dir) (length words) (λ z l. left-same z))
        ∙ ap (λ (n : ℕ). cell_below n (first_of (ring_at rows cols dir) n)) s.noted.long

-- ---- the levels again

pub levels-again : {words₀ words : List ℕ} → SameLevels words₀ words → ((z : ℕ) → get_or words₀ z 0 < 2097152) → levels_in words ≡ words₀
levels-again {words₀} {words} s low =
    ext_get_or 0 (levels_in words) words₀ (length-map words (λ w. w % 2097152) ∙ s.long) (λ z h. omega (arith, get_or-map (λ w. w % 2097152) words z 0, s.is z, low z))
