-- Lowering until still: the rounds' definition, any order of lowering in place, and any list that can stand and that no offer lowers, are one list. Assumes nothing.
use mathlib.Core.Path.{◌≡◌, refl, sym, ap, subst, subst₂, ◌∙◌}
use mathlib.Core.List.{List}
use mathlib.Core.Logic.{⊎_elim}
use mathlib.Core.Bool.{Bool, true, false, cond, ◌||◌, true≢false, false≢true}
use Prim.Native.Nat.{ℕ, zero, suc, ◌+◌, ◌≤◌, ◌<◌, min}
use native.Mathlib.Omega.{arith}
use native.Mathlib.Decide.{dec_le, dec_lt, ℕ_discrete}
use lib.ListN.{length, get_or, set, length-set}
use lib.Seq.{ext_get_or, get_or-set_same, get_or-set_other}
use lib.Dec.{ltb}
use borrow.Author.Tests.{ltb-true, ltb-false, lt-ltb, le-ltb}
use borrow.Author.Count.{below_more}
use Rattle.laws.specs.Lists.{total}
use Rattle.laws.specs.Settle.{Lowering, start_of, round_of, settle_of, settled_of, relaxed_of, Still, Kept, Rule, Eased, Sweeping, Settling}
use Rattle.laws.proofs.Tests.{two}
use Rattle.laws.proofs.Lists.{length-tab, get_or-tab, get_or-tab-past, in_list, total-set, total-same}

module _ (w : Lowering) where
  pub relax-lower : (l : List ℕ) (x o : ℕ) → o ≡ w.offer l x → o < get_or l x 0 → (true ≡ ltb (w.offer l x) (get_or l x 0)) × (set l x o ≡ relaxed_of w l x)
  relax-lower l x o e h = let t : ltb (w.offer l x) (get_or l x 0) ≡ true = lt-ltb (w.offer l x) (get_or l x 0) (omega arith) in (sym t, rw t (ap (set l x) e))

  pub relax-pass : (l : List ℕ) (x o : ℕ) → o ≡ w.offer l x → get_or l x 0 ≤ o → (false ≡ ltb (w.offer l x) (get_or l x 0)) × (l ≡ relaxed_of w l x)
  relax-pass l x o e h = let t : ltb (w.offer l x) (get_or l x 0) ≡ false = le-ltb (w.offer l x) (get_or l x 0) (omega arith) in (sym t, rw t)

  pub start-at : (x : ℕ) → x < w.size → get_or (start_of w) x 0 ≡ cond (w.active x) w.far 0
  start-at x h = get_or-tab w.size (λ y. cond (w.active y) w.far 0) 0 x h

module _ (w : Lowering) (P : ℕ → ℕ → Type 0) where
  -- a cell that stands above 0 is active
  pub kept-active : (l : List ℕ) → Kept w P l → (x : ℕ) → 0 < get_or l x 0 → w.active x ≡ true
  kept-active l k x h = ⊎_elim (λ e. e) (λ e. absurd (omega (arith, k.clear x e))) (two (w.active x))

  -- any lower value that can stand may be stored
  pub store_kept : (l : List ℕ) → Kept w P l → (x v : ℕ) → v < get_or l x 0 → P x v → Kept w P (set l x v)
  store_kept l k x v h p = record { long = length-set l x v ∙ k.long; capped = caps; clear = zeros; stands = stand }
    where
      inside : x < length l
      inside = in_list l x (omega arith)

      caps : (y : ℕ) → get_or (set l x v) y 0 ≤ w.far
      caps y = elim (ℕ_discrete y x) [ yes e ↦ omega (arith, k.capped x, ap (λ (j : ℕ). get_or (set l x v) j 0) e, get_or-set_same l x v 0 inside) | no f ↦ omega (arith, k.capped y, get_or-set_other l x y v 0 f) ]

      zeros : (y : ℕ) → w.active y ≡ false → get_or (set l x v) y 0 ≡ 0
      zeros y z = elim (ℕ_discrete y x) [ yes e ↦ absurd (omega (arith, k.clear y z, ap (λ (j : ℕ). get_or l j 0) e)) | no f ↦ get_or-set_other l x y v 0 f ∙ k.clear y z ]

      stand : (y : ℕ) → w.active y ≡ true → get_or (set l x v) y 0 < w.far → P y (get_or (set l x v) y 0)
      stand y a =
          elim (ℕ_discrete y x) [
            | yes e ↦ subst (λ (z : ℕ). get_or (set l x v) z 0 < w.far → P z (get_or (set l x v) z 0)) (sym e) (rw (get_or-set_same l x v 0 inside) (λ q. p))
            | no f ↦ rw (get_or-set_other l x y v 0 f) (k.stands y a)
          ]

  -- ---- any order of lowering

  pub eased-none : (l : List ℕ) → Eased w P l l
  eased-none l = record { long = refl; kept = (λ k. k) }

  pub eased-then : {l₀ l m : List ℕ} → Eased w P l₀ l → Eased w P l m → Eased w P l₀ m
  eased-then a b = record { long = b.long ∙ a.long; kept = (λ k. b.kept (a.kept k)) }

  module _ (rule : Rule w P) where
    pub offer-kept : (l : List ℕ) → Kept w P l → (x : ℕ) → w.offer l x < get_or l x 0 → Kept w P (set l x (w.offer l x))
    offer-kept l k x h = store_kept l k x (w.offer l x) h (rule.fair l k x (kept-active l k x (omega arith)) (omega (arith, k.capped x)))

    -- ---- the rounds

    round-at : (l : List ℕ) (x : ℕ) → x < w.size → get_or (round_of w l) x 0 ≡ min (get_or l x 0) (w.offer l x)
    round-at l x h = get_or-tab w.size (λ y. min (get_or l y 0) (w.offer l y)) 0 x h

    round-le : (l : List ℕ) (x : ℕ) → get_or (round_of w l) x 0 ≤ get_or l x 0
    round-le l x =
        elim (dec_lt x w.size) [
          | yes h ↦ omega (arith, round-at l x h)
          | no f ↦ omega (arith, get_or-tab-past w.size (λ y. min (get_or l y 0) (w.offer l y)) 0 x (omega arith))
        ]

    either : (x v u : ℕ) → (v < w.far → P x v) → (u < w.far → P x u) → min v u < w.far → P x (min v u)
    either x v u a b h =
        elim (dec_le v u) [
          | yes le ↦ (let e : min v u ≡ v = omega arith in subst (P x) (sym e) (a (omega arith)))
          | no f ↦ (let e : min v u ≡ u = omega arith in subst (P x) (sym e) (b (omega arith)))
        ]

    round-kept : (l : List ℕ) → Kept w P l → Kept w P (round_of w l)
    round-kept l k =
        record {
          long = length-tab w.size _;
          capped = (λ x. omega (arith, round-le l x, k.capped x));
          clear = (λ x z. omega (arith, round-le l x, k.clear x z));
          stands = (λ x v. rw (round-at l x (rule.within x v)) (either x (get_or l x 0) (w.offer l x) (k.stands x v) (rule.fair l k x v)));
        }

    round-still : (l : List ℕ) → Kept w P l → total l ≤ total (round_of w l) → Still w l
    round-still l k t x v = omega (arith, total-same (round_of w l) l (length-tab w.size _ ∙ sym k.long) (round-le l) t x, round-at l x (rule.within x v))

    abbrev Done : List ℕ → Type 0
    Done l = Kept w P l × Still w l

    settle-kept : (f : ℕ) (l : List ℕ) → Kept w P l → total l ≤ f → Done (settle_of w f l)
    unfolding settle_of
    settle-kept zero l k h = (k, round-still l k (omega arith))
    settle-kept (suc f) l k h = go (ltb (total (round_of w l)) (total l)) refl (λ lt. settle-kept f (round_of w l) (round-kept l k) (omega arith))
      where
        go : (b : Bool) → ltb (total (round_of w l)) (total l) ≡ b → (total (round_of w l) < total l → Done (settle_of w f (round_of w l))) → Done (elim b [ true ↦ settle_of w f (round_of w l) | false ↦ l ])
        go true e f = f (ltb-true _ _ e)
        go false e f = (k, round-still l k (ltb-false _ _ e))

    pub start-kept : Kept w P (start_of w)
    start-kept = record { long = length-tab w.size _; capped = caps; clear = zeros; stands = (λ x v h. absurd (tops x v h)) }
      where
        past : (x : ℕ) → w.size ≤ x → get_or (start_of w) x 0 ≡ 0
        past x h = get_or-tab-past w.size (λ y. cond (w.active y) w.far 0) 0 x h

        pick : (b : Bool) → cond b w.far 0 ≤ w.far
        pick true = omega arith
        pick false = omega arith

        caps : (x : ℕ) → get_or (start_of w) x 0 ≤ w.far
        caps x = elim (dec_lt x w.size) [ yes h ↦ omega (arith, start-at w x h, pick (w.active x)) | no f ↦ omega (arith, past x (omega arith)) ]

        zeros : (x : ℕ) → w.active x ≡ false → get_or (start_of w) x 0 ≡ 0
        zeros x z = elim (dec_lt x w.size) [ yes h ↦ start-at w x h ∙ ap (λ (b : Bool). cond b w.far 0) z | no f ↦ past x (omega arith) ]

        tops : (x : ℕ) → w.active x ≡ true → get_or (start_of w) x 0 < w.far → ⊥
        tops x v h = omega (arith, start-at w x (rule.within x v) ∙ ap (λ (b : Bool). cond b w.far 0) v)

    -- the definition can stand, and no offer lowers it
    pub settled-done : Kept w P (settled_of w) × Still w (settled_of w)
    unfolding settled_of
    settled-done = settle-kept (total (start_of w)) (start_of w) start-kept (omega arith)

    done-le : (l m : List ℕ) → Kept w P l → Still w l → Kept w P m → (x : ℕ) → w.active x ≡ true → get_or l x 0 ≤ get_or m x 0
    done-le l m k s k' x v = elim (dec_lt (get_or m x 0) w.far) [ yes h ↦ rule.least l k s x v (get_or m x 0) (k'.stands x v h) | no f ↦ omega (arith, k.capped x) ]

    -- two lists that can stand and that no offer lowers are the same
    pub done-same : (l m : List ℕ) → Kept w P l → Still w l → Kept w P m → Still w m → l ≡ m
    done-same l m k s k' s' =
        ext_get_or 0 l m (k.long ∙ sym k'.long)
        (λ x h. ⊎_elim (λ v. omega (arith, done-le l m k s k' x v, done-le m l k' s' k x v)) (λ z. k.clear x z ∙ sym (k'.clear x z)) (two (w.active x)))

    pub done-is : (l : List ℕ) → Kept w P l → Still w l → l ≡ settled_of w
    done-is l k s = done-same l (settled_of w) k s settled-done.0 settled-done.1

    -- ---- a sweep

    pub sweep-none : (l : List ℕ) → Sweeping w P l l 0 false
    sweep-none l = record { eased = eased-none l; fell = (λ e. absurd (false≢true e)); same = (λ e. refl); still = (λ e y h. absurd (omega arith)) }

    sweep-lower : (l₀ l : List ℕ) (x : ℕ) (b : Bool) → Sweeping w P l₀ l x b → w.offer l x < get_or l x 0 → Sweeping w P l₀ (set l x (w.offer l x)) (x + 1) true
    sweep-lower l₀ l x b s h =
        record {
          eased = eased-then s.eased (record { long = length-set l x _; kept = (λ k. offer-kept l k x h) });
          fell = (λ e. fall b s);
          same = (λ e. absurd (true≢false e));
          still = (λ e. absurd (true≢false e));
        }
      where
        fall : (b : Bool) → Sweeping w P l₀ l x b → total (set l x (w.offer l x)) < total l₀
        fall true s = omega (arith, s.fell refl, total-set l x (w.offer l x) (in_list l x (omega arith)))
        fall false s = omega (arith, s.same refl, total-set l x (w.offer l x) (in_list l x (omega arith)))

    sweep-pass : (l₀ l : List ℕ) (x : ℕ) (b : Bool) → Sweeping w P l₀ l x b → get_or l x 0 ≤ w.offer l x → Sweeping w P l₀ l (x + 1) b
    sweep-pass l₀ l x b s h = record { eased = s.eased; fell = s.fell; same = s.same; still = (λ e. below_more (λ (y : ℕ). get_or l y 0 ≤ w.offer l y) x (s.still e) h) }

    pub sweep-more : (l₀ l : List ℕ) (x : ℕ) (b b' r : Bool) (l' : List ℕ) → Sweeping w P l₀ l x b → r ≡ ltb (w.offer l x) (get_or l x 0) → l' ≡ relaxed_of w l x → b' ≡ b || r → Sweeping w P l₀ l' (x + 1) b'
    sweep-more l₀ l x b b' r l' s e e' q = subst₂ (λ (m : List ℕ) (t : Bool). Sweeping w P l₀ m (x + 1) t) (sym e') (sym (q ∙ ap (λ (t : Bool). b || t) e)) (go (ltb (w.offer l x) (get_or l x 0)) refl b s)
      where
        go : (t : Bool) → ltb (w.offer l x) (get_or l x 0) ≡ t → (b : Bool) → Sweeping w P l₀ l x b → Sweeping w P l₀ (cond t (set l x (w.offer l x)) l) (x + 1) (b || t)
        go true q true s = sweep-lower l₀ l x true s (ltb-true (w.offer l x) (get_or l x 0) q)
        go true q false s = sweep-lower l₀ l x false s (ltb-true (w.offer l x) (get_or l x 0) q)
        go false q true s = sweep-pass l₀ l x true s (ltb-false (w.offer l x) (get_or l x 0) q)
        go false q false s = sweep-pass l₀ l x false s (ltb-false (w.offer l x) (get_or l x 0) q)

    -- ---- sweeps until one lowers nothing

    pub settling-more : (l m : List ℕ) (r : Bool) → Kept w P l → Sweeping w P l m (length l) r → Settling w P m r
    settling-more l m r k s = record { kept = s.eased.kept k; still = (λ e x v. s.still e x (omega (arith, k.long, rule.within x v))) }
