-- The word of a text: what its form as a number or as a count says of it, and what a reader of it answers. Assumes nothing.
use mathlib.Core.Path.{◌≡◌, refl, sym, ap, ◌∙◌, subst}
use mathlib.Core.Bool.{Bool, true, false, not, cond, true≢false}
use mathlib.Core.List.{List}
use Prim.Native.Nat.{ℕ, ◌+◌, ◌-◌, ◌≤◌, ◌<◌}
use native.Mathlib.Decide.{dec_lt}
use native.Mathlib.Omega.{arith}
use borrow.Author.Tests.{eqb-true, eqb-false}
use lib.Dec.{eqb, ltb}
use lib.ListN.{length, get_or, take, drop, set, length-set, get_or-eq_default}
use lib.Seq.{slice, length-slice, get_or-take, get_or-drop, get_or-set_other, take-set-lt, drop-set-add}
use Rattle.text.specs.Reader.{Step, refused, Reader, after, ◌>>=◌}
use Rattle.text.specs.Words.{solid, run, word_start, word_end, word}
use Rattle.text.specs.Numbers.{digit, Form, formed, malformed, Number, value, decimals, whole_and_decimals, number_at, count_form_at, is_formed}
use Rattle.text.specs.Numbers.{comma, first_comma, comma_decimal, formed_or, read}
use Rattle.text.specs.Right.{Sign, plain, minus, RightNumber, RightCount, BreaksAt, CommaAt, word_at, Neither}
use Rattle.text.proofs.Bytes.{digit-solid}
use Rattle.text.proofs.Ends.{byte-within, end-byte, end-lower, end-upper, first-solid, word-found, word_none}
use Rattle.text.proofs.InnerRuns.{run-lower, run-upper, run-fails, run-passes}
use Rattle.text.proofs.InnerCommas.{comma-from, comma-byte}
use Rattle.text.proofs.InnerRight.{Ran, broken, count-all, count-off, number-none, number-whole, number-off, number-fraction, number_cut}

-- ---- the word of a text t from a up to e, where neither a digit nor a point stands

-- what a form says: a right word, or where it breaks
abbrev pub Says : {A : Type 0} → (List ℕ → Type 0) → List ℕ → ℕ → Form A → Type 0
Says Right w a (formed x) = Right w
Says Right w a (malformed p) = (a ≤ p) × BreaksAt Right w (p - a)

pub says-right : {A : Type 0} (Right : List ℕ → Type 0) (w : List ℕ) (a : ℕ) (r : Form A) → is_formed r ≡ true → Says Right w a r → Right w
says-right Right w a (formed x) e h = h
says-right Right w a (malformed p) e h = absurd (true≢false (sym e))

module _ (t : List ℕ) (a e : ℕ) where
  word_byte : (k : ℕ) → a + k < e → get_or (slice a e t) k 0 ≡ get_or t (a + k) 0
  word_byte k u = get_or-drop a (take e t) k 0 ∙ get_or-take e t (a + k) 0 u

  byte_at : (k : ℕ) → a ≤ k → k < e → get_or (slice a e t) (k - a) 0 ≡ get_or t k 0
  byte_at k y z = let q : a + (k - a) ≡ k = omega arith in word_byte (k - a) (omega arith) ∙ ap (λ (x : ℕ). get_or t x 0) q

module _ (t : List ℕ) (a e : ℕ) (l : a < e) (h : e ≤ length t) (stop : digit (get_or t e 0) ≡ false) where
  abbrev w : List ℕ
  w = slice a e t

  word-length : length w ≡ e - a
  word-length = length-slice a e t h

  run_in : (i n : ℕ) → i ≤ e → run digit t i n ≤ e
  run_in i n u =
      elim (dec_lt e (run digit t i n)) [ yes y ↦ absurd (true≢false (sym (run-passes digit t i n e u y) ∙ stop)) | no y ↦ omega arith ]

  ran : (i k n : ℕ) → k ≡ a + i → k ≤ e → Ran w i n (run digit t k n - a)
  ran i k n q u =
      record {
        from = omega (arith, run-lower digit t k n);
        few = omega (arith, run-upper digit t k n);
        each = λ x y z. ap digit (word_byte t a e x (omega (arith, run_in k n u))) ∙ run-passes digit t k n (a + x) (omega arith) (omega arith);
        stops = λ y. elim (dec_lt (run digit t k n) e) [
          | yes z ↦ let o = run-lower digit t k n in ap digit (byte_at t a e (run digit t k n) (omega arith) z) ∙ run-fails digit t k n (omega arith)
          | no z ↦ ap digit (get_or-eq_default w 0 {n = run digit t k n - a} (omega (arith, word-length)))
        ];
        within = omega (arith, run_in k n u, word-length);
      }

  module _ (d : ℕ) (low : a ≤ d) (up : d ≤ e) (r : Ran w 0 9 (d - a)) (v : ℕ) where
    count_at_lem : (p q : Bool) → eqb d a ≡ p → eqb d e ≡ q → Says RightCount w a (cond p (malformed d) (cond q (formed v) (malformed d)))
    count_at_lem true q y z = (low, count-off w (d - a) r (omega (arith, word-length, eqb-true d a y)))
    count_at_lem false true y z = count-all w (d - a) r (omega (arith, eqb-false d a y)) (omega (arith, word-length, eqb-true d e z))
    count_at_lem false false y z = (low, count-off w (d - a) r (omega (arith, word-length, eqb-false d e z)))

  pub count-says : Says RightCount w a (count_form_at t a e)
  unfolding count_form_at
  count-says =
      let d = run digit t a 9 in
      count_at_lem d (run-lower digit t a 9) (run_in a 9 (omega arith)) (ran 0 a 9 (omega arith) (omega arith)) (value t d a (d - a)) (eqb d a) (eqb d e) refl refl

  -- a number whose sign ends at b, and its digits at d; at e no point stands
  module _ (end : get_or t e 0 ≡ 46 → ⊥) (b d : ℕ) (from : a ≤ b) (low : b ≤ d) (up : d ≤ e) (sign : Sign w (b - a))
      (unsigned : b - a ≡ 0 → get_or w 0 0 ≡ 45 → ⊥) (whole : Ran w (b - a) 9 (d - a)) where
    module _ (some : b < d) (here : get_or t d 0 ≡ 46) where
      point-in : d < e
      point-in = elim (dec_lt d e) [ yes y ↦ y | no y ↦ let q : d ≡ e = omega arith in absurd (end (subst (λ (x : ℕ). get_or t x 0 ≡ 46) q here)) ]

      module _ (f : ℕ) (tail : Ran w (d - a + 1) 6 (f - a)) (x : Number) where
        cut : (f ≡ e → f ≡ d + 1) → Says {A = Number} RightNumber w a (malformed f)
        cut n = (
          omega (arith, tail.from),
          number_cut w (b - a) (d - a) sign unsigned whole (omega arith) (byte_at t a e d (omega arith) point-in ∙ here) (f - a) tail
              (λ q. omega (arith, n (omega (arith, word-length, tail.from)))),
        )

        decimals-at : (p q : Bool) → eqb f (d + 1) ≡ p → eqb f e ≡ q → Says RightNumber w a (cond p (malformed f) (cond q (formed x) (malformed f)))
        decimals-at true q y z = cut (λ o. eqb-true f (d + 1) y)
        decimals-at false false y z = cut (λ o. absurd (eqb-false f e z o))
        decimals-at false true y z =
            number-fraction w (b - a) (d - a) sign unsigned whole (omega arith) (byte_at t a e d (omega arith) point-in ∙ here) (f - a) tail
            (omega (arith, tail.from, eqb-false f (d + 1) y)) (omega (arith, word-length, eqb-true f e z))

      decimals-says : (m : Bool) (size : ℕ) → Says RightNumber w a (decimals t e m size (d + 1))
      unfolding decimals
      decimals-says m size =
          let f = run digit t (d + 1) 6 in
          decimals-at f (ran (d - a + 1) (d + 1) 6 (omega arith) (omega (arith, point-in))) _ (eqb f (d + 1)) (eqb f e) refl refl

    module _ (m : Bool) (size : ℕ) (x : Number) where
      whole-at : (p q r : Bool) → eqb d b ≡ p → eqb (get_or t d 0) 46 ≡ q → eqb d e ≡ r
          → Says RightNumber w a (cond p (malformed d) (cond q (decimals t e m size (d + 1)) (cond r (formed x) (malformed d))))
      whole-at true q r v y z =
          (omega arith, number-none w (b - a) (d - a) sign unsigned whole (omega (arith, word-length)) (omega (arith, eqb-true d b v)))
      whole-at false true r v y z = decimals-says (omega (arith, eqb-false d b v)) (eqb-true (get_or t d 0) 46 y) m size
      whole-at false false true v y z =
          number-whole w (b - a) (d - a) sign unsigned whole (omega (arith, eqb-false d b v)) (omega (arith, word-length, eqb-true d e z))
      whole-at false false false v y z =
          let o : d < e = omega (arith, eqb-false d e z) in (
            omega arith,
            number-off w (b - a) (d - a) sign unsigned whole (omega (arith, word-length))
                (λ g. eqb-false (get_or t d 0) 46 y (sym (byte_at t a e d (omega arith) o) ∙ g)) (omega (arith, word-length)),
          )

  module _ (end : get_or t e 0 ≡ 46 → ⊥) where
    after-sign : (b i : ℕ) → b ≡ a + i → b ≤ e → Sign w i → (i ≡ 0 → get_or w 0 0 ≡ 45 → ⊥) → (m : Bool)
        → Says RightNumber w a (whole_and_decimals t e m b (run digit t b 9))
    after-sign b i q u g n m =
        let d = run digit t b 9 in
        let z : i ≡ b - a = omega arith in
        whole-at end b d (omega arith) (run-lower digit t b 9) (run_in b 9 u) (subst (Sign w) z g) (λ o. n (omega arith)) (ran (b - a) b 9 (omega arith) u)
        m _ _ (eqb d b) (eqb (get_or t d 0) 46) (eqb d e) refl refl refl

    pub number-says : Says RightNumber w a (number_at t a e)
    unfolding number_at
    number-says = go (eqb (get_or t a 0) 45) refl
      where
        first : get_or w 0 0 ≡ get_or t a 0
        first = let q : a + 0 ≡ a = omega arith in word_byte t a e 0 (omega arith) ∙ ap (λ (x : ℕ). get_or t x 0) q

        go : (q : Bool) → eqb (get_or t a 0) 45 ≡ q
            → Says RightNumber w a (whole_and_decimals t e (ltb a (cond q (a + 1) a)) (cond q (a + 1) a) (run digit t (cond q (a + 1) a) 9))
        go true z = after-sign (a + 1) 1 refl (omega arith) (minus (first ∙ eqb-true (get_or t a 0) 45 z)) (λ o. absurd (omega arith)) (ltb a (a + 1))
        go false z = after-sign a 0 (omega arith) (omega arith) plain (λ o y. eqb-false (get_or t a 0) 45 z (sym first ∙ y)) (ltb a a)

-- ---- the same word with a point for its first comma, which stands at c

module _ (s : List ℕ) (a e : ℕ) (l : a < e) (h : e ≤ length s) (stop : digit (get_or s e 0) ≡ false) (end : get_or s e 0 ≡ 46 → ⊥) where
  module _ (c : ℕ) (from : a ≤ c) (u : c < e) where
    slice_set : slice a e (set s c 46) ≡ set (slice a e s) (c - a) 46
    slice_set =
        let q : c ≡ a + (c - a) = omega arith in
        ap (drop a) (take-set-lt e s c 46 u ∙ ap (λ (x : ℕ). set (take e s) x 46) q) ∙ drop-set-add a (take e s) (c - a) 46

    set-right : is_formed (number_at (set s c 46) a e) ≡ true → RightNumber (set (slice a e s) (c - a) 46)
    set-right q =
        let o : get_or (set s c 46) e 0 ≡ get_or s e 0 = get_or-set_other s c e 46 0 (λ y. omega arith) in
        subst RightNumber slice_set
        (says-right RightNumber (slice a e (set s c 46)) a (number_at (set s c 46) a e) q
        (number-says (set s c 46) a e l (omega (arith, length-set s c 46)) (ap digit o ∙ stop) (λ y. end (sym o ∙ y))))

  pub comma-in : first_comma s a e < e → is_formed (number_at (set s (first_comma s a e) 46) a e) ≡ true
      → (a ≤ first_comma s a e) × CommaAt RightNumber (slice a e s) (first_comma s a e - a)
  unfolding first_comma
  comma-in u q =
      let p : ℕ → Bool = λ b. not (comma b) in
      let c = first_comma s a e in
      let low = comma-from s a e (omega arith) u in (
        low,
        record {
          inside = omega (arith, word-length s a e l h stop);
          comma = byte_at s a e c low u ∙ comma-byte s a e (omega arith) u;
          first = λ j k z. true≢false
              (sym (run-passes p s a (e - a) (a + j) (omega arith) (omega arith)) ∙ ap p (sym (word_byte s a e j (omega arith)) ∙ z));
          right = set-right c low u q;
        },
      )

-- ---- the end of a text's word

module _ (s : List ℕ) (a : ℕ) (h : a < length s) (first : solid (get_or s a 0) ≡ true) where
  pub word_some : a < word_end s a
  word_some = omega (arith, end-byte s a h first, end-lower s (a + 1))

  pub word_in : word_end s a ≤ length s
  word_in = end-upper s a (omega arith)

  -- where a word ends no other byte stands
  end-bare : solid (get_or s (word_end s a) 0) ≡ true → (get_or s (word_end s a) 0 ≡ 0 → ⊥) → ⊥
  unfolding word_end
  end-bare y z = true≢false (sym y ∙ run-fails solid s a (length s - a) (omega (arith, byte-within s (run solid s a (length s - a)) z)))

  pub end-digit : digit (get_or s (word_end s a) 0) ≡ false
  end-digit = go (digit (get_or s (word_end s a) 0)) refl
    where
      go : (q : Bool) → digit (get_or s (word_end s a) 0) ≡ q → q ≡ false
      go false y = refl
      go true y = absurd (end-bare (digit-solid (get_or s (word_end s a) 0) y) (λ z. true≢false (sym y ∙ ap digit z)))

  pub end-point : get_or s (word_end s a) 0 ≡ 46 → ⊥
  end-point y = end-bare (ap solid y) (λ z. omega arith)

-- ---- the next word from the place i, read in a form, and what a reader says of it

pub record Told {A B : Type 0} (form : List ℕ → ℕ → ℕ → Form A) (Right : List ℕ → Type 0) (s : List ℕ) (a : ℕ) (m : Step B) : Type 0 where
  pub seven : (p : ℕ) → m ≡ refused 7 p → (a ≤ p) × BreaksAt Right (word_at s a) (p - a)
  pub twelve : (p : ℕ) → m ≡ refused 12 p → (a < length s) × (comma_decimal form s a (word_end s a) ≡ true) × (first_comma s a (word_end s a) ≡ p)
  pub neither : a < length s → Neither m → Right (word_at s a)
  pub right : a < length s → Right (word_at s a) → Neither m

-- the reader goes on by g, with the place of the word, and g refuses with neither 7 nor 12
module _ {A B : Type 0} (form : List ℕ → ℕ → ℕ → Form A) (Right : List ℕ → Type 0) (s : List ℕ) (g : ℕ → A → Reader B)
    (n : (a e : ℕ) (x : A) → Neither (g a x s e)) where
  module _ (a : ℕ) (h : a < length s) where
    abbrev ended : ℕ
    ended = word_end s a

    -- the word's form and whether it is a comma decimal decide
    told-word : (r : Form A) (q : Bool) → comma_decimal form s a ended ≡ q → Says Right (word_at s a) a r
        → Told form Right s a (after (formed_or q (first_comma s a ended) r s ended) (g a) s)
    told-word (formed x) q z t =
        record {
          seven = λ p o. absurd ((subst Neither o (n a ended x)).0 refl);
          twelve = λ p o. absurd ((subst Neither o (n a ended x)).1 refl);
          neither = λ l o. t;
          right = λ l o. n a ended x;
        }
    told-word (malformed k) true z t =
        record {
          seven = λ p o. let v : ◌≡◌ {A = ℕ} 12 7 = cc in absurd (omega arith);
          twelve = λ p o. (h, z, cc);
          neither = λ l o. absurd (o.1 refl);
          right = λ l o. absurd (broken Right (word_at s a) (k - a) t.1 o);
        }
    told-word (malformed k) false z t =
        record {
          seven = λ p o. let v : k ≡ p = cc in subst (Says {A = A} Right (word_at s a) a) (ap malformed v) t;
          twelve = λ p o. let v : ◌≡◌ {A = ℕ} 7 12 = cc in absurd (omega arith);
          neither = λ l o. absurd (o.0 refl);
          right = λ l o. absurd (broken Right (word_at s a) (k - a) t.1 o);
        }

  -- the text has no more words
  told_none : (a : ℕ) → length s ≤ a → Told {B = B} form Right s a (refused 9 (length s))
  told_none a h =
      record {
        seven = λ p o. let v : ◌≡◌ {A = ℕ} 9 7 = cc in absurd (omega arith);
        twelve = λ p o. let v : ◌≡◌ {A = ℕ} 9 12 = cc in absurd (omega arith);
        neither = λ l o. absurd (omega arith);
        right = λ l o. absurd (omega arith);
      }

  pub told : (i : ℕ) → ((a : ℕ) → a < length s → solid (get_or s a 0) ≡ true → Says Right (word_at s a) a (form s a (word_end s a)))
      → Told form Right s (word_start s i) ((word >>= (λ w. read form w >>= g w.start)) s i)
  unfolding read
  told i says =
      let a = word_start s i in
      elim (dec_lt a (length s)) [
        | yes h ↦ rw (word-found s i a refl h)
            (told-word a h (form s a (word_end s a)) (comma_decimal form s a (word_end s a)) refl (says a h (first-solid s i a refl h)))
        | no h ↦ rw (word_none s i a refl (omega arith)) (told_none a (omega arith))
      ]
