-- A setting means one whole number: the float quotients n / d rise with n, which antt computes for each n; and examples of settings, accepted and refused. Assumes nothing.
use mathlib.Core.Path.{◌≡◌, refl, sym, ap, subst, ◌∙◌}
use mathlib.Core.List.{List, [], ◌∷◌}
use mathlib.Core.Logic.{⊎_elim}
use mathlib.Core.Bool.{Bool, true, false, cond, beq, ◌&&◌, ◌||◌}
use Prim.Native.Nat.{ℕ, zero, suc, ◌+◌, ◌-◌, ◌*◌, ◌/◌, ◌^◌, ◌≤◌, ◌<◌}
use native.Mathlib.Nat.{lt_irrefl, eq-or-lt_of_le, mul_assoc, mul_comm, mul-lt-mul_of_pos_right, lt_trans}
use native.Mathlib.Omega.{arith}
use native.Mathlib.Decide.{dec_lt}
use lib.Dec.{T, leb, ltb, eqb, eqb→eq, ltb→lt}
use lib.Ieee.{Float, nan, inf, fin, up, down, eq, of_bits, binary64}
use lib.Ieee.Fits.{and_l, and_r}
use lib.Ieee.Positive.{num, den, den_pos}
use borrow.Author.Tests.{le-leb, lt-leb, leb-true, leb-false}
use Rattle.laws.proofs.Tests.{two}
use Rattle.laws.proofs.First.{first-is, first_holds}
use Rattle.settings.specs.declared.Channel.{Channel}
use Rattle.settings.specs.declared.Channel.TheVariants.{Percentage, Cells, NoChannel}
use Rattle.settings.specs.declared.Formula.{Formula}
use Rattle.settings.specs.declared.Formula.TheVariants.{Older, Newer}
use Rattle.settings.specs.declared.Settings.{Settings}
use Rattle.settings.specs.declared.Threshold.{Threshold}
use Rattle.settings.specs.declared.Threshold.TheVariants.{Share, Over, Never}
use Rattle.settings.specs.declared.Rules.{Rules}
use Rattle.settings.specs.declared.Setting.{Setting}
use Rattle.settings.specs.declared.Setting.TheVariants as setting
use Rattle.std.specs.Option.{ok_or}
use Rattle.std.proofs.Common.{Option, Some, None, Result, Ok, Err}
use Rattle.settings.specs.Settings.{quotient, whole_of, whole_up_to, threshold_of, threshold_accepted, verdict_of, judged_of, default_settings}

-- ---- the quotients rise

-- every quotient is a whole number of units of 2 ^ -60
abbrev unit : ℕ
unit = 2 ^ 60

abbrev units : Float → ℕ
units q = unit / den q

-- the quotient n / d in units
unfoldable pub size_of : ℕ → ℕ → ℕ
size_of d n = num (quotient d n) * units (quotient d n)

abbrev finite : Float → Bool
finite nan = false
finite (inf s) = false
finite (fin s m e) = true

-- the test at n: the quotient is finite, a whole number of units, and less than the next one
abbrev finite_at : ℕ → ℕ → Bool
finite_at d n = finite (quotient d n)

abbrev whole_at : ℕ → ℕ → Bool
whole_at d n = eqb (den (quotient d n) * units (quotient d n)) unit

abbrev rises_at : ℕ → ℕ → Bool
rises_at d n = ltb (size_of d n) (size_of d (suc n))

abbrev test_at : ℕ → ℕ → Bool
test_at d n = finite_at d n && whole_at d n && rises_at d n

-- the same at each of k numbers from n on
abbrev test_from : ℕ → ℕ → ℕ → Bool
test_from d n zero = true
test_from d n (suc k) = test_at d n && test_from d (suc n) k

-- the quotients up to top rise
pub record Rising (d top : ℕ) : Type 0 where
  pub test : T (test_from d 0 (suc top))

pub hundredths : Rising 100 100
unfolding size_of quotient
hundredths = record { test = tt }

pub tenths : Rising 10 1000
unfolding size_of quotient
tenths = record { test = tt }

-- ---- what the test says of each number

test_at_lem : (d n k : ℕ) → T (test_from d n k) → (i : ℕ) → n ≤ i → i < n + k → T (test_at d i)
test_at_lem d n zero t i h l = absurd (omega arith)
test_at_lem d n (suc k) t i h l =
    ⊎_elim (λ e. subst (λ (m : ℕ). T (test_at d m)) e (and_l (test_at d n) (test_from d (suc n) k) t))
    (λ g. test_at_lem d (suc n) k (and_r (test_at d n) (test_from d (suc n) k) t) i g (omega arith)) (eq-or-lt_of_le h)

-- equal floats are equal fractions
cross : (x q : Float) → T (finite q) → T (eq x q) → num x * den q ≡ num q * den x
unfolding eq
cross x nan f e = absurd f
cross x (inf s) f e = absurd f
cross nan (fin t n b) f e = absurd e
cross (inf s) (fin t n b) f e = absurd e
cross (fin s m a) (fin t n b) f e =
    eqb→eq (m * up a * down b) (n * up b * down a) (and_l (eqb (m * up a * down b) (n * up b * down a)) (beq s t || eqb (m * up a * down b) 0) e)

regroup : (x p q u f : ℕ) → x * p ≡ q * u → p * f ≡ unit → x * unit ≡ q * f * u
regroup x p q u f e h =
    ap (λ (z : ℕ). x * z) (sym h) ∙ sym (mul_assoc x p f) ∙ ap (λ (z : ℕ). z * f) e ∙ mul_assoc q u f
    ∙ ap (λ (z : ℕ). q * z) (mul_comm u f) ∙ sym (mul_assoc q f u)

module _ (d top : ℕ) (rising : Rising d top) where
  here : (i : ℕ) → i ≤ top → T (test_at d i)
  here i h = test_at_lem d 0 (suc top) rising.test i (omega arith) (omega arith)

  rises : (i : ℕ) → i ≤ top → size_of d i < size_of d (suc i)
  rises i h = ltb→lt _ _ (and_r (finite_at d i && whole_at d i) (rises_at d i) (here i h))

  -- over several numbers
  climbs : (i k : ℕ) → i + k ≤ top → size_of d i < size_of d (suc (i + k))
  climbs i zero h = subst (λ (j : ℕ). size_of d i < size_of d (suc j)) (omega arith) (rises i (omega arith))
  climbs i (suc k) h =
      subst (λ (j : ℕ). size_of d i < size_of d (suc j)) (omega arith)
      (lt_trans (climbs i k (omega arith)) (rises (suc (i + k)) (omega arith)))

  less : (i j : ℕ) → i < j → j ≤ top → size_of d i < size_of d j
  less i j h l = subst (λ (m : ℕ). size_of d i < size_of d m) (omega arith) (climbs i (j - suc i) (omega arith))

  -- x in units, where it equals a quotient
  sized : (x : Float) (i : ℕ) → i ≤ top → T (eq x (quotient d i)) → num x * unit ≡ size_of d i * den x
  unfolding size_of
  sized x i h e =
      let p = and_l (finite_at d i && whole_at d i) (rises_at d i) (here i h) in
      regroup (num x) (den (quotient d i)) (num (quotient d i)) (den x) (units (quotient d i))
      (cross x (quotient d i) (and_l (finite_at d i) (whole_at d i) p) e) (eqb→eq _ _ (and_r (finite_at d i) (whole_at d i) p))

  apart : (x : Float) (i j : ℕ) → i < j → j ≤ top → T (eq x (quotient d i)) → T (eq x (quotient d j)) → ⊥
  apart x i j h l p q =
      lt_irrefl (size_of d i * den x)
      (subst (λ (n : ℕ). size_of d i * den x < n) (sym (sized x j l q) ∙ sized x i (omega arith) p) (mul-lt-mul_of_pos_right (less i j h l) (den_pos x)))

  -- no float equals two of the quotients
  pub whole_unique : (x : Float) (i j : ℕ) → i ≤ top → j ≤ top → eq x (quotient d i) ≡ true → eq x (quotient d j) ≡ true → i ≡ j
  whole_unique x i j h l p q =
      let a = subst T (sym p) tt in
      let b = subst T (sym q) tt in
      elim (dec_lt i j) [ yes g ↦ absurd (apart x i j g l a b) | no f ↦ elim (dec_lt j i) [ yes g ↦ absurd (apart x j i g h b a) | no g ↦ omega arith ] ]

  -- what a float means has its quotient, and a float that has the quotient of an n up to top means that n
  pub whole-holds : (x : Float) → whole_of d top x ≤ top → eq x (quotient d (whole_of d top x)) ≡ true
  unfolding whole_of
  whole-holds x h = first_holds (λ m. eq x (quotient d m)) (suc top) (omega arith)

  pub whole_is : (x : Float) (n : ℕ) → n ≤ top → eq x (quotient d n) ≡ true → whole_of d top x ≡ n
  unfolding whole_of
  whole_is x n h e =
      first-is (λ m. eq x (quotient d m)) (suc top) n
      (λ j l. ⊎_elim (λ t. absurd (let q = whole_unique x j n (omega arith) h t e in omega arith)) (λ t. t) (two (eq x (quotient d j)))) (omega arith) e

-- the number of an option that stands for it, and the option of a number
pub whole-none : {top n : ℕ} {o : Option ℕ} → o ≡ whole_up_to top n → o ≡ None → top < n
whole-none {top} {n} e z = ⊎_elim (λ t. absurd (let q : Some n ≡ None = ap (λ (b : Bool). cond b (Some n) None) (sym t) ∙ sym e ∙ z in cc)) (λ t. leb-false n top t) (two (leb n top))

pub whole-some : {top n k : ℕ} {o : Option ℕ} → o ≡ whole_up_to top n → o ≡ Some k → (k ≡ n) × (k ≤ top)
whole-some {top} {n} {k} e z = ⊎_elim
    (λ t.
    let q : Some n ≡ Some k = ap (λ (b : Bool). cond b (Some n) None) (sym t) ∙ sym e ∙ z in
    let same : k ≡ n = cc in
    (same, omega (arith, leb-true n top t)))
    (λ t. absurd (let q : None ≡ Some k = ap (λ (b : Bool). cond b (Some n) None) (sym t) ∙ sym e ∙ z in cc)) (two (leb n top))

pub none-whole : (top n : ℕ) → top < n → None ≡ whole_up_to top n
none-whole top n h = sym (ap (λ (b : Bool). cond b (Some n) None) (lt-leb n top h))

pub some-whole : (top n : ℕ) → n ≤ top → Some n ≡ whole_up_to top n
some-whole top n h = sym (ap (λ (b : Bool). cond b (Some n) None) (le-leb n top h))

-- the setting that is refused where there is no number
pub refused-is : {o : Option ℕ} {bad s : Setting} → o ≡ None → Err bad ≡ ok_or o s → bad ≡ s
refused-is {o} {bad} {s} z e = let q : ◌≡◌ {A = Result ℕ Setting} (Err bad) (Err s) = e ∙ ap (λ (o : Option ℕ). ok_or o s) z in cc

-- ---- the verdict on settings, test by test as the code makes it

judged-is : (s : Settings) → judged_of s ≡ verdict_of (record { low = whole_of 100 100 s.low; high = whole_of 100 100 s.high; threshold = threshold_of s.channel; formula = s.formula })
unfolding judged_of
judged-is s = refl

-- the channel rule in whole numbers, by the rule's case
pub threshold-share : {c : Channel} {x : Float} {n : ℕ} → c ≡ Percentage x → n ≡ whole_of 10 1000 x → Share n ≡ threshold_of c
unfolding threshold_of
threshold-share p e = ap Share e ∙ ap threshold_of (sym p)

pub threshold-over : {c : Channel} {n : ℕ} → c ≡ Cells n → Over n ≡ threshold_of c
unfolding threshold_of
threshold-over p = ap threshold_of (sym p)

pub threshold-never : {c : Channel} → c ≡ NoChannel → Never ≡ threshold_of c
unfolding threshold_of
threshold-never p = ap threshold_of (sym p)

pub share-accepted : (n : ℕ) → n ≤ 1000 → threshold_accepted (Share n) ≡ true
unfolding threshold_accepted
share-accepted n h = le-leb n 1000 h

pub over-accepted : (n : ℕ) → threshold_accepted (Over n) ≡ true
unfolding threshold_accepted
over-accepted n = refl

pub never-accepted : threshold_accepted Never ≡ true
unfolding threshold_accepted
never-accepted = refl

pub share-refused : (n : ℕ) → 1000 < n → threshold_accepted (Share n) ≡ false
unfolding threshold_accepted
share-refused n h = lt-leb n 1000 h

module _ (s : Settings) where
  pub judged-low : {low : ℕ} → low ≡ whole_of 100 100 s.low → 100 < low → Err setting.Low ≡ judged_of s
  unfolding verdict_of
  judged-low e h = rw (judged-is s, ← e, lt-leb _ 100 h)

  module _ {low high : ℕ} (l : (low ≡ whole_of 100 100 s.low) × (low ≤ 100)) (eh : high ≡ whole_of 100 100 s.high) where
    pub judged-high : 100 < high → Err setting.High ≡ judged_of s
    unfolding verdict_of
    judged-high h = rw (judged-is s, ← l.0, ← eh, le-leb low 100 l.1, lt-leb high 100 h)

    module _ (h : high ≤ 100) (t : Threshold) (et : t ≡ threshold_of s.channel) where
      pub judged-channel : threshold_accepted t ≡ false → Err setting.Channel ≡ judged_of s
      unfolding verdict_of
      judged-channel a = rw (judged-is s, ← l.0, ← eh, ← et, le-leb low 100 l.1, le-leb high 100 h, a)

      pub judged-rules : threshold_accepted t ≡ true → Ok (record { low = low; high = high; threshold = t; formula = s.formula }) ≡ judged_of s
      unfolding verdict_of
      judged-rules a = rw (judged-is s, ← l.0, ← eh, ← et, le-leb low 100 l.1, le-leb high 100 h, a)

-- ---- examples

-- settings by the bits of their floats
pub data Claim : Type 0 where
  cutoffs : ℕ → ℕ → Result Rules Setting → Claim
  channel : Channel → Result Rules Setting → Claim
  choice : Formula → Result Rules Setting → Claim

abbrev accepted_with : Formula → ℕ → ℕ → Threshold → Result Rules Setting
accepted_with formula low high threshold = Ok (record { low = low; high = high; threshold = threshold; formula = formula })

abbrev accepted : ℕ → ℕ → Threshold → Result Rules Setting
accepted = accepted_with Older

abbrev pub Holds : Claim → Type 0
Holds (cutoffs low high j) = judged_of (record { low = of_bits binary64 low; high = of_bits binary64 high; channel = NoChannel; formula = Older }) ≡ j
Holds (channel rule j) = judged_of (record { low = quotient 100 50; high = quotient 100 50; channel = rule; formula = Older }) ≡ j
Holds (choice f j) = judged_of (record { low = quotient 100 50; high = quotient 100 50; channel = NoChannel; formula = f }) ≡ j

abbrev pub All : List Claim → Type 0
All [] = Unit
All (c ∷ l) = Holds c × All l

unfoldable pub claims : List Claim
claims =
    -- 0.29, 0.57 and 0.58 mean 29, 57 and 58; zero and minus zero mean 0, and 1.0 means 100
    cutoffs 0x3FD28F5C28F5C28F 0x3FE23D70A3D70A3D (accepted 29 57 Never) ∷
    cutoffs 0x3FE28F5C28F5C28F 0x0000000000000000 (accepted 58 0 Never) ∷
    cutoffs 0x8000000000000000 0x3FF0000000000000 (accepted 0 100 Never) ∷
    -- as the low cutoff 0.285, -0.01, 1.01, the infinities, NaN and the floats beside 0.29
    cutoffs 0x3FD23D70A3D70A3D 0x3FE0000000000000 (Err setting.Low) ∷
    cutoffs 0xBF847AE147AE147B 0x3FE0000000000000 (Err setting.Low) ∷
    cutoffs 0x3FF028F5C28F5C29 0x3FE0000000000000 (Err setting.Low) ∷
    cutoffs 0x7FF0000000000000 0x3FE0000000000000 (Err setting.Low) ∷
    cutoffs 0xFFF0000000000000 0x3FE0000000000000 (Err setting.Low) ∷
    cutoffs 0x7FF8000000000000 0x3FE0000000000000 (Err setting.Low) ∷
    cutoffs 0x3FD28F5C28F5C290 0x3FE0000000000000 (Err setting.Low) ∷
    cutoffs 0x3FD28F5C28F5C28E 0x3FE0000000000000 (Err setting.Low) ∷
    -- as the high one 0.285, -0.01, 1.01, the infinities and NaN; 2.0 in both places
    cutoffs 0x0000000000000000 0x3FD23D70A3D70A3D (Err setting.High) ∷
    cutoffs 0x0000000000000000 0xBF847AE147AE147B (Err setting.High) ∷
    cutoffs 0x0000000000000000 0x3FF028F5C28F5C29 (Err setting.High) ∷
    cutoffs 0x0000000000000000 0x7FF0000000000000 (Err setting.High) ∷
    cutoffs 0x0000000000000000 0xFFF0000000000000 (Err setting.High) ∷
    cutoffs 0x0000000000000000 0x7FF8000000000000 (Err setting.High) ∷
    cutoffs 0x4000000000000000 0x4000000000000000 (Err setting.Low) ∷
    -- the percentages minus zero, 0.1, 1.0 and 28.9; 0.05 and NaN
    channel (Percentage (of_bits binary64 0x8000000000000000)) (accepted 50 50 (Share 0)) ∷
    channel (Percentage (of_bits binary64 0x3FB999999999999A)) (accepted 50 50 (Share 1)) ∷
    channel (Percentage (of_bits binary64 0x3FF0000000000000)) (accepted 50 50 (Share 10)) ∷
    channel (Percentage (of_bits binary64 0x403CE66666666666)) (accepted 50 50 (Share 289)) ∷
    channel (Percentage (of_bits binary64 0x3FA999999999999A)) (Err setting.Channel) ∷
    channel (Percentage (of_bits binary64 0x7FF8000000000000)) (Err setting.Channel) ∷
    -- any number of cells, and no channel
    channel (Cells 0) (accepted 50 50 (Over 0)) ∷
    channel (Cells 4294967295) (accepted 50 50 (Over 4294967295)) ∷
    channel NoChannel (accepted 50 50 Never) ∷
    -- either formula
    choice Older (accepted_with Older 50 50 Never) ∷
    choice Newer (accepted_with Newer 50 50 Never) ∷
    []

pub settings-examples : All claims
unfolding claims judged_of of_bits
settings-examples = (refl, (refl, (refl, (refl, (refl, (refl, (refl, (refl, (refl, (refl, (refl, (refl, (refl, (refl, (refl, (refl, (refl, (refl, (refl, (refl, (refl, (refl, (refl, (refl, (refl, (refl, (refl, (refl, (refl, tt)))))))))))))))))))))))))))))

-- the defaults are accepted, and mean 70 percent, 50 percent, 10 tenths of a percent and the older formula
pub default-means : judged_of default_settings ≡ accepted 70 50 (Share 10)
unfolding judged_of default_settings
default-means = refl
