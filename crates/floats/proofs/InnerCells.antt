-- The cells that are judged and stored one after the other. Assumes nothing.
use mathlib.Core.Path.{◌≡◌, refl, sym, ap, ◌∙◌}
use mathlib.Core.Bool.{Bool, true, false, not, cond}
use mathlib.Core.List.{List}
use Prim.Native.Nat.{ℕ, ◌+◌, ◌*◌, ◌≤◌, ◌<◌}
use native.Mathlib.Nat.{le_refl, le_of_eq, le_antisymm}
use native.Mathlib.Decide.{dec_lt}
use native.Mathlib.Omega.{arith}
use borrow.Author.Tests.{eq-eqb, ne_eqb, eqb-true, not-false, lt-ltb, le-ltb, ltb-true}
use borrow.Author.Count.{below_more}
use lib.Dec.{eqb, ltb}
use lib.IntN.{ℤ}
use lib.ListN.{length}
use Rattle.laws.specs.Lists.{tab}
use Rattle.laws.proofs.First as F
use Rattle.laws.proofs.First.{first-is, first-none, first-before}
use Rattle.text.specs.Headers.{Header}
use Rattle.text.specs.Reader.{Step, got, refused, after}
use Rattle.text.specs.Answers.{accepted, refusal, header_of, lone_header_answer, grid_outcome}
use Rattle.text.specs.declared.Refusal.{Refusal}
use Rattle.text.specs.declared.Header as D
use Rattle.text.specs.Faults.{number_of}
use Rattle.text.proofs.Sizes.{lone-refused, lone-accepted}
use Rattle.floats.specs.Floats.{bits_at}
use Rattle.floats.specs.Rounding.{nearest_float}
use Rattle.floats.specs.Answers.{height_of, fault_of, first_fault, cells, body, grid_with, grid, floats_answer}
use Rattle.floats.specs.InnerCells.{judged, body_answer}

-- ---- the first fault

-- no cell before x has a fault
abbrev pub ClearTo : ℕ → List ℕ → ℕ → Type 0
ClearTo v floats x = (y : ℕ) → y < x → fault_of v (bits_at floats y) ≡ 0

module _ (v : ℕ) (floats : List ℕ) where
  pub clear_none : ClearTo v floats 0
  clear_none y h = absurd (omega arith)

  pub clear-more : (x : ℕ) → ClearTo v floats x → fault_of v (bits_at floats x) ≡ 0 → ClearTo v floats (x + 1)
  clear-more x c e = below_more (λ (y : ℕ). fault_of v (bits_at floats y) ≡ 0) x c e

  pub first-fault : (k x : ℕ) → x < k → ClearTo v floats x → (fault_of v (bits_at floats x) ≡ 0 → ⊥) → x ≡ first_fault v floats k
  unfolding first_fault
  first-fault k x h c e =
      sym (first-is (λ y. not (eqb (fault_of v (bits_at floats y)) 0)) k x (λ y l. ap not (eq-eqb (fault_of v (bits_at floats y)) 0 (c y l))) h
      (ap not (ne_eqb (fault_of v (bits_at floats x)) 0 e)))

  pub all-clear : (k x : ℕ) → x ≡ k → ClearTo v floats x → x ≡ first_fault v floats k
  unfolding first_fault
  all-clear k x e c =
      e ∙ sym (first-none (λ y. not (eqb (fault_of v (bits_at floats y)) 0)) k (λ y l. ap not (eq-eqb (fault_of v (bits_at floats y)) 0 (c y (omega arith)))))

  pub clear-before : (k x : ℕ) → x < first_fault v floats k → fault_of v (bits_at floats x) ≡ 0
  unfolding first_fault
  clear-before k x h =
      eqb-true (fault_of v (bits_at floats x)) 0
      (not-false (eqb (fault_of v (bits_at floats x)) 0) (first-before (λ y. not (eqb (fault_of v (bits_at floats y)) 0)) k x h))

  pub first-top : (k : ℕ) → first_fault v floats k ≤ k
  unfolding first_fault
  first-top k = F.first-top (λ y. not (eqb (fault_of v (bits_at floats y)) 0)) k

  pub judged-fault : (k x : ℕ) → x < k → ClearTo v floats x → (fault_of v (bits_at floats x) ≡ 0 → ⊥)
      → refused (fault_of v (bits_at floats x)) x ≡ judged v floats k
  judged-fault k x h c e = rw (← first-fault k x h c e, lt-ltb x k h)

  pub judged-all : (k : ℕ) → ClearTo v floats k → got tt 0 ≡ judged v floats k
  judged-all k c = rw (← all-clear k k refl c, le-ltb k k (le_refl k))

  pub judged-good : (k : ℕ) → got tt 0 ≡ judged v floats k → first_fault v floats k ≡ k
  judged-good k e =
      elim (dec_lt (first_fault v floats k) k) [
        | yes l ↦ let z = rw (lt-ltb (first_fault v floats k) k l) at e in absurd cc
        | no f ↦ le_antisymm (first-top k) (omega (arith, f))
      ]

-- ---- what follows the header

module _ (h : Header) (lent : List ℤ) (floats : List ℕ) where
  pub body-unlike : (length lent ≡ h.rows * h.columns → ⊥) → record { answer = refusal 2 0; heights = lent } ≡ body_answer h lent floats
  unfolding body
  body-unlike e = rw (ne_eqb (length lent) (h.rows * h.columns) e) refl

  module _ (l : length lent ≡ h.rows * h.columns) where
    pub body_bytes : (length floats ≡ 4 * length lent → ⊥) → record { answer = refusal 14 0; heights = lent } ≡ body_answer h lent floats
    unfolding body
    body_bytes e = rw (eq-eqb (length lent) (h.rows * h.columns) l, ne_eqb (length floats) (4 * length lent) e) refl

    module _ (b : length floats ≡ 4 * length lent) (v : ℕ) (n : v ≡ nearest_float h.no_data) (x : ℕ) (f : x ≡ first_fault v floats (length lent)) where
      pub body-fault : x < length lent → record { answer = refusal (fault_of v (bits_at floats x)) x; heights = lent } ≡ body_answer h lent floats
      unfolding body cells
      body-fault t =
          rw (eq-eqb (length lent) (h.rows * h.columns) l, eq-eqb (length floats) (4 * length lent) b, sym n, sym f, lt-ltb x (length lent) t) refl

      pub body-on : length lent ≤ x
          → record { answer = accepted h; heights = tab (length lent) (λ y. height_of v (bits_at floats y)) } ≡ body_answer h lent floats
      unfolding body cells
      body-on t =
          rw (eq-eqb (length lent) (h.rows * h.columns) l, eq-eqb (length floats) (4 * length lent) b, sym n, sym f, le-ltb x (length lent) t) refl

-- the same by what the judge of the cells answers
module _ (h : Header) (lent : List ℤ) (floats : List ℕ) (l : length lent ≡ h.rows * h.columns) (b : length floats ≡ 4 * length lent) where
  abbrev v : ℕ
  v = nearest_float h.no_data

  abbrev x : ℕ
  x = first_fault v floats (length lent)

  pub body-judged : (m p : ℕ) → refused m p ≡ judged v floats (length lent) → record { answer = refusal m p; heights = lent } ≡ body_answer h lent floats
  body-judged m p e = go (ltb x (length lent)) refl e
    where
      go : (t : Bool) → ltb x (length lent) ≡ t → refused m p ≡ cond t (refused (fault_of v (bits_at floats x)) x) (got (tt {0}) 0)
          → record { answer = refusal m p; heights = lent } ≡ body_answer h lent floats
      go true q r =
          let n : m ≡ fault_of v (bits_at floats x) = cc in
          let f : p ≡ x = cc in
          rw (n, f) (body-fault h lent floats l b v refl x refl (ltb-true x (length lent) q))
      go false q r = absurd cc

  pub body-good : got tt 0 ≡ judged v floats (length lent)
      → record { answer = accepted h; heights = tab (length lent) (λ y. height_of v (bits_at floats y)) } ≡ body_answer h lent floats
  body-good e = body-on h lent floats l b v refl x refl (le_of_eq (sym (judged-good v floats (length lent) e)))

-- the laws of a body of the wrong length, which the proof of its reader goes by
pub ruleset of_body = (body-unlike, body_bytes)

-- ---- the whole of a call

-- where the header's text ends does not matter any more
anywhere : (h : Header) (lent : List ℤ) (floats s : List ℕ) (i : ℕ) → body_answer h lent floats ≡ grid_outcome lent (grid_with h floats (length lent) s i)
unfolding body cells
anywhere h lent floats s i =
    one (eqb (length lent) (h.rows * h.columns)) refl (eqb (length floats) (4 * length lent)) refl
    (ltb (first_fault (nearest_float h.no_data) floats (length lent)) (length lent)) refl
  where
    one : (a : Bool) → eqb (length lent) (h.rows * h.columns) ≡ a
        → (b : Bool) → eqb (length floats) (4 * length lent) ≡ b
        → (c : Bool) → ltb (first_fault (nearest_float h.no_data) floats (length lent)) (length lent) ≡ c
        → body_answer h lent floats ≡ grid_outcome lent (grid_with h floats (length lent) s i)
    one false p b q c r = rw p refl
    one true p false q c r = rw (p, q) refl
    one true p true q false r = rw (p, q, r) refl
    one true p true q true r = rw (p, q, r) refl

module _ (lent : List ℤ) (s floats : List ℕ) where
  pub floats-off : (f : Refusal) → refusal (number_of f.fault) f.place ≡ lone_header_answer s
      → record { answer = refusal (number_of f.fault) f.place; heights = lent } ≡ floats_answer lent s floats
  unfolding grid
  floats-off f m =
      sym (ap (λ (t : Step Header). grid_outcome lent (after t (λ h. grid_with h floats (length lent)) s)) (lone-refused s (number_of f.fault) f.place m))

  pub floats-on : (h : D.Header) → accepted (header_of h) ≡ lone_header_answer s → body_answer (header_of h) lent floats ≡ floats_answer lent s floats
  unfolding grid
  floats-on h m =
      let g = lone-accepted s (header_of h) m in
      anywhere (header_of h) lent floats s g.0 ∙ sym (ap (λ (t : Step Header). grid_outcome lent (after t (λ h. grid_with h floats (length lent)) s)) g.1)
