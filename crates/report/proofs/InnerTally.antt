-- Laws of the tally: from one block to the next, and what it gives of a whole map. Assumes nothing.
use mathlib.Core.Path.{◌≡◌, sym, ap, ◌∙◌}
use mathlib.Core.List.{List, ◌++◌}
use Prim.Native.Nat.{ℕ, ◌+◌, ◌≤◌}
use native.Mathlib.Omega.{arith}
use lib.ListN.{length, drop, get_or, length-append, get_or-append}
use Rattle.std.proofs.lemmas.List.{get_or-drop, length-drop}
use Rattle.text.proofs.Pieces.{drop_past}
use Rattle.factor.specs.Cell.{too_long}
use Rattle.report.specs.InnerCells.{all_to, below, is_no_data, Numbers32, Block, Counted, CountedIn, Leading, Tallied, FewIn}
use Rattle.report.specs.declared.classes.Counts.{Counts}
use Rattle.report.specs.declared.lead.Lead.{Lead}
use Rattle.report.specs.declared.tally.Tally.{Tally}
use Rattle.report.proofs.InnerCells.{count_none, count-few, count-block, all_none, all-block, all-few}
use Rattle.report.proofs.InnerLead.{highest-none}

-- no cells
abbrev pub no_tally : Tally
no_tally = record { zero = 0; under1 = 0; under5 = 0; under10 = 0; known = 0; no_data = 0; sum = 0; lead = record { rank = 0; from = 0 } }

pub tallied-none : (l : List ℕ) → Tallied l 0 no_tally
tallied-none l =
    record {
      zero = sym (count_none (below 1) l);
      under1 = sym (count_none (below 100000) l);
      under5 = sym (count_none (below 500000) l);
      under10 = sym (count_none (below 1000000) l);
      known = sym (count_none (below too_long) l);
      no-data = sym (count_none is_no_data l);
      sum = sym (all_none l);
      lead = record {
        highest = sym (highest-none l);
        low = omega arith;
        inside = omega arith;
        before = (λ x h. absurd (omega arith));
        within = (λ h. absurd (omega arith));
      };
    }

-- the next piece of a list that is cut from a place on
pub block-is : (l rest block left : List ℕ) (from : ℕ) → rest ≡ drop from l → rest ≡ block ++ left → from ≤ length l → Block l from block
block-is l rest block left from p q h =
    record {
      inside = omega (arith, ap length (sym p ∙ q), length-drop from l, length-append block left);
      same = (λ x k. sym (get_or-append block left 0 x k) ∙ ap (λ (r : List ℕ). get_or r x 0) (sym q ∙ p) ∙ get_or-drop from l x 0);
    }

pub left-is : (l rest block left : List ℕ) (from : ℕ) → rest ≡ drop from l → rest ≡ block ++ left → left ≡ drop (from + length block) l
left-is l rest block left from p q = sym (drop_past l from block left (sym p ∙ q))

-- a block more
abbrev pub more_of : Tally → Counts → ℕ → Lead → Tally
more_of t r s lead =
    record {
      zero = t.zero + r.zero;
      under1 = t.under1 + r.under1;
      under5 = t.under5 + r.under5;
      under10 = t.under10 + r.under10;
      known = t.known + r.known;
      no_data = t.no_data + r.no_data;
      sum = t.sum + s;
      lead = lead;
    }

-- no count and no sum is above what that many cells can give
pub tallied-few : {l : List ℕ} {n : ℕ} {t : Tally} → Numbers32 l → Tallied l n t → FewIn t n
tallied-few {l} {n} small t = record {
  zero = omega (arith, t.zero, count-few (below 1) l n);
  under1 = omega (arith, t.under1, count-few (below 100000) l n);
  under5 = omega (arith, t.under5, count-few (below 500000) l n);
  under10 = omega (arith, t.under10, count-few (below 1000000) l n);
  known = omega (arith, t.known, count-few (below too_long) l n);
  no-data = omega (arith, t.no-data, count-few is_no_data l n);
  sum = omega (arith, t.sum, all-few l small n);
}

pub tallied-more : {l : List ℕ} {from to : ℕ} (s : ℕ) {t : Tally} {r : Counts} {lead : Lead} → Tallied l from t → CountedIn l from to r →
    all_to l from + s ≡ all_to l to → Leading l to lead → Tallied l to (more_of t r s lead)
tallied-more {l} s t r added led =
    record {
      zero = omega (arith, t.zero, r.zero);
      under1 = omega (arith, t.under1, r.under1);
      under5 = omega (arith, t.under5, r.under5);
      under10 = omega (arith, t.under10, r.under10);
      known = omega (arith, t.known, r.known);
      no-data = omega (arith, t.no-data, r.no-data);
      sum = omega (arith, t.sum, added);
      lead = led;
    }

-- of a block by itself: what it counts is counted between its ends
pub tallied-block : {l block : List ℕ} {from given s : ℕ} {t : Tally} {r : Counts} {lead : Lead} → Block l from block → Tallied l from t →
    Counted block (length block) given r → s ≡ all_to block (length block) → Leading l (from + length block) lead →
    Tallied l (from + length block) (more_of t r s lead)
tallied-block {l} {block} {from} {given} {s} {t} {r} b so_far next added led =
    tallied-more s {r = r} so_far (record {
      zero = omega (arith, next.zero, count-block (below 1) l b);
      under1 = omega (arith, next.under1, count-block (below 100000) l b);
      under5 = omega (arith, next.under5, count-block (below 500000) l b);
      under10 = omega (arith, next.under10, count-block (below 1000000) l b);
      known = omega (arith, next.known, count-block (below too_long) l b);
      no-data = omega (arith, next.no-data, count-block is_no_data l b);
    }) (omega (arith, added, all-block b)) led
