-- Laws of writing into a room: nothing, a byte, one run of bytes after another, and the room's length. Assumes nothing.
use mathlib.Core.Path.{◌≡◌, refl, sym, ap, ◌∙◌}
use mathlib.Core.List.{List, [], ◌∷◌, ◌++◌}
use Prim.Native.Nat.{ℕ, suc, ◌+◌, ◌<◌, ◌≤◌}
use native.Mathlib.Omega.{arith}
use native.Mathlib.Nat.{add-zero, add-suc, suc-add}
use native.Mathlib.Numerals.{add-one}
use lib.ListN.{length, set, get_or, take, length-append}
use lib.Seq.{sets, length-sets, set_out, set_comm, take-suc, take_all, append_snoc}
use Rattle.numerals.specs.Writing.{overlay, Wrote}

-- one run of bytes laid after another is both laid at once
pub overlay-append : (room : List ℕ) (at : ℕ) (a b : List ℕ) → overlay (overlay room at a) (at + length a) b ≡ overlay room at (a ++ b)
overlay-append room at [] b = ap (λ (k : ℕ). sets room k b) (add-zero at)
overlay-append room at (x ∷ a) b =
    ap (λ (k : ℕ). sets (sets (set room at x) (suc at) a) k b) (add-suc at (length a) ∙ sym (suc-add at (length a)))
    ∙ overlay-append (set room at x) (suc at) a b

-- a byte that comes after a run may be laid before it
pub overlay-back : (room : List ℕ) (at : ℕ) (a : List ℕ) (x : ℕ) → overlay (set room (at + length a) x) at a ≡ overlay room at (a ++ (x ∷ []))
overlay-back room at [] x = ap (λ (k : ℕ). set room k x) (add-zero at)
overlay-back room at (y ∷ a) x =
    let z : at + suc (length a) ≡ suc at + length a = omega arith in
    ap (λ (r : List ℕ). sets r (suc at) a) (set_comm room (at + suc (length a)) at x y (λ e. omega arith) ∙ ap (λ (k : ℕ). set (set room at y) k x) z)
    ∙ overlay-back (set room at y) (suc at) a x

pub wrote_none : (room : List ℕ) (at : ℕ) → Wrote room at [] at room
wrote_none room at = record { ends = sym (add-zero at); laid = refl }

-- a byte that is stored, and one that the room does not reach
pub wrote-byte : {room after : List ℕ} (at b : ℕ) → after ≡ set room at b → Wrote room at (b ∷ []) (at + 1) after
wrote-byte at b e = record { ends = refl; laid = e }

pub wrote-past : {room after : List ℕ} (at b : ℕ) → length room ≤ at → after ≡ room → Wrote room at (b ∷ []) (at + 1) after
wrote-past {room} at b h e = record { ends = refl; laid = e ∙ sym (set_out room at b h) }

-- a run that a call laid, which answers its length
pub wrote-laid : {room after : List ℕ} {bytes : List ℕ} (at n : ℕ) → after ≡ overlay room at bytes → n ≡ length bytes → Wrote room at bytes (at + n) after
wrote-laid at n l e = record { ends = ap (λ (k : ℕ). at + k) e; laid = l }

module _ {room mid after : List ℕ} {at next end : ℕ} {a b : List ℕ} where
  -- one run after another
  pub wrote_then : Wrote room at a next mid → Wrote mid next b end after → Wrote room at (a ++ b) end after
  wrote_then p q =
      record {
        ends = q.ends ∙ omega (arith, p.ends, length-append a b);
        laid =
            q.laid ∙ ap (λ (r : List ℕ). overlay r next b) p.laid ∙ ap (λ (k : ℕ). overlay (overlay room at a) k b) p.ends
            ∙ overlay-append room at a b;
      }

module _ {room after : List ℕ} {at next : ℕ} {a : List ℕ} where
  -- the same run under another name
  pub wrote_as : {b : List ℕ} → a ≡ b → Wrote room at a next after → Wrote room at b next after
  wrote_as e p = record { ends = p.ends ∙ ap (λ (l : List ℕ). at + length l) e; laid = p.laid ∙ ap (overlay room at) e }

  -- writing keeps the room's length
  pub wrote-long : Wrote room at a next after → length after ≡ length room
  wrote-long p = ap length p.laid ∙ length-sets room at a

-- one byte more of a lent run
module _ (room : List ℕ) (at : ℕ) (bytes : List ℕ) {mid after : List ℕ} {next end : ℕ} (i : ℕ) (h : i < length bytes) where
  pub wrote-more : Wrote room at (take i bytes) next mid → Wrote mid next (get_or bytes i 0 ∷ []) end after → Wrote room at (take (i + 1) bytes) end after
  wrote-more p q = wrote_as (sym (ap (λ (k : ℕ). take k bytes) (add-one i) ∙ take-suc bytes i 0 h)) (wrote_then p q)

-- the whole of it
pub wrote-all : {room after : List ℕ} {at next : ℕ} (bytes : List ℕ) (i : ℕ) → length bytes ≤ i → Wrote room at (take i bytes) next after
    → Wrote room at bytes next after
wrote-all bytes i h p = wrote_as (take_all i bytes h) p

-- a word and the blank after it, before the rest of a line
pub wrote-word : {room mid after : List ℕ} {at next end : ℕ} (w : List ℕ) {rest : List ℕ} → Wrote room at (w ++ (32 ∷ [])) next mid
    → Wrote mid next rest end after → Wrote room at (w ++ (32 ∷ rest)) end after
wrote-word w {rest} p q = wrote_as (append_snoc w 32 rest) (wrote_then p q)

-- ---- what is left to write of a whole: laid from `next` on, it makes the room what it has to be

pub record Left (room : List ℕ) (at : ℕ) (whole : List ℕ) (now : List ℕ) (next : ℕ) (left : List ℕ) : Type 0 where
  pub lays : overlay now next left ≡ overlay room at whole
  pub ends : next + length left ≡ at + length whole
  pub long : length now ≡ length room

module _ (room : List ℕ) (at : ℕ) (whole : List ℕ) where
  pub left-none : Left room at whole room at whole
  left-none = record { lays = refl; ends = refl; long = refl }

  module _ {now : List ℕ} {next : ℕ} where
    pub left-more : {then : List ℕ} {end : ℕ} (a b : List ℕ) → Left room at whole now next (a ++ b) → Wrote now next a end then → Left room at whole then end b
    left-more {end = end} a b l w =
        record {
          lays =
              ap (λ (r : List ℕ). overlay r end b) w.laid ∙ ap (λ (k : ℕ). overlay (overlay now next a) k b) w.ends
              ∙ overlay-append now next a b ∙ l.lays;
          ends = omega (arith, w.ends, l.ends, length-append a b);
          long = wrote-long w ∙ l.long;
        }

    pub left-all : Left room at whole now next [] → Wrote room at whole next now
    left-all l = record { ends = omega (arith, l.ends); laid = l.lays }
