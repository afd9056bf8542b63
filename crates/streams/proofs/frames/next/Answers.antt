-- `streams::frames::next` meets its contract. Assumes nothing.
use mathlib.Core.Path.{◌≡◌, refl, sym, ap, ◌∙◌}
use mathlib.Core.Logic.{◌≢◌}
use mathlib.Core.List.{List, [], ◌∷◌, ◌++◌}
use Prim.Native.Nat.{ℕ, zero, suc, ◌-◌}
use native.Mathlib.Omega.{arith}
use lib.ListN.{length, get_or, take, drop}
use borrow.Author.Tests.{tests}
use Rattle.std.specs.List.{AllWithin, IsSplitAt}
use Rattle.std.specs.Result.{result_ok}
use Rattle.std.specs.Str.Parse.{AllDigits, IsNumeral, digits_value, ParsesUnsigned}
use Rattle.std.proofs.Common.{Some, Result, Ok, Err, rules}
use Rattle.std.proofs.lemmas.List.{take_all, take-append-drop, length-drop}
use Rattle.std.proofs.lemmas.Bool.Decides.{Decides-eqb}
use Rattle.std.proofs.lemmas.Slice.Eq.{strip_prefix_is}
use Rattle.std.proofs.lemmas.Str.Parse.{tells_digits, numerals_by_value, parse_plain}
use Rattle.std.proofs.lemmas.Iterator.{YieldsList-from_slice, IsFirst-from_position}
use Rattle.streams.specs.Frames.{Framed}
use Rattle.streams.proofs.frames.next.Goals as goal

-- the value that `ok` took out
ok-of : {A E : Type 0} (r : Result A E) {x : A} → Some x ≡ result_ok r → r ≡ Ok x
ok-of (Ok y) e = cc
ok-of (Err f) e = absurd (cc)

-- what `parse` read of bytes with no sign in front
numeral-of : {E : Type 0} (bytes : List ℕ) (count : ℕ) {r : Result ℕ E} → ParsesUnsigned 64 10 bytes r → r ≡ Ok count → get_or bytes 0 0 ≢ 43 →
    IsNumeral 10 bytes × (count ≡ digits_value 10 bytes)
numeral-of {E} bytes count {r} h e q =
    let p = parse_plain (numerals_by_value (AllDigits 10) tells_digits) {E = E} 64 bytes (Ok count) (rw e at h) q in
    ((p.0.1, p.0.0), p.1)

-- no plus stands in front where no byte before the end is one
no-plus : (stream : List ℕ) (end : ℕ) → AllWithin (λ b. b ≢ 43) stream 0 end → get_or (take end stream) 0 0 ≢ 43
no-plus stream zero h e = absurd (omega arith)
no-plus [] (suc end) h e = absurd (omega arith)
no-plus (b ∷ stream) (suc end) h e = h 0 0 (omega arith) (omega arith) e

-- the text and what follows it, cut from what follows the line end
framed : (stream rest : List ℕ) (end count : ℕ) → IsNumeral 10 (take end stream) → count ≡ digits_value 10 (take end stream) → drop end stream ≡ 10 ∷ rest →
    (text after : List ℕ) → IsSplitAt rest count text after → Framed stream text after
framed stream rest end count n v e text after s =
    let whole : rest ≡ text ++ after = rw (s.1, s.2) (sym (take-append-drop count rest)) in
    (take end stream, n, s.3 ∙ v, sym (take-append-drop end stream) ∙ ap (λ (l : List ℕ). take end stream ++ l) (e ∙ ap (λ (l : List ℕ). 10 ∷ l) whole))

pub returns : goal.returns
returns c =
    let stream = c.args.stream.now in
    let end = c.in_ok-end.end in
    let first = IsFirst-from_position {B = ℕ} _ _ (Some end) (λ b. b ≡ b) (λ b. b ≢ 43) c.in_ok-end.ensures.ran (YieldsList-from_slice _ c.iter.ensures.rest)
    (λ x q k. refl) (λ x q k. search (rules, tests)) in
    let text = rw (ok-of c.from_utf8.result c.in_ok-digits.ensures.value) at c.from_utf8.ensures.cases in
    let digits : c.in_ok-digits.digits.now ≡ take end stream = text.0 in
    let numeral = numeral-of (take end stream) c.in_ok-count.count (rw digits at c.parse.ensures.value.0) (ok-of c.parse.result c.in_ok-count.ensures.value)
    (no-plus stream end first.2) in
    let prefix = strip_prefix_is Decides-eqb _ (10 ∷ []) (Some c.in_ok-rest.rest) c.in_ok-rest.ensures.cases in
    let behind = take_all (length stream - end) (drop end stream) (omega (arith, length-drop end stream)) in
    let left : drop end stream ≡ 10 ∷ c.in_ok-rest.rest.now = sym behind ∙ prefix in
    let cut = framed stream c.in_ok-rest.rest.now end c.in_ok-count.count numeral.0 numeral.1 left in
    search (rules, cut)
