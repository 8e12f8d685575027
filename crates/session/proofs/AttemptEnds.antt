-- Small facts of the ends of attempts: what may be asked, labels, and refusals.
use Rattle.std.proofs.Common.{◌≡◌, ◌≤◌, ℕ, true, List, [], ◌∷◌, length, Some, None, IsTrue, ap, refl}
use Rattle.std.specs.List.{AllByRecursion, list_all}
use Rattle.std.proofs.lemmas.Bool.{le-leb}
use Rattle.retro_base.specs.declared.limits.TheConstants.{LABEL_BYTES}
use Rattle.retro_base.specs.declared.refusal.Refusal.{Refusal}
use Rattle.retro_base.specs.declared.refusal.Refusal.TheVariants as refusal
use Rattle.values.specs.Text.{IsPrintable, IsText as IsTextOf}
use Rattle.history.specs.Label.{is_label, is_printable}
use Rattle.journal_law.specs.Seats.{MayEnd, View}
use Rattle.session.specs.Wording.{refusal_text}
use Rattle.session.specs.Attempts.{ending_of}
use Rattle.session.specs.Transacting.{IsRefused, IsText, overlap_of}
use Rattle.session.specs.declared.attempt.Tried.{Tried}
use Rattle.session.specs.declared.attempt.Tried.TheVariants as tried

pub may_end : (why : Refusal) (view : View) → MayEnd view (ending_of why)
may_end (refusal.Overlap session item) view = tt
may_end why view = tt

pub refused_overlap : (names : List (List ℕ)) (why : Refusal) (other : ℕ × ℕ) → Some other ≡ overlap_of why → IsRefused names why (tried.Overlapped other.0 other.1)
refused_overlap names (refusal.Overlap s i) other is =
    let same : other ≡ (s, i) = cc in
    (ap (λ (p : ℕ × ℕ). p.0) same, ap (λ (p : ℕ × ℕ). p.1) same)
refused_overlap names why other is = cc

pub refused_text : (names : List (List ℕ)) (why : Refusal) (result : Tried) → None ≡ overlap_of why → IsText (refusal_text names why) result → IsRefused names why result
refused_text names (refusal.Overlap s i) result is told = cc
refused_text names why result is told = told

printable : (bytes : List ℕ) → AllByRecursion IsPrintable bytes → list_all is_printable bytes ≡ true
printable [] all = refl
printable (byte ∷ bytes) all = rw (le-leb 32 byte all.0.0, le-leb byte 126 all.0.1) (printable bytes all.1)

pub label_is : (text : List ℕ) → length text ≤ LABEL_BYTES → IsTextOf text → IsTrue (is_label text)
label_is text short is = rw (le-leb (length text) 64 short) (printable text is.1)
