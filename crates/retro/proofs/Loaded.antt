-- What is written of a load.
use Rattle.std.proofs.Common.{◌≡◌, ◌∙◌, ◌<◌, ◌≤◌, ◌+◌, ◌-◌, ◌++◌, ℕ, Bool, true, false, List, [], sym, ap, codes, nat_lt, append-nil, append_assoc, arith, if◌then◌else◌}
use Rattle.std.specs.Fmt.{decimal}
use Rattle.std.proofs.lemmas.Fmt.{decimal_digit, decimal_step}
use Rattle.std.proofs.lemmas.Bool.Decides.{nat_tests}
use Rattle.retro_base.specs.declared.limits.TheConstants.{JOURNAL_LINES, WORKER_LINES}
use Rattle.retro_base.specs.declared.refusal.Refusal.TheVariants as refusal
use Rattle.session.specs.Line.{line}
use Rattle.session.specs.Replies.{text_of}
use Rattle.session.specs.Wording.{refusal_text}
use Rattle.session.specs.declared.kept.Kept.TheVariants.{CutShort}

-- ---- an item cut short

cut_by : (lines : ℕ) (full : Bool) → nat_lt (JOURNAL_LINES - WORKER_LINES) (lines + 2) ≡ full → text_of lines CutShort ≡ refusal_text [] (if full then refusal.JournalFull lines 0 else refusal.OutOfMemory)
cut_by lines full is = ap (λ (b : Bool). refusal_text [] (if b then refusal.JournalFull lines 0 else refusal.OutOfMemory)) is

one : decimal 1 ≡ codes "1"
one = decimal_digit 1 (omega arith)

thirteen : decimal 13 ≡ codes "13"
thirteen = decimal_step 13 (omega arith) (omega arith) ∙ ap (λ (d : List ℕ). d ++ codes "3") one

pub cut_full : (lines : ℕ) → 65532 < lines → codes "refused 13 JournalFull\n" ≡ text_of lines CutShort
cut_full lines more = sym (cut_by lines true (grind (arith, nat_tests, more)) ∙ ap (λ (d : List ℕ). line (codes "refused " ++ d ++ codes " " ++ codes "JournalFull" ++ [])) thirteen)

pub cut_wanting : (lines : ℕ) → lines ≤ 65532 → codes "refused 1 OutOfMemory\n" ≡ text_of lines CutShort
cut_wanting lines few = sym (cut_by lines false (grind (arith, nat_tests, few)) ∙ ap (λ (d : List ℕ). line (codes "refused " ++ d ++ codes " " ++ codes "OutOfMemory" ++ [])) one)

-- ---- the summary

-- four texts written one behind the other
pub four : (first a b c d w x y z : List ℕ) → a ≡ first ++ w → b ≡ a ++ x → c ≡ b ++ y → d ≡ c ++ z → d ≡ first ++ (w ++ (x ++ (y ++ (z ++ []))))
four first a b c d w x y z one two three last =
    last ∙ ap (λ (t : List ℕ). t ++ z) (three ∙ ap (λ (t : List ℕ). t ++ y) (two ∙ ap (λ (t : List ℕ). t ++ x) one))
    ∙ append_assoc ((first ++ w) ++ x) y z ∙ append_assoc (first ++ w) x (y ++ z) ∙ append_assoc first w (x ++ (y ++ z))
    ∙ ap (λ (t : List ℕ). first ++ (w ++ (x ++ (y ++ t)))) (sym (append-nil z))
