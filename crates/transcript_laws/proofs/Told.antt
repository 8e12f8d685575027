-- The text of visible lines tells the lines that are shown.
use Rattle.std.proofs.Common.{◌≡◌, ◌++◌, ◌<◌, ◌^◌, ℕ, List, [], ◌∷◌, Some, refl, ap, sym, ◌∙◌, arith, append_assoc}
use Rattle.std.specs.List.{AllByRecursion}
use Rattle.std.specs.Fmt.{decimal}
use Rattle.std.proofs.lemmas.Fmt.{decimal_injective}
use Rattle.retro_base.specs.Refusal.{number_of}
use Rattle.retro_base.specs.declared.refusal.Refusal.{Refusal}
use Rattle.retro_base.specs.declared.refusal.Refusal.TheVariants.{OutOfMemory}
use Rattle.retro_base.specs.declared.who.Who.{Who}
use Rattle.history.specs.declared.journal.Line.{Line}
use Rattle.history.specs.declared.journal.What.{What}
use Rattle.history.specs.declared.journal.What.TheVariants as line
use Rattle.session.specs.Plan.{Plan}
use Rattle.session.specs.Texts.{value_text}
use Rattle.session.specs.Visible.{name_of, shown_line}
use Rattle.session.specs.Wording.{word}
use Rattle.transcript_laws.specs.Apart.{AreTold, HasNames, IsNamed, IsTold}
use Rattle.transcript_laws.specs.Laws.{TextTellsShownLines}
use Rattle.transcript_laws.specs.Shown.{Shown, shown, shown_lines, shown_of}
use Rattle.transcript_laws.proofs.Named.{name_above, name_same}
use Rattle.transcript_laws.proofs.Reading.{decimal_above, fields, line_same}
use Rattle.transcript_laws.proofs.Said.{IsSmall, said_above, said_same}
use Rattle.transcript_laws.proofs.Text.{newest_with, said_text, text_is, text_of}

-- a line that is shown, whose session has a name and whose numbers have 64 bits
record IsApart (plan : Plan) (s : Who × Shown) : Type 0 where
  named : IsNamed plan s.0
  phase : s.0.phase < 2 ^ 64
  item : s.0.item < 2 ^ 64
  small : IsSmall s.1

abbrev line_fields : Plan → ℕ → Who × Shown → List ℕ
line_fields plan newest s = fields (decimal s.0.phase) (name_of plan s.0) (decimal s.0.item) (said_text newest s.1)

-- a line, and the text behind it
printed_line : (plan : Plan) (newest : ℕ) (s : Who × Shown) (more : List ℕ)
    → shown_line plan s.0 (Some (said_text newest s.1)) ++ more ≡ line_fields plan newest s ++ 10 ∷ more
printed_line plan newest s more =
    let phase = decimal s.0.phase in
    let name = word (name_of plan s.0) in
    let item = value_text s.0.item in
    let said = word (said_text newest s.1) in
    append_assoc (((phase ++ name) ++ item) ++ said) (10 ∷ []) more
    ∙ ap (λ (front : List ℕ). front ++ 10 ∷ more)
    (append_assoc (phase ++ name) item said ∙ append_assoc phase name (item ++ said))

no_line : (xs ys : List ℕ) → xs ++ 10 ∷ ys ≡ [] → ⊥
no_line [] ys e = cc
no_line (x ∷ xs) ys e = cc

module _ (plan : Plan) (has : HasNames plan) where
  -- of two lines with text behind them
  record IsSame (newest : ℕ) (s t : Who × Shown) (r u : List ℕ) : Type 0 where
    is : s ≡ t
    behind : r ≡ u

  same_line : (newest : ℕ) (s t : Who × Shown) (r u : List ℕ) → IsApart plan s → IsApart plan t
      → line_fields plan newest s ++ 10 ∷ r ≡ line_fields plan newest t ++ 10 ∷ u → IsSame newest s t r u
  same_line newest s t r u a b e =
      let f = line_same (decimal s.0.phase) (name_of plan s.0) (decimal s.0.item) (said_text newest s.1)
      (decimal t.0.phase) (name_of plan t.0) (decimal t.0.item) (said_text newest t.1) r u
      (decimal_above s.0.phase) (name_above plan s.0 has a.named) (decimal_above s.0.item) (said_above newest s.1)
      (decimal_above t.0.phase) (name_above plan t.0 has b.named) (decimal_above t.0.item) (said_above newest t.1) e in
      let phase = decimal_injective s.0.phase t.0.phase a.phase b.phase f.0 in
      let session = name_same plan s.0 t.0 has a.named b.named phase f.1 in
      let item = decimal_injective s.0.item t.0.item a.item b.item f.2 in
      let said = said_same newest s.1 t.1 a.small b.small f.3 in
      record {
        is = λ i. (record { phase = phase i; session = session i; item = item i }, said i);
        behind = f.4;
      }

  same_lines : (newest : ℕ) (one other : List (Who × Shown)) → AllByRecursion (IsApart plan) one
      → AllByRecursion (IsApart plan) other → text_of plan newest one ≡ text_of plan newest other → one ≡ other
  same_lines newest [] [] a b e = refl
  same_lines newest [] (t ∷ other) a b e =
      let more = text_of plan (newest_with (Some t.1) newest) other in
      absurd (no_line (line_fields plan newest t) more (sym (printed_line plan newest t more) ∙ sym e))
  same_lines newest (s ∷ one) [] a b e =
      let more = text_of plan (newest_with (Some s.1) newest) one in
      absurd (no_line (line_fields plan newest s) more (sym (printed_line plan newest s more) ∙ e))
  same_lines newest (s ∷ one) (t ∷ other) a b e =
      let r = text_of plan (newest_with (Some s.1) newest) one in
      let u = text_of plan (newest_with (Some t.1) newest) other in
      let same = same_line newest s t r u a.0 b.0 (sym (printed_line plan newest s r) ∙ e ∙ printed_line plan newest t u) in
      let rest = same_lines (newest_with (Some s.1) newest) one other a.1 b.1
      (same.behind ∙ ap (λ (x : Who × Shown). text_of plan (newest_with (Some x.1) newest) other) (sym same.is)) in
      λ i. same.is i ∷ rest i

number_small : (why : Refusal) → number_of why < 2 ^ 64
number_small OutOfMemory = omega arith
number_small why = omega arith

told_apart : (plan : Plan) (lines : List Line) → AreTold plan lines → AllByRecursion (IsApart plan) (shown_lines lines)
told_apart plan [] told = tt
told_apart plan (l ∷ lines) told = by_what l.who l.what told.0 (told_apart plan lines told.1)
  where
    by_what : (who : Who) (what : What) → IsTold plan (record { who = who; what = what })
        → AllByRecursion (IsApart plan) (shown_lines lines)
        → AllByRecursion (IsApart plan) (shown_of who (shown what) ++ shown_lines lines)
    by_what who line.Began t more = more
    by_what who (line.Overlapped session item) t more = more
    by_what who (line.Refused why) t more =
        (record { named = t.0; phase = t.1.phase; item = t.1.item; small = number_small why }, more)
    by_what who (line.Done label writes) t more =
        (record { named = t.0; phase = t.1.phase; item = t.1.item; small = tt }, more)
    by_what who (line.Looked snapshot) t more =
        (record { named = t.0; phase = t.1.phase; item = t.1.item; small = t.1.number }, more)
    by_what who (line.Dropped below) t more =
        (record { named = t.0; phase = t.1.phase; item = t.1.item; small = t.1.number }, more)
    by_what who (line.Fault device count call) t more =
        (record { named = t.0; phase = t.1.phase; item = t.1.item; small = t.1.number }, more)
    by_what who what t more = (record { named = t.0; phase = t.1.phase; item = t.1.item; small = tt }, more)

pub tell_lines : TextTellsShownLines
tell_lines plan newest one other has told too same =
    same_lines plan has newest (shown_lines one) (shown_lines other) (told_apart plan one told)
    (told_apart plan other too) (sym (text_is plan newest one) ∙ same ∙ text_is plan newest other)
