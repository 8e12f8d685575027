-- What each write of a rewrite may leave.
use Rattle.std.proofs.Common.{◌≡◌, inl, inr, ◌∙◌, ◌+◌, ◌-◌, ◌≤◌, ◌<◌, ℕ, List, [], ◌∷◌, length, get_or, Bool, true, false, IsTrue, ◌↔◌, refl, sym, ap, subst, arith}
use Rattle.std.proofs.lemmas.Bool.{false≢true}
use Rattle.disk_model.specs.Disk.{State, InRange, IsDurable, SameOutside}
use Rattle.disk_model.specs.Moments.{Clock, LeavesOnly}
use Rattle.disk_model.proofs.Moments.{joined, weaker}
use Rattle.disk_model.proofs.Written as write
use Rattle.retro_base.specs.declared.limits.TheConstants.{OPEN_GATE}
use Rattle.gate_log.specs.Appending.{LooseOrIn}
use Rattle.gate_log.specs.Calls.{IsPut}
use Rattle.gate_log.specs.Log.{Fills}
use Rattle.gate_log.specs.Region.{IsOpen, generation_at}
use Rattle.retro_base.proofs.Numbers.{number_at-bytes}
use Rattle.gate_log.proofs.Ranges.{outside_alone}
use Rattle.gate_log.proofs.Regions.{lists-same}
use Rattle.area_log.specs.Rewrite.{IsFilled, Rewriting, Rewritten, shut_at, Shutting}

module _ (place size generation : ℕ) (bodies : List (List ℕ)) (old : List ℕ) (fits : place + size ≤ length old) (header : 16 < size) (remembers : Type 0) where
  -- a gate leaves the generation as it is
  generation_same : (before image : List ℕ) → length before ≡ length old → SameOutside (InRange place 1) before image → generation_at place image ≡ generation_at place before
  generation_same before image long same =
      number_at-bytes 8 (place + 8) (place + 8) image before (omega (arith, fits, header, long, same.size)) (omega (arith, fits, header, long)) (λ i lt. same.kept (place + 8 + i) (λ r. absurd (omega (arith, r.1))))

  closing : (image : List ℕ) → Shutting place old image → Rewriting place size generation bodies old image
  closing image shut = record {
    same = record { size = shut.same.size; kept = λ i out. shut.same.kept i (λ r. out (r.0, omega (arith, r.1, header))) };
    whole = λ is. inl (shut.was_open is, generation_same old image refl shut.same);
  }

  -- a run that closes the gate
  pub closed : (start next : Clock) → LeavesOnly remembers start next (Shutting place old) → LeavesOnly remembers start next (Rewriting place size generation bodies old)
  closed start next run = weaker remembers start next _ _ closing run

  module _ (start next last : Clock) (mid : State) (same_mid : SameOutside (InRange place 1) old mid.seen) (shut_mid : IsOpen place mid.seen → ⊥) (durable_mid : IsDurable mid)
      (first : LeavesOnly remembers start next (Shutting place old)) (second : LeavesOnly remembers next last (SameOutside (LooseOrIn mid (place + 1) (size - 1)) mid.seen)) where
    filling : (image : List ℕ) → SameOutside (InRange (place + 1) (size - 1)) mid.seen image → Rewriting place size generation bodies old image
    filling image same = record {
      same = record {
        size = same.size ∙ same_mid.size;
        kept = λ i out. same.kept i (λ r. out (omega (arith, r.0), omega (arith, r.1, header))) ∙ same_mid.kept i (λ r. out (r.0, omega (arith, r.1, header)));
      };
      whole = λ is. absurd (shut_mid (sym (same.kept place (λ r. absurd (omega (arith, r.0)))) ∙ is));
    }

    -- and then fills the region
    pub filled : LeavesOnly remembers start last (Rewriting place size generation bodies old)
    filled = joined remembers start next last _ (closed start next first) (weaker remembers next last _ _ (λ image same. filling image (outside_alone mid (place + 1) (size - 1) mid.seen image durable_mid same)) second)

    module _ (end : Clock) (full : State) (fills : Fills place size generation bodies mid full) (third : LeavesOnly remembers last end (SameOutside (LooseOrIn full place 1) full.seen)) where
      length-full : length full.seen ≡ length old
      length-full = fills.same.size ∙ same_mid.size

      outside : (image : List ℕ) → SameOutside (InRange place 1) full.seen image → SameOutside (InRange place size) old image
      outside image same = record {
        size = same.size ∙ length-full;
        kept = λ i out.
            same.kept i (λ r. out (r.0, omega (arith, r.1, header))) ∙ fills.same.kept i (λ r. out (omega (arith, r.0), omega (arith, r.1, header))) ∙ same_mid.kept i (λ r. out (r.0, omega (arith, r.1, header)));
      }

      is_filled : (image : List ℕ) → SameOutside (InRange place 1) full.seen image → IsFilled place size generation bodies image
      is_filled image same = record {
        lists = lists-same place size bodies full.seen image (omega (arith, fits, length-full)) same.size fills.lists (λ i low high. same.kept i (λ r. absurd (omega (arith, r.1, low))));
        under = generation_same full.seen image length-full same ∙ fills.under;
      }

      opening : (image : List ℕ) → SameOutside (InRange place 1) full.seen image → Rewriting place size generation bodies old image
      opening image same = record { same = outside image same; whole = λ is. inr (is_filled image same) }

      -- and then opens the gate
      pub opened : LeavesOnly remembers start end (Rewriting place size generation bodies old)
      opened = joined remembers start last end _ filled (weaker remembers last end _ _ (λ image same. opening image (outside_alone full place 1 full.seen image fills.durable same)) third)

  -- at the end the region is rewritten
  pub rewritten : (mid full new : State) → SameOutside (InRange place 1) old mid.seen → Fills place size generation bodies mid full → IsPut place (OPEN_GATE ∷ []) full new → (start : State) → start.seen ≡ old → Rewritten place size generation bodies start new
  rewritten mid full new same_mid fills put start is_old =
      let long : length full.seen ≡ length old = fills.same.size ∙ same_mid.size in
      let inside : place + 1 ≤ length full.seen = omega (arith, fits, long, header) in
      let none : place - place ≡ 0 = omega arith in
      let same : SameOutside (InRange place 1) full.seen new.seen = subst (λ (l : List ℕ). SameOutside (InRange place 1) full.seen l) (sym put.written) (write.same_outside place (OPEN_GATE ∷ []) full.seen inside) in
      let whole : SameOutside (InRange place size) old new.seen = record {
        size = same.size ∙ long;
        kept = λ i out.
            same.kept i (λ r. out (r.0, omega (arith, r.1, header))) ∙ fills.same.kept i (λ r. out (omega (arith, r.0), omega (arith, r.1, header))) ∙ same_mid.kept i (λ r. out (r.0, omega (arith, r.1, header)));
      } in
      record {
        same = subst (λ (l : List ℕ). SameOutside (InRange place size) l new.seen) (sym is_old) whole;
        is_open = ap (λ (l : List ℕ). get_or l place 0) put.written ∙ write.inside place (OPEN_GATE ∷ []) full.seen inside place (omega arith) (omega arith) ∙ ap (λ (k : ℕ). get_or (OPEN_GATE ∷ []) k 0) none;
        filled = record {
          lists = lists-same place size bodies full.seen new.seen (omega (arith, fits, long)) same.size fills.lists (λ i low high. same.kept i (λ r. absurd (omega (arith, r.1, low))));
          under = generation_same full.seen new.seen long same ∙ fills.under;
        };
        durable = put.durable;
      }

-- a gate that is closed if it was open
pub shut_same : (place : ℕ) (is_open : Bool) (old new : List ℕ) → place + 1 ≤ length old → new ≡ shut_at is_open place old → SameOutside (InRange place 1) old new
shut_same place true old new fits is = subst (λ (l : List ℕ). SameOutside (InRange place 1) old l) (sym is) (write.same_outside place (0 ∷ []) old fits)
shut_same place false old new fits is = record { size = ap length is; kept = λ i out. ap (λ (l : List ℕ). get_or l i 0) is }

pub shut_closed : (place : ℕ) (is_open : Bool) (old new : List ℕ) → place + 1 ≤ length old → new ≡ shut_at is_open place old → (IsTrue is_open ↔ IsOpen place old) → IsOpen place new → ⊥
shut_closed place true old new fits is gate opens =
    let none : place - place ≡ 0 = omega arith in
    let byte : get_or new place 0 ≡ 0 = ap (λ (l : List ℕ). get_or l place 0) is ∙ write.inside place (0 ∷ []) old fits place (omega arith) (omega arith) ∙ ap (λ (k : ℕ). get_or (0 ∷ []) k 0) none in
    absurd (omega (arith, byte, opens))
shut_closed place false old new fits is gate opens = absurd (false≢true (gate.1 (sym (ap (λ (l : List ℕ). get_or l place 0) is) ∙ opens)))
