-- What a device that was all zero lists while its first half is filled.
use Rattle.std.proofs.Common.{◌≡◌, ◌⊎◌, inl, inr, ◌∙◌, ◌-◌, ◌/◌, ◌≤◌, ◌<◌, ℕ, List, length, get_or, replicate, refl, sym, ap, subst, arith}
use Rattle.std.proofs.lemmas.Bool.{cases_eq, cases_lt}
use Rattle.std.proofs.lemmas.List.{get_or-replicate, get_or_past, length-replicate}
use Rattle.disk_model.specs.Disk.{State, InRange, SameOutside}
use Rattle.retro_base.specs.declared.limits.TheConstants.{OPEN_GATE}
use Rattle.gate_log.specs.Region.{IsOpen, Lists}
use Rattle.area_log.specs.Making.{ListsOrNone}
use Rattle.area_log.specs.Regions.{DeviceLists, NoneCounts}
use Rattle.area_log.specs.Rewrite.{Rewriting, Rewritten}

no_gate : (count place : ℕ) → IsOpen place (replicate count 0) → ⊥
no_gate count place is = elim (cases_lt place count) [
  | inl lt ↦ absurd (omega (arith, is, get_or-replicate {A = ℕ} count place 0 0 lt))
  | inr past ↦ absurd (omega (arith, is, get_or_past {X = ℕ} (replicate count 0) place 0 (omega (arith, past, length-replicate {A = ℕ} count 0))))
]

-- no gate of zeros is open
pub zero_shut : (count : ℕ) (old : List ℕ) → old ≡ replicate count 0 → (place : ℕ) → IsOpen place old → ⊥
zero_shut count old zeros place is = no_gate count place (sym (ap (λ (l : List ℕ). get_or l place 0) zeros) ∙ is)

module _ (size count : ℕ) (bodies : List (List ℕ)) (old image : List ℕ) (zeros : old ≡ replicate count 0) (some : 0 < size) where
  old_shut : (place : ℕ) → IsOpen place old → ⊥
  old_shut = zero_shut count old zeros

  module _ (same : SameOutside (InRange 0 size) old image) where
    second_shut : (place : ℕ) → size ≤ place → IsOpen place image → ⊥
    second_shut place past is = old_shut place (sym (same.kept place (λ r. absurd (omega (arith, r.1, past)))) ∙ is)

    first_lists : IsOpen 0 image → Lists 0 size bodies image → DeviceLists size bodies image
    first_lists is_open lists = record {
      place = 0;
      counts = record { half = inl refl; is_open = is_open; newer = λ is. absurd (second_shut (size - 0) (omega arith) is) };
      lists = lists;
    }

  making_lists : Rewriting 0 size 1 bodies old image → NoneCounts size image 0 ⊎ DeviceLists size bodies image
  making_lists is = elim (cases_eq (get_or image 0 0) OPEN_GATE) [
    | inl opens ↦ elim (is.whole opens) [ inl was ↦ absurd (old_shut 0 was.0) | inr filled ↦ inr (first_lists is.same opens filled.lists) ]
    | inr shut ↦ inl (record {
      at_start = refl;
      none = λ place counts. elim counts.half [
        | inl first ↦ shut (ap (λ (p : ℕ). get_or image p 0) (sym first) ∙ counts.is_open)
        | inr second ↦ second_shut is.same place (omega (arith, second)) counts.is_open
      ];
    })
  ]

  pub making : size ≡ count / 2 → Rewriting 0 size 1 bodies old image → ListsOrNone count bodies image
  making half is = record {
    whole = is.same.size ∙ ap length zeros ∙ length-replicate {A = ℕ} count 0;
    lists = subst (λ (h : ℕ). NoneCounts h image 0 ⊎ DeviceLists h bodies image) half (making_lists is);
  }

-- at the end the device lists the bodies, and its second half is closed
module _ (size count : ℕ) (bodies : List (List ℕ)) (old new : State) (zeros : old.seen ≡ replicate count 0) (some : 0 < size) (is : Rewritten 0 size 1 bodies old new) where
  pub made : DeviceLists size bodies new.seen
  made = first_lists size count bodies old.seen new.seen zeros some is.same is.is_open is.filled.lists

  pub second_closed : IsOpen size new.seen → ⊥
  second_closed opens = second_shut size count bodies old.seen new.seen zeros some is.same size (omega arith) opens
