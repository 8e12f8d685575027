-- A device of two halves is read in one way.
use Rattle.std.proofs.Common.{◌≡◌, ◌∙◌, ◌+◌, ◌-◌, ℕ, List, inl, inr, sym, ap, subst, arith}
use Rattle.std.proofs.lemmas.Bool.Decides.{nat_tests}
use Rattle.retro_base.specs.Framing.{next_generation}
use Rattle.gate_log.specs.Region.{Breaks, generation_at, IsOpen, Lists, region_records}
use Rattle.gate_log.proofs.Unique.{read_one_way}
use Rattle.area_log.specs.Regions.{Counts, DeviceLists, DeviceReadOneWay, RecordBreaks}

-- no two generations are each the next of the other
next_apart : (a b : ℕ) → a ≡ next_generation b → b ≡ next_generation a → ⊥
next_apart a b first second = grind (arith, nat_tests)

-- at most one half counts
pub counts_once : (size one other : ℕ) (bytes : List ℕ) → Counts size one bytes → Counts size other bytes → one ≡ other
counts_once size one other bytes this that =
    elim this.half [
      | inl first ↦ elim that.half [ inl also ↦ first ∙ sym also | inr second ↦ apart one other first second this that ]
      | inr second ↦ elim that.half [ inl first ↦ sym (apart other one first second that this) | inr also ↦ second ∙ sym also ]
    ]
  where
    apart : (one other : ℕ) → one ≡ 0 → other ≡ size → Counts size one bytes → Counts size other bytes → one ≡ other
    apart one other first second this that =
        let from_one : size - one ≡ other = omega arith in
        let from_other : size - other ≡ one = omega arith in
        absurd (next_apart (generation_at one bytes) (generation_at other bytes)
        (this.newer (subst (λ (p : ℕ). IsOpen p bytes) (sym from_one) that.is_open) ∙ ap (λ (p : ℕ). next_generation (generation_at p bytes)) from_one)
        (that.newer (subst (λ (p : ℕ). IsOpen p bytes) (sym from_other) this.is_open) ∙ ap (λ (p : ℕ). next_generation (generation_at p bytes)) from_other))

one_list : (size : ℕ) (bytes : List ℕ) (bodies others : List (List ℕ)) → DeviceLists size bodies bytes → DeviceLists size others bytes → bodies ≡ others
one_list size bytes bodies others this that =
    let same = counts_once size this.place that.place bytes this.counts that.counts in
    read_one_way.one_list (region_records that.place size bytes) bodies others (subst (λ (p : ℕ). Lists p size bodies bytes) same this.lists) that.lists

one_break : (size : ℕ) (bytes : List ℕ) (broken other : ℕ) → RecordBreaks size bytes broken → RecordBreaks size bytes other → broken ≡ other
one_break size bytes broken other this that =
    let same = counts_once size this.place that.place bytes this.counts that.counts in
    let here = subst (λ (p : ℕ). Breaks p size bytes broken) same this.breaks in
    let at = read_one_way.one_place (region_records that.place size bytes) here.at that.breaks.at here.breaks that.breaks.breaks in
    here.is_at ∙ ap (λ (k : ℕ). that.place + 16 + k) at ∙ sym that.breaks.is_at

pub device_one_way : DeviceReadOneWay
device_one_way = record {
  one_list = one_list;
  one_place = λ size bytes broken other this that. elim this [
    | inl none ↦ elim that [ inl also ↦ none.at_start ∙ sym also.at_start | inr breaks ↦ absurd (none.none breaks.place breaks.counts) ]
    | inr breaks ↦ elim that [ inl none ↦ absurd (none.none breaks.place breaks.counts) | inr also ↦ one_break size bytes broken other breaks also ]
  ];
  not_both = λ size bytes bodies broken lists that. elim that [
    | inl none ↦ none.none lists.place lists.counts
    | inr breaks ↦
        let same = counts_once size lists.place breaks.place bytes lists.counts breaks.counts in
        read_one_way.not_both (region_records breaks.place size bytes) bodies breaks.breaks.at (subst (λ (p : ℕ). Lists p size bodies bytes) same lists.lists) breaks.breaks.breaks
  ];
}
